-- Octet stuffing (docs/READING.md, "Plain PPP"; document 02, slip 5; RFC 1662, 4.1 and 4.2): what a sender writes for a frame, and what each
-- octet says to a receiver.
use Rattle.std.specs.Prelude.{Bool, ℕ, ltb, eqb, length, Result, Ok, Err}
use mathlib.Core.List.{List, [], ◌∷◌, ◌++◌, flat_map}
use Rattle.std.specs.Prelude.{if◌then◌else◌}
use Rattle.fcs.specs.Notation.{◌⊕◌}
use Rattle.cobs.specs.CodeBlocks.{flag}
use Rattle.plain.specs.Area.{write}
use Rattle.plain.specs.Maps.{escape, removed, marked}
pub use Rattle.plain.specs.declared.Taken.{Taken}
pub use Rattle.plain.specs.declared.Taken.TheVariants.{Removed, Escape, Data}
pub use Rattle.plain.specs.declared.NoRoom.{NoRoom}

-- an escaped octet's other form
unfoldable pub toggled : ℕ → ℕ
toggled x = x ⊕ 0x20

-- ---- the sender

-- what is written for an octet, and for octets one after another
unfoldable pub stuffed_octet : List ℕ → ℕ → List ℕ
stuffed_octet marks x = if marked marks x then escape ∷ toggled x ∷ [] else x ∷ []

unfoldable pub stuffed : List ℕ → List ℕ → List ℕ
stuffed marks = flat_map (stuffed_octet marks)

-- for a frame: its octets, and its flag
unfoldable pub line : List ℕ → List ℕ → List ℕ
line marks f = stuffed marks f ++ (flag ∷ [])

-- how many octets are written, or 2
abbrev pub Sent : Type 0
Sent = Result ℕ NoRoom

abbrev pub no_room : Sent
no_room = Err (record {})

pub record Send : Type 0 where
  pub answer : Sent
  pub area : List ℕ

-- The octets of a frame and its flag, from the area's start; how many they are is answered. Refused exactly where they do not fit.
unfoldable pub send : List ℕ → List ℕ → List ℕ → Send
send marks f area =
    let xs = line marks f in
    if ltb (length area) (length xs) then record { answer = no_room; area = area }
    else record { answer = Ok (length xs); area = write area 0 xs }

-- ---- the receiver

-- What an octet that is no flag says, `escaped` while an escape is open: it is removed, and does not even end the escape; or it ends the escape
-- and is data in its other form (7D too); or it opens one; or it is data.
unfoldable pub taken : ℕ → Bool → ℕ → Taken
taken map escaped x =
    if removed map x then Removed
    else if escaped then Data (toggled x)
    else if eqb x escape then Escape
    else Data x
