-- Code blocks (docs/READING.md and document 01, "Code blocks"; the COBS draft, 3 to 3.3).
use Rattle.std.specs.Prelude.{◌≡◌, Bool, not, ◌&&◌, ℕ, zero, suc, ◌+◌, ◌-◌, leb, eqb, length, take, drop, replicate, Result, Ok, Err}
use mathlib.Core.List.{List, [], ◌∷◌, ◌++◌, map, flat_map, Memᴰ}
use Rattle.std.proofs.Math.Option
use Rattle.std.proofs.Math.Option.{Option, none, some}
use Rattle.fcs.specs.CheckSequence.{Check, fcs}
use Rattle.std.specs.Prelude.{if◌then◌else◌}
pub use Rattle.cobs.specs.declared.Row.{Row}
pub use Rattle.cobs.specs.declared.CodeError.{CodeError}
pub use Rattle.cobs.specs.declared.CodeError.TheVariants.{NotAgreed, NoCode}
pub use Rattle.cobs.specs.declared.Choice.{Choice}

-- What `look_up` and `choose` answer (declared in src/lib.rt), and what document 01 calls the cases and parts:
--   Meaning of a code   Ok { nonzeros, zeros }   a row of the code table: its data octets, and the zeros after
--                       Err NotAgreed            D3-FE without ZXE, which a receiver refuses with 6
--                       Err NoCode               D1, D2 and FF, which a receiver refuses with 7; and zero
--   Choice of a block   code, nonzeros, zeros    its code, its data octets, and the zeros after

-- ---- the frame

-- F: a packet and its FCS
abbrev pub frame : Check → List ℕ → List ℕ
frame k packet = packet ++ fcs k packet

-- D: a frame and one zero, the phantom
abbrev pub with_phantom : List ℕ → List ℕ
with_phantom f = f ++ (0 ∷ [])

-- ---- the code table

-- first-last, as a range of codes is written
unfoldable pub in_range : ℕ → ℕ → ℕ → Bool
in_range first last c = leb first c && leb c last

-- a row of the table, or why a code is in none
abbrev pub Meaning : Type 0
Meaning = Result Row CodeError

-- so many data octets, and so many zeros after them
abbrev pub in_row : ℕ → ℕ → Meaning
in_row n z = Ok (record { nonzeros = n; zeros = z })

-- The code table: how many data octets follow a code, and how many zeros stand after them. Zero, D1, D2 and FF are in no row.
unfoldable pub code_table : ℕ → Meaning
code_table c =
    if in_range 0x01 0xCF c then in_row (c - 1) 1
    else if eqb c 0xD0 then in_row 207 0
    else if in_range 0xD3 0xDF c then in_row 0 (c - 0xD0)
    else if in_range 0xE0 0xFE c then in_row (c - 0xE0) 2
    else Err NoCode

-- the table under a setting: only ZXE allows D3-FE
unfoldable pub meaning : Bool → ℕ → Meaning
meaning zxe c = if in_range 0xD3 0xFE c && not zxe then Err NotAgreed else code_table c

-- ---- the exchange of 7E and 00

abbrev pub flag : ℕ
flag = 0x7E

-- within a frame every 7E, code or data, is sent as 00,
unfoldable pub to_line : ℕ → ℕ
to_line x = if eqb x flag then 0 else x

-- and a 00 is turned back
unfoldable pub from_line : ℕ → ℕ
from_line x = if eqb x 0 then flag else x

-- ---- the sender's choice

-- how many octets at the head of a list pass a test, counted no further than n
unfoldable pub leading : (ℕ → Bool) → ℕ → List ℕ → ℕ
leading test zero l = 0
leading test (suc n) [] = 0
leading test (suc n) (x ∷ l) = if test x then suc (leading test n l) else 0

abbrev pub is_zero : ℕ → Bool
is_zero x = eqb x 0

abbrev pub is_nonzero : ℕ → Bool
is_nonzero x = not (eqb x 0)

abbrev pub leading_zeros : ℕ → List ℕ → ℕ
leading_zeros = leading is_zero

abbrev pub leading_nonzeros : ℕ → List ℕ → ℕ
leading_nonzeros = leading is_nonzero

-- at a rest of D: the code of the next block, and how many data octets and zeros it has
unfoldable pub choice : Bool → List ℕ → Choice
choice zxe rest =
    let run = leading_zeros 15 rest in
    let k = leading_nonzeros 207 rest in
    if zxe && leb 3 run then record { code = 0xD0 + run; nonzeros = 0; zeros = run }
    else if eqb k 207 then record { code = 0xD0; nonzeros = 207; zeros = 0 }
    else if zxe && leb k 30 && eqb (leading_zeros 2 (drop k rest)) 2 then record { code = 0xE0 + k; nonzeros = k; zeros = 2 }
    else record { code = k + 1; nonzeros = k; zeros = 1 }

-- ---- lists of blocks

-- a block: a code octet and its data octets
pub record Block : Type 0 where
  pub code : ℕ
  pub data_octets : List ℕ

abbrev pub zeros_in : Meaning → ℕ
zeros_in (Ok r) = r.zeros
zeros_in (Err _) = 0

-- the zeros after its data octets
abbrev pub zeros_after : Block → ℕ
zeros_after b = zeros_in (code_table b.code)

-- A block that the table allows: its code is agreed, as many data octets follow as it says, and none of them is zero.
pub record Allowed (zxe : Bool) (b : Block) : Type 0 where
  pub row : meaning zxe b.code ≡ in_row (length b.data_octets) (zeros_after b)
  pub nonzero : Memᴰ 0 b.data_octets → ⊥

-- a list of such blocks
abbrev pub AllAllowed : Bool → List Block → Type 0
AllAllowed zxe bs = (b : Block) → Memᴰ b bs → Allowed zxe b

-- what blocks stand for in D: the data octets of each, and its zeros after them
unfoldable pub decoded_octets : List Block → List ℕ
decoded_octets = flat_map (λ b. b.data_octets ++ replicate (zeros_after b) 0)

-- the octets of blocks as they are sent
unfoldable pub line_octets : List Block → List ℕ
line_octets = flat_map (λ b. map to_line (b.code ∷ b.data_octets))

-- ---- the blocks of a whole frame

-- how many octets of a rest of D a choice covers, and the block that it makes of them
abbrev pub covered_by : Choice → ℕ
covered_by c = c.nonzeros + c.zeros

abbrev pub block_at : List ℕ → Choice → Block
block_at rest c = record { code = c.code; data_octets = take c.nonzeros rest }

-- the blocks that a rest of D is cut into, n at most
unfoldable pub blocks_from : Bool → ℕ → List ℕ → List Block
blocks_from zxe zero rest = []
blocks_from zxe (suc n) [] = []
blocks_from zxe (suc n) (x ∷ l) =
    let rest = x ∷ l in
    let c = choice zxe rest in
    block_at rest c ∷ blocks_from zxe n (drop (covered_by c) rest)

-- the blocks of D: each covers an octet of it or more, so there are no more blocks than octets
unfoldable pub blocks : Bool → List ℕ → List Block
blocks zxe d = blocks_from zxe (length d) d

-- what is sent of an uninterrupted frame before its flag
unfoldable pub uninterrupted : Bool → List ℕ → List ℕ
uninterrupted zxe f = line_octets (blocks zxe (with_phantom f))

-- ---- reading blocks back

-- The block that begins with the code c, of the octets l behind it: `behind k` is what is read after k of them.
abbrev pub read_block : ℕ → List ℕ → Meaning → (ℕ → Option (List Block)) → Option (List Block)
read_block c l (Ok r) behind =
    if leb r.nonzeros (length l) then Option.map (λ bs. record { code = c; data_octets = take r.nonzeros l } ∷ bs) (behind r.nonzeros) else none
read_block c l (Err _) behind = none

-- A code, as many data octets as it says, and so on to the end of the octets, which are turned back already; none where there is no such
-- code, or it is not agreed, or a block breaks off. There are fewer than n blocks.
unfoldable pub parse : Bool → ℕ → List ℕ → Option (List Block)
parse zxe zero l = none
parse zxe (suc n) [] = some []
parse zxe (suc n) (c ∷ l) = read_block c l (meaning zxe c) (λ k. parse zxe n (drop k l))

-- the blocks of a frame, read from what was sent of it
unfoldable pub read_blocks : Bool → List ℕ → Option (List Block)
read_blocks zxe line = parse zxe (length line + 1) (map from_line line)
