-- The text of what is reported (document 01, "Display, tally, capture program"), and the page that it is written into.
use Rattle.std.specs.Prelude.{Bool, ◌≡◌, ℕ, zero, suc, ◌+◌, ◌-◌, ◌*◌, ◌/◌, ◌%◌, ◌≤◌, ◌<◌, leb, ltb, length}
use mathlib.Core.List.{List, [], ◌∷◌, ◌++◌, flat_map}
use Rattle.std.specs.Prelude.{if◌then◌else◌}
use Rattle.link.specs.Answers.{Answer, done, octet, idle, quiet, packet, held, refused}
use Rattle.link.specs.Receiver.{write}

-- ---- the page

-- a lent page: its octets, and how many of them, from its start, are filled
pub record Page : Type 0 where
  pub area : List ℕ
  pub filled : ℕ

-- Text that fits whole is written after what is filled, and everything else in the page stays. Other text leaves the page as it is.
unfoldable pub append : Page → List ℕ → Page
append p text =
    if leb (p.filled + length text) (length p.area)
    then record { area = write p.area p.filled text; filled = p.filled + length text }
    else p

-- ---- numbers and octets, in ASCII

abbrev pub space : ℕ
space = 0x20

abbrev pub line_feed : ℕ
line_feed = 0x0A

-- a digit 0 to 9, or A to F for 10 to 15
abbrev pub digit : ℕ → ℕ
digit n = if ltb n 10 then 0x30 + n else 0x41 + (n - 10)

-- an octet as two hexadecimal capitals
abbrev pub hex : ℕ → List ℕ
hex x = digit (x / 16) ∷ digit (x % 16) ∷ []

-- octets, each with a space before it
unfoldable pub hex_octets : List ℕ → List ℕ
hex_octets xs = flat_map (λ x. space ∷ hex x) xs

-- The decimal digits of n, none of them a leading zero, found in at most so many steps.
unfoldable pub decimal_in : ℕ → ℕ → List ℕ
decimal_in zero n = []
decimal_in (suc steps) n = if ltb n 10 then digit n ∷ [] else decimal_in steps (n / 10) ++ (digit (n % 10) ∷ [])

-- n + 1 steps are enough, as each makes n less: see `DecimalStep`, which speaks of no steps.
unfoldable pub decimal : ℕ → List ℕ
decimal n = decimal_in (suc n) n

-- A number below ten is its digit; any other has the digits of a tenth of it, and the digit of the remainder (proofs/DecimalDigits.antt).
abbrev pub DecimalStep : Type 0
DecimalStep = (n : ℕ) → decimal n ≡ (if ltb n 10 then digit n ∷ [] else decimal (n / 10) ++ (digit (n % 10) ∷ []))

-- ---- lines

-- a letter, a number, and the rest
abbrev pub text_line : ℕ → ℕ → List ℕ → List ℕ
text_line letter n rest = letter ∷ space ∷ decimal n ++ rest

-- P, the packet's length, its octets
abbrev pub packet_line : ℕ → List ℕ → List ℕ
packet_line n shown = text_line 0x50 n (hex_octets shown ++ (line_feed ∷ []))

-- H, the count, 1 if an older fragment was replaced, else 0
abbrev pub held_line : ℕ → Bool → List ℕ
held_line n replaced = text_line 0x48 n (space ∷ (if replaced then 0x31 else 0x30) ∷ line_feed ∷ [])

-- R, the refusal's number
abbrev pub refused_line : ℕ → List ℕ
refused_line n = text_line 0x52 n (line_feed ∷ [])

-- The line for a report; shown: the octets of its packet. Other answers have no line.
unfoldable pub report_line : Answer → List ℕ → List ℕ
report_line (packet in_second n) shown = packet_line n shown
report_line (held n replaced) shown = held_line n replaced
report_line (refused n) shown = refused_line n
report_line quiet shown = []
report_line done shown = []
report_line (octet x) shown = []
report_line idle shown = []

-- the number that a line tells
abbrev pub number : Answer → ℕ
number (packet in_second n) = n
number (held n replaced) = n
number (refused n) = n
number quiet = 0
number done = 0
number (octet x) = 0
number idle = 0

-- A line's most octets, where its number is one of 16 bits (proofs/Lengths.antt).
abbrev pub ReportMost : Type 0
ReportMost = (a : Answer) (shown : List ℕ) → number a < 65536 → length (report_line a shown) ≤ 3 * length shown + 10
