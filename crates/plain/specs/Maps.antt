-- The control maps (docs/READING.md, "Plain PPP"; document 02, slip 5; RFC 1662, 4.2 and 7.1). A mark is a bit that is set.
use Rattle.std.specs.Prelude.{Bool, false, not, ◌&&◌, ◌||◌, List, ℕ, zero, suc, ◌+◌, ◌/◌, ◌%◌, ◌^◌, ltb, eqb, get_or, set}
use Rattle.std.specs.Prelude.{if◌then◌else◌}
use Rattle.cobs.specs.CodeBlocks.{flag}

-- the octet that announces an escaped one
abbrev pub escape : ℕ
escape = 0x7D

-- ---- the receiving map: 32 bits, bit i for the octet i

-- An octet that is removed wherever it stands: one below 20 that the map has.
unfoldable pub removed : ℕ → ℕ → Bool
removed map x = ltb x 0x20 && eqb (map / 2 ^ x % 2) 1

-- ---- the sending map: 256 marks in 32 octets, that of the octet x in octet x / 8, at bit x mod 8

-- An octet that is sent escaped.
unfoldable pub marked : List ℕ → ℕ → Bool
marked marks x = eqb (get_or marks (x / 8) 0 / 2 ^ (x % 8) % 2) 1

-- the map with one mark more
unfoldable pub marking : ℕ → List ℕ → List ℕ
marking x marks = if marked marks x then marks else set marks (x / 8) (get_or marks (x / 8) 0 + 2 ^ (x % 8))

-- A sending map always has 7D and 7E: an opening adds them.
unfoldable pub with_framing : List ℕ → List ℕ
with_framing marks = marking flag (marking escape marks)

-- whether a test holds of n, or of one of the k numbers from it on
unfoldable pub some_from : (ℕ → Bool) → ℕ → ℕ → Bool
some_from test n zero = false
some_from test n (suc k) = test n || some_from test (n + 1) k

-- What 19 refuses: that an octet which is removed would be sent as it is,
unfoldable pub lacks : ℕ → List ℕ → Bool
lacks map marks = some_from (λ x. removed map x && not (marked marks x)) 0 0x20

-- or that one would be sent escaped as a flag (5E) or as one that may be removed (20 to 3F).
unfoldable pub marks_wrongly : List ℕ → Bool
marks_wrongly marks = marked marks 0x5E || some_from (marked marks) 0x20 0x20

unfoldable pub refused_pair : ℕ → List ℕ → Bool
refused_pair map marks = lacks map marks || marks_wrongly marks

-- A sending map in bounds: it has 7D and 7E, and marks none wrongly.
unfoldable pub marks_ok : List ℕ → Bool
marks_ok marks = marked marks escape && marked marks flag && not (marks_wrongly marks)
