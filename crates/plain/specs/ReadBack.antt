-- What is sent reads back, and what is removed leaves no trace (docs/DEMANDS.md). Each is proved in proofs/ReadBack.antt.
use Rattle.std.specs.Prelude.{Bool, true, false, ◌≡◌, ℕ, replicate, Ok}
use mathlib.Core.List.{List, [], ◌∷◌, ◌++◌, Memᴰ}
use Rattle.std.specs.Prelude.{if◌then◌else◌}
use Rattle.cobs.specs.CodeBlocks.{flag}
use Rattle.plain.specs.Maps.{removed, marking, with_framing, lacks, refused_pair, marks_ok}
use Rattle.plain.specs.Stuffing.{Taken, Removed, Escape, Data, no_room, stuffed, line, send, taken}

-- octets without their stuffing, and whether an escape is open behind them
pub record Unstuffed : Type 0 where
  pub octets : List ℕ
  pub escaped : Bool

abbrev pub data_before : ℕ → Unstuffed → Unstuffed
data_before y u = record { octets = y ∷ u.octets; escaped = u.escaped }

-- what an octet says before others: `behind b` is what those say, b while an escape is open before them
abbrev pub said_before : Bool → Taken → (Bool → Unstuffed) → Unstuffed
said_before escaped Removed behind = behind escaped
said_before escaped Escape behind = behind true
said_before escaped (Data y) behind = data_before y (behind false)

-- what octets that are no flags say, one after another
unfoldable pub unstuffed : ℕ → Bool → List ℕ → Unstuffed
unstuffed map escaped [] = record { octets = []; escaped = escaped }
unstuffed map escaped (x ∷ xs) = said_before escaped (taken map escaped x) (λ b. unstuffed map b xs)

-- and after an octet that said so
abbrev pub after : ℕ → Bool → Taken → List ℕ → Unstuffed
after map escaped t xs = said_before escaped t (λ b. unstuffed map b xs)

-- Octets that are sent by a pair of maps that is not refused read back unaltered, whichever they are, with no escape open behind them. No flag is
-- among what is sent for them.
pub record ReadsBack (map : ℕ) (marks xs : List ℕ) : Type 0 where
  pub same : unstuffed map false (stuffed marks xs) ≡ record { octets = xs; escaped = false }
  pub no_flag : Memᴰ flag (stuffed marks xs) → ⊥

abbrev pub SentReadsBack : Type 0
SentReadsBack = (map : ℕ) (marks xs : List ℕ) → lacks map marks ≡ false → marks_ok marks ≡ true → ReadsBack map marks xs

-- the octets that are not removed
unfoldable pub kept : ℕ → List ℕ → List ℕ
kept map [] = []
kept map (x ∷ xs) = if removed map x then kept map xs else x ∷ kept map xs

-- Octets of the receiving map, wherever they stand, change nothing.
abbrev pub RemovedLeaveNoTrace : Type 0
RemovedLeaveNoTrace = (map : ℕ) (escaped : Bool) (xs : List ℕ) → unstuffed map escaped (kept map xs) ≡ unstuffed map escaped xs

-- ---- computed

-- sending maps: of 7D and 7E alone, of 5D too, and of 00 to 1F too
abbrev pub framing : List ℕ
framing = replicate 15 0x00 ++ (0x60 ∷ replicate 16 0x00)

abbrev pub framing_and_5d : List ℕ
framing_and_5d = replicate 11 0x00 ++ (0x20 ∷ 0x00 ∷ 0x00 ∷ 0x00 ∷ 0x60 ∷ replicate 16 0x00)

abbrev pub framing_and_controls : List ℕ
framing_and_controls = replicate 4 0xFF ++ replicate 11 0x00 ++ (0x60 ∷ replicate 16 0x00)

abbrev pub lcp : List ℕ
lcp = 0xFF ∷ 0x03 ∷ 0xC0 ∷ 0x21 ∷ 0x01 ∷ 0x01 ∷ 0x00 ∷ 0x04 ∷ 0xD1 ∷ 0xB5 ∷ []

-- Frames, maps and areas, each with what the definitions make of it: the bits of the maps, the octets of a line and whether it fits, what is
-- refused with 19, and octets of the receiving map within an escape.
pub record StuffingCases : Type 0 where
  pub framed : with_framing (replicate 32 0x00) ≡ framing
  pub again : with_framing framing_and_controls ≡ framing_and_controls
  pub alone : line framing lcp ≡ lcp ++ (0x7E ∷ [])
  pub controls : line framing_and_controls lcp ≡ 0xFF ∷ 0x7D ∷ 0x23 ∷ 0xC0 ∷ 0x21 ∷ 0x7D ∷ 0x21 ∷ 0x7D ∷ 0x21 ∷ 0x7D ∷ 0x20 ∷ 0x7D ∷ 0x24 ∷ 0xD1 ∷ 0xB5 ∷ 0x7E ∷ []
  pub escapes : line framing_and_5d (0x5D ∷ 0x7D ∷ 0x7E ∷ 0x5E ∷ 0xCF ∷ 0x0C ∷ [])
      ≡ 0x7D ∷ 0x7D ∷ 0x7D ∷ 0x5D ∷ 0x7D ∷ 0x5E ∷ 0x5E ∷ 0xCF ∷ 0x0C ∷ 0x7E ∷ []
  pub fits : send framing (0x41 ∷ 0x42 ∷ 0x7E ∷ []) (replicate 6 0xAA)
      ≡ record { answer = Ok 5; area = 0x41 ∷ 0x42 ∷ 0x7D ∷ 0x5E ∷ 0x7E ∷ 0xAA ∷ [] }
  pub exactly : send framing (0x41 ∷ 0x42 ∷ 0x7E ∷ []) (replicate 5 0xAA)
      ≡ record { answer = Ok 5; area = 0x41 ∷ 0x42 ∷ 0x7D ∷ 0x5E ∷ 0x7E ∷ [] }
  pub fits_not : send framing (0x41 ∷ 0x42 ∷ 0x7E ∷ []) (replicate 4 0xAA) ≡ record { answer = no_room; area = replicate 4 0xAA }
  pub within : unstuffed 0x20000 false (0x7D ∷ 0x11 ∷ 0x5E ∷ 0x11 ∷ 0x41 ∷ 0x1E ∷ 0x36 ∷ 0x7D ∷ 0x11 ∷ [])
      ≡ record { octets = 0x7E ∷ 0x41 ∷ 0x1E ∷ 0x36 ∷ []; escaped = true }
  pub lacking : refused_pair 0x00000001 (replicate 32 0x00) ≡ true
  pub lacking_last : refused_pair 0x80000000 (0xFF ∷ 0xFF ∷ 0xFF ∷ 0x7F ∷ replicate 28 0x00) ≡ true
  pub of_5e : refused_pair 0 (marking 0x5E (replicate 32 0x00)) ≡ true
  pub of20 : refused_pair 0 (marking 0x20 (replicate 32 0x00)) ≡ true
  pub of_3f : refused_pair 0 (marking 0x3F (replicate 32 0x00)) ≡ true
  pub allowed : refused_pair 0xFFFFFFFF (marking 0x40 (marking 0x5D (marking 0xFF framing_and_controls))) ≡ false
