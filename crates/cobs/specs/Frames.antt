-- What is claimed of the blocks of a whole frame, of any blocks, and of the table (document 01, "Code blocks"); proved in proofs/Frame.antt,
-- Blocks.antt and Table.antt.
use Rattle.std.specs.Prelude.{Bool, true, false, ◌≡◌, ℕ, ◌+◌, ◌-◌, ◌/◌, ◌≤◌, length, Err}
use mathlib.Core.List.{List, Memᴰ}
use Rattle.std.proofs.Math.Option.{some, map}
use Rattle.cobs.specs.CodeBlocks.{NotAgreed, NoCode, in_row, meaning, with_phantom, flag, Block, AllAllowed, decoded_octets, line_octets, blocks, uninterrupted, read_blocks}

-- The blocks of the frame f, and what is sent of it.
--   allowed: the table allows the blocks under that setting
--   decodes: they stand for D
--   flagless: no octet of it is a flag
--   back: read from the line they are D again
--   most: it takes no more octets than n + 1 + floor(n / 207), n the octets of the frame
pub record WholeFrame (zxe : Bool) (f : List ℕ) : Type 0 where
  pub allowed : AllAllowed zxe (blocks zxe (with_phantom f))
  pub decodes : decoded_octets (blocks zxe (with_phantom f)) ≡ with_phantom f
  pub flagless : Memᴰ flag (uninterrupted zxe f) → ⊥
  pub back : map decoded_octets (read_blocks zxe (uninterrupted zxe f)) ≡ some (with_phantom f)
  pub most : length (uninterrupted zxe f) ≤ length f + 1 + length f / 207

abbrev pub WholeFrames : Type 0
WholeFrames = (zxe : Bool) (f : List ℕ) → WholeFrame zxe f

-- Two lists of blocks that the table allows, with the same octets on the line, are the same list.
abbrev pub OneReading : Type 0
OneReading = (zxe : Bool) (bs cs : List Block) → AllAllowed zxe bs → AllAllowed zxe cs → line_octets bs ≡ line_octets cs → bs ≡ cs

-- The code table, row by row, with ZXE or without; D3-FE want it, and zero, D1, D2 and FF are no codes.
pub record TheTable : Type 0 where
  pub plain : (zxe : Bool) (c : ℕ) → 0x01 ≤ c → c ≤ 0xCF → meaning zxe c ≡ in_row (c - 1) 1
  pub full : (zxe : Bool) → meaning zxe 0xD0 ≡ in_row 207 0
  pub runs : (c : ℕ) → 0xD3 ≤ c → c ≤ 0xDF → meaning true c ≡ in_row 0 (c - 0xD0)
  pub pairs : (c : ℕ) → 0xE0 ≤ c → c ≤ 0xFE → meaning true c ≡ in_row (c - 0xE0) 2
  pub not_agreed : (c : ℕ) → 0xD3 ≤ c → c ≤ 0xFE → meaning false c ≡ Err NotAgreed
  pub zero : (zxe : Bool) → meaning zxe 0x00 ≡ Err NoCode
  pub reserved : (zxe : Bool) (c : ℕ) → 0xD1 ≤ c → c ≤ 0xD2 → meaning zxe c ≡ Err NoCode
  pub above : (zxe : Bool) (c : ℕ) → 0xFF ≤ c → meaning zxe c ≡ Err NoCode
