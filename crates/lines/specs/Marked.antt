-- The lines that document 01 prints of its capture, and some numbers, computed in proofs/Marked.antt.
use Rattle.std.specs.Prelude.{◌≡◌, true, false, [], ◌∷◌}
use Rattle.link.specs.Answers.{packet, held, refused}
use Rattle.lines.specs.Lines.{hex_octets, decimal, report_line}

-- The capture's lines are H 3 0, P 9 31 32 33 34 35 36 37 38 39 (twice) and R 13, each with its line feed.
--   line_h, line_p, line_r: these lines
--   line_replaced: H 12 1, where an older fragment was replaced
--   octets: 7E C0, with a space before each
--   zero, most: 0, and the largest number of 16 bits
pub record MarkedLines : Type 0 where
  pub line_h : report_line (held 3 false) [] ≡ 0x48 ∷ 0x20 ∷ 0x33 ∷ 0x20 ∷ 0x30 ∷ 0x0A ∷ []
  pub line_replaced : report_line (held 12 true) [] ≡ 0x48 ∷ 0x20 ∷ 0x31 ∷ 0x32 ∷ 0x20 ∷ 0x31 ∷ 0x0A ∷ []
  pub line_p :
      report_line (packet true 9) (0x31 ∷ 0x32 ∷ 0x33 ∷ 0x34 ∷ 0x35 ∷ 0x36 ∷ 0x37 ∷ 0x38 ∷ 0x39 ∷ [])
      ≡ 0x50 ∷ 0x20 ∷ 0x39 ∷ 0x20 ∷ 0x33 ∷ 0x31 ∷ 0x20 ∷ 0x33 ∷ 0x32 ∷ 0x20 ∷ 0x33 ∷ 0x33 ∷ 0x20 ∷ 0x33 ∷ 0x34 ∷ 0x20 ∷ 0x33 ∷ 0x35 ∷ 0x20 ∷ 0x33 ∷ 0x36 ∷ 0x20 ∷ 0x33 ∷ 0x37 ∷ 0x20 ∷ 0x33 ∷ 0x38 ∷ 0x20 ∷ 0x33 ∷ 0x39 ∷ 0x0A ∷ []
  pub line_r : report_line (refused 13) [] ≡ 0x52 ∷ 0x20 ∷ 0x31 ∷ 0x33 ∷ 0x0A ∷ []
  pub octets : hex_octets (0x7E ∷ 0xC0 ∷ []) ≡ 0x20 ∷ 0x37 ∷ 0x45 ∷ 0x20 ∷ 0x43 ∷ 0x30 ∷ []
  pub zero : decimal 0 ≡ 0x30 ∷ []
  pub most : decimal 65535 ≡ 0x36 ∷ 0x35 ∷ 0x35 ∷ 0x33 ∷ 0x35 ∷ []
