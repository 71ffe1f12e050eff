-- The page of the code, as the definitions have it.
use mathlib.Core.List.{List, ◌++◌}
use Rattle.std.specs.Prelude.{ℕ}
use Rattle.lines.specs.declared.Page.{Page as LentPage}
use Rattle.lines.specs.Lines.{Page, hex_octets, text_line}

abbrev pub page_of : LentPage → Page
page_of p = record { area = p.area.now; filled = p.filled }

-- a letter, a number, a list in hexadecimal, and the rest
abbrev pub line_of : ℕ → ℕ → List ℕ → List ℕ → List ℕ
line_of letter n list rest = text_line letter n (hex_octets list ++ rest)
