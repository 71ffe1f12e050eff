-- The lines that document 01 prints of its capture, and some numbers, computed.
use mathlib.Core.Path.{refl}
use mathlib.Core.List.{flat_map}
use Rattle.lines.specs.Lines.{hex_octets, decimal_in, decimal, report_line}
use Rattle.lines.specs.Marked.{MarkedLines}

pub marked : MarkedLines
unfolding report_line hex_octets flat_map decimal decimal_in
marked = record { line_h = refl; line_replaced = refl; line_p = refl; line_r = refl; octets = refl; zero = refl; most = refl }
