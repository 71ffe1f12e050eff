-- `lines::write_octets`. The octets still to be shown lead to what all of them make of the area.
use Rattle.std.proofs.Common.{◌≡◌, ◌*◌, drop}
use lib.Seq.{sets}
use Rattle.lines.specs.Lines.{hex_octets}
use Rattle.lines.proofs.write_octets.Given as goal

abbrev pub invariant-loop-i : goal.invariant-loop-i
invariant-loop-i l = sets l.initial.area 0 (hex_octets l.list) ≡ sets l.area (3 * l.i) (hex_octets (drop l.i l.list))
