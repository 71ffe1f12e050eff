-- `writer::copy`. The loop's invariant: the first i octets are written.
use mathlib.Core.List.{map}
use mathlib.Core.Path.{◌≡◌}
use lib.Seq.{paste}
use Rattle.cobs.specs.CodeBlocks.{to_line}
use Rattle.writer.proofs.copy.Given as goal

abbrev pub invariant-loop-i : goal.invariant-loop-i
invariant-loop-i l = l.line ≡ paste l.initial.line l.at (map to_line l.octets) l.i
