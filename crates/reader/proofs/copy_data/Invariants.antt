-- `reader::copy_data`. The loop's invariant: the first i octets are written.
use mathlib.Core.List.{map}
use mathlib.Core.Path.{◌≡◌}
use lib.Seq.{paste}
use Rattle.cobs.specs.CodeBlocks.{from_line}
use Rattle.reader.proofs.copy_data.Given as goal

abbrev pub invariant-loop-i : goal.invariant-loop-i
invariant-loop-i l = l.area ≡ paste l.initial.area l.at (map from_line l.octets) l.i
