-- `link::copy`. The loop's invariant: the first i octets are written.
use mathlib.Core.Path.{◌≡◌}
use lib.Seq.{paste}
use Rattle.link.proofs.copy.Given as goal

abbrev pub invariant-loop-i : goal.invariant-loop-i
invariant-loop-i l = l.area ≡ paste l.initial.area l.at l.octets l.i
