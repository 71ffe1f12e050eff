-- `reader::read_on` meets its contract. The loop's invariant: reading on from where the loop is, with the octets used so far, is reading on
-- from the start.
use mathlib.Core.Path.{◌≡◌}
use Prim.Native.Nat.{◌-◌, ◌≤◌}
use lib.ListN.{length, drop}
use Rattle.reader.specs.Reading.{used_before, read_on}
use Rattle.reader.proofs.read_on.Given as goal

abbrev pub invariant-loop-used : goal.invariant-loop-used
invariant-loop-used l = (l.used ≤ length l.octets)
    × (length l.first ≡ length l.initial.first)
    × (length l.second ≡ length l.initial.second)
    × (read_on (record { state = l.initial.end; first = l.initial.first; second = l.initial.second }) l.octets
    ≡ used_before l.used (read_on (record { state = l.end; first = l.first; second = l.second }) (drop l.used l.octets)))

abbrev pub decreases-loop-used : goal.decreases-loop-used
decreases-loop-used l = length l.octets - l.used
