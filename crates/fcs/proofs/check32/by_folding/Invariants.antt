-- `fcs::check32::by_folding` meets its contract. The loop's invariant: the two words, and then what is left of the octets, take the
-- register where all of them take the first one.
use mathlib.Core.Path.{◌≡◌}
use mathlib.Core.List.{[], ◌∷◌}
use Prim.Native.Nat.{◌-◌, ◌^◌, ◌≤◌, ◌<◌}
use lib.ListN.{length, drop}
use Rattle.fcs.specs.CheckSequence.{check32, feed}
use Rattle.fcs.proofs.Fold.{after}
use Rattle.fcs.proofs.check32.by_folding.Given as goal

abbrev pub invariant-loop-i : goal.invariant-loop-i
invariant-loop-i l = (l.i ≤ length l.octets) × (l.a < 2 ^ 64) × (l.b < 2 ^ 64)
    × (feed check32 (after check32 l.a (l.b ∷ [])) (drop l.i l.octets) ≡ feed check32 l.start l.octets)

abbrev pub decreases-loop-i : goal.decreases-loop-i
decreases-loop-i l = length l.octets - l.i
