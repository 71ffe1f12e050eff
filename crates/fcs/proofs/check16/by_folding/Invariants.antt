-- `fcs::check16::by_folding` meets its contract. The loop's invariant: the four words, and then what is left of the octets, take the
-- register where all of them take the first one.
use mathlib.Core.Path.{◌≡◌}
use mathlib.Core.List.{[], ◌∷◌}
use Prim.Native.Nat.{ℕ, ◌-◌, ◌^◌, ◌≤◌, ◌<◌}
use lib.ListN.{length, drop}
use Rattle.fcs.specs.CheckSequence.{check16, feed}
use Rattle.fcs.proofs.Fold.{after}
use Rattle.fcs.proofs.check16.by_folding.Given as goal

-- each is a word
abbrev Words : ℕ → ℕ → ℕ → ℕ → Type 0
Words a b c d = (a < 2 ^ 64) × (b < 2 ^ 64) × (c < 2 ^ 64) × (d < 2 ^ 64)

abbrev pub invariant-loop-i : goal.invariant-loop-i
invariant-loop-i l = (l.i ≤ length l.octets) × Words l.a l.b l.c l.d × (feed check16 (after check16 l.a (l.b ∷ l.c ∷ l.d ∷ [])) (drop l.i l.octets) ≡ feed check16 l.start l.octets)

abbrev pub decreases-loop-i : goal.decreases-loop-i
decreases-loop-i l = length l.octets - l.i
