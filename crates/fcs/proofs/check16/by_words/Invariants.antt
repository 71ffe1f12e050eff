-- `fcs::check16::by_words` meets its contract. The loop's invariant: the register fits, and what is left of the octets takes it where all
-- of them take the first one.
use mathlib.Core.Path.{◌≡◌}
use Prim.Native.Nat.{◌<◌}
use lib.ListN.{length}
use Rattle.fcs.specs.CheckSequence.{check16, feed}
use Rattle.fcs.proofs.check16.by_words.Given as goal

abbrev pub invariant-loop-word : goal.invariant-loop-word
invariant-loop-word l = (l.r < 65536) × (feed check16 l.r l.rest ≡ feed check16 l.start l.octets)

abbrev pub decreases-loop-word : goal.decreases-loop-word
decreases-loop-word l = length l.rest
