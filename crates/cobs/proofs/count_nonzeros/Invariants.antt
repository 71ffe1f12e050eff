-- `cobs::count_nonzeros` meets its contract. The loop's invariant: the octets before k are counted.
use Prim.Native.Nat.{◌-◌, ◌≤◌}
use Rattle.cobs.specs.CodeBlocks.{with_phantom, leading_nonzeros}
use Rattle.cobs.proofs.count_nonzeros.Given as goal

abbrev pub invariant-loop-k : goal.invariant-loop-k
invariant-loop-k l = l.k ≤ leading_nonzeros 207 (with_phantom l.rest)

abbrev pub decreases-loop-k : goal.decreases-loop-k
decreases-loop-k l = 207 - l.k
