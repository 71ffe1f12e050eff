-- A table's rule, for a check of any width: one test over all places, and what it shows.
use mathlib.Core.Path.{◌≡◌, ap}
use mathlib.Core.List.{List}
use Prim.Native.Nat.{ℕ, ◌/◌, ◌%◌}
use native.Mathlib.Omega.{arith}
use lib.Bits.{bit_xor}
use lib.Dec.{T}
use lib.ListN.{get_or}
use Rattle.fcs.specs.Notation.{◌⊕◌}
use Rattle.fcs.specs.CheckSequence.{Check, IsTable, entry, octet_step}
use Rattle.fcs.proofs.Same.{same, same_at}

pub tested : (k : Check) (t : List ℕ) → T (same 256 (λ i. get_or t i 0) (entry k)) → IsTable k t
tested k t p = record { at = same_at 256 (λ i. get_or t i 0) (entry k) p }

-- the code's step, by such a table, is the octet step
pub by-table : (k : Check) (t : List ℕ) → IsTable k t → (r o : ℕ) → bit_xor (r / 256) (get_or t (bit_xor r o % 256) 0) ≡ octet_step k r o
unfolding octet_step ◌⊕◌
by-table k t table r o = ap (bit_xor (r / 256)) (table.at (bit_xor r o % 256) (omega arith))
