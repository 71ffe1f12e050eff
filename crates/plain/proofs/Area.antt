-- What stores into an area make of it, as `write` says it.
use mathlib.Core.Path.{◌≡◌, sym, ap, ◌∙◌}
use mathlib.Core.List.{List, [], ◌∷◌, ◌++◌}
use Prim.Native.Nat.{ℕ, suc, ◌+◌, ◌≤◌, ◌<◌}
use native.Mathlib.Nat.{add-zero, add-suc, suc-add}
use native.Mathlib.Omega.{arith}
use lib.ListN.{length, set, length-append}
use lib.Seq.{sets, sets-eq, length-sets}
use Rattle.plain.specs.Area.{write}

sets-append : (xs ys area : List ℕ) (at : ℕ) → sets area at (xs ++ ys) ≡ sets (sets area at xs) (at + length xs) ys
sets-append [] ys area at = rw add-zero
sets-append (x ∷ xs) ys area at = rw (add-suc, ← suc-add) (sets-append xs ys (set area at x) (suc at))

module _ (area : List ℕ) (at : ℕ) (xs : List ℕ) (fits : at + length xs ≤ length area) where
  pub stored : sets area at xs ≡ write area at xs
  stored = sets-eq xs area at fits

  pub length-write : length (write area at xs) ≡ length area
  length-write = rw (← stored) (length-sets area at xs)

-- and more behind that
pub written_on : (area : List ℕ) (at : ℕ) (xs ys : List ℕ) → at + length xs + length ys ≤ length area
    → write (write area at xs) (at + length xs) ys ≡ write area at (xs ++ ys)
written_on area at xs ys h =
    let k : at + length xs ≤ length area = omega arith in
    sym (stored (write area at xs) (at + length xs) ys (rw (length-write area at xs k) h))
    ∙ ap (λ (l : List ℕ). sets l (at + length xs) ys) (sym (stored area at xs k))
    ∙ sym (sets-append xs ys area at)
    ∙ stored area at (xs ++ ys) (omega (arith, length-append xs ys))

pub one_written : (area : List ℕ) (at x : ℕ) → at < length area → set area at x ≡ write area at (x ∷ [])
one_written area at x h = stored area at (x ∷ []) (omega arith)

-- octets from its start, others behind them, and one more
pub all-written : (area xs ys : List ℕ) (z at end : ℕ) → length xs + length ys < length area → at ≡ 0 + length xs → end ≡ at + length ys
    → set (write (write area 0 xs) at ys) end z ≡ write area 0 (xs ++ ys ++ (z ∷ []))
all-written area xs ys z at end h p q =
    let n = length-append xs ys in
    let e : end ≡ 0 + length (xs ++ ys) = omega arith in
    let w = write area 0 (xs ++ ys) in
    let both : write (write area 0 xs) at ys ≡ w = ap (λ (k : ℕ). write (write area 0 xs) k ys) p ∙ written_on area 0 xs ys (omega arith) in
    ap (λ (l : List ℕ). set l end z) both
    ∙ ap (λ (k : ℕ). set w k z) e
    ∙ one_written w (0 + length (xs ++ ys)) z (omega (arith, length-write area 0 (xs ++ ys) (omega arith)))
    ∙ written_on area 0 (xs ++ ys) (z ∷ []) (omega arith)
