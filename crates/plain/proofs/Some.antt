-- Tests joined by `||`, and a test of numbers one after another.
use mathlib.Core.Path.{◌≡◌, refl}
use mathlib.Core.Bool.{Bool, true, false, not, ◌&&◌, ◌||◌}
use Prim.Native.Nat.{ℕ, zero, suc, ◌+◌, ◌≤◌, ◌<◌}
use native.Mathlib.Omega.{arith}
use borrow.Author.Tests.{eqb-true, eqb-false}
use lib.Dec.{eqb}
use Rattle.cobs.proofs.Tests.{decide, true-false}
use Rattle.std.specs.List.{list_any, range_with_len}
use Rattle.plain.specs.Maps.{some_from}

-- neither of two tests is passed
pub or_left : (a b : Bool) → (a || b) ≡ false → a ≡ false
or_left true b e = e
or_left false b e = refl

pub or_right : (a b : Bool) → (a || b) ≡ false → b ≡ false
or_right true b e = true-false e
or_right false b e = e

-- what passes only with another does not pass without it
pub only-with : (a b : Bool) → (a && not b) ≡ false → b ≡ false → a ≡ false
only-with true true e f = f
only-with true false e f = e
only-with false b e f = refl

-- tests that agree at each of the numbers
pub some_same : (f g : ℕ → Bool) (n k : ℕ) → ((x : ℕ) → n ≤ x → x < n + k → f x ≡ g x) → some_from f n k ≡ some_from g n k
unfolding some_from
some_same f g n zero h = refl
some_same f g n (suc k) h =
    rw (h n (omega arith) (omega arith), some_same f g (n + 1) k (λ x a b. h x (omega arith) (omega arith)))

-- one that none of them passes
pub none_passes : (f : ℕ → Bool) (n k : ℕ) → some_from f n k ≡ false → (x : ℕ) → n ≤ x → x < n + k → f x ≡ false
unfolding some_from
none_passes f n zero e x a b = absurd (omega arith)
none_passes f n (suc k) e x a b =
    decide (eqb x n) (λ t. rw (eqb-true x n t) (or_left (f n) (some_from f (n + 1) k) e))
    (λ t.
    let d = eqb-false x n t in
    none_passes f (n + 1) k (or_right (f n) (some_from f (n + 1) k) e) x (omega arith) (omega arith))

-- the numbers as a list
pub some-of : (f : ℕ → Bool) (n k : ℕ) → list_any f (range_with_len n k) ≡ some_from f n k
unfolding some_from
some-of f n zero = refl
some-of f n (suc k) = rw (some-of f (n + 1) k)
