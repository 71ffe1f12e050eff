-- The count of leading octets that pass a test: what it counts, and where it stops.
use mathlib.Core.Path.{◌≡◌, ap}
use mathlib.Core.Bool.{Bool, true, false, not}
use mathlib.Core.List.{List, [], ◌∷◌}
use Prim.Native.Nat.{ℕ, zero, suc, ◌-◌, ◌≤◌, ◌<◌}
use native.Mathlib.Omega.{arith}
use borrow.Author.Tests.{eqb-true, eqb-false, eq-eqb, ne_eqb, ltb-true, ltb-false, not-true, not-false}
use lib.Dec.{ltb}
use lib.ListN.{length, get_or}
use Rattle.cobs.specs.CodeBlocks.{leading, leading_zeros, leading_nonzeros, is_zero, is_nonzero}
use Rattle.cobs.proofs.Tests.{branch, decide}

module _ (test : ℕ → Bool) where
  pub at_most : (n : ℕ) (l : List ℕ) → leading test n l ≤ n
  unfolding leading
  at_most zero l = omega arith
  at_most (suc n) [] = omega arith
  at_most (suc n) (x ∷ l) = branch (λ k. k ≤ suc n) (test x) (λ e. omega (arith, at_most n l)) (λ e. omega arith)

  pub within : (n : ℕ) (l : List ℕ) → leading test n l ≤ length l
  unfolding leading
  within zero l = omega arith
  within (suc n) [] = omega arith
  within (suc n) (x ∷ l) = branch (λ k. k ≤ suc (length l)) (test x) (λ e. omega (arith, within n l)) (λ e. omega arith)

  -- each octet that is counted passes
  pub passes : (n : ℕ) (l : List ℕ) (i : ℕ) → i < leading test n l → test (get_or l i 0) ≡ true
  unfolding leading
  passes zero l i = λ h. absurd (omega arith)
  passes (suc n) [] i = λ h. absurd (omega arith)
  passes (suc n) (x ∷ l) zero = branch (λ k. 0 < k → test x ≡ true) (test x) (λ e h. e) (λ e h. absurd (omega arith))
  passes (suc n) (x ∷ l) (suc i) =
      branch (λ k. suc i < k → test (get_or l i 0) ≡ true) (test x) (λ e h. passes n l i (omega arith)) (λ e h. absurd (omega arith))

  -- the one behind them does not
  pub stops : (n : ℕ) (l : List ℕ) → leading test n l < n → leading test n l < length l → test (get_or l (leading test n l) 0) ≡ false
  unfolding leading
  stops zero l = λ h k. absurd (omega arith)
  stops (suc n) [] = λ h k. absurd (omega arith)
  stops (suc n) (x ∷ l) =
      branch (λ k. k < suc n → k < suc (length l) → test (get_or (x ∷ l) k 0) ≡ false) (test x)
      (λ e h k. stops n l (omega arith) (omega arith)) (λ e h k. e)

  -- octets at the head that pass are counted, up to the limit
  pub counted : (n m : ℕ) (l : List ℕ) → m ≤ n → m ≤ length l → ((i : ℕ) → i < m → test (get_or l i 0) ≡ true) → m ≤ leading test n l
  unfolding leading
  counted n zero l h k t = omega arith
  counted zero (suc m) l h k t = absurd (omega arith)
  counted (suc n) (suc m) [] h k t = absurd (omega arith)
  counted (suc n) (suc m) (x ∷ l) h k t =
      let rest : m ≤ leading test n l = counted n m l (omega arith) (omega arith) (λ i j. t (suc i) (omega arith)) in
      rw (t 0 (omega arith)) (omega (arith, rest))

-- ---- the two counts

pub zeros-at : (n : ℕ) (l : List ℕ) (i : ℕ) → i < leading_zeros n l → get_or l i 0 ≡ 0
zeros-at n l i h = eqb-true (get_or l i 0) 0 (passes is_zero n l i h)

pub nonzeros-at : (n : ℕ) (l : List ℕ) (i : ℕ) → i < leading_nonzeros n l → get_or l i 0 ≡ 0 → ⊥
nonzeros-at n l i h = eqb-false (get_or l i 0) 0 (not-true _ (passes is_nonzero n l i h))

pub zeros-counted : (n m : ℕ) (l : List ℕ) → m ≤ n → m ≤ length l → ((i : ℕ) → i < m → get_or l i 0 ≡ 0) → m ≤ leading_zeros n l
zeros-counted n m l h k t = counted is_zero n m l h k (λ i j. eq-eqb (get_or l i 0) 0 (t i j))

pub nonzeros-counted : (n m : ℕ) (l : List ℕ) → m ≤ n → m ≤ length l → ((i : ℕ) → i < m → get_or l i 0 ≡ 0 → ⊥) → m ≤ leading_nonzeros n l
nonzeros-counted n m l h k t = counted is_nonzero n m l h k (λ i j. ap not (ne_eqb (get_or l i 0) 0 (t i j)))

pub nonzeros-end : (n : ℕ) (l : List ℕ) → leading_nonzeros n l < n → leading_nonzeros n l < length l → get_or l (leading_nonzeros n l) 0 ≡ 0
nonzeros-end n l h k = eqb-true (get_or l (leading_nonzeros n l) 0) 0 (not-false _ (stops is_nonzero n l h k))

-- a list whose last octet is zero, as D and its rests are; or empty
abbrev pub EndsInZero : List ℕ → Type 0
EndsInZero l = get_or l (length l - 1) 0 ≡ 0

-- the octets before the first zero are not all
pub nonzeros-inside : (n : ℕ) (l : List ℕ) → 0 < length l → EndsInZero l → leading_nonzeros n l < length l
nonzeros-inside n l h e =
    decide (ltb (leading_nonzeros n l) (length l)) (ltb-true (leading_nonzeros n l) (length l))
    (λ t.
    let all : length l ≤ leading_nonzeros n l = ltb-false (leading_nonzeros n l) (length l) t in
    absurd (nonzeros-at n l (length l - 1) (omega arith) e))
