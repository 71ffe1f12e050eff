-- The decimal digits of a number.
use mathlib.Core.Path.{◌≡◌, refl, ◌∙◌}
use mathlib.Core.List.{[], ◌∷◌, ◌++◌}
use Prim.Native.Nat.{ℕ, zero, suc, ◌+◌, ◌/◌, ◌%◌, ◌^◌, ◌≤◌, ◌<◌}
use native.Mathlib.Nat.{pow-suc}
use native.Mathlib.Omega.{arith}
use borrow.Author.Tests.{lt-ltb, le-ltb, ltb-true, ltb-false}
use lib.Dec.{ltb}
use lib.ListN.{length, length-append}
use Rattle.cobs.proofs.Tests.{decide}
use Rattle.lines.specs.Lines.{decimal_in, decimal, DecimalStep}

-- steps that are enough give the same digits
enough : (s t n : ℕ) → n < s → n < t → decimal_in s n ≡ decimal_in t n
unfolding decimal_in
enough zero t n h k = absurd (omega arith)
enough (suc s) zero n h k = absurd (omega arith)
enough (suc s) (suc t) n h k =
    decide (ltb n 10) (λ e. rw e) (λ e.
    let ten : 10 ≤ n = ltb-false _ _ e in rw (e, enough s t (n / 10) (omega arith) (omega arith)))

pub decimal_step : DecimalStep
unfolding decimal decimal_in
decimal_step n =
    decide (ltb n 10) (λ e. rw e refl) (λ e.
    let ten : 10 ≤ n = ltb-false _ _ e in rw (e, enough n (suc (n / 10)) (n / 10) (omega arith) (omega arith)))

pub decimal-one : (n : ℕ) → n < 10 → decimal n ≡ (0x30 + n) ∷ []
decimal-one n h = decimal_step n ∙ rw (lt-ltb _ _ h)

pub decimal-more : (n : ℕ) → 10 ≤ n → decimal n ≡ decimal (n / 10) ++ ((0x30 + n % 10) ∷ [])
decimal-more n h =
    let k : n % 10 < 10 = omega arith in decimal_step n ∙ rw (le-ltb _ _ h, lt-ltb _ _ k)

-- how many there are
pub count-one : (n : ℕ) → n < 10 → length (decimal n) ≡ 1
count-one n h = rw (decimal-one n h)

pub count-more : (n : ℕ) → 10 ≤ n → length (decimal n) ≡ length (decimal (n / 10)) + 1
count-more n h = rw (decimal-more n h) (length-append (decimal (n / 10)) ((0x30 + n % 10) ∷ []))

pub count-some : (n : ℕ) → 1 ≤ length (decimal n)
count-some n =
    decide (ltb n 10)
    (λ e. omega (arith, count-one n (ltb-true _ _ e)))
    (λ e. omega (arith, count-more n (ltb-false _ _ e)))

pub count_most : (k n : ℕ) → n < 10 ^ suc k → length (decimal n) ≤ suc k
count_most zero n h = omega (arith, count-one n h)
count_most (suc k) n h =
    decide (ltb n 10)
    (λ e. omega (arith, count-one n (ltb-true _ _ e)))
    (λ e.
    let p = pow-suc 10 (suc k) in
    omega (arith, count-more n (ltb-false _ _ e), count_most k (n / 10) (omega arith)))
