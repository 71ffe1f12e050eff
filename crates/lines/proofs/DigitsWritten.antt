-- Decimal digits as they are counted and written.
use mathlib.Core.Path.{◌≡◌, sym}
use mathlib.Core.List.{List, [], ◌∷◌, ◌++◌, append_assoc}
use Prim.Native.Nat.{ℕ, zero, suc, ◌+◌, ◌*◌, ◌/◌, ◌%◌, ◌^◌, ◌≤◌, ◌<◌}
use native.Mathlib.Nat.{pow-suc}
use native.Mathlib.Numerals.{add-one}
use native.Mathlib.Omega.{arith}
use borrow.Author.Tests.{ltb-true, ltb-false}
use lib.Dec.{ltb}
use lib.ListN.{length, drop, set, length-set}
use lib.Seq.{drop-cons}
use Rattle.std.specs.Prelude.{Option, Some, None, IfSome, IfNone, unwrap_or}
use Rattle.std.proofs.lemmas.List.{get_or-set_same, drop-set-lt}
use Rattle.cobs.proofs.Tests.{decide}
use Rattle.lines.specs.Lines.{decimal}
use Rattle.lines.proofs.DecimalDigits.{decimal-more, count-one, count-more, count-some}

count-log : (k n : ℕ) → 10 ^ k ≤ n → n < 10 * 10 ^ k → length (decimal n) ≡ k + 1
count-log zero n l h = omega (arith, count-one n h)
count-log (suc k) n l h = let p = pow-suc 10 k in omega (arith, count-more n (omega arith), count-log k (n / 10) (omega arith) (omega arith))

-- one more than the logarithm, which 0 has not
pub count-of : (n : ℕ) (log : Option ℕ) → IfNone log (n ≡ 0) → IfSome log (λ k. 10 ^ k ≤ n) → IfSome log (λ k. n < 10 * 10 ^ k)
    → unwrap_or log 0 + 1 ≡ length (decimal n)
count-of n None z l h = omega (arith, count-one n (omega arith))
count-of n (Some k) z l h = sym (count-log k n l h)

-- which numbers have one digit, and which have more
pub single : (n : ℕ) → length (decimal n) ≡ 1 → n < 10
single n h = decide (ltb n 10) (λ e. ltb-true _ _ e) (λ e. absurd (omega (arith, count-more n (ltb-false _ _ e), count-some (n / 10))))

pub several : (n : ℕ) → 1 < length (decimal n) → 10 ≤ n
several n h = decide (ltb n 10) (λ e. absurd (omega (arith, count-one n (ltb-true _ _ e)))) (λ e. ltb-false _ _ e)

-- the last digit of a number, before the others that are written
pub drop-here : (l : List ℕ) (i x : ℕ) → i < length l → drop i (set l i x) ≡ x ∷ drop (i + 1) l
drop-here l i x h =
    let k : i < length (set l i x) = simp length-set h in
    rw (drop-cons (set l i x) i 0 k, get_or-set_same l i x 0 h, drop-set-lt (suc i) l i x (omega arith), add-one i)

pub more-digits : (n : ℕ) (after : List ℕ) → 10 ≤ n → decimal n ++ after ≡ decimal (n / 10) ++ ((0x30 + n % 10) ∷ after)
more-digits n after h = rw (decimal-more n h) (append_assoc (decimal (n / 10)) ((0x30 + n % 10) ∷ []) after)
