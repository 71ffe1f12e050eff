-- Proofs by the value of a test, beside those of `cobs`.
use mathlib.Core.Path.{◌≡◌, refl}
use mathlib.Core.Bool.{Bool, true, false, cond, not, ◌&&◌, ◌||◌}
use mathlib.Core.Logic.{◌⊎◌, ⊎_elim}
use Prim.Native.Nat.{ℕ, ◌≤◌, ◌<◌}
use borrow.Author.Tests.{ltb-false, lt-ltb, le-ltb}
use lib.Dec.{ltb}
pub use Rattle.cobs.proofs.Tests.{true-false, false-true}

-- a choice whose test is known
pub if-so {ℓ} : {A : Type ℓ} (b : Bool) (x y : A) → b ≡ true → cond b x y ≡ x
if-so b x y e = rw e

pub if-not {ℓ} : {A : Type ℓ} (b : Bool) (x y : A) → b ≡ false → cond b x y ≡ y
if-not b x y e = rw e

pub not-not : (b : Bool) → not (not b) ≡ b
not-not true = refl
not-not false = refl

-- tests joined
pub and_intro : (a b : Bool) → a ≡ true → b ≡ true → (a && b) ≡ true
and_intro true b p q = q
and_intro false b p q = p

pub or_left : (a b : Bool) → (a || b) ≡ false → a ≡ false
or_left true b e = e
or_left false b e = refl

pub or_right : (a b : Bool) → (a || b) ≡ false → b ≡ false
or_right true b e = true-false e
or_right false b e = e

pub or_cases : {Q : Type 0} (a b : Bool) → (a || b) ≡ true → (a ≡ true → Q) → (b ≡ true → Q) → Q
or_cases true b e f g = f refl
or_cases false b e f g = g e

-- two numbers, neither of them below its limit
pub not-below : (a m b n : ℕ) → (ltb a m || ltb b n) ≡ false → (m ≤ a) × (n ≤ b)
not-below a m b n e = (ltb-false a m (or_left (ltb a m) (ltb b n) e), ltb-false b n (or_right (ltb a m) (ltb b n) e))

pub one-short : (m a b : ℕ) → (a < m) ⊎ (b < m) → (ltb a m || ltb b m) ≡ true
one-short m a b = ⊎_elim (λ l. rw (lt-ltb a m l)) (λ l. rw (lt-ltb b m l) (or-true (ltb a m)))
  where
    or-true : (c : Bool) → (c || true) ≡ true
    or-true true = refl
    or-true false = refl

pub none-short : (m a b : ℕ) → (m ≤ a) × (m ≤ b) → (ltb a m || ltb b m) ≡ false
none-short m a b l = rw (le-ltb a m l.0, le-ltb b m l.1)

-- six of them
pub ands : (a b c d e f : Bool) → (a && b && c && d && e && f) ≡ true
    → (a ≡ true) × (b ≡ true) × (c ≡ true) × (d ≡ true) × (e ≡ true) × (f ≡ true)
ands true true true true true f q = (refl, refl, refl, refl, refl, q)
ands true true true true false f q = false-true q
ands true true true false e f q = false-true q
ands true true false d e f q = false-true q
ands true false c d e f q = false-true q
ands false b c d e f q = false-true q
