-- Proofs by the value of a test.
use mathlib.Core.Path.{◌≡◌, refl, sym}
use mathlib.Core.Bool.{Bool, true, false, cond, ◌&&◌}
use Prim.Native.Nat.{ℕ}
use native.Mathlib.Omega.{arith}

-- what holds of both branches, each under its test, holds of the choice
pub branch {ℓ} : {A : Type ℓ} (P : A → Type 0) (b : Bool) {x y : A} → (b ≡ true → P x) → (b ≡ false → P y) → P (cond b x y)
branch P true f g = f refl
branch P false f g = g refl

pub decide : {Q : Type 0} (b : Bool) → (b ≡ true → Q) → (b ≡ false → Q) → Q
decide true f g = f refl
decide false f g = g refl

-- no test is passed and failed
pub true-false : {Q : Type 0} → true ≡ false → Q
true-false e = absurd (let z : ◌≡◌ {A = ℕ} 0 1 = cc in omega arith)

pub false-true : {Q : Type 0} → false ≡ true → Q
false-true e = true-false (sym e)

-- tests joined
pub and_left : (a b : Bool) → (a && b) ≡ true → a ≡ true
and_left true b e = refl
and_left false b e = e

pub and_right : (a b : Bool) → (a && b) ≡ true → b ≡ true
and_right true b e = e
and_right false b e = false-true e
