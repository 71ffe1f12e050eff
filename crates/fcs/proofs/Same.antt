-- One test that antt computes: two functions are the same at every number below a bound. And what it shows.
use mathlib.Core.Path.{◌≡◌}
use mathlib.Core.Bool.{Bool, true, false, ◌&&◌}
use mathlib.Core.Logic.{⊎_elim}
use Prim.Native.Nat.{ℕ, zero, suc, ◌<◌}
use native.Mathlib.Nat.{eq-or-lt_of_le, le_of_suc-le-suc}
use native.Mathlib.Omega.{arith}
use lib.Dec.{T, eqb, eqb→eq}

unfoldable pub same : ℕ → (ℕ → ℕ) → (ℕ → ℕ) → Bool
same zero f g = true
same (suc n) f g = eqb (f n) (g n) && same n f g

pub both : (a b : Bool) → T (a && b) → T a × T b
both true true t = (tt, tt)
both true false t = absurd t
both false b t = absurd t

pub same_at : (n : ℕ) (f g : ℕ → ℕ) → T (same n f g) → (i : ℕ) → i < n → f i ≡ g i
unfolding same
same_at zero f g t i h = absurd (omega arith)
same_at (suc n) f g t i h =
    let (here, rest) = both (eqb (f n) (g n)) (same n f g) t in
    ⊎_elim (λ e. rw e (eqb→eq (f n) (g n) here)) (λ l. same_at n f g rest i l) (eq-or-lt_of_le (le_of_suc-le-suc h))
