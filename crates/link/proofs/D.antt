-- D of a lane: F is the start of an area, and the phantom stands behind it.
use mathlib.Core.Path.{◌≡◌, refl, ap, ◌∙◌}
use mathlib.Core.List.{List, [], ◌∷◌}
use Prim.Native.Nat.{ℕ, zero, suc, ◌-◌, ◌≤◌, ◌<◌}
use native.Mathlib.Nat.{sub-zero, zero-sub, suc-sub-suc}
use native.Mathlib.Omega.{arith}
use lib.ListN.{length, take, drop, get_or, get_or-eq_default}
use lib.Seq.{length-take-le, get_or-take, drop-append-le, take-nil}
use Rattle.cobs.specs.CodeBlocks.{with_phantom}

drop-take : (p n : ℕ) (l : List ℕ) → drop p (take n l) ≡ take (n - p) (drop p l)
drop-take zero n l = rw sub-zero
drop-take (suc p) zero l = rw zero-sub
drop-take (suc p) (suc n) [] = rw take-nil
drop-take (suc p) (suc n) (x ∷ l) = rw suc-sub-suc (drop-take p n l)

-- the phantom is what is read behind a list anyway
phantom : (f : List ℕ) (i : ℕ) → get_or (with_phantom f) i 0 ≡ get_or f i 0
phantom [] zero = refl
phantom [] (suc i) = refl
phantom (x ∷ f) zero = refl
phantom (x ∷ f) (suc i) = phantom f i

module _ (n : ℕ) (area : List ℕ) (i : ℕ) where
  pub before : i < n → get_or (with_phantom (take n area)) i 0 ≡ get_or area i 0
  before h = phantom (take n area) i ∙ get_or-take n area i 0 h

  module _ (fits : n ≤ length area) where
    pub behind : n ≤ i → get_or (with_phantom (take n area)) i 0 ≡ 0
    behind h = phantom (take n area) i ∙ get_or-eq_default (take n area) 0 {n = i} (omega (arith, length-take-le n area fits))

    pub rest : i ≤ n → drop i (with_phantom (take n area)) ≡ with_phantom (take (n - i) (drop i area))
    rest h = drop-append-le i (take n area) (0 ∷ []) (omega (arith, length-take-le n area fits)) ∙ ap with_phantom (drop-take i n area)
