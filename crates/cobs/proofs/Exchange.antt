-- 7E and 00 exchanged: nothing on the line within a frame is a flag, and turning it back gives the octet.
use mathlib.Core.Path.{◌≡◌, refl, sym}
use Prim.Native.Nat.{ℕ}
use borrow.Author.Tests.{eqb-true, eqb-false, ne_eqb}
use lib.Dec.{eqb}
use Rattle.std.specs.Prelude.{if◌then◌else◌}
use Rattle.cobs.specs.CodeBlocks.{flag, to_line, from_line}
use Rattle.cobs.proofs.Tests.{branch}

pub no_flag : (x : ℕ) → to_line x ≡ flag → ⊥
unfolding to_line
no_flag x = branch (λ y. y ≡ flag → ⊥) (eqb x flag) (λ e q. eqb-false 0 flag refl q) (λ e q. eqb-false x flag e q)

-- what is turned back is never zero, so that zero is never read as a code
pub never-zero : (x : ℕ) → from_line x ≡ 0 → ⊥
unfolding from_line
never-zero x = branch (λ y. y ≡ 0 → ⊥) (eqb x 0) (λ e q. eqb-false flag 0 refl q) (λ e q. eqb-false x 0 e q)

-- an octet that is not zero
module _ (x : ℕ) (some : x ≡ 0 → ⊥) where
  pub from-line : from_line x ≡ x
  unfolding from_line
  from-line = rw (ne_eqb x 0 some)

  pub turned-back : from_line (to_line x) ≡ x
  unfolding to_line from_line
  turned-back = branch (λ y. (if eqb y 0 then flag else y) ≡ x) (eqb x flag) (λ e. sym (eqb-true x flag e)) (λ e. rw (ne_eqb x 0 some))

-- what is turned back to anything but 7E was that octet
pub from-other : (x y : ℕ) → from_line x ≡ y → (y ≡ flag → ⊥) → x ≡ y
unfolding from_line
from-other x y =
    branch (λ z. z ≡ y → (y ≡ flag → ⊥) → x ≡ y) (eqb x 0) (λ _ e other. absurd (other (sym e))) (λ _ e other. e)

-- and so of what is sent as anything but 00
pub to-other : (x y : ℕ) → to_line x ≡ y → (y ≡ 0 → ⊥) → x ≡ y
unfolding to_line
to-other x y =
    branch (λ z. z ≡ y → (y ≡ 0 → ⊥) → x ≡ y) (eqb x flag) (λ _ e other. absurd (other (sym e))) (λ _ e other. e)
