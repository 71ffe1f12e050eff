-- The bit steps of a check of any width: they are linear in ⊕, and keep to the width.
use mathlib.Core.Path.{◌≡◌, refl}
use Prim.Native.Nat.{ℕ, zero, suc, ◌+◌, ◌*◌, ◌/◌, ◌%◌, ◌^◌, ◌≤◌, ◌<◌}
use native.Mathlib.Nat.{zero-mul, one-mul, add-zero, add-suc, add_comm, pow-suc, lt_of_lt_of_le}
use native.Mathlib.Omega.{arith}
use lib.Bits.{shifted_half, shifted_even}
use lib.Dec.{eqb}
use lib.Pow.{pow_pos, pow_mono}
use Rattle.std.specs.Prelude.{if◌then◌else◌}
use Rattle.fcs.specs.Notation.{◌⊕◌}
use Rattle.fcs.specs.CheckSequence.{Check, Sound, width, bit_step, bit_steps}
use Rattle.fcs.proofs.Xor as xor

module _ (k : Check) where
  -- the step without its test: the polynomial as often as the lowest bit says
  pub by_product : (r : ℕ) → bit_step k r ≡ r / 2 ⊕ r % 2 * k.polynomial
  unfolding bit_step
  by_product r =
      xor.by_bit (λ b. (if eqb b 1 then r / 2 ⊕ k.polynomial else r / 2) ≡ r / 2 ⊕ b * k.polynomial)
      (simp (zero-mul, xor.zero_right)) (simp one-mul) r

  -- ---- linear: the steps work on the low bits and on the rest apart

  bit-linear : (a b : ℕ) → bit_step k (a ⊕ b) ≡ bit_step k a ⊕ bit_step k b
  bit-linear a b =
      rw (by_product (a ⊕ b), by_product a, by_product b, xor.high a b 1, xor.low a b 1, xor.times, xor.regroup (a / 2) (b / 2))

  pub linear : (n a b : ℕ) → bit_steps k n (a ⊕ b) ≡ bit_steps k n a ⊕ bit_steps k n b
  unfolding bit_steps
  linear zero a b = refl
  linear (suc n) a b = rw bit-linear (linear n (bit_step k a) (bit_step k b))

  bit_shifted : (n a : ℕ) → bit_step k (a * 2 ^ suc n) ≡ a * 2 ^ n
  bit_shifted n a = rw (by_product, shifted_half, shifted_even, zero-mul, xor.zero_right)

  pub shifted : (n a : ℕ) → bit_steps k n (a * 2 ^ n) ≡ a
  unfolding bit_steps
  shifted zero a = omega arith
  shifted (suc n) a = rw bit_shifted (shifted n a)

  pub apart : (n a b : ℕ) → bit_steps k n (a ⊕ b * 2 ^ n) ≡ bit_steps k n a ⊕ b
  apart n a b = rw (linear, shifted)

  pub steps-add : (m n a : ℕ) → bit_steps k (m + n) a ≡ bit_steps k m (bit_steps k n a)
  unfolding bit_steps
  steps-add m zero a = rw add-zero
  steps-add m (suc n) a = rw add-suc (steps-add m n (bit_step k a))

  pub steps-comm : (m n a : ℕ) → bit_steps k m (bit_steps k n a) ≡ bit_steps k n (bit_steps k m a)
  steps-comm m n a = rw (← steps-add m n a, ← steps-add n m a, add_comm m n)

  -- what is moved up by n bits waits for n steps
  pub moved_up : (m n a : ℕ) → bit_steps k (m + n) (a * 2 ^ n) ≡ bit_steps k m a
  moved_up m n a = rw (steps-add, shifted)

-- ---- n steps take what is at most n bits longer than the register into it

pub bits_below : (k : Check) → Sound k → (n a : ℕ) → a < 2 ^ (width k + n) → bit_steps k n a < 2 ^ width k
unfolding bit_steps
bits_below k sound zero a h = rw add-zero at h
bits_below k sound (suc n) a h =
    let w = width k + n in
    let fits : 2 ^ width k ≤ 2 ^ w = pow_mono (omega arith) in
    let e : 2 ^ (width k + suc n) ≡ 2 ^ w * 2 = rw add-suc (pow-suc 2 w) in
    bits_below k sound n (bit_step k a)
    (rw (by_product k a)
    (xor.below w (omega arith)
    (xor.by_bit (λ b. b * k.polynomial < 2 ^ w) (simp zero-mul (pow_pos w)) (simp one-mul (lt_of_lt_of_le sound.fits fits)) a)))
