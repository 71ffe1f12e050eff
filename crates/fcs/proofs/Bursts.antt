-- Lists of octets that differ within as many neighbouring bits as the register has: never the same register. The steps make 0 of 0 alone.
use mathlib.Core.Path.{◌≡◌, refl, sym, ap, ◌∙◌}
use mathlib.Core.List.{List}
use Prim.Native.Nat.{ℕ, zero, suc, ◌+◌, ◌-◌, ◌*◌, ◌/◌, ◌%◌, ◌^◌, ◌≤◌, ◌<◌}
use native.Mathlib.Nat.{zero-mul, one-mul, pow-suc, lt_of_lt_of_le}
use native.Mathlib.Omega.{arith}
use lib.Dec.{lit<}
use lib.Pow.{pow_mono}
use Rattle.fcs.specs.Notation.{◌⊕◌}
use Rattle.fcs.specs.CheckSequence.{Check, Sound, Burst, BurstsChange, BurstsOneLonger, width, bit_step, bit_steps, entry, octet_step, feed, register, low_first}
use Rattle.fcs.proofs.Xor as xor
use Rattle.fcs.proofs.Steps.{by_product, linear, shifted, steps-comm, bits_below}
use Rattle.fcs.proofs.Linear.{at_zero}
use Rattle.fcs.proofs.Laws.{feed-number}

module _ (k : Check) (sound : Sound k) where
  abbrev S : ℕ → ℕ → ℕ
  S = bit_steps k

  -- a bit step makes 0 of no other register: the polynomial has a bit set that the halved register has not
  bit-only : (r : ℕ) → r < 2 ^ width k → bit_step k r ≡ 0 → r ≡ 0
  bit-only r h e =
      let all : 2 ^ width k ≤ 2 ^ suc (width k - 1) = pow_mono (omega arith) in
      let half : 2 ^ suc (width k - 1) ≡ 2 ^ (width k - 1) * 2 = pow-suc 2 (width k - 1) in
      xor.by_bit (λ b. r % 2 ≡ b → r / 2 ⊕ b * k.polynomial ≡ 0 → r ≡ 0)
      (λ even z. let gone : r / 2 ≡ 0 = rw (zero-mul, xor.zero_right) at z in omega arith)
      (λ odd z.
      let gone : r / 2 ⊕ k.polynomial ≡ 0 = rw one-mul at z in
      let same : r / 2 ≡ k.polynomial = rw (gone, xor.zero_right) at (xor.twice (r / 2) k.polynomial) in
      absurd (omega arith))
      r refl (rw (by_product k r) at e)

  -- nor do any number of them
  bits-only : (n r : ℕ) → r < 2 ^ width k → S n r ≡ 0 → r ≡ 0
  unfolding bit_steps
  bits-only zero r h e = e
  bits-only (suc n) r h e =
      let fits : r < 2 ^ (width k + 1) = lt_of_lt_of_le h (pow_mono {i = width k} (omega arith)) in
      bit-only r h (bits-only n (bit_step k r) (bits_below k sound 1 r fits) e)

  -- the same of bits that are moved up: the steps that they wait for may as well come last
  moved-only : (n m r : ℕ) → r < 2 ^ width k → S n (r * 2 ^ m) ≡ 0 → r ≡ 0
  moved-only n m r h e =
      bits-only n r h (ap (S n) (sym (shifted k m r)) ∙ steps-comm k n m (r * 2 ^ m) ∙ ap (S m) e ∙ at_zero (S m) (linear k m))

  -- a number that changes nothing, xored in, comes to 0
  unchanged : (n a b : ℕ) → S n a ≡ S n (a ⊕ b) → S n b ≡ 0
  unchanged n a b e =
      let x = S n a in
      let same : x ⊕ S n b ≡ x ⊕ 0 = sym (linear k n a b) ∙ sym e ∙ sym (xor.zero_right x) in
      sym (xor.twice x (S n b)) ∙ ap (λ (y : ℕ). x ⊕ y) same ∙ xor.twice x 0

  -- fed to any register, the two lists leave it at two numbers, or their bits were none
  fed-apart : (r : ℕ) (s t : List ℕ) → Burst (width k) s t → feed k r s ≡ feed k r t → ⊥
  fed-apart r s t b e =
      let n = b.octets in
      let v = b.value in
      let d = b.bits * 2 ^ b.place in
      let one : feed k r s ≡ S (8 * n) (r ⊕ v) = ap (feed k r) b.one ∙ feed-number k n r v b.fits in
      let other : feed k r t ≡ S (8 * n) (r ⊕ v ⊕ d) =
      ap (feed k r) b.other ∙ feed-number k n r (v ⊕ d) (xor.below (8 * n) b.fits b.within)
      ∙ ap (S (8 * n)) (sym (xor.assoc r v d)) in
      let none : b.bits ≡ 0 = moved-only (8 * n) b.place b.bits b.few (unchanged (8 * n) (r ⊕ v) d (sym one ∙ e ∙ other)) in
      absurd (omega arith)

  -- and so from the register's start
  pub bursts-change : BurstsChange k
  unfolding register
  bursts-change = fed-apart _

-- the two cases of one bit more
pub bursts-one-longer : BurstsOneLonger
unfolding ◌⊕◌ bit_step bit_steps entry octet_step feed register low_first
bursts-one-longer = record {
  differ = record {
    octets = 3;
    value = 0;
    place = 0;
    bits = 0x10811;
    one = refl;
    other = refl;
    fits = lit< tt;
    within = lit< tt;
    some = lit< tt;
    few = lit< tt;
  };
  same = refl;
  differ32 = record {
    octets = 5;
    value = 0;
    place = 0;
    bits = 0x1DB710641;
    one = refl;
    other = refl;
    fits = lit< tt;
    within = lit< tt;
    some = lit< tt;
    few = lit< tt;
  };
  same32 = refl;
}
