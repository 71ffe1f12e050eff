-- Maps that are linear in ⊕. Two of them that agree at every bit agree.
use mathlib.Core.Path.{◌≡◌, refl, sym, ap, ap₂, subst, ◌∙◌}
use mathlib.Core.List.{List, [], ◌∷◌}
use Prim.Native.Nat.{ℕ, zero, suc, ◌+◌, ◌*◌, ◌/◌, ◌%◌, ◌^◌, ◌<◌}
use native.Mathlib.Nat.{add-zero, zero-mul, one-mul, mod-lt, pow-suc}
use native.Mathlib.Omega.{arith}
use lib.Arith.{lt-one}
use lib.Bits.{xor_block, xor_self}
use lib.Pow.{pow_pos, shr_lt}
use Rattle.fcs.specs.Notation.{◌⊕◌}
use Rattle.fcs.proofs.Xor as xor

abbrev pub Linear : (ℕ → ℕ) → Type 0
Linear f = (a b : ℕ) → f (a ⊕ b) ≡ f a ⊕ f b

-- ---- what is linear

pub itself-linear : Linear (λ a. a)
itself-linear a b = refl

pub sum-linear : (f g : ℕ → ℕ) → Linear f → Linear g → Linear (λ a. f a ⊕ g a)
sum-linear f g p q a b = rw (p a b, q a b) (xor.regroup (f a) (f b) (g a) (g b))

pub after-linear : (f g : ℕ → ℕ) → Linear f → Linear g → Linear (λ a. g (f a))
after-linear f g p q a b = rw (p a b) (q (f a) (f b))

-- x, and with it what f makes of each number of a list
unfoldable pub gather : ℕ → (ℕ → ℕ) → List ℕ → ℕ
gather x f [] = x
gather x f (n ∷ ns) = gather (x ⊕ f n) f ns

pub gather-linear : (f : ℕ → ℕ) (g : ℕ → ℕ → ℕ) → Linear f → ((n : ℕ) → Linear (g n))
    → (ns : List ℕ) → Linear (λ a. gather (f a) (λ n. g n a) ns)
unfolding gather
gather-linear f g p q [] = p
gather-linear f g p q (n ∷ ns) = gather-linear (λ a. f a ⊕ g n a) g (sum-linear f (g n) p (q n)) q ns

pub gather-below : (k : ℕ) (f : ℕ → ℕ) → ((n : ℕ) → f n < 2 ^ k) → (x : ℕ) → x < 2 ^ k → (ns : List ℕ) → gather x f ns < 2 ^ k
unfolding gather
gather-below k f q x h [] = h
gather-below k f q x h (n ∷ ns) = gather-below k f q (x ⊕ f n) (xor.below k h (q n)) ns

-- a, and with it a moved by each number of a list
abbrev pub moved : (ℕ → ℕ → ℕ) → List ℕ → ℕ → ℕ
moved g ns a = gather a (λ n. g n a) ns

pub moved-linear : (g : ℕ → ℕ → ℕ) → ((n : ℕ) → Linear (g n)) → (ns : List ℕ) → Linear (moved g ns)
moved-linear g q = gather-linear (λ a. a) g itself-linear q

-- the code's `>>`
abbrev pub down : ℕ → ℕ → ℕ
down k a = a / 2 ^ k

pub down-linear : (k : ℕ) → Linear (down k)
down-linear k a b = xor.high a b k

-- and its `<<` of a word
abbrev pub up : ℕ → ℕ → ℕ
up k a = a * 2 ^ k % 2 ^ 64

pub up-linear : (k : ℕ) → Linear (up k)
unfolding ◌⊕◌
up-linear k a b =
    let e = simp add-zero at (xor_block k a b 0 0 (pow_pos k) (pow_pos k)) in
    rw (sym e) (xor.low (a * 2 ^ k) (b * 2 ^ k) 64)

-- ---- two that agree at every bit

pub at_zero : (f : ℕ → ℕ) → Linear f → f 0 ≡ 0
unfolding ◌⊕◌
at_zero f p = p 0 0 ∙ xor_self (f 0)

pub by_bits : (f g : ℕ → ℕ) → Linear f → Linear g → (n : ℕ) → ((j : ℕ) → j < n → f (2 ^ j) ≡ g (2 ^ j)) → (t : ℕ) → t < 2 ^ n → f t ≡ g t
by_bits f g p q zero at t h = rw (lt-one h) (at_zero f p ∙ sym (at_zero g q))
by_bits f g p q (suc n) at t h =
    let pos : 0 < 2 ^ n = pow_pos n in
    let e : 2 ^ suc n ≡ 2 ^ n * 2 = pow-suc 2 n in
    let one_more : suc n ≡ 1 + n = omega arith in
    let small : t / 2 ^ n < 2 = shr_lt 1 n (subst (λ (x : ℕ). t < 2 ^ x) one_more h) in
    let bit : t / 2 ^ n % 2 ≡ t / 2 ^ n = omega arith in
    let top : f (t / 2 ^ n * 2 ^ n) ≡ g (t / 2 ^ n * 2 ^ n) =
    rw bit at (xor.by_bit (λ b. f (b * 2 ^ n) ≡ g (b * 2 ^ n))
    (simp zero-mul (at_zero f p ∙ sym (at_zero g q)))
    (simp one-mul (at n (omega arith))) (t / 2 ^ n)) in
    ap f (sym (xor.parts t n)) ∙ p (t % 2 ^ n) (t / 2 ^ n * 2 ^ n)
    ∙ ap₂ ◌⊕◌ (by_bits f g p q n (λ j l. at j (omega arith)) (t % 2 ^ n) (mod-lt t pos)) top
    ∙ sym (q (t % 2 ^ n) (t / 2 ^ n * 2 ^ n)) ∙ ap g (xor.parts t n)
