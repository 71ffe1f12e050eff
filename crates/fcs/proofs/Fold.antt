-- Words, of 64 bits each, at a step, for any check: how a check's own shifts are tested, and how a word is folded into those behind it.
use mathlib.Core.Path.{◌≡◌, refl, sym, ap, ◌∙◌}
use mathlib.Core.Bool.{Bool, true, ◌&&◌}
use mathlib.Core.List.{List, [], ◌∷◌}
use mathlib.Core.Logic.{⊎_elim}
use Prim.Native.Nat.{ℕ, zero, suc, ◌+◌, ◌-◌, ◌*◌, ◌/◌, ◌%◌, ◌^◌, ◌≤◌, ◌<◌}
use native.Mathlib.Nat.{mul-suc, one-mul, add_comm, lt_of_lt_of_le, eq-or-lt_of_le, le_of_suc-le-suc}
use native.Mathlib.Omega.{arith}
use lib.Dec.{T, eqb, eqb→eq}
use lib.ListN.{length}
use lib.Pow.{pow-add, pow_mono, shl-shr, shr-shr}
use Rattle.fcs.specs.Notation.{◌⊕◌}
use Rattle.fcs.specs.CheckSequence.{Check, Sound, width, bit_step, bit_steps}
use Rattle.fcs.proofs.Xor as xor
use Rattle.fcs.proofs.Steps.{linear, shifted, apart, steps-add, steps-comm, moved_up, bits_below}
use Rattle.fcs.proofs.Same.{both}
use Rattle.fcs.proofs.Linear.{Linear, down, up, gather, gather-linear, by_bits}

module _ (k : Check) where
  abbrev S : ℕ → ℕ → ℕ
  S = bit_steps k

  -- the steps of a word end within the register
  pub word_below : Sound k → (t : ℕ) → t < 2 ^ 64 → S 64 t < 2 ^ width k
  word_below sound t h = bits_below k sound 64 t (lt_of_lt_of_le h (pow_mono {i = 64} (omega arith)))

  -- n steps by those of a word: what is moved up in it takes as many, and what is moved out of it comes behind
  pub moved_out : (n a : ℕ) → n ≤ 64 → S 64 (up (64 - n) a) ⊕ down n a ≡ S n a
  moved_out n a h =
      let m = 64 - n in
      let t = a * 2 ^ m in
      let all : m + n ≡ 64 = omega arith in
      let out : t / 2 ^ 64 ≡ down n a = ap (λ (x : ℕ). t / 2 ^ x) (sym all) ∙ sym (shr-shr t m n) ∙ ap (down n) (shl-shr a m) in
      rw (← out, ← apart k 64 (t % 2 ^ 64) (t / 2 ^ 64), xor.parts t 64)
      (ap (λ (x : ℕ). S x t) (sym all ∙ add_comm m n) ∙ moved_up k n m a)

  -- ---- two tests that antt computes

  -- f makes of each bit below n, from the highest on, what the steps make of r, one more for each
  unfoldable pub stepwise : (ℕ → ℕ) → ℕ → ℕ → Bool
  stepwise f zero r = true
  stepwise f (suc n) r = eqb (f (2 ^ n)) (bit_step k r) && stepwise f n (bit_step k r)

  stepwise-at : (f : ℕ → ℕ) (n r : ℕ) → T (stepwise f n r) → (j : ℕ) → j < n → f (2 ^ j) ≡ S (n - j) r
  unfolding stepwise bit_steps
  stepwise-at f zero r t j h = absurd (omega arith)
  stepwise-at f (suc n) r t j h =
      let (here, rest) = both (eqb (f (2 ^ n)) (bit_step k r)) (stepwise f n (bit_step k r)) t in
      let steps : (m : ℕ) → suc n - j ≡ m → S m r ≡ S (suc n - j) r = λ m e. ap (λ (x : ℕ). S x r) (sym e) in
      ⊎_elim (λ e. ap (λ (x : ℕ). f (2 ^ x)) e ∙ eqb→eq (f (2 ^ n)) (bit_step k r) here ∙ steps 1 (omega arith))
      (λ l. stepwise-at f n (bit_step k r) rest j l ∙ steps (suc (n - j)) (omega arith))
      (eq-or-lt_of_le (le_of_suc-le-suc h))

  -- so a linear map that makes of bits what the steps make of 1 takes n steps at once
  pub by-steps : (f : ℕ → ℕ) → Linear f → (n : ℕ) → T (stepwise f n 1) → (t : ℕ) → t < 2 ^ n → f t ≡ S n t
  by-steps f p n w =
      by_bits f (S n) p (linear k n) n (λ j h.
      let all : n - j + j ≡ n = omega arith in
      stepwise-at f n 1 w j h ∙ sym (rw (one-mul, all) at (moved_up k (n - j) j 1)))

  gather-steps : (m x y : ℕ) (ns : List ℕ) → gather (S m y) (λ n. S n (S m x)) ns ≡ S m (gather y (λ n. S n x) ns)
  unfolding gather
  gather-steps m x y [] = refl
  gather-steps m x y (n ∷ ns) = rw (steps-comm k n m x, ← linear k m y (S n x)) (gather-steps m x (y ⊕ S n x) ns)

  -- l steps of a word are n and those of each number of ns, together, if they are so of the highest bit: the steps make every other of it
  pub as-sum : (l n : ℕ) (ns : List ℕ) → S l (2 ^ 63) ≡ gather (S n (2 ^ 63)) (λ m. S m (2 ^ 63)) ns
      → (a : ℕ) → a < 2 ^ 64 → S l a ≡ gather (S n a) (λ m. S m a) ns
  as-sum l n ns highest =
      by_bits (S l) (λ a. gather (S n a) (λ m. S m a) ns) (linear k l) (gather-linear (S n) S (linear k n) (linear k) ns) 64 (λ j h.
      let m = 63 - j in
      let all : j + m ≡ 63 = omega arith in
      let bit : 2 ^ j ≡ S m (2 ^ 63) = sym (ap (λ (x : ℕ). S m (2 ^ x)) (sym all) ∙ ap (S m) (pow-add 2 j m) ∙ shifted k m (2 ^ j)) in
      rw (bit, steps-comm k l m (2 ^ 63), highest, steps-comm k n m (2 ^ 63)) (sym (gather-steps m (2 ^ 63) (S n (2 ^ 63)) ns)))

  -- ---- the fold

  -- where a word, and then each of a list, take the register from 0
  unfoldable pub after : ℕ → List ℕ → ℕ
  after a [] = S 64 a
  after a (b ∷ ws) = after (S 64 a ⊕ b) ws

  -- each word of one list xor that of another
  unfoldable pub each : List ℕ → List ℕ → List ℕ
  each [] vs = []
  each (w ∷ ws) [] = []
  each (w ∷ ws) (v ∷ vs) = (w ⊕ v) ∷ each ws vs

  pub after-each : (a b : ℕ) (ws vs : List ℕ) → length ws ≡ length vs → after (a ⊕ b) (each ws vs) ≡ after a ws ⊕ after b vs
  unfolding after each
  after-each a b [] [] e = linear k 64 a b
  after-each a b [] (v ∷ vs) e = absurd (omega arith)
  after-each a b (w ∷ ws) [] e = absurd (omega arith)
  after-each a b (w ∷ ws) (v ∷ vs) e =
      ap (λ (x : ℕ). after x (each ws vs)) (rw (linear k 64 a b) (xor.regroup (S 64 a) (S 64 b) w v))
      ∙ after-each (S 64 a ⊕ w) (S 64 b ⊕ v) ws vs (omega arith)

  after_first : (a b : ℕ) (ws : List ℕ) → after (a ⊕ b) ws ≡ S (64 * suc (length ws)) a ⊕ after b ws
  unfolding after
  after_first a b [] = linear k 64 a b
  after_first a b (w ∷ ws) =
      let n = suc (length ws) in
      rw (linear k 64 a b, xor.assoc, mul-suc 64 n, steps-add k (64 * n) 64 a) (after_first (S 64 a) (S 64 b ⊕ w) ws)

  -- words that come to as much as the word a before them may be xored in instead of it
  pub folded : (a b f : ℕ) (ws fs : List ℕ) → length ws ≡ length fs → after f fs ≡ S (64 * suc (length ws)) (S 64 a)
      → after (b ⊕ f) (each ws fs) ≡ after a (b ∷ ws)
  unfolding after
  folded a b f ws fs e h = after-each b f ws fs e ∙ rw h (xor.comm (after b ws) _ ∙ sym (after_first (S 64 a) b ws))
