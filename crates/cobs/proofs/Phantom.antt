-- D of a frame, octet by octet, and the two counts at its head.
use mathlib.Core.Path.{◌≡◌, ap, sym, ◌∙◌}
use mathlib.Core.List.{List, [], ◌∷◌}
use Prim.Native.Nat.{ℕ, zero, suc, ◌+◌, ◌-◌, ◌≤◌, ◌<◌, min}
use native.Mathlib.Omega.{arith}
use Rattle.std.specs.List.{position, position_from}
use Rattle.std.specs.Option.{unwrap_or}
use Rattle.std.proofs.lemmas.Iterator.Adapters.{position_from-zero}
use borrow.Author.Tests.{ltb-true, ltb-false}
use lib.Dec.{ltb}
use lib.ListN.{length, take, drop, get_or, length-append, length-drop, get_or-append, get_or-eq_default}
use lib.Seq.{take_all, drop-append-le, get_or-append_seam, get_or-drop}
use Rattle.cobs.specs.CodeBlocks.{with_phantom, leading, leading_zeros, leading_nonzeros, is_zero, is_nonzero}
use Rattle.cobs.proofs.Tests.{decide}
use Rattle.cobs.proofs.Leading.{EndsInZero, at_most, within, nonzeros-at, nonzeros-end, nonzeros-inside}

-- a rest of a list that ends in zero does so too
pub ends-drop : (l : List ℕ) → EndsInZero l → (n : ℕ) → EndsInZero (drop n l)
ends-drop l e n =
    get_or-drop n l (length (drop n l) - 1) 0
    ∙ decide (ltb n (length l)) (λ t. let h : n < length l = ltb-true n (length l) t in ap (λ (i : ℕ). get_or l i 0) (omega (arith, length-drop n l)) ∙ e)
    (λ t. get_or-eq_default l 0 {n = n + (length (drop n l) - 1)} (omega (arith, ltb-false n (length l) t)))

module _ (f : List ℕ) where
  pub long : length (with_phantom f) ≡ length f + 1
  long = length-append f (0 ∷ [])

  pub before : (i : ℕ) → i < length f → get_or (with_phantom f) i 0 ≡ get_or f i 0
  before = get_or-append f (0 ∷ []) 0

  pub behind : (i : ℕ) → i ≡ length f → get_or (with_phantom f) i 0 ≡ 0
  behind i e = rw e (get_or-append_seam f 0 [] 0)

  pub ends : EndsInZero (with_phantom f)
  ends = behind (length (with_phantom f) - 1) (omega (arith, long))

  -- a part of the frame, to its end, has its phantom where the frame has
  pub rest_of : (k : ℕ) → k ≤ length f → drop k (with_phantom f) ≡ with_phantom (take (length f - k) (drop k f))
  rest_of k h =
      let all : length (drop k f) ≤ length f - k = omega (arith, length-drop k f) in
      drop-append-le k f (0 ∷ []) h ∙ rw (take_all (length f - k) (drop k f))

  pub nonzeros-within : (n : ℕ) → leading_nonzeros n (with_phantom f) ≤ length f
  nonzeros-within n = omega (arith, long, nonzeros-inside n (with_phantom f) (omega (arith, long)) ends)

  -- At least k octets are counted: one more, if the next is not zero; no more, if it is.
  module _ (n k : ℕ) (counted : k ≤ leading_nonzeros n (with_phantom f)) where
    pub nonzeros-more : k < n → k < length f → (get_or f k 0 ≡ 0 → ⊥) → k + 1 ≤ leading_nonzeros n (with_phantom f)
    nonzeros-more h i o =
        let all = leading_nonzeros n (with_phantom f) in
        decide (ltb k all) (λ t. omega (arith, ltb-true k all t))
        (λ t.
        let e : all ≡ k = omega (arith, ltb-false k all t) in
        absurd (o (sym (before k i) ∙ rw (sym e) (nonzeros-end n (with_phantom f) (omega arith) (omega (arith, long))))))

    pub nonzeros-stop : k < length f → get_or f k 0 ≡ 0 → k ≡ leading_nonzeros n (with_phantom f)
    nonzeros-stop i o =
        let all = leading_nonzeros n (with_phantom f) in
        decide (ltb k all) (λ t. absurd (nonzeros-at n (with_phantom f) k (ltb-true k all t) (before k i ∙ o))) (λ t. omega (arith, ltb-false k all t))

-- ---- the zeros at the head of D, by the octets of the frame

-- Where there are only zeros, the phantom is one more.
zeros-from : (f : List ℕ) (n i all : ℕ) → all ≡ i + min (length f + 1) n
    → unwrap_or (position_from is_nonzero i (take n f)) all ≡ i + leading_zeros n (with_phantom f)
unfolding leading
zeros-from [] zero i all e = omega arith
zeros-from [] (suc n) i all e = omega (arith, within is_zero n [])
zeros-from (x ∷ f) zero i all e = omega arith
zeros-from (x ∷ f) (suc n) i all e =
    decide (is_zero x) (λ t. rw t (omega (arith, zeros-from f n (i + 1) all (omega arith)))) (λ t. rw t (omega arith))

pub zeros-of : (f : List ℕ) (n : ℕ) → leading_zeros n (with_phantom f) ≡ unwrap_or (position is_nonzero (take n f)) (min (length f + 1) n)
zeros-of f n = rw (position_from-zero is_nonzero (take n f)) (omega (arith, zeros-from f n 0 (min (length f + 1) n) (omega arith)))

-- what `choose` and `count_nonzeros` go by
pub ruleset choosing = (rest_of, nonzeros-within, at_most)

pub ruleset counting = (nonzeros-within, nonzeros-more, nonzeros-stop, at_most)
