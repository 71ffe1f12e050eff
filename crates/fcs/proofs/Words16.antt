-- The 16-bit polynomial's own: it has few bits, so that its word step has few shifts, and so has the fold of a word into the next four.
use mathlib.Core.Path.{◌≡◌, refl, sym}
use mathlib.Core.List.{[], ◌∷◌}
use Prim.Native.Nat.{ℕ, ◌^◌, ◌<◌}
use lib.Dec.{lit≤}
use Rattle.fcs.specs.Notation.{◌⊕◌}
use Rattle.fcs.specs.CheckSequence.{check16, bit_step, bit_steps}
use Rattle.fcs.proofs.Xor as xor
use Rattle.fcs.proofs.Steps.{linear, steps-add}
use Rattle.fcs.proofs.Linear.{Linear, after-linear, gather, moved, moved-linear, down, up, down-linear, up-linear}
use Rattle.fcs.proofs.Fold.{moved_out, stepwise, by-steps, as-sum, after}

-- ---- the word step, as the code has it

unfoldable pub word : ℕ → ℕ
word t =
    let a = moved up (4 ∷ 11 ∷ 16 ∷ []) t in
    let b = moved up (8 ∷ 22 ∷ 32 ∷ []) a in
    let c = moved up (16 ∷ 44 ∷ []) b in
    let d = moved up (32 ∷ []) c in
    let e = down 48 d in
    moved down (5 ∷ 12 ∷ []) e

word-linear : Linear word
unfolding word
word-linear =
    after-linear _ _ (after-linear _ _ (after-linear _ _ (after-linear _ _ (after-linear _ _
    (moved-linear up up-linear _) (moved-linear up up-linear _)) (moved-linear up up-linear _)) (moved-linear up up-linear _))
    (down-linear 48)) (moved-linear down down-linear _)

pub word-steps : (t : ℕ) → t < 2 ^ 64 → word t ≡ bit_steps check16 64 t
unfolding word gather stepwise bit_step ◌⊕◌
word-steps = by-steps check16 word word-linear 64 tt

-- ---- the fold

abbrev S : ℕ → ℕ → ℕ
S = bit_steps check16

-- a word comes to as much as itself 64 bits later, 176 and 256, together
sum : (a : ℕ) → a < 2 ^ 64 → S 320 a ≡ gather (S 256 a) (λ n. S n a) (144 ∷ 64 ∷ [])
unfolding gather bit_steps bit_step ◌⊕◌
sum = as-sum check16 320 256 (144 ∷ 64 ∷ []) refl

-- 176 bits are 48 into a word, so it is in two there
pub fold : (a : ℕ) → a < 2 ^ 64 → after check16 a (up 48 a ∷ down 16 a ∷ a ∷ []) ≡ S 256 (S 64 a)
unfolding after gather
fold a h =
    let n = linear check16 64 in
    let p = steps-add check16 in
    rw (n (S 64 a), xor.assoc, moved_out check16 16 a (lit≤ tt), n (S 64 (S 64 a)), n _ a, n (S 64 (S 64 (S 64 a))))
    (rw (← p 64 64 a, ← p 64 128 a, ← p 64 192 a, ← p 64 16 a, ← p 64 80 a, ← p 256 64 a) (sym (sum a h)))
