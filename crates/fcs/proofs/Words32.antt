-- The 32-bit polynomial's own: the shifts of its word step, and those that fold a word into the next two.
use mathlib.Core.Path.{◌≡◌, refl, sym, ap, ◌∙◌}
use mathlib.Core.Bool.{Bool, true, ◌&&◌}
use mathlib.Core.List.{List, [], ◌∷◌}
use Prim.Native.Nat.{ℕ, ◌+◌, ◌-◌, ◌*◌, ◌^◌, ◌<◌}
use native.Mathlib.Nat.{mod-lt, lt_of_le_of_lt}
use lib.Dec.{T, leb, leb→le}
use lib.Pow.{pow_pos, shr_le}
use Rattle.fcs.specs.Notation.{◌⊕◌}
use Rattle.fcs.specs.CheckSequence.{check32, bit_step, bit_steps}
use Rattle.fcs.proofs.Xor as xor
use Rattle.fcs.proofs.Steps.{steps-add}
use Rattle.fcs.proofs.Same.{both}
use Rattle.fcs.proofs.Linear.{Linear, itself-linear, sum-linear, after-linear, gather, gather-linear, gather-below}
use Rattle.fcs.proofs.Linear.{moved, moved-linear, down, up, down-linear, up-linear}
use Rattle.fcs.proofs.Laws.{sound32}
use Rattle.fcs.proofs.Fold.{word_below, moved_out, stepwise, by-steps, as-sum, after, each, after-each}

-- ---- the word step, as the code has it

-- a, and with it a moved by each number of one list, and by each of another twice, the second time by n more
abbrev paired : (ℕ → ℕ → ℕ) → ℕ → List ℕ → List ℕ → ℕ → ℕ
paired g n ms ns a = let b = a ⊕ g n a in gather (moved g ms a) (λ m. g m b) ns

paired-linear : (g : ℕ → ℕ → ℕ) → ((n : ℕ) → Linear (g n)) → (n : ℕ) (ms ns : List ℕ) → Linear (paired g n ms ns)
paired-linear g q n ms ns =
    gather-linear (moved g ms) (λ m a. g m (a ⊕ g n a)) (moved-linear g q ms)
    (λ m. after-linear (λ a. a ⊕ g n a) (g m) (sum-linear (λ a. a) (g n) itself-linear (q n)) (q m)) ns

unfoldable pub word : ℕ → ℕ
word t =
    let a = paired up 1 (6 ∷ 16 ∷ 22 ∷ 32 ∷ []) (9 ∷ 20 ∷ 24 ∷ 27 ∷ 30 ∷ []) t in
    let b = paired up 2 (12 ∷ 32 ∷ 44 ∷ []) (18 ∷ 40 ∷ 48 ∷ 54 ∷ 60 ∷ []) a in
    let c = moved up (24 ∷ 36 ∷ 40 ∷ []) b in
    let d = moved up (48 ∷ []) c in
    let e = down 32 d in
    paired down 1 (10 ∷ 16 ∷ 26 ∷ []) (1 ∷ 4 ∷ 7 ∷ 11 ∷ 22 ∷ []) e

word-linear : Linear word
unfolding word
word-linear =
    after-linear _ _ (after-linear _ _ (after-linear _ _ (after-linear _ _ (after-linear _ _
    (paired-linear up up-linear 1 _ _) (paired-linear up up-linear 2 _ _)) (moved-linear up up-linear _)) (moved-linear up up-linear _))
    (down-linear 32)) (paired-linear down down-linear 1 _ _)

pub word-steps : (t : ℕ) → t < 2 ^ 64 → word t ≡ bit_steps check32 64 t
unfolding word gather stepwise bit_step ◌⊕◌
word-steps = by-steps check32 word word-linear 64 tt

pub word_fits : (t : ℕ) → t < 2 ^ 64 → word t < 2 ^ 32
word_fits t h = rw (word-steps t h) (word_below check32 sound32 t h)

-- ---- the fold

abbrev S : ℕ → ℕ → ℕ
S = bit_steps check32

-- so many of a word's bits go beyond the next word, each time that it is folded in but the first, which is right into that
abbrev beyond : List ℕ
beyond = 48 ∷ 41 ∷ 23 ∷ 17 ∷ 16 ∷ 9 ∷ 8 ∷ []

-- what the next word gets of a word, and the one behind that, as the code has it
unfoldable pub near : ℕ → ℕ
near a = gather a (λ n. up (64 - n) a) beyond

unfoldable pub far : ℕ → ℕ
far a = gather 0 (λ n. down n a) beyond

pub near-below : (a : ℕ) → a < 2 ^ 64 → near a < 2 ^ 64
unfolding near
near-below a h = gather-below 64 (λ n. up (64 - n) a) (λ n. mod-lt (a * 2 ^ (64 - n)) (pow_pos 64)) a h beyond

pub far-below : (a : ℕ) → a < 2 ^ 64 → far a < 2 ^ 64
unfolding far
far-below a h = gather-below 64 (λ n. down n a) (λ n. lt_of_le_of_lt (shr_le a n) h) 0 (pow_pos 64) beyond

-- no number of a list has more than a word's bits
unfoldable fits : List ℕ → Bool
fits [] = true
fits (n ∷ ns) = leb n 64 && fits ns

-- where a word is put into two, n bits of it beyond the first, it takes n steps and the second word's
spread : (a x y : ℕ) (ns : List ℕ) → T (fits ns)
    → after check32 (gather x (λ n. up (64 - n) a) ns) (gather y (λ n. down n a) ns ∷ [])
    ≡ gather (after check32 x (y ∷ [])) (λ n. S (64 + n) a) ns
unfolding gather after each fits
spread a x y [] t = refl
spread a x y (n ∷ ns) t =
    let (here, rest) = both (leb n 64) (fits ns) t in
    spread a (x ⊕ up (64 - n) a) (y ⊕ down n a) ns rest
    ∙ ap (λ (z : ℕ). gather z (λ m. S (64 + m) a) ns)
    (rw (steps-add check32 64 n a, ← moved_out check32 n a (leb→le n 64 here))
    (after-each check32 x (up (64 - n) a) (y ∷ []) (down n a ∷ []) refl))

-- a word comes to as much as itself 64 bits later, 80, 87, 105, 111, 112, 119 and 120, together
sum : (a : ℕ) → a < 2 ^ 64 → S 192 a ≡ gather (S 128 a) (λ n. S n a) (112 ∷ 105 ∷ 87 ∷ 81 ∷ 80 ∷ 73 ∷ 72 ∷ [])
unfolding gather bit_steps bit_step ◌⊕◌
sum = as-sum check32 192 128 (112 ∷ 105 ∷ 87 ∷ 81 ∷ 80 ∷ 73 ∷ 72 ∷ []) refl

pub fold : (a : ℕ) → a < 2 ^ 64 → after check32 (near a) (far a ∷ []) ≡ S 128 (S 64 a)
unfolding near far gather after fits
fold a h =
    spread a a 0 beyond tt
    ∙ rw (xor.zero_right (S 64 a), ← steps-add check32 64 64 a, ← steps-add check32 128 64 a) (sym (sum a h))
