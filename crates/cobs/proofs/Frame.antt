-- The blocks of a whole frame: they are allowed and decode to D; what is sent of them has no flag, reads back, and is not long.
use mathlib.Core.Path.{◌≡◌, refl, ap, sym, ◌∙◌}
use mathlib.Core.Bool.{Bool}
use mathlib.Core.Logic.{⊎_elim}
use mathlib.Core.List.Memᴰ
use mathlib.Core.List.{List, [], ◌∷◌, ◌++◌, Memᴰ}
use mathlib.Core.Option.{some, map}
use Prim.Native.Nat.{ℕ, zero, suc, ◌+◌, ◌-◌, ◌/◌, ◌≤◌, ◌<◌}
use native.Mathlib.Omega.{arith}
use borrow.Author.Tests.{eqb-true, eqb-false}
use lib.Dec.{eqb}
use lib.ListN.{length, take, drop, get_or, replicate, length-drop, length-replicate, get_or-replicate, take-append-drop, drop_of_length-le}
use lib.Seq.{length-take-le, take-add, get_or-take, get_or-drop, drop-drop, ext_get_or}
use Rattle.cobs.specs.CodeBlocks.{with_phantom, flag, Choice, choice, Block, zeros_in, zeros_after, Allowed, AllAllowed, decoded_octets, line_octets, covered_by, block_at, blocks_from, blocks, uninterrupted, read_blocks}
use Rattle.cobs.specs.Frames.{WholeFrames}
use Rattle.cobs.proofs.Tests.{decide}
use Rattle.cobs.proofs.Leading.{EndsInZero}
use Rattle.cobs.proofs.Phantom.{long, ends, ends-drop}
use Rattle.cobs.proofs.Table.{row_read, agreed-table, numbers}
use Rattle.cobs.proofs.Chosen.{Stands, chosen}
use Rattle.cobs.proofs.Blocks.{decoded-nil, decoded-cons, on-line-nil, line-length, line-flagless, reads-back}

-- At most so many octets are sent of r octets of D, before the flag.
pub longest : ℕ → ℕ
longest r = r + (r - 1) / 207

pub longest-frame : (n : ℕ) → longest (n + 1) ≡ n + 1 + n / 207
unfolding longest
longest-frame n = ap (λ (i : ℕ). n + 1 + i / 207) (omega arith)

-- with n octets more, where m octets of D were to come
pub longest-part : (n m r : ℕ) → n ≤ m → m ≤ r → n + longest (r - m) ≤ longest r
unfolding longest
longest-part n m r h k = omega arith

no_zero : (l : List ℕ) → ((i : ℕ) → i < length l → get_or l i 0 ≡ 0 → ⊥) → Memᴰ 0 l → ⊥
no_zero [] h m = Memᴰ.not-nil m
no_zero (x ∷ l) h m = ⊎_elim (λ e. h 0 (omega arith) (sym e)) (no_zero l (λ i k. h (suc i) (omega arith))) (Memᴰ.cases_cons m)

-- n zeros, one by one, are a list of zeros
pub zeros-from : (l : List ℕ) (from n : ℕ) → from + n ≤ length l → ((i : ℕ) → i < n → get_or l (from + i) 0 ≡ 0)
    → take n (drop from l) ≡ replicate n 0
zeros-from l from n fits all =
    let k : length (take n (drop from l)) ≡ n = length-take-le n (drop from l) (omega (arith, length-drop from l)) in
    ext_get_or 0 (take n (drop from l)) (replicate n 0) (k ∙ sym (length-replicate n 0))
    (λ i h.
    let j : i < n = omega arith in
    get_or-take n (drop from l) i 0 j ∙ (get_or-drop from l i 0 ∙ (all i j ∙ sym (get_or-replicate n i 0 0 j))))

-- ---- a block that stands at the head of a rest of D

module _ (zxe : Bool) (rest : List ℕ) (c : Choice) (f : Stands zxe rest c) where
  pub data-long : length (take c.nonzeros rest) ≡ c.nonzeros
  data-long = length-take-le c.nonzeros rest (omega (arith, f.inside))

  zeros-is : zeros_after (block_at rest c) ≡ c.zeros
  zeros-is = ap zeros_in (agreed-table zxe c.code c.nonzeros c.zeros (row_read f.row))

  pub block-allowed : Allowed zxe (block_at rest c)
  block-allowed =
      record {
        row = rw (data-long, zeros-is) (row_read f.row);
        nonzero =
            no_zero (take c.nonzeros rest)
            (λ i h q.
            let k : i < c.nonzeros = omega (arith, data-long) in
            f.nonzero i k (sym (get_or-take c.nonzeros rest i 0 k) ∙ q));
      }

  -- its zeros stand behind its data octets
  pub zeros-stand : take c.zeros (drop c.nonzeros rest) ≡ replicate c.zeros 0
  zeros-stand = zeros-from rest c.nonzeros c.zeros f.inside (λ i k. f.zero (c.nonzeros + i) (omega arith) (omega arith))

  -- the rest is what the block stands for and what is behind it
  pub block-covers : take c.nonzeros rest ++ replicate (zeros_after (block_at rest c)) 0 ++ drop (covered_by c) rest ≡ rest
  block-covers = rw (zeros-is, ← zeros-stand, ← (take-add c.nonzeros c.zeros rest)) (take-append-drop (covered_by c) rest)

  -- a block with a zero takes no more octets than it covers, and D0 one more
  pub block-cost : c.nonzeros + 1 + longest (length rest - covered_by c) ≤ longest (length rest)
  unfolding longest
  block-cost =
      decide (eqb c.zeros 0) (λ e. let full = (numbers f.row).none-full (eqb-true c.zeros 0 e) in omega (arith, full.1, f.more))
      (λ e. let some = eqb-false c.zeros 0 e in omega (arith, f.inside))

-- ---- the blocks of a rest of D

module _ (zxe : Bool) where
  blocks-from-none : (n : ℕ) → blocks_from zxe n [] ≡ []
  unfolding blocks_from
  blocks-from-none zero = refl
  blocks-from-none (suc n) = refl

  pub blocks-none : blocks zxe [] ≡ []
  unfolding blocks
  blocks-none = blocks-from-none 0

  blocks-from-next : (n : ℕ) (rest : List ℕ) → 0 < length rest
      → blocks_from zxe (suc n) rest ≡ block_at rest (choice zxe rest) ∷ blocks_from zxe n (drop (covered_by (choice zxe rest)) rest)
  unfolding blocks_from
  blocks-from-next n [] h = absurd (omega arith)
  blocks-from-next n (x ∷ l) h = refl

  module _
      (P : List ℕ → List Block → Type 0) (none : P [] [])
      (next : (rest : List ℕ) (bs : List Block) → Stands zxe rest (choice zxe rest) → P (drop (covered_by (choice zxe rest)) rest) bs
      → P rest (block_at rest (choice zxe rest) ∷ bs))
    where
      by-blocks-from : (n : ℕ) (d : List ℕ) → EndsInZero d → length d ≤ n → P d (blocks_from zxe n d)
      unfolding blocks_from
      by-blocks-from zero [] e h = none
      by-blocks-from zero (x ∷ l) e h = absurd (omega arith)
      by-blocks-from (suc n) [] e h = none
      by-blocks-from (suc n) (x ∷ l) e h =
          let rest = x ∷ l in
          let f = chosen zxe rest (omega arith) e in
          let s = (numbers f.row).covers in
          let k = covered_by (choice zxe rest) in
          next rest _ f (by-blocks-from n (drop k rest) (ends-drop rest e k) (omega (arith, length-drop k rest)))

      -- what holds of no blocks, and of a block that stands there and blocks behind it of which it holds, holds of the blocks of D
      pub by_blocks : (d : List ℕ) → EndsInZero d → P d (blocks zxe d)
      unfolding blocks
      by_blocks d e = by-blocks-from (length d) d e (omega arith)

  -- the bound does not matter where it is large enough
  blocks-from-same : (n : ℕ) (d : List ℕ) → EndsInZero d → length d ≤ n → blocks_from zxe n d ≡ blocks zxe d
  unfolding blocks
  blocks-from-same n d e h = sym (by-blocks-from (λ l bs. (m : ℕ) → length l ≤ m → bs ≡ blocks_from zxe m l) (λ m k. sym (blocks-from-none m)) next (length d) d e (omega arith) n h)
    where
      next : (rest : List ℕ) (bs : List Block) → Stands zxe rest (choice zxe rest)
          → ((m : ℕ) → length (drop (covered_by (choice zxe rest)) rest) ≤ m → bs ≡ blocks_from zxe m (drop (covered_by (choice zxe rest)) rest))
          → (m : ℕ) → length rest ≤ m → block_at rest (choice zxe rest) ∷ bs ≡ blocks_from zxe m rest
      next rest bs f ih zero k = absurd (omega (arith, f.more))
      next rest bs f ih (suc m) k =
          let s = (numbers f.row).covers in
          let n = covered_by (choice zxe rest) in
          ap (λ (l : List Block). block_at rest (choice zxe rest) ∷ l) (ih m (omega (arith, length-drop n rest))) ∙ sym (blocks-from-next m rest (omega (arith, f.more)))

  pub blocks-next : (rest : List ℕ) → 0 < length rest → EndsInZero rest
      → blocks zxe rest ≡ block_at rest (choice zxe rest) ∷ blocks zxe (drop (covered_by (choice zxe rest)) rest)
  blocks-next rest h e =
      let k = covered_by (choice zxe rest) in
      sym (blocks-from-same (suc (length rest)) rest e (omega arith))
      ∙ (blocks-from-next (length rest) rest h
      ∙ ap (λ (bs : List Block). block_at rest (choice zxe rest) ∷ bs)
      (blocks-from-same (length rest) (drop k rest) (ends-drop rest e k) (omega (arith, length-drop k rest))))

-- ---- a whole frame

module _ (zxe : Bool) (f : List ℕ) where
  -- its blocks are allowed and decode to D
  pub frame-allowed : AllAllowed zxe (blocks zxe (with_phantom f))
  frame-allowed =
      by_blocks zxe (λ d bs. AllAllowed zxe bs) (λ b m. absurd (Memᴰ.not-nil m))
      (λ rest bs fits ih b m. ⊎_elim (λ e. rw e (block-allowed zxe rest (choice zxe rest) fits)) (ih b) (Memᴰ.cases_cons m))
      (with_phantom f) (ends f)

  pub frame-decodes : decoded_octets (blocks zxe (with_phantom f)) ≡ with_phantom f
  frame-decodes =
      by_blocks zxe (λ d bs. decoded_octets bs ≡ d) decoded-nil
      (λ rest bs fits ih. rw (decoded-cons, ih) (block-covers zxe rest (choice zxe rest) fits))
      (with_phantom f) (ends f)

  pub frame-sent : uninterrupted zxe f ≡ line_octets (blocks zxe (with_phantom f))
  unfolding uninterrupted
  frame-sent = refl

  -- what is sent of it has no flag, and is read back as its blocks and so as D
  pub frame-flagless : Memᴰ flag (uninterrupted zxe f) → ⊥
  unfolding uninterrupted
  frame-flagless = line-flagless (blocks zxe (with_phantom f))

  pub frame-reads : read_blocks zxe (uninterrupted zxe f) ≡ some (blocks zxe (with_phantom f))
  unfolding uninterrupted
  frame-reads = reads-back zxe (blocks zxe (with_phantom f)) frame-allowed

  pub frame_back : map decoded_octets (read_blocks zxe (uninterrupted zxe f)) ≡ some (with_phantom f)
  frame_back = rw (frame-reads, frame-decodes)

  -- and is no longer than this
  pub frame-length : length (uninterrupted zxe f) ≤ length f + 1 + length f / 207
  unfolding uninterrupted
  frame-length =
      omega (
        arith,
        ap longest (long f),
        longest-frame (length f),
        by_blocks zxe (λ d bs. length (line_octets bs) ≤ longest (length d)) (rw on-line-nil (omega arith))
            (λ rest bs fits ih.
            let c = choice zxe rest in
            omega (arith, line-length (block_at rest c) bs, data-long zxe rest c fits, ap longest (length-drop (covered_by c) rest), block-cost zxe rest c fits))
            (with_phantom f) (ends f),
      )

  -- from a position on its blocks are the one that is chosen there and those behind it; past D there is none
  pub frame-next : (pos : ℕ) → pos ≤ length f
      → (let rest = drop pos (with_phantom f) in
      let c = choice zxe rest in
      blocks zxe rest ≡ block_at rest c ∷ blocks zxe (drop (pos + covered_by c) (with_phantom f)))
  frame-next pos h =
      let rest = drop pos (with_phantom f) in
      let c = choice zxe rest in
      blocks-next zxe rest (omega (arith, length-drop pos (with_phantom f), long f)) (ends-drop (with_phantom f) (ends f) pos)
      ∙ ap (λ (l : List ℕ). block_at rest c ∷ blocks zxe l) (drop-drop (covered_by c) pos (with_phantom f))

  pub frame-end : (pos : ℕ) → length f < pos → blocks zxe (drop pos (with_phantom f)) ≡ []
  frame-end pos h = ap (blocks zxe) (drop_of_length-le (with_phantom f) {i = pos} (omega (arith, long f))) ∙ blocks-none zxe

pub whole-frames : WholeFrames
whole-frames zxe f =
    record {
      allowed = frame-allowed zxe f;
      decodes = frame-decodes zxe f;
      flagless = frame-flagless zxe f;
      back = frame_back zxe f;
      most = frame-length zxe f;
    }
