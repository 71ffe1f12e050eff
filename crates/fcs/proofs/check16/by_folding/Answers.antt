use mathlib.Core.Path.{◌≡◌, refl, ap, ◌∙◌}
use mathlib.Core.List.{[], ◌∷◌}
use Prim.Native.Nat.{ℕ, ◌+◌, ◌^◌, ◌<◌}
use native.Mathlib.Omega.{arith}
use lib.Bits.{bit_xor}
use lib.ListN.{drop, length-drop}
use Rattle.fcs.specs.Notation.{◌⊕◌}
use Rattle.fcs.specs.CheckSequence.{check16, feed}
use Rattle.fcs.proofs.Laws.{sound16}
use Rattle.fcs.proofs.Linear.{down, up}
use Rattle.fcs.proofs.Octets.{from_place, xor-word, feed-octets}
use Rattle.fcs.proofs.Fold.{word_below, after, each, folded}
use Rattle.fcs.proofs.Words16.{fold}
use Rattle.fcs.proofs.check16.by_folding.Goals as goal

-- each is a word
abbrev Words : ℕ → ℕ → ℕ → ℕ → Type 0
Words a b c d = (a < 2 ^ 64) × (b < 2 ^ 64) × (c < 2 ^ 64) × (d < 2 ^ 64)

pub loop-i-init : goal.loop-i-init
unfolding after ◌⊕◌
loop-i-init c = let s = c.args.octets.now in
    let start = c.args.start in
    let words : Words (bit_xor start c.word_at.result) c.word_at-b.result c.word_at-c.result c.word_at-d.result
    = (xor-word start c.word_at.result (omega arith) (omega arith), omega arith, omega arith, omega arith) in (
      omega arith,
      words,
      feed-octets check16 8 _ c.word_at-d.result s 24 (omega arith) c.word_at-d.ensures
          ∙ feed-octets check16 8 _ c.word_at-c.result s 16 (omega arith) c.word_at-c.ensures
          ∙ feed-octets check16 8 _ c.word_at-b.result s 8 (omega arith) c.word_at-b.ensures
          ∙ feed-octets check16 8 _ c.word_at.result s 0 (omega arith) c.word_at.ensures,
    )

pub loop-i-preserved : goal.loop-i-preserved
unfolding after each ◌⊕◌
loop-i-preserved c = let l = c.loop-i in
    let s = c.args.octets.now in
    let w = c.word_at-in-loop-i in
    let (fa, fb, fc, fd) = l.invariant.1 in (
      omega arith,
      (xor-word _ _ fb fa, xor-word l.c (up 48 l.a) fc (omega arith), xor-word l.d (down 16 l.a) fd (omega arith), xor-word w.result l.a (omega arith) fa),
      ap (λ (r : ℕ). feed check16 r (drop (l.i + 8) s))
          (folded check16 l.a l.b l.a (l.c ∷ l.d ∷ w.result ∷ []) (up 48 l.a ∷ down 16 l.a ∷ l.a ∷ []) refl
          (fold l.a fa))
          ∙ feed-octets check16 8 (after check16 l.a (l.b ∷ l.c ∷ l.d ∷ [])) w.result s l.i (omega arith) w.ensures
          ∙ l.invariant.2,
    )

pub overflow_cast-r : goal.overflow_cast-r
overflow_cast-r c = let l = c.loop-i in
    let r = c.word_step-3.result in
    let fits : c.word_step-r.result < 65536 = rw c.word_step-r.ensures (word_below check16 sound16 (bit_xor r l.d) (xor-word r l.d (omega arith) l.invariant.1.3)) in
    omega arith

pub by_rest-requires : goal.by_rest-requires
by_rest-requires c = let l = c.loop-i in
    let s = c.args.octets.now in
    rw (from_place s l.i, length-drop l.i s) (omega arith)

pub returns : goal.returns
unfolding after ◌⊕◌
returns c = let l = c.loop-i in
    let s = c.args.octets.now in
    let r : c.word_step-r.result ≡ after check16 l.a (l.b ∷ l.c ∷ l.d ∷ []) =
    rw (← c.word_step.ensures, ← c.word_step-2.ensures, ← c.word_step-3.ensures)
    c.word_step-r.ensures in
    c.by_rest.ensures ∙ rw (r, from_place s l.i) l.invariant.2
