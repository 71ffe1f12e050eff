use mathlib.Core.Path.{refl, ap, ◌∙◌}
use mathlib.Core.List.{[], ◌∷◌}
use Prim.Native.Nat.{ℕ, ◌+◌}
use native.Mathlib.Omega.{arith}
use lib.ListN.{drop, length-drop}
use Rattle.fcs.specs.Notation.{◌⊕◌}
use Rattle.fcs.specs.CheckSequence.{check32, feed}
use Rattle.fcs.proofs.Linear.{gather}
use Rattle.fcs.proofs.Octets.{from_place, xor-word, feed-octets}
use Rattle.fcs.proofs.Fold.{after, each, folded}
use Rattle.fcs.proofs.Words32.{near, far, near-below, far-below, fold}
use Rattle.fcs.proofs.check32.by_folding.Goals as goal

pub loop-i-init : goal.loop-i-init
unfolding after ◌⊕◌
loop-i-init c = let a = c.args in
    let v = c.word_at in
    let w = c.word_at-b in
    let s = a.octets.now in (
      omega arith,
      xor-word a.start v.result (omega arith) (omega arith),
      omega arith,
      feed-octets check32 8 _ w.result s 8 (omega arith) w.ensures
          ∙ feed-octets check32 8 a.start v.result s 0 (omega arith) v.ensures,
    )

pub loop-i-preserved : goal.loop-i-preserved
unfolding after each near far gather ◌⊕◌
loop-i-preserved c = let l = c.loop-i in
    let s = c.args.octets.now in
    let w = c.word_at-in-loop-i in
    let (inside, fa, fb, left) = l.invariant in (
      omega arith,
      xor-word l.b (near l.a) fb (near-below l.a fa),
      xor-word w.result (far l.a) (omega arith) (far-below l.a fa),
      ap (λ (r : ℕ). feed check32 r (drop (l.i + 8) s))
          (folded check32 l.a l.b (near l.a) (w.result ∷ []) (far l.a ∷ []) refl (fold l.a fa))
          ∙ feed-octets check32 8 (after check32 l.a (l.b ∷ [])) w.result s l.i (omega arith) w.ensures ∙ left,
    )

pub by_rest-requires : goal.by_rest-requires
by_rest-requires c = let l = c.loop-i in
    let s = c.args.octets.now in
    rw (from_place s l.i, length-drop l.i s) (omega arith)

pub returns : goal.returns
unfolding after ◌⊕◌
returns c = let l = c.loop-i in
    let s = c.args.octets.now in
    c.by_rest.ensures ∙ rw (from_place s l.i, c.word_step-r.ensures, c.word_step.ensures) l.invariant.3
