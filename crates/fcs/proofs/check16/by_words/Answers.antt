use mathlib.Core.Path.{◌∙◌}
use Prim.Native.Nat.{◌^◌, ◌<◌}
use native.Mathlib.Omega.{arith}
use lib.Bits.{bit_xor}
use Rattle.fcs.specs.Notation.{◌⊕◌}
use Rattle.fcs.specs.CheckSequence.{check16}
use Rattle.fcs.proofs.Laws.{sound16}
use Rattle.fcs.proofs.Octets.{xor-word, feed-front}
use Rattle.fcs.proofs.Fold.{word_below}
use Rattle.fcs.proofs.check16.by_words.Goals as goal

pub loop-word-preserved : goal.loop-word-preserved
unfolding ◌⊕◌
loop-word-preserved c = let l = c.loop-word in
    let w = c.word_at in
    let (front, behind, left) = c.in-Some.ensures.cases in
    let small : bit_xor l.r w.result < 2 ^ 64 = xor-word l.r w.result (omega arith) (omega arith) in (
      rw c.word_step-r.ensures (word_below check16 sound16 _ small),
      rw c.word_step-r.ensures (feed-front check16 l.r w.result l.rest.now _ _ (omega arith) w.ensures front behind ∙ l.invariant.1),
    )
