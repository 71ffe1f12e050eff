-- `fcs::check32::by_word` meets its contract: a word is fed, and then what is left over.
use mathlib.Core.Path.{◌∙◌}
use native.Mathlib.Omega.{arith}
use Rattle.fcs.specs.Notation.{◌⊕◌}
use Rattle.fcs.specs.CheckSequence.{check32}
use Rattle.fcs.proofs.Octets.{from_place, feed-octets}
use Rattle.fcs.proofs.check32.by_word.Goals as goal

pub returns : goal.returns
unfolding ◌⊕◌
returns c = let a = c.args in
    let w = c.word_at in
    let s = a.octets.now in
    c.by_rest-2.ensures
    ∙ rw (from_place s 8, c.word_step-r.ensures)
    (feed-octets check32 8 a.start w.result s 0 (omega arith) w.ensures)
