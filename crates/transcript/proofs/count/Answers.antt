use mathlib.Core.Path.{sym, ◌∙◌}
use borrow.Author.Tests.{eqb-true}
use Rattle.transcript.proofs.Counting.{noted-on, received-on, noted-none, received-none}
use Rattle.transcript.proofs.count.Goals as goal

pub loop-rest-preserved : goal.loop-rest-preserved
loop-rest-preserved c = let l = c.loop-rest.invariant in
    let e = c.read_on-report.ensures.used_after in
    (rw c.note_in.ensures (l.0 ∙ noted-on _ _ _ e _), l.1 ∙ received-on _ _ _ e)

pub returns : goal.returns
returns c = let l = c.loop-rest.invariant in
    let none = eqb-true _ _ (sym c.is_empty.ensures ∙ c.loop-rest-test.false) in
    record { counts_value = sym (l.0 ∙ noted-none _ _ none _); second_after = sym (l.1 ∙ received-none _ _ none) }
