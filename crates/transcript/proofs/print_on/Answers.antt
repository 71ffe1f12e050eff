use mathlib.Core.Path.{sym, ◌∙◌}
use native.Mathlib.Omega.{arith}
use borrow.Author.Rules.{part_to_end}
use borrow.Author.Tests.{eqb-true}
use lib.ListN.{length-drop}
use Rattle.transcript.specs.Transcript.{line_of}
use Rattle.transcript.proofs.Printing.{goes_on, is-used, is-full}
use Rattle.transcript.proofs.print_on.Goals as goal
use Rattle.transcript.proofs.print_on.Goals.{then-loop-state-test+else-saturating_add-page, else-loop-state-test}

pub loop-state-preserved : goal.loop-state-preserved
unfolding line_of
loop-state-preserved c = let v = c.loop-state.invariant in
    let s = c.read_on-reached.ensures in
    let n = c.read_on-reached.result.used in (
      rw (part_to_end c.loop-state.rest.now n) (omega (arith, v.0, length-drop n c.loop-state.rest.now)),
      c.line.ensures.same_area ∙ v.1,
      v.2 ∙ goes_on _ _ _ _ _ _ v.0 s.used_after c.line.ensures.appended (omega (arith, c.longest_line.ensures, c.saturating_add.ensures, c.if-saturating_add-page.true)) s.octets_bound.1,
    )

pub returns-clause-used_after : goal.returns-clause-used_after
returns-clause-used_after c = let v = c.loop-state.invariant in
    sym (v.2 ∙ elim c.loop-state-test.branch [
      | then-loop-state-test+else-saturating_add-page w ↦ is-full _ _ _ _ (omega (arith, w.longest_line.ensures, w.saturating_add.ensures, w.if-saturating_add-page.false))
      | else-loop-state-test w ↦ is-used _ _ _ _ (eqb-true _ _ (sym c.is_empty.ensures ∙ w.loop-state-test.false))
    ])
