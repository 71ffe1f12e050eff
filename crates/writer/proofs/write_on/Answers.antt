use mathlib.Core.Path.{refl, sym, ◌∙◌}
use borrow.Author.Rules.{rules}
use native.Mathlib.Omega.{arith}
use borrow.Author.Tests.{eq-eqb, ne_eqb}
use lib.ListN.{length-set}
use Rattle.writer.proofs.Steps.{goes_on, ready-after, settings-kept, settings-stored, at_flag, stops, ends}
use Rattle.writer.proofs.write_on.Goals as goal

pub stretch-filled-requires : goal.stretch-filled-requires
stretch-filled-requires c = (ready-after _ _ _ c.next_octet.ensures c.in-Ok-Some.octet (search rules), simp length-set (omega (arith, c.loop-filled-test.true)))

pub loop-filled-preserved : goal.loop-filled-preserved
loop-filled-preserved c = let v = c.loop-filled.invariant in
    let s = c.stretch-filled.ensures in
    let h = s.settings_value ∙ settings-kept _ c.next_octet.result _ c.next_octet.ensures ∙ v.1 in (
      s.in_bounds,
      refl,
      v.2
          ∙ goes_on _ _ _ c.loop-filled-test.true _ _ c.next_octet.ensures _ (search rules) (ne_eqb _ _ c.if-octet-eq-FLAG.false)
          ∙ s.written_value
          ∙ settings-stored c.stretch-filled.new.state _ _ _ _ _ _ h,
    )

pub returns-after-loop-filled : goal.returns-after-loop-filled
returns-after-loop-filled c = record { filled_after = sym (c.loop-filled.invariant.2 ∙ ends _ _ _ c.loop-filled-test.false); filled_in_bounds = search rules }

pub returns-in_default : goal.returns-in_default
returns-in_default c = record { filled_after = sym (c.loop-filled.invariant.2 ∙ stops _ _ _ c.loop-filled-test.true c.next_octet.result _ c.next_octet.ensures (λ x q. let z = sym c.in_default.is ∙ q in search rules)); filled_in_bounds = search rules }

pub returns-in_default-2 : goal.returns-in_default-2
returns-in_default-2 c = record { filled_after = sym (c.loop-filled.invariant.2 ∙ stops _ _ _ c.loop-filled-test.true c.next_octet.result _ c.next_octet.ensures (λ x q. let z = sym c.in_default.is ∙ q in search rules)); filled_in_bounds = search rules }

pub returns-then-octet-eq-FLAG : goal.returns-then-octet-eq-FLAG
returns-then-octet-eq-FLAG c = record {
  filled_after = sym
      (c.loop-filled.invariant.2
      ∙ at_flag _ _ _ c.loop-filled-test.true _ _ c.next_octet.ensures _ (search rules) (eq-eqb _ _ c.if-octet-eq-FLAG.true));
  filled_in_bounds = search rules;
}
