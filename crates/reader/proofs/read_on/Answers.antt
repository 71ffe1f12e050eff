use mathlib.Core.Path.{◌≡◌, sym, ◌∙◌}
use mathlib.Core.Bool.{true}
use Prim.Native.Nat.{◌+◌, ◌≤◌}
use native.Mathlib.Omega.{arith}
use borrow.Author.Rules.{rules}
use lib.ListN.{length}
use Rattle.link.specs.Answers.{report_answer, is_quiet}
use Rattle.reader.proofs.Steps.{begins, goes_on, stops, ends}
use Rattle.reader.proofs.Quiet.{ready-after, goes-far}
use Rattle.reader.proofs.read_on.Goals as goal

pub loop-used-init : goal.loop-used-init
loop-used-init c = (search rules, search rules, search rules, begins _ _)

pub returns-then-not-is_quiet : goal.returns-then-not-is_quiet
returns-then-not-is_quiet c = let no = sym c.is_quiet.ensures ∙ c.if-not-is_quiet.true in
    record { used_after = sym (c.loop-used.invariant.3 ∙ stops _ _ _ _ c.loop-used-test.true c.receive-received.ensures no); octets_bound = search rules }

pub stretch-used-requires : goal.stretch-used-requires
stretch-used-requires c =
    let quiet : is_quiet (report_answer c.receive-received.result.report) ≡ true =
    sym c.is_quiet.ensures ∙ c.if-not-is_quiet.false in
    ready-after _ _ _ c.receive-received.ensures (quiet)

pub loop-used-smaller : goal.loop-used-smaller
loop-used-smaller c =
    let within : c.loop-used.used + 1 + c.stretch-used.result ≤ length c.args.octets.now =
    omega (arith, c.loop-used-test.true, c.stretch-used.ensures.used_in_bounds, c.stretch-arg-1.given) in
    omega (arith, within)

pub loop-used-preserved : goal.loop-used-preserved
loop-used-preserved c =
    let within : c.loop-used.used + 1 + c.stretch-used.result ≤ length c.args.octets.now =
    omega (arith, c.loop-used-test.true, c.stretch-used.ensures.used_in_bounds, c.stretch-arg-1.given) in
    let quiet : is_quiet (report_answer c.receive-received.result.report) ≡ true =
    sym c.is_quiet.ensures ∙ c.if-not-is_quiet.false in (
      omega (arith, within),
      search rules,
      search rules,
      c.loop-used.invariant.3
          ∙ goes_on _ _ _ _ c.loop-used-test.true c.receive-received.ensures (quiet)
          ∙ goes-far _ _ _ _ _ c.stretch-used.ensures.octets_value,
    )

pub returns : goal.returns
returns c = record { used_after = sym (c.loop-used.invariant.3 ∙ ends _ _ _ c.loop-used-test.false); octets_bound = search rules }
