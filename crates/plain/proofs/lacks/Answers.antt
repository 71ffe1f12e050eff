-- `plain::lacks`.
use Rattle.std.proofs.Common.{ℕ, rules, tests, not, ◌&&◌, refl, ◌∙◌}
use Rattle.std.proofs.lemmas.Iterator.{YieldsList-from_range}
use Rattle.std.proofs.lemmas.Iterator.Search.{any_from_yields_List}
use Rattle.plain.specs.Maps.{removed, marked, lacks}
use Rattle.plain.proofs.Some.{some-of}
use Rattle.plain.proofs.lacks.Goals as goal

pub returns : goal.returns
unfolding lacks
returns c =
    let test = λ (x : ℕ). removed c.args.map x && not (marked c.args.marks.now x) in
    any_from_yields_List test _ _ _ c.any.ensures.ran (YieldsList-from_range 0 0x20 0x20 (cc) refl) (λ x b q k. search (rules, tests))
    ∙ some-of test 0 0x20
