-- `plain::marks_wrongly`.
use Rattle.std.proofs.Common.{rules, tests, refl, ◌∙◌, sym}
use Rattle.std.proofs.lemmas.Iterator.{YieldsList-from_range}
use Rattle.std.proofs.lemmas.Iterator.Search.{any_from_yields_List}
use Rattle.plain.specs.Maps.{marked, marks_wrongly}
use Rattle.plain.proofs.Some.{some-of}
use Rattle.plain.proofs.marks_wrongly.Goals as goal

pub returns-else-marked : goal.returns-else-marked
unfolding marks_wrongly
returns-else-marked c =
    let none = sym c.marked.ensures ∙ c.if-marked.false in
    rw none
    (any_from_yields_List (marked c.args.marks.now) _ _ _ c.any.ensures.ran (YieldsList-from_range 0x20 0x40 0x20 (cc) refl) (λ x b q k. search (rules, tests))
    ∙ some-of (marked c.args.marks.now) 0x20 0x20)
