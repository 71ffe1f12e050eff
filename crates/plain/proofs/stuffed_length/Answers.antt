-- `plain::stuffed_length`.
use Rattle.std.proofs.Common.{rules, tests, arith}
use Rattle.std.proofs.lemmas.Iterator.{YieldsList-from_slice}
use Rattle.std.proofs.lemmas.Iterator.Consumers.{count_from_yields_List, YieldsList-from_filter}
use Rattle.plain.specs.Maps.{marked}
use Rattle.plain.proofs.Stuffed.{stuffed-length}
use Rattle.plain.proofs.stuffed_length.Goals as goal

pub returns : goal.returns
returns c =
    let s = c.args.octets.now in
    let escaped = count_from_yields_List c.filter.result _ c.count.ensures.ran (YieldsList-from_filter _ (marked c.args.marks.now) (YieldsList-from_slice s cc) c.filter.ensures.closure (λ x r q k. search (rules, tests))) in
    omega (arith, escaped, stuffed-length c.args.marks.now s)
