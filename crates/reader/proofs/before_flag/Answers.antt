use mathlib.Core.Path.{◌∙◌}
use Rattle.std.proofs.Common.{rules, tests}
use Rattle.std.proofs.lemmas.Iterator.{YieldsList-from_slice}
use Rattle.std.proofs.lemmas.Iterator.Search.{position_from_yields_List}
use Rattle.reader.specs.Stretches.{is_flag}
use Rattle.reader.proofs.Quiet.{found_or_all}
use Rattle.reader.proofs.before_flag.Goals as goal

pub returns : goal.returns
returns c =
    let l = c.args.octets.now in
    let p = position_from_yields_List is_flag _ _ c.position.result c.position.ensures.ran (YieldsList-from_slice l cc) (λ x b q k. search (rules, tests)) in
    c.unwrap_or.ensures ∙ rw p (found_or_all is_flag l)
