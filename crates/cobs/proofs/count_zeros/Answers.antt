-- `cobs::count_zeros` meets its contract.
use Rattle.std.proofs.Common.{sym, rules, tests}
use Rattle.std.proofs.lemmas.Iterator.{YieldsList-from_slice, YieldsList-from_take}
use Rattle.std.proofs.lemmas.Iterator.Consumers.{YieldsList-at}
use Rattle.std.proofs.lemmas.Iterator.Search.{position_from_yields_List}
use Rattle.cobs.specs.CodeBlocks.{is_nonzero}
use Rattle.cobs.proofs.Phantom.{zeros-of}
use Rattle.cobs.proofs.count_zeros.Goals as goal

pub returns : goal.returns
returns c =
    let found =
    position_from_yields_List is_nonzero _ _ c.position.result c.position.ensures.ran
    (YieldsList-from_take c.args.most (YieldsList-at c.take.ensures.source (YieldsList-from_slice c.args.rest.now cc)) c.take.ensures.count) (λ x b q k. search (rules, tests)) in
    rw (c.unwrap_or.ensures, found, c.min-all.ensures) (sym (zeros-of c.args.rest.now c.args.most))
