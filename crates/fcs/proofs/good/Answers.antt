-- `fcs::good` meets its contract: it compares the register with the good end.
use mathlib.Core.Path.{◌≡◌, ap, ◌∙◌}
use Rattle.fcs.specs.CheckSequence.{good}
use Rattle.fcs.proofs.good.Goals as goal

pub returns : goal.returns
unfolding good
returns g c = let r = g.R.Register in
    let end : r.value c.GOOD_END.result ≡ r.check.good_end = ap r.value c.GOOD_END.ensures ∙ g.met.R.Register.ends in
    rw (c.eq.ensures, g.met.R.Register.same c.register.result c.GOOD_END.result, c.register.ensures, end)
