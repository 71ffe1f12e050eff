-- `fcs::register` meets its contract: it feeds the register from every bit set.
use Rattle.fcs.specs.CheckSequence.{register}
use Rattle.fcs.proofs.register.Goals as goal

pub returns : goal.returns
unfolding register
returns g c = rw (c.feed.ensures, c.START.ensures, g.met.R.Register.starts)
