-- `fcs::fcs` meets its contract: the octets are those of the complement of the register.
use Rattle.fcs.specs.CheckSequence.{fcs}
use Rattle.fcs.proofs.fcs.Goals as goal

pub returns : goal.returns
unfolding fcs
returns g c = rw (c.to_fcs.ensures, c.register.ensures)
