-- `fcs::check16::U16Register::to_fcs` meets its contract: `to_le_bytes` has the low octets, low octet first.
use mathlib.Core.Path.{sym, ◌∙◌}
use Rattle.fcs.specs.CheckSequence.{check16, complement}
use Rattle.fcs.proofs.Octets.{octets-of}
use Rattle.fcs.proofs.check16.U16Register.to_fcs.Goals as goal

pub returns : goal.returns
returns c = c.to_le_bytes.ensures ∙ sym (octets-of 2 (complement check16 c.args.self))
