-- `fcs::check32::U32Register::to_fcs` meets its contract: `to_le_bytes` has the low octets, low octet first.
use mathlib.Core.Path.{sym, ◌∙◌}
use Rattle.fcs.specs.CheckSequence.{check32, complement}
use Rattle.fcs.proofs.Octets.{octets-of}
use Rattle.fcs.proofs.check32.U32Register.to_fcs.Goals as goal

pub returns : goal.returns
returns c = c.to_le_bytes.ensures ∙ sym (octets-of 4 (complement check32 c.args.self))
