-- `link::Settings::largest_frame`.
use native.Mathlib.Omega.{arith}
use Rattle.link.proofs.Agreed.{limit_is, fcs-at-most}
use Rattle.link.proofs.Settings.largest_frame.Goals as goal

pub overflow_add-result : goal.overflow_add-result
overflow_add-result c = record { fits = omega (arith, c.fcs_length.ensures, fcs-at-most c.args.self) }

pub returns : goal.returns
returns c = rw (c.fcs_length.ensures, limit_is c.args.self)
