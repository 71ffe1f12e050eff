-- `link::Settings::least_frame`.
use native.Mathlib.Omega.{arith}
use Rattle.link.proofs.Agreed.{fcs-at-most}
use Rattle.link.proofs.Settings.least_frame.Goals as goal

pub overflow_add-result : goal.overflow_add-result
overflow_add-result c = record { fits = omega (arith, c.fcs_length.ensures, fcs-at-most c.args.self) }
