-- `link::Settings::most_decoded`.
use native.Mathlib.Omega.{arith}
use Rattle.link.proofs.Agreed.{limit_is, fcs-at-most}
use Rattle.link.proofs.Settings.most_decoded.Goals as goal

pub overflow_add-result : goal.overflow_add-result
overflow_add-result c = let t = c.args.self in record { fits = omega (arith, c.largest_frame.ensures, limit_is t, fcs-at-most t) }
