-- `link::receiver::Receiver::plain_data`.
use native.Mathlib.Omega.{arith}
use Rattle.link.proofs.Agreed.{frame-at-most}
use Rattle.link.proofs.receiver.Receiver.plain_data.Goals as goal

pub overflow_cast-result : goal.overflow_cast-result
overflow_cast-result c = record { fits = omega (arith, frame-at-most c.args.self.settings c.requires.0) }
