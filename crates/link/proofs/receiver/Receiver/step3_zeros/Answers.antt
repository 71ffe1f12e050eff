-- `link::receiver::Receiver::step3_zeros`.
use native.Mathlib.Omega.{arith}
use Rattle.link.proofs.Agreed.{decoded-at-most}
use Rattle.link.proofs.receiver.Receiver.step3_zeros.Goals as goal

pub overflow_cast-result : goal.overflow_cast-result
overflow_cast-result c = record { fits = omega (arith, decoded-at-most c.args.self.settings c.requires.0) }
