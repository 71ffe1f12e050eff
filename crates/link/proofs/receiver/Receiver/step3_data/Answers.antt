-- `link::receiver::Receiver::step3_data`.
use native.Mathlib.Omega.{arith}
use Rattle.link.proofs.Agreed.{decoded-at-most}
use Rattle.link.proofs.receiver.Receiver.step3_data.Goals as goal

pub overflow_cast-decoded : goal.overflow_cast-decoded
overflow_cast-decoded c = record { fits = omega (arith, decoded-at-most c.args.self.settings c.requires.1.0) }
