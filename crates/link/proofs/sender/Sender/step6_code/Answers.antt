-- `link::sender::Sender::step6_code`.
use native.Mathlib.Omega.{arith}
use Rattle.link.proofs.Agreed.{frame-at-most}
use Rattle.link.proofs.sender.Sender.step6_code.Goals as goal

pub cover-requires : goal.cover-requires
cover-requires c = omega (arith, c.requires.1, frame-at-most c.args.self.settings c.requires.0)
