-- `link::sender::Sender::step5_data`.
use native.Mathlib.Omega.{arith}
use Rattle.link.proofs.Agreed.{frame-at-most}
use Rattle.link.proofs.sender.Sender.step5_data.Goals as goal

pub cover-requires : goal.cover-requires
cover-requires c = let p = c.requires.1 in omega (arith, p.in_d, p.short, c.requires.0, frame-at-most c.args.self.settings p.valid)
