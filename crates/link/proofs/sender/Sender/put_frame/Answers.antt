-- `link::sender::Sender::put_frame`.
use Rattle.link.specs.Agreed.{agreed}
use native.Mathlib.Omega.{arith}
use Rattle.link.proofs.Agreed.{limit-at-most, fcs-at-most}
use Rattle.link.proofs.sender.Load.{put_is}
use Rattle.link.proofs.sender.Sender.put_frame.Goals as goal

pub overflow_cast-frame : goal.overflow_cast-frame
overflow_cast-frame c =
    let t = c.args.self.now.settings in
    record { fits = omega (arith, c.fcs_length.ensures, c.requires.1, limit-at-most (agreed t) c.requires.0, fcs-at-most t) }

pub returns : goal.returns
returns c = let a = c.args in
    rw (c.with_lane.ensures, c.fcs_length.ensures, c.put_fcs.ensures, c.copy.ensures)
    (put_is (agreed a.self.now.settings) a.lane a.packet.now a.self.now a.area.now)
