-- `lines::Page::report`.
use Rattle.std.proofs.Common.{◌≡◌, if◌then◌else◌}
use Rattle.lines.specs.Lines.{report_line}
use Rattle.lines.proofs.Append.{append-none}
use Rattle.lines.proofs.Hexadecimal.{octets-none}
use Rattle.lines.proofs.Page.report.Goals.{then-replaced, else-replaced}
use Rattle.lines.proofs.Page.report.Goals as goal

pub returns-in-Quiet-clause-appended : goal.returns-in-Quiet-clause-appended
unfolding report_line
returns-in-Quiet-clause-appended c = rw c.in-Quiet.is (append-none _)

pub returns-in-Packet-clause-appended : goal.returns-in-Packet-clause-appended
unfolding report_line
returns-in-Packet-clause-appended c = rw c.in-Packet.is c.line.ensures.appended

pub returns-after-replaced-clause-appended : goal.returns-after-replaced-clause-appended
unfolding report_line
returns-after-replaced-clause-appended c =
    let told : c.if-replaced.mark ≡ (if c.in-Held.replaced then 0x31 else 0x30) =
    elim c.if-replaced.branch [ then-replaced w ↦ rw w.if-replaced.true w.mark-is | else-replaced w ↦ rw w.if-replaced.false w.mark-is ] in
    rw (c.in-Held.is, ← told) (rw octets-none at c.line-in-Held.ensures.appended)

pub returns-in-Refused-clause-appended : goal.returns-in-Refused-clause-appended
unfolding report_line
returns-in-Refused-clause-appended c = rw c.in-Refused.is (rw octets-none at c.line-in-Refused.ensures.appended)
