-- `lines::Page::octets`.
use Rattle.std.proofs.Common.{arith, sym}
use Rattle.lines.proofs.Append.{put-in, no_room}
use Rattle.lines.proofs.Hexadecimal.{octets-length}
use Rattle.lines.proofs.Page.octets.Goals as goal

pub returns-then-fits-clause-appended : goal.returns-then-fits-clause-appended
returns-then-fits-clause-appended c = put-in _ _ _ _ _ c.write_octets.ensures (sym (octets-length c.args.list.now)) (omega arith)

pub returns-else-fits-clause-appended : goal.returns-else-fits-clause-appended
returns-else-fits-clause-appended c = no_room _ _ _ (grind (arith, octets-length))
