-- `lines::Page::number`.
use Rattle.lines.proofs.Append.{put-in}
use Rattle.lines.proofs.Page.number.Goals as goal

pub returns-clause-appended : goal.returns-clause-appended
returns-clause-appended c = put-in _ _ _ _ _ c.write_digits.ensures c.requires.digits c.requires.room
