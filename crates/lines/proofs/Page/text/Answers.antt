-- `lines::Page::text`.
use Rattle.std.proofs.Common.{arith, refl}
use Rattle.lines.proofs.Append.{put-in, no_room}
use Rattle.lines.proofs.Page.text.Goals as goal

pub returns-then-fits-clause-appended : goal.returns-then-fits-clause-appended
returns-then-fits-clause-appended c = put-in _ _ _ _ _ c.copy_from_slice.ensures.after refl (omega arith)

pub returns-else-fits-clause-appended : goal.returns-else-fits-clause-appended
returns-else-fits-clause-appended c = no_room _ _ _ (grind arith)
