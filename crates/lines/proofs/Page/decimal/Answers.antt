-- `lines::Page::decimal`.
use Rattle.std.proofs.Common.{arith}
use Rattle.lines.proofs.Append.{no_room}
use Rattle.lines.proofs.Page.decimal.Goals as goal

pub returns-else-fits-clause-appended : goal.returns-else-fits-clause-appended
returns-else-fits-clause-appended c = no_room _ _ _ (grind arith)
