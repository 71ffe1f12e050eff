-- `link::sender::Sender::low_sends_on`.
use Rattle.link.proofs.sender.Bounds.{low-due}
use Rattle.link.proofs.sender.Sender.low_sends_on.Goals as goal

pub returns-then-alone : goal.returns-then-alone
returns-then-alone c t = low-due _ c.if-alone.true (c.data_due.ensures t)
