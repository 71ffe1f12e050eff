-- `link::sender::Sender::high_sends_on`.
use Rattle.link.proofs.sender.Bounds.{high-due}
use Rattle.link.proofs.sender.Sender.high_sends_on.Goals.{then-in_order, else-in_order}
use Rattle.link.proofs.sender.Sender.high_sends_on.Goals as goal

pub returns-then-in_bounds : goal.returns-then-in_bounds
returns-then-in_bounds c t =
    elim c.if-in_order.branch [
      | then-in_order w ↦ high-due _ w.if-in_order.true (cc) (c.data_due.ensures t)
      | else-in_order w ↦ absurd (cc)
    ]
