-- `link::sender::LaneState::choose`.
use mathlib.Core.Path.{sym, ap, ◌∙◌}
use Rattle.cobs.specs.CodeBlocks.{choice}
use Rattle.link.proofs.D.{rest}
use Rattle.link.proofs.sender.LaneState.choose.Goals as goal

pub returns : goal.returns
returns c = let p = c.requires in
    c.choose.ensures ∙ ap (choice _) (sym (rest _ _ _ p.1 p.0))
