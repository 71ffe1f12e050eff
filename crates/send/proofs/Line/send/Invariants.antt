-- Each turn sends an octet at least.
use Rattle.send.proofs.Line.send.Given as goal

abbrev pub decreases-loop-left : goal.decreases-loop-left
decreases-loop-left g l = l.left
