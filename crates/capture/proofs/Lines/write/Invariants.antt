-- Each page uses an octet at least, and the settings stay.
use Rattle.std.proofs.Common.{◌≡◌, length}
use Rattle.capture.proofs.Lines.write.Given as goal

abbrev pub invariant-loop-rest : goal.invariant-loop-rest
invariant-loop-rest g l = l.self.state.settings ≡ l.initial.self.state.settings

abbrev pub decreases-loop-rest : goal.decreases-loop-rest
decreases-loop-rest g l = length l.rest
