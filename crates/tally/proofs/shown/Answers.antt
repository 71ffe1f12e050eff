-- `tally::shown`.
use Rattle.std.proofs.Common.{rules}
use Rattle.tally.specs.Display.{front}
use Rattle.tally.proofs.shown.Goals as goal

pub returns : goal.returns
unfolding front
returns c = search rules
