-- `writer::claims`: the theorems.
use Rattle.writer.proofs.Pieces.{however-cut, where-pieces-end, on-the-line}
use Rattle.writer.proofs.claims.Goals as goal

pub returns : goal.returns
returns c = (however-cut, where-pieces-end, on-the-line)
