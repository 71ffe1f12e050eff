-- `reader::claims`.
use Rattle.reader.proofs.NothingLost.{as-the-calls, first-then-rest, cuts, all-reported}
use Rattle.reader.proofs.claims.Goals as goal

pub returns : goal.returns
returns c = (as-the-calls, first-then-rest, cuts, all-reported)
