-- `transcript::longest_line`.
use Rattle.link.proofs.Agreed.{limit_is}
use Rattle.transcript.proofs.longest_line.Goals as goal

pub returns : goal.returns
returns c = rw (limit_is c.args.settings)
