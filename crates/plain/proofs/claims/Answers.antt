-- `plain::claims`: the theorems.
use Rattle.plain.proofs.ReadBack.{sent-reads-back, removed-leave-no-trace, stuffing-cases}
use Rattle.plain.proofs.claims.Goals as goal

pub returns : goal.returns
returns c = (sent-reads-back, removed-leave-no-trace, stuffing-cases)
