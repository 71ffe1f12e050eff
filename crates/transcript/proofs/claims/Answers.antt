-- `transcript::claims`.
use Rattle.transcript.proofs.LinesOfReports.{lines-of-reports, refused-calls}
use Rattle.transcript.proofs.NothingLeftOut.{nothing-left-out, all-printed, all-counted}
use Rattle.transcript.proofs.claims.Goals as goal

pub returns : goal.returns
returns c = (lines-of-reports, refused-calls, nothing-left-out, all-printed, all-counted)
