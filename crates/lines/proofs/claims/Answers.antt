-- `lines::claims`.
use Rattle.lines.proofs.DecimalDigits.{decimal_step}
use Rattle.lines.proofs.Lengths.{report-most}
use Rattle.lines.proofs.Marked.{marked}
use Rattle.lines.proofs.claims.Goals as goal

pub returns : goal.returns
returns c = (decimal_step, report-most, marked)
