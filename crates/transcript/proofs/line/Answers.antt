-- `transcript::line`: no report.
use mathlib.Core.Path.{sym, ◌∙◌}
use Rattle.lines.proofs.Append.{append-none}
use Rattle.transcript.proofs.line.Goals as goal

pub returns-else-is_report-clause-appended : goal.returns-else-is_report-clause-appended
returns-else-is_report-clause-appended c = rw (sym c.is_report.ensures ∙ c.if-is_report.false) (append-none _)
