-- Each turn takes a row.
use Rattle.std.proofs.Common.{length}
use Rattle.vectors.proofs.rows.compare_all.Given as goal

abbrev pub decreases-loop-row : goal.decreases-loop-row
decreases-loop-row g l = length l.left
