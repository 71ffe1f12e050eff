-- `lines::digits`.
use Rattle.std.proofs.Common.{◌∙◌, ap, ◌+◌}
use Rattle.lines.proofs.DigitsWritten.{count-of}
use Rattle.lines.proofs.digits.Goals as goal

pub returns-clause-count : goal.returns-clause-count
returns-clause-count c = let log = c.checked_ilog10.ensures in
    ap (λ k. k + 1) c.unwrap_or.ensures ∙ count-of c.args.n c.checked_ilog10.result log.none log.power_le log.next_power_gt
