use Rattle.std.proofs.Common.{sym}
use Rattle.std.proofs.lemmas.Result.{err_from_is_err_and}
use Rattle.files.proofs.Program.each_capture.Goals as goal

pub returns-in_err-each : goal.returns-in_err-each
returns-in_err-each g c =
    let p = err_from_is_err_and c.from_residual.result c.from_residual.ensures.1 in rw (p.1, p.2, sym c.in_err-each.was) (c.loop-number.each, _, _, _, _, c.each.new.self, c.each.ensures)
