-- `lines::write_digits`.
use Rattle.std.proofs.Common.{◌≡◌, ◌+◌, ◌-◌, ◌%◌, ◌≤◌, ◌<◌, arith, sym, ◌∙◌}
use lib.ListN.{drop}
use lib.Seq.{drop-length}
use Rattle.std.proofs.lemmas.List.{append-nil}
use Rattle.lines.specs.Lines.{decimal}
use Rattle.lines.proofs.DecimalDigits.{count-some, count-more, decimal-one}
use Rattle.lines.proofs.DigitsWritten.{single, several, drop-here, more-digits}
use Rattle.lines.proofs.write_digits.Goals as goal

pub loop-i-init : goal.loop-i-init
loop-i-init c = let a = c.args in
    record {
      rest = λ h. (sym c.requires, rw (drop-length a.area.now, append-nil (decimal a.n)));
      all = λ z. absurd (omega (arith, count-some a.n));
    }

pub loop-i-preserved : goal.loop-i-preserved
loop-i-preserved c = let l = c.loop-i in
    let k = l.invariant.rest c.loop-i-test.true in
    let long = k.0 in
    let e : l.i - 1 + 1 ≡ l.i = omega arith in
    let here = drop-here l.area (l.i - 1) (48 + l.rest % 10) (omega arith) in
    record {
      rest = λ h. let ten : 10 ≤ l.rest = several l.rest (omega arith) in
          (omega (arith, count-more l.rest ten), k.1 ∙ more-digits l.rest (drop l.i l.area) ten ∙ rw (here, e));
      all = λ z. let one : l.i ≡ 1 = omega arith in
          let digit : l.rest < 10 = single l.rest (omega arith) in
          let same : l.rest % 10 ≡ l.rest = omega arith in
          rw (z, same) ((rw (z, same) at here) ∙ sym (k.1 ∙ rw (decimal-one l.rest digit, one)));
    }
