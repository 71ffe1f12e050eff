-- `lines::write_digits`. The digits of the rest, before those that are written, are those of n, until all are.
use Rattle.std.proofs.Common.{◌≡◌, ◌<◌, ◌++◌, length, drop}
use Rattle.lines.specs.Lines.{decimal}
use Rattle.lines.proofs.write_digits.Given as goal

abbrev pub invariant-loop-i : goal.invariant-loop-i
invariant-loop-i l =
    record {
      rest : 0 < l.i → (length (decimal l.rest) ≡ l.i) × (decimal l.n ≡ decimal l.rest ++ drop l.i l.area);
      all : l.i ≡ 0 → l.area ≡ decimal l.n;
    }
