-- `writer::write_on` meets its contract. The loop's invariant: writing on from where the loop is, behind the octets that are on the line, is
-- writing on from the start.
use mathlib.Core.Path.{◌≡◌}
use Prim.Native.Nat.{◌-◌, ◌≤◌}
use lib.ListN.{length}
use Rattle.writer.specs.Writing.{write_on, onto, from_place}
use Rattle.writer.proofs.write_on.Given as goal

abbrev pub invariant-loop-filled : goal.invariant-loop-filled
invariant-loop-filled l = (l.filled ≤ length l.line)
    × (l.end.settings ≡ l.settings)
    × (onto l.initial.line (write_on (length l.initial.line) (record { state = l.initial.end; low = l.low; high = l.high }))
    ≡ from_place l.filled l.line (write_on (length l.line - l.filled) (record { state = l.end; low = l.low; high = l.high })))

abbrev pub decreases-loop-filled : goal.decreases-loop-filled
decreases-loop-filled l = length l.initial.line - l.filled
