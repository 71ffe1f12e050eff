-- Each record takes an octet at least.
use Rattle.std.proofs.Common.{◌≤◌, length}
use Rattle.send.proofs.Line.carry_out_all.Given as goal

abbrev pub invariant-loop-record : goal.invariant-loop-record
invariant-loop-record g l = length l.left ≤ length l.octets

abbrev pub decreases-loop-record : goal.decreases-loop-record
decreases-loop-record g l = length l.left
