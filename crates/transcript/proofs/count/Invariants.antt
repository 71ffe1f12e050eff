-- `transcript::count`. The loop's invariant: noting the reports of what is left, from where the loop is, is noting those of all octets.
use mathlib.Core.Path.{◌≡◌}
use lib.ListN.{length}
use Rattle.link.specs.Runs.{received}
use Rattle.reader.specs.NothingLost.{reports}
use Rattle.tally.specs.Sums.{noted}
use Rattle.transcript.proofs.count.Given as goal

abbrev pub invariant-loop-rest : goal.invariant-loop-rest
invariant-loop-rest l =
    (noted l.initial.counts (reports (record { state = l.initial.state; first = l.initial.first; second = l.initial.second }) l.octets)
    ≡ noted l.counts (reports (record { state = l.state; first = l.first; second = l.second }) l.rest))
    × (received (record { state = l.initial.state; first = l.initial.first; second = l.initial.second }) l.octets
    ≡ received (record { state = l.state; first = l.first; second = l.second }) l.rest)

abbrev pub decreases-loop-rest : goal.decreases-loop-rest
decreases-loop-rest l = length l.rest
