-- `transcript::print_on`. The loop's invariant: printing on what is left, with the octets used so far, is printing from the start.
use mathlib.Core.Path.{◌≡◌}
use Prim.Native.Nat.{◌-◌, ◌≤◌}
use lib.ListN.{length}
use Rattle.lines.specs.Pages.{page_of}
use Rattle.transcript.specs.Transcript.{printed_after, print_on}
use Rattle.transcript.proofs.print_on.Given as goal

abbrev pub invariant-loop-state : goal.invariant-loop-state
invariant-loop-state l = (length l.rest ≤ length l.octets)
    × (l.page.area.ghost_name ≡ l.initial.page.area.ghost_name)
    × (print_on (record { state = l.initial.state; first = l.initial.first; second = l.initial.second }) l.octets (page_of l.initial.page)
    ≡ printed_after (length l.octets - length l.rest) (print_on (record { state = l.state; first = l.first; second = l.second }) l.rest (page_of l.page)))

abbrev pub decreases-loop-state : goal.decreases-loop-state
decreases-loop-state l = length l.rest
