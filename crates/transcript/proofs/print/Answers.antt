-- `transcript::print`. The numbers are those of the page that the definition prints.
use Rattle.transcript.proofs.NothingLeftOut.{within-bounds}
use Rattle.transcript.proofs.print.Goals as goal

pub returns-clause-used_in_bounds : goal.returns-clause-used_in_bounds
returns-clause-used_in_bounds c =
    let b = within-bounds (record { state = c.args.state.now; first = c.args.first.now; second = c.args.second.now }) c.args.octets.now c.args.page.now _ c.print_on-used.ensures.used_after in
    (b.most, b.filled, b.least, b.settings)
