-- `tally::Tally::note`.
use Rattle.std.proofs.Common.{rules, ◌≡◌, Some, arith}
use lib.ListN.{get_or}
use Rattle.link.specs.Answers.{report_answer}
use Rattle.tally.specs.Counts.{place, raised, note}
use Rattle.tally.proofs.Sums.{raised_is}
use Rattle.tally.proofs.Tally.note.Goals as goal

-- one count raised
pub returns-in-Some : goal.returns-in-Some
unfolding note
returns-in-Some c =
    let here : place (report_answer c.args.report) ≡ Some c.in-Some.place = cc in
    let count = get_or c.args.self.counts c.in-Some.place 0 in
    let more : c.saturating_add.result ≡ raised count = omega (arith, raised_is count (omega arith)) in
    rw (here, more)

-- no count
pub returns-in_default : goal.returns-in_default
unfolding note
returns-in_default c = search rules
