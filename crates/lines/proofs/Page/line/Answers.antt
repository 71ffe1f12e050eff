-- `lines::Page::line`.
use Rattle.std.proofs.Common.{arith, [], ◌∷◌}
use Rattle.lines.specs.Lines.{space, decimal, hex_octets}
use Rattle.lines.proofs.Append.{append-two, append-three, fits-behind, no_room}
use Rattle.lines.proofs.Lengths.{line_of-length}
use Rattle.lines.proofs.Hexadecimal.{octets-length}
use Rattle.lines.proofs.Page.line.Goals as goal

pub number-requires-clause-room : goal.number-requires-clause-room
number-requires-clause-room c = fits-behind _ _ (c.args.letter ∷ space ∷ []) c.digits-count.result c.text.ensures.appended (grind arith)

pub returns-then-fits-clause-appended : goal.returns-then-fits-clause-appended
returns-then-fits-clause-appended c = let a = c.args in
    let o = octets-length a.list.now in
    let begun = a.letter ∷ space ∷ decimal a.n in
    append-three _ _ _ _ begun (hex_octets a.list.now) a.rest.now
    (append-two _ _ _ (a.letter ∷ space ∷ []) (decimal a.n) c.text.ensures.appended c.number.ensures.appended (grind arith))
    c.octets.ensures.appended c.text-then-fits.ensures.appended
    (grind arith)

pub returns-else-fits-clause-appended : goal.returns-else-fits-clause-appended
returns-else-fits-clause-appended c = let a = c.args in
    no_room _ _ _ (grind (arith, line_of-length a.letter a.n a.list.now a.rest.now))
