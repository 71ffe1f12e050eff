-- `lines::write_octets`.
use Rattle.std.proofs.Common.{◌≡◌, ◌*◌, ◌+◌, arith, sym, ◌∙◌}
use lib.ListN.{length}
use lib.Seq.{drop-length}
use Rattle.lines.specs.Lines.{hex_octets}
use Rattle.lines.proofs.Hexadecimal.{octets-none, octets-length, next-stored, all-stored}
use Rattle.lines.proofs.write_octets.Goals as goal

pub loop-i-preserved : goal.loop-i-preserved
loop-i-preserved c = let i = c.loop-i.i in
    let e : 3 * (i + 1) ≡ 3 * i + 3 = omega arith in
    c.loop-i.invariant ∙ rw (e, c.hex_digit.ensures, c.hex_digit-in-loop-i.ensures) (next-stored c.loop-i.area c.args.list.now (3 * i) i (omega arith))

pub returns : goal.returns
returns c = let list = c.args.list.now in
    let done : c.loop-i.i ≡ length list = omega arith in
    sym (c.loop-i.invariant ∙ rw (done, drop-length list, octets-none)) ∙ all-stored c.args.area.now (hex_octets list) (omega (arith, octets-length list))
