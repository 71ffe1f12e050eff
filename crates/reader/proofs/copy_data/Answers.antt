use native.Mathlib.Omega.{arith}
use lib.ListN.{length-map, get_or-map}
use Rattle.cobs.specs.CodeBlocks.{from_line}
use Rattle.std.proofs.lemmas.List.Edits.{paste_more}
use Rattle.reader.proofs.copy_data.Goals as goal

pub loop-i-preserved : goal.loop-i-preserved
loop-i-preserved c = let a = c.args in
    let i = c.loop-i.i in
    rw (c.loop-i.invariant, c.from_line.ensures, ← get_or-map from_line a.octets.now i 0)
    (paste_more a.area.now a.at _ i (from_line 0) (omega (arith, c.requires)) (rw length-map c.loop-i-test.true))
