use native.Mathlib.Omega.{arith}
use Rattle.std.proofs.lemmas.List.Edits.{paste_more}
use Rattle.reader.proofs.copy.Goals as goal

pub loop-i-preserved : goal.loop-i-preserved
loop-i-preserved c = let a = c.args in
    let i = c.loop-i.i in
    rw (c.loop-i.invariant)
    (paste_more a.area.now a.at a.octets.now i 0 (omega (arith, c.requires)) c.loop-i-test.true)
