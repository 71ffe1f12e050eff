-- `writer::stretch`.
use mathlib.Core.Path.{sym, ◌∙◌}
use native.Mathlib.Omega.{arith}
use lib.ListN.{length-take, length-drop}
use borrow.Author.Rules.{rules}
use Rattle.link.proofs.WriteOn.{Stretch}
use Rattle.writer.proofs.Steps.{inside-area, stays_alone, stretch-written}
use Rattle.writer.proofs.stretch.Goals as goal

pub behind-requires : goal.behind-requires
behind-requires c = let i = inside-area c.in-Some.lane 0 _ c.requires.0 c.in-Some.is (omega arith) in omega arith

pub slice_bounds-copy-end : goal.slice_bounds-copy-end
slice_bounds-copy-end c = let i = inside-area c.in-Some.lane c.min-n.result _ c.requires.0 c.in-Some.is (omega arith) in
    rw c.behind.ensures (simp (length-take, length-drop) (omega arith))

pub advance-requires : goal.advance-requires
advance-requires c = let i = inside-area c.in-Some.lane c.min-n.result _ c.requires.0 c.in-Some.is (omega arith) in (omega arith, i.counted)

pub returns : goal.returns
returns c = let l = c.in-Some.lane in
    let n = c.min-n.result in
    let i = inside-area l n _ c.requires.0 c.in-Some.is (omega arith) in
    let h : Stretch l n _ = record { ready = c.requires.0; on = c.in-Some.is; more = omega arith; alone = stays_alone l _ (sym c.gives_way.ensures ∙ c.if-gives_way.false) } in
    record {
      written_value = stretch-written l n _ _ _ _ _ h i (omega arith) (rw c.behind.ensures at c.copy.ensures) c.advance.ensures;
      in_bounds = omega arith;
      settings_value = search rules;
    }
