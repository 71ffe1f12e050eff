-- `kutarehopa::plain_sender::marks_in`.
use mathlib.Core.Path.{sym, ◌∙◌}
use Rattle.std.proofs.lemmas.List.{get_or-take, get_or-drop}
use Rattle.kutarehopa.proofs.Spelling.{from_is}
use Rattle.kutarehopa.proofs.plain_sender.marks_in.Goals as goal

pub returns : goal.returns
returns c = let m = c.args.state.now in
    let copied = c.copy_from_slice.ensures in
    sym (from_is m _ 4 32 copied.len (λ j h. sym (rw copied.after (get_or-take 32 _ j 0 h ∙ get_or-drop 4 m j 0))))
