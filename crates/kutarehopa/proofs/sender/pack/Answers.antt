-- `kutarehopa::sender::pack`.
use mathlib.Core.Path.{◌≡◌, ap, ◌∙◌}
use mathlib.Core.List.{List, ◌++◌}
use Prim.Native.Nat.{ℕ, ◌+◌}
use lib.ListN.{length, drop}
use borrow.Rule.Slice.PartMut.{put_mid}
use Rattle.std.proofs.Common.{rules}
use Rattle.std.proofs.lemmas.Slice.{overwrites}
use Rattle.std.specs.Prelude.{replicate}
use Rattle.kutarehopa.specs.Layout.{sender_octets}
use Rattle.kutarehopa.proofs.sender.pack.Goals as goal

put_mid-behind : (a k : ℕ) (xs ys m : List ℕ) → length xs ≡ a → put_mid a k (xs ++ drop a m) ys ≡ xs ++ (ys ++ drop (a + k) m)
put_mid-behind a k xs ys m e = search (rules, overwrites)

pub returns : goal.returns
unfolding sender_octets
returns c = let m = c.args.state.now in
    let zeros : c.fill.new.self ≡ replicate 20 0 = search rules in
    rw zeros (put_mid-behind 18 20 c.copy_from_slice.new.self (replicate 20 0) m (ap length c.copy_from_slice.ensures.after) ∙ rw (c.copy_from_slice.ensures.after, c.line_octet.ensures) (search rules))
