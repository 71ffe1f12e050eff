-- What is shown of a Packet report is the packet that it stands for; of a length beyond the area nothing is shown.
use mathlib.Core.List.{List, []}
use mathlib.Core.Option.{some}
use mathlib.Core.Path.{◌≡◌, sym, ap, subst, ◌∙◌}
use Prim.Native.Nat.{ℕ, ◌≤◌, ◌<◌}
use native.Mathlib.Omega.{arith}
use borrow.Author.Tests.{le-leb, lt-leb}
use lib.Dec.{leb}
use lib.ListN.{length, take, length-take}
use Rattle.cobs.proofs.Tests.{branch}
use Rattle.link.specs.Agreed.{agreed}
use Rattle.link.specs.Answers.{Answer}
use Rattle.link.specs.Receiver.{area_of, receive}
use Rattle.link.specs.Runs.{stands_for}
use Rattle.link.specs.EachCall.{Within}
use Rattle.link.proofs.Within.{within}
use Rattle.tally.specs.Display.{front, ShowsThePacket, WithinTheArea, BeyondTheArea}

front-all : (n : ℕ) (area : List ℕ) → n ≤ length area → take n area ≡ front n area
unfolding front
front-all n area h = rw (le-leb n (length area) h)

front-none : (n : ℕ) (area : List ℕ) → length area < n → front n area ≡ []
unfolding front
front-none n area h = rw (lt-leb n (length area) h)

-- no more than n octets are shown
pub front-most : (n : ℕ) (area : List ℕ) → length (front n area) ≤ n
unfolding front
front-most n area = branch (λ (l : List ℕ). length l ≤ n) (leb n (length area)) (λ _. omega (arith, length-take n area)) (λ _. omega arith)

pub shows-the-packet : ShowsThePacket
shows-the-packet e x second n p =
    let after = (receive e x).after in
    let l : n ≤ length (area_of second after) = (subst (λ (a : Answer). Within (agreed e.state.settings) a after) p (within e x)).0 in
    ap (λ (a : Answer). stands_for a after) p ∙ ap some (front-all n (area_of second after) l)

pub beyond-the-area : BeyondTheArea
beyond-the-area = record { in_first = λ n first second h. front-none n first h; in_second = λ n first second h. front-none n second h }

pub within-the-area : WithinTheArea
within-the-area = record { in_first = λ n first second h. sym (front-all n first h); in_second = λ n first second h. sym (front-all n second h) }
