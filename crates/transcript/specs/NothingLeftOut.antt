-- Nothing is left out of what is printed and counted. Each is proved in proofs/NothingLeftOut.antt.
use mathlib.Core.List.{List, [], ◌∷◌, ◌++◌, flatten}
use Rattle.std.specs.Prelude.{◌≡◌, ℕ, zero, suc, ◌+◌, ◌≤◌, ◌<◌, length, take, drop}
use Rattle.link.specs.Receiver.{ReceiverEnd}
use Rattle.link.specs.Runs.{received}
use Rattle.reader.specs.NothingLost.{not_quiet_calls, reports}
use Rattle.tally.specs.declared.Tally.{Tally}
use Rattle.tally.specs.Sums.{noted}
use Rattle.transcript.specs.Transcript.{lines_of, longest_line, Transcript, print}

-- What is printed of a stretch, from the start of a page.
--   text: what is filled of the page is the lines of the calls for the octets used, in order
--   rest: behind it the page is as it was
--   after: the receiver and its areas are as these calls left them
--   long: the page keeps its length
--   most, least: no more octets are used than there are, and one at least where there are any and the page has room for the longest line
--   stops: where octets are left, the page has no more room for it
pub record Printing (e : ReceiverEnd) (xs : List ℕ) (page : List ℕ) (t : Transcript) : Type 0 where
  pub text : take t.page.filled t.page.area ≡ lines_of (not_quiet_calls e (take t.used xs))
  pub rest : drop t.page.filled t.page.area ≡ drop t.page.filled page
  pub after : t.after ≡ received e (take t.used xs)
  pub long : length t.page.area ≡ length page
  pub most : t.used ≤ length xs
  pub least : 0 < length xs → longest_line e.state.settings ≤ length page → 1 ≤ t.used
  pub stops : t.used < length xs → length page < t.page.filled + longest_line e.state.settings

abbrev pub NothingLeftOut : Type 0
NothingLeftOut = (e : ReceiverEnd) (xs : List ℕ) (page : List ℕ) → Printing e xs page (print e xs page)

-- ---- a program that reads a line in stretches

-- what is written, the receiver and its areas afterwards, and the page
pub record Output : Type 0 where
  pub text : List ℕ
  pub after : ReceiverEnd
  pub page : List ℕ

-- one stretch: a page of it is printed and what is filled of it written, until the stretch is used up, n times at most
unfoldable pub print_stretch : ℕ → ReceiverEnd → List ℕ → List ℕ → Output
print_stretch zero e xs page = record { text = []; after = e; page = page }
print_stretch (suc n) e [] page = record { text = []; after = e; page = page }
print_stretch (suc n) e (x ∷ xs) page =
    let t = print e (x ∷ xs) page in
    let u = print_stretch n t.after (drop t.used (x ∷ xs)) t.page.area in
    record { text = take t.page.filled t.page.area ++ u.text; after = u.after; page = u.page }

-- stretch after stretch, with as many pages at most as there are octets: more are never needed
unfoldable pub print_stretches : ReceiverEnd → List (List ℕ) → List ℕ → Output
print_stretches e [] page = record { text = []; after = e; page = page }
print_stretches e (xs ∷ xss) page =
    let t = print_stretch (length xs) e xs page in
    let u = print_stretches t.after xss t.page in
    record { text = t.text ++ u.text; after = u.after; page = u.page }

-- what is written of the octets xs is the lines of the calls for them, in order, and the receiver is theirs
pub record AllLines (e : ReceiverEnd) (xs : List ℕ) (page : List ℕ) (u : Output) : Type 0 where
  pub text : u.text ≡ lines_of (not_quiet_calls e xs)
  pub after : u.after ≡ received e xs
  pub long : length u.page ≡ length page

-- However the line is divided into stretches, and whatever page with room for the longest line is lent.
abbrev pub AllPrinted : Type 0
AllPrinted =
    (e : ReceiverEnd) (stretches : List (List ℕ)) (page : List ℕ) → longest_line e.state.settings ≤ length page
    → AllLines e (flatten stretches) page (print_stretches e stretches page)

-- ---- a program that counts

-- stretch after stretch, each with the counts and the receiver that the one before left
unfoldable pub count_stretches : Tally → ReceiverEnd → List (List ℕ) → Tally
count_stretches t e [] = t
count_stretches t e (xs ∷ xss) = count_stretches (noted t (reports e xs)) (received e xs) xss

-- However the line is divided into stretches, every report is noted once, in order.
abbrev pub AllCounted : Type 0
AllCounted = (t : Tally) (e : ReceiverEnd) (stretches : List (List ℕ)) → count_stretches t e stretches ≡ noted t (reports e (flatten stretches))
