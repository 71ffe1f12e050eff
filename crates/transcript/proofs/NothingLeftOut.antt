-- Nothing is left out of what is printed and counted.
use mathlib.Core.Logic.{⊎_elim}
use mathlib.Core.Path.{◌≡◌, refl, sym, ap, ◌∙◌}
use mathlib.Core.Bool.{Bool, true, false}
use mathlib.Core.List.{List, [], ◌∷◌, ◌++◌, append_assoc, flat_map, flatten, foldl-append}
use Prim.Native.Nat.{ℕ, zero, suc, ◌+◌, ◌≤◌, ◌<◌}
use native.Mathlib.Nat.{zero-add}
use native.Mathlib.Numerals.{one-add}
use native.Mathlib.Omega.{arith}
use borrow.Author.Tests.{ltb-true, ltb-false}
use lib.Dec.{ltb}
use lib.ListN.{length, take, drop, length-append, length-drop, take-append-drop}
use lib.Seq.{take-append_seam, drop-append_seam}
use Rattle.cobs.proofs.Tests.{branch, decide}
use Rattle.link.specs.Agreed.{agreed, valid}
use Rattle.link.specs.declared.Settings.{Settings}
use Rattle.link.specs.Answers.{Answer, done, octet, idle, quiet, packet, held, refused, is_quiet}
use Rattle.link.specs.Receiver.{ReceiverEnd, Receive, area_of, receive}
use Rattle.link.specs.Runs.{receives, received, not_quiet}
use Rattle.link.specs.EachCall.{Within}
use Rattle.link.proofs.Agreed.{limit-at-most, decoded-at-most}
use Rattle.link.proofs.EachCall.{valid-first, settings-stay}
use Rattle.link.proofs.Within.{within}
use Rattle.reader.specs.NothingLost.{not_quiet_calls, reports}
use Rattle.reader.proofs.NothingLost.{received-append, cuts}
use Rattle.tally.specs.Counts.{note}
use Rattle.tally.specs.Sums.{noted, is_counted}
use Rattle.tally.proofs.Packet.{front-most}
use Rattle.lines.specs.Lines.{Page, append, report_line}
use Rattle.lines.proofs.Append.{written, append-none, append-append, page-length}
use Rattle.lines.proofs.Lengths.{report-most}
use Rattle.transcript.specs.Transcript.{shown_of, line_of, lines_of, longest_line, Transcript, printed_after, print_on, print}
use Rattle.transcript.specs.NothingLeftOut.{NothingLeftOut, Output, print_stretch, print_stretches, AllLines, AllPrinted, count_stretches, AllCounted}
use Rattle.transcript.proofs.Printing.{quiet_line}

-- ---- no line is longer than the longest

fits : (settings : Settings) → valid (agreed settings) ≡ true → (a : Answer) (e : ReceiverEnd) → Within (agreed settings) a e
    → length (report_line a (shown_of a e.first e.second)) ≤ longest_line settings
fits s v (packet second n) e w =
    let m : n < 65536 = omega (arith, w.1, limit-at-most (agreed s) v) in
    omega (arith, w.1, report-most (packet second n) (shown_of (packet second n) e.first e.second) m, front-most n (area_of second e))
fits s v (held n replaced) e w = omega (arith, report-most (held n replaced) [] (omega (arith, w, decoded-at-most s v)))
fits s v (refused n) e w = omega (arith, report-most (refused n) [] (⊎_elim (λ l. omega arith) (⊎_elim (λ q. omega arith) (λ q. omega arith)) w.1))
fits s v quiet e w = omega (arith, report-most quiet [] (omega arith))
fits s v done e w = omega (arith, report-most done [] (omega arith))
fits s v (octet x) e w = omega (arith, report-most (octet x) [] (omega arith))
fits s v idle e w = omega (arith, report-most idle [] (omega arith))

-- with settings that are not valid the call is refused, and has none
pub line-most : (e : ReceiverEnd) (x : ℕ) → length (line_of (receive e x)) ≤ longest_line e.state.settings
unfolding line_of
line-most e x =
    let h = receive e x in
    let t = e.state.settings in
    decide (valid (agreed t))
    (λ v. branch (λ (l : List ℕ). length l ≤ longest_line t) (is_counted h.report) (λ _. fits t v h.report h.after (within e x)) (λ _. omega arith))
    (λ n. rw (valid-first.receive e x n) (omega arith))

-- ---- the line of the first call, and those of the others

lines-by : (h : Receive) (hs : List Receive) (b : Bool) → is_quiet h.report ≡ b → lines_of (not_quiet (h ∷ hs)) ≡ line_of h ++ lines_of (not_quiet hs)
unfolding lines_of flat_map not_quiet
lines-by h hs true q = simp (q, quiet_line h q)
lines-by h hs false q = simp q

lines_cons : (e : ReceiverEnd) (x : ℕ) (xs : List ℕ)
    → lines_of (not_quiet_calls e (x ∷ xs)) ≡ line_of (receive e x) ++ lines_of (not_quiet_calls (receive e x).after xs)
unfolding receives
lines_cons e x xs = lines-by (receive e x) (receives (receive e x).after xs) (is_quiet (receive e x).report) refl

-- ---- octet by octet, from any page

record Goes (e : ReceiverEnd) (xs : List ℕ) (p : Page) (t : Transcript) : Type 0 where
  page : t.page ≡ append p (lines_of (not_quiet_calls e (take t.used xs)))
  room : p.filled + length (lines_of (not_quiet_calls e (take t.used xs))) ≤ length p.area
  after : t.after ≡ received e (take t.used xs)
  most : t.used ≤ length xs
  least : 0 < length xs → p.filled + longest_line e.state.settings ≤ length p.area → 1 ≤ t.used
  stops : t.used < length xs → length p.area < t.page.filled + longest_line e.state.settings

stays : (e : ReceiverEnd) (xs : List ℕ) (p : Page) → p.filled ≤ length p.area → (0 < length xs → length p.area < p.filled + longest_line e.state.settings)
    → Goes e xs p (record { after = e; page = p; used = 0 })
unfolding lines_of flat_map not_quiet receives received
stays e xs p h s = record { page = append-none p; room = omega arith; after = refl; most = omega arith; least = λ l r. absurd (omega (arith, s l)); stops = s }

module _ (e : ReceiverEnd) (x : ℕ) (xs : List ℕ) (p : Page) (room : p.filled + longest_line e.state.settings ≤ length p.area) where
  abbrev h : Receive
  h = receive e x

  abbrev q : Page
  q = append p (line_of h)

  q-filled : q.filled ≡ p.filled + length (line_of h)
  q-filled = ap (λ (r : Page). r.filled) (written p.area p.filled (line_of h) (omega (arith, line-most e x)))

  q-long : length q.area ≡ length p.area
  q-long = page-length p q (line_of h) refl

  q-within : q.filled ≤ length q.area
  q-within = omega (arith, q-filled, q-long, line-most e x)

  one_line : (t : Transcript) → Goes h.after xs q t → Goes e (x ∷ xs) p (printed_after 1 t)
  unfolding received
  one_line t k =
      let ls = lines_of (not_quiet_calls h.after (take t.used xs)) in
      let r : p.filled + length (line_of h) + length ls ≤ length p.area = omega (arith, k.room, q-filled, q-long) in
      let c = lines_cons e x (take t.used xs) in
      rw (one-add t.used)
      (record {
        page = rw c (k.page ∙ append-append p (line_of h) ls r);
        room = rw c (omega (arith, length-append (line_of h) ls, r));
        after = k.after;
        most = omega (arith, k.most);
        least = λ _ _. omega arith;
        stops = λ l. omega (arith, k.stops (omega arith), ap longest_line (settings-stay.receive e x), q-long);
      })

goes : (e : ReceiverEnd) (xs : List ℕ) (p : Page) → p.filled ≤ length p.area → Goes e xs p (print_on e xs p)
unfolding print_on
goes e [] p h = stays e [] p h (λ l. absurd (omega arith))
goes e (x ∷ xs) p h =
    branch (Goes e (x ∷ xs) p) (ltb (length p.area) (p.filled + longest_line e.state.settings))
    (λ b. stays e (x ∷ xs) p h (λ _. ltb-true _ _ b))
    (λ b. let room = ltb-false (length p.area) (p.filled + longest_line e.state.settings) b in
    one_line e x xs p room _ (goes (receive e x).after xs (append p (line_of (receive e x))) (q-within e x xs p room)))

-- ---- from the start of a page

pub nothing-left-out : NothingLeftOut
nothing-left-out e xs page =
    let t = print e xs page in
    let k = goes e xs (record { area = page; filled = 0 }) (omega arith) in
    let ls = lines_of (not_quiet_calls e (take t.used xs)) in
    let w = k.page ∙ written page 0 ls k.room in
    let n : t.page.filled ≡ length ls = ap (λ (r : Page). r.filled) w ∙ zero-add (length ls) in
    let a : t.page.area ≡ ls ++ drop (length ls) page = ap (λ (r : Page). r.area) w ∙ rw (zero-add (length ls)) in
    record {
      text = rw (n, a) (take-append_seam ls (drop (length ls) page));
      rest = rw (n, a) (drop-append_seam ls (drop (length ls) page));
      after = k.after;
      long = page-length _ _ ls k.page;
      most = k.most;
      least = λ l r. k.least l (omega (arith, r));
      stops = k.stops;
    }

-- ---- a program that reads a line in stretches

settings-received : (e : ReceiverEnd) (xs : List ℕ) → (received e xs).state.settings ≡ e.state.settings
unfolding received
settings-received e [] = refl
settings-received e (x ∷ xs) = settings-received (receive e x).after xs ∙ settings-stay.receive e x

-- what holds of the numbers of a page printed, and of the settings
pub record Bounds (e : ReceiverEnd) (xs page : List ℕ) (t : Transcript) : Type 0 where
  pub most : t.used ≤ length xs
  pub filled : t.page.filled ≤ length page
  pub least : 0 < length xs → longest_line e.state.settings ≤ length page → 1 ≤ t.used
  pub settings : t.after.state.settings ≡ e.state.settings

pub within-bounds : (e : ReceiverEnd) (xs page : List ℕ) (t : Transcript) → t ≡ print e xs page → Bounds e xs page t
within-bounds e xs page t q =
    let p = print e xs page in
    let k = goes e xs (record { area = page; filled = 0 }) (omega arith) in
    let ls = lines_of (not_quiet_calls e (take p.used xs)) in
    let n : p.page.filled ≡ length ls = ap (λ (r : Page). r.filled) (k.page ∙ written page 0 ls k.room) ∙ zero-add (length ls) in
    rw q
    (record {
      most = k.most;
      filled = omega (arith, n, k.room);
      least = λ l r. k.least l (omega (arith, r));
      settings = ap (λ (f : ReceiverEnd). f.state.settings) k.after ∙ settings-received e (take p.used xs);
    })

lines-append : (hs ks : List Receive) → lines_of (hs ++ ks) ≡ lines_of hs ++ lines_of ks
unfolding lines_of flat_map
lines-append [] ks = refl
lines-append (h ∷ hs) ks = rw (append_assoc (line_of h)) (ap (λ (l : List ℕ). line_of h ++ l) (lines-append hs ks))

-- two stretches after each other
joined : (e f : ReceiverEnd) (xs ys page t : List ℕ) (u : Output) → t ≡ lines_of (not_quiet_calls e xs) → f ≡ received e xs → AllLines f ys page u
    → AllLines e (xs ++ ys) page (record { text = t ++ u.text; after = u.after; page = u.page })
joined e f xs ys page t u p q k =
    record {
      text = rw (p, k.text, q, (cuts e xs ys).calls) (sym (lines-append (not_quiet_calls e xs) (not_quiet_calls (received e xs) ys)));
      after = rw (k.after, q, received-append e xs ys);
      long = k.long;
    }

none : (e : ReceiverEnd) (page : List ℕ) → AllLines e [] page (record { text = []; after = e; page = page })
unfolding lines_of flat_map not_quiet receives received
none e page = record { text = refl; after = refl; long = refl }

stretch : (n : ℕ) (e : ReceiverEnd) (xs page : List ℕ) → length xs ≤ n → longest_line e.state.settings ≤ length page → AllLines e xs page (print_stretch n e xs page)
unfolding print_stretch
stretch zero e [] page l r = none e page
stretch zero e (x ∷ xs) page l r = absurd (omega arith)
stretch (suc n) e [] page l r = none e page
stretch (suc n) e (x ∷ xs) page l r =
    let ys = x ∷ xs in
    let t = print e ys page in
    let k = nothing-left-out e ys page in
    let s : length (drop t.used ys) ≤ n = simp length-drop (omega (arith, k.least (omega arith) r)) in
    let m = stretch n t.after (drop t.used ys) t.page.area s (rw (k.after, settings-received e (take t.used ys)) (omega (arith, k.long))) in
    let w = rw (take-append-drop t.used ys) at (joined e t.after (take t.used ys) (drop t.used ys) t.page.area _ _ k.text k.after m) in
    record { text = w.text; after = w.after; long = w.long ∙ k.long }

pub all-printed : AllPrinted
unfolding print_stretches flatten
all-printed e [] page r = none e page
all-printed e (xs ∷ xss) page r =
    let k = stretch (length xs) e xs page (omega arith) r in
    let m = all-printed (print_stretch (length xs) e xs page).after xss (print_stretch (length xs) e xs page).page (rw (k.after, settings-received e xs) (omega (arith, k.long))) in
    let j = joined e _ xs (flatten xss) _ _ _ k.text k.after m in
    record { text = j.text; after = j.after; long = j.long ∙ k.long }

-- ---- a program that counts

pub all-counted : AllCounted
unfolding count_stretches flatten not_quiet receives
all-counted t e [] = refl
all-counted t e (xs ∷ xss) =
    all-counted (noted t (reports e xs)) (received e xs) xss
    ∙ sym (foldl-append note t (reports e xs) (reports (received e xs) (flatten xss)))
    ∙ ap (noted t) (sym (cuts e xs (flatten xss)).answers)
