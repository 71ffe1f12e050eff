-- The lines of a stretch, put on the page reading by reading.
use mathlib.Core.Path.{◌≡◌, refl, sym, ap, ◌∙◌}
use mathlib.Core.Bool.{Bool, true, false}
use mathlib.Core.List.{List, [], ◌∷◌}
use Prim.Native.Nat.{ℕ, suc, ◌+◌, ◌-◌, ◌≤◌, ◌<◌}
use native.Mathlib.Nat.{add-zero, add_assoc}
use native.Mathlib.Numerals.{one-add}
use native.Mathlib.Omega.{arith}
use borrow.Author.Tests.{lt-ltb, le-ltb}
use borrow.Author.Rules.{part_to_end}
use lib.ListN.{length, take, drop, length-drop}
use Rattle.link.specs.Answers.{quiet, is_quiet}
use Rattle.link.specs.Receiver.{ReceiverEnd, Receive, receive}
use Rattle.link.proofs.EachCall.{settings-stay}
use Rattle.reader.specs.Reading.{Reach, read_on}
use Rattle.reader.specs.NothingLost.{last_call}
use Rattle.reader.proofs.NothingLost.{is-quiet}
use Rattle.reader.proofs.Steps.{from-quiet, at-report}
use Rattle.lines.specs.Lines.{Page, append}
use Rattle.lines.proofs.Append.{append-none}
use Rattle.transcript.specs.Transcript.{line_of, longest_line, Transcript, printed_after, print_on}

-- Quiet has no line
pub quiet_line : (h : Receive) → is_quiet h.report ≡ true → line_of h ≡ []
unfolding line_of
quiet_line h q = rw (is-quiet h.report q)

quiet-page : (h : Receive) (p : Page) → is_quiet h.report ≡ true → append p (line_of h) ≡ p
quiet-page h p q = rw (quiet_line h q) (sym (append-none p))

-- octets used
abbrev having : Transcript → ℕ → Transcript
having t n = record { after = t.after; page = t.page; used = n }

behind-behind : (m n : ℕ) (t : Transcript) → printed_after m (printed_after n t) ≡ printed_after (m + n) t
behind-behind m n t = ap (having t) (sym (add_assoc m n t.used))

-- ---- a reading, and the line of its report

module _ (p : Page) where
  abbrev Read : ReceiverEnd → List ℕ → Reach → Type 0
  Read e xs r = print_on e xs p ≡ printed_after r.used (print_on r.after (drop r.used xs) (append p (line_of (last_call r))))

  one_more : (e : ReceiverEnd) (x : ℕ) (xs : List ℕ) (b : Bool) → is_quiet (receive e x).report ≡ b
      → p.filled + longest_line e.state.settings ≤ length p.area
      → Read (receive e x).after xs (read_on (receive e x).after xs)
      → Read e (x ∷ xs) (read_on e (x ∷ xs))
  unfolding print_on
  one_more e x xs true q room k =
      let h = receive e x in
      let s = read_on h.after xs in
      let t = print_on s.after (drop s.used xs) (append p (line_of (last_call s))) in
      let n : 1 + (s.used + t.used) ≡ suc s.used + t.used = omega arith in
      rw (from-quiet e x xs h refl q, one-add s.used, le-ltb _ _ room, quiet-page h p q) (ap (printed_after 1) k ∙ ap (having t) n)
  one_more e x xs false q room k = rw (at-report e x xs (receive e x) refl q, le-ltb _ _ room)

  one-reading : (e : ReceiverEnd) (xs : List ℕ) → p.filled + longest_line e.state.settings ≤ length p.area → Read e xs (read_on e xs)
  unfolding read_on print_on
  one-reading e [] room = rw (quiet-page (record { report = quiet; after = e }) p refl)
  one-reading e (x ∷ xs) room =
      one_more e x xs (is_quiet (receive e x).report) refl room (one-reading (receive e x).after xs (rw (settings-stay.receive e x) room))

-- reading on keeps the settings
kept_on : (e : ReceiverEnd) (x : ℕ) (xs : List ℕ) (b : Bool) → is_quiet (receive e x).report ≡ b
    → (read_on (receive e x).after xs).after.state.settings ≡ (receive e x).after.state.settings
    → (read_on e (x ∷ xs)).after.state.settings ≡ e.state.settings
kept_on e x xs true q k = rw (from-quiet e x xs (receive e x) refl q) (k ∙ settings-stay.receive e x)
kept_on e x xs false q k = rw (at-report e x xs (receive e x) refl q) (settings-stay.receive e x)

settings-read : (e : ReceiverEnd) (xs : List ℕ) → (read_on e xs).after.state.settings ≡ e.state.settings
unfolding read_on
settings-read e [] = refl
settings-read e (x ∷ xs) = kept_on e x xs (is_quiet (receive e x).report) refl (settings-read (receive e x).after xs)

pub settings-reached : (e : ReceiverEnd) (xs : List ℕ) (r : Reach) → r ≡ read_on e xs → r.after.state.settings ≡ e.state.settings
settings-reached e xs r k = ap (λ (s : Reach). s.after.state.settings) k ∙ settings-read e xs

-- ---- the loop

module _ (e : ReceiverEnd) (xs : List ℕ) (p : Page) where
  -- of m octets xs are left; a reading of them, as the code takes it, and the page with its line
  pub goes_on : (m : ℕ) (r : Reach) (q : Page) → length xs ≤ m → r ≡ read_on e xs → q ≡ append p (line_of (last_call r))
      → p.filled + longest_line e.state.settings ≤ length p.area
      → r.used ≤ length xs
      → (let left = take (length xs - r.used) (drop r.used xs) in printed_after (m - length xs) (print_on e xs p) ≡ printed_after (m - length left) (print_on r.after left q))
  goes_on m r q h k l room u =
      let n : m - length xs + r.used ≡ m - length (drop r.used xs) = omega (arith, length-drop r.used xs) in
      rw (part_to_end xs r.used, l, ← n, k) (ap (printed_after (m - length xs)) (one-reading p e xs room) ∙ behind-behind (m - length xs) (read_on e xs).used _)

-- all octets are used
pub is-used : (e : ReceiverEnd) (xs : List ℕ) (p : Page) (n : ℕ) → length xs ≡ 0 → printed_after n (print_on e xs p) ≡ record { after = e; page = p; used = n }
unfolding print_on
is-used e [] p n h = rw add-zero
is-used e (x ∷ xs) p n h = absurd (omega arith)

full : (e : ReceiverEnd) (xs : List ℕ) (p : Page) → length p.area < p.filled + longest_line e.state.settings → print_on e xs p ≡ record { after = e; page = p; used = 0 }
unfolding print_on
full e [] p h = refl
full e (x ∷ xs) p h = rw (lt-ltb _ _ h)

pub is-full : (e : ReceiverEnd) (xs : List ℕ) (p : Page) (n : ℕ) → length p.area < p.filled + longest_line e.state.settings
    → printed_after n (print_on e xs p) ≡ record { after = e; page = p; used = n }
is-full e xs p n h = rw (full e xs p h, add-zero n)
