-- Reading on, octet by octet, at the numbers of the loop.
use mathlib.Core.Path.{◌≡◌, sym, ap}
use mathlib.Core.Bool.{true, false}
use mathlib.Core.List.{List, ◌∷◌}
use Prim.Native.Nat.{ℕ, suc, ◌+◌, ◌≤◌, ◌<◌}
use native.Mathlib.Nat.{add-zero, zero-add}
use native.Mathlib.Numerals.{add-one}
use native.Mathlib.Omega.{arith}
use lib.ListN.{length, drop, get_or, drop_of_length-le}
use lib.Seq.{drop-cons}
use Rattle.link.specs.Answers.{quiet, is_quiet}
use Rattle.link.specs.Receiver.{ReceiverEnd, Receive, receive}
use Rattle.reader.specs.Reading.{Reach, stopped, used_before, read_on}

pub from-quiet : (e : ReceiverEnd) (x : ℕ) (xs : List ℕ) (h : Receive) → h ≡ receive e x → is_quiet h.report ≡ true
    → read_on e (x ∷ xs) ≡ used_before 1 (read_on h.after xs)
unfolding read_on
from-quiet e x xs h p q = simp (sym p, q)

pub at-report : (e : ReceiverEnd) (x : ℕ) (xs : List ℕ) (h : Receive) → h ≡ receive e x → is_quiet h.report ≡ false
    → read_on e (x ∷ xs) ≡ stopped h
unfolding read_on
at-report e x xs h p q = simp (sym p, q)

-- ---- the loop: i octets are used

abbrev having : Reach → ℕ → Reach
having r n = record { report = r.report; after = r.after; used = n }

pub begins : (e : ReceiverEnd) (xs : List ℕ) → read_on e xs ≡ used_before 0 (read_on e (drop 0 xs))
begins e xs = ap (having (read_on e xs)) (sym (zero-add (read_on e xs).used))

pub goes_on : (e : ReceiverEnd) (xs : List ℕ) (i : ℕ) (h : Receive) → i < length xs → h ≡ receive e (get_or xs i 0)
    → is_quiet h.report ≡ true
    → used_before i (read_on e (drop i xs)) ≡ used_before (i + 1) (read_on h.after (drop (i + 1) xs))
goes_on e xs i h l p q =
    let r = read_on h.after (drop (suc i) xs) in
    let n : i + (1 + r.used) ≡ suc i + r.used = omega arith in
    rw (add-one, drop-cons xs i 0, from-quiet e (get_or xs i 0) (drop (suc i) xs) h p q) (ap (having r) n)

pub stops : (e : ReceiverEnd) (xs : List ℕ) (i : ℕ) (h : Receive) → i < length xs → h ≡ receive e (get_or xs i 0)
    → is_quiet h.report ≡ false
    → used_before i (read_on e (drop i xs)) ≡ record { report = h.report; after = h.after; used = i + 1 }
stops e xs i h l p q = ap (used_before i) (rw (drop-cons xs i 0) (at-report e (get_or xs i 0) (drop (suc i) xs) h p q))

pub ends : (e : ReceiverEnd) (xs : List ℕ) (i : ℕ) → length xs ≤ i
    → used_before i (read_on e (drop i xs)) ≡ record { report = quiet; after = e; used = i }
unfolding read_on
ends e xs i l = simp (drop_of_length-le xs l, add-zero)
