-- The reports of a stretch, noted reading by reading.
use mathlib.Core.Path.{◌≡◌, refl, sym}
use mathlib.Core.Bool.{Bool, true, false}
use mathlib.Core.List.{List, [], ◌∷◌}
use Prim.Native.Nat.{ℕ, ◌-◌}
use native.Mathlib.Omega.{arith}
use borrow.Author.Rules.{part_to_end}
use lib.ListN.{length, take, drop}
use Rattle.std.specs.Prelude.{if◌then◌else◌}
use Rattle.link.specs.Receiver.{ReceiverEnd, Receive}
use Rattle.link.specs.Runs.{receives, received, not_quiet}
use Rattle.link.specs.Answers.{is_quiet}
use Rattle.reader.specs.Reading.{Reach, read_on}
use Rattle.reader.specs.NothingLost.{answers_of, reports, last_call}
use Rattle.reader.proofs.NothingLost.{is-quiet, as-the-calls, first-then-rest, goes_through, told}
use Rattle.tally.specs.declared.Tally.{Tally}
use Rattle.tally.specs.Counts.{note}
use Rattle.tally.specs.Sums.{noted}
use Rattle.tally.proofs.Sums.{note-quiet}

-- the first of the reports, unless there is none
first-noted : (t : Tally) (r : Reach) (rest hs : List Receive) (b : Bool) → is_quiet r.report ≡ b
    → (if is_quiet r.report then rest else last_call r ∷ rest) ≡ hs
    → noted t (answers_of hs) ≡ noted (note t r.report) (answers_of rest)
first-noted t r rest hs true q p =
    let k : rest ≡ hs = simp q at p in
    rw (← k, is-quiet r.report q, note-quiet t)
first-noted t r rest hs false q p =
    let k : last_call r ∷ rest ≡ hs = simp q at p in
    rw (← k)

module _ (e : ReceiverEnd) (xs : List ℕ) where
  -- a reading, and what is left, as the code takes it
  module _ (r : Reach) (p : r ≡ read_on e xs) where
    abbrev left : List ℕ
    left = take (length xs - r.used) (drop r.used xs)

    pub noted-on : (t : Tally) → noted t (reports e xs) ≡ noted (note t r.report) (reports r.after left)
    noted-on t =
        let s = read_on e xs in
        rw (part_to_end xs, p)
        (first-noted t s _ _ (is_quiet s.report) refl (told e xs s (is_quiet s.report) refl (as-the-calls e xs) (first-then-rest e xs)))

    pub received-on : received e xs ≡ received r.after left
    received-on = let s = read_on e xs in rw (part_to_end xs, p) (sym (goes_through e xs s (as-the-calls e xs)))

-- nothing is left
pub noted-none : (e : ReceiverEnd) (xs : List ℕ) → length xs ≡ 0 → (t : Tally) → noted t (reports e xs) ≡ t
unfolding receives not_quiet
noted-none e [] p t = refl
noted-none e (x ∷ xs) p t = absurd (omega arith)

pub received-none : (e : ReceiverEnd) (xs : List ℕ) → length xs ≡ 0 → received e xs ≡ e
unfolding received
received-none e [] p = refl
received-none e (x ∷ xs) p = absurd (omega arith)
