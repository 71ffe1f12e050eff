-- What the counts come to (document 01, "Display, tally, capture program"), proved in proofs/Sums.antt. What is counted is said here apart
-- from `place`, so that a place given to the wrong reports would not pass.
use Rattle.std.specs.Prelude.{Bool, true, false, Option, Some, None, ◌&&◌, ◌||◌, ◌⊎◌, ◌≡◌, ℕ, ◌+◌, ◌^◌, ◌≤◌, ◌<◌, min, leb, eqb, length}
use mathlib.Core.List.{List, [], ◌∷◌, foldl, sum}
use Rattle.std.specs.Prelude.{if◌then◌else◌}
use Rattle.link.specs.Answers.{Answer, done, octet, idle, quiet, packet, held, refused}
use Rattle.tally.specs.Counts.{Tally, places, largest_count, empty_tally, of_frame, refusal_at, count_at, note}

-- reports noted, one after another
abbrev pub noted : Tally → List Answer → Tally
noted t rs = foldl note t rs

-- all counts together
abbrev pub total : Tally → ℕ
total t = sum ◌+◌ 0 t.counts

-- how many of the reports pass a test
abbrev pub number_of : (Answer → Bool) → List Answer → ℕ
number_of test [] = 0
number_of test (r ∷ rs) = (if test r then 1 else 0) + number_of test rs

-- The reports that raise a count: all but Quiet and the refusals of calls, any number but 5 to 14, 18 and 21.
abbrev pub is_counted : Answer → Bool
is_counted done = false
is_counted (octet x) = false
is_counted idle = false
is_counted quiet = false
is_counted (packet in_second n) = true
is_counted (held n replaced) = true
is_counted (refused n) = of_frame n

-- Whether a report is of the kind that is counted at place p: packets at 0, held with nothing replaced at 1, held with replacement at 2,
-- refusals 5 to 14 at 3 to 12, 18 at 13 and 21 at 14.
abbrev pub of_kind : ℕ → Answer → Bool
of_kind p done = false
of_kind p (octet x) = false
of_kind p idle = false
of_kind p quiet = false
of_kind p (packet in_second n) = eqb p 0
of_kind p (held n replaced) = eqb p (if replaced then 2 else 1)
of_kind p (refused n) = leb 3 p && leb p 12 && eqb n (p + 2) || eqb p 13 && eqb n 18 || eqb p 14 && eqb n 21

-- So every refusal of a frame is counted, and none of a call.
pub record FramesCounted : Type 0 where
  pub frames : (n : ℕ) → 5 ≤ n → (n ≤ 14) ⊎ (n ≡ 18) ⊎ (n ≡ 21) → is_counted (refused n) ≡ true
  pub calls : (n : ℕ) → n < 5 → is_counted (refused n) ≡ false

-- whether a number is that of a refusal, if there is one
abbrev pub is_of : ℕ → Option ℕ → Bool
is_of n None = false
is_of n (Some m) = eqb n m

-- The refusal that a place is named by is the one that is counted there, and where none is named none is counted.
abbrev pub NamedRightly : Type 0
NamedRightly = (p n : ℕ) → of_kind p (refused n) ≡ is_of n (refusal_at p)

-- a tally that the code can hold: fifteen counts, of 64 bits
pub record Fits (t : Tally) : Type 0 where
  pub fifteen : length t.counts ≡ places
  pub small : (p : ℕ) → p < places → count_at t p ≤ largest_count

-- The largest count is the largest number of 64 bits.
abbrev pub LargestOf64Bits : Type 0
LargestOf64Bits = largest_count + 1 ≡ 2 ^ 64

-- Each count is what it was and the number of reports of its kind, or the largest if that is smaller.
abbrev pub EachCount : Type 0
EachCount = (t : Tally) → Fits t → (rs : List Answer) → (p : ℕ) → p < places
    → count_at (noted t rs) p ≡ min largest_count (count_at t p + number_of (of_kind p) rs)

-- every count is below the largest
abbrev pub Below : Tally → Type 0
Below t = (p : ℕ) → p < places → count_at t p < largest_count

-- As long as no count is at the largest, their sum grows by one with each report that is counted, and with no other.
abbrev pub AddUp : Type 0
AddUp = (t : Tally) → Fits t → (rs : List Answer) → Below (noted t rs) → total (noted t rs) ≡ total t + number_of is_counted rs

-- So from the empty tally on, as long as no count is at the largest, each count is the number of reports of its kind, and all together are the
-- number of reports that were counted.
pub record FromEmpty : Type 0 where
  pub each : (rs : List Answer) → Below (noted empty_tally rs) → (p : ℕ) → p < places → count_at (noted empty_tally rs) p ≡ number_of (of_kind p) rs
  pub together : (rs : List Answer) → Below (noted empty_tally rs) → total (noted empty_tally rs) ≡ number_of is_counted rs
