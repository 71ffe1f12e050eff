-- Reading on loses nothing of what the calls for each octet (link's Runs.antt) answer. Each is proved in proofs/NothingLost.antt.
use Rattle.std.specs.Prelude.{true, ◌≡◌, ℕ, zero, suc, ◌-◌, ◌≤◌, ◌<◌, length, take, drop, replicate}
use mathlib.Core.List.{List, [], ◌∷◌, ◌++◌, map, flatten}
use Rattle.std.specs.Prelude.{if◌then◌else◌}
use Rattle.link.specs.Answers.{Answer, quiet, is_quiet}
use Rattle.link.specs.Receiver.{ReceiverEnd, Receive}
use Rattle.link.specs.Runs.{receives, received, not_quiet}
use Rattle.reader.specs.Reading.{Reach, read_on}

-- ---- one reading

abbrev pub answers_of : List Receive → List Answer
answers_of = map (λ (h : Receive). h.report)

-- A reading of a stretch.
--   answers: the calls for the octets used answered Quiet, but the last, whose answer is the report
--   after: the receiver and its areas are as these calls left them
--   most, least: no more octets are used than there are, and one at least where there are any
--   all: where the report is Quiet, every octet was used
pub record Reading (e : ReceiverEnd) (xs : List ℕ) (r : Reach) : Type 0 where
  pub answers : 0 < length xs → answers_of (receives e (take r.used xs)) ≡ replicate (r.used - 1) quiet ++ (r.report ∷ [])
  pub after : r.after ≡ received e (take r.used xs)
  pub most : r.used ≤ length xs
  pub least : 0 < length xs → 1 ≤ r.used
  pub all : is_quiet r.report ≡ true → r.used ≡ length xs

abbrev pub AsTheCalls : Type 0
AsTheCalls = (e : ReceiverEnd) (xs : List ℕ) → Reading e xs (read_on e xs)

-- ---- the reports

-- the calls that are not answered Quiet: each with its answer, and with the areas as it left them, where a packet is to be found
abbrev pub not_quiet_calls : ReceiverEnd → List ℕ → List Receive
not_quiet_calls e xs = not_quiet (receives e xs)

-- their answers: the reports, and 2 or 3 where a call is refused
abbrev pub reports : ReceiverEnd → List ℕ → List Answer
reports e xs = answers_of (not_quiet_calls e xs)

-- the call that a reading ends with
abbrev pub last_call : Reach → Receive
last_call r = record { report = r.report; after = r.after }

-- Where a reading is Quiet, no call for the stretch reports. Else its report is the first, and the others are those of the calls that go on
-- from where it stopped.
pub record GoesOn (e : ReceiverEnd) (xs : List ℕ) (r : Reach) : Type 0 where
  pub calls : not_quiet_calls e xs ≡ (if is_quiet r.report then [] else last_call r ∷ not_quiet_calls r.after (drop r.used xs))
  pub answers : reports e xs ≡ (if is_quiet r.report then [] else r.report ∷ reports r.after (drop r.used xs))

abbrev pub FirstThenRest : Type 0
FirstThenRest = (e : ReceiverEnd) (xs : List ℕ) → GoesOn e xs (read_on e xs)

-- Two stretches, one after the other, report what both in one report.
pub record InTwoStretches (e : ReceiverEnd) (xs ys : List ℕ) : Type 0 where
  pub calls : not_quiet_calls e (xs ++ ys) ≡ not_quiet_calls e xs ++ not_quiet_calls (received e xs) ys
  pub answers : reports e (xs ++ ys) ≡ reports e xs ++ reports (received e xs) ys

abbrev pub StretchesJoin : Type 0
StretchesJoin = (e : ReceiverEnd) (xs ys : List ℕ) → InTwoStretches e xs ys

-- ---- a program that reads a line in stretches

-- the calls that are not answered Quiet, in order, and the receiver afterwards
pub record StretchCalls : Type 0 where
  pub calls : List Receive
  pub after : ReceiverEnd

-- one stretch: readings until it is used up, n at most, each from where the one before stopped
unfoldable pub read_stretch : ℕ → ReceiverEnd → List ℕ → StretchCalls
read_stretch zero e xs = record { calls = []; after = e }
read_stretch (suc n) e [] = record { calls = []; after = e }
read_stretch (suc n) e (x ∷ xs) =
    let r = read_on e (x ∷ xs) in
    let t = read_stretch n r.after (drop r.used (x ∷ xs)) in
    record { calls = if is_quiet r.report then t.calls else last_call r ∷ t.calls; after = t.after }

-- stretch after stretch, with as many readings at most as there are octets: more are never needed
unfoldable pub read_stretches : ReceiverEnd → List (List ℕ) → StretchCalls
read_stretches e [] = record { calls = []; after = e }
read_stretches e (xs ∷ xss) =
    let t = read_stretch (length xs) e xs in
    let u = read_stretches t.after xss in
    record { calls = t.calls ++ u.calls; after = u.after }

-- However the line is divided into stretches, the program makes the reports of the calls for each octet of the line, in order, and ends at their receiver.
abbrev pub AllReported : Type 0
AllReported =
    (e : ReceiverEnd) (stretches : List (List ℕ))
    → read_stretches e stretches ≡ record { calls = not_quiet_calls e (flatten stretches); after = received e (flatten stretches) }
