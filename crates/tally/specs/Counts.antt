-- The tally (document 01, "Display, tally, capture program"; document 02, slips 5 and 8).
use Rattle.std.specs.Prelude.{Bool, Option, Some, None, ◌&&◌, ◌||◌, ℕ, ◌+◌, ◌-◌, leb, ltb, eqb, get_or, set, replicate}
use Rattle.std.specs.Prelude.{if◌then◌else◌}
use Rattle.link.specs.Answers.{Answer, done, octet, idle, quiet, packet, held, refused}
pub use Rattle.tally.specs.declared.Tally.{Tally}

-- fifteen counts: document 01 has thirteen, and slips 5 and 8 one more each
abbrev pub places : ℕ
places = 15

-- the largest count of 64 bits
abbrev pub largest_count : ℕ
largest_count = 0xFFFF_FFFF_FFFF_FFFF

abbrev pub empty_tally : Tally
empty_tally = record { counts = replicate places 0 }

-- Where a report is counted, in document 01's order: packets at 0, held at 1, held with replacement at 2, then the refusals of frames in order of
-- their numbers, 5 to 14 at 3 to 12, 18 at 13 and 21 at 14. Any other has no count.
-- (An answer of the sender is no report.)
abbrev pub place : Answer → Option ℕ
place done = None
place (octet x) = None
place idle = None
place quiet = None
place (packet in_second n) = Some 0
place (held n replaced) = Some (if replaced then 2 else 1)
place (refused n) = if leb 5 n && leb n 14 then Some (3 + (n - 5)) else if eqb n 18 then Some 13 else if eqb n 21 then Some 14 else None

-- the refusals of frames
abbrev pub of_frame : ℕ → Bool
of_frame n = leb 5 n && leb n 14 || eqb n 18 || eqb n 21

-- the refusal that is counted at a place, where one is
abbrev pub refusal_at : ℕ → Option ℕ
refusal_at p = if leb 3 p && leb p 12 then Some (p + 2) else if eqb p 13 then Some 18 else if eqb p 14 then Some 21 else None

-- the count at a place
abbrev pub count_at : Tally → ℕ → ℕ
count_at t p = get_or t.counts p 0

-- a count at its largest stays
abbrev pub raised : ℕ → ℕ
raised n = if ltb n largest_count then n + 1 else n

-- the count at a place raised, if there is one
abbrev pub raised_at : Tally → Option ℕ → Tally
raised_at t None = t
raised_at t (Some p) = record { counts = set t.counts p (raised (count_at t p)) }

-- a report noted: one count is raised, or none
unfoldable pub note : Tally → Answer → Tally
note t r = raised_at t (place r)
