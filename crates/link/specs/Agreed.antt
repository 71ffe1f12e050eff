-- What both ends agreed on (docs/READING.md, "What was agreed"; document 01, "Code blocks", and document 02, slips 1 and 11), and the bounds
-- that follow from it.
use Rattle.std.specs.Prelude.{Bool, not, ◌&&◌, ◌||◌, ℕ, ◌+◌, ◌/◌, ◌%◌, leb, eqb, Result, Ok, Err}
use Rattle.std.specs.Prelude.{if◌then◌else◌}
use Rattle.fcs.specs.CheckSequence.{Check, check16, check32}
-- The settings, which either end is opened with and keeps (declared in src/lib.rt): the settings octet, the width of the check in bits, and the
-- limit. All three are numbers that a caller hands in.
pub use Rattle.link.specs.declared.Settings.{Settings}
-- why an end is not opened with them (declared there too)
pub use Rattle.link.specs.declared.OpenError.{OpenError}
pub use Rattle.link.specs.declared.OpenError.TheVariants.{Limit as limit_refused, Width as width_refused}

-- ZXE allows the codes D3-FE, PRE allows preemption; limit, document 02's word: the octets of the largest packet
pub record Agreed : Type 0 where
  pub zxe : Bool
  pub pre : Bool
  pub width : ℕ
  pub limit : ℕ
  pub check : Check

-- Of the settings octet 01 is ZXE, 02 is PRE, and other bits are ignored. The check is that of the width.
unfoldable pub agreed : Settings → Agreed
agreed s =
    record {
      zxe = eqb (s.octet % 2) 1;
      pre = eqb (s.octet / 2 % 2) 1;
      width = s.width;
      limit = s.limit;
      check = if eqb s.width 32 then check32 else check16;
    }

-- the fewest octets of a packet, and the largest limit
abbrev pub least_packet : ℕ
least_packet = 2

abbrev pub largest_limit : ℕ
largest_limit = 16384

-- Valid settings, which an end can be opened with, have a width of 16 or 32,
abbrev pub valid_width : Agreed → Bool
valid_width g = eqb g.width 16 || eqb g.width 32

-- and a limit that is in range. Any others are refused before all else, so that their check and their lengths are never looked at.
abbrev pub valid_limit : Agreed → Bool
valid_limit g = leb least_packet g.limit && leb g.limit largest_limit

unfoldable pub valid : Agreed → Bool
valid g = valid_width g && valid_limit g

-- the opening of an end: refused of a limit out of range, and then of any width but 16 or 32; else the end
abbrev pub opening : {A : Type 0} → Settings → A → Result A OpenError
opening settings end =
    if not (valid_limit (agreed settings)) then Err limit_refused
    else if not (valid_width (agreed settings)) then Err width_refused
    else Ok end

-- the fewest and the most octets of a frame: with 16 bits 4 and two more than the limit, with 32 bits 6 and four more
abbrev pub least_frame : Agreed → ℕ
least_frame g = least_packet + g.check.fcs_length

abbrev pub largest_frame : Agreed → ℕ
largest_frame g = g.limit + g.check.fcs_length

-- the most octets that a receiver decodes: a frame and its phantom
abbrev pub most_decoded : Agreed → ℕ
most_decoded g = largest_frame g + 1
