-- The plain sender, and the opening of a pair (docs/READING.md, "Plain PPP"; document 02, slip 5).
use Rattle.std.specs.Prelude.{not, ◌||◌, List, ℕ, ltb, length, Some, Result, Ok, Err}
use Rattle.std.specs.Prelude.{if◌then◌else◌}
use Rattle.fcs.specs.CheckSequence.{Check}
use Rattle.cobs.specs.CodeBlocks.{frame}
use Rattle.plain.specs.Area.{write}
use Rattle.plain.specs.Maps.{with_framing, refused_pair, marks_ok}
use Rattle.plain.specs.Stuffing.{line}
use Rattle.link.specs.Agreed.{Settings, OpenError, limit_refused, width_refused, Agreed, agreed, least_packet, valid_width, valid_limit, valid}
use Rattle.link.specs.Receiver.{opened_receiver}
pub use Rattle.link.specs.declared.plain_sender.PlainSender.{PlainSender}
pub use Rattle.link.specs.declared.plain_sender.PairOpening.{PairOpening}
pub use Rattle.link.specs.declared.plain_sender.PairError.{PairError}
use Rattle.link.specs.declared.plain_sender.PairError.TheVariants as pair
pub use Rattle.link.specs.declared.plain_sender.SendError.{SendError}
pub use Rattle.link.specs.declared.plain_sender.SendError.TheVariants.{PacketLength as wrong_length, NoRoom as no_room, OutOfBounds as out_of_bounds}

-- The state: width, limit, and the sending map, 256 marks in 32 octets. There is no settings octet.
abbrev pub plain_agreed : PlainSender → Agreed
plain_agreed s = agreed (record { octet = 0; width = s.width; limit = s.limit })

-- ---- the pair

-- A pair is opened with both maps: a plain sender, whose map has 7D and 7E in any case,
abbrev pub opened_plain_sender : Settings → List ℕ → PlainSender
opened_plain_sender settings marks = record { width = settings.width; limit = settings.limit; marks = with_framing marks }

-- and a receiver with plain reading on. Refused 23 and 3 as any opening, then 19 of the two maps; then the sender is not to be used.
abbrev pub open_pair : Settings → ℕ → List ℕ → PairOpening
open_pair settings map marks =
    record {
      sender = opened_plain_sender settings marks;
      receiver =
          if not (valid_limit (agreed settings)) then Err pair.Limit
          else if not (valid_width (agreed settings)) then Err pair.Width
          else if refused_pair map marks then Err pair.Maps
          else Ok (opened_receiver settings (Some map));
    }

-- the refusal of an opening, as that of a pair,
abbrev pub pair_error : OpenError → PairError
pair_error limit_refused = pair.Limit
pair_error width_refused = pair.Width

-- and a pair's numbers
abbrev pub pair_refusal : PairError → ℕ
pair_refusal pair.Limit = 23
pair_refusal pair.Width = 3
pair_refusal pair.Maps = 19

-- ---- the call

-- what is written for a packet
abbrev pub plain_line : PlainSender → List ℕ → List ℕ
plain_line s p = line s.marks (frame (plain_agreed s).check p)

-- the numbers of its refusals
abbrev pub send_refusal : SendError → ℕ
send_refusal wrong_length = 1
send_refusal no_room = 2
send_refusal out_of_bounds = 3

pub record PlainSent : Type 0 where
  pub answer : Result ℕ SendError
  pub area : List ℕ

-- With valid settings, whose check is c: a packet's line, written at the start of a lent area, and its length. Refusals, in this order: 2 (if
-- and only if the line is longer than the area), 3 (of the map) and 1. They write nothing.
unfoldable pub send_with : Check → PlainSender → List ℕ → List ℕ → PlainSent
send_with c s p area =
    let xs = line s.marks (frame c p) in
    if ltb (length area) (length xs) then record { answer = Err no_room; area = area }
    else if not (marks_ok s.marks) then record { answer = Err out_of_bounds; area = area }
    else if ltb (length p) least_packet || ltb s.limit (length p) then record { answer = Err wrong_length; area = area }
    else record { answer = Ok (length xs); area = write area 0 xs }

-- before them 3, of the width or the limit
unfoldable pub plain_send : PlainSender → List ℕ → List ℕ → PlainSent
plain_send s p area =
    let g = plain_agreed s in
    if not (valid g) then record { answer = Err out_of_bounds; area = area }
    else send_with g.check s p area
