-- The sender's calls, load and next octet (docs/READING.md and document 01, "Sender"; the bounds: "Refusal table").
use Rattle.std.specs.Prelude.{Bool, true, false, not, ◌&&◌, ◌||◌, List, ◌++◌, ℕ, ◌+◌, ◌-◌, leb, ltb, eqb, length, take, drop, get_or, Option, Some, None, Result}
use Rattle.std.specs.Prelude.{if◌then◌else◌}
use Rattle.cobs.specs.CodeBlocks.{frame, with_phantom, flag, to_line, choice}
use Rattle.cobs.specs.declared.Choice.{Choice}
use Rattle.link.specs.Agreed.{Settings, OpenError, Agreed, agreed, valid, least_packet, least_frame, largest_frame, opening}
use Rattle.link.specs.Answers.{Answer, done, octet, idle, refused}
pub use Rattle.link.specs.declared.sender.Lane.{Lane}
pub use Rattle.link.specs.declared.sender.Lane.TheVariants.{Low as low, High as high}
pub use Rattle.link.specs.declared.sender.LaneState.{LaneState}
pub use Rattle.link.specs.declared.sender.Sender.{Sender}

-- ---- the state

-- Document 01's list, item by item in its order, and the field of `Sender` (declared in src/sender.rt) that is the item:
--   of each lane, its frame length and its position in D    low and high, each a `LaneState`: length (0 if empty), position
--   data left in the block                                  left
--   zeros due behind it                                     zeros
--   lane on the line                                        on: `Some l`, or `None`
--   mark *suspended*                                        suspended
--   mark *cut due*                                          cut
--   settings octet ("Code blocks"), width (slip 1),         settings: octet, width,
--   limit (slip 11)                                         limit

-- the lane on the line, or none
abbrev pub OnLine : Type 0
OnLine = Option Lane

abbrev pub empty_lane : LaneState
empty_lane = record { length = 0; position = 0 }

-- a sender as it is opened,
abbrev pub opened_sender : Settings → Sender
opened_sender settings =
    record { low = empty_lane; high = empty_lane; left = 0; zeros = 0; on = None; suspended = false; cut = false; settings = settings }

-- where the opening is not refused: 23 of a limit out of range, and then 3 of any width but 16 or 32
abbrev pub open_sender : Settings → Result Sender OpenError
open_sender settings = opening settings (opened_sender settings)

abbrev pub lane_state : Lane → Sender → LaneState
lane_state low s = s.low
lane_state high s = s.high

abbrev pub loaded : LaneState → Bool
loaded q = ltb 0 q.length

-- D of a lane: F stands at its area's start, and the phantom is not stored
abbrev pub lane_d : LaneState → List ℕ → List ℕ
lane_d q area = with_phantom (take q.length area)

-- The state with an item changed: a lane; its position, up by n; data left and zeros due; the lane on the line; the marks.
abbrev pub with_lane : Lane → LaneState → Sender → Sender
with_lane low q s =
    record { low = q; high = s.high; left = s.left; zeros = s.zeros; on = s.on; suspended = s.suspended; cut = s.cut; settings = s.settings }
with_lane high q s =
    record { low = s.low; high = q; left = s.left; zeros = s.zeros; on = s.on; suspended = s.suspended; cut = s.cut; settings = s.settings }

abbrev pub position_up : ℕ → Lane → Sender → Sender
position_up n l s = with_lane l (record { length = (lane_state l s).length; position = (lane_state l s).position + n }) s

abbrev pub with_block : ℕ → ℕ → Sender → Sender
with_block n z s = record { low = s.low; high = s.high; left = n; zeros = z; on = s.on; suspended = s.suspended; cut = s.cut; settings = s.settings }

abbrev pub with_line : OnLine → Sender → Sender
with_line o s = record { low = s.low; high = s.high; left = s.left; zeros = s.zeros; on = o; suspended = s.suspended; cut = s.cut; settings = s.settings }

abbrev pub with_marks : Bool → Bool → Sender → Sender
with_marks suspended cut s =
    record { low = s.low; high = s.high; left = s.left; zeros = s.zeros; on = s.on; suspended = suspended; cut = cut; settings = s.settings }

-- ---- in bounds ("Refusal table", last paragraph)

-- an empty lane or a frame of an allowed length, and a position no further than behind D
abbrev pub lane_ok : Agreed → LaneState → Bool
lane_ok g q =
    (eqb q.length 0 || leb (least_frame g) q.length && leb q.length (largest_frame g)) && leb q.position (q.length + 1)

-- the lane on the line is loaded, and its block is inside D
abbrev pub lane_on_line_ok : LaneState → Sender → Bool
lane_on_line_ok q s = loaded q && leb (q.position + s.left + s.zeros) (q.length + 1)

-- With no lane on the line nothing is left or due. Low is not suspended while it is on the line. Only low can have a cut due, and then its
-- block has no data left.
abbrev pub line_ok : OnLine → Sender → Bool
line_ok None s = eqb s.left 0 && eqb s.zeros 0 && not s.cut
line_ok (Some low) s = lane_on_line_ok s.low s && not s.suspended && (not s.cut || eqb s.left 0)
line_ok (Some high) s = lane_on_line_ok s.high s && not s.cut

-- all of it, with 207 data octets and 2 zeros at the most, no zeros without data, and a frame in a lane that is suspended
unfoldable pub in_bounds : Agreed → Sender → Bool
in_bounds g s =
    lane_ok g s.low
    && lane_ok g s.high
    && leb s.left 207
    && leb s.zeros 2
    && (ltb 0 s.left || eqb s.zeros 0)
    && line_ok s.on s
    && (not s.suspended || loaded s.low)

-- ---- load

pub record Load : Type 0 where
  pub answer : Answer
  pub state : Sender
  pub area : List ℕ

-- Done: F over the area's first octets, and what lies behind them untouched; the lane stands at its beginning.
unfoldable pub put_frame : Agreed → Lane → List ℕ → Sender → List ℕ → Load
put_frame g l packet s area =
    let f = frame g.check packet in
    record {
      answer = done;
      state = with_lane l (record { length = length f; position = 0 }) s;
      area = f ++ drop (length f) area;
    }

-- Load: refusals 3 (of the width or the limit), 2, 3, 4 and 1, in this order, or Done.
unfoldable pub load : Lane → List ℕ → Sender → List ℕ → Load
load l packet s area =
    let g = agreed s.settings in
    if not (valid g) then record { answer = refused 3; state = s; area = area }
    else if ltb (length area) (largest_frame g) then record { answer = refused 2; state = s; area = area }
    else if not (in_bounds g s) then record { answer = refused 3; state = s; area = area }
    else if loaded (lane_state l s) then record { answer = refused 4; state = s; area = area }
    else if ltb (length packet) least_packet || ltb g.limit (length packet) then record { answer = refused 1; state = s; area = area }
    else put_frame g l packet s area

-- ---- next octet

-- What a call does: it sends the flag that closes a lane's frame, or the flag that breaks off the low lane, or another octet of a lane; or
-- nothing; or it is refused. The caller sees only the answer: which flag and whose octet it is, the demands ask.
pub data Out : Type 0 where
  closes : Lane → Out
  breaks_off : Out
  sends : Lane → ℕ → Out
  sends_nothing : Out
  refuses : ℕ → Out

abbrev pub out_answer : Out → Answer
out_answer (closes l) = octet flag
out_answer breaks_off = octet flag
out_answer (sends l x) = octet x
out_answer sends_nothing = idle
out_answer (refuses n) = refused n

pub record Step : Type 0 where
  pub out : Out
  pub state : Sender

-- What a step uses stands before it, so that step 2 comes last.

-- Step 1, a cut is due: the flag. From then on low is suspended, and no lane on the line.
abbrev pub step1_cut_due : Sender → Step
step1_cut_due s = record { out = breaks_off; state = with_line None (with_marks true false s) }

-- Step 3, all of D is covered: the flag. It leaves the lane empty, and no lane on the line.
abbrev pub step3_covered : Lane → Sender → Step
step3_covered l s = record { out = closes l; state = with_line None (with_lane l empty_lane s) }

-- Step 4, low gives way to high: with data left in its block by a flag, which drops what is left; else by 02, and a cut is due.
unfoldable pub step4_break_off : Sender → Step
step4_break_off s =
    if ltb 0 s.left then record { out = breaks_off; state = with_line None (with_marks true s.cut (with_block 0 0 s)) }
    else record { out = sends low 0x02; state = with_marks s.suspended true s }

-- Step 5, data is left: the next octet of D (`d`). The last one covers its block's zeros too.
unfoldable pub step5_data : Lane → Sender → List ℕ → Step
step5_data l s d =
    record {
      out = sends l (to_line (get_or d (lane_state l s).position 0));
      state = if eqb s.left 1 then with_block 0 0 (position_up (1 + s.zeros) l s) else with_block (s.left - 1) s.zeros (position_up 1 l s);
    }

-- Step 6, a block is chosen: its code. If the block has no data, its zeros are covered with it.
unfoldable pub step6_code : Lane → Sender → Choice → Step
step6_code l s c =
    record {
      out = sends l (to_line c.code);
      state = if eqb c.nonzeros 0 then position_up c.zeros l s else with_block c.nonzeros c.zeros s;
    }

abbrev pub is_low : Lane → Bool
is_low low = true
is_low high = false

-- Steps 3 to 6, with the lane l on the line and d its D: the first that applies.
unfoldable pub steps_3_to_6 : Agreed → Lane → Sender → List ℕ → Step
steps_3_to_6 g l s d =
    if ltb (lane_state l s).length (lane_state l s).position then step3_covered l s
    else if is_low l && g.pre && loaded s.high then step4_break_off s
    else if ltb 0 s.left then step5_data l s d
    else step6_code l s (choice g.zxe (drop (lane_state l s).position d))

-- a sender and the two areas lent to it
pub record SenderEnd : Type 0 where
  pub state : Sender
  pub low : List ℕ
  pub high : List ℕ

abbrev pub lane_area : Lane → SenderEnd → List ℕ
lane_area low e = e.low
lane_area high e = e.high

-- Step 2, no lane on the line: high goes before low, and with both empty there is nothing to send. Low, where it was suspended, sends D1 alone
-- and is so no longer; else the lane goes straight on.
unfoldable pub step2_no_lane : Agreed → SenderEnd → Step
step2_no_lane g e =
    let s = e.state in
    if loaded s.high then steps_3_to_6 g high (with_line (Some high) s) (lane_d s.high e.high)
    else if not (loaded s.low) then record { out = sends_nothing; state = s }
    else if s.suspended then record { out = sends low 0xD1; state = with_line (Some low) (with_marks false s.cut s) }
    else steps_3_to_6 g low (with_line (Some low) s) (lane_d s.low e.low)

-- The first step that applies, by the mark cut due and by the lane on the line.
unfoldable pub steps_1_to_6 : Agreed → SenderEnd → Bool → OnLine → Step
steps_1_to_6 g e true o = step1_cut_due e.state
steps_1_to_6 g e false None = step2_no_lane g e
steps_1_to_6 g e false (Some l) = steps_3_to_6 g l e.state (lane_d (lane_state l e.state) (lane_area l e))

-- Next octet: refusals 3 (of the width or the limit), 2 and 3, in this order, or the steps.
unfoldable pub next : SenderEnd → Step
next e =
    let s = e.state in
    let g = agreed s.settings in
    if not (valid g) then record { out = refuses 3; state = s }
    else if ltb (length e.low) (largest_frame g) || ltb (length e.high) (largest_frame g) then record { out = refuses 2; state = s }
    else if not (in_bounds g s) then record { out = refuses 3; state = s }
    else steps_1_to_6 g e s.cut s.on

-- what the caller is answered
pub record Next : Type 0 where
  pub answer : Answer
  pub state : Sender

abbrev pub seen : Step → Next
seen t = record { answer = out_answer t.out; state = t.state }
