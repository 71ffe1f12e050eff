-- What holds of every single call (docs/DEMANDS.md; document 01, "Sender" and "Receiver"; document 02, slips 4, 5 and 8): what it leaves as it was, and
-- what becomes of what is held. The steps say it too, each for itself; here it is said of the whole call.
use Rattle.std.specs.Prelude.{Bool, true, false, not, ◌&&◌, List, ◌⊎◌, ◌≡◌, ℕ, ◌+◌, ◌≤◌, ◌<◌, eqb, length, take, drop, None, Ok, Err}
use Rattle.std.specs.Prelude.{if◌then◌else◌}
use Rattle.fcs.specs.CheckSequence.{register, good}
use Rattle.cobs.specs.CodeBlocks.{frame, flag, from_line}
use Rattle.link.specs.Agreed.{Settings, Agreed, agreed, valid_width, valid_limit, valid, least_packet, largest_frame, most_decoded, limit_refused, width_refused}
use Rattle.link.specs.Answers.{Answer, done, octet, idle, quiet, packet, held, refused, open_refusal}
use Rattle.link.specs.Sender.{Lane, Sender, SenderEnd, Load, closes, empty_lane, opened_sender, open_sender, lane_state, with_lane, out_answer, load, next}
use Rattle.link.specs.Receiver.{holds, no_block, kept_off, cobs, plain, PlainReading, Receiver, ReceiverEnd, Receive, out_of_frame, opened_receiver, open_receiver, is_held, is_plain, begins_plain, area_of, aside, receive, Held}
use Rattle.link.specs.Sender as sender
use Rattle.link.specs.Receiver as receiver
use Rattle.link.specs.ReceiverParts.{ReceiverReady}

-- ---- the order of the tests

-- Settings that are not valid: the opening of an end is refused 23 of the limit, whatever the width, and else 3 of the width; and every call
-- on a state that has them is refused 3, whatever else it is handed. Any other settings open an end.
pub record ValidFirst : Type 0 where
  pub sender_limit : (settings : Settings) → valid_limit (agreed settings) ≡ false → open_sender settings ≡ Err limit_refused
  pub receiver_limit : (settings : Settings) (reading : PlainReading) → valid_limit (agreed settings) ≡ false → open_receiver settings reading ≡ Err limit_refused
  pub sender_width : (settings : Settings) → valid_limit (agreed settings) ≡ true → valid_width (agreed settings) ≡ false
      → open_sender settings ≡ Err width_refused
  pub receiver_width : (settings : Settings) (reading : PlainReading) → valid_limit (agreed settings) ≡ true → valid_width (agreed settings) ≡ false
      → open_receiver settings reading ≡ Err width_refused
  pub opening_numbers : (open_refusal limit_refused ≡ 23) × (open_refusal width_refused ≡ 3)
  pub load : (l : Lane) (p : List ℕ) (s : Sender) (area : List ℕ) → valid (agreed s.settings) ≡ false → (load l p s area).answer ≡ refused 3
  pub next : (e : SenderEnd) → valid (agreed e.state.settings) ≡ false → out_answer (next e).out ≡ refused 3
  pub receive : (e : ReceiverEnd) (x : ℕ) → valid (agreed e.state.settings) ≡ false → (receive e x).report ≡ refused 3
  pub sender_opens : (settings : Settings) → valid (agreed settings) ≡ true → open_sender settings ≡ Ok (opened_sender settings)
  pub receiver_opens : (settings : Settings) (reading : PlainReading) → valid (agreed settings) ≡ true
      → open_receiver settings reading ≡ Ok (opened_receiver settings reading)

-- With valid settings an area that is too short is refused 2, whatever the state; then a state out of bounds 3, whatever else is handed in; and
-- of a load then a lane that holds a frame 4, whatever the packet. (What 1 refuses is `PacketLengths`.)
pub record AreasThenState : Type 0 where
  pub load_short : (l : Lane) (p : List ℕ) (s : Sender) (area : List ℕ) → valid (agreed s.settings) ≡ true
      → length area < largest_frame (agreed s.settings)
      → (load l p s area).answer ≡ refused 2
  pub load_state : (l : Lane) (p : List ℕ) (s : Sender) (area : List ℕ) → valid (agreed s.settings) ≡ true
      → largest_frame (agreed s.settings) ≤ length area
      → sender.in_bounds (agreed s.settings) s ≡ false
      → (load l p s area).answer ≡ refused 3
  pub load_lane : (l : Lane) (p : List ℕ) (s : Sender) (area : List ℕ) → valid (agreed s.settings) ≡ true
      → largest_frame (agreed s.settings) ≤ length area
      → sender.in_bounds (agreed s.settings) s ≡ true
      → 0 < (lane_state l s).length
      → (load l p s area).answer ≡ refused 4
  pub next_short : (e : SenderEnd) → valid (agreed e.state.settings) ≡ true
      → (length e.low < largest_frame (agreed e.state.settings)) ⊎ (length e.high < largest_frame (agreed e.state.settings))
      → out_answer (next e).out ≡ refused 2
  pub next_state : (e : SenderEnd) → valid (agreed e.state.settings) ≡ true
      → largest_frame (agreed e.state.settings) ≤ length e.low
      → largest_frame (agreed e.state.settings) ≤ length e.high
      → sender.in_bounds (agreed e.state.settings) e.state ≡ false
      → out_answer (next e).out ≡ refused 3
  pub receive_short : (e : ReceiverEnd) (x : ℕ) → valid (agreed e.state.settings) ≡ true
      → (length e.first < most_decoded (agreed e.state.settings)) ⊎ (length e.second < most_decoded (agreed e.state.settings))
      → (receive e x).report ≡ refused 2
  pub receive_state : (e : ReceiverEnd) (x : ℕ) → valid (agreed e.state.settings) ≡ true
      → most_decoded (agreed e.state.settings) ≤ length e.first
      → most_decoded (agreed e.state.settings) ≤ length e.second
      → receiver.in_bounds (agreed e.state.settings) e.state ≡ false
      → (receive e x).report ≡ refused 3

-- ---- a refused call changes nothing

-- 1 to 4 refuse a call; 5 to 14, 18 and 21 are reports of frames
pub record RefusedChangesNothing : Type 0 where
  pub load : (l : Lane) (p : List ℕ) (s : Sender) (area : List ℕ) (n : ℕ) → (load l p s area).answer ≡ refused n
      → ((load l p s area).state ≡ s) × ((load l p s area).area ≡ area)
  pub next : (e : SenderEnd) (n : ℕ) → out_answer (next e).out ≡ refused n → (next e).state ≡ e.state
  pub receive : (e : ReceiverEnd) (x n : ℕ) → n < 5 → (receive e x).report ≡ refused n → (receive e x).after ≡ e

-- nor does a call that answers Idle
abbrev pub IdleChangesNothing : Type 0
IdleChangesNothing = (e : SenderEnd) → out_answer (next e).out ≡ idle → (next e).state ≡ e.state

-- and every call keeps the settings, the octet with all its bits; an end is opened with them
pub record SettingsStay : Type 0 where
  pub opened_sender : (settings : Settings) → (opened_sender settings).settings ≡ settings
  pub opened_receiver : (settings : Settings) (reading : PlainReading) → (opened_receiver settings reading).settings ≡ settings
  pub load : (l : Lane) (p : List ℕ) (s : Sender) (area : List ℕ) → (load l p s area).state.settings ≡ s.settings
  pub next : (e : SenderEnd) → (next e).state.settings ≡ e.state.settings
  pub receive : (e : ReceiverEnd) (x : ℕ) → (receive e x).after.state.settings ≡ e.state.settings

-- ---- what is read (slip 5)

-- Every call keeps the map. Plain reading that is kept off stays off. With it on COBS is read until an FF begins a frame, and plain PPP from
-- then on: no octet goes back to COBS, only an opening does.
pub record ModeStays : Type 0 where
  pub map : (e : ReceiverEnd) (x : ℕ) → (receive e x).after.state.map ≡ e.state.map
  pub off : (e : ReceiverEnd) (x : ℕ) → e.state.mode ≡ kept_off → (receive e x).after.state.mode ≡ kept_off
  pub cobs : (e : ReceiverEnd) → ReceiverReady e → (x : ℕ) → e.state.mode ≡ cobs
      → (receive e x).after.state.mode ≡ (if begins_plain e.state x then plain else cobs)
  pub plain : (e : ReceiverEnd) (x : ℕ) → is_plain e.state.mode ≡ true → is_plain (receive e x).after.state.mode ≡ true

-- 5 is reported with plain reading off only
abbrev pub FiveIfOff : Type 0
FiveIfOff = (e : ReceiverEnd) (x : ℕ) → (receive e x).report ≡ refused 5 → e.state.mode ≡ kept_off

-- ---- a closing flag

-- leaves its lane as it was opened, and no lane on the line
abbrev pub ClosedIsEmpty : Type 0
ClosedIsEmpty = (e : SenderEnd) (l : Lane) → (next e).out ≡ closes l → (lane_state l (next e).state ≡ empty_lane) × ((next e).state.on ≡ None)

-- ---- a load that is Done

-- F stands at the area's start, what lies behind it stays, and the lane stands at its beginning; all else in the state stays. The lane was
-- empty, and the packet is of an allowed length.
pub record Loads (l : Lane) (p : List ℕ) (s : Sender) (area f : List ℕ) (t : Load) : Type 0 where
  pub start : take (length f) t.area ≡ f
  pub behind : drop (length f) t.area ≡ drop (length f) area
  pub state : t.state ≡ with_lane l (record { length = length f; position = 0 }) s
  pub lane : (lane_state l s).length ≡ 0
  pub least : least_packet ≤ length p
  pub most : length p ≤ (agreed s.settings).limit

abbrev pub DoneLoads : Type 0
DoneLoads =
    (l : Lane) (p : List ℕ) (s : Sender) (area : List ℕ) → (load l p s area).answer ≡ done
    → Loads l p s area (frame (agreed s.settings).check p) (load l p s area)

-- ---- the numbers of a report

-- A packet's length is an allowed one and within the area that is named, and with its FCS the packet passes the check. No more octets are held
-- than a receiver decodes. A refusal is from 2 to 14, or 18 or 21.
abbrev pub Within : Agreed → Answer → ReceiverEnd → Type 0
Within g done e = Unit {0}
Within g (octet x) e = Unit {0}
Within g idle e = Unit {0}
Within g quiet e = Unit {0}
Within g (packet in_second n) e =
    (n ≤ length (area_of in_second e))
    × (n ≤ g.limit)
    × (least_packet ≤ n)
    × (good g.check (take (n + g.check.fcs_length) (area_of in_second e)) ≡ true)
Within g (held n replaced) e = n ≤ most_decoded g
Within g (refused n) e = (2 ≤ n) × ((n ≤ 14) ⊎ (n ≡ 18) ⊎ (n ≡ 21))

-- of every call, whatever it is handed
abbrev pub ReportsWithin : Type 0
ReportsWithin = (e : ReceiverEnd) (x : ℕ) → Within (agreed e.state.settings) (receive e x).report (receive e x).after

-- ---- the receiver, in bounds and with areas long enough

-- An octet x that is no flag and resumes nothing, e before it, f after it: it may be written after those decoded in the work area. All else in
-- both areas stays, and so does the turn of the areas. What is held stays too, unless x is an FF that begins a frame in COBS: then nothing is
-- held.
pub record TakesIn (x : ℕ) (e f : ReceiverEnd) : Type 0 where
  pub turn : f.state.turn ≡ e.state.turn
  pub held : f.state.held ≡ (if not (is_plain e.state.mode) && not e.state.framed && eqb (from_line x) 0xFF then None else e.state.held)
  pub other : area_of (not e.state.turn) f ≡ area_of (not e.state.turn) e
  pub count : e.state.decoded ≤ f.state.decoded
  pub decoded : take e.state.decoded (area_of e.state.turn f) ≡ take e.state.decoded (area_of e.state.turn e)
  pub behind : drop f.state.decoded (area_of e.state.turn f) ≡ drop f.state.decoded (area_of e.state.turn e)

-- D1 is accepted: the held area becomes the work area, its n octets are the decoded ones, nothing is held; and nothing is written.
pub record Resumes (n : ℕ) (e f : ReceiverEnd) : Type 0 where
  pub turn : f.state.turn ≡ not e.state.turn
  pub held : f.state.held ≡ None
  pub decoded : f.state.decoded ≡ n
  pub first : f.first ≡ e.first
  pub second : f.second ≡ e.second

-- The flag of a frame.
--   The state is as fresh but for the settings, the mode and the map, the turn and what is held; nothing is written.
--   Held tells the count of decoded octets, and whether a frame that is no resumed one took an older fragment's place. The areas change turns,
--   and the register of the decoded octets is carried.
--   Any other report, and there is one, leaves the turn; after a resumed frame nothing is held, after another what was held.
abbrev pub HeldThen : ReceiverEnd → Receive → Type 0
HeldThen e h =
    (let r = e.state in
    (h.report ≡ held r.decoded (not r.resumed && is_held r.held))
    × (h.after.state
    ≡ out_of_frame r (not r.turn) (holds r.decoded (register (agreed r.settings).check (take r.decoded (area_of r.turn e))))))

pub record NotHeldThen (r : Receiver) (h : Receive) : Type 0 where
  pub fragment : Held
  pub state : h.after.state ≡ out_of_frame r r.turn fragment
  pub resumed : r.resumed ≡ true → fragment ≡ None
  pub other : r.resumed ≡ false → fragment ≡ r.held
  pub no_held : (n : ℕ) (replaced : Bool) → h.report ≡ held n replaced → ⊥
  pub no_quiet : h.report ≡ quiet → ⊥

pub record EndsFrame (e : ReceiverEnd) (h : Receive) : Type 0 where
  pub first : h.after.first ≡ e.first
  pub second : h.after.second ≡ e.second
  pub report : HeldThen e h ⊎ NotHeldThen e.state h

pub record BlockOver (r : Receiver) : Type 0 where
  pub left : r.left ≡ 0
  pub zeros : r.zeros ≡ 0
  pub last : r.last ≡ no_block

--   others: only a flag reports
--   empty: the flag of an empty frame does not, and changes nothing
--   frame: one report for each other frame
--   skipped: with a refusal remembered, what still comes of the frame changes nothing
--   remembered: with a refusal that is remembered now, the block is over
--   mark: a frame is a resumed one exactly if its first octet is D1, in COBS
--   never_held: in plain PPP nothing is broken off
--   resumes, takes_in: what becomes of an octet that is no flag (and of a D1 with something held that no longer gives the register:
--   `AreasChanged`)
pub record ReceivesSo : Type 0 where
  pub others : (e : ReceiverEnd) → ReceiverReady e → (x : ℕ) → (x ≡ flag → ⊥) → (receive e x).report ≡ quiet
  pub empty : (e : ReceiverEnd) → ReceiverReady e → e.state.framed ≡ false → receive e flag ≡ record { report = quiet; after = e }
  pub frame : (e : ReceiverEnd) → ReceiverReady e → e.state.framed ≡ true → EndsFrame e (receive e flag)
  pub skipped : (e : ReceiverEnd) → ReceiverReady e → (e.state.refusal ≡ 0 → ⊥) → (x : ℕ) → (x ≡ flag → ⊥) → (receive e x).after ≡ e
  pub remembered : (e : ReceiverEnd) → ReceiverReady e → e.state.refusal ≡ 0 → (x : ℕ) → (x ≡ flag → ⊥)
      → ((receive e x).after.state.refusal ≡ 0 → ⊥) → BlockOver (receive e x).after.state
  pub mark : (e : ReceiverEnd) → ReceiverReady e → (x : ℕ) → (x ≡ flag → ⊥)
      → (receive e x).after.state.resumed ≡ (if e.state.framed then e.state.resumed else not (is_plain e.state.mode) && eqb (from_line x) 0xD1)
  pub never_held : (e : ReceiverEnd) (x n : ℕ) (replaced : Bool) → is_plain e.state.mode ≡ true → (receive e x).report ≡ held n replaced → ⊥
  pub resumes : (e : ReceiverEnd) → ReceiverReady e → is_plain e.state.mode ≡ false → e.state.framed ≡ false → (agreed e.state.settings).pre ≡ true → (n k : ℕ) → e.state.held ≡ holds n k
      → register (agreed e.state.settings).check (take n (aside e)) ≡ k → Resumes n e (receive e 0xD1).after
  pub takes_in : (e : ReceiverEnd) → ReceiverReady e → (x : ℕ) → (x ≡ flag → ⊥)
      → (is_plain e.state.mode ≡ false → e.state.framed ≡ false → from_line x ≡ 0xD1 → (agreed e.state.settings).pre ≡ true → e.state.held ≡ None)
      → TakesIn x e (receive e x).after
