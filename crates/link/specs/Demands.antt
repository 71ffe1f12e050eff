-- The demands (docs/DEMANDS.md), each proved in proofs/. What a call answers is said by its contract; here is what follows of all calls.
use Rattle.std.specs.Prelude.{Bool, true, false, not, ◌&&◌, ◌||◌, ◌≡◌, ℕ, ◌+◌, ◌/◌, ◌^◌, ◌≤◌, eqb, length, take, replicate, Some, None}
use mathlib.Core.List.{List, [], ◌∷◌, ◌++◌, map, Memᴰ}
use Rattle.std.proofs.Math.Option.{Option, some}
use Rattle.fcs.specs.CheckSequence.{width, register, Burst}
use Rattle.cobs.specs.CodeBlocks.{frame, with_phantom, flag, Block, AllAllowed, decoded_octets, line_octets}
use Rattle.link.specs.Agreed.{Settings, agreed, valid, least_packet, largest_frame, most_decoded}
use Rattle.link.specs.Answers.{Answer, octet, idle, quiet, held, refused}
use Rattle.link.specs.Sender.{Lane, low, high, Sender, SenderEnd, out_answer, load, next}
use Rattle.link.specs.Sender as sender
use Rattle.link.specs.Receiver.{Held, holds, kept_off, cobs, plain, PlainReading, Receiver, ReceiverEnd, Receive, area_of, aside, carried, is_plain, put_back, receive}
use Rattle.link.specs.Receiver as receiver
use Rattle.link.specs.ReceiverParts.{ReceiverReady}
use Rattle.link.specs.Runs.{SenderCall, loading, next_octet, Station, fresh_station, after_next, run, sender_answers, loaded_into, Written, written, written_octets, sent_by, at_true, at_false, receives, received, packet_in, packets_in, refusals_in, under_way, left_aside, AllArrive, AllAsExpected, closed_packets}
use Rattle.link.specs.Progress.{calls_to_empty}

-- ---- in bounds

-- every call keeps a state that is in bounds so, whatever octets and areas it is lent
pub record KeepBounds : Type 0 where
  pub load : (l : Lane) (p : List ℕ) (s : Sender) (area : List ℕ) → sender.in_bounds (agreed s.settings) s ≡ true
      → sender.in_bounds (agreed (load l p s area).state.settings) (load l p s area).state ≡ true
  pub next : (e : SenderEnd) → sender.in_bounds (agreed e.state.settings) e.state ≡ true
      → sender.in_bounds (agreed (next e).state.settings) (next e).state ≡ true
  pub receive : (e : ReceiverEnd) (x : ℕ) → receiver.in_bounds (agreed e.state.settings) e.state ≡ true
      → receiver.in_bounds (agreed (receive e x).after.state.settings) (receive e x).after.state ≡ true

-- a run from a fresh end is never refused 3
abbrev pub fresh_receiver : Settings → PlainReading → List ℕ → List ℕ → ReceiverEnd
fresh_receiver settings reading first second = record { state = receiver.opened_receiver settings reading; first = first; second = second }

pub record NeverOutOfBounds : Type 0 where
  pub sender : (settings : Settings) → valid (agreed settings) ≡ true → (low high : List ℕ) (calls : List SenderCall)
      → Memᴰ (refused 3) (sender_answers (fresh_station settings low high) calls) → ⊥
  pub receiver : (settings : Settings) (reading : PlainReading) → valid (agreed settings) ≡ true → (first second : List ℕ) (line : List ℕ)
      → Memᴰ (refused 3) (map (λ (h : Receive). h.report) (receives (fresh_receiver settings reading first second) line)) → ⊥

-- ---- demands 2 and 3

-- Packets come through: every octet is answered as expected; and so by lists, the reported packets are those closed, in closing order, and no
-- refusal is reported. replaces: whether the first fragment that is held takes an older one's place; no later one does.
pub record PacketsComeThrough (replaces : Bool) (es : List Written) (hs : List Receive) : Type 0 where
  pub each : AllAsExpected replaces es hs
  pub packets : packets_in hs ≡ closed_packets es
  pub refusals : refusals_in hs ≡ []

-- Demand 2, any list of calls: between fresh ends of the same settings, octet, width and limit, with plain reading off or on, every closed packet is reported at its closing
-- flag, in order, nothing is refused, and no fragment takes another's place. No octet and no report is left out.
abbrev pub SoundLine : Settings → PlainReading → Type 0
SoundLine settings reading =
    (low high first second : List ℕ)
    → most_decoded (agreed settings) ≤ length first
    → most_decoded (agreed settings) ≤ length second
    → (calls : List SenderCall)
    → (let es = written (fresh_station settings low high) calls in
    PacketsComeThrough false es (receives (fresh_receiver settings reading first second) (written_octets es)))

-- all areas are long enough for the calls of both ends to be taken
pub record LongEnough (settings : Settings) (low_area high_area first_area second_area : List ℕ) : Type 0 where
  pub low : largest_frame (agreed settings) ≤ length low_area
  pub high : largest_frame (agreed settings) ≤ length high_area
  pub first : most_decoded (agreed settings) ≤ length first_area
  pub second : most_decoded (agreed settings) ≤ length second_area

-- Demand 2, nothing loaded is lost, nothing is late: after any list of calls, so many next-octet calls as `calls_to_empty` says, or more.
-- Then the sender is idle; and the packets reported at the octets of either lane are those that were loaded into it, in order.
abbrev pub NothingLoadedIsLost : Settings → PlainReading → Type 0
NothingLoadedIsLost settings reading =
    (low high first second : List ℕ)
    → LongEnough settings low high first second
    → (calls : List SenderCall)
    → (n : ℕ)
    → (let w = fresh_station settings low high in
    let all = calls ++ replicate n next_octet in
    let es = written w all in
    calls_to_empty (run w calls).end.state ≤ n
    → (out_answer (next (run w all).end).out ≡ idle)
    × ((l : Lane) → packets_in (at_true (sent_by l es) (receives (fresh_receiver settings reading first second) (written_octets es))) ≡ loaded_into l w calls))

-- Demand 2, one packet: loaded into either lane of a fresh sender it is delivered, unaltered and alone, by n + 1 + floor(n / 207) calls of
-- next octet and one for the flag, n the octets of its frame.
abbrev pub Delivery : Settings → PlainReading → Type 0
Delivery settings reading =
    (low high first second : List ℕ)
    → LongEnough settings low high first second
    → (l : Lane)
    → (p : List ℕ)
    → least_packet ≤ length p
    → length p ≤ (agreed settings).limit
    → (let n = length (frame (agreed settings).check p) in
    let es = written (fresh_station settings low high) (loading l p ∷ replicate (n + 1 + n / 207 + 1) next_octet) in
    packets_in (receives (fresh_receiver settings reading first second) (written_octets es)) ≡ p ∷ [])

-- And from any sender that keeps to the code table, whatever blocks it chooses: a frame of blocks that the table allows is reported at its
-- flag, by every receiver that reads COBS and is out of a frame, in bounds and with areas long enough.
abbrev pub AnyBlocks : Type 0
AnyBlocks =
    (e : ReceiverEnd) → ReceiverReady e → is_plain e.state.mode ≡ false → e.state.framed ≡ false
    → (bs : List Block) (p : List ℕ)
    → (let g = agreed e.state.settings in
    AllAllowed g.zxe bs
    → decoded_octets bs ≡ with_phantom (frame g.check p)
    → least_packet ≤ length p
    → length p ≤ g.limit
    → packet_in (receive (received e (line_octets bs)) flag) ≡ some p)

-- What demand 3 says of the octets after the chosen flag. up_to: what was written up to and with that flag; w: the sender behind it; e: the
-- receiver behind it; es: what is written then; hs: the receiver's calls for it.
--   one: no high packet is under way at the flag, so at most one is, the low lane's
--   suspended: it is under way exactly if the sender has it marked as suspended
--   arrive: every octet arrives
--   aside: what is left aside is at octets of the packet that the low lane holds at the flag, and of no other
--   through: all else comes through. A fragment that the receiver holds at the flag is replaced by the first one that is held then, unless
--   a low packet is under way: with its D1 the older fragment is let go.
pub record AfterChosenFlag (up_to : List Written) (w : Station) (e : ReceiverEnd) (es : List Written) (hs : List Receive) : Type 0 where
  pub one : under_way high false up_to ≡ false
  pub suspended : under_way low false up_to ≡ w.end.state.suspended
  pub arrive : AllArrive hs
  pub aside : (f : Written) → Memᴰ f (at_true (left_aside (under_way low false up_to) es) es) → f.sent_for ≡ w.lanes.low
  pub through : PacketsComeThrough (not (under_way low false up_to) && receiver.is_held e.state.held)
      (at_false (left_aside (under_way low false up_to) es) es)
      (at_false (left_aside (under_way low false up_to) es) hs)

-- Whether a frame in some octets began FF: the first of them is FF (at_start), or one behind a flag.
abbrev pub frame_began_ff : Bool → List ℕ → Bool
frame_began_ff at_start [] = false
frame_began_ff at_start (x ∷ xs) = at_start && eqb x 0xFF || frame_began_ff (eqb x flag) xs

-- Demand 3.
--   plain reading is off, or it is on and no frame of the noise has FF for its first octet
--   every list of load and next-octet calls from a fresh sender, refused ones included, and every flag written: `before`, the call that
--   writes the chosen flag, `after`
--   any octets on the line before that flag: `noise`
--   the flag and all octets written after it arrive, once each and in order: the receiver's calls are for the flag and for those of `es`
--   nobody else writes state or areas: each call has them as the call before left them
--   both ends have the same settings, octet, width and limit: both are opened with them
--   the receiver's areas are long enough for its calls to be taken; were the sender's too short, no flag would be written
--   the packet suspended at the flag is one that had sent an octet by then and is not closed: at the flags that end its frames, up to and
--   with its closing flag, what is reported is left aside
abbrev pub Demand3 : Settings → PlainReading → Type 0
Demand3 settings reading =
    (low high first second : List ℕ)
    → most_decoded (agreed settings) ≤ length first
    → most_decoded (agreed settings) ≤ length second
    → (before after : List SenderCall)
    → (noise : List ℕ)
    → (receiver.is_off (receiver.opened_receiver settings reading).mode ≡ false → frame_began_ff true noise ≡ false)
    → (let v = fresh_station settings low high in
    let w = run v before in
    let e = (receive (received (fresh_receiver settings reading first second) noise) flag).after in
    let es = written (after_next w) after in
    out_answer (next w.end).out ≡ octet flag
    → AfterChosenFlag (written v (before ++ (next_octet ∷ []))) (after_next w) e es (receives e (written_octets es)))

-- ---- what the reports depend on

-- what is held: the first octets of the area that does not work
abbrev pub held_octets : Held → List ℕ → List ℕ
held_octets None area = []
held_octets (Some h) area = take h.count area

-- two receivers alike in their states, in the decoded octets of their work areas and in what they hold
pub record Alike (e f : ReceiverEnd) : Type 0 where
  pub state : f.state ≡ e.state
  pub decoded : take e.state.decoded (area_of e.state.turn f) ≡ take e.state.decoded (area_of e.state.turn e)
  pub held : held_octets e.state.held (area_of (not e.state.turn) f) ≡ held_octets e.state.held (area_of (not e.state.turn) e)

-- the areas are long enough
pub record AreasLongEnough (e : ReceiverEnd) : Type 0 where
  pub first : most_decoded (agreed e.state.settings) ≤ length e.first
  pub second : most_decoded (agreed e.state.settings) ≤ length e.second

-- a report, and the packet that it stands for
pub record ReportAndPacket : Type 0 where
  pub report : Answer
  pub packet : Option (List ℕ)

abbrev pub report_and_packet : Receive → ReportAndPacket
report_and_packet h = record { report = h.report; packet = packet_in h }

-- The reports, and the packets that they stand for, depend on the areas only through the first decoded octets of the work area and the
-- first held octets of the other.
abbrev pub AreasAside : Type 0
AreasAside = (e f : ReceiverEnd) → AreasLongEnough e → AreasLongEnough f → Alike e f → (line : List ℕ) → map report_and_packet (receives e line) ≡ map report_and_packet (receives f line)

-- ---- a restart: a frame that begins FF, as the receiver reads it (document 02, slip 4)

-- no call of the list is answered Held
abbrev pub NoHeldReport : List Receive → Type 0
NoHeldReport hs = (h : Receive) (n : ℕ) (replaced : Bool) → Memᴰ h hs → h.report ≡ held n replaced → ⊥

-- the receiver out of a frame, with nothing held; the settings, the mode and the map, the turn of the areas and the areas are as they were
abbrev pub cleared_state : Receiver → Receiver
cleared_state r = receiver.fresh r.settings r.mode r.map r.turn None

abbrev pub cleared : ReceiverEnd → ReceiverEnd
cleared e = record { state = cleared_state e.state; first = e.first; second = e.second }

-- a receiver that reads COBS and is out of a frame, in bounds and with areas long enough, whatever it holds
pub record OutOfCobsFrame (e : ReceiverEnd) : Type 0 where
  pub ready : ReceiverReady e
  pub cobs : is_plain e.state.mode ≡ false
  pub out : e.state.framed ≡ false

--   at_once: with plain reading off the FF is Quiet. From it on 5 is remembered and nothing is held; all else is as opened, but for the turn of the areas, and no octet
--   of them is written
--   frame: whatever the frame has behind its FF, its flag reports 5, and the receiver is as opened, but for the turn of the areas
--   at_once_on: with plain reading on the FF is Quiet too. From it on plain PPP is read (slip 5) and nothing is held; the FF is the frame's first
--   octet, at the start of the work area; all else is as opened, but for the turn of the areas
--   forgets: whether plain reading is off or on: after the FF, whatever comes, the reports, and the packets that they stand for, are those of any receiver f with the same settings
--   and turn that held nothing, whatever either has in its areas. So no fragment from before a restart is joined to anything after it
--   until_held: nothing is held from the FF on, until a Held report comes
--   none_to_resume: and while nothing is held, a frame that begins D1 is refused 8, where PRE is on
--   bounds: 5 is not remembered with something held
pub record Restart : Type 0 where
  pub at_once : (e : ReceiverEnd) → OutOfCobsFrame e → e.state.mode ≡ kept_off
      → receive e 0xFF
      ≡ record { report = quiet; after = record { state = receiver.in_frame receiver.no_block false 5 (cleared e).state; first = e.first; second = e.second } }
  pub at_once_on : (e : ReceiverEnd) → OutOfCobsFrame e → e.state.mode ≡ cobs
      → receive e 0xFF
      ≡ record {
        report = quiet;
        after = put_back e (record {
          state = receiver.with_mode plain (receiver.in_frame receiver.no_block false 0 (receiver.with_decoded 1 (cleared e).state));
          area = receiver.write (area_of e.state.turn e) 0 (0xFF ∷ []);
        });
      }
  pub frame : (e : ReceiverEnd) → OutOfCobsFrame e → e.state.mode ≡ kept_off → (rest : List ℕ) → (Memᴰ flag rest → ⊥)
      → receive (received e (0xFF ∷ rest)) flag ≡ record { report = refused 5; after = cleared e }
  pub forgets : (e f : ReceiverEnd) → OutOfCobsFrame e → ReceiverReady f
      → f.state ≡ (cleared e).state
      → (line : List ℕ) → map report_and_packet (receives e (0xFF ∷ line)) ≡ map report_and_packet (receives f (0xFF ∷ line))
  pub until_held : (e : ReceiverEnd) → OutOfCobsFrame e → (line : List ℕ) → NoHeldReport (receives e (0xFF ∷ line))
      → (received e (0xFF ∷ line)).state.held ≡ None
  pub none_to_resume : (e : ReceiverEnd) → OutOfCobsFrame e → (agreed e.state.settings).pre ≡ true → e.state.held ≡ None
      → (rest : List ℕ) → (Memᴰ flag rest → ⊥) → (receive (received e (0xD1 ∷ rest)) flag).report ≡ refused 8
  pub bounds : (r : Receiver) (n k : ℕ) → r.refusal ≡ 5 → r.held ≡ holds n k → receiver.in_bounds (agreed r.settings) r ≡ false

-- ---- areas changed behind the receiver's back (document 02, slip 8)

-- the octets that a receiver holds
abbrev pub octets_held : ReceiverEnd → List ℕ
octets_held e = held_octets e.state.held (aside e)

-- they give the register that is carried
abbrev pub Unchanged : ReceiverEnd → Type 0
Unchanged e = (let g = agreed e.state.settings in register g.check (octets_held e) ≡ carried g e.state.held)

-- besides PRE is on and something is held: a D1 would be neither 6 nor 8
pub record HasToResume (e : ReceiverEnd) : Type 0 where
  pub at : OutOfCobsFrame e
  pub pre : (agreed e.state.settings).pre ≡ true
  pub some : receiver.is_held e.state.held ≡ true

-- in a run from e nothing that is held is ever changed, and no frame is refused 21
pub record NeverChanged (e : ReceiverEnd) (line : List ℕ) : Type 0 where
  pub unchanged : Unchanged (received e line)
  pub not21 : Memᴰ (refused 21) (map (λ (h : Receive). h.report) (receives e line)) → ⊥

--   at_once: what is held no longer gives the register: the D1 is Quiet. From it on 21 is remembered, the frame is a resumed one and nothing is
--   held; all else is as opened, but for the turn of the areas, and no octet of them is written
--   frame: whatever the frame has behind its D1, its flag reports 21, and the receiver is as opened, but for the turn of the areas
--   only: it reports 21 in no other case
--   run: with state and areas lent back as they were left, what is held stays unchanged, and 21 is not reported. From any receiver, areas too
--   short included
--   fresh: so from a fresh one
--   burst: of what e holds unchanged, f, in the same state, has some bits changed, within as many neighbouring ones as the check has: 21
--   bounds: while something is held, a register of more bits than the check is out of bounds
pub record AreasChanged : Type 0 where
  pub at_once : (e : ReceiverEnd) → HasToResume e → (Unchanged e → ⊥)
      → receive e 0xD1
      ≡ record { report = quiet; after = record { state = receiver.in_frame receiver.no_block true 21 (cleared e).state; first = e.first; second = e.second } }
  pub frame : (e : ReceiverEnd) → HasToResume e → (Unchanged e → ⊥) → (rest : List ℕ) → (Memᴰ flag rest → ⊥)
      → receive (received e (0xD1 ∷ rest)) flag ≡ record { report = refused 21; after = cleared e }
  pub only : (e : ReceiverEnd) → HasToResume e → (rest : List ℕ) → (receive (received e (0xD1 ∷ rest)) flag).report ≡ refused 21 → Unchanged e → ⊥
  pub run : (e : ReceiverEnd) → Unchanged e → (e.state.refusal ≡ 21 → ⊥) → (line : List ℕ) → NeverChanged e line
  pub fresh : (settings : Settings) (reading : PlainReading) (first second line : List ℕ) → NeverChanged (fresh_receiver settings reading first second) line
  pub burst : (e f : ReceiverEnd) → Unchanged e → f.state ≡ e.state → HasToResume f
      → Burst (width (agreed e.state.settings).check) (octets_held e) (octets_held f)
      → (rest : List ℕ) → (Memᴰ flag rest → ⊥) → (receive (received f (0xD1 ∷ rest)) flag).report ≡ refused 21
  pub bounds : (r : Receiver) (n k : ℕ) → r.held ≡ holds n k → 2 ^ width (agreed r.settings).check ≤ k → receiver.in_bounds (agreed r.settings) r ≡ false
