-- The receiver's call, one for each octet (docs/READING.md; document 01, "Receiver", and for the bounds "Refusal table"; document 02, slips 4, 5 and 8).
use Rattle.std.specs.Prelude.{Bool, true, false, not, ◌&&◌, ◌||◌, List, [], ◌∷◌, ℕ, ◌+◌, ◌-◌, leb, ltb, eqb, length, take, replicate, Option, Some, None, Result, Ok, Err}
use Rattle.std.specs.Prelude.{if◌then◌else◌}
use Rattle.fcs.specs.CheckSequence.{ones, register, good}
use Rattle.cobs.specs.CodeBlocks.{flag, from_line, Meaning, meaning}
use Rattle.cobs.specs.declared.CodeError.TheVariants.{NotAgreed, NoCode}
use Rattle.plain.specs.declared.Taken.{Taken}
use Rattle.plain.specs.declared.Taken.TheVariants.{Removed, Escape, Data}
use Rattle.plain.specs.Stuffing.{taken}
pub use Rattle.plain.specs.Area.{write}
use Rattle.link.specs.Agreed.{Settings, Agreed, agreed, OpenError, opening, valid, least_frame, largest_frame, most_decoded}
use Rattle.link.specs.Answers.{Answer, quiet, packet, held, refused}
pub use Rattle.link.specs.declared.receiver.Fragment.{Fragment}
pub use Rattle.link.specs.declared.receiver.LastBlock.{LastBlock}
pub use Rattle.link.specs.declared.receiver.LastBlock.TheVariants.{NoBlock as no_block, BlockD0 as block_d0, OtherBlock as other_block}
pub use Rattle.link.specs.declared.receiver.Mode.{Mode}
pub use Rattle.link.specs.declared.receiver.Mode.TheVariants.{Off as kept_off, Cobs as cobs, Plain as plain, Escaped as escape_open}
pub use Rattle.link.specs.declared.receiver.Receiver.{Receiver}

-- ---- the state

-- Document 01's list, item by item in its order, and the field of `Receiver` (declared in src/receiver.rt) that is the item:
--   work area                                               turn: false for the first area, true for the second
--   decoded count                                           decoded
--   held count, or none                                     held: `holds n k`, n octets, or `None`
--   check register of the held octets (slip 8)              the k beside the count; where none is held, its start value (`carried`)
--   data left                                               left
--   zeros due                                               zeros
--   last block: none, D0, other                             last: `no_block`, `block_d0`, `other_block`
--   mark *in a frame*                                       framed
--   mark *resumed*                                          resumed
--   remembered refusal                                      refusal: its number, 0 for none
--   settings octet ("Code blocks"), width (slip 1),         settings: octet, width,
--   limit (slip 11)                                         limit
--   plain reading off, or on and COBS, plain or plain       mode: `kept_off`, or `cobs`, `plain`,
--   with an escape open (slip 5)                            `escape_open`
--   receiving map (slip 5)                                  map

-- What is held: nothing, or a fragment of n octets with the check register k.
abbrev pub Held : Type 0
Held = Option Fragment

abbrev pub holds : ℕ → ℕ → Held
holds n k = Some (record { count = n; register = k })

-- Plain reading, as a receiver is opened: kept off, or on, with the receiving map.
abbrev pub PlainReading : Type 0
PlainReading = Option ℕ

-- A fresh receiver, whatever its settings, its mode and map, the turn of the areas and what it holds.
abbrev pub fresh : Settings → Mode → ℕ → Bool → Held → Receiver
fresh settings mode map turn fragment =
    record {
      turn = turn;
      decoded = 0;
      held = fragment;
      left = 0;
      zeros = 0;
      last = no_block;
      framed = false;
      resumed = false;
      refusal = 0;
      settings = settings;
      mode = mode;
      map = map;
    }

-- At a flag an escape is over.
abbrev pub escape_over : Mode → Mode
escape_over kept_off = kept_off
escape_over cobs = cobs
escape_over plain = plain
escape_over escape_open = plain

-- Out of a frame all is as fresh but the settings, the mode and the map, the turn of the areas and what is held.
abbrev pub out_of_frame : Receiver → Bool → Held → Receiver
out_of_frame r turn fragment = fresh r.settings (escape_over r.mode) r.map turn fragment

-- An end is opened fresh: the first area is the work area, and nothing is held. With plain reading on COBS is read first; with it off the map
-- is empty.
abbrev pub opened_receiver : Settings → PlainReading → Receiver
opened_receiver settings None = fresh settings kept_off 0 false None
opened_receiver settings (Some map) = fresh settings cobs map false None

-- Its opening is refused 23 of a limit out of range, and then 3 of any width but 16 or 32.
abbrev pub open_receiver : Settings → PlainReading → Result Receiver OpenError
open_receiver settings reading = opening settings (opened_receiver settings reading)

-- The state with some items changed. But for these six and `fresh` no definition and no proof writes a whole state out.

-- the turn of the areas
abbrev pub with_turn : Bool → Receiver → Receiver
with_turn turn r =
    record {
      turn = turn;
      decoded = r.decoded;
      held = r.held;
      left = r.left;
      zeros = r.zeros;
      last = r.last;
      framed = r.framed;
      resumed = r.resumed;
      refusal = r.refusal;
      settings = r.settings;
      mode = r.mode;
      map = r.map;
    }

-- what is held
abbrev pub with_held : Held → Receiver → Receiver
with_held fragment r =
    record {
      turn = r.turn;
      decoded = r.decoded;
      held = fragment;
      left = r.left;
      zeros = r.zeros;
      last = r.last;
      framed = r.framed;
      resumed = r.resumed;
      refusal = r.refusal;
      settings = r.settings;
      mode = r.mode;
      map = r.map;
    }

-- decoded count
abbrev pub with_decoded : ℕ → Receiver → Receiver
with_decoded n r =
    record {
      turn = r.turn;
      decoded = n;
      held = r.held;
      left = r.left;
      zeros = r.zeros;
      last = r.last;
      framed = r.framed;
      resumed = r.resumed;
      refusal = r.refusal;
      settings = r.settings;
      mode = r.mode;
      map = r.map;
    }

-- data left and zeros due
abbrev pub with_due : ℕ → ℕ → Receiver → Receiver
with_due n z r =
    record {
      turn = r.turn;
      decoded = r.decoded;
      held = r.held;
      left = n;
      zeros = z;
      last = r.last;
      framed = r.framed;
      resumed = r.resumed;
      refusal = r.refusal;
      settings = r.settings;
      mode = r.mode;
      map = r.map;
    }

-- in a frame, with this last block, mark resumed and remembered refusal
abbrev pub in_frame : LastBlock → Bool → ℕ → Receiver → Receiver
in_frame last resumed refusal r =
    record {
      turn = r.turn;
      decoded = r.decoded;
      held = r.held;
      left = r.left;
      zeros = r.zeros;
      last = last;
      framed = true;
      resumed = resumed;
      refusal = refusal;
      settings = r.settings;
      mode = r.mode;
      map = r.map;
    }

-- the mode
abbrev pub with_mode : Mode → Receiver → Receiver
with_mode mode r =
    record {
      turn = r.turn;
      decoded = r.decoded;
      held = r.held;
      left = r.left;
      zeros = r.zeros;
      last = r.last;
      framed = r.framed;
      resumed = r.resumed;
      refusal = r.refusal;
      settings = r.settings;
      mode = mode;
      map = r.map;
    }

-- What is held is let go: from now on nothing is. So at an FF that begins a frame (slip 4), at a D1 that is accepted or refused 21 (slip 8),
-- and at the flag of a resumed frame that is delivered or refused; nowhere else.
abbrev pub let_go : Receiver → Receiver
let_go r = with_held None r

-- The check register that is carried: it goes with the held count.
abbrev pub carried : Agreed → Held → ℕ
carried g None = ones g.check
carried g (Some h) = h.register

-- ---- in bounds ("Refusal table", last paragraph)

abbrev pub is_no_block : LastBlock → Bool
is_no_block no_block = true
is_no_block block_d0 = false
is_no_block other_block = false

abbrev pub is_d0 : LastBlock → Bool
is_d0 no_block = false
is_d0 block_d0 = true
is_d0 other_block = false

-- what is held, by the remembered refusal: with 5 nothing (slip 4), else no more than may be decoded, with any register of the width (slip 8)
abbrev pub held_ok : Agreed → ℕ → Held → Bool
held_ok g refusal None = true
held_ok g refusal (Some h) = not (eqb refusal 5) && leb h.count (most_decoded g) && leb h.register (ones g.check)

-- data left, zeros due and last block as in a fresh receiver
abbrev pub no_block_open : Receiver → Bool
no_block_open r = eqb r.left 0 && eqb r.zeros 0 && is_no_block r.last

-- outside a frame: as in a fresh receiver, whatever its work area, its settings, its mode and map, and what it holds
abbrev pub fresh_ok : Receiver → Bool
fresh_ok r = eqb r.decoded 0 && eqb r.left 0 && eqb r.zeros 0 && is_no_block r.last && not r.resumed && eqb r.refusal 0

-- in a frame that is not refused: no block yet only behind D1; behind a block other than D0 data is to come or something was decoded
abbrev pub last_block_ok : LastBlock → Receiver → Bool
last_block_ok no_block r = r.resumed
last_block_ok block_d0 r = true
last_block_ok other_block r = ltb 0 r.left || ltb 0 r.decoded

-- a refusal that is remembered: from 5 to 10, or 21 (slip 8); 0 for none
abbrev pub refusal_ok : ℕ → Bool
refusal_ok n = eqb n 0 || (leb 5 n && leb n 10 || eqb n 21)

-- the mode, with an escape open or not (slip 5)
abbrev pub is_off : Mode → Bool
is_off kept_off = true
is_off cobs = false
is_off plain = false
is_off escape_open = false

abbrev pub is_plain : Mode → Bool
is_plain kept_off = false
is_plain cobs = false
is_plain plain = true
is_plain escape_open = true

abbrev pub is_escaped : Mode → Bool
is_escaped kept_off = false
is_escaped cobs = false
is_escaped plain = false
is_escaped escape_open = true

-- what the mode asks (slip 5): 5 is remembered only with plain reading off; while plain is read, no block is open, in a frame or not; and an
-- escape is open only in a frame
abbrev pub mode_ok : Receiver → Bool
mode_ok r =
    (not (eqb r.refusal 5) || is_off r.mode)
    && (not (is_plain r.mode) || no_block_open r)
    && (not (is_escaped r.mode) || r.framed)

-- in a frame or not, with a refusal remembered or not
abbrev pub frame_ok : Receiver → Bool
frame_ok r = refusal_ok r.refusal && (if r.framed then is_plain r.mode || not (eqb r.refusal 0) || last_block_ok r.last r else fresh_ok r)

-- all of it, with 207 data octets and 2 zeros at the most, and no count above what may be decoded
unfoldable pub in_bounds : Agreed → Receiver → Bool
in_bounds g r =
    leb r.decoded (most_decoded g)
    && held_ok g r.refusal r.held
    && leb r.left 207
    && leb r.zeros 2
    && mode_ok r
    && frame_ok r

-- ---- an octet that is no flag (steps 1 to 4)

-- What a step uses stands before it, so that they come in the order 4, 3, 2, 1.

-- The receiver and its work area: the steps of an octet that is no flag write into no other area.
pub record Working : Type 0 where
  pub state : Receiver
  pub area : List ℕ

-- Step 4: a refusal is remembered, and the block is over; what still comes of the frame is skipped (`steps_1_to_4`). `resumed`: whether the frame
-- is a resumed one.
abbrev pub step4_remember : ℕ → Bool → Receiver → Receiver
step4_remember n resumed r = with_due 0 0 (in_frame no_block resumed n r)

-- what the steps say as "gives n"
abbrev pub step4_refuse : ℕ → Working → Working
step4_refuse n w = record { state = step4_remember n w.state.resumed w.state; area = w.area }

-- octets are written after those already decoded
abbrev pub step3_write : List ℕ → Working → Working
step3_write xs w = record { state = with_decoded (w.state.decoded + length xs) w.state; area = write w.area w.state.decoded xs }

-- Step 3: octets are decoded, or, where they would be too many, refused 10 and not written.
unfoldable pub step3_decode : Agreed → List ℕ → Working → Working
step3_decode g xs w = if ltb (most_decoded g) (w.state.decoded + length xs) then step4_refuse 10 w else step3_write xs w

-- Step 3 of a data octet; with the last of its block, the block's zeros together
unfoldable pub step3_data : Agreed → Working → ℕ → Working
step3_data g w x =
    let r = w.state in
    if ltb (most_decoded g) (r.decoded + 1) then step4_refuse 10 w
    else if eqb r.left 1 then step3_decode g (replicate r.zeros 0) (step3_write (x ∷ []) (record { state = with_due 0 0 r; area = w.area }))
    else step3_write (x ∷ []) (record { state = with_due (r.left - 1) r.zeros r; area = w.area })

-- Step 2: a code, by what the table says of it. It begins a block, whose zeros, where it has no data, are decoded at once.
abbrev pub last_block : ℕ → LastBlock
last_block c = if eqb c 0xD0 then block_d0 else other_block

abbrev pub step2_begin_block : LastBlock → ℕ → ℕ → Receiver → Receiver
step2_begin_block b n z r = with_due n z (in_frame b r.resumed r.refusal r)

unfoldable pub step2_by_meaning : Agreed → Working → ℕ → Meaning → Working
step2_by_meaning g w c (Ok row) =
    if eqb row.nonzeros 0 then step3_decode g (replicate row.zeros 0) (record { state = step2_begin_block (last_block c) 0 0 w.state; area = w.area })
    else record { state = step2_begin_block (last_block c) row.nonzeros row.zeros w.state; area = w.area }
step2_by_meaning g w c (Err NotAgreed) = step4_refuse 6 w
step2_by_meaning g w c (Err NoCode) = step4_refuse 7 w

unfoldable pub step2_code : Agreed → Working → ℕ → Working
step2_code g w c = step2_by_meaning g w c (meaning g.zxe c)

-- Step 1, FF: a restart (slip 4's word), as a peer that begins anew, in plain PPP, sends it. What is held is let go at once, and, with plain
-- reading off, the frame is refused 5.
abbrev pub step1_restart : Receiver → Receiver
step1_restart r = step4_remember 5 r.resumed (let_go r)

-- Step 1, D1: it makes the frame a resumed one. If PRE is off it is refused 6, and if nothing is held 8. Else what is held is let go. If its n
-- octets, in the area that does not work (`aside`), no longer give the register that is carried, the frame is refused 21 (slip 8); else that
-- area becomes the work area, and decoding goes on there, behind them.
abbrev pub step1_resume : ℕ → Receiver → Receiver
step1_resume n r = with_due 0 0 (with_decoded n (in_frame no_block true 0 (with_turn (not r.turn) r)))

unfoldable pub step1_resume_held : Agreed → List ℕ → Held → Receiver → Receiver
step1_resume_held g aside None r = step4_remember 8 true r
step1_resume_held g aside (Some h) r =
    if eqb (register g.check (take h.count aside)) h.register then step1_resume h.count (let_go r) else step4_remember 21 true (let_go r)

unfoldable pub step1_d1 : Agreed → List ℕ → Receiver → Receiver
step1_d1 g aside r = if g.pre then step1_resume_held g aside r.held r else step4_remember 6 true r

-- Step 1: the first octet of a frame.
unfoldable pub step1_first_octet : Agreed → List ℕ → Working → ℕ → Working
step1_first_octet g aside w x =
    if eqb x 0xFF then record { state = step1_restart w.state; area = w.area }
    else if eqb x 0xD1 then record { state = step1_d1 g aside w.state; area = w.area }
    else step2_code g w x

-- Steps 1 to 4: an octet inside a frame, 00 turned into 7E already. With a refusal remembered it is skipped (step 4).
unfoldable pub steps_1_to_4 : Agreed → List ℕ → Working → ℕ → Working
steps_1_to_4 g aside w x =
    if not (eqb w.state.refusal 0) then w
    else if not w.state.framed then step1_first_octet g aside w x
    else if ltb 0 w.state.left then step3_data g w x
    else step2_code g w x

-- ---- a flag (step 5)

pub record Ended : Type 0 where
  pub report : Answer
  pub state : Receiver

-- the frame is over
abbrev pub frame_over : Receiver → Receiver
frame_over r = out_of_frame r r.turn r.held

-- A frame that is delivered or refused: if it is a resumed one, what is held is let go.
abbrev pub step5_end : Answer → Receiver → Ended
step5_end a r = record { report = a; state = frame_over (if r.resumed then let_go r else r) }

-- Held: how many octets are decoded, and whether this frame, if not a resumed one, took an older fragment's place. The two areas change places:
-- the work area holds from now on, and the register of its decoded octets is carried (slip 8).
abbrev pub is_held : Held → Bool
is_held None = false
is_held (Some h) = true

abbrev pub step5_hold : Agreed → Receiver → List ℕ → Ended
step5_hold g r area =
    record {
      report = held r.decoded (not r.resumed && is_held r.held);
      state = out_of_frame r (not r.turn) (holds r.decoded (register g.check (take r.decoded area)));
    }

-- inside a block: Held where PRE is on, else refused 11
abbrev pub step5_in_block : Agreed → Receiver → List ℕ → Ended
step5_in_block g r area = if g.pre then step5_hold g r area else step5_end (refused 11) r

-- Without the phantom (of which plain PPP has none) n octets are left. Too few for a frame (under 4 with 16 bits) are refused 13, and those with a register that is not good
-- 14; else they are a packet and its FCS.
unfoldable pub step5_without_phantom : Agreed → Receiver → List ℕ → ℕ → Ended
step5_without_phantom g r area n =
    if ltb n (least_frame g) then step5_end (refused 13) r
    else if good g.check (take n area) then step5_end (packet r.turn (n - g.check.fcs_length)) r
    else step5_end (refused 14) r

-- Step 5, in its order: what is remembered; no block behind D1; inside a block; D0 as the last one; else the blocks are whole. `area` is the
-- work area.
unfoldable pub step5_flag : Agreed → Receiver → List ℕ → Ended
step5_flag g r area =
    if not (eqb r.refusal 0) then step5_end (refused r.refusal) r
    else if is_no_block r.last then step5_end (refused 9) r
    else if ltb 0 r.left then step5_in_block g r area
    else if is_d0 r.last then step5_end (refused 12) r
    else step5_without_phantom g r area (r.decoded - 1)

-- The flag of a frame reports; where there is no frame, it is Quiet.
unfoldable pub at_flag : Agreed → Receiver → List ℕ → Ended
at_flag g r area = if r.framed then step5_flag g r area else record { report = quiet; state = r }

-- ---- plain PPP (slip 5; RFC 1662, section 4)

-- The frame goes on, in this mode.
abbrev pub in_plain_frame : Mode → Receiver → Receiver
in_plain_frame mode r = in_frame no_block r.resumed 0 (with_mode mode r)

-- An octet of the frame. There is no phantom, so that one more than the largest frame has is refused 10 already, and not written.
unfoldable pub plain_data : Agreed → ℕ → Working → Working
plain_data g y w =
    let v : Working = record { state = in_plain_frame plain w.state; area = w.area } in
    if ltb (largest_frame g) (w.state.decoded + 1) then step4_refuse 10 v else step3_write (y ∷ []) v

-- by what an octet says: a removed one changes nothing, not even whether a frame has begun
unfoldable pub plain_taken : Agreed → Working → Taken → Working
plain_taken g w Removed = w
plain_taken g w Escape = record { state = in_plain_frame escape_open w.state; area = w.area }
plain_taken g w (Data y) = plain_data g y w

-- An octet that is no flag. With a refusal remembered it is skipped.
unfoldable pub plain_octet : Agreed → Working → ℕ → Working
plain_octet g w x =
    if not (eqb w.state.refusal 0) then w
    else plain_taken g w (taken w.state.map (is_escaped w.state.mode) x)

-- The flag of a frame: what is remembered; more octets than the largest frame has (a state that is handed in may have one); an escape that is
-- open; then as in COBS, by length and register.
unfoldable pub plain_flag : Agreed → Receiver → List ℕ → Ended
plain_flag g r area =
    if not (eqb r.refusal 0) then step5_end (refused r.refusal) r
    else if ltb (largest_frame g) r.decoded then step5_end (refused 10) r
    else if is_escaped r.mode then step5_end (refused 18) r
    else step5_without_phantom g r area r.decoded

unfoldable pub at_plain_flag : Agreed → Receiver → List ℕ → Ended
at_plain_flag g r area = if r.framed then plain_flag g r area else record { report = quiet; state = r }

-- Plain reading begins: with the reading on, at an FF that would begin a COBS frame. What is held is let go (slip 4), and the FF is the plain
-- frame's first octet.
abbrev pub begins_plain : Receiver → ℕ → Bool
begins_plain r x = not (is_off r.mode) && not r.framed && eqb x 0xFF

unfoldable pub begin_plain : Agreed → Working → Working
begin_plain g w = plain_data g 0xFF (record { state = let_go w.state; area = w.area })

-- ---- the call

-- a receiver and the two areas lent to it
pub record ReceiverEnd : Type 0 where
  pub state : Receiver
  pub first : List ℕ
  pub second : List ℕ

-- the first area (false) or the second (true)
abbrev pub area_of : Bool → ReceiverEnd → List ℕ
area_of turn e = if turn then e.second else e.first

-- the receiver with its work area,
abbrev pub work : ReceiverEnd → Working
work e = record { state = e.state; area = area_of e.state.turn e }

-- the area that does not work, and holds what is held,
abbrev pub aside : ReceiverEnd → List ℕ
aside e = area_of (not e.state.turn) e

-- and the work area put back where it was taken from
abbrev pub put_back : ReceiverEnd → Working → ReceiverEnd
put_back e w =
    record {
      state = w.state;
      first = if e.state.turn then e.first else w.area;
      second = if e.state.turn then w.area else e.second;
    }

pub record Receive : Type 0 where
  pub report : Answer
  pub after : ReceiverEnd

-- what a flag comes to: it writes into neither area
abbrev pub flagged : ReceiverEnd → Ended → Receive
flagged e t = record { report = t.report; after = record { state = t.state; first = e.first; second = e.second } }

-- an octet that is no flag is Quiet
abbrev pub quietly : ReceiverEnd → Working → Receive
quietly e w = record { report = quiet; after = put_back e w }

-- in COBS: a flag, or an octet of a frame, where 00 is turned into 7E first
abbrev pub receive_cobs : Agreed → ReceiverEnd → ℕ → Receive
receive_cobs g e x =
    if eqb x flag then flagged e (at_flag g e.state (work e).area)
    else quietly e (steps_1_to_4 g (aside e) (work e) (from_line x))

-- in plain PPP (slip 5)
abbrev pub receive_plain : Agreed → ReceiverEnd → ℕ → Receive
receive_plain g e x =
    if eqb x flag then flagged e (at_plain_flag g e.state (work e).area)
    else quietly e (plain_octet g (work e) x)

-- The receiver's call: refusals 3 (of the width or the limit), 2 and 3, in this order; else in plain PPP, or in COBS, or plain reading begins.
unfoldable pub receive : ReceiverEnd → ℕ → Receive
receive e x =
    let g = agreed e.state.settings in
    if not (valid g) then record { report = refused 3; after = e }
    else if ltb (length e.first) (most_decoded g) || ltb (length e.second) (most_decoded g) then record { report = refused 2; after = e }
    else if not (in_bounds g e.state) then record { report = refused 3; after = e }
    else if is_plain e.state.mode then receive_plain g e x
    else if begins_plain e.state x then quietly e (begin_plain g (work e))
    else receive_cobs g e x
