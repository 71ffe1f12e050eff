-- Settings, codes, bounds and refusals, by example (document 01, "Code blocks", "Refusal table", and "Receiver" on what is held; document 02,
-- slips 1, 4 and 11): one more table beside the marked cases, and three sentences that are general.
use Rattle.std.specs.Prelude.{◌≡◌, Bool, true, false, ◌&&◌, ℕ, ◌+◌, ◌-◌, ◌*◌, ◌≤◌, ◌<◌, leb, length, replicate, Some, Ok, Err, None}
use mathlib.Core.List.{List, [], ◌∷◌, ◌++◌, Memᴰ}
use Rattle.std.specs.Prelude.{if◌then◌else◌}
use Rattle.cobs.specs.CodeBlocks.{flag, meaning, Meaning, in_row}
use Rattle.link.specs.Agreed.{Settings, OpenError, limit_refused, width_refused, agreed, valid_width, valid_limit, valid, least_packet, least_frame, largest_frame, most_decoded}
use Rattle.link.specs.Answers.{Answer, done, octet, quiet, refused}
use Rattle.link.specs.Sender.{Lane, low, high, Sender, SenderEnd, lane_state, opened_sender, open_sender, with_lane, with_block, with_line, with_marks, out_answer, in_bounds, load, next}
use Rattle.link.specs.Receiver.{holds, LastBlock, no_block, block_d0, other_block, kept_off, Receiver, ReceiverEnd, opened_receiver, open_receiver, fresh, with_held, with_decoded, with_due, in_frame, receive, Held}
use Rattle.cobs.specs.declared.CodeError.TheVariants.{NotAgreed, NoCode}
use Rattle.link.specs.Receiver as receiver
use Rattle.link.specs.Runs.{SenderCall, loading, next_octet, run, sender_answers, written, written_octets, received}
use Rattle.link.specs.Progress.{calls_to_empty}
use Rattle.link.specs.Demands.{fresh_receiver}
use Rattle.link.specs.Marked.{bits16, Case, sent, reported, refused_ten, chosen, receiver_area, fresh_sender, fresh_end, packet_of, held_of, refused_by, digits}
use Rattle.link.specs.Marked as marked

-- ---- general sentences

-- of the settings octet only 01 and 02 are looked at
abbrev pub OtherBitsIgnored : Type 0
OtherBitsIgnored =
    (octet width limit n : ℕ)
    → agreed (record { octet = octet + 4 * n; width = width; limit = limit }) ≡ agreed (record { octet = octet; width = width; limit = limit })

-- the lengths that follow from valid settings: of the least frame, of the largest one, and of what is decoded at the most
pub record Lengths (settings : Settings) (least_octets largest_octets most_octets : ℕ) : Type 0 where
  pub taken : valid (agreed settings) ≡ true
  pub least : least_packet ≡ 2
  pub most : (agreed settings).limit ≡ settings.limit
  pub least_frame : least_frame (agreed settings) ≡ least_octets
  pub largest_frame : largest_frame (agreed settings) ≡ largest_octets
  pub most_decoded : most_decoded (agreed settings) ≡ most_octets

-- Those of 16 and of 32 bits, whatever the settings octet, with any limit from 2 to 16,384; there is no other width and no other limit. Whether
-- the limit is in range does not hang on the width.
pub record AgreedLengths : Type 0 where
  pub of16 : (octet limit : ℕ) → 2 ≤ limit → limit ≤ 16384 → Lengths (record { octet = octet; width = 16; limit = limit }) 4 (limit + 2) (limit + 3)
  pub of32 : (octet limit : ℕ) → 2 ≤ limit → limit ≤ 16384 → Lengths (record { octet = octet; width = 32; limit = limit }) 6 (limit + 4) (limit + 5)
  pub other_width : (settings : Settings) → (settings.width ≡ 16 → ⊥) → (settings.width ≡ 32 → ⊥) → valid_width (agreed settings) ≡ false
  pub below : (settings : Settings) → settings.limit < 2 → valid_limit (agreed settings) ≡ false
  pub above : (settings : Settings) → 16384 < settings.limit → valid_limit (agreed settings) ≡ false
  pub in_range : (settings : Settings) → 2 ≤ settings.limit → settings.limit ≤ 16384 → valid_limit (agreed settings) ≡ true
  pub wrong_width : (settings : Settings) → valid_width (agreed settings) ≡ false → valid (agreed settings) ≡ false
  pub wrong_limit : (settings : Settings) → valid_limit (agreed settings) ≡ false → valid (agreed settings) ≡ false

-- A load into an empty lane, with an area and a state that are not refused: a packet of an allowed length is taken, any other refused 1.
abbrev pub PacketLengths : Type 0
PacketLengths =
    (l : Lane) (p : List ℕ) (s : Sender) (area : List ℕ)
    → (let g = agreed s.settings in
    valid g ≡ true
    → largest_frame g ≤ length area
    → in_bounds g s ≡ true
    → (lane_state l s).length ≡ 0
    → (load l p s area).answer ≡ (if leb least_packet (length p) && leb (length p) g.limit then done else refused 1))

-- ---- what an example says

-- plain reading is off: an opened receiver, one out of a frame with this turn and held, a fresh one with areas
abbrev opened_off : Settings → Receiver
opened_off settings = opened_receiver settings None

abbrev out_off : Settings → Bool → Held → Receiver
out_off settings = fresh settings kept_off 0

abbrev fresh_off : Settings → List ℕ → List ℕ → ReceiverEnd
fresh_off settings = fresh_receiver settings None

-- bits: whether these settings allow D3-FE, and preemption
-- case: a case in the words of the marked ones
-- reads: with ZXE or without, what the table says of this code
-- puts: with these settings these calls of a fresh sender put so on the line
-- opens: either end is opened with these settings
-- not_opened: the opening of either end with these settings is refused so, limit_refused (23) or width_refused (3)
-- loads, asks, hears: what a call of load, next octet or the receiver answers
-- calls: what calls of a fresh sender answer, with settings 03
-- empties: with settings 03, behind these calls of a fresh sender so many of next octet are told to empty both lanes, and no fewer do: the
--   last of them answers the flag that closes the last frame
-- in_bounds_s, in_bounds_r: whether this state of a sender, or of a receiver, is in bounds
-- leaves: what this receiver holds after these octets
-- becomes: this receiver's state after these octets
-- reports: what this receiver reports at a flag behind these octets
-- decodes: how many octets a receiver in this state has decoded after this one, and which refusal it remembers
pub data Example : Type 0 where
  bits : Settings → Bool → Bool → Example
  case : Case → Example
  reads : Bool → ℕ → Meaning → Example
  puts : Settings → List SenderCall → List ℕ → Example
  opens : Settings → Example
  not_opened : Settings → OpenError → Example
  loads : Lane → List ℕ → Sender → List ℕ → Answer → Example
  asks : SenderEnd → Answer → Example
  hears : ReceiverEnd → ℕ → Answer → Example
  calls : List SenderCall → List Answer → Example
  empties : List SenderCall → ℕ → Example
  in_bounds_s : Sender → Bool → Example
  in_bounds_r : Receiver → Bool → Example
  leaves : ReceiverEnd → List ℕ → Held → Example
  becomes : ReceiverEnd → List ℕ → Receiver → Example
  reports : ReceiverEnd → List ℕ → Answer → Example
  decodes : Receiver → ℕ → ℕ → ℕ → Example

abbrev pub Tells : Example → Type 0
Tells (bits settings zxe pre) = ((agreed settings).zxe ≡ zxe) × ((agreed settings).pre ≡ pre)
Tells (case c) = marked.Says c
Tells (reads zxe c m) = meaning zxe c ≡ m
Tells (puts settings cs line) = written_octets (written (fresh_sender settings) cs) ≡ line
Tells (opens settings) =
    (open_sender settings ≡ Ok (opened_sender settings)) × (open_receiver settings None ≡ Ok (opened_off settings))
Tells (not_opened settings e) = (open_sender settings ≡ Err e) × (open_receiver settings None ≡ Err e)
Tells (loads l p s area a) = (load l p s area).answer ≡ a
Tells (asks e a) = out_answer (next e).out ≡ a
Tells (hears e x a) = (receive e x).report ≡ a
Tells (calls cs answers) = sender_answers (fresh_sender (bits16 0x03)) cs ≡ answers
Tells (empties cs n) =
    let w = run (fresh_sender (bits16 0x03)) cs in
    (calls_to_empty w.end.state ≡ n) × (out_answer (next (run w (replicate (n - 1) next_octet)).end).out ≡ octet flag)
Tells (in_bounds_s s ok) = in_bounds (agreed s.settings) s ≡ ok
Tells (in_bounds_r r ok) = receiver.in_bounds (agreed r.settings) r ≡ ok
Tells (decodes r x n refusal) =
    let t = (receive (record { state = r; first = receiver_area r.settings; second = receiver_area r.settings }) x).after.state in
    (t.decoded ≡ n) × (t.refusal ≡ refusal)
Tells (leaves e octets h) = (received e octets).state.held ≡ h
Tells (becomes e octets r) = (received e octets).state ≡ r
Tells (reports e octets a) = (receive (received e octets) flag).report ≡ a

-- ---- the parts of the examples

-- of the packet 31 to 39: its whole frame (FCS 6E 90), the frame broken off behind 33, and the resumed frame of what is missing
abbrev whole : List ℕ
whole = (0x0C ∷ digits) ++ (0x6E ∷ 0x90 ∷ [])

abbrev broken : List ℕ
broken = 0x0C ∷ 0x31 ∷ 0x32 ∷ 0x33 ∷ 0x7E ∷ []

abbrev resuming : List ℕ
resuming = 0xD1 ∷ 0x09 ∷ 0x34 ∷ 0x35 ∷ 0x36 ∷ 0x37 ∷ 0x38 ∷ 0x39 ∷ 0x6E ∷ 0x90 ∷ []

-- A low packet 31 32 33 has sent two octets when the high packet 41 42 is loaded; then both are sent.
abbrev urgent : List SenderCall
urgent =
    loading low (0x31 ∷ 0x32 ∷ 0x33 ∷ []) ∷ next_octet ∷ next_octet ∷ loading high (0x41 ∷ 0x42 ∷ []) ∷ replicate 14 next_octet

abbrev broken_off : List ℕ
broken_off = (0x06 ∷ 0x31 ∷ 0x7E ∷ []) ++ (0x05 ∷ 0x41 ∷ 0x42 ∷ 0xEF ∷ 0x31 ∷ 0x7E ∷ []) ++ (0xD1 ∷ 0x05 ∷ 0x32 ∷ 0x33 ∷ 0xB4 ∷ 0x9C ∷ 0x7E ∷ [])

abbrev in_one_piece : List ℕ
in_one_piece = (0x06 ∷ 0x31 ∷ 0x32 ∷ 0x33 ∷ 0xB4 ∷ 0x9C ∷ 0x7E ∷ []) ++ (0x05 ∷ 0x41 ∷ 0x42 ∷ 0xEF ∷ 0x31 ∷ 0x7E ∷ [])

-- an area of so many octets
abbrev pub area : ℕ → List ℕ
area n = replicate n 0

-- a sender that is handed in with 208 data octets left
abbrev left_over : SenderEnd
left_over =
    record {
      state = with_line (Some low) (with_block 208 0 (with_lane low (record { length = 300; position = 0 }) (opened_sender (bits16 0x03))));
      low = area 2050;
      high = area 2050;
    }

-- a receiver in a block with so many data octets left
abbrev in_block : ℕ → ReceiverEnd
in_block n = record { state = with_due n 1 (in_frame other_block false 0 (opened_off (bits16 0x03))); first = area 2051; second = area 2051 }

-- a receiver that holds three octets, 00 each, without PRE
abbrev holds_unasked : ReceiverEnd
holds_unasked = record { state = out_off (bits16 0x01) false (holds 3 0x3933); first = area 2051; second = area 2051 }

-- a sender with the low lane, or the high one, on the line: its length and position, data left and zeros due
abbrev low_on : ℕ → ℕ → ℕ → ℕ → Sender
low_on length position left zeros =
    with_line (Some low) (with_block left zeros (with_lane low (record { length = length; position = position }) (opened_sender (bits16 0x03))))

abbrev high_on : ℕ → ℕ → ℕ → ℕ → Sender
high_on length position left zeros =
    with_line (Some high) (with_block left zeros (with_lane high (record { length = length; position = position }) (opened_sender (bits16 0x03))))

-- a sender with a lane off the line
abbrev lane_off : Lane → ℕ → ℕ → Sender
lane_off l length position = with_lane l (record { length = length; position = position }) (opened_sender (bits16 0x03))

-- a receiver in a frame: last block, mark resumed, remembered refusal, decoded count, data left, zeros due
abbrev framed : LastBlock → Bool → ℕ → ℕ → ℕ → ℕ → Receiver
framed last resumed refusal decoded left zeros = with_due left zeros (with_decoded decoded (in_frame last resumed refusal (opened_off (bits16 0x03))))

-- settings 03 with a width and a limit
abbrev pub agreeing : ℕ → ℕ → Settings
agreeing width limit = record { octet = 0x03; width = width; limit = limit }

-- settings of 32 bits, and of a width that there is not
abbrev pub bits32 : ℕ → Settings
bits32 o = record { octet = o; width = 32; limit = 2048 }

abbrev bits24 : Settings
bits24 = agreeing 24 2048

-- of any settings: a sender with a lane off the line; a receiver that holds a fragment, and one in a frame, with so much decoded and data left
abbrev lane_has : Settings → Lane → ℕ → Sender
lane_has settings l length = with_lane l (record { length = length; position = 0 }) (opened_sender settings)

abbrev holding : Settings → ℕ → Receiver
holding settings n = out_off settings true (holds n 0x4D53)

abbrev decoding : Settings → ℕ → ℕ → Receiver
decoding settings n left = with_due left 0 (with_decoded n (in_frame other_block false 0 (opened_off settings)))

-- a receiver that holds a fragment in its first area, where 31 stands and this octet
abbrev held31 : Settings → Held → ℕ → ReceiverEnd
held31 settings fragment x =
    record { state = out_off settings true fragment; first = 0x31 ∷ x ∷ receiver_area settings; second = receiver_area settings }

-- ---- the table

-- the codes
abbrev pub code_examples : List Example
code_examples =
    reads true 0x00 (Err NoCode)
    ∷ reads true 0x01 (in_row 0 1)
    ∷ reads true 0xCF (in_row 206 1)
    ∷ reads true 0xD0 (in_row 207 0)
    ∷ reads true 0xD1 (Err NoCode)
    ∷ reads true 0xD2 (Err NoCode)
    ∷ reads true 0xD3 (in_row 0 3)
    ∷ reads true 0xDF (in_row 0 15)
    ∷ reads true 0xE0 (in_row 0 2)
    ∷ reads true 0xFE (in_row 30 2)
    ∷ reads true 0xFF (Err NoCode)
    ∷ reads false 0xCF (in_row 206 1)
    ∷ reads false 0xD0 (in_row 207 0)
    ∷ reads false 0xD1 (Err NoCode)
    ∷ reads false 0xD2 (Err NoCode)
    ∷ reads false 0xD3 (Err NotAgreed)
    ∷ reads false 0xDF (Err NotAgreed)
    ∷ reads false 0xE0 (Err NotAgreed)
    ∷ reads false 0xFE (Err NotAgreed)
    ∷ reads false 0xFF (Err NoCode)
    -- the sender's choice with ZXE: runs of three zeros to fifteen, and pairs of zeros behind no more than thirty octets
    ∷ case (chosen (0x00 ∷ 0x31 ∷ []) 0x01)
    ∷ case (chosen (0x00 ∷ 0x00 ∷ 0x31 ∷ []) 0xE0)
    ∷ case (chosen (replicate 3 0x00) 0xD3)
    ∷ case (chosen (replicate 14 0x00) 0xDE)
    ∷ case (chosen (replicate 15 0x00) 0xDF)
    ∷ case (chosen (replicate 16 0x00) 0xDF)
    ∷ case (chosen (replicate 30 0x31 ++ (0x00 ∷ 0x00 ∷ [])) 0xFE)
    ∷ case (chosen (replicate 31 0x31 ++ (0x00 ∷ 0x00 ∷ [])) 0x20)
    ∷ []

-- the settings octet
abbrev pub settings_examples : List Example
settings_examples =
    bits (bits16 0x00) false false
    ∷ bits (bits16 0x01) true false
    ∷ bits (bits16 0x02) false true
    ∷ bits (bits16 0x03) true true
    -- a packet of two zeros is sent in five octets with ZXE, whether PRE is on or off, and in six without (03 and 00: marked)
    ∷ case (sent (bits16 0x01) (0x00 ∷ 0x00 ∷ []) (0xE0 ∷ 0x03 ∷ 0x47 ∷ 0x0F ∷ 0x7E ∷ []))
    ∷ case (sent (bits16 0x02) (0x00 ∷ 0x00 ∷ []) (0x01 ∷ 0x01 ∷ 0x03 ∷ 0x47 ∷ 0x0F ∷ 0x7E ∷ []))
    -- with PRE low gives way
    ∷ puts (bits16 0x00) urgent in_one_piece
    ∷ puts (bits16 0x01) urgent in_one_piece
    ∷ puts (bits16 0x02) urgent broken_off
    ∷ puts (bits16 0x03) urgent broken_off
    -- a pair code wants ZXE of the receiver; with it, E0 alone is two zeros, and too short
    ∷ case (reported (bits16 0x00) (0xE0 ∷ 0x7E ∷ []) (refused_by 6 ∷ []))
    ∷ case (reported (bits16 0x01) (0xE0 ∷ 0x7E ∷ []) (refused_by 13 ∷ []))
    ∷ case (reported (bits16 0x02) (0xE0 ∷ 0x7E ∷ []) (refused_by 6 ∷ []))
    ∷ case (reported (bits16 0x03) (0xE0 ∷ 0x7E ∷ []) (refused_by 13 ∷ []))
    -- D1 wants PRE; with it, a fresh receiver has nothing to go on with
    ∷ case (reported (bits16 0x00) (0xD1 ∷ 0x7E ∷ []) (refused_by 6 ∷ []))
    ∷ case (reported (bits16 0x01) (0xD1 ∷ 0x7E ∷ []) (refused_by 6 ∷ []))
    ∷ case (reported (bits16 0x02) (0xD1 ∷ 0x7E ∷ []) (refused_by 8 ∷ []))
    ∷ case (reported (bits16 0x03) (0xD1 ∷ 0x7E ∷ []) (refused_by 8 ∷ []))
    -- a frame that ends in a block is held with PRE, and refused without
    ∷ case (reported (bits16 0x00) (0x05 ∷ 0x31 ∷ 0x7E ∷ []) (refused_by 11 ∷ []))
    ∷ case (reported (bits16 0x01) (0x05 ∷ 0x31 ∷ 0x7E ∷ []) (refused_by 11 ∷ []))
    ∷ case (reported (bits16 0x02) (0x05 ∷ 0x31 ∷ 0x7E ∷ []) (held_of 1 false ∷ []))
    ∷ case (reported (bits16 0x03) (0x05 ∷ 0x31 ∷ 0x7E ∷ []) (held_of 1 false ∷ []))
    ∷ []

-- refusals of calls, 1 to 4
abbrev pub call_examples : List Example
call_examples =
    -- 1: a packet of one octet, of none; two octets are a packet
    loads low (0x31 ∷ []) (opened_sender (bits16 0x03)) (area 2050) (refused 1)
    ∷ loads high (0x31 ∷ []) (opened_sender (bits16 0x03)) (area 2050) (refused 1)
    ∷ loads low [] (opened_sender (bits16 0x03)) (area 2050) (refused 1)
    ∷ loads low (0x31 ∷ 0x32 ∷ []) (opened_sender (bits16 0x03)) (area 2050) done
    ∷ loads high (0x31 ∷ 0x32 ∷ []) (opened_sender (bits16 0x03)) (area 2050) done
    -- 2: an area one short, of load, of either lane, of either side of the receiver; it goes before 1 and 3
    ∷ loads low (0x31 ∷ 0x32 ∷ []) (opened_sender (bits16 0x03)) (area 2049) (refused 2)
    ∷ loads low (0x31 ∷ []) left_over.state (area 2049) (refused 2)
    ∷ asks (record { state = opened_sender (bits16 0x03); low = area 2049; high = area 2050 }) (refused 2)
    ∷ asks (record { state = opened_sender (bits16 0x03); low = area 2050; high = area 2049 }) (refused 2)
    ∷ hears (fresh_off (bits16 0x03) (area 2050) (area 2051)) 0x7E (refused 2)
    ∷ hears (fresh_off (bits16 0x03) (area 2051) (area 2050)) 0x7E (refused 2)
    ∷ asks (record { state = left_over.state; low = area 2050; high = area 2049 }) (refused 2)
    ∷ hears (record { state = (in_block 208).state; first = area 2051; second = area 2050 }) 0x31 (refused 2)
    -- 3: 208 data octets left, where 207 are taken; it goes before 4 and 1
    ∷ loads low (0x31 ∷ []) left_over.state (area 2050) (refused 3)
    ∷ asks left_over (refused 3)
    ∷ hears (in_block 208) 0x31 (refused 3)
    ∷ hears (in_block 207) 0x31 quiet
    -- 4: the lane holds a frame, whatever the second packet is; the other lane is free
    ∷ calls (loading low (0x31 ∷ 0x32 ∷ []) ∷ loading low (0x33 ∷ 0x34 ∷ []) ∷ []) (done ∷ refused 4 ∷ [])
    ∷ calls (loading low (0x31 ∷ 0x32 ∷ []) ∷ loading low (0x33 ∷ []) ∷ []) (done ∷ refused 4 ∷ [])
    ∷ calls (loading low (0x31 ∷ 0x32 ∷ []) ∷ loading high (0x33 ∷ 0x34 ∷ []) ∷ []) (done ∷ done ∷ [])
    ∷ []

-- the bounds of a sender's state, clause by clause at its limit and past it
abbrev pub sender_bounds : List Example
sender_bounds =
    -- the length of a frame, and a position behind D; an empty lane may have position 1
    in_bounds_s (lane_off low 4 0) true
    ∷ in_bounds_s (lane_off low 3 0) false
    ∷ in_bounds_s (lane_off high 2050 0) true
    ∷ in_bounds_s (lane_off high 2051 0) false
    ∷ in_bounds_s (lane_off low 5 6) true
    ∷ in_bounds_s (lane_off low 5 7) false
    ∷ in_bounds_s (lane_off high 0 1) true
    ∷ in_bounds_s (lane_off high 0 2) false
    -- data left and zeros due: how many, inside D, and no zeros without data
    ∷ in_bounds_s (low_on 300 0 207 0) true
    ∷ in_bounds_s (high_on 300 0 208 0) false
    ∷ in_bounds_s (high_on 300 0 1 2) true
    ∷ in_bounds_s (low_on 300 0 1 3) false
    ∷ in_bounds_s (low_on 10 5 4 2) true
    ∷ in_bounds_s (low_on 10 5 5 2) false
    ∷ in_bounds_s (high_on 10 5 0 1) false
    -- with no lane on the line none of either
    ∷ in_bounds_s (with_block 1 0 (lane_off low 10 0)) false
    -- the lane on the line, and a suspended one, is not empty; low is not both
    ∷ in_bounds_s (low_on 0 0 0 0) false
    ∷ in_bounds_s (high_on 0 0 0 0) false
    ∷ in_bounds_s (with_marks true false (lane_off low 10 5)) true
    ∷ in_bounds_s (with_marks true false (opened_sender (bits16 0x03))) false
    ∷ in_bounds_s (with_marks true false (low_on 10 5 0 0)) false
    -- a cut is due only with low on the line and no data left
    ∷ in_bounds_s (with_marks false true (low_on 10 5 0 0)) true
    ∷ in_bounds_s (with_marks false true (low_on 10 5 1 0)) false
    ∷ in_bounds_s (with_marks false true (high_on 10 5 0 0)) false
    ∷ in_bounds_s (with_marks false true (lane_off low 10 5)) false
    ∷ []

-- and of a receiver's
abbrev pub receiver_bounds : List Example
receiver_bounds =
    -- the counts, data left and zeros due
    in_bounds_r (framed other_block false 0 2051 0 0) true
    ∷ in_bounds_r (framed other_block false 0 2052 0 0) false
    ∷ in_bounds_r (holding (bits16 0x03) 2051) true
    ∷ in_bounds_r (holding (bits16 0x03) 2052) false
    ∷ in_bounds_r (framed block_d0 false 0 0 207 2) true
    ∷ in_bounds_r (framed block_d0 false 0 0 208 2) false
    ∷ in_bounds_r (framed block_d0 false 0 0 207 3) false
    -- the remembered refusal
    ∷ in_bounds_r (framed no_block false 4 0 0 0) false
    ∷ in_bounds_r (framed no_block false 5 0 0 0) true
    ∷ in_bounds_r (framed no_block false 10 0 0 0) true
    ∷ in_bounds_r (framed no_block false 11 0 0 0) false
    -- with 5 nothing is held, with any other something may be (slip 4)
    ∷ in_bounds_r (with_held (holds 0 0xFFFF) (framed no_block false 5 0 0 0)) false
    ∷ in_bounds_r (with_held (holds 1 0x2F8D) (framed no_block false 5 0 0 0)) false
    ∷ in_bounds_r (framed other_block true 5 2051 207 2) true
    ∷ in_bounds_r (with_held (holds 1 0x2F8D) (framed no_block false 6 0 0 0)) true
    ∷ in_bounds_r (with_held (holds 1 0x2F8D) (framed no_block false 7 0 0 0)) true
    ∷ in_bounds_r (with_held (holds 1 0x2F8D) (framed no_block true 8 0 0 0)) true
    ∷ in_bounds_r (with_held (holds 1 0x2F8D) (framed no_block true 9 0 0 0)) true
    ∷ in_bounds_r (with_held (holds 1 0x2F8D) (framed no_block false 10 0 0 0)) true
    -- 21 is remembered as they are (slip 8), and no other above 10
    ∷ in_bounds_r (framed no_block true 20 0 0 0) false
    ∷ in_bounds_r (framed no_block true 21 0 0 0) true
    ∷ in_bounds_r (framed no_block true 22 0 0 0) false
    ∷ in_bounds_r (with_held (holds 1 0x2F8D) (framed other_block false 21 2051 207 2)) true
    -- a register of the width, whatever is held
    ∷ in_bounds_r (out_off (bits16 0x03) true (holds 1 0)) true
    ∷ in_bounds_r (out_off (bits16 0x03) true (holds 0 0xFFFF)) true
    ∷ in_bounds_r (out_off (bits16 0x03) true (holds 1 0x10000)) false
    ∷ in_bounds_r (out_off (bits32 0x03) true (holds 1 0x10000)) true
    ∷ in_bounds_r (out_off (bits32 0x03) true (holds 1 0xFFFFFFFF)) true
    ∷ in_bounds_r (out_off (bits32 0x03) true (holds 1 0x100000000)) false
    -- outside a frame all else is as fresh
    ∷ in_bounds_r (with_decoded 1 (opened_off (bits16 0x03))) false
    ∷ in_bounds_r (with_due 1 0 (opened_off (bits16 0x03))) false
    ∷ in_bounds_r (with_due 0 1 (opened_off (bits16 0x03))) false
    -- in one, no block yet only behind D1; behind a block other than D0 data is left or something decoded
    ∷ in_bounds_r (framed no_block true 0 0 0 0) true
    ∷ in_bounds_r (framed no_block false 0 0 0 0) false
    ∷ in_bounds_r (framed other_block false 0 0 1 0) true
    ∷ in_bounds_r (framed other_block false 0 1 0 0) true
    ∷ in_bounds_r (framed other_block false 0 0 0 0) false
    ∷ in_bounds_r (framed block_d0 false 0 0 0 0) true
    ∷ []

-- the calls of next octet that empty both lanes: one frame in either of them, and two where low is broken off straight after D1
abbrev pub empty_examples : List Example
empty_examples =
    empties (loading low (0x31 ∷ 0x32 ∷ 0x33 ∷ []) ∷ []) 7
    ∷ empties (loading high (0x41 ∷ 0x42 ∷ []) ∷ []) 6
    ∷ empties
    (loading low (0x31 ∷ 0x32 ∷ 0x33 ∷ []) ∷ next_octet ∷ loading high (0x41 ∷ 0x42 ∷ []) ∷ (replicate 8 next_octet ++ (loading high (0x43 ∷ 0x44 ∷ []) ∷ [])))
    16
    ∷ []

-- refusals of frames, 5 to 14: document 01's examples, and some that tempt
abbrev pub frame_examples : List Example
frame_examples =
    case (reported (bits16 0x03) (0xFF ∷ 0x03 ∷ 0xC0 ∷ 0x21 ∷ 0x7E ∷ []) (refused_by 5 ∷ []))
    -- (6: E0 7E, above)
    ∷ case (reported (bits16 0x03) (0xD2 ∷ 0x7E ∷ []) (refused_by 7 ∷ []))
    ∷ case (reported (bits16 0x03) (0xD1 ∷ 0x01 ∷ 0x7E ∷ []) (refused_by 8 ∷ []))
    ∷ case (reported (bits16 0x03) (0x05 ∷ 0x31 ∷ 0x7E ∷ 0xD1 ∷ 0x7E ∷ []) (held_of 1 false ∷ refused_by 9 ∷ []))
    ∷ case (refused_ten (bits16 0x03) (replicate 137 0xDF) true)
    -- (11: 05 31 7E without PRE, above)
    ∷ case (reported (bits16 0x03) (0xD0 ∷ (replicate 207 0x31 ++ (0x7E ∷ []))) (refused_by 12 ∷ []))
    ∷ case (reported (bits16 0x03) (0xD3 ∷ 0x7E ∷ []) (refused_by 13 ∷ []))
    -- the length is looked at before the register
    ∷ case (reported (bits16 0x03) (0x01 ∷ 0x7E ∷ []) (refused_by 13 ∷ []))
    ∷ case (reported (bits16 0x03) (0x05 ∷ 0x31 ∷ 0x31 ∷ 0x31 ∷ 0x31 ∷ 0x7E ∷ []) (refused_by 14 ∷ []))
    -- FF and D1 are special as a frame's first octet only: later they are no codes
    ∷ case (reported (bits16 0x03) (0x01 ∷ 0xFF ∷ 0x7E ∷ []) (refused_by 7 ∷ []))
    ∷ case (reported (bits16 0x03) (0x01 ∷ 0xD1 ∷ 0x7E ∷ []) (refused_by 7 ∷ []))
    ∷ case (reported (bits16 0x00) (0x01 ∷ 0xD1 ∷ 0x7E ∷ []) (refused_by 7 ∷ []))
    -- inside a block of D0: it is the block that is not whole
    ∷ case (reported (bits16 0x00) (0xD0 ∷ 0x31 ∷ 0x7E ∷ []) (refused_by 11 ∷ []))
    -- what would be too many is not decoded: a data octet may be the 2,051st; zeros are judged together, behind their block's last octet
    ∷ decodes (framed other_block false 0 2050 1 0) 0x31 2051 0
    ∷ decodes (framed other_block false 0 2051 1 0) 0x31 2051 10
    ∷ decodes (framed other_block false 0 2040 0 0) 0xDB 2051 0
    ∷ decodes (framed other_block false 0 2040 0 0) 0xDC 2040 10
    ∷ decodes (framed other_block false 0 2050 1 1) 0x31 2051 10
    -- nor is an octet that is refused 6, 7 or 8
    ∷ decodes (opened_off (bits16 0x00)) 0xE0 0 6
    ∷ decodes (framed other_block false 0 3 0 0) 0xD2 3 7
    ∷ decodes (opened_off (bits16 0x03)) 0xD1 0 8
    ∷ []

-- what is held after a frame
abbrev pub held_examples : List Example
held_examples =
    -- a resumed frame that is delivered leaves nothing held
    case (reported (bits16 0x03) (broken ++ (resuming ++ (0x7E ∷ 0xD1 ∷ 0x01 ∷ 0x7E ∷ []))) (held_of 3 false ∷ packet_of false digits ∷ refused_by 8 ∷ []))
    -- a resumed frame that is refused leaves nothing held
    ∷ case (reported (bits16 0x03) (broken ++ (0xD1 ∷ 0x01 ∷ 0x7E ∷ 0xD1 ∷ 0x01 ∷ 0x7E ∷ [])) (held_of 3 false ∷ refused_by 13 ∷ refused_by 8 ∷ []))
    ∷ case (reported (bits16 0x03) (broken ++ (0xD1 ∷ 0x7E ∷ 0xD1 ∷ 0x01 ∷ 0x7E ∷ [])) (held_of 3 false ∷ refused_by 9 ∷ refused_by 8 ∷ []))
    -- any other refused frame but one that begins FF leaves what is held: 13, 7,
    ∷ case
    (reported (bits16 0x03) (broken ++ ((0x01 ∷ 0x7E ∷ 0xD2 ∷ 0x7E ∷ []) ++ (resuming ++ (0x7E ∷ []))))
    (held_of 3 false ∷ refused_by 13 ∷ refused_by 7 ∷ packet_of false digits ∷ []))
    -- 6,
    ∷ case (reported (bits16 0x02) (broken ++ ((0xE0 ∷ 0x7E ∷ []) ++ (resuming ++ (0x7E ∷ [])))) (held_of 3 false ∷ refused_by 6 ∷ packet_of false digits ∷ []))
    -- 12,
    ∷ case
    (reported (bits16 0x03) (broken ++ ((0xD0 ∷ (replicate 207 0x31 ++ (0x7E ∷ []))) ++ (resuming ++ (0x7E ∷ []))))
    (held_of 3 false ∷ refused_by 12 ∷ packet_of false digits ∷ []))
    -- and 14
    ∷ case
    (reported (bits16 0x03) (broken ++ ((0x05 ∷ 0x31 ∷ 0x31 ∷ 0x31 ∷ 0x31 ∷ 0x7E ∷ []) ++ (resuming ++ (0x7E ∷ []))))
    (held_of 3 false ∷ refused_by 14 ∷ packet_of false digits ∷ []))
    -- so does any other delivered frame
    ∷ case
    (reported (bits16 0x03) (broken ++ (whole ++ (0x7E ∷ (resuming ++ (0x7E ∷ [])))))
    (held_of 3 false ∷ packet_of true digits ∷ packet_of false digits ∷ []))
    -- a D1 that is refused makes its frame a resumed one all the same: refused 6 it leaves nothing held, and so refused 8
    ∷ leaves holds_unasked (0xD1 ∷ 0x7E ∷ []) None
    ∷ leaves holds_unasked (0xD2 ∷ 0x7E ∷ []) (holds 3 0x3933)
    ∷ leaves (fresh_end (bits16 0x03)) (0xD1 ∷ 0x01 ∷ 0x7E ∷ []) None
    -- Held in a resumed frame is not said to replace what it went on from, but what comes after it is
    ∷ case (reported (bits16 0x03) (broken ++ (0xD1 ∷ 0x05 ∷ 0x34 ∷ 0x7E ∷ 0x05 ∷ 0x31 ∷ 0x7E ∷ [])) (held_of 3 false ∷ held_of 4 false ∷ held_of 1 true ∷ []))
    -- a fragment of no octets is held, replaced, and gone on from
    ∷ case
    (reported (bits16 0x03) (0x05 ∷ 0x7E ∷ 0x05 ∷ 0x7E ∷ 0xD1 ∷ (whole ++ (0x7E ∷ [])))
    (held_of 0 false ∷ held_of 0 true ∷ packet_of true digits ∷ []))
    -- a restart lets it go, at its FF, with PRE off too; a resumed frame then finds nothing, and the next fragment replaces nothing (slip 4)
    ∷ case
    (reported (bits16 0x03) (0x05 ∷ 0x31 ∷ 0x7E ∷ 0xFF ∷ 0x03 ∷ 0x7E ∷ 0xD1 ∷ 0x01 ∷ 0x7E ∷ [])
    (held_of 1 false ∷ refused_by 5 ∷ refused_by 8 ∷ []))
    ∷ case (reported (bits16 0x03) (0x05 ∷ 0x31 ∷ 0x7E ∷ 0xFF ∷ 0x7E ∷ 0x05 ∷ 0x7E ∷ []) (held_of 1 false ∷ refused_by 5 ∷ held_of 0 false ∷ []))
    ∷ leaves (fresh_end (bits16 0x03)) (0x05 ∷ 0x31 ∷ 0x7E ∷ 0xFF ∷ []) None
    ∷ leaves holds_unasked (0xFF ∷ []) None
    -- another frame that is refused does not
    ∷ case (reported (bits16 0x03) (0x05 ∷ 0x31 ∷ 0x7E ∷ 0xD2 ∷ 0x7E ∷ 0xD1 ∷ 0x01 ∷ 0x7E ∷ []) (held_of 1 false ∷ refused_by 7 ∷ refused_by 13 ∷ []))
    -- FF behind a frame's first octet is no restart: behind D1, as a code, as data
    ∷ case (reported (bits16 0x03) (0x05 ∷ 0x31 ∷ 0x7E ∷ 0xD1 ∷ 0xFF ∷ 0x7E ∷ []) (held_of 1 false ∷ refused_by 7 ∷ []))
    ∷ leaves (fresh_end (bits16 0x03)) (0x05 ∷ 0x31 ∷ 0x7E ∷ 0x01 ∷ 0xFF ∷ []) (holds 1 0x2F8D)
    ∷ leaves (fresh_end (bits16 0x03)) (0x05 ∷ 0x31 ∷ 0x7E ∷ 0x03 ∷ 0xFF ∷ []) (holds 1 0x2F8D)
    -- the flag of an empty frame leaves what is held
    ∷ case (reported (bits16 0x03) (broken ++ (0x7E ∷ 0x7E ∷ (resuming ++ (0x7E ∷ [])))) (held_of 3 false ∷ packet_of false digits ∷ []))
    ∷ []

-- areas changed behind the receiver's back (document 02, slip 8)
abbrev pub changed_examples : List Example
changed_examples =
    -- Held carries the register of all octets decoded: in a first frame, in one that takes its place, in a resumed one
    leaves (fresh_end (bits16 0x03)) (0x05 ∷ 0x31 ∷ 0x32 ∷ 0x7E ∷ []) (holds 2 0x4D53)
    ∷ leaves (fresh_end (bits32 0x03)) (0x05 ∷ 0x31 ∷ 0x32 ∷ 0x7E ∷ []) (holds 2 0xB0ACBB32)
    ∷ leaves (fresh_end (bits16 0x03)) (0x05 ∷ 0x7E ∷ []) (holds 0 0xFFFF)
    ∷ leaves (fresh_end (bits16 0x03)) (broken ++ (0x05 ∷ 0x31 ∷ 0x7E ∷ [])) (holds 1 0x2F8D)
    ∷ leaves (fresh_end (bits16 0x03)) (broken ++ (0xD1 ∷ 0x05 ∷ 0x34 ∷ 0x7E ∷ [])) (holds 4 0x8B13)
    -- frames that are delivered or refused, and empty ones, leave it
    ∷ leaves (fresh_end (bits16 0x03)) ((0x05 ∷ 0x31 ∷ 0x32 ∷ 0x7E ∷ []) ++ (whole ++ (0x7E ∷ 0x7E ∷ 0xD2 ∷ 0x7E ∷ []))) (holds 2 0x4D53)
    -- a held octet is changed: 21, and from the D1 on nothing is held; the areas do not change turns
    ∷ becomes (held31 (bits16 0x03) (holds 2 0x4D53) 0x33) (0xD1 ∷ []) (in_frame no_block true 21 (out_off (bits16 0x03) true None))
    ∷ reports (held31 (bits16 0x03) (holds 2 0x4D53) 0x33) (0xD1 ∷ 0x03 ∷ 0x37 ∷ 0x38 ∷ []) (refused 21)
    ∷ becomes (held31 (bits16 0x03) (holds 2 0x4D53) 0x33) (0xD1 ∷ 0x03 ∷ 0x37 ∷ 0x38 ∷ 0x7E ∷ []) (out_off (bits16 0x03) true None)
    ∷ reports (held31 (bits32 0x03) (holds 2 0xB0ACBB32) 0x33) (0xD1 ∷ []) (refused 21)
    -- one behind the held octets is: no matter
    ∷ reports (held31 (bits16 0x03) (holds 1 0x2F8D) 0x33) (0xD1 ∷ 0x01 ∷ []) (refused 13)
    ∷ reports (held31 (bits16 0x03) (holds 2 0x4D53) 0x32) (0xD1 ∷ 0x01 ∷ []) (refused 13)
    -- of no octets held too the register is looked at
    ∷ reports (held31 (bits16 0x03) (holds 0 0x1234) 0x32) (0xD1 ∷ []) (refused 21)
    ∷ reports (held31 (bits16 0x03) (holds 0 0xFFFF) 0x32) (0xD1 ∷ []) (refused 9)
    -- 6 comes first, and leaves what is held until the flag
    ∷ reports (held31 (bits16 0x01) (holds 2 0x4D53) 0x33) (0xD1 ∷ []) (refused 6)
    ∷ leaves (held31 (bits16 0x01) (holds 2 0x4D53) 0x33) (0xD1 ∷ []) (holds 2 0x4D53)
    -- D1 as a later octet is no code
    ∷ reports (held31 (bits16 0x03) (holds 2 0x4D53) 0x33) (0x01 ∷ 0xD1 ∷ []) (refused 7)
    ∷ []

-- the width, 32 bits and another (document 02, slip 1)
abbrev pub width_examples : List Example
width_examples =
    case (sent (bits32 0x03) digits ((0x0E ∷ digits) ++ (0x26 ∷ 0x39 ∷ 0xF4 ∷ 0xCB ∷ 0x7E ∷ [])))
    ∷ case (sent (bits32 0x03) (0x00 ∷ 0x00 ∷ []) (0xE0 ∷ 0x05 ∷ 0xFF ∷ 0x12 ∷ 0xD9 ∷ 0x41 ∷ 0x7E ∷ []))
    ∷ case (sent (bits32 0x00) (0x00 ∷ 0x00 ∷ []) (0x01 ∷ 0x01 ∷ 0x05 ∷ 0xFF ∷ 0x12 ∷ 0xD9 ∷ 0x41 ∷ 0x7E ∷ []))
    ∷ case (sent (bits32 0x03) (0x7E ∷ 0x7E ∷ []) (0x07 ∷ 0x00 ∷ 0x00 ∷ 0xBC ∷ 0x1A ∷ 0xD8 ∷ 0x47 ∷ 0x7E ∷ []))
    -- either width's frame passes only the check of its own
    ∷ case (reported (bits32 0x03) ((0x0E ∷ digits) ++ (0x26 ∷ 0x39 ∷ 0xF4 ∷ 0xCB ∷ 0x7E ∷ [])) (packet_of false digits ∷ []))
    ∷ case (reported (bits16 0x03) ((0x0E ∷ digits) ++ (0x26 ∷ 0x39 ∷ 0xF4 ∷ 0xCB ∷ 0x7E ∷ [])) (refused_by 14 ∷ []))
    ∷ case (reported (bits32 0x03) (whole ++ (0x7E ∷ [])) (refused_by 14 ∷ []))
    -- 13: four octets and five are too few
    ∷ case (reported (bits32 0x03) (0x05 ∷ (replicate 4 0x31 ++ (0x7E ∷ []))) (refused_by 13 ∷ []))
    ∷ case (reported (bits32 0x03) (0x06 ∷ (replicate 5 0x31 ++ (0x7E ∷ []))) (refused_by 13 ∷ []))
    ∷ case (reported (bits32 0x03) (0x07 ∷ (replicate 6 0x31 ++ (0x7E ∷ []))) (refused_by 14 ∷ []))
    -- 10: 2,053 octets, and one more
    ∷ case (refused_ten (bits32 0x03) (replicate 136 0xDF ++ (0xDD ∷ [])) false)
    ∷ case (refused_ten (bits32 0x03) (replicate 136 0xDF ++ (0xDE ∷ [])) true)
    ∷ decodes (decoding (bits32 0x03) 2052 1) 0x31 2053 0
    ∷ decodes (decoding (bits32 0x03) 2053 1) 0x31 2053 10
    -- 2: areas that are long enough for 16 bits are not for 32
    ∷ loads low (0x31 ∷ 0x32 ∷ []) (opened_sender (bits32 0x03)) (area 2051) (refused 2)
    ∷ loads low (0x31 ∷ 0x32 ∷ []) (opened_sender (bits32 0x03)) (area 2052) done
    ∷ hears (fresh_off (bits32 0x03) (area 2053) (area 2052)) 0x7E (refused 2)
    ∷ hears (fresh_off (bits32 0x03) (area 2053) (area 2053)) 0x7E quiet
    -- 3: the bounds
    ∷ in_bounds_s (lane_has (bits32 0x03) low 5) false
    ∷ in_bounds_s (lane_has (bits32 0x03) low 6) true
    ∷ in_bounds_s (lane_has (bits32 0x03) high 2052) true
    ∷ in_bounds_s (lane_has (bits32 0x03) high 2053) false
    ∷ in_bounds_r (decoding (bits32 0x03) 2053 0) true
    ∷ in_bounds_r (decoding (bits32 0x03) 2054 0) false
    -- 3 of another width goes before all else
    ∷ not_opened bits24 width_refused
    ∷ not_opened (agreeing 0 2048) width_refused
    ∷ opens (bits16 0x03)
    ∷ opens (bits32 0x03)
    ∷ loads low (0x31 ∷ []) (opened_sender bits24) [] (refused 3)
    ∷ asks (record { state = opened_sender bits24; low = []; high = [] }) (refused 3)
    ∷ hears (fresh_off bits24 [] []) 0x7E (refused 3)
    ∷ []

-- the limit: the least, the largest, and some that are out of range (document 02, slip 11)
abbrev pub limit_examples : List Example
limit_examples =
    -- 23 of the limit goes before 3 of the width
    not_opened (agreeing 24 1) limit_refused
    ∷ not_opened (agreeing 24 16385) limit_refused
    ∷ not_opened (agreeing 16 0) limit_refused
    ∷ not_opened (agreeing 16 1) limit_refused
    ∷ not_opened (agreeing 32 16385) limit_refused
    ∷ not_opened (agreeing 24 2) width_refused
    ∷ opens (agreeing 16 2)
    ∷ opens (agreeing 32 16384)
    -- 3 of the limit goes before 2, and before all else
    ∷ loads low (0x31 ∷ []) (opened_sender (agreeing 16 1)) [] (refused 3)
    ∷ loads low (0x31 ∷ []) (opened_sender (agreeing 16 16385)) [] (refused 3)
    ∷ asks (record { state = opened_sender (agreeing 16 1); low = []; high = [] }) (refused 3)
    ∷ hears (fresh_off (agreeing 32 16385) [] []) 0x7E (refused 3)
    -- limit 2, 1 and 2: a packet has two octets, and its area four
    ∷ loads low (0x31 ∷ 0x32 ∷ []) (opened_sender (agreeing 16 2)) (area 3) (refused 2)
    ∷ loads low (0x31 ∷ 0x32 ∷ 0x33 ∷ []) (opened_sender (agreeing 16 2)) (area 4) (refused 1)
    ∷ loads low (0x31 ∷ 0x32 ∷ []) (opened_sender (agreeing 16 2)) (area 4) done
    ∷ asks (record { state = opened_sender (agreeing 32 2); low = area 6; high = area 5 }) (refused 2)
    ∷ hears (fresh_off (agreeing 16 2) (area 4) (area 5)) 0x7E (refused 2)
    ∷ hears (fresh_off (agreeing 16 2) (area 5) (area 5)) 0x7E quiet
    -- its lines
    ∷ case (sent (agreeing 16 2) (0x41 ∷ 0x42 ∷ []) (0x05 ∷ 0x41 ∷ 0x42 ∷ 0xEF ∷ 0x31 ∷ 0x7E ∷ []))
    ∷ case (reported (agreeing 16 2) (0x05 ∷ 0x41 ∷ 0x42 ∷ 0xEF ∷ 0x31 ∷ 0x7E ∷ []) (packet_of false (0x41 ∷ 0x42 ∷ []) ∷ []))
    ∷ case (reported (agreeing 32 2) (0x07 ∷ 0x00 ∷ 0x00 ∷ 0xBC ∷ 0x1A ∷ 0xD8 ∷ 0x47 ∷ 0x7E ∷ []) (packet_of false (0x7E ∷ 0x7E ∷ []) ∷ []))
    -- 10: the frame of three octets, which is good; five zeros are not too many, six are
    ∷ case (reported (agreeing 16 2) (0x06 ∷ 0x31 ∷ 0x32 ∷ 0x33 ∷ 0xB4 ∷ 0x9C ∷ 0x7E ∷ []) (refused_by 10 ∷ []))
    ∷ case (reported (agreeing 16 3) (0x06 ∷ 0x31 ∷ 0x32 ∷ 0x33 ∷ 0xB4 ∷ 0x9C ∷ 0x7E ∷ []) (packet_of false (0x31 ∷ 0x32 ∷ 0x33 ∷ []) ∷ []))
    ∷ case (reported (agreeing 16 2) (0xD5 ∷ 0x7E ∷ []) (refused_by 14 ∷ []))
    ∷ case (reported (agreeing 16 2) (0xD6 ∷ 0x7E ∷ []) (refused_by 10 ∷ []))
    ∷ case (reported (agreeing 32 2) (0xD7 ∷ 0x7E ∷ []) (refused_by 14 ∷ []))
    ∷ case (reported (agreeing 32 2) (0xD8 ∷ 0x7E ∷ []) (refused_by 10 ∷ []))
    -- 3: the bounds, of either limit
    ∷ in_bounds_s (lane_has (agreeing 16 2) high 4) true
    ∷ in_bounds_s (lane_has (agreeing 16 2) high 5) false
    ∷ in_bounds_s (lane_has (agreeing 32 16384) high 16388) true
    ∷ in_bounds_s (lane_has (agreeing 32 16384) high 16389) false
    ∷ in_bounds_r (holding (agreeing 16 2) 5) true
    ∷ in_bounds_r (holding (agreeing 16 2) 6) false
    ∷ in_bounds_r (decoding (agreeing 32 16384) 16389 0) true
    ∷ in_bounds_r (decoding (agreeing 32 16384) 16390 0) false
    ∷ []

-- limit 16,384, by laws
abbrev pub largest_examples : List Example
largest_examples =
    -- 1 and 2
    loads low (area 16384) (opened_sender (agreeing 16 16384)) (area 16386) done
    ∷ loads low (area 16385) (opened_sender (agreeing 16 16384)) (area 16386) (refused 1)
    ∷ loads low (area 2) (opened_sender (agreeing 16 16384)) (area 16385) (refused 2)
    ∷ hears (fresh_off (agreeing 32 16384) (area 16389) (area 16388)) 0x7E (refused 2)
    ∷ hears (fresh_off (agreeing 32 16384) (area 16389) (area 16389)) 0x7E quiet
    -- 10: 16,387 octets with 16 bits, 16,389 with 32, and one more
    ∷ case (refused_ten (agreeing 16 16384) (replicate 1092 0xDF ++ (0xD7 ∷ [])) false)
    ∷ case (refused_ten (agreeing 16 16384) (replicate 1092 0xDF ++ (0xD8 ∷ [])) true)
    ∷ case (refused_ten (agreeing 32 16384) (replicate 1092 0xDF ++ (0xD9 ∷ [])) false)
    ∷ case (refused_ten (agreeing 32 16384) (replicate 1092 0xDF ++ (0xDA ∷ [])) true)
    ∷ []

abbrev pub examples : List Example
examples =
    settings_examples
    ++ (width_examples ++ (limit_examples ++ (largest_examples ++ (code_examples ++ (call_examples ++ (sender_bounds ++ (receiver_bounds ++ (empty_examples ++ (frame_examples ++ (held_examples ++ changed_examples))))))))))

-- every example holds
abbrev pub Examples : Type 0
Examples = (x : Example) → Memᴰ x examples → Tells x
