-- Plain PPP between the two ends (docs/DEMANDS.md; document 02, slip 5). Each is proved in proofs/: PlainFrames.antt, PlainPair.antt.
use Rattle.std.specs.Prelude.{Bool, true, false, ◌⊎◌, ◌≡◌, ℕ, ◌-◌, ◌≤◌, ◌<◌, ltb, length, take, replicate, Some, Ok, Err}
use mathlib.Core.List.{List, [], ◌∷◌, ◌++◌, map, flat_map, Memᴰ}
use Rattle.std.proofs.Math.Option.{none, some}
use Rattle.std.specs.Prelude.{if◌then◌else◌}
use Rattle.fcs.specs.CheckSequence.{good}
use Rattle.cobs.specs.CodeBlocks.{flag}
use Rattle.plain.specs.Maps.{marked, with_framing, refused_pair, marks_ok}
use Rattle.plain.specs.ReadBack.{Unstuffed, unstuffed, kept}
use Rattle.link.specs.Agreed.{Settings, OpenError, Agreed, agreed, least_packet, valid_width, valid_limit, valid, least_frame, largest_frame}
use Rattle.link.specs.Answers.{quiet, packet, refused, open_refusal}
use Rattle.link.specs.Receiver.{cobs, plain, ReceiverEnd, opened_receiver, is_plain, write, receive}
use Rattle.link.specs.ReceiverParts.{ReceiverReady}
use Rattle.link.specs.declared.plain_sender.PairError.TheVariants as pair
use Rattle.link.specs.PlainSender.{pair_error, pair_refusal, SendError, wrong_length, no_room, out_of_bounds, send_refusal, PlainSender, plain_agreed, plain_line, plain_send, open_pair}
use Rattle.link.specs.Runs.{receives, received, not_quiet}
use Rattle.link.specs.Demands.{fresh_receiver, ReportAndPacket, report_and_packet, OutOfCobsFrame}

-- ---- the plain sender's call

-- an allowed length of a packet
pub record AllowedLength (g : Agreed) (p : List ℕ) : Type 0 where
  pub least : least_packet ≤ length p
  pub most : length p ≤ g.limit

--   numbers: its refusals are 1, 2 and 3
--   settings: 3 before all else, of a width or a limit that is not valid
--   exactly: then 2, where frame and flag do not fit, whatever the packet and the map
--   map: then 3, of a map that is out of bounds, whatever the packet
--   other: then 1, of a packet whose length is not allowed
--   writes: else they stand at the area's start, the rest stays, and their length is answered
--   refused: a refused call writes nothing
pub record PlainSends : Type 0 where
  pub numbers : (send_refusal wrong_length ≡ 1) × (send_refusal no_room ≡ 2) × (send_refusal out_of_bounds ≡ 3)
  pub settings : (s : PlainSender) (p area : List ℕ) → valid (plain_agreed s) ≡ false → (plain_send s p area).answer ≡ Err out_of_bounds
  pub exactly : (s : PlainSender) (p area : List ℕ) → valid (plain_agreed s) ≡ true → length area < length (plain_line s p)
      → (plain_send s p area).answer ≡ Err no_room
  pub map : (s : PlainSender) (p area : List ℕ) → valid (plain_agreed s) ≡ true → length (plain_line s p) ≤ length area → marks_ok s.marks ≡ false
      → (plain_send s p area).answer ≡ Err out_of_bounds
  pub other : (s : PlainSender) (p area : List ℕ) → valid (plain_agreed s) ≡ true → length (plain_line s p) ≤ length area → marks_ok s.marks ≡ true
      → (length p < least_packet) ⊎ ((plain_agreed s).limit < length p)
      → (plain_send s p area).answer ≡ Err wrong_length
  pub writes : (s : PlainSender) (p area : List ℕ) → valid (plain_agreed s) ≡ true → length (plain_line s p) ≤ length area → marks_ok s.marks ≡ true
      → AllowedLength (plain_agreed s) p
      → plain_send s p area ≡ record { answer = Ok (length (plain_line s p)); area = write area 0 (plain_line s p) }
  pub refused : (s : PlainSender) (p area : List ℕ) (e : SendError) → (plain_send s p area).answer ≡ Err e → (plain_send s p area).area ≡ area

-- ---- the pair

-- 23, 3 and 19, in this order, the first two as of any end; else the receiver is opened. The sender has the pair's width and limit, and its map, which is in bounds then.
pub record PairOpens : Type 0 where
  pub numbers : (pair_refusal pair.Limit ≡ 23) × (pair_refusal pair.Width ≡ 3) × (pair_refusal pair.Maps ≡ 19)
  pub as_opening : (e : OpenError) → pair_refusal (pair_error e) ≡ open_refusal e
  pub limit : (settings : Settings) (map : ℕ) (marks : List ℕ) → valid_limit (agreed settings) ≡ false → (open_pair settings map marks).receiver ≡ Err pair.Limit
  pub width : (settings : Settings) (map : ℕ) (marks : List ℕ) → valid_limit (agreed settings) ≡ true → valid_width (agreed settings) ≡ false
      → (open_pair settings map marks).receiver ≡ Err pair.Width
  pub maps : (settings : Settings) (map : ℕ) (marks : List ℕ) → valid (agreed settings) ≡ true → refused_pair map marks ≡ true
      → (open_pair settings map marks).receiver ≡ Err pair.Maps
  pub opens : (settings : Settings) (map : ℕ) (marks : List ℕ) → valid (agreed settings) ≡ true → refused_pair map marks ≡ false
      → (open_pair settings map marks).receiver ≡ Ok (opened_receiver settings (Some map))
  pub pair_sender : (settings : Settings) (map : ℕ) (marks : List ℕ)
      → (open_pair settings map marks).sender ≡ record { width = settings.width; limit = settings.limit; marks = with_framing marks }
  pub sender : (settings : Settings) (map : ℕ) (marks : List ℕ) → length marks ≡ 32 → refused_pair map marks ≡ false
      → marks_ok (open_pair settings map marks).sender.marks ≡ true

-- ---- frame by frame

-- an octet that is Quiet, and a packet in an area
abbrev pub quiet_answer : ReportAndPacket
quiet_answer = record { report = quiet; packet = none }

abbrev pub told : Bool → List ℕ → ReportAndPacket
told turn p = record { report = packet turn (length p); packet = some p }

abbrev pub refusal : ℕ → ReportAndPacket
refusal n = record { report = refused n; packet = none }

-- What a plain frame comes to, by its octets without their stuffing: too many are 10, an escape that is open 18, too few 13, a bad register 14;
-- else they are a packet and its FCS.
abbrev pub frame_report : Agreed → Bool → Unstuffed → ReportAndPacket
frame_report g turn u =
    let n = length u.octets in
    if ltb (largest_frame g) n then refusal 10
    else if u.escaped then refusal 18
    else if ltb n (least_frame g) then refusal 13
    else if good g.check u.octets then told turn (take (n - g.check.fcs_length) u.octets)
    else refusal 14

abbrev pub is_empty : List ℕ → Bool
is_empty [] = true
is_empty (x ∷ xs) = false

-- A receiver that reads plain PPP and is out of a frame, in bounds and with areas long enough.
pub record OutOfPlainFrame (e : ReceiverEnd) : Type 0 where
  pub ready : ReceiverReady e
  pub reads : is_plain e.state.mode ≡ true
  pub out : e.state.framed ≡ false

-- Octets without a flag, and then the flag. Every octet is Quiet; the flag too, where none is left behind removal; and else it reports the
-- frame, from the work area. Then the state is as it was.
pub record FrameIsReported (e : ReceiverEnd) (xs : List ℕ) : Type 0 where
  pub octets : map report_and_packet (receives e xs) ≡ replicate (length xs) quiet_answer
  pub report : report_and_packet (receive (received e xs) flag)
      ≡ (if is_empty (kept e.state.map xs) then quiet_answer else frame_report (agreed e.state.settings) e.state.turn (unstuffed e.state.map false xs))
  pub after : (receive (received e xs) flag).after.state ≡ e.state

abbrev pub FrameByFrame : Type 0
FrameByFrame = (e : ReceiverEnd) → OutOfPlainFrame e → (xs : List ℕ) → (Memᴰ flag xs → ⊥) → FrameIsReported e xs

-- Octets of the receiving map, wherever they stand, in a frame or not and behind an escape too, change no report and no state.
pub record NoTrace (e : ReceiverEnd) (line : List ℕ) : Type 0 where
  pub reports : not_quiet (receives e line) ≡ not_quiet (receives e (kept e.state.map line))
  pub after : received e line ≡ received e (kept e.state.map line)

abbrev pub RemovedOctets : Type 0
RemovedOctets = (e : ReceiverEnd) → ReceiverReady e → is_plain e.state.mode ≡ true → (line : List ℕ) → NoTrace e line

-- ---- plain frames come through

-- what is answered to a packet's octets: Quiet to each but its flag, and there the packet
abbrev pub answers_to : PlainSender → Bool → List ℕ → List ReportAndPacket
answers_to s turn p = replicate (length (plain_line s p) - 1) quiet_answer ++ (told turn p ∷ [])

-- exactly these packets, in order, and nothing else
abbrev pub ComeThrough : PlainSender → ReceiverEnd → List (List ℕ) → Type 0
ComeThrough s e ps = map report_and_packet (receives e (flat_map (plain_line s) ps)) ≡ flat_map (answers_to s e.state.turn) ps

abbrev pub AllAllowedLengths : Agreed → List (List ℕ) → Type 0
AllAllowedLengths g ps = (p : List ℕ) → Memᴰ p ps → AllowedLength g p

-- A pair that is opened, with 32 octets of marks, and a receiver of the same settings and map, in bounds and with areas long enough
pub record OfPair (given : Settings) (receiving : ℕ) (marks : List ℕ) (e : ReceiverEnd) : Type 0 where
  pub octets : length marks ≡ 32
  pub opens : (open_pair given receiving marks).receiver ≡ Ok (opened_receiver given (Some receiving))
  pub ready : ReceiverReady e
  pub settings : e.state.settings ≡ given
  pub map : e.state.map ≡ receiving

--   frames: to any such receiver that reads plain PPP the flag, and then frames of packets, as the pair's sender writes them: all come through
--   opened: so from its opening on, whichever octets came before the flag, if it reads plain PPP by then
--   begins: to any such receiver that reads COBS, with plain reading on, and is out of a frame, frames of packets of which the first begins FF,
--   if the sender does not escape FF: the FF begins plain reading, and all come through without anybody's help
--   reads: after any frame that begins FF the receiver reads plain PPP, out of a frame, with the same settings and map
pub record PlainFrames : Type 0 where
  pub frames : (settings : Settings) (receiving : ℕ) (marks : List ℕ) (e : ReceiverEnd) → OfPair settings receiving marks e → is_plain e.state.mode ≡ true
      → (ps : List (List ℕ)) → AllAllowedLengths (agreed settings) ps → ComeThrough (open_pair settings receiving marks).sender (receive e flag).after ps
  pub opened : (settings : Settings) (receiving : ℕ) (marks first second : List ℕ) → OfPair settings receiving marks (fresh_receiver settings (Some receiving) first second)
      → (before : List ℕ)
      → (let e = received (fresh_receiver settings (Some receiving) first second) before in
      is_plain e.state.mode ≡ true
      → (ps : List (List ℕ)) → AllAllowedLengths (agreed settings) ps → ComeThrough (open_pair settings receiving marks).sender (receive e flag).after ps)
  pub begins : (settings : Settings) (receiving : ℕ) (marks : List ℕ) (e : ReceiverEnd) → OfPair settings receiving marks e → e.state.mode ≡ cobs → e.state.framed ≡ false
      → marked (open_pair settings receiving marks).sender.marks 0xFF ≡ false
      → (p : List ℕ) (ps : List (List ℕ)) → AllAllowedLengths (agreed settings) ((0xFF ∷ p) ∷ ps)
      → ComeThrough (open_pair settings receiving marks).sender e ((0xFF ∷ p) ∷ ps)
  pub reads : (e : ReceiverEnd) → OutOfCobsFrame e → e.state.mode ≡ cobs → (rest : List ℕ) → (Memᴰ flag rest → ⊥)
      → (let f = (receive (received e (0xFF ∷ rest)) flag).after in
      (f.state.mode ≡ plain) × (f.state.framed ≡ false) × ReceiverReady f × (f.state.settings ≡ e.state.settings) × (f.state.map ≡ e.state.map))
