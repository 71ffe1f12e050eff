-- The calls of the C library: what each answers, and the octets of its state and its areas after it. Each is the call of link, of reader or of
-- writer on the state that the octets spell.
use Rattle.std.specs.Prelude.{Bool, true, false, not, ◌||◌, List, ℕ, ◌-◌, leb, ltb, eqb, length, get_or, Some, None, Result, Ok, Err}
use Rattle.std.specs.Prelude.{if◌then◌else◌}
use Rattle.link.specs.declared.Settings.{Settings}
use Rattle.link.specs.declared.OpenError.{OpenError}
use Rattle.link.specs.Agreed.{agreed, valid, largest_frame, most_decoded}
use Rattle.link.specs.Answers.{open_refusal, Answer, done, octet, idle, quiet, packet, held, refused}
use Rattle.link.specs.declared.sender.Lane.{Lane}
use Rattle.link.specs.declared.sender.Sender.{Sender}
use Rattle.link.specs.Sender.{SenderEnd, Load, Next, load, next, seen}
use Rattle.link.specs.Sender as sender
use Rattle.link.specs.declared.receiver.Receiver.{Receiver}
use Rattle.link.specs.Receiver.{PlainReading, Receive, receive}
use Rattle.link.specs.Receiver as receiver
use Rattle.link.specs.declared.plain_sender.PlainSender.{PlainSender}
use Rattle.link.specs.declared.plain_sender.PairError.{PairError}
use Rattle.link.specs.PlainSender.{pair_refusal, plain_line, PlainSent, plain_send}
use Rattle.link.specs.PlainSender as plain
use Rattle.reader.specs.Reading.{Reach, read_on}
use Rattle.writer.specs.Writing.{Filled, write_on, onto}
use Rattle.kutarehopa.specs.Numbers.{number, sent_number}
use Rattle.kutarehopa.specs.Layout.{settings_in, spell_receiver, receiver_in, receiver_octets, spell_sender, sender_in, sender_octets, spell_plain_sender, plain_sender_in, plain_sender_octets, over}

-- ---- opening

pub record OpenCall : Type 0 where
  pub answer : ℕ
  pub state : List ℕ

-- the octets of the opened state, and where the opening is refused as they were
abbrev pub receiver_opened : List ℕ → Result Receiver OpenError → OpenCall
receiver_opened m (Ok r) = record { answer = number done; state = over (receiver_octets r) m }
receiver_opened m (Err e) = record { answer = number (refused (open_refusal e)); state = m }

unfoldable pub open_receiver : List ℕ → Settings → PlainReading → OpenCall
open_receiver m settings reading = receiver_opened m (receiver.open_receiver settings reading)

-- Plain reading is off with 0 in the mark, whatever the map, and else on.
abbrev pub reading_of : ℕ → ℕ → PlainReading
reading_of mark map = if eqb mark 0 then None else Some map

abbrev pub sender_opened : List ℕ → Result Sender OpenError → OpenCall
sender_opened m (Ok s) = record { answer = number done; state = over (sender_octets s) m }
sender_opened m (Err e) = record { answer = number (refused (open_refusal e)); state = m }

unfoldable pub open_sender : List ℕ → Settings → OpenCall
open_sender m settings = sender_opened m (sender.open_sender settings)

-- a pair: both states are opened, or none
pub record PairCall : Type 0 where
  pub answer : ℕ
  pub sender : List ℕ
  pub receiver : List ℕ

abbrev pub pair_opened : List ℕ → List ℕ → PlainSender → Result Receiver PairError → PairCall
pair_opened m n s (Ok r) = record { answer = number done; sender = over (plain_sender_octets s) m; receiver = over (receiver_octets r) n }
pair_opened m n s (Err e) = record { answer = number (refused (pair_refusal e)); sender = m; receiver = n }

unfoldable pub open_pair : List ℕ → List ℕ → Settings → ℕ → List ℕ → PairCall
open_pair m n settings map marks = let p = plain.open_pair settings map marks in pair_opened m n p.sender p.receiver

-- ---- octets that spell no state

-- They are refused where a state out of bounds is: 3 of settings that are not valid, 2 where an area is too short, and else 3.
abbrev pub no_state : Settings → Bool → ℕ
no_state settings short =
    if not (valid (agreed settings)) then number (refused 3) else if short then number (refused 2) else number (refused 3)

-- too short for what was agreed
abbrev pub short_for_receiver : Settings → List ℕ → List ℕ → Bool
short_for_receiver settings first second = ltb (length first) (most_decoded (agreed settings)) || ltb (length second) (most_decoded (agreed settings))

abbrev pub short_for_sender : Settings → List ℕ → Bool
short_for_sender settings area = ltb (length area) (largest_frame (agreed settings))

-- ---- the receiver

pub record ReceiveCall : Type 0 where
  pub answer : ℕ
  pub state : List ℕ
  pub first : List ℕ
  pub second : List ℕ

-- 2 and 3 refuse the call; any other answer is a report, and the call was taken
abbrev pub taken : Answer → Bool
taken done = true
taken (octet x) = true
taken idle = true
taken quiet = true
taken (packet in_second n) = true
taken (held n replaced) = true
taken (refused n) = leb 5 n

-- the state's octets after a call: those of the new state, and where it was refused as they were
abbrev pub receiver_after : List ℕ → Answer → Receiver → List ℕ
receiver_after m a r = if taken a then over (receiver_octets r) m else m

abbrev pub received : List ℕ → Receive → ReceiveCall
received m h =
    record {
      answer = number h.report;
      state = receiver_after m h.report h.after.state;
      first = h.after.first;
      second = h.after.second;
    }

unfoldable pub receive_call : List ℕ → ℕ → List ℕ → List ℕ → ReceiveCall
receive_call m x first second =
    if spell_receiver m then received m (receive (record { state = receiver_in m; first = first; second = second }) x)
    else record { answer = no_state (settings_in m) (short_for_receiver (settings_in m) first second); state = m; first = first; second = second }

-- reading on; used: how many octets were used
pub record ReadCall : Type 0 where
  pub answer : ℕ
  pub used : ℕ
  pub state : List ℕ
  pub first : List ℕ
  pub second : List ℕ

abbrev pub read_to : List ℕ → Reach → ReadCall
read_to m h =
    record {
      answer = number h.report;
      used = h.used;
      state = receiver_after m h.report h.after.state;
      first = h.after.first;
      second = h.after.second;
    }

-- Where there is no octet no call is made, whatever the state is.
unfoldable pub read_call : List ℕ → List ℕ → List ℕ → List ℕ → ReadCall
read_call m xs first second =
    if eqb (length xs) 0 then record { answer = number quiet; used = 0; state = m; first = first; second = second }
    else if spell_receiver m then read_to m (read_on (record { state = receiver_in m; first = first; second = second }) xs)
    else record { answer = no_state (settings_in m) (short_for_receiver (settings_in m) first second); used = 1; state = m; first = first; second = second }

-- ---- the sender

pub record LoadCall : Type 0 where
  pub answer : ℕ
  pub state : List ℕ
  pub area : List ℕ

-- Only Done and an octet change the state.
abbrev pub changes : Answer → Bool
changes done = true
changes (octet x) = true
changes idle = false
changes quiet = false
changes (packet in_second n) = false
changes (held n replaced) = false
changes (refused n) = false

abbrev pub sender_after : List ℕ → Answer → Sender → List ℕ
sender_after m a s = if changes a then over (sender_octets s) m else m

abbrev pub loaded : List ℕ → Load → LoadCall
loaded m h = record { answer = number h.answer; state = sender_after m h.answer h.state; area = h.area }

unfoldable pub load_call : Lane → List ℕ → List ℕ → List ℕ → LoadCall
load_call l m p area =
    if spell_sender m then loaded m (load l p (sender_in m) area)
    else record { answer = no_state (settings_in m) (short_for_sender (settings_in m) area); state = m; area = area }

pub record NextCall : Type 0 where
  pub answer : ℕ
  pub state : List ℕ

abbrev pub sent : List ℕ → Next → NextCall
sent m h = record { answer = number h.answer; state = sender_after m h.answer h.state }

unfoldable pub next_call : List ℕ → List ℕ → List ℕ → NextCall
next_call m low high =
    if spell_sender m then sent m (seen (next (record { state = sender_in m; low = low; high = high })))
    else record { answer = no_state (settings_in m) (short_for_sender (settings_in m) low || short_for_sender (settings_in m) high); state = m }

-- writing on; written: how many octets were written
pub record WriteCall : Type 0 where
  pub answer : ℕ
  pub written : ℕ
  pub state : List ℕ
  pub line : List ℕ

-- The last octet is answered; where none was written, what the first call was answered.
abbrev pub wrote : List ℕ → Answer → Filled → WriteCall
wrote m first t =
    if eqb t.filled 0 then record { answer = number first; written = 0; state = m; line = t.line }
    else
    record {
      answer = number (octet (get_or t.line (t.filled - 1) 0));
      written = t.filled;
      state = over (sender_octets t.state) m;
      line = t.line;
    }

-- Where there is no room no call is made, whatever the state is.
unfoldable pub write_call : List ℕ → List ℕ → List ℕ → List ℕ → WriteCall
write_call m low high line =
    if eqb (length line) 0 then record { answer = number quiet; written = 0; state = m; line = line }
    else if spell_sender m then
    (let e : SenderEnd = record { state = sender_in m; low = low; high = high } in
    wrote m (seen (next e)).answer (onto line (write_on (length line) e)))
    else record { answer = no_state (settings_in m) (short_for_sender (settings_in m) low || short_for_sender (settings_in m) high); written = 0; state = m; line = line }

-- ---- the plain sender

-- Its octets are only read.
pub record PlainCall : Type 0 where
  pub answer : ℕ
  pub area : List ℕ

abbrev pub plain_sent : PlainSent → PlainCall
plain_sent h = record { answer = sent_number h.answer; area = h.area }

-- Octets that spell no state are refused as a sending map out of bounds is: 3 of a width or a limit that is not valid, 2 where frame and flag
-- do not fit, by the map as it stands, and else 3. There is no settings octet.
abbrev pub no_plain_sender : PlainSender → List ℕ → ℕ → ℕ
no_plain_sender s p room = no_state (record { octet = 0; width = s.width; limit = s.limit }) (ltb room (length (plain_line s p)))

unfoldable pub plain_send_call : List ℕ → List ℕ → List ℕ → PlainCall
plain_send_call m p area =
    if spell_plain_sender m then plain_sent (plain_send (plain_sender_in m) p area)
    else record { answer = no_plain_sender (plain_sender_in m) p (length area); area = area }
