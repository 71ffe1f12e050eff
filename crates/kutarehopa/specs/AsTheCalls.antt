-- The calls on octets and the calls on states (link's, reader's, writer's). Each is proved in proofs/AsTheCalls.antt.
use Rattle.std.specs.Prelude.{true, false, List, [], ◌∷◌, ◌++◌, map, ◌≡◌, ℕ, ◌-◌, ◌<◌, eqb, length, take, drop, get_or, Some, Err}
use Rattle.std.specs.Prelude.{if◌then◌else◌}
use Rattle.plain.specs.Maps.{refused_pair, marks_ok}
use Rattle.link.specs.declared.Settings.{Settings}
use Rattle.link.specs.declared.OpenError.{OpenError}
use Rattle.link.specs.Agreed.{agreed, valid}
use Rattle.link.specs.Answers.{open_refusal, Answer, done, octet, idle, quiet, refused}
use Rattle.link.specs.declared.sender.Lane.{Lane}
use Rattle.link.specs.declared.sender.Lane.TheVariants.{Low as low, High as high}
use Rattle.link.specs.declared.sender.Sender.{Sender}
use Rattle.link.specs.declared.receiver.Receiver.{Receiver}
use Rattle.link.specs.Sender.{SenderEnd, Load, Next, load, next, seen}
use Rattle.link.specs.Sender as sender
use Rattle.link.specs.Receiver.{PlainReading, ReceiverEnd, Receive, receive}
use Rattle.link.specs.Receiver as receiver
use Rattle.link.specs.declared.plain_sender.PlainSender.{PlainSender}
use Rattle.link.specs.declared.plain_sender.PairError.{PairError}
use Rattle.link.specs.PlainSender.{pair_refusal, opened_plain_sender, plain_line, plain_send}
use Rattle.link.specs.PlainSender as plain
use Rattle.link.specs.Runs.{SenderCall, loading, next_octet, Station, sender_answers, receives}
use Rattle.reader.specs.Reading.{Reach, read_on}
use Rattle.writer.specs.Writing.{Filled, write_on, onto}
use Rattle.writer.specs.Pieces.{ProgramStep, loads, piece, in_pieces}
use Rattle.kutarehopa.specs.Numbers.{number, sent_number}
use Rattle.kutarehopa.specs.Layout.{settings_in, spell_receiver, receiver_in, receiver_octets, spell_sender, sender_in, sender_octets, spell_plain_sender, plain_sender_in, plain_sender_octets, over}
use Rattle.kutarehopa.specs.Calls.{open_receiver, open_sender, open_pair, ReceiveCall, receive_call, ReadCall, read_call, LoadCall, load_call, NextCall, next_call, WriteCall, write_call, plain_sent, plain_send_call}
use Rattle.kutarehopa.specs.Spelling.{plain_sender_part}

-- ---- on a packed state, which has in the octets of the layout those of a state: so every opening leaves it

-- The call on octets is the call on the state: its answer as a number, and the octets of its state over those that stood there (m).
abbrev pub receive_in_octets : List ℕ → Receive → ReceiveCall
receive_in_octets m h =
    record {
      answer = number h.report;
      state = over (receiver_octets h.after.state) m;
      first = h.after.first;
      second = h.after.second;
    }

abbrev pub read_in_octets : List ℕ → Reach → ReadCall
read_in_octets m h =
    record {
      answer = number h.report;
      used = h.used;
      state = over (receiver_octets h.after.state) m;
      first = h.after.first;
      second = h.after.second;
    }

abbrev pub load_in_octets : List ℕ → Load → LoadCall
load_in_octets m h = record { answer = number h.answer; state = over (sender_octets h.state) m; area = h.area }

abbrev pub next_in_octets : List ℕ → Next → NextCall
next_in_octets m h = record { answer = number h.answer; state = over (sender_octets h.state) m }

-- the answer of the last call that was made for a line that is filled so far: the last octet, or, where there is none, that of the first call
abbrev pub last_answer : List ℕ → SenderEnd → Filled → Answer
last_answer line e t =
    if eqb (length line) 0 then quiet
    else if eqb t.filled 0 then (seen (next e)).answer
    else octet (get_or t.line (t.filled - 1) 0)

abbrev pub write_in_octets : List ℕ → List ℕ → SenderEnd → Filled → WriteCall
write_in_octets m line e t = record { answer = number (last_answer line e t); written = t.filled; state = over (sender_octets t.state) m; line = t.line }

pub record OnPackedStates : Type 0 where
  pub receive : (r : Receiver) (m : List ℕ) (x : ℕ) (first second : List ℕ)
      → receive_call (over (receiver_octets r) m) x first second ≡ receive_in_octets m (receive (record { state = r; first = first; second = second }) x)
  pub read : (r : Receiver) (m xs first second : List ℕ)
      → read_call (over (receiver_octets r) m) xs first second ≡ read_in_octets m (read_on (record { state = r; first = first; second = second }) xs)
  pub load : (l : Lane) (s : Sender) (m p area : List ℕ) → load_call l (over (sender_octets s) m) p area ≡ load_in_octets m (load l p s area)
  pub next : (s : Sender) (m low high : List ℕ)
      → next_call (over (sender_octets s) m) low high ≡ next_in_octets m (seen (next (record { state = s; low = low; high = high })))
  pub write : (s : Sender) (m low high line : List ℕ)
      → (let e : SenderEnd = record { state = s; low = low; high = high } in
      write_call (over (sender_octets s) m) low high line ≡ write_in_octets m line e (onto line (write_on (length line) e)))
  pub plain_send : (s : PlainSender) (m p area : List ℕ) → length s.marks ≡ 32
      → plain_send_call (over (plain_sender_octets s) m) p area ≡ plain_sent (plain_send s p area)

-- ---- call after call

-- a receiver's octets and areas go from call to call
unfoldable pub receive_calls : List ℕ → List ℕ → List ℕ → List ℕ → List ReceiveCall
receive_calls m first second [] = []
receive_calls m first second (x ∷ xs) =
    let h = receive_call m x first second in
    h ∷ receive_calls h.state h.first h.second xs

-- a sender's octets and its areas
pub record SenderMemory : Type 0 where
  pub state : List ℕ
  pub low : List ℕ
  pub high : List ℕ

abbrev pub area_in : Lane → SenderMemory → List ℕ
area_in low w = w.low
area_in high w = w.high

abbrev pub after_load_call : Lane → LoadCall → SenderMemory → SenderMemory
after_load_call low h w = record { state = h.state; low = h.area; high = w.high }
after_load_call high h w = record { state = h.state; low = w.low; high = h.area }

-- what a list of calls answers
unfoldable pub sender_numbers : SenderMemory → List SenderCall → List ℕ
sender_numbers w [] = []
sender_numbers w (loading l p ∷ cs) = let h = load_call l w.state p (area_in l w) in h.answer ∷ sender_numbers (after_load_call l h w) cs
sender_numbers w (next_octet ∷ cs) =
    let h = next_call w.state w.low w.high in
    h.answer ∷ sender_numbers (record { state = h.state; low = w.low; high = w.high }) cs

-- a receiver that is handed stretch after stretch, on octets and by `reader`
unfoldable pub read_calls : List ℕ → List ℕ → List ℕ → List (List ℕ) → List ReadCall
read_calls m first second [] = []
read_calls m first second (xs ∷ xss) =
    let h = read_call m xs first second in
    h ∷ read_calls h.state h.first h.second xss

unfoldable pub readings : ReceiverEnd → List (List ℕ) → List Reach
readings e [] = []
readings e (xs ∷ xss) = let h = read_on e xs in h ∷ readings h.after xss

-- a sender's program: a packet is loaded into a lane, or octets are written to a line that is lent
pub data LineStep : Type 0 where
  loads_packet : Lane → List ℕ → LineStep
  writes_line : List ℕ → LineStep

-- the octets that it writes, and the step of `writer` that each step is
unfoldable pub octets_on_lines : SenderMemory → List LineStep → List ℕ
octets_on_lines w [] = []
octets_on_lines w (loads_packet l p ∷ ss) = octets_on_lines (after_load_call l (load_call l w.state p (area_in l w)) w) ss
octets_on_lines w (writes_line line ∷ ss) =
    let h = write_call w.state w.low w.high line in
    take h.written h.line ++ octets_on_lines (record { state = h.state; low = w.low; high = w.high }) ss

abbrev pub program_step : LineStep → ProgramStep
program_step (loads_packet l p) = loads l p
program_step (writes_line line) = piece (length line)

-- From a packed state on, a run of calls answers as the run of link's calls does (receiver, sender), and the stretches as those of `reader`
-- and `writer`, whose theorems say that these are the calls octet by octet.
pub record RunsAsLink : Type 0 where
  pub receiver : (r : Receiver) (m first second xs : List ℕ)
      → receive_calls (over (receiver_octets r) m) first second xs ≡ map (receive_in_octets m) (receives (record { state = r; first = first; second = second }) xs)
  pub sender : (w : Station) (m : List ℕ) (cs : List SenderCall)
      → sender_numbers (record { state = over (sender_octets w.end.state) m; low = w.end.low; high = w.end.high }) cs ≡ map number (sender_answers w cs)
  pub stretches : (r : Receiver) (m first second : List ℕ) (xss : List (List ℕ))
      → read_calls (over (receiver_octets r) m) first second xss ≡ map (read_in_octets m) (readings (record { state = r; first = first; second = second }) xss)
  pub lines : (e : SenderEnd) (m : List ℕ) (ss : List LineStep)
      → octets_on_lines (record { state = over (sender_octets e.state) m; low = e.low; high = e.high }) ss ≡ (in_pieces e (map program_step ss)).octets

-- An opening that is refused, by whatever number, leaves all octets; an opened end is packed. Of a pair both are, or both stay.
--   marks: a pair's sender has 32 octets of marks, if those handed in are 32, so that packed it spells itself
pub record OpenedIsPacked : Type 0 where
  pub no_receiver : (m : List ℕ) (settings : Settings) (reading : PlainReading) (e : OpenError) → receiver.open_receiver settings reading ≡ Err e
      → open_receiver m settings reading ≡ record { answer = number (refused (open_refusal e)); state = m }
  pub no_sender : (m : List ℕ) (settings : Settings) (e : OpenError) → sender.open_sender settings ≡ Err e
      → open_sender m settings ≡ record { answer = number (refused (open_refusal e)); state = m }
  pub no_pair : (m o : List ℕ) (settings : Settings) (map : ℕ) (marks : List ℕ) (e : PairError) → (plain.open_pair settings map marks).receiver ≡ Err e
      → open_pair m o settings map marks ≡ record { answer = number (refused (pair_refusal e)); sender = m; receiver = o }
  pub pair : (m o : List ℕ) (settings : Settings) (map : ℕ) (marks : List ℕ) → valid (agreed settings) ≡ true → refused_pair map marks ≡ false
      → open_pair m o settings map marks
      ≡ record {
        answer = number done;
        sender = over (plain_sender_octets (opened_plain_sender settings marks)) m;
        receiver = over (receiver_octets (receiver.opened_receiver settings (Some map))) o;
      }
  pub receiver : (m : List ℕ) (settings : Settings) (reading : PlainReading) → valid (agreed settings) ≡ true
      → open_receiver m settings reading ≡ record { answer = number done; state = over (receiver_octets (receiver.opened_receiver settings reading)) m }
  pub sender : (m : List ℕ) (settings : Settings) → valid (agreed settings) ≡ true
      → open_sender m settings ≡ record { answer = number done; state = over (sender_octets (sender.opened_sender settings)) m }
  pub marks : (settings : Settings) (marks : List ℕ) → length marks ≡ 32 → length (opened_plain_sender settings marks).marks ≡ 32

-- ---- on any octets

-- Where octets spell a state, a call answers what it answers on that state packed again, whatever stands in octets that are not looked at; and
-- where it is taken, all that it leaves is the same too, so that every octet of the layout is written. What a call leaves that is not taken is
-- said below.
pub record AsPackedAgain : Type 0 where
  pub receive : (m : List ℕ) → spell_receiver m ≡ true → (x : ℕ) (first second : List ℕ)
      → (let h = receive_call (over (receiver_octets (receiver_in m)) m) x first second in
      ((receive_call m x first second).answer ≡ h.answer)
      × (((n : ℕ) → n < 5 → h.answer ≡ number (refused n) → ⊥) → receive_call m x first second ≡ h))
  pub read : (m : List ℕ) → spell_receiver m ≡ true → (x : ℕ) (xs first second : List ℕ)
      → (let h = read_call (over (receiver_octets (receiver_in m)) m) (x ∷ xs) first second in
      ((read_call m (x ∷ xs) first second).answer ≡ h.answer)
      × (((n : ℕ) → n < 5 → h.answer ≡ number (refused n) → ⊥) → read_call m (x ∷ xs) first second ≡ h))
  pub load : (m : List ℕ) → spell_sender m ≡ true → (l : Lane) (p area : List ℕ)
      → (let h = load_call l (over (sender_octets (sender_in m)) m) p area in
      ((load_call l m p area).answer ≡ h.answer) × ((load l p (sender_in m) area).answer ≡ done → load_call l m p area ≡ h))
  pub next : (m : List ℕ) → spell_sender m ≡ true → (low high : List ℕ)
      → (let h = next_call (over (sender_octets (sender_in m)) m) low high in
      ((next_call m low high).answer ≡ h.answer)
      × ((x : ℕ) → (seen (next (record { state = sender_in m; low = low; high = high }))).answer ≡ octet x → next_call m low high ≡ h))
  pub write : (m : List ℕ) → spell_sender m ≡ true → (low high : List ℕ) (x : ℕ) (line : List ℕ)
      → (let h = write_call (over (sender_octets (sender_in m)) m) low high (x ∷ line) in
      ((write_call m low high (x ∷ line)).answer ≡ h.answer)
      × ((write_call m low high (x ∷ line)).written ≡ h.written)
      × ((h.written ≡ 0 → ⊥) → write_call m low high (x ∷ line) ≡ h))
  pub plain_send : (m : List ℕ) → spell_plain_sender m ≡ true → (p area : List ℕ)
      → plain_send_call m p area ≡ plain_send_call (over (plain_sender_octets (plain_sender_in m)) m) p area

-- With no octets, and with no room, no call is made, whatever the octets are.
pub record NoCallMade : Type 0 where
  pub read : (m first second : List ℕ) → read_call m [] first second ≡ record { answer = number quiet; used = 0; state = m; first = first; second = second }
  pub write : (m low high : List ℕ) → write_call m low high [] ≡ record { answer = number quiet; written = 0; state = m; line = [] }

-- A refused call (1 to 4) leaves every octet of its state and of its areas as it was.
pub record RefusedLeavesAll : Type 0 where
  pub receive : (m : List ℕ) (x : ℕ) (first second : List ℕ) (n : ℕ) → n < 5 → (receive_call m x first second).answer ≡ number (refused n)
      → receive_call m x first second ≡ record { answer = number (refused n); state = m; first = first; second = second }
  pub read : (m xs first second : List ℕ) (n : ℕ) → n < 5 → (read_call m xs first second).answer ≡ number (refused n)
      → read_call m xs first second ≡ record { answer = number (refused n); used = 1; state = m; first = first; second = second }
  pub load : (l : Lane) (m p area : List ℕ) (n : ℕ) → n < 5 → (load_call l m p area).answer ≡ number (refused n)
      → load_call l m p area ≡ record { answer = number (refused n); state = m; area = area }
  pub next : (m low high : List ℕ) (n : ℕ) → n < 5 → (next_call m low high).answer ≡ number (refused n) → (next_call m low high).state ≡ m
  pub write : (m low high line : List ℕ) (n : ℕ) → n < 5 → (write_call m low high line).answer ≡ number (refused n)
      → write_call m low high line ≡ record { answer = number (refused n); written = 0; state = m; line = line }
  pub plain_send : (m p area : List ℕ) (n : ℕ) → n < 5 → (plain_send_call m p area).answer ≡ number (refused n)
      → plain_send_call m p area ≡ record { answer = number (refused n); area = area }

-- Nor does a sender's call change an octet that writes none: next octet where it answers Idle or a refusal, and writing on.
pub record NoOctetNoChange : Type 0 where
  pub idle : (m low high : List ℕ) → spell_sender m ≡ true → (seen (next (record { state = sender_in m; low = low; high = high }))).answer ≡ idle
      → next_call m low high ≡ record { answer = number idle; state = m }
  pub refused : (m low high : List ℕ) → spell_sender m ≡ true → (n : ℕ) → (seen (next (record { state = sender_in m; low = low; high = high }))).answer ≡ refused n
      → next_call m low high ≡ record { answer = number (refused n); state = m }
  pub write : (m low high line : List ℕ) → (write_call m low high line).written ≡ 0 → ((write_call m low high line).state ≡ m) × ((write_call m low high line).line ≡ line)

-- Octets that spell no state are answered as any state of their settings that is out of bounds; a plain send as any plain sender of their width and
-- limit whose map is out of bounds, if it makes of the packet as many octets as theirs: so with their own map, where that is out of bounds.
pub record NoStateIsOutOfBounds : Type 0 where
  pub receive : (m : List ℕ) → spell_receiver m ≡ false → (e : ReceiverEnd) → e.state.settings ≡ settings_in m → receiver.in_bounds (agreed e.state.settings) e.state ≡ false → (x : ℕ)
      → (receive_call m x e.first e.second).answer ≡ number (receive e x).report
  pub read : (m : List ℕ) → spell_receiver m ≡ false → (e : ReceiverEnd) → e.state.settings ≡ settings_in m → receiver.in_bounds (agreed e.state.settings) e.state ≡ false → (xs : List ℕ)
      → ((read_call m xs e.first e.second).answer ≡ number (read_on e xs).report) × ((read_call m xs e.first e.second).used ≡ (read_on e xs).used)
  pub load : (m : List ℕ) → spell_sender m ≡ false → (s : Sender) → s.settings ≡ settings_in m → sender.in_bounds (agreed s.settings) s ≡ false → (l : Lane) (p area : List ℕ)
      → (load_call l m p area).answer ≡ number (load l p s area).answer
  pub next : (m : List ℕ) → spell_sender m ≡ false → (e : SenderEnd) → e.state.settings ≡ settings_in m → sender.in_bounds (agreed e.state.settings) e.state ≡ false
      → (next_call m e.low e.high).answer ≡ number (seen (next e)).answer
  pub write : (m : List ℕ) → spell_sender m ≡ false → (e : SenderEnd) → e.state.settings ≡ settings_in m → sender.in_bounds (agreed e.state.settings) e.state ≡ false → (line : List ℕ)
      → ((write_call m e.low e.high line).answer ≡ number (last_answer line e (onto line (write_on (length line) e))))
      × ((write_call m e.low e.high line).written ≡ 0)
  pub plain_send : (m : List ℕ) → spell_plain_sender m ≡ false → (s : PlainSender) → s.width ≡ (plain_sender_in m).width → s.limit ≡ (plain_sender_in m).limit
      → marks_ok s.marks ≡ false → (p area : List ℕ) → length (plain_line s p) ≡ length (plain_line (plain_sender_in m) p)
      → (plain_send_call m p area).answer ≡ sent_number (plain_send s p area).answer

-- No call writes to the octets of a memory that the layout does not list: those from the 27th of a receiver's on, from the 39th of a sender's, and
-- from the 37th of a plain sender's. A plain send only reads its sender's octets, and those make no difference to it.
pub record RestStays : Type 0 where
  pub open_receiver : (m : List ℕ) (settings : Settings) (reading : PlainReading) → drop 26 (open_receiver m settings reading).state ≡ drop 26 m
  pub receive : (m : List ℕ) (x : ℕ) (first second : List ℕ) → drop 26 (receive_call m x first second).state ≡ drop 26 m
  pub read : (m xs first second : List ℕ) → drop 26 (read_call m xs first second).state ≡ drop 26 m
  pub open_sender : (m : List ℕ) (settings : Settings) → drop 38 (open_sender m settings).state ≡ drop 38 m
  pub load : (l : Lane) (m p area : List ℕ) → drop 38 (load_call l m p area).state ≡ drop 38 m
  pub next : (m low high : List ℕ) → drop 38 (next_call m low high).state ≡ drop 38 m
  pub write : (m low high line : List ℕ) → drop 38 (write_call m low high line).state ≡ drop 38 m
  pub open_pair : (m o : List ℕ) (settings : Settings) (map : ℕ) (marks : List ℕ) → length marks ≡ 32
      → (drop 36 (open_pair m o settings map marks).sender ≡ drop 36 m) × (drop 26 (open_pair m o settings map marks).receiver ≡ drop 26 o)
  pub plain_send : (m n p area : List ℕ) → plain_sender_part n ≡ plain_sender_part m → plain_send_call n p area ≡ plain_send_call m p area
