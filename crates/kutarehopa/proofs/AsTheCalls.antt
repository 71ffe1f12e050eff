-- The calls on octets and the calls on states.
use mathlib.Core.Path.{◌≡◌, refl, sym, ap, subst, ◌∙◌}
use mathlib.Core.Bool.{Bool, true, false, not, ◌||◌}
use mathlib.Core.List.{List, [], ◌∷◌, ◌++◌, map}
use Prim.Native.Nat.{ℕ, ◌<◌}
use native.Mathlib.Omega.{arith}
use borrow.Author.Tests.{eqb-true, eqb-false, ne_eqb, ltb-false, ltb-true, lt-leb, leb-false}
use lib.Dec.{ltb, eqb}
use lib.ListN.{length, drop, length-set}
use lib.Seq.{take-append_seam, drop-append_seam}
use Rattle.std.specs.Prelude.{Result, Ok, Err}
use Rattle.std.specs.Prelude.{if◌then◌else◌}
use Rattle.cobs.proofs.Tests.{branch, decide, true-false, false-true}
use Rattle.plain.specs.Maps.{marked, marking, with_framing, marks_ok}
use Rattle.link.specs.declared.Settings.{Settings}
use Rattle.link.specs.declared.OpenError.{OpenError}
use Rattle.link.specs.Agreed.{agreed, valid}
use Rattle.link.specs.Answers.{Answer, done, octet, idle, quiet, packet, held, refused, is_quiet}
use Rattle.link.specs.declared.sender.Lane.{Lane}
use Rattle.link.specs.declared.sender.Lane.TheVariants.{Low as low, High as high}
use Rattle.link.specs.declared.sender.Sender.{Sender}
use Rattle.link.specs.declared.receiver.Receiver.{Receiver}
use Rattle.link.specs.Sender.{SenderEnd, Out, closes, breaks_off, sends, sends_nothing, refuses, out_answer, load, next, seen}
use Rattle.link.specs.Sender as sender
use Rattle.link.specs.Receiver.{ReceiverEnd, Receive, receive}
use Rattle.link.specs.Receiver as receiver
use Rattle.link.specs.declared.plain_sender.PlainSender.{PlainSender}
use Rattle.link.specs.declared.plain_sender.PairError.{PairError}
use Rattle.link.specs.declared.plain_sender.SendError.{SendError}
use Rattle.link.specs.PlainSender.{plain_agreed, plain_line, PlainSent, plain_send}
use Rattle.link.specs.PlainSender as plain
use Rattle.link.specs.ReceiverParts.{ReceiverReady}
use Rattle.link.specs.Runs.{SenderCall, loading, next_octet, Station, after_load, after_next, sender_answers, receives}
use Rattle.link.proofs.Within.{refuses-frames}
use Rattle.link.proofs.ReadOn.{after-quiet}
use Rattle.link.proofs.ReceiverCases.{not_valid, too_short, out-of-bounds}
use Rattle.link.proofs.SenderBounds.{load-answers, load-invalid, load-short, load-out-of-bounds, next-invalid, next-short, next-out-of-bounds}
use Rattle.link.proofs.EachCall.{valid-first, refused-changes-nothing, idle-changes-nothing}
use Rattle.link.proofs.PlainPair.{plain-sends, pair-opens}
use Rattle.reader.specs.Reading.{Reach, read_on}
use Rattle.reader.proofs.Steps.{from-quiet, at-report, begins, ends}
use Rattle.reader.proofs.NothingLost.{is-quiet}
use Rattle.writer.specs.Pieces.{in_pieces, after_loading, after_piece}
use Rattle.writer.specs.Writing.{Wrote, Filled, writes_nothing, write_on, onto}
use Rattle.writer.proofs.Steps.{no_room, no-octet, none_written}
use Rattle.kutarehopa.specs.Numbers.{number, value, Sent, sent_number}
use Rattle.kutarehopa.specs.Layout.{settings_in, spell_receiver, receiver_in, receiver_octets, spell_sender, sender_in, sender_octets, spell_plain_sender, plain_sender_in, plain_sender_octets, over}
use Rattle.kutarehopa.specs.Calls.{short_for_receiver, short_for_sender, no_state, taken, changes, received, receiver_after, ReceiveCall, receive_call, read_to, ReadCall, read_call, loaded, sender_after, LoadCall, load_call, sent, NextCall, next_call, wrote, WriteCall, write_call, receiver_opened, sender_opened, pair_opened, open_receiver, open_sender, open_pair, no_plain_sender, PlainCall, plain_sent, plain_send_call}
use Rattle.kutarehopa.specs.Spelling.{plain_sender_part}
use Rattle.kutarehopa.specs.AsTheCalls.{receive_in_octets, read_in_octets, load_in_octets, next_in_octets, last_answer, write_in_octets, OnPackedStates, receive_calls, SenderMemory, sender_numbers, read_calls, readings, LineStep, loads_packet, writes_line, octets_on_lines, program_step, RunsAsLink, OpenedIsPacked, AsPackedAgain, NoCallMade, RefusedLeavesAll, NoOctetNoChange, NoStateIsOutOfBounds, RestStays}
use Rattle.kutarehopa.proofs.Numbers.{reports-have-numbers, small-refused}
use Rattle.kutarehopa.proofs.Spelling.{from-length, packed-spells-itself, looks-nowhere-else}
use Rattle.kutarehopa.proofs.Calls.{no-receiver, a-receiver, no_reader, a-reader, reads_nothing, no-loader, a-loader, no-sender, a-sender, no-writer, a-writer, writes_nothing_lem, not-plain-sender, a-plain-sender}

-- ---- octets over octets

over-over : (a b m : List ℕ) → length a ≡ length b → over a (over b m) ≡ over a m
over-over a b m e = rw (e, drop-append_seam b (drop (length b) m))

receiver-length : (r : Receiver) → length (receiver_octets r) ≡ 26
unfolding receiver_octets
receiver-length r = refl

sender-length : (s : Sender) → length (sender_octets s) ≡ 38
unfolding sender_octets
sender-length s = refl

module _ (r t : Receiver) (m : List ℕ) where
  receiver-over : over (receiver_octets t) (over (receiver_octets r) m) ≡ over (receiver_octets t) m
  receiver-over = over-over (receiver_octets t) (receiver_octets r) m (receiver-length t ∙ sym (receiver-length r))

module _ (s t : Sender) (m : List ℕ) where
  sender-over : over (sender_octets t) (over (sender_octets s) m) ≡ over (sender_octets t) m
  sender-over = over-over (sender_octets t) (sender_octets s) m (sender-length t ∙ sym (sender-length s))

-- ---- a reading that is refused

-- a stretch without octets
reads_none : (e : ReceiverEnd) → read_on e [] ≡ record { report = quiet; after = e; used = 0 }
reads_none e = begins e [] ∙ ends e [] 0 (omega arith)

-- a receiver that refuses no call
never-refused : (e : ReceiverEnd) → ReceiverReady e → (xs : List ℕ) (n : ℕ) → n < 5 → (read_on e xs).report ≡ refused n → ⊥
never-refused e ready [] n s q = let z : quiet ≡ refused n = sym (ap (λ (r : Reach). r.report) (reads_none e)) ∙ q in let k : ◌≡◌ {A = ℕ} 0 1 = cc in omega arith
never-refused e ready (x ∷ xs) n s q =
    decide (is_quiet (receive e x).report)
    (λ k. never-refused (receive e x).after (after-quiet e x (is-quiet (receive e x).report k)) xs n s
    (sym (ap (λ (r : Reach). r.report) (from-quiet e x xs (receive e x) refl k)) ∙ q))
    (λ k. let f = refuses-frames e ready x n (sym (ap (λ (r : Reach). r.report) (at-report e x xs (receive e x) refl k)) ∙ q) in omega arith)

-- so that a reading is refused at its first octet, and changes nothing
read-refused : (e : ReceiverEnd) (xs : List ℕ) (n : ℕ) → n < 5 → (read_on e xs).report ≡ refused n → read_on e xs ≡ record { report = refused n; after = e; used = 1 }
read-refused e [] n s q = let z : quiet ≡ refused n = sym (ap (λ (r : Reach). r.report) (reads_none e)) ∙ q in absurd (let k : ◌≡◌ {A = ℕ} 0 1 = cc in omega arith)
read-refused e (x ∷ xs) n s q =
    decide (is_quiet (receive e x).report)
    (λ k. absurd (never-refused (receive e x).after (after-quiet e x (is-quiet (receive e x).report k)) xs n s
    (sym (ap (λ (r : Reach). r.report) (from-quiet e x xs (receive e x) refl k)) ∙ q)))
    (λ k.
    let a = at-report e x xs (receive e x) refl k in
    let r = sym (ap (λ (r : Reach). r.report) a) ∙ q in
    a ∙ rw (r, refused-changes-nothing.receive e x n s r))

-- the value of its report
read-value : (e : ReceiverEnd) (xs : List ℕ) → value (read_on e xs).report < 0x10000
read-value e [] = rw (reads_none e) (omega arith)
read-value e (x ∷ xs) =
    decide (is_quiet (receive e x).report) (λ k. rw (from-quiet e x xs (receive e x) refl k) (read-value (receive e x).after xs))
    (λ k. rw (at-report e x xs (receive e x) refl k) (reports-have-numbers e x))

-- ---- on packed states

-- a call that is not taken is refused
not_taken : {Q : Type 0} (a : Answer) → taken a ≡ false → ((n : ℕ) → n < 5 → a ≡ refused n → Q) → Q
not_taken done t f = true-false t
not_taken (octet x) t f = true-false t
not_taken idle t f = true-false t
not_taken quiet t f = true-false t
not_taken (packet in_second n) t f = true-false t
not_taken (held n replaced) t f = true-false t
not_taken (refused n) t f = f n (omega (arith, leb-false 5 n t)) refl

receiver-after : (a : Answer) (r t : Receiver) (m : List ℕ) → ((n : ℕ) → n < 5 → a ≡ refused n → t ≡ r)
    → receiver_after (over (receiver_octets r) m) a t ≡ over (receiver_octets t) m
receiver-after a r t m same =
    branch (λ (l : List ℕ). l ≡ over (receiver_octets t) m) (taken a) (λ _. receiver-over r t m)
    (λ k. not_taken a k (λ n s q. ap (λ (u : Receiver). over (receiver_octets u) m) (sym (same n s q))))

module _ (r : Receiver) (m first second : List ℕ) where
  abbrev end : ReceiverEnd
  end = record { state = r; first = first; second = second }

  receive-packed : (x : ℕ) → receive_call (over (receiver_octets r) m) x first second ≡ receive_in_octets m (receive end x)
  receive-packed x =
      let p = packed-spells-itself.receiver r m in
      let h = receive end x in
      a-receiver (over (receiver_octets r) m) first second p.0 x
      ∙ ap (λ (u : Receiver). received (over (receiver_octets r) m) (receive (record { state = u; first = first; second = second }) x)) p.1
      ∙ ap (λ (l : List ℕ). record { answer = number h.report; state = l; first = h.after.first; second = h.after.second })
      (receiver-after h.report r h.after.state m (λ n s q. ap (λ (e : ReceiverEnd). e.state) (refused-changes-nothing.receive end x n s q)))

  read-packed : (xs : List ℕ) → read_call (over (receiver_octets r) m) xs first second ≡ read_in_octets m (read_on end xs)
  read-packed [] = reads_nothing (over (receiver_octets r) m) first second [] refl ∙ ap (read_in_octets m) (sym (reads_none end))
  read-packed (x ∷ xs) =
      let p = packed-spells-itself.receiver r m in
      let h = read_on end (x ∷ xs) in
      a-reader (over (receiver_octets r) m) first second p.0 (x ∷ xs) (λ z. omega (arith, z))
      ∙ ap (λ (u : Receiver). read_to (over (receiver_octets r) m) (read_on (record { state = u; first = first; second = second }) (x ∷ xs))) p.1
      ∙ ap (λ (l : List ℕ). record { answer = number h.report; used = h.used; state = l; first = h.after.first; second = h.after.second })
      (receiver-after h.report r h.after.state m (λ n s q. ap (λ (k : Reach). k.after.state) (read-refused end (x ∷ xs) n s q)))

sender-after : (a : Answer) (s t : Sender) (m : List ℕ) → (changes a ≡ false → t ≡ s) → sender_after (over (sender_octets s) m) a t ≡ over (sender_octets t) m
sender-after a s t m same =
    branch (λ (l : List ℕ). l ≡ over (sender_octets t) m) (changes a) (λ _. sender-over s t m)
    (λ k. ap (λ (u : Sender). over (sender_octets u) m) (sym (same k)))

-- a load that changes nothing is refused
load_same : (l : Lane) (p : List ℕ) (s : Sender) (area : List ℕ) → changes (load l p s area).answer ≡ false → (load l p s area).state ≡ s
load_same l p s area k =
    let r = load-answers (λ (a : Answer). changes a ≡ false → (n : ℕ) × (a ≡ refused n)) (λ t. true-false t) (λ n _. (n, refl)) l p s area k in
    (refused-changes-nothing.load l p s area r.0 r.1).0

-- nor does a call of next octet that answers none
next-same : (e : SenderEnd) → changes (out_answer (next e).out) ≡ false → (next e).state ≡ e.state
next-same e = by (next e).out refl
  where
    by : (o : Out) → (next e).out ≡ o → changes (out_answer o) ≡ false → (next e).state ≡ e.state
    by (closes l) q k = true-false k
    by breaks_off q k = true-false k
    by (sends l x) q k = true-false k
    by sends_nothing q k = idle-changes-nothing e (ap out_answer q)
    by (refuses n) q k = refused-changes-nothing.next e n (ap out_answer q)

load-packed : (l : Lane) (s : Sender) (m p area : List ℕ) → load_call l (over (sender_octets s) m) p area ≡ load_in_octets m (load l p s area)
load-packed l s m p area =
    let q = packed-spells-itself.sender s m in
    let h = load l p s area in
    a-loader l (over (sender_octets s) m) p area q.0
    ∙ ap (λ (u : Sender). loaded (over (sender_octets s) m) (load l p u area)) q.1
    ∙ ap (λ (o : List ℕ). record { answer = number h.answer; state = o; area = h.area }) (sender-after h.answer s h.state m (load_same l p s area))

module _ (s : Sender) (m low high : List ℕ) where
  abbrev sends-from : SenderEnd
  sends-from = record { state = s; low = low; high = high }

  next-packed : next_call (over (sender_octets s) m) low high ≡ next_in_octets m (seen (next sends-from))
  next-packed =
      let q = packed-spells-itself.sender s m in
      let h = seen (next sends-from) in
      a-sender (over (sender_octets s) m) low high q.0
      ∙ ap (λ (u : Sender). sent (over (sender_octets s) m) (seen (next (record { state = u; low = low; high = high })))) q.1
      ∙ ap (λ (o : List ℕ). record { answer = number h.answer; state = o }) (sender-after h.answer s h.state m (next-same sends-from))

  -- a line with room
  module _ (line : List ℕ) (room : length line ≡ 0 → ⊥) where
    abbrev written : Filled
    written = onto line (write_on (length line) sends-from)

    wrote-packed : (b : Bool) → eqb written.filled 0 ≡ b → wrote (over (sender_octets s) m) (seen (next sends-from)).answer written ≡ write_in_octets m line sends-from written
    wrote-packed true k =
        let z = eqb-true written.filled 0 k in
        let same : written.state ≡ s = none_written (length line) sends-from z in
        rw (ne_eqb _ _ room, k, same, z)
    wrote-packed false k = rw (ne_eqb _ _ room, k, sender-over s written.state m)

  write-packed : (line : List ℕ) → write_call (over (sender_octets s) m) low high line ≡ write_in_octets m line sends-from (onto line (write_on (length line) sends-from))
  write-packed [] = writes_nothing_lem (over (sender_octets s) m) low high [] refl ∙ ap (λ (w : Wrote). write_in_octets m [] sends-from (onto [] w)) (sym (no_room sends-from))
  write-packed (x ∷ xs) =
      let q = packed-spells-itself.sender s m in
      let room : length (x ∷ xs) ≡ 0 → ⊥ = λ z. omega (arith, z) in
      a-writer (over (sender_octets s) m) low high q.0 (x ∷ xs) room
      ∙ ap (λ (u : Sender). let e : SenderEnd = record { state = u; low = low; high = high } in wrote (over (sender_octets s) m) (seen (next e)).answer (onto (x ∷ xs) (write_on (length (x ∷ xs)) e))) q.1
      ∙ wrote-packed (x ∷ xs) room _ refl

plain-packed : (s : PlainSender) (m p area : List ℕ) → length s.marks ≡ 32 → plain_send_call (over (plain_sender_octets s) m) p area ≡ plain_sent (plain_send s p area)
plain-packed s m p area full =
    let q = packed-spells-itself.plain_sender s m full in
    a-plain-sender (over (plain_sender_octets s) m) p area q.0 ∙ ap (λ (u : PlainSender). plain_sent (plain_send u p area)) q.1

pub on-packed-states : OnPackedStates
on-packed-states =
    record {
      receive = λ r m x first second. receive-packed r m first second x;
      read = λ r m xs first second. read-packed r m first second xs;
      load = load-packed;
      next = next-packed;
      write = write-packed;
      plain_send = plain-packed;
    }

-- ---- call after call

receiver-runs : (e : ReceiverEnd) (m xs : List ℕ) → receive_calls (over (receiver_octets e.state) m) e.first e.second xs ≡ map (receive_in_octets m) (receives e xs)
unfolding receive_calls receives
receiver-runs e m [] = refl
receiver-runs e m (x ∷ xs) =
    rw (receive-packed e.state m e.first e.second x) (ap (λ (l : List ReceiveCall). receive_in_octets m (receive e x) ∷ l) (receiver-runs (receive e x).after m xs))

abbrev memory : List ℕ → Station → SenderMemory
memory m w = record { state = over (sender_octets w.end.state) m; low = w.end.low; high = w.end.high }

sender-runs : (w : Station) (m : List ℕ) (cs : List SenderCall) → sender_numbers (memory m w) cs ≡ map number (sender_answers w cs)
unfolding sender_numbers sender_answers after_load after_next
sender-runs w m [] = refl
sender-runs w m (loading low p ∷ cs) =
    rw (load-packed low w.end.state m p w.end.low) (ap (λ (l : List ℕ). number (load low p w.end.state w.end.low).answer ∷ l) (sender-runs (after_load low p w) m cs))
sender-runs w m (loading high p ∷ cs) =
    rw (load-packed high w.end.state m p w.end.high) (ap (λ (l : List ℕ). number (load high p w.end.state w.end.high).answer ∷ l) (sender-runs (after_load high p w) m cs))
sender-runs w m (next_octet ∷ cs) =
    rw (next-packed w.end.state m w.end.low w.end.high) (ap (λ (l : List ℕ). number (out_answer (next w.end).out) ∷ l) (sender-runs (after_next w) m cs))

stretches-run : (e : ReceiverEnd) (m : List ℕ) (xss : List (List ℕ)) → read_calls (over (receiver_octets e.state) m) e.first e.second xss ≡ map (read_in_octets m) (readings e xss)
unfolding read_calls readings
stretches-run e m [] = refl
stretches-run e m (xs ∷ xss) =
    rw (read-packed e.state m e.first e.second xs) (ap (λ (l : List ReadCall). read_in_octets m (read_on e xs) ∷ l) (stretches-run (read_on e xs).after m xss))

abbrev in_memory : List ℕ → SenderEnd → SenderMemory
in_memory m e = record { state = over (sender_octets e.state) m; low = e.low; high = e.high }

lines-run : (e : SenderEnd) (m : List ℕ) (ss : List LineStep) → octets_on_lines (in_memory m e) ss ≡ (in_pieces e (map program_step ss)).octets
unfolding octets_on_lines in_pieces
lines-run e m [] = refl
lines-run e m (loads_packet low p ∷ ss) = rw (load-packed low e.state m p e.low) (lines-run (after_loading low p e) m ss)
lines-run e m (loads_packet high p ∷ ss) = rw (load-packed high e.state m p e.high) (lines-run (after_loading high p e) m ss)
lines-run e m (writes_line line ∷ ss) =
    let w = write_on (length line) e in
    rw (write-packed e.state m e.low e.high line, take-append_seam w.octets (drop (length w.octets) line))
    (ap (λ (l : List ℕ). w.octets ++ l) (lines-run (after_piece w e) m ss))

pub runs-as-link : RunsAsLink
runs-as-link =
    record {
      receiver = λ r m first second xs. receiver-runs (record { state = r; first = first; second = second }) m xs;
      sender = sender-runs;
      stretches = λ r m first second xss. stretches-run (record { state = r; first = first; second = second }) m xss;
      lines = lines-run;
    }

-- a pair, by what link's opening of it answers
pair-by : (m o : List ℕ) (settings : Settings) (map : ℕ) (marks : List ℕ) (a : Result Receiver PairError) → (plain.open_pair settings map marks).receiver ≡ a
    → open_pair m o settings map marks ≡ pair_opened m o (plain.opened_plain_sender settings marks) a
unfolding open_pair
pair-by m o settings map marks a = ap (pair_opened m o (plain.opened_plain_sender settings marks))

-- one mark more, and the two of the framing: as many octets
marking-length : (x : ℕ) (marks : List ℕ) → length (marking x marks) ≡ length marks
unfolding marking
marking-length x marks = branch (λ (l : List ℕ). length l ≡ length marks) (marked marks x) (λ _. refl) (λ _. length-set marks _ _)

framing-length : (marks : List ℕ) → length (with_framing marks) ≡ length marks
unfolding with_framing
framing-length marks = marking-length _ (marking _ marks) ∙ marking-length _ marks

pub opened-is-packed : OpenedIsPacked
unfolding open_receiver open_sender
opened-is-packed =
    record {
      receiver = λ m settings reading v. ap (receiver_opened m) (valid-first.receiver_opens settings reading v);
      sender = λ m settings v. ap (sender_opened m) (valid-first.sender_opens settings v);
      pair = λ m o settings map marks v r. pair-by m o settings map marks _ (pair-opens.opens settings map marks v r);
      no_receiver = λ m settings reading e. ap (receiver_opened m);
      no_sender = λ m settings e. ap (sender_opened m);
      no_pair = λ m o settings map marks e. pair-by m o settings map marks (Err e);
      marks = λ settings marks full. framing-length marks ∙ full;
    }

-- ---- octets that spell a state

again-receive : (m : List ℕ) → spell_receiver m ≡ true → (x : ℕ) (first second : List ℕ)
    → (let h = receive_call (over (receiver_octets (receiver_in m)) m) x first second in
    ((receive_call m x first second).answer ≡ h.answer) × (((n : ℕ) → n < 5 → h.answer ≡ number (refused n) → ⊥) → receive_call m x first second ≡ h))
again-receive m s x first second =
    let k = receive (record { state = receiver_in m; first = first; second = second }) x in
    rw (a-receiver m first second s x, receive-packed (receiver_in m) m first second x)
    (refl, λ loud. decide (taken k.report) (λ t. rw t) (λ t. not_taken k.report t (λ n few q. absurd (loud n few (ap number q)))))

again-read : (m : List ℕ) → spell_receiver m ≡ true → (x : ℕ) (xs first second : List ℕ)
    → (let h = read_call (over (receiver_octets (receiver_in m)) m) (x ∷ xs) first second in
    ((read_call m (x ∷ xs) first second).answer ≡ h.answer) × (((n : ℕ) → n < 5 → h.answer ≡ number (refused n) → ⊥) → read_call m (x ∷ xs) first second ≡ h))
again-read m s x xs first second =
    let k = read_on (record { state = receiver_in m; first = first; second = second }) (x ∷ xs) in
    rw (a-reader m first second s (x ∷ xs) (λ z. omega (arith, z)), read-packed (receiver_in m) m first second (x ∷ xs))
    (refl, λ loud. decide (taken k.report) (λ t. rw t) (λ t. not_taken k.report t (λ n few q. absurd (loud n few (ap number q)))))

again-load : (m : List ℕ) → spell_sender m ≡ true → (l : Lane) (p area : List ℕ)
    → (let h = load_call l (over (sender_octets (sender_in m)) m) p area in
    ((load_call l m p area).answer ≡ h.answer) × ((load l p (sender_in m) area).answer ≡ done → load_call l m p area ≡ h))
again-load m s l p area = rw (a-loader l m p area s, load-packed l (sender_in m) m p area) (refl, λ d. rw d)

module _ (m : List ℕ) (s : spell_sender m ≡ true) (low_area high_area : List ℕ) where
  abbrev spelled : SenderEnd
  spelled = record { state = sender_in m; low = low_area; high = high_area }

  -- by the answer
  next-by : (a : Answer) → (seen (next spelled)).answer ≡ a → next_call m low_area high_area ≡ record { answer = number a; state = sender_after m a (next spelled).state }
  next-by a q = a-sender m low_area high_area s ∙ ap (λ (b : Answer). record { answer = number b; state = sender_after m b (next spelled).state }) q

  again-next : (let h = next_call (over (sender_octets (sender_in m)) m) low_area high_area in
      ((next_call m low_area high_area).answer ≡ h.answer) × ((x : ℕ) → (seen (next spelled)).answer ≡ octet x → next_call m low_area high_area ≡ h))
  again-next =
      let b = next-packed (sender_in m) m low_area high_area in
      let answer-of : NextCall → ℕ = λ h. h.answer in (
        ap answer-of (a-sender m low_area high_area s) ∙ sym (ap answer-of b),
        λ x q. next-by (octet x) q ∙ ap (λ (a : Answer). record { answer = number a; state = over (sender_octets (next spelled).state) m }) (sym q) ∙ sym b,
      )

  -- the answer and the count are the same, and all is, if something is written
  abbrev SameWriting : WriteCall → WriteCall → Type 0
  SameWriting h k = (h.answer ≡ k.answer) × (h.written ≡ k.written) × ((k.written ≡ 0 → ⊥) → h ≡ k)

  same-writing : (line : List ℕ) → (length line ≡ 0 → ⊥) → (t : Filled) (b : Bool) → eqb t.filled 0 ≡ b
      → SameWriting (wrote m (seen (next spelled)).answer t) (write_in_octets m line spelled t)
  same-writing line room t true k =
      let z = eqb-true t.filled 0 k in
      rw (ne_eqb (length line) 0 room, k) (refl, sym z, λ some. absurd (some z))
  same-writing line room t false k = rw (ne_eqb (length line) 0 room, k) (refl, refl, λ some. refl)

  again-write : (x : ℕ) (line : List ℕ) → SameWriting (write_call m low_area high_area (x ∷ line)) (write_call (over (sender_octets (sender_in m)) m) low_area high_area (x ∷ line))
  again-write x line =
      let room : length (x ∷ line) ≡ 0 → ⊥ = λ z. omega (arith, z) in
      let t : Filled = onto (x ∷ line) (write_on (length (x ∷ line)) spelled) in
      let packed = write_call (over (sender_octets (sender_in m)) m) low_area high_area (x ∷ line) in
      subst (λ (h : WriteCall). SameWriting h packed) (sym (a-writer m low_area high_area s (x ∷ line) room))
      (subst (SameWriting (wrote m (seen (next spelled)).answer t)) (sym (write-packed (sender_in m) m low_area high_area (x ∷ line))) (same-writing (x ∷ line) room t _ refl))

marks-length : (m : List ℕ) → length (plain_sender_in m).marks ≡ 32
unfolding plain_sender_in
marks-length m = from-length m 4 32

again-plain : (m : List ℕ) → spell_plain_sender m ≡ true → (p area : List ℕ) → plain_send_call m p area ≡ plain_send_call (over (plain_sender_octets (plain_sender_in m)) m) p area
again-plain m s p area = a-plain-sender m p area s ∙ sym (plain-packed (plain_sender_in m) m p area (marks-length m))

pub as-packed-again : AsPackedAgain
as-packed-again =
    record {
      receive = again-receive;
      read = again-read;
      load = again-load;
      next = again-next;
      write = again-write;
      plain_send = again-plain;
    }

pub no-call-made : NoCallMade
no-call-made =
    record { read = λ m first second. reads_nothing m first second [] refl; write = λ m low_area high_area. writes_nothing_lem m low_area high_area [] refl }

-- ---- refused, on any octets

module _ (n : ℕ) (few : n < 5) where
  small : n < 0x10000
  small = omega arith

  refused-receive : (m : List ℕ) (x : ℕ) (first second : List ℕ) → (receive_call m x first second).answer ≡ number (refused n)
      → receive_call m x first second ≡ record { answer = number (refused n); state = m; first = first; second = second }
  refused-receive m x first second q =
      decide (spell_receiver m)
      (λ s.
      let e : ReceiverEnd = record { state = receiver_in m; first = first; second = second } in
      let a = a-receiver m first second s x in
      let r = small-refused n small (receive e x).report (reports-have-numbers e x) (sym (ap (λ (h : ReceiveCall). h.answer) a) ∙ q) in
      a ∙ rw (r, refused-changes-nothing.receive e x n few r, lt-leb 5 n few))
      (λ s.
      let a = no-receiver m first second s x in
      a ∙ ap (λ (k : ℕ). record { answer = k; state = m; first = first; second = second }) (sym (ap (λ (h : ReceiveCall). h.answer) a) ∙ q))

  refused-read : (m xs first second : List ℕ) → (read_call m xs first second).answer ≡ number (refused n)
      → read_call m xs first second ≡ record { answer = number (refused n); used = 1; state = m; first = first; second = second }
  refused-read m [] first second q = absurd (let z = sym (ap (λ (h : ReadCall). h.answer) (reads_nothing m first second [] refl)) ∙ q in omega (arith, z))
  refused-read m (x ∷ xs) first second q =
      let some : length (x ∷ xs) ≡ 0 → ⊥ = λ z. omega (arith, z) in
      decide (spell_receiver m)
      (λ s.
      let e : ReceiverEnd = record { state = receiver_in m; first = first; second = second } in
      let a = a-reader m first second s (x ∷ xs) some in
      let r = small-refused n small (read_on e (x ∷ xs)).report (read-value e (x ∷ xs)) (sym (ap (λ (h : ReadCall). h.answer) a) ∙ q) in
      a ∙ rw (read-refused e (x ∷ xs) n few r, lt-leb 5 n few))
      (λ s.
      let a = no_reader m first second s (x ∷ xs) some in
      a ∙ ap (λ (k : ℕ). record { answer = k; used = 1; state = m; first = first; second = second }) (sym (ap (λ (h : ReadCall). h.answer) a) ∙ q))

  refused-load : (l : Lane) (m p area : List ℕ) → (load_call l m p area).answer ≡ number (refused n) → load_call l m p area ≡ record { answer = number (refused n); state = m; area = area }
  refused-load l m p area q =
      decide (spell_sender m)
      (λ s.
      let a = a-loader l m p area s in
      let r =
      load-answers (λ (k : Answer). number k ≡ number (refused n) → k ≡ refused n) (λ z. absurd (omega (arith, z))) (λ k z. let y : k ≡ n = omega (arith, z) in rw y)
      l p (sender_in m) area (sym (ap (λ (h : LoadCall). h.answer) a) ∙ q) in
      let c = refused-changes-nothing.load l p (sender_in m) area n r in
      a ∙ rw (r, c.1))
      (λ s.
      let a = no-loader l m p area s in
      a ∙ ap (λ (k : ℕ). record { answer = k; state = m; area = area }) (sym (ap (λ (h : LoadCall). h.answer) a) ∙ q))

  -- a plain send, by its answer
  refused-sent : (h : PlainSent) (area : List ℕ) → ((k : SendError) → h.answer ≡ Err k → h.area ≡ area) → sent_number h.answer ≡ number (refused n)
      → plain_sent h ≡ record { answer = number (refused n); area = area }
  refused-sent h area same q = by h.answer refl
    where
      by : (a : Sent) → h.answer ≡ a → plain_sent h ≡ record { answer = number (refused n); area = area }
      by (Ok k) e = absurd (let z : sent_number (Ok k) ≡ number (refused n) = ap sent_number (sym e) ∙ q in omega (arith, z))
      by (Err k) e = rw (q, same k e)

  refused-plain : (m p area : List ℕ) → (plain_send_call m p area).answer ≡ number (refused n) → plain_send_call m p area ≡ record { answer = number (refused n); area = area }
  refused-plain m p area q =
      decide (spell_plain_sender m)
      (λ s.
      let a = a-plain-sender m p area s in
      a ∙ refused-sent (plain_send (plain_sender_in m) p area) area (plain-sends.refused (plain_sender_in m) p area) (sym (ap (λ (h : PlainCall). h.answer) a) ∙ q))
      (λ s.
      let a = not-plain-sender m p area s in
      a ∙ ap (λ (k : ℕ). record { answer = k; area = area }) (sym (ap (λ (h : PlainCall). h.answer) a) ∙ q))

-- ---- no octet, no change

-- a refused call of next octet sends none
refused-octet : (n x : ℕ) → n < 5 → number (octet x) ≡ number (refused n) → ⊥
refused-octet n x few z = omega (arith, z)

-- a call of next octet that changes the state answers an octet
out-octet : (o : Out) → changes (out_answer o) ≡ true → (x : ℕ) × (out_answer o ≡ octet x)
out-octet (closes l) k = (_, refl)
out-octet breaks_off k = (_, refl)
out-octet (sends l x) k = (x, refl)
out-octet sends_nothing k = false-true k
out-octet (refuses n) k = false-true k

refused-next : (m low_area high_area : List ℕ) (n : ℕ) → n < 5 → (next_call m low_area high_area).answer ≡ number (refused n) → (next_call m low_area high_area).state ≡ m
refused-next m low_area high_area n few z =
    decide (spell_sender m)
    (λ s.
    let e : SenderEnd = record { state = sender_in m; low = low_area; high = high_area } in
    let a = a-sender m low_area high_area s in
    ap (λ (h : NextCall). h.state) a
    ∙ branch (λ (l : List ℕ). l ≡ m) (changes (out_answer (next e).out))
    (λ k. let o = out-octet (next e).out k in absurd (refused-octet n o.0 few (sym (ap (λ (h : NextCall). h.answer) a ∙ ap number o.1) ∙ z)))
    (λ _. refl))
    (λ s. ap (λ (h : NextCall). h.state) (no-sender m low_area high_area s))

-- a line of which nothing is written
empty : (l : List ℕ) → length l ≡ 0 → l ≡ []
empty [] z = refl
empty (x ∷ xs) z = absurd (omega (arith, z))

nothing-on : (line : List ℕ) (w : Wrote) → length w.octets ≡ 0 → (onto line w).line ≡ line
nothing-on line w z = rw (empty w.octets z)

none-write : (m low_area high_area line : List ℕ) → (write_call m low_area high_area line).written ≡ 0
    → write_call m low_area high_area line ≡ record { answer = (write_call m low_area high_area line).answer; written = 0; state = m; line = line }
none-write m low_area high_area [] z = let a = writes_nothing_lem m low_area high_area [] refl in rw a
none-write m low_area high_area (x ∷ xs) z =
    let room : length (x ∷ xs) ≡ 0 → ⊥ = λ k. omega (arith, k) in
    let e : SenderEnd = record { state = sender_in m; low = low_area; high = high_area } in
    let w = write_on (length (x ∷ xs)) e in
    let t : Filled = onto (x ∷ xs) w in
    decide (spell_sender m)
    (λ s.
    let a = a-writer m low_area high_area s (x ∷ xs) room in
    branch (λ (h : WriteCall). write_call m low_area high_area (x ∷ xs) ≡ h → h.written ≡ 0 → write_call m low_area high_area (x ∷ xs) ≡ record { answer = (write_call m low_area high_area (x ∷ xs)).answer; written = 0; state = m; line = x ∷ xs })
    (eqb t.filled 0)
    (λ k b _. b ∙ ap (λ (l : List ℕ). record { answer = number (seen (next e)).answer; written = 0; state = m; line = l }) (nothing-on (x ∷ xs) w (eqb-true t.filled 0 k))
    ∙ ap (λ (i : ℕ). record { answer = i; written = 0; state = m; line = x ∷ xs }) (sym (ap (λ (h : WriteCall). h.answer) b)))
    (λ k b y. absurd (eqb-false t.filled 0 k y))
    a
    (sym (ap (λ (h : WriteCall). h.written) a) ∙ z))
    (λ s. let a = no-writer m low_area high_area s (x ∷ xs) room in rw a)

pub no-octet-no-change : NoOctetNoChange
no-octet-no-change =
    record {
      idle = λ m low_area high_area s q. next-by m s low_area high_area idle q;
      refused = λ m low_area high_area s n q. next-by m s low_area high_area (refused n) q;
      write = λ m low_area high_area line z. let w = none-write m low_area high_area line z in (ap (λ (h : WriteCall). h.state) w, ap (λ (h : WriteCall). h.line) w);
    }

-- a refused writing writes none
written_none : (m low_area high_area line : List ℕ) (n : ℕ) → n < 5 → (write_call m low_area high_area line).answer ≡ number (refused n) → (write_call m low_area high_area line).written ≡ 0
written_none m low_area high_area [] n few q = ap (λ (h : WriteCall). h.written) (writes_nothing_lem m low_area high_area [] refl)
written_none m low_area high_area (x ∷ xs) n few q =
    let room : length (x ∷ xs) ≡ 0 → ⊥ = λ k. omega (arith, k) in
    let e : SenderEnd = record { state = sender_in m; low = low_area; high = high_area } in
    let t : Filled = onto (x ∷ xs) (write_on (length (x ∷ xs)) e) in
    decide (spell_sender m)
    (λ s.
    let a = a-writer m low_area high_area s (x ∷ xs) room in
    ap (λ (h : WriteCall). h.written) a
    ∙ branch (λ (h : WriteCall). h.answer ≡ number (refused n) → h.written ≡ 0) (eqb t.filled 0) (λ _ _. refl) (λ _ z. absurd (refused-octet n _ few z))
    (sym (ap (λ (h : WriteCall). h.answer) a) ∙ q))
    (λ s. ap (λ (h : WriteCall). h.written) (no-writer m low_area high_area s (x ∷ xs) room))

pub refused-leaves-all : RefusedLeavesAll
refused-leaves-all =
    record {
      receive = λ m x first second n few. refused-receive n few m x first second;
      read = λ m xs first second n few. refused-read n few m xs first second;
      load = λ l m p area n few. refused-load n few l m p area;
      next = refused-next;
      write = λ m low_area high_area line n few q.
          none-write m low_area high_area line (written_none m low_area high_area line n few q)
          ∙ ap (λ (i : ℕ). record { answer = i; written = 0; state = m; line = line }) q;
      plain_send = λ m p area n few. refused-plain n few m p area;
    }

-- ---- no state

-- the refusal of a state out of bounds
abbrev refusal : Settings → Bool → Answer
refusal t short = if not (valid (agreed t)) then refused 3 else if short then refused 2 else refused 3

number-refusal : (t : Settings) (short : Bool) → no_state t short ≡ number (refusal t short)
number-refusal t short = by (not (valid (agreed t))) short
  where
    by : (wrong short : Bool) → (if wrong then number (refused 3) else if short then number (refused 2) else number (refused 3))
        ≡ number (if wrong then refused 3 else if short then refused 2 else refused 3)
    by true short = refl
    by false true = refl
    by false false = refl

-- it is a refusal
by-refusal : (P : Answer → Type 0) → ((n : ℕ) → P (refused n)) → (t : Settings) (short : Bool) → P (refusal t short)
by-refusal P r t short = branch P (not (valid (agreed t))) (λ _. r 3) (λ _. branch P short (λ _. r 2) (λ _. r 3))

module _ (e : ReceiverEnd) (b : receiver.in_bounds (agreed e.state.settings) e.state ≡ false) where
  abbrev short_areas : Bool
  short_areas = short_for_receiver e.state.settings e.first e.second

  out-receive : (x : ℕ) → receive e x ≡ record { report = refusal e.state.settings short_areas; after = e }
  out-receive x =
      decide (valid (agreed e.state.settings))
      (λ v. decide short_areas (λ k. too_short e x v k ∙ rw (v, k)) (λ k. out-of-bounds e x v k b ∙ rw (v, k)))
      (λ v. not_valid e x v ∙ rw v)

  out-read : (x : ℕ) (xs : List ℕ) → read_on e (x ∷ xs) ≡ record { report = refusal e.state.settings short_areas; after = e; used = 1 }
  out-read x xs =
      at-report e x xs _ (sym (out-receive x)) (by-refusal (λ (a : Answer). is_quiet a ≡ false) (λ _. refl) e.state.settings short_areas)

module _ (e : SenderEnd) (b : sender.in_bounds (agreed e.state.settings) e.state ≡ false) where
  abbrev short_in : Bool
  short_in = short_for_sender e.state.settings e.low || short_for_sender e.state.settings e.high

  out-next : (seen (next e)).answer ≡ refusal e.state.settings short_in
  out-next =
      decide (valid (agreed e.state.settings))
      (λ v. decide short_in (λ k. rw (next-short e v k, v, k)) (λ k. rw (next-out-of-bounds e v k b, v, k)))
      (λ v. rw (next-invalid e v, v))

  out-write : (n : ℕ) → write_on n e ≡ writes_nothing e.state
  out-write n =
      no-octet n e (λ x q.
      by-refusal (λ (a : Answer). a ≡ octet x → ⊥) (λ i r. let z : ◌≡◌ {A = ℕ} 0 1 = cc in omega arith) e.state.settings short_in (sym out-next ∙ q))

out-load : (s : Sender) → sender.in_bounds (agreed s.settings) s ≡ false → (l : Lane) (p area : List ℕ)
    → (load l p s area).answer ≡ refusal s.settings (short_for_sender s.settings area)
out-load s b l p area =
    decide (valid (agreed s.settings))
    (λ v. decide (short_for_sender s.settings area) (λ k. rw (load-short l p s area v k, v, k)) (λ k. rw (load-out-of-bounds l p s area v k b, v, k)))
    (λ v. rw (load-invalid l p s area v, v))

-- octets have the same answer as a state of their settings, by the areas that are too short for these
module _ (m : List ℕ) (t : Settings) (same : t ≡ settings_in m) (short : Settings → Bool) where
  answer-is : no_state (settings_in m) (short (settings_in m)) ≡ number (refusal t (short t))
  answer-is = ap (λ (u : Settings). no_state u (short u)) (sym same) ∙ number-refusal t (short t)

no_read : (m : List ℕ) → spell_receiver m ≡ false → (e : ReceiverEnd) → e.state.settings ≡ settings_in m
    → receiver.in_bounds (agreed e.state.settings) e.state ≡ false → (xs : List ℕ)
    → ((read_call m xs e.first e.second).answer ≡ number (read_on e xs).report) × ((read_call m xs e.first e.second).used ≡ (read_on e xs).used)
no_read m n e same b [] = rw (reads_nothing m e.first e.second [] refl, reads_none e) (refl, refl)
no_read m n e same b (x ∷ xs) =
    let c = no_reader m e.first e.second n (x ∷ xs) (λ z. omega (arith, z)) in
    let r = out-read e b x xs in (
      ap (λ (h : ReadCall). h.answer) c
          ∙ answer-is m e.state.settings same (λ t. short_for_receiver t e.first e.second)
          ∙ sym (ap (λ (h : Reach). number h.report) r),
      ap (λ (h : ReadCall). h.used) c ∙ sym (ap (λ (h : Reach). h.used) r),
    )

no-next : (m : List ℕ) (e : SenderEnd) → e.state.settings ≡ settings_in m → sender.in_bounds (agreed e.state.settings) e.state ≡ false
    → no_state (settings_in m) (short_for_sender (settings_in m) e.low || short_for_sender (settings_in m) e.high) ≡ number (seen (next e)).answer
no-next m e same b =
    answer-is m e.state.settings same (λ t. short_for_sender t e.low || short_for_sender t e.high) ∙ ap number (sym (out-next e b))

no_write : (m : List ℕ) → spell_sender m ≡ false → (e : SenderEnd) → e.state.settings ≡ settings_in m
    → sender.in_bounds (agreed e.state.settings) e.state ≡ false → (line : List ℕ)
    → ((write_call m e.low e.high line).answer ≡ number (last_answer line e (onto line (write_on (length line) e))))
    × ((write_call m e.low e.high line).written ≡ 0)
no_write m n e same b [] = rw (writes_nothing_lem m e.low e.high [] refl) (refl, refl)
no_write m n e same b (x ∷ xs) =
    let room : length (x ∷ xs) ≡ 0 → ⊥ = λ z. omega (arith, z) in
    let c = no-writer m e.low e.high n (x ∷ xs) room in
    rw (out-write e b (length (x ∷ xs)), ne_eqb _ _ room)
    (ap (λ (h : WriteCall). h.answer) c ∙ no-next m e same b, ap (λ (h : WriteCall). h.written) c)

-- the answer of a plain sender whose map is out of bounds
out-plain : (s : PlainSender) → marks_ok s.marks ≡ false → (p area : List ℕ) → sent_number (plain_send s p area).answer ≡ no_plain_sender s p (length area)
out-plain s b p area =
    decide (valid (plain_agreed s))
    (λ v. decide (ltb (length area) (length (plain_line s p)))
    (λ k. rw (plain-sends.exactly s p area v (ltb-true _ _ k), v, k))
    (λ k. rw (plain-sends.map s p area v (ltb-false _ _ k) b, v, k)))
    (λ v. rw (plain-sends.settings s p area v, v))

-- it hangs on the map by the length of what would be written
same-plain : (s t : PlainSender) (p area : List ℕ) → s.width ≡ t.width → s.limit ≡ t.limit → length (plain_line s p) ≡ length (plain_line t p)
    → no_plain_sender s p (length area) ≡ no_plain_sender t p (length area)
same-plain s t p area w l n = rw (n, w, l)

no_plain : (m : List ℕ) → spell_plain_sender m ≡ false → (s : PlainSender) → s.width ≡ (plain_sender_in m).width → s.limit ≡ (plain_sender_in m).limit
    → marks_ok s.marks ≡ false → (p area : List ℕ) → length (plain_line s p) ≡ length (plain_line (plain_sender_in m) p)
    → (plain_send_call m p area).answer ≡ sent_number (plain_send s p area).answer
no_plain m k s w l b p area n =
    ap (λ (h : PlainCall). h.answer) (not-plain-sender m p area k)
    ∙ (sym (same-plain s (plain_sender_in m) p area w l n) ∙ sym (out-plain s b p area))

pub no-state-is-out-of-bounds : NoStateIsOutOfBounds
no-state-is-out-of-bounds =
    record {
      receive = λ m n e same b x.
          ap (λ (h : ReceiveCall). h.answer) (no-receiver m e.first e.second n x)
          ∙ answer-is m e.state.settings same (λ t. short_for_receiver t e.first e.second)
          ∙ sym (ap (λ (h : Receive). number h.report) (out-receive e b x));
      read = no_read;
      load = λ m n s same b l p area.
          ap (λ (h : LoadCall). h.answer) (no-loader l m p area n)
          ∙ answer-is m s.settings same (λ t. short_for_sender t area)
          ∙ ap number (sym (out-load s b l p area));
      next = λ m n e same b. ap (λ (h : NextCall). h.answer) (no-sender m e.low e.high n) ∙ no-next m e same b;
      write = no_write;
      plain_send = no_plain;
    }

-- ---- the rest stays

rest : (n : ℕ) (octets m : List ℕ) → length octets ≡ n → drop n (over octets m) ≡ drop n m
rest n octets m e = rw (sym e) (drop-append_seam octets (drop (length octets) m))

module _ (m : List ℕ) where
  receiver-rest : (r : Receiver) → drop 26 (over (receiver_octets r) m) ≡ drop 26 m
  receiver-rest r = rest 26 (receiver_octets r) m (receiver-length r)

  after-rest : (a : Answer) (r : Receiver) → drop 26 (receiver_after m a r) ≡ drop 26 m
  after-rest a r = branch (λ (l : List ℕ). drop 26 l ≡ drop 26 m) (taken a) (λ _. receiver-rest r) (λ _. refl)

  sender-rest : (s : Sender) → drop 38 (over (sender_octets s) m) ≡ drop 38 m
  sender-rest s = rest 38 (sender_octets s) m (sender-length s)

  sent-rest : (a : Answer) (s : Sender) → drop 38 (sender_after m a s) ≡ drop 38 m
  sent-rest a s = branch (λ (l : List ℕ). drop 38 l ≡ drop 38 m) (changes a) (λ _. sender-rest s) (λ _. refl)

receive-rest : (m : List ℕ) (x : ℕ) (first second : List ℕ) → drop 26 (receive_call m x first second).state ≡ drop 26 m
receive-rest m x first second =
    let h = receive (record { state = receiver_in m; first = first; second = second }) x in
    decide (spell_receiver m) (λ s. rw (a-receiver m first second s x) (after-rest m h.report h.after.state)) (λ n. rw (no-receiver m first second n x))

read-rest : (m xs first second : List ℕ) → drop 26 (read_call m xs first second).state ≡ drop 26 m
read-rest m [] first second = rw (reads_nothing m first second [] refl)
read-rest m (x ∷ xs) first second =
    let some : length (x ∷ xs) ≡ 0 → ⊥ = λ z. omega (arith, z) in
    let h = read_on (record { state = receiver_in m; first = first; second = second }) (x ∷ xs) in
    decide (spell_receiver m) (λ s. rw (a-reader m first second s (x ∷ xs) some) (after-rest m h.report h.after.state))
    (λ n. rw (no_reader m first second n (x ∷ xs) some))

load-rest : (l : Lane) (m p area : List ℕ) → drop 38 (load_call l m p area).state ≡ drop 38 m
load-rest l m p area =
    let h = load l p (sender_in m) area in
    decide (spell_sender m) (λ s. rw (a-loader l m p area s) (sent-rest m h.answer h.state)) (λ n. rw (no-loader l m p area n))

module _ (m low_area high_area : List ℕ) where
  abbrev spelled-end : SenderEnd
  spelled-end = record { state = sender_in m; low = low_area; high = high_area }

  next-rest : drop 38 (next_call m low_area high_area).state ≡ drop 38 m
  next-rest =
      let h = seen (next spelled-end) in
      decide (spell_sender m) (λ s. ap (λ (k : NextCall). drop 38 k.state) (a-sender m low_area high_area s) ∙ sent-rest m h.answer h.state)
      (λ n. rw (no-sender m low_area high_area n))

  wrote-rest : (a : Answer) (t : Filled) → drop 38 (wrote m a t).state ≡ drop 38 m
  wrote-rest a t = decide (eqb t.filled 0) (λ k. rw k) (λ k. rw k (sender-rest m t.state))

  write-rest : (line : List ℕ) → drop 38 (write_call m low_area high_area line).state ≡ drop 38 m
  write-rest [] = rw (writes_nothing_lem m low_area high_area [] refl)
  write-rest (x ∷ xs) =
      let room : length (x ∷ xs) ≡ 0 → ⊥ = λ z. omega (arith, z) in
      decide (spell_sender m)
      (λ s.
      ap (λ (k : WriteCall). drop 38 k.state) (a-writer m low_area high_area s (x ∷ xs) room)
      ∙ wrote-rest (seen (next spelled-end)).answer (onto (x ∷ xs) (write_on (length (x ∷ xs)) spelled-end)))
      (λ n. rw (no-writer m low_area high_area n (x ∷ xs) room))

-- an opening, by its answer
module _ (m : List ℕ) where
  receiver-opened-rest : (o : Result Receiver OpenError) → drop 26 (receiver_opened m o).state ≡ drop 26 m
  receiver-opened-rest (Ok r) = receiver-rest m r
  receiver-opened-rest (Err e) = refl

  sender-opened-rest : (o : Result Sender OpenError) → drop 38 (sender_opened m o).state ≡ drop 38 m
  sender-opened-rest (Ok s) = sender-rest m s
  sender-opened-rest (Err e) = refl

  pair-opened-rest : (o : List ℕ) (s : PlainSender) → length s.marks ≡ 32 → (a : Result Receiver PairError)
      → (drop 36 (pair_opened m o s a).sender ≡ drop 36 m) × (drop 26 (pair_opened m o s a).receiver ≡ drop 26 o)
  unfolding plain_sender_octets
  pair-opened-rest o s full (Ok r) = (rest 36 (plain_sender_octets s) m (omega (arith, full)), receiver-rest o r)
  pair-opened-rest o s full (Err e) = (refl, refl)

-- what a plain send makes of octets whose rest is other
plain-rest : (m n p area : List ℕ) → plain_sender_part n ≡ plain_sender_part m → plain_send_call n p area ≡ plain_send_call m p area
unfolding plain_send_call
plain-rest m n p area e = let same = looks-nowhere-else.plain_sender m n e in rw (same.0, same.1)

pub rest-stays : RestStays
unfolding open_receiver open_sender open_pair
rest-stays =
    record {
      open_receiver = λ m settings reading. receiver-opened-rest m (receiver.open_receiver settings reading);
      receive = receive-rest;
      read = read-rest;
      open_sender = λ m settings. sender-opened-rest m (sender.open_sender settings);
      load = load-rest;
      next = next-rest;
      write = write-rest;
      open_pair = λ m o settings map marks full.
          pair-opened-rest m o (plain.opened_plain_sender settings marks) (framing-length marks ∙ full) (plain.open_pair settings map marks).receiver;
      plain_send = plain-rest;
    }
