-- The plain sender, the pair, and that its frames come through.
use mathlib.Core.Path.{◌≡◌, refl, sym, ap, ap₂, ◌∙◌}
use mathlib.Core.Bool.{Bool, true, false, cond, not, ◌||◌, or-true}
use mathlib.Core.List.{List, [], ◌∷◌, ◌++◌, map, flat_map, append_assoc, Memᴰ}
use mathlib.Core.Logic.{◌⊎◌, ⊎_elim}
use Prim.Native.Nat.{ℕ, ◌+◌, ◌-◌, ◌≤◌, ◌<◌}
use native.Mathlib.Omega.{arith}
use borrow.Author.Tests.{lt-ltb, le-ltb, ne_eqb}
use lib.Dec.{ltb, eqb}
use lib.ListN.{length, take, replicate, length-append}
use lib.Seq.{take-append_seam}
use Rattle.std.specs.Prelude.{Some, Result, Ok, Err}
use Rattle.fcs.specs.CheckSequence.{Check, fcs}
use Rattle.fcs.proofs.Laws.{good-frame}
use Rattle.cobs.specs.CodeBlocks.{flag, frame}
use Rattle.cobs.proofs.Tests.{branch, decide}
use Rattle.plain.specs.Maps.{removed, marked, refused_pair, marks_ok}
use Rattle.plain.specs.Stuffing.{stuffed}
use Rattle.plain.specs.ReadBack.{Unstuffed, unstuffed, ReadsBack, kept}
use Rattle.plain.proofs.Laws.{line-is, stuffed-cons, unmarked-octet, pair-lacks, pair-wrongly, framing-lacks, framing-ok, not-removed, taken-plainly, taken-removed, unstuffed-nil, kept-nil, kept-removed, kept-other}
use Rattle.plain.proofs.ReadBack.{sent-reads-back, removed-leave-no-trace}
use Rattle.link.specs.Agreed.{Settings, limit_refused, width_refused, Agreed, agreed, least_packet, valid_width, valid_limit, valid, least_frame, largest_frame}
use Rattle.link.specs.Answers.{quiet, is_quiet}
use Rattle.link.specs.Receiver.{cobs, plain, opened_receiver, Receiver, ReceiverEnd, Receive, Working, no_block, is_plain, is_escaped, in_frame, with_mode, with_decoded, write, plain_data, plain_octet, plain_taken, work, quietly, receive}
use Rattle.link.specs.ReceiverParts.{ReceiverReady}
use Rattle.link.specs.PlainSender.{PairError, SendError, wrong_length, no_room, out_of_bounds, PlainSent, PlainSender, plain_agreed, plain_line, send_with, plain_send, open_pair}
use Rattle.link.specs.Runs.{receives, received, not_quiet}
use Rattle.link.specs.Demands.{ReportAndPacket, report_and_packet, cleared, OutOfCobsFrame}
use Rattle.link.specs.PlainReading.{AllowedLength, PlainSends, PairOpens, quiet_answer, told, frame_report, is_empty, OutOfPlainFrame, FrameIsReported, RemovedOctets, answers_to, ComeThrough, AllAllowedLengths, OfPair, PlainFrames}
use Rattle.link.proofs.Tests.{if-so, if-not, true-false}
use Rattle.link.proofs.Agreed.{valid-width, valid-limit, limit-at-least, sound-check}
use Rattle.link.proofs.Cobs.{in-plain}
use Rattle.link.proofs.ReadOn.{put-back-same}
use Rattle.link.proofs.PlainCases.{plain-bounds, plain-in-bounds}
use Rattle.link.proofs.Whole.{passes}
use Rattle.link.proofs.Stays.{receive-settings, run-settings, mode-stays}
use Rattle.link.proofs.Follow.{frame-long}
use Rattle.link.proofs.PlainFrames.{frame-by-frame, mode-by}
use Rattle.link.proofs.Restart.{restart}

-- ---- the plain sender's call

not-both : {Q : Type 0} (n : ℕ) (e : SendError) → ◌≡◌ {A = Result ℕ SendError} (Ok n) (Err e) → Q
not-both n e q = cc

module _ (s : PlainSender) (p area : List ℕ) where
  abbrev g : Agreed
  g = plain_agreed s

  send-settings : valid g ≡ false → (plain_send s p area).answer ≡ Err out_of_bounds
  unfolding plain_send send_with
  send-settings v = rw v

  module _ (v : valid g ≡ true) where
    send-exactly : length area < length (plain_line s p) → (plain_send s p area).answer ≡ Err no_room
    unfolding plain_send send_with
    send-exactly h = rw (v, lt-ltb _ _ h)

    module _ (h : length (plain_line s p) ≤ length area) where
      send-map : marks_ok s.marks ≡ false → (plain_send s p area).answer ≡ Err out_of_bounds
      unfolding plain_send send_with
      send-map m = rw (v, le-ltb _ _ h, m)

      module _ (m : marks_ok s.marks ≡ true) where
        send-other : (length p < least_packet) ⊎ (g.limit < length p) → (plain_send s p area).answer ≡ Err wrong_length
        unfolding plain_send send_with agreed
        send-other k = rw (v, le-ltb _ _ h, m) (ap (λ (t : PlainSent). t.answer) (if-so _ _ _ (short-or-long k)))
          where
            short-or-long : (length p < least_packet) ⊎ (g.limit < length p) → (ltb (length p) least_packet || ltb g.limit (length p)) ≡ true
            short-or-long = ⊎_elim (λ l. rw (lt-ltb _ _ l)) (λ l. rw (lt-ltb _ _ l) (or-true (ltb (length p) least_packet)))

        send-writes : AllowedLength g p → plain_send s p area ≡ record { answer = Ok (length (plain_line s p)); area = write area 0 (plain_line s p) }
        unfolding plain_send send_with agreed
        send-writes a = rw (v, le-ltb _ _ h, m, le-ltb _ _ a.least, le-ltb _ _ a.most)

  send-refused : (e : SendError) → (plain_send s p area).answer ≡ Err e → (plain_send s p area).area ≡ area
  unfolding plain_send send_with
  send-refused e =
      let P : PlainSent → Type 0 = λ t. t.answer ≡ Err e → t.area ≡ area in
      branch P (not (valid g)) (λ _ _. refl)
      (λ _. branch P (ltb (length area) (length (plain_line s p))) (λ _ _. refl)
      (λ _. branch P (not (marks_ok s.marks)) (λ _ _. refl)
      (λ _. branch P (ltb (length p) least_packet || ltb s.limit (length p)) (λ _ _. refl)
      (λ _ q. not-both _ e q))))

pub plain-sends : PlainSends
plain-sends =
    record {
      numbers = (refl, refl, refl);
      settings = send-settings;
      exactly = send-exactly;
      map = send-map;
      other = send-other;
      writes = send-writes;
      refused = send-refused;
    }

-- ---- the pair

pub pair-opens : PairOpens
pair-opens =
    record {
      numbers = (refl, refl, refl);
      as_opening = elim [ limit_refused ↦ refl | width_refused ↦ refl ];
      limit = λ t map marks n. rw n;
      width = λ t map marks l w. rw (l, w);
      maps = λ t map marks v r. rw (valid-limit (agreed t) v, valid-width (agreed t) v, r);
      opens = λ t map marks v r. rw (valid-limit (agreed t) v, valid-width (agreed t) v, r);
      pair_sender = λ t map marks. refl;
      sender = λ t map marks long r. framing-ok marks (omega arith) (pair-wrongly map marks r);
    }

-- ---- octets of the receiving map

removed-call : (e : ReceiverEnd) → ReceiverReady e → is_plain e.state.mode ≡ true → (x : ℕ) → removed e.state.map x ≡ true → receive e x ≡ record { report = quiet; after = e }
unfolding plain_octet plain_taken
removed-call e a p x r =
    let other : x ≡ flag → ⊥ = λ q. true-false (sym r ∙ (ap (removed e.state.map) q ∙ not-removed e.state.map flag (omega arith))) in
    let same : plain_octet (agreed e.state.settings) (work e) x ≡ work e =
    branch (λ (w : Working). w ≡ work e) (not (eqb e.state.refusal 0)) (λ _. refl)
    (λ _. ap (plain_taken (agreed e.state.settings) (work e)) (taken-removed e.state.map (is_escaped e.state.mode) x r)) in
    in-plain e x a p
    ∙ (if-not _ _ _ (ne_eqb x flag other) ∙ (ap (quietly e) same ∙ ap (λ (d : ReceiverEnd). record { report = quiet; after = d }) (put-back-same e)))

pub removed-octets : RemovedOctets
unfolding receives received not_quiet
removed-octets e a p [] =
    let none = sym (kept-nil e.state.map) in
    record { reports = ap (λ (l : List ℕ). not_quiet (receives e l)) none; after = ap (received e) none }
removed-octets e a p (x ∷ xs) =
    let m = e.state.map in
    let f = (receive e x).after in
    decide (removed m x)
    (λ r.
    let k = removed-octets e a p xs in
    let c = removed-call e a p x r in
    let less = sym (kept-removed m x xs r) in
    record {
      reports = ap (λ (h : Receive). not_quiet (h ∷ receives h.after xs)) c ∙ (k.reports ∙ ap (λ (l : List ℕ). not_quiet (receives e l)) less);
      after = ap (λ (h : Receive). received h.after xs) c ∙ (k.after ∙ ap (received e) less);
    })
    (λ r.
    let k = removed-octets f (passes e x a).ready (mode-stays.plain e x p) xs in
    let same : kept f.state.map xs ≡ kept m xs = ap (λ (i : ℕ). kept i xs) (mode-stays.map e x) in
    let rest : not_quiet (receives f xs) ≡ not_quiet (receives f (kept m xs)) = k.reports ∙ ap (λ (l : List ℕ). not_quiet (receives f l)) same in
    let more = sym (kept-other m x xs r) in
    record {
      reports = ap (λ (hs : List Receive). cond (is_quiet (receive e x).report) hs (receive e x ∷ hs)) rest ∙ ap (λ (l : List ℕ). not_quiet (receives e l)) more;
      after = k.after ∙ (ap (received f) same ∙ ap (received e) more);
    })

-- ---- runs

run-ready : (xs : List ℕ) (e : ReceiverEnd) → ReceiverReady e → ReceiverReady (received e xs)
unfolding received
run-ready [] e a = a
run-ready (x ∷ xs) e a = run-ready xs (receive e x).after (passes e x a).ready

run-plain : (xs : List ℕ) (e : ReceiverEnd) → is_plain e.state.mode ≡ true → is_plain (received e xs).state.mode ≡ true
unfolding received
run-plain [] e p = p
run-plain (x ∷ xs) e p = run-plain xs (receive e x).after (mode-stays.plain e x p)

run-map : (xs : List ℕ) (e : ReceiverEnd) → (received e xs).state.map ≡ e.state.map
unfolding received
run-map [] e = refl
run-map (x ∷ xs) e = run-map xs (receive e x).after ∙ mode-stays.map e x

-- behind a flag
behind : (e : ReceiverEnd) → ReceiverReady e → is_plain e.state.mode ≡ true → OutOfPlainFrame (receive e flag).after
behind e a p = let k = passes e flag a in record { ready = k.ready; reads = mode-stays.plain e flag p; out = k.out refl }

-- ---- frames that the pair's sender writes

receives-append : (xs ys : List ℕ) (e : ReceiverEnd) → receives e (xs ++ ys) ≡ receives e xs ++ receives (received e xs) ys
unfolding receives received
receives-append [] ys e = refl
receives-append (x ∷ xs) ys e = ap (λ (hs : List Receive). receive e x ∷ hs) (receives-append xs ys (receive e x).after)

map-append : {A B : Type 0} (f : A → B) (xs ys : List A) → map f (xs ++ ys) ≡ map f xs ++ map f ys
map-append f [] ys = refl
map-append f (x ∷ xs) ys = ap (λ zs. f x ∷ zs) (map-append f xs ys)

-- a receiver of a pair's settings and map, and the pair's maps
module _ (t : Settings) (i : ℕ) (marks : List ℕ) (long : length marks ≡ 32) (pair : refused_pair i marks ≡ false) where
  abbrev s : PlainSender
  s = (open_pair t i marks).sender

  abbrev h : Agreed
  h = agreed t

  check-is : (plain_agreed s).check ≡ h.check
  unfolding agreed
  check-is = refl

  abbrev f : List ℕ → List ℕ
  f p = frame h.check p

  plain_line-is : (p : List ℕ) → plain_line s p ≡ stuffed s.marks (f p) ++ (flag ∷ [])
  plain_line-is p = line-is s.marks (frame (plain_agreed s).check p) ∙ ap (λ (k : Check). stuffed s.marks (frame k p) ++ (flag ∷ [])) check-is

  reads-back : (p : List ℕ) → ReadsBack i s.marks (f p)
  reads-back p = sent-reads-back i s.marks (f p) (framing-lacks i marks (pair-lacks i marks pair)) (framing-ok marks (omega arith) (pair-wrongly i marks pair))

  module _ (e : ReceiverEnd) (at : OutOfPlainFrame e) (settings-are : e.state.settings ≡ t) (map-is : e.state.map ≡ i) where
    -- one frame: its packet is told, and the state is as it was
    module _ (p : List ℕ) (a : AllowedLength h p) where
      abbrev xs : List ℕ
      xs = stuffed s.marks (f p)

      size : length (f p) ≡ length p + h.check.fcs_length
      size = frame-long h p

      by : FrameIsReported e xs
      by = frame-by-frame e at xs (reads-back p).no_flag

      back : unstuffed e.state.map false xs ≡ record { octets = f p; escaped = false }
      back = ap (λ (m : ℕ). unstuffed m false xs) map-is ∙ (reads-back p).same

      some-kept : is_empty (kept e.state.map xs) ≡ false
      some-kept =
          decide (is_empty (kept e.state.map xs))
          (λ q.
          let none : kept e.state.map xs ≡ [] = empty-is _ q in
          let same : unstuffed e.state.map false [] ≡ record { octets = f p; escaped = false } =
          ap (unstuffed e.state.map false) (sym none) ∙ (removed-leave-no-trace e.state.map false xs ∙ back) in
          let zero : length (f p) ≡ 0 = ap (λ (u : Unstuffed). length u.octets) (sym same ∙ unstuffed-nil e.state.map false) in
          absurd (omega (arith, size, a.least)))
          (λ q. q)
        where
          empty-is : (l : List ℕ) → is_empty l ≡ true → l ≡ []
          empty-is [] q = refl
          empty-is (x ∷ l) q = true-false (sym q)

      frame-told : (turn : Bool) → frame_report h turn (record { octets = f p; escaped = false }) ≡ told turn p
      frame-told turn =
          let few : length (f p) ≤ largest_frame h = omega (arith, size, a.most) in
          let enough : least_frame h ≤ length (f p) = omega (arith, size, a.least) in
          let front : length (f p) - h.check.fcs_length ≡ length p = omega (arith, size) in
          rw (le-ltb (largest_frame h) (length (f p)) few, le-ltb (length (f p)) (least_frame h) enough, good-frame h.check (sound-check t) p)
          (ap (told turn) (ap (λ (n : ℕ). take n (f p)) front ∙ take-append_seam p (fcs h.check p)))

      reported : report_and_packet (receive (received e xs) flag) ≡ told e.state.turn p
      reported =
          by.report
          ∙ (if-not (is_empty (kept e.state.map xs)) quiet_answer _ some-kept
          ∙ (ap₂ (λ (g : Agreed) (u : Unstuffed). frame_report g e.state.turn u) (ap agreed settings-are) back ∙ frame-told e.state.turn))

      abbrev after : ReceiverEnd
      after = (receive (received e xs) flag).after

      still : after.state ≡ e.state
      still = by.after

      goes_on : OutOfPlainFrame after
      goes_on =
          record {
            ready = (passes (received e xs) flag (run-ready xs e at.ready)).ready;
            reads = ap (λ (r : Receiver). is_plain r.mode) still ∙ at.reads;
            out = ap (λ (r : Receiver). r.framed) still ∙ at.out;
          }

      at_flag : (rest : List ℕ) → map report_and_packet (receives (received e xs) (flag ∷ rest)) ≡ told e.state.turn p ∷ map report_and_packet (receives after rest)
      unfolding receives
      at_flag rest = ap (λ (q : ReportAndPacket). q ∷ map report_and_packet (receives after rest)) reported

      first-told : (rest : List ℕ) → map report_and_packet (receives e (plain_line s p ++ rest)) ≡ answers_to s e.state.turn p ++ map report_and_packet (receives after rest)
      first-told rest =
          let n : length (plain_line s p) - 1 ≡ length xs = omega (arith, ap length (plain_line-is p), length-append xs (flag ∷ [])) in
          ap (λ (l : List ℕ). map report_and_packet (receives e l)) (ap (λ (l : List ℕ). l ++ rest) (plain_line-is p) ∙ append_assoc xs (flag ∷ []) rest)
          ∙ (ap (map report_and_packet) (receives-append xs (flag ∷ rest) e)
          ∙ (map-append report_and_packet (receives e xs) (receives (received e xs) (flag ∷ rest))
          ∙ (ap₂ (λ (a b : List ReportAndPacket). a ++ b) (by.octets ∙ ap (λ (m : ℕ). replicate m quiet_answer) (sym n)) (at_flag rest)
          ∙ sym (append_assoc (replicate (length (plain_line s p) - 1) quiet_answer) (told e.state.turn p ∷ []) (map report_and_packet (receives after rest))))))

  come-through : (ps : List (List ℕ)) (e : ReceiverEnd) → OutOfPlainFrame e → e.state.settings ≡ t → e.state.map ≡ i → AllAllowedLengths h ps → ComeThrough s e ps
  unfolding flat_map receives
  come-through [] e at k m a = refl
  come-through (p ∷ ps) e at k m a =
      let one = first-told e at k m p (a p (Memᴰ.head refl)) in
      let d = after e at k m p (a p (Memᴰ.head refl)) in
      let same = still e at k m p (a p (Memᴰ.head refl)) in
      let rest = come-through ps d (goes_on e at k m p (a p (Memᴰ.head refl))) (ap (λ (r : Receiver). r.settings) same ∙ k) (ap (λ (r : Receiver). r.map) same ∙ m)
      (λ q j. a q (Memᴰ.tail j)) in
      one (flat_map (plain_line s) ps)
      ∙ ap (λ (l : List ReportAndPacket). answers_to s e.state.turn p ++ l) (rest ∙ ap (λ (r : Receiver). flat_map (answers_to s r.turn) ps) same)

-- ---- the theorem

-- the maps of a pair that is opened
not-refused : (t : Settings) (i : ℕ) (marks : List ℕ) → (open_pair t i marks).receiver ≡ Ok (opened_receiver t (Some i)) → refused_pair i marks ≡ false
not-refused t i marks =
    branch (λ (o : Result Receiver PairError). o ≡ Ok (opened_receiver t (Some i)) → refused_pair i marks ≡ false) (not (valid_limit (agreed t))) (λ _ q. absurd (let z : ◌≡◌ {A = ℕ} 0 1 = cc in omega arith))
    (λ _. branch (λ (o : Result Receiver PairError). o ≡ Ok (opened_receiver t (Some i)) → refused_pair i marks ≡ false) (not (valid_width (agreed t))) (λ _ q. absurd (let z : ◌≡◌ {A = ℕ} 0 1 = cc in omega arith))
    (λ _. branch (λ (o : Result Receiver PairError). o ≡ Ok (opened_receiver t (Some i)) → refused_pair i marks ≡ false) (refused_pair i marks) (λ _ q. absurd (let z : ◌≡◌ {A = ℕ} 0 1 = cc in omega arith))
    (λ r _. r)))

frames-through : (t : Settings) (i : ℕ) (marks : List ℕ) (e : ReceiverEnd) → OfPair t i marks e → is_plain e.state.mode ≡ true
    → (ps : List (List ℕ)) → AllAllowedLengths (agreed t) ps → ComeThrough (open_pair t i marks).sender (receive e flag).after ps
frames-through t i marks e o p ps a =
    come-through t i marks o.octets (not-refused t i marks o.opens) ps (receive e flag).after (behind e o.ready p)
    (receive-settings e flag ∙ o.settings) (mode-stays.map e flag ∙ o.map) a

of-run : (t : Settings) (i : ℕ) (marks xs : List ℕ) (e : ReceiverEnd) → OfPair t i marks e → OfPair t i marks (received e xs)
of-run t i marks xs e o =
    record {
      octets = o.octets;
      opens = o.opens;
      ready = run-ready xs e o.ready;
      settings = run-settings xs e ∙ o.settings;
      map = run-map xs e ∙ o.map;
    }

-- ---- where plain reading begins

-- the receiver that reads plain PPP already, with nothing held
abbrev reading : ReceiverEnd → ReceiverEnd
reading e = record { state = with_mode plain (cleared e).state; first = e.first; second = e.second }

module _ (e : ReceiverEnd) (at : OutOfCobsFrame e) (on : e.state.mode ≡ cobs) where
  abbrev d : ReceiverEnd
  d = reading e

  abbrev k : Agreed
  k = agreed e.state.settings

  d-ready : ReceiverReady d
  d-ready =
      record {
        valid = at.ready.valid;
        first = at.ready.first;
        second = at.ready.second;
        bounds =
            plain-in-bounds k d.state
            (record {
              deep = omega arith;
              holds = tt;
              refusals = λ q. absurd (q refl);
              not-5 = λ q. omega arith;
              left-0 = refl;
              zeros-0 = refl;
              last-0 = refl;
              out = λ _. record { decoded-0 = refl; left-0 = refl; zeros-0 = refl; last-0 = refl; resumed-0 = refl; refusal-0 = refl };
              escape = λ q. true-false (sym q);
              reads = refl;
            });
      }

  d-out : OutOfPlainFrame d
  d-out = record { ready = d-ready; reads = refl; out = refl }

  FF-plain : receive d 0xFF
      ≡ quietly d (record { state = with_mode plain (in_frame no_block false 0 (with_decoded 1 (cleared e).state)); area = write (work d).area 0 (0xFF ∷ []) })
  unfolding plain_octet plain_taken plain_data
  FF-plain =
      let room : 0 + 1 ≤ largest_frame k = omega (arith, limit-at-least k at.ready.valid) in
      in-plain d 0xFF d-ready refl
      ∙ ap (quietly d)
      (ap (plain_taken k (work d)) (taken-plainly e.state.map 0xFF (not-removed e.state.map 0xFF (omega arith)) (λ q. omega arith))
      ∙ if-not _ _ _ (le-ltb _ _ room))

  -- the FF makes no difference
  same_first : (xs : List ℕ) → receives e (0xFF ∷ xs) ≡ receives d (0xFF ∷ xs)
  unfolding receives
  same_first xs = ap (λ (r : Receive). r ∷ receives r.after xs) (restart.at_once_on e at on ∙ sym FF-plain)

flat : (s : PlainSender) (q : List ℕ) (qs : List (List ℕ)) → flat_map (plain_line s) (q ∷ qs) ≡ plain_line s q ++ flat_map (plain_line s) qs
unfolding flat_map
flat s q qs = refl

begins-through : (t : Settings) (i : ℕ) (marks : List ℕ) (e : ReceiverEnd) → OfPair t i marks e → e.state.mode ≡ cobs → e.state.framed ≡ false
    → marked (open_pair t i marks).sender.marks 0xFF ≡ false
    → (p : List ℕ) (ps : List (List ℕ)) → AllAllowedLengths (agreed t) ((0xFF ∷ p) ∷ ps)
    → ComeThrough (open_pair t i marks).sender e ((0xFF ∷ p) ∷ ps)
begins-through t i marks e o on out unmarked p ps a =
    let s = (open_pair t i marks).sender in
    let at : OutOfCobsFrame e = record { ready = o.ready; cobs = ap is_plain on; out = out } in
    let pair = not-refused t i marks o.opens in
    let rest = stuffed s.marks (p ++ fcs (agreed t).check (0xFF ∷ p)) ++ (flag ∷ []) in
    let first : plain_line s (0xFF ∷ p) ≡ 0xFF ∷ rest =
    plain_line-is t i marks o.octets pair (0xFF ∷ p)
    ∙ ap (λ (l : List ℕ). l ++ (flag ∷ [])) (stuffed-cons s.marks 0xFF (p ++ fcs (agreed t).check (0xFF ∷ p)) ∙ ap (λ (l : List ℕ). l ++ stuffed s.marks (p ++ fcs (agreed t).check (0xFF ∷ p))) (unmarked-octet s.marks 0xFF unmarked)) in
    let all : flat_map (plain_line s) ((0xFF ∷ p) ∷ ps) ≡ 0xFF ∷ (rest ++ flat_map (plain_line s) ps) = flat s (0xFF ∷ p) ps ∙ ap (λ (l : List ℕ). l ++ flat_map (plain_line s) ps) first in
    ap (map report_and_packet) (ap (receives e) all ∙ (same_first e at on (rest ++ flat_map (plain_line s) ps) ∙ ap (receives (reading e)) (sym all)))
    ∙ come-through t i marks o.octets pair ((0xFF ∷ p) ∷ ps) (reading e) (d-out e at on) o.settings o.map a

after-FF : (e : ReceiverEnd) → OutOfCobsFrame e → e.state.mode ≡ cobs → (rest : List ℕ) → (Memᴰ flag rest → ⊥)
    → (let f = (receive (received e (0xFF ∷ rest)) flag).after in
    (f.state.mode ≡ plain) × (f.state.framed ≡ false) × ReceiverReady f × (f.state.settings ≡ e.state.settings) × (f.state.map ≡ e.state.map))
unfolding received
after-FF e at on rest free =
    let c = (receive e 0xFF).after in
    let p : is_plain c.state.mode ≡ true = ap (λ (h : Receive). is_plain h.after.state.mode) (restart.at_once_on e at on) in
    let v = received c rest in
    let ready = run-ready rest c (passes e 0xFF at.ready).ready in
    let o = behind v ready (run-plain rest c p) in
    (plain_out _ o, o.out, o.ready, receive-settings v flag ∙ (run-settings rest c ∙ receive-settings e 0xFF), mode-stays.map v flag ∙ (run-map rest c ∙ mode-stays.map e 0xFF))
  where
    plain_out : (f : ReceiverEnd) → OutOfPlainFrame f → f.state.mode ≡ plain
    plain_out f o =
        let b = plain-bounds _ f.state o.reads o.ready.bounds in
        mode-by f.state.mode o.reads (decide (is_escaped f.state.mode) (λ q. true-false (sym (b.escape q) ∙ o.out)) (λ q. q))

pub plain-frames : PlainFrames
plain-frames =
    record {
      frames = frames-through;
      opened = λ t i marks first second o before p ps a. frames-through t i marks _ (of-run t i marks before _ o) p ps a;
      begins = begins-through;
      reads = after-FF;
    }
