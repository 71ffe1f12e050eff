-- What holds of every single call.
use mathlib.Core.Path.{◌≡◌, refl, sym, ap, subst, ◌∙◌}
use mathlib.Core.Bool.{Bool, true, false, cond, not, ◌&&◌, and-false}
use mathlib.Core.List.{List, [], ◌∷◌, ◌++◌}
use mathlib.Core.Logic.{◌⊎◌, inl, inr, ⊎_elim}
use Prim.Native.Nat.{ℕ, ◌+◌, ◌-◌, ◌≤◌, ◌<◌}
use native.Mathlib.Omega.{arith}
use borrow.Author.Tests.{eqb-true, eqb-false, ltb-false, lt-ltb, le-ltb, ne_eqb, not-true, not-false}
use lib.Dec.{ltb, eqb}
use lib.ListN.{length, take, drop, replicate, length-append}
use lib.Seq.{take-append_seam, drop-append_seam, take-take, drop-drop, take_at, drop_at, length-take-le}
use Rattle.std.specs.Prelude.{None, Some, Ok, Err}
use Rattle.fcs.specs.CheckSequence.{register, good}
use Rattle.cobs.specs.CodeBlocks.{frame, flag, from_line, meaning, Meaning}
use Rattle.cobs.specs.declared.CodeError.TheVariants.{NotAgreed, NoCode}
use Rattle.cobs.proofs.Tests.{branch, decide, and_left, and_right}
use Rattle.cobs.proofs.Exchange.{from-line}
use Rattle.link.specs.Agreed.{Settings, Agreed, agreed, least_frame, most_decoded}
use Rattle.link.specs.Answers.{Answer, done, octet, idle, quiet, packet, held, refused}
use Rattle.link.specs.Sender.{Lane, low, high, OnLine, Sender, SenderEnd, closes, Step, empty_lane, lane_state, out_answer, put_frame, load, next, Load}
use Rattle.link.specs.Receiver.{holds, PlainReading, Receiver, Working, ReceiverEnd, Receive, Ended, is_no_block, is_d0, is_plain, begins_plain, write, step4_refuse, step3_write, step3_decode, step3_data, step2_by_meaning, step2_code, step1_resume_held, step1_d1, step1_first_octet, steps_1_to_4, step5_end, step5_without_phantom, step5_flag, at_flag, plain_octet, begin_plain, at_plain_flag, work, aside, put_back, flagged, receive, Held}
use Rattle.link.specs.Receiver as receiver
use Rattle.link.specs.ReceiverParts.{ReceiverReady}
use Rattle.link.specs.EachCall.{RefusedChangesNothing, IdleChangesNothing, Loads, DoneLoads, SettingsStay, ClosedIsEmpty, TakesIn, BlockOver, Resumes, HeldThen, NotHeldThen, EndsFrame, ReceivesSo, ValidFirst, AreasThenState}
use Rattle.link.proofs.Tests.{if-so, if-not, true-false, one-short, none-short}
use Rattle.link.proofs.Way.{Way, ends, cuts, warns, goes, sender, Turn, cut-due, idles, resumes-low, begins-high, begins-low, high-on, low-on, by_next}
use Rattle.link.proofs.Agreed.{valid-width, valid-limit}
use Rattle.link.proofs.Write.{length-write, take-write}
use Rattle.link.proofs.ReceiverBounds as heard
use Rattle.link.proofs.ReceiverCases.{not_valid, too_short, out-of-bounds}
use Rattle.link.proofs.Cobs.{cobs_receive, in-plain, begins, in-cobs}
use Rattle.link.proofs.Remembers.{NoLongerGives, octet-so}
use Rattle.link.proofs.PlainCases.{by-octet, by-begin, by-plain-flag}
use Rattle.link.proofs.Whole.{ready_of, fit-plain, passes, by-ready}
use Rattle.link.proofs.Stays.{flag-begins, receive-settings}
use Rattle.link.proofs.ReadOn.{skips, first-stays, second-stays}
use Rattle.link.proofs.Follow.{work-back, aside-back, resume-is}
use Rattle.link.proofs.Resumed.{D1-does}
use Rattle.link.proofs.SenderBounds as sent
use Rattle.link.proofs.sender.Load.{holds-a-frame}

-- ---- the sender

load-refused : (l : Lane) (p : List ℕ) (s : Sender) (area : List ℕ) (n : ℕ) → (load l p s area).answer ≡ refused n
    → ((load l p s area).state ≡ s) × ((load l p s area).area ≡ area)
unfolding put_frame
load-refused l p s area n =
    sent.by-load (agreed s.settings) l p s area (λ t. t.answer ≡ refused n → (t.state ≡ s) × (t.area ≡ area)) refl (λ _ _. (refl, refl))
    (λ _ q. absurd (let z : ◌≡◌ {A = ℕ} 0 1 = cc in omega arith))

pub done-loads : DoneLoads
unfolding put_frame
done-loads l p s area =
    let g = agreed s.settings in
    let f = frame g.check p in
    sent.by-load g l p s area (λ t. t.answer ≡ done → Loads l p s area f t) refl (λ n q. absurd (let z : ◌≡◌ {A = ℕ} 0 1 = cc in omega arith))
    (λ k _.
    record {
      start = take-append_seam f (drop (length f) area);
      behind = drop-append_seam f (drop (length f) area);
      state = refl;
      lane = k.free;
      least = k.big;
      most = k.small;
    })

-- a step that the sender takes is never refused, and one that is idle changes nothing
way-octet : {Q : Type 0} (g : Agreed) (l : Lane) (s : Sender) (d : List ℕ) (st : Step) → Way g l s d st → (a : Answer) → ((x : ℕ) → octet x ≡ a → ⊥) → out_answer st.out ≡ a → Q
way-octet g l s d st (ends over) a f q = absurd (f _ q)
way-octet g l s d st (cuts short e pre urgent i) a f q = absurd (f _ q)
way-octet g l s d st (warns short e pre urgent i) a f q = absurd (f _ q)
way-octet g l s d st (goes x pos n z short v free) a f q = absurd (f _ q)

module _ (g : Agreed) (e : SenderEnd) where
  abbrev s : Sender
  s = e.state

  turn-stays : (a : Answer) → ((x : ℕ) → octet x ≡ a → ⊥) → (o : OnLine) (u c : Bool) (st : Step)
      → Turn g s.low s.high s.left s.zeros s.settings e.low e.high o u c st → out_answer st.out ≡ a
      → st.state ≡ sender s.low s.high s.left s.zeros o u c s.settings
  turn-stays a f o u c st cut-due q = absurd (f _ q)
  turn-stays a f o u c st (idles i j) q = refl
  turn-stays a f o u c st (resumes-low i j) q = absurd (f _ q)
  turn-stays a f o u c st (begins-high j w) q = way-octet g high _ _ st w a f q
  turn-stays a f o u c st (begins-low i j w) q = way-octet g low _ _ st w a f q
  turn-stays a f o u c st (high-on w) q = way-octet g high _ _ st w a f q
  turn-stays a f o u c st (low-on w) q = way-octet g low _ _ st w a f q

next-stays : (e : SenderEnd) (a : Answer) → ((x : ℕ) → octet x ≡ a → ⊥) → out_answer (next e).out ≡ a → (next e).state ≡ e.state
next-stays e a f =
    let s = e.state in
    by_next (agreed s.settings) e refl (λ st. out_answer st.out ≡ a → st.state ≡ s) (λ _ _. refl)
    (λ st t q. turn-stays (agreed s.settings) e a f s.on s.suspended s.cut st t q)

-- the settings stay, and a closing flag leaves its lane empty
way-settings : (g : Agreed) (s : Sender) (d : List ℕ) (l : Lane) (st : Step) → Way g l s d st → st.state.settings ≡ s.settings
way-settings g s d low st (ends over) = refl
way-settings g s d high st (ends over) = refl
way-settings g s d l st (cuts short e pre urgent i) = refl
way-settings g s d l st (warns short e pre urgent i) = refl
way-settings g s d low st (goes x pos n z short v free) = refl
way-settings g s d high st (goes x pos n z short v free) = refl

next-settings : (e : SenderEnd) → (next e).state.settings ≡ e.state.settings
next-settings e = by_next (agreed e.state.settings) e refl (λ st. st.state.settings ≡ e.state.settings) (λ _. refl) (turn-settings e.state.on e.state.suspended e.state.cut)
  where
    turn-settings : (o : OnLine) (u c : Bool) (st : Step)
        → Turn (agreed e.state.settings) e.state.low e.state.high e.state.left e.state.zeros e.state.settings e.low e.high o u c st
        → st.state.settings ≡ e.state.settings
    turn-settings o u c st cut-due = refl
    turn-settings o u c st (idles i j) = refl
    turn-settings o u c st (resumes-low i j) = refl
    turn-settings o u c st (begins-high j w) = way-settings _ _ _ high st w
    turn-settings o u c st (begins-low i j w) = way-settings _ _ _ low st w
    turn-settings o u c st (high-on w) = way-settings _ _ _ high st w
    turn-settings o u c st (low-on w) = way-settings _ _ _ low st w

load-settings : (l : Lane) (p : List ℕ) (s : Sender) (area : List ℕ) → (load l p s area).state.settings ≡ s.settings
unfolding put_frame
load-settings low p s area = sent.by-load (agreed s.settings) low p s area (λ t. t.state.settings ≡ s.settings) refl (λ _. refl) (λ _. refl)
load-settings high p s area = sent.by-load (agreed s.settings) high p s area (λ t. t.state.settings ≡ s.settings) refl (λ _. refl) (λ _. refl)

-- which lane a step closes
abbrev Closed : Lane → Step → Type 0
Closed l st = (lane_state l st.state ≡ empty_lane) × (st.state.on ≡ None)

way-closed : (g : Agreed) (s : Sender) (d : List ℕ) (k : Lane) (st : Step) → Way g k s d st → (l : Lane) → st.out ≡ closes l → Closed l st
way-closed g s d low st (ends over) low q = (refl, refl)
way-closed g s d high st (ends over) high q = (refl, refl)
way-closed g s d low st (ends over) high q = absurd (let z : ◌≡◌ {A = ℕ} 0 1 = cc in omega arith)
way-closed g s d high st (ends over) low q = absurd (let z : ◌≡◌ {A = ℕ} 0 1 = cc in omega arith)
way-closed g s d k st (cuts short e pre urgent i) l q = absurd (let z : ◌≡◌ {A = ℕ} 0 1 = cc in omega arith)
way-closed g s d k st (warns short e pre urgent i) l q = absurd (let z : ◌≡◌ {A = ℕ} 0 1 = cc in omega arith)
way-closed g s d k st (goes x pos n z short v free) l q = absurd (let i : ◌≡◌ {A = ℕ} 0 1 = cc in omega arith)

pub closed-is-empty : ClosedIsEmpty
closed-is-empty e l =
    by_next (agreed e.state.settings) e refl (λ st. st.out ≡ closes l → Closed l st) (λ n q. absurd (let z : ◌≡◌ {A = ℕ} 0 1 = cc in omega arith))
    (turn-closed e.state.on e.state.suspended e.state.cut)
  where
    turn-closed : (o : OnLine) (u c : Bool) (st : Step)
        → Turn (agreed e.state.settings) e.state.low e.state.high e.state.left e.state.zeros e.state.settings e.low e.high o u c st
        → st.out ≡ closes l → Closed l st
    turn-closed o u c st cut-due q = absurd (let z : ◌≡◌ {A = ℕ} 0 1 = cc in omega arith)
    turn-closed o u c st (idles i j) q = absurd (let z : ◌≡◌ {A = ℕ} 0 1 = cc in omega arith)
    turn-closed o u c st (resumes-low i j) q = absurd (let z : ◌≡◌ {A = ℕ} 0 1 = cc in omega arith)
    turn-closed o u c st (begins-high j w) q = way-closed _ _ _ high st w l q
    turn-closed o u c st (begins-low i j w) q = way-closed _ _ _ low st w l q
    turn-closed o u c st (high-on w) q = way-closed _ _ _ high st w l q
    turn-closed o u c st (low-on w) q = way-closed _ _ _ low st w l q

pub idle-changes-nothing : IdleChangesNothing
idle-changes-nothing e = next-stays e idle (λ x q. let z : ◌≡◌ {A = ℕ} 0 1 = cc in omega arith)

next-refused : (e : SenderEnd) (n : ℕ) → out_answer (next e).out ≡ refused n → (next e).state ≡ e.state
next-refused e n = next-stays e (refused n) (λ x q. let z : ◌≡◌ {A = ℕ} 0 1 = cc in omega arith)

-- ---- the receiver

receive-refused : (e : ReceiverEnd) (x n : ℕ) → n < 5 → (receive e x).report ≡ refused n → (receive e x).after ≡ e
receive-refused e x n h =
    by-ready (λ r. r.report ≡ refused n → r.after ≡ e) e x (λ _ _ _ _. refl)
    (λ a q. let five : heard.OfFrame (refused n) = subst heard.OfFrame q (passes e x a).tells in absurd (omega arith))

-- ---- the order of the tests

-- what each call answers
abbrev loads : Load → Answer
loads t = t.answer

abbrev sends : Step → Answer
sends t = out_answer t.out

abbrev hears : Receive → Answer
hears h = h.report

pub valid-first : ValidFirst
valid-first =
    record {
      sender_limit = λ t n. rw n;
      receiver_limit = λ t _ n. rw n;
      sender_width = λ t l w. rw (l, w);
      receiver_width = λ t _ l w. rw (l, w);
      opening_numbers = (refl, refl);
      load = λ l p s area n. ap loads (sent.load-invalid l p s area n);
      next = λ e n. ap sends (sent.next-invalid e n);
      receive = λ e x n. ap hears (not_valid e x n);
      sender_opens = λ t v. rw (valid-limit (agreed t) v, valid-width (agreed t) v);
      receiver_opens = λ t _ v. rw (valid-limit (agreed t) v, valid-width (agreed t) v);
    }

pub areas-then-state : AreasThenState
areas-then-state =
    record {
      load_short = λ l p s area v k. ap loads (sent.load-short l p s area v (lt-ltb _ _ k));
      load_state = λ l p s area v k b. ap loads (sent.load-out-of-bounds l p s area v (le-ltb _ _ k) b);
      load_lane = λ l p s area v k b h. ap loads (holds-a-frame l p s area v k b h);
      next_short = λ e v k. ap sends (sent.next-short e v (one-short _ _ _ k));
      next_state = λ e v k m b. ap sends (sent.next-out-of-bounds e v (none-short _ _ _ (k, m)) b);
      receive_short = λ e x v k. ap hears (too_short e x v (one-short _ _ _ k));
      receive_state = λ e x v k m b. ap hears (out-of-bounds e x v (none-short _ _ _ (k, m)) b);
    }

pub refused-changes-nothing : RefusedChangesNothing
refused-changes-nothing = record { load = load-refused; next = next-refused; receive = receive-refused }

-- ---- an octet is written only after those that are decoded

-- w before it, w' after it, which then holds the fragment h
record Moves (h : Held) (w w' : Working) : Type 0 where
  turn-is : w'.state.turn ≡ w.state.turn
  held-is : w'.state.held ≡ h
  count : w.state.decoded ≤ w'.state.decoded
  same : take w.state.decoded w'.area ≡ take w.state.decoded w.area
  behind : drop w'.state.decoded w'.area ≡ drop w'.state.decoded w.area

-- what is held stays
abbrev Keeps : Working → Working → Type 0
Keeps w w' = Moves w.state.held w w'

-- nothing is written, and no more is decoded
stays : {h : Held} (w : Working) (r : Receiver) → r.turn ≡ w.state.turn → r.held ≡ h → r.decoded ≡ w.state.decoded
    → Moves h w (record { state = r; area = w.area })
stays w r h k i = record { turn-is = h; held-is = k; count = omega arith; same = refl; behind = refl }

unwritten : (n : ℕ) (w : Working) → Keeps w (step4_refuse n w)
unwritten n w = stays w _ refl refl refl

writes-on : (xs : List ℕ) (w : Working) → w.state.decoded + length xs ≤ length w.area → Keeps w (step3_write xs w)
writes-on xs w fits =
    let n = w.state.decoded in
    let a = w.area in
    let size : length (take n a) ≡ n = length-take-le n a (omega arith) in
    record {
      turn-is = refl;
      held-is = refl;
      count = omega arith;
      same = sym (take-take n (n + length xs) (write a n xs) (omega arith)) ∙ (ap (take n) (take-write a n xs fits) ∙ take_at (take n a) xs n size);
      behind = drop_at (take n a ++ xs) (drop (n + length xs) a) (n + length xs) (length-append (take n a) xs ∙ ap (λ (k : ℕ). k + length xs) size);
    }

then : (w v u : Working) → Keeps w v → Keeps v u → Keeps w u
then w v u h k =
    let i = w.state.decoded in
    let j = v.state.decoded in
    let m = u.state.decoded in
    let at : j + (m - j) ≡ m = omega (arith, k.count) in
    let past : (l : List ℕ) → drop (m - j) (drop j l) ≡ drop m l = (λ l. drop-drop (m - j) j l ∙ ap (λ (n : ℕ). drop n l) at) in
    record {
      turn-is = k.turn-is ∙ h.turn-is;
      held-is = k.held-is ∙ h.held-is;
      count = omega (arith, h.count, k.count);
      same = sym (take-take i j u.area h.count) ∙ (ap (take i) k.same ∙ (take-take i j v.area h.count ∙ h.same));
      behind = k.behind ∙ (sym (past v.area) ∙ (ap (drop (m - j)) h.behind ∙ past w.area));
    }

module _ (g : Agreed) where
  decodes : (xs : List ℕ) (w : Working) → most_decoded g ≤ length w.area → Keeps w (step3_decode g xs w)
  unfolding step3_decode
  decodes xs w long =
      branch (Keeps w) (ltb (most_decoded g) (w.state.decoded + length xs)) (λ _. unwritten 10 w)
      (λ k. writes-on xs w (omega (arith, ltb-false (most_decoded g) (w.state.decoded + length xs) k)))

  module _ (w : Working) (long : most_decoded g ≤ length w.area) where
    after : (r : Receiver) (u : Working) → r.turn ≡ w.state.turn → r.held ≡ w.state.held → r.decoded ≡ w.state.decoded
        → Keeps (record { state = r; area = w.area }) u → Keeps w u
    after r u h k i m = then w (record { state = r; area = w.area }) u (stays w r h k i) m

    data-moves : (x : ℕ) → Keeps w (step3_data g w x)
    unfolding step3_data
    data-moves x =
        let r = w.state in
        branch (Keeps w) (ltb (most_decoded g) (r.decoded + 1)) (λ _. unwritten 10 w)
        (λ k.
        let fits : r.decoded + 1 ≤ length w.area = omega (arith, ltb-false (most_decoded g) (r.decoded + 1) k) in
        branch (Keeps w) (eqb r.left 1)
        (λ _.
        let v : Working = record { state = receiver.with_due 0 0 r; area = w.area } in
        let u : Working = step3_write (x ∷ []) v in
        after (receiver.with_due 0 0 r) _ refl refl refl
        (then v u (step3_decode g (replicate r.zeros 0) u) (writes-on (x ∷ []) v fits)
        (decodes (replicate r.zeros 0) u (omega (arith, length-write w.area r.decoded (x ∷ []) fits)))))
        (λ _.
        after (receiver.with_due (r.left - 1) r.zeros r) _ refl refl refl
        (writes-on (x ∷ []) (record { state = receiver.with_due (r.left - 1) r.zeros r; area = w.area }) fits)))

    code-moves : (c : ℕ) (m : Meaning) → Keeps w (step2_by_meaning g w c m)
    unfolding step2_by_meaning
    code-moves c (Ok row) =
        let n = row.nonzeros in
        let z = row.zeros in
        let r = receiver.step2_begin_block (receiver.last_block c) 0 0 w.state in
        branch (Keeps w) (eqb n 0) (λ _. after r _ refl refl refl (decodes (replicate z 0) (record { state = r; area = w.area }) long))
        (λ _. stays w _ refl refl refl)
    code-moves c (Err NotAgreed) = unwritten 6 w
    code-moves c (Err NoCode) = unwritten 7 w

    -- D1 that resumes nothing
    D1-moves : (o : List ℕ) → (g.pre ≡ true → w.state.held ≡ None) → Keeps w (record { state = step1_d1 g o w.state; area = w.area })
    unfolding step1_d1 step1_resume_held
    D1-moves o none-held =
        branch (λ (r : Receiver). Keeps w (record { state = r; area = w.area })) g.pre
        (λ pre. subst (λ (k : Held). Keeps w (record { state = step1_resume_held g o k w.state; area = w.area })) (sym (none-held pre)) (stays w _ refl refl refl))
        (λ _. stays w _ refl refl refl)

    -- in a frame, and at its first octet
    inside : (o : List ℕ) (x : ℕ) → w.state.framed ≡ true → Keeps w (steps_1_to_4 g o w x)
    unfolding steps_1_to_4 step2_code
    inside o x f =
        branch (Keeps w) (not (eqb w.state.refusal 0)) (λ _. stays w w.state refl refl refl)
        (λ _. branch (Keeps w) (not w.state.framed) (λ out. true-false (sym f ∙ not-true w.state.framed out))
        (λ _. branch (Keeps w) (ltb 0 w.state.left) (λ _. data-moves x) (λ _. code-moves x (meaning g.zxe x))))

    first-moves : (o : List ℕ) (x : ℕ) → (x ≡ 0xD1 → g.pre ≡ true → w.state.held ≡ None)
        → Moves (cond (eqb x 0xFF) None w.state.held) w (step1_first_octet g o w x)
    unfolding step1_first_octet step2_code
    first-moves o x h =
        decide (eqb x 0xFF) (λ e. rw e (stays w _ refl refl refl))
        (λ e. rw e (branch (Keeps w) (eqb x 0xD1) (λ d. D1-moves o (h (eqb-true x 0xD1 d))) (λ _. code-moves x (meaning g.zxe x))))

    octet-moves : (o : List ℕ) (x : ℕ) → heard.Bounds g w.state → (w.state.framed ≡ false → x ≡ 0xD1 → g.pre ≡ true → w.state.held ≡ None)
        → Moves (cond (not w.state.framed && eqb x 0xFF) None w.state.held) w (steps_1_to_4 g o w x)
    octet-moves o x b h =
        decide w.state.framed (λ f. subst (λ (k : Bool). Moves (cond (not k && eqb x 0xFF) None w.state.held) w (steps_1_to_4 g o w x)) (sym f) (inside o x f))
        (λ f.
        subst (λ (k : Bool). Moves (cond (not k && eqb x 0xFF) None w.state.held) w (steps_1_to_4 g o w x)) (sym f)
        (subst (Moves (cond (eqb x 0xFF) None w.state.held) w) (sym (heard.first-octet g o w x b f)) (first-moves o x (h f))))

-- ---- whether the frame is a resumed one

module _ (g : Agreed) (w : Working) where
  abbrev m : Bool
  m = w.state.resumed

  abbrev Same : Working → Type 0
  Same v = v.state.resumed ≡ m

  decode-same : (xs : List ℕ) (v : Working) → Same v → Same (step3_decode g xs v)
  unfolding step3_decode
  decode-same xs v e = branch Same (ltb (most_decoded g) (v.state.decoded + length xs)) (λ _. e) (λ _. e)

  data-same : (x : ℕ) → Same (step3_data g w x)
  unfolding step3_data
  data-same x =
      branch Same (ltb (most_decoded g) (w.state.decoded + 1)) (λ _. refl)
      (λ _. branch Same (eqb w.state.left 1) (λ _. decode-same (replicate w.state.zeros 0) _ refl) (λ _. refl))

  code_same : (c : ℕ) (k : Meaning) → Same (step2_by_meaning g w c k)
  unfolding step2_by_meaning
  code_same c (Ok row) = branch Same (eqb row.nonzeros 0) (λ _. decode-same (replicate row.zeros 0) _ refl) (λ _. refl)
  code_same c (Err NotAgreed) = refl
  code_same c (Err NoCode) = refl

  D1-marks : (o : List ℕ) (h : Held) → (step1_resume_held g o h w.state).resumed ≡ true
  unfolding step1_resume_held
  D1-marks o None = refl
  D1-marks o (Some h) = let n = h.count in
      let k = h.register in
      branch (λ (r : Receiver). r.resumed ≡ true) (eqb (register g.check (take n o)) k) (λ _. refl) (λ _. refl)

  -- a first octet, where the mark is not set
  first_marks : (o : List ℕ) (x : ℕ) → m ≡ false → (step1_first_octet g o w x).state.resumed ≡ eqb x 0xD1
  unfolding step1_first_octet step1_d1 step2_code
  first_marks o x none =
      branch (λ (v : Working). v.state.resumed ≡ eqb x 0xD1) (eqb x 0xFF)
      (λ e. none ∙ sym (ne_eqb x 0xD1 (λ q. omega (arith, eqb-true x 0xFF e))))
      (λ _. branch (λ (v : Working). v.state.resumed ≡ eqb x 0xD1) (eqb x 0xD1)
      (λ e. branch (λ (r : Receiver). r.resumed ≡ eqb x 0xD1) g.pre (λ _. D1-marks o w.state.held ∙ sym e) (λ _. sym e))
      (λ e. code_same x (meaning g.zxe x) ∙ (none ∙ sym e)))

  marks : (o : List ℕ) (x : ℕ) → heard.Bounds g w.state → (steps_1_to_4 g o w x).state.resumed ≡ cond w.state.framed m (eqb x 0xD1)
  unfolding steps_1_to_4 step2_code
  marks o x b =
      let P : Working → Type 0 = λ v. v.state.resumed ≡ cond w.state.framed m (eqb x 0xD1) in
      branch P (not (eqb w.state.refusal 0))
      (λ some.
      decide w.state.framed (λ f. sym (if-so _ _ _ f))
      (λ f. absurd (eqb-false w.state.refusal 0 (not-true (eqb w.state.refusal 0) some) (b.out f).refusal-0)))
      (λ _. branch P (not w.state.framed)
      (λ out.
      let off : w.state.framed ≡ false = not-true w.state.framed out in
      first_marks o x (b.out off).resumed-0 ∙ sym (if-not _ _ _ off))
      (λ inside.
      let on : w.state.framed ≡ true = not-false w.state.framed inside in
      branch P (ltb 0 w.state.left) (λ _. data-same x ∙ sym (if-so _ _ _ on)) (λ _. code_same x (meaning g.zxe x) ∙ sym (if-so _ _ _ on))))

-- ---- the settings

opened-settings : (t : Settings) (reading : PlainReading) → (receiver.opened_receiver t reading).settings ≡ t
opened-settings t None = refl
opened-settings t (Some map) = refl

pub settings-stay : SettingsStay
settings-stay =
    record { opened_sender = λ t. refl; opened_receiver = opened-settings; load = load-settings; next = next-settings; receive = receive-settings }

-- the work area put back
put-back-writes : (x : ℕ) (e : ReceiverEnd) (w : Working) (h : Held) → Moves h (work e) w
    → h ≡ cond (not (is_plain e.state.mode) && not e.state.framed && eqb (from_line x) 0xFF) None e.state.held
    → TakesIn x e (put_back e w)
put-back-writes x e w h m is =
    let b = e.state.turn in
    record {
      turn = m.turn-is;
      held = m.held-is ∙ is;
      other = aside-back b e.first e.second w.area;
      count = m.count;
      decoded = ap (take e.state.decoded) (work-back b e.first e.second w.area) ∙ m.same;
      behind = ap (drop w.state.decoded) (work-back b e.first e.second w.area) ∙ m.behind;
    }

-- ---- a flag

module _ (g : Agreed) (e : ReceiverEnd) where
  abbrev Ends : Ended → Type 0
  Ends t = HeldThen e (flagged e t) ⊎ NotHeldThen e.state (flagged e t)

  ends_so : (a : Answer) → ((n : ℕ) (replaced : Bool) → a ≡ held n replaced → ⊥) → (a ≡ quiet → ⊥) → Ends (step5_end a e.state)
  ends_so a h q =
      heard.by_end (λ (s : Receiver). Ends (record { report = a; state = s })) e.state
      (λ k. inr (record { fragment = None; state = refl; resumed = λ _. refl; other = λ i. true-false (sym k ∙ i); no_held = h; no_quiet = q }))
      (λ k. inr (record { fragment = e.state.held; state = refl; resumed = λ i. true-false (sym i ∙ k); other = λ _. refl; no_held = h; no_quiet = q }))

  ends-refused : (n : ℕ) → Ends (step5_end (refused n) e.state)
  ends-refused n = ends_so (refused n) (λ m b q. let z : ◌≡◌ {A = ℕ} 0 1 = cc in omega arith) (λ q. let z : ◌≡◌ {A = ℕ} 0 1 = cc in omega arith)

  ends-packet : (b : Bool) (n : ℕ) → Ends (step5_end (packet b n) e.state)
  ends-packet b n = ends_so (packet b n) (λ m c q. let z : ◌≡◌ {A = ℕ} 0 1 = cc in omega arith) (λ q. let z : ◌≡◌ {A = ℕ} 0 1 = cc in omega arith)

  whole-reports : (area : List ℕ) (n : ℕ) → Ends (step5_without_phantom g e.state area n)
  unfolding step5_without_phantom
  whole-reports area n =
      branch Ends (ltb n (least_frame g)) (λ _. ends-refused 13)
      (λ _. branch Ends (good g.check (take n area)) (λ _. ends-packet e.state.turn (n - g.check.fcs_length)) (λ _. ends-refused 14))

  flag-reports : agreed e.state.settings ≡ g → Ends (step5_flag g e.state (work e).area)
  unfolding step5_flag
  flag-reports agrees =
      branch Ends (not (eqb e.state.refusal 0)) (λ _. ends-refused e.state.refusal)
      (λ _. branch Ends (is_no_block e.state.last) (λ _. ends-refused 9)
      (λ _. branch Ends (ltb 0 e.state.left) (λ _. branch Ends g.pre (λ _. inl (refl, rw agrees)) (λ _. ends-refused 11))
      (λ _. branch Ends (is_d0 e.state.last) (λ _. ends-refused 12) (λ _. whole-reports (work e).area (e.state.decoded - 1)))))

  plain-reports : Ends (at_plain_flag g e.state (work e).area) ⊎ (e.state.framed ≡ false)
  plain-reports =
      by-plain-flag g (λ (t : Ended). Ends t ⊎ (e.state.framed ≡ false)) e.state (work e).area inr
      (λ _ _. inl (ends-refused e.state.refusal))
      (λ _. inl (ends-refused 10))
      (λ _. inl (ends-refused 18))
      (λ _ _. inl (whole-reports (work e).area e.state.decoded))

  -- ---- while COBS is read

  module _ (z : heard.Ready g e) where
    flag-of-frame : e.state.framed ≡ true → EndsFrame e (cobs_receive e flag)
    unfolding at_flag
    flag-of-frame f =
        rw (heard.receive-flag g e z ∙ ap (flagged e) (if-so _ _ _ f)) (record { first = refl; second = refl; report = flag-reports z.agrees })

    flag-of-none : e.state.framed ≡ false → cobs_receive e flag ≡ record { report = quiet; after = e }
    unfolding at_flag
    flag-of-none f = heard.receive-flag g e z ∙ ap (flagged e) (if-not _ _ _ f)

    D1-resumes : e.state.framed ≡ false → g.pre ≡ true → (n k : ℕ) → e.state.held ≡ holds n k → register g.check (take n (aside e)) ≡ k
        → (x : ℕ) → (x ≡ flag → ⊥) → from_line x ≡ 0xD1 → Resumes n e (cobs_receive e x).after
    D1-resumes out pre n k h same x other x-is =
        let is : (cobs_receive e x).after ≡ put_back e (record { state = receiver.step1_resume n (receiver.let_go e.state); area = (work e).area }) =
        ap (λ (r : Receive). r.after) (D1-does g e z out x other x-is)
        ∙ ap (λ (s : Receiver). put_back e (record { state = s; area = (work e).area })) (resume-is g e z n k h pre same) in
        rw is
        (record {
          turn = refl;
          held = refl;
          decoded = refl;
          first = first-stays e.state.turn e.first e.second;
          second = second-stays e.state.turn e.first e.second;
        })

    octet-writes : (x : ℕ) → (x ≡ flag → ⊥) → is_plain e.state.mode ≡ false
        → (e.state.framed ≡ false → from_line x ≡ 0xD1 → g.pre ≡ true → e.state.held ≡ None)
        → TakesIn x e (cobs_receive e x).after
    octet-writes x f p h =
        rw (heard.receive_other g e z x f)
        (put-back-writes x e _ _ (octet-moves g (work e) (heard.fit-work g e z).long (aside e) (from_line x) z.bounds h)
        (ap (λ (b : Bool). cond (not b && not e.state.framed && eqb (from_line x) 0xFF) None e.state.held) (sym p)))

    octet-remembers : e.state.refusal ≡ 0 → (x : ℕ) → (x ≡ flag → ⊥) → ((cobs_receive e x).after.state.refusal ≡ 0 → ⊥) → BlockOver (cobs_receive e x).after.state
    octet-remembers c x f = rw (heard.receive_other g e z x f) (octet-so (Unit {0}) g (aside e) (work e) c (from_line x) (λ _ _. tt)).over

    changed-octet : e.state.refusal ≡ 0 → (x : ℕ) → (x ≡ flag → ⊥) → (cobs_receive e x).after.state.refusal ≡ 21 → NoLongerGives g (aside e) e.state.held
    changed-octet c x f = rw (heard.receive_other g e z x f) (octet-so (Unit {0}) g (aside e) (work e) c (from_line x) (λ _ _. tt)).changed

    octet-marks : (x : ℕ) → (x ≡ flag → ⊥) → (cobs_receive e x).after.state.resumed ≡ cond e.state.framed e.state.resumed (eqb (from_line x) 0xD1)
    octet-marks x f = ap (λ (h : Receive). h.after.state.resumed) (heard.receive_other g e z x f) ∙ marks g (work e) (aside e) (from_line x) z.bounds

-- ---- while plain PPP is read, and where it begins

D1-begins-none : (r : Receiver) (x : ℕ) → from_line x ≡ 0xD1 → begins_plain r x ≡ false
D1-begins-none r x is =
    let other : x ≡ 0xFF → ⊥ = λ q. omega (arith, sym is ∙ (ap from_line q ∙ from-line 0xFF (λ k. omega arith))) in
    rw (ne_eqb x 0xFF other) (and-false (not (receiver.is_off r.mode) && not r.framed))

-- at the first octet of a frame that plain reading begins with
record First (e : ReceiverEnd) (x : ℕ) : Type 0 where
  out : e.state.framed ≡ false
  is : x ≡ 0xFF

begins-first : (e : ReceiverEnd) (x : ℕ) → begins_plain e.state x ≡ true → First e x
begins-first e x b =
    let on = not (receiver.is_off e.state.mode) in
    let front = and_left (on && not e.state.framed) (eqb x 0xFF) b in
    record { out = not-true e.state.framed (and_right on (not e.state.framed) front); is = eqb-true x 0xFF (and_right (on && not e.state.framed) (eqb x 0xFF) b) }

module _ (g : Agreed) (w : Working) (long : most_decoded g ≤ length w.area) where
  plain-moves : (x : ℕ) → Keeps w (plain_octet g w x)
  plain-moves x =
      by-octet g (Keeps w) w x (stays w w.state refl refl refl) (λ _. stays w _ refl refl refl) (λ _ _. stays w _ refl refl refl)
      (λ y _ room. after g w long (receiver.in_plain_frame receiver.plain w.state) _ refl refl refl (writes-on (y ∷ []) _ (omega arith)))

  begin-moves : Moves None w (begin_plain g w)
  begin-moves =
      let r = receiver.in_plain_frame receiver.plain (receiver.let_go w.state) in
      by-begin g (Moves None w) w (λ _. stays w _ refl refl refl)
      (λ room.
      let k = writes-on (0xFF ∷ []) (record { state = r; area = w.area }) (omega arith) in
      record { turn-is = k.turn-is; held-is = k.held-is; count = k.count; same = k.same; behind = k.behind })

module _ (e : ReceiverEnd) (a : ReceiverReady e) where
  abbrev agr : Agreed
  agr = agreed e.state.settings

  plain-writes : (x : ℕ) → is_plain e.state.mode ≡ true → (x ≡ flag → ⊥) → TakesIn x e (receive e x).after
  plain-writes x p f =
      rw (in-plain e x a p ∙ if-not _ _ _ (ne_eqb x flag f))
      (put-back-writes x e _ _ (plain-moves agr (work e) (fit-plain e x a p).long x)
      (ap (λ (b : Bool). cond (not b && not e.state.framed && eqb (from_line x) 0xFF) None e.state.held) (sym p)))

  begin-writes : (x : ℕ) → is_plain e.state.mode ≡ false → begins_plain e.state x ≡ true → TakesIn x e (receive e x).after
  begin-writes x p b =
      let k = begins-first e x b in
      let held-none : None ≡ cond (not (is_plain e.state.mode) && not e.state.framed && eqb (from_line x) 0xFF) None e.state.held =
      rw (p, k.out, ap from_line k.is ∙ from-line 0xFF (λ q. omega arith)) in
      rw (begins e x a p b) (put-back-writes x e _ _ (begin-moves agr (work e) (heard.fit-work agr e (ready_of e a p)).long) held-none)

  -- ---- any octet that is no flag

  octet-takes : (x : ℕ) → (x ≡ flag → ⊥)
      → (is_plain e.state.mode ≡ false → e.state.framed ≡ false → from_line x ≡ 0xD1 → agr.pre ≡ true → e.state.held ≡ None)
      → TakesIn x e (receive e x).after
  octet-takes x f h =
      decide (is_plain e.state.mode) (λ p. plain-writes x p f)
      (λ p. decide (begins_plain e.state x) (begin-writes x p)
      (λ b. rw (in-cobs e x a p b) (octet-writes agr e (ready_of e a p) x f p (h p))))

  remembers-octet : e.state.refusal ≡ 0 → (x : ℕ) → (x ≡ flag → ⊥) → ((receive e x).after.state.refusal ≡ 0 → ⊥) → BlockOver (receive e x).after.state
  remembers-octet c x f =
      let Q : Working → Type 0 = λ w. (w.state.refusal ≡ 0 → ⊥) → BlockOver w.state in
      decide (is_plain e.state.mode)
      (λ p.
      rw (in-plain e x a p ∙ if-not _ _ _ (ne_eqb x flag f))
      (by-octet agr Q (work e) x (λ some. absurd (some c)) (λ _ some. absurd (some refl)) (λ _ _ _. record { left = refl; zeros = refl; last = refl })
      (λ _ _ _ some. absurd (some refl))))
      (λ p. decide (begins_plain e.state x)
      (λ b. rw (begins e x a p b) (by-begin agr Q (work e) (λ _ _. record { left = refl; zeros = refl; last = refl }) (λ _ some. absurd (some refl))))
      (λ b. rw (in-cobs e x a p b) (octet-remembers agr e (ready_of e a p) c x f)))

  marks-octet : (x : ℕ) → (x ≡ flag → ⊥)
      → (receive e x).after.state.resumed ≡ cond e.state.framed e.state.resumed (not (is_plain e.state.mode) && eqb (from_line x) 0xD1)
  marks-octet x f =
      let Q : Working → Type 0 = λ w. w.state.resumed ≡ e.state.resumed in
      let c = heard.counts agr e.state a.bounds in
      decide (is_plain e.state.mode)
      (λ p.
      ap (λ (h : Receive). h.after.state.resumed) (in-plain e x a p ∙ if-not _ _ _ (ne_eqb x flag f))
      ∙ (by-octet agr Q (work e) x refl (λ _. refl) (λ _ _. refl) (λ _ _ _. refl)
      ∙ decide e.state.framed (λ k. sym (if-so _ _ _ k)) (λ k. (heard.out-fresh agr e.state c k).resumed-0 ∙ rw (k, p))))
      (λ p. decide (begins_plain e.state x)
      (λ b.
      let k = begins-first e x b in
      ap (λ (h : Receive). h.after.state.resumed) (begins e x a p b)
      ∙ (by-begin agr Q (work e) (λ _. refl) (λ _. refl)
      ∙ ((heard.out-fresh agr e.state c k.out).resumed-0 ∙ rw (k.out, p, ap from_line k.is ∙ from-line 0xFF (λ q. omega arith)))))
      (λ b.
      ap (λ (h : Receive). h.after.state.resumed) (in-cobs e x a p b)
      ∙ (octet-marks agr e (ready_of e a p) x f ∙ ap (λ (b : Bool). cond e.state.framed e.state.resumed (not b && eqb (from_line x) 0xD1)) (sym p))))

  -- ---- a flag

  plain-flag : is_plain e.state.mode ≡ true → receive e flag ≡ flagged e (at_plain_flag agr e.state (work e).area)
  plain-flag p = in-plain e flag a p

  ends-frame : e.state.framed ≡ true → EndsFrame e (receive e flag)
  ends-frame f =
      decide (is_plain e.state.mode)
      (λ p.
      rw (plain-flag p)
      (record { first = refl; second = refl; report = ⊎_elim (λ t. t) (λ no. true-false (sym f ∙ no)) (plain-reports agr e) }))
      (λ p. rw (in-cobs e flag a p (flag-begins e.state)) (flag-of-frame agr e (ready_of e a p) f))

  ends-none : e.state.framed ≡ false → receive e flag ≡ record { report = quiet; after = e }
  unfolding at_plain_flag
  ends-none f =
      decide (is_plain e.state.mode) (λ p. plain-flag p ∙ ap (flagged e) (if-not _ _ _ f))
      (λ p. in-cobs e flag a p (flag-begins e.state) ∙ flag-of-none agr e (ready_of e a p) f)

  -- ---- what is held

  pub resumed-by-D1 : is_plain e.state.mode ≡ false → e.state.framed ≡ false → agr.pre ≡ true → (n k : ℕ) → e.state.held ≡ holds n k
      → register agr.check (take n (aside e)) ≡ k → (x : ℕ) → (x ≡ flag → ⊥) → from_line x ≡ 0xD1 → Resumes n e (receive e x).after
  resumed-by-D1 p out pre n k h same x other x-is =
      let no : begins_plain e.state x ≡ false = D1-begins-none e.state x x-is in
      rw (in-cobs e x a p no) (D1-resumes agr e (ready_of e a p) out pre n k h same x other x-is)

  -- 21 is remembered only of what was changed
  pub octet-changed : e.state.refusal ≡ 0 → (x : ℕ) → (x ≡ flag → ⊥) → (receive e x).after.state.refusal ≡ 21 → NoLongerGives agr (aside e) e.state.held
  octet-changed c x f =
      let Q : Working → Type 0 = λ w. w.state.refusal ≡ 21 → NoLongerGives agr (aside e) e.state.held in
      decide (is_plain e.state.mode)
      (λ p.
      rw (in-plain e x a p ∙ if-not _ _ _ (ne_eqb x flag f))
      (by-octet agr Q (work e) x (λ q. absurd (omega arith)) (λ _ q. absurd (omega arith)) (λ _ _ q. absurd (omega arith)) (λ _ _ _ q. absurd (omega arith))))
      (λ p. decide (begins_plain e.state x)
      (λ b. rw (begins e x a p b) (by-begin agr Q (work e) (λ _ q. absurd (omega arith)) (λ _ q. absurd (omega arith))))
      (λ b. rw (in-cobs e x a p b) (changed-octet agr e (ready_of e a p) c x f)))

-- in plain PPP nothing is reported as held
whole-not-held : (g : Agreed) (r : Receiver) (area : List ℕ) (k n : ℕ) (replaced : Bool) → (step5_without_phantom g r area k).report ≡ held n replaced → ⊥
unfolding step5_without_phantom
whole-not-held g r area k n replaced =
    let P : Ended → Type 0 = λ t. t.report ≡ held n replaced → ⊥ in
    branch P (ltb k (least_frame g)) (λ _ q. let z : ◌≡◌ {A = ℕ} 0 1 = cc in omega arith)
    (λ _. branch P (good g.check (take k area)) (λ _ q. let z : ◌≡◌ {A = ℕ} 0 1 = cc in omega arith) (λ _ q. let z : ◌≡◌ {A = ℕ} 0 1 = cc in omega arith))

never-held : (e : ReceiverEnd) (x n : ℕ) (replaced : Bool) → is_plain e.state.mode ≡ true → (receive e x).report ≡ held n replaced → ⊥
never-held e x n replaced p =
    let g = agreed e.state.settings in
    let P : Receive → Type 0 = λ h. h.report ≡ held n replaced → ⊥ in
    by-ready P e x (λ _ _ _ q. let z : ◌≡◌ {A = ℕ} 0 1 = cc in omega arith)
    (λ a.
    rw (in-plain e x a p)
    (branch P (eqb x flag)
    (λ _. by-plain-flag g (λ (t : Ended). t.report ≡ held n replaced → ⊥) e.state (work e).area (λ _ q. let z : ◌≡◌ {A = ℕ} 0 1 = cc in omega arith)
    (λ _ _ q. let z : ◌≡◌ {A = ℕ} 0 1 = cc in omega arith) (λ _ q. let z : ◌≡◌ {A = ℕ} 0 1 = cc in omega arith) (λ _ q. let z : ◌≡◌ {A = ℕ} 0 1 = cc in omega arith)
    (λ _ _. whole-not-held g e.state (work e).area e.state.decoded n replaced))
    (λ _ q. let z : ◌≡◌ {A = ℕ} 0 1 = cc in omega arith)))

pub receives-so : ReceivesSo
receives-so =
    record {
      others = λ e r x f. (passes e x r).silent f;
      empty = ends-none;
      frame = ends-frame;
      skipped = λ e r some x f. ap (λ (h : Receive). h.after) (skips e x r some f);
      remembered = remembers-octet;
      mark = marks-octet;
      never_held = never-held;
      resumes = λ e r p out pre n k h same. resumed-by-D1 e r p out pre n k h same 0xD1 (λ q. omega arith) (from-line 0xD1 (λ q. omega arith));
      takes_in = octet-takes;
    }
