-- The two ends in step after a flag: a call of the sender, and the receiver's call for the octet that it writes.
use mathlib.Core.Path.{◌≡◌, refl, sym, ap, subst, subst₃, ◌∙◌}
use mathlib.Core.Bool.{Bool, true, false, cond, not, ◌&&◌}
use mathlib.Core.List.{List}
use mathlib.Core.Option.{Option, none, some}
use Prim.Native.Nat.{ℕ, ◌+◌, ◌-◌, ◌≤◌, ◌<◌}
use native.Mathlib.Omega.{arith}
use lib.ListN.{length, drop, get_or}
use Rattle.std.specs.Prelude.{Some, None}
use Rattle.fcs.specs.CheckSequence as check
use Rattle.cobs.specs.CodeBlocks.{frame, with_phantom, flag, to_line, choice}
use Rattle.cobs.proofs.Exchange.{no_flag, from-line, turned-back}
use Rattle.cobs.proofs.Table.{numbers}
use Rattle.link.specs.Agreed.{Settings, Agreed, largest_frame, most_decoded}
use Rattle.link.specs.Answers.{Answer, held, refused}
use Rattle.link.specs.Sender.{Lane, low, high, OnLine, LaneState, Out, closes, breaks_off, sends, sends_nothing, refuses, Step, lane_d, next, put_frame}
use Rattle.link.specs.Receiver.{Working, ReceiverEnd, Receive, is_held, work, aside, put_back, steps_1_to_4, Held}
use Rattle.link.specs.Runs.{Lanes, Station, lane_packet, after_load, after_step, after_next, Written, ends_its_frame, aside_after, replaces_after, Arrives, ExpectedReport}
use Rattle.link.proofs.Cobs.{cobs_receive}
use Rattle.link.proofs.Tests.{true-false, false-true}
use Rattle.link.proofs.Way.{Advance, last, more, covers, opens, Way, ends, cuts, warns, goes, sender, Turn, cut-due, idles, resumes-low, begins-high, begins-low, high-on, low-on, by_next}
use Rattle.link.proofs.ReceiverBounds.{Ready, OfFrame, fit-work, receive_other, flag-ends, other-passes}
use Rattle.link.proofs.Follow.{Follows, Moved, BlockAt, Holding, follows-back, keeps-holding, code-zero, code-some, code-two, data-last, data-more, reports, delivers-held, delivers-holding, breaks-held, breaks-holding, resumes, starts}
use Rattle.link.proofs.Resumed.{InStep, in-step-at, code-in-step, data-in-step, D1-in-step, leaves_nothing}
use Rattle.link.proofs.SenderBounds as bounds
use Rattle.link.proofs.Sound.{station, StockOf, Stock, Waiting, Sound, stock-fits, by-load, low-is-off, high-is-off, enter-high, enter-low}

-- ---- an octet that is sent, as the receiver takes it

module _ (g : Agreed) (e : ReceiverEnd) (z : Ready g e) (x : ℕ) where
  pub passes : (x ≡ 0 → ⊥) → (cobs_receive e (to_line x)).after ≡ put_back e (steps_1_to_4 g (aside e) (work e) x)
  passes h =
      ap (λ (k : Receive). k.after) (receive_other g e z (to_line x) (no_flag x))
      ∙ ap (λ (y : ℕ). put_back e (steps_1_to_4 g (aside e) (work e) y)) (turned-back x h)

  passes-plain : (x ≡ flag → ⊥) → (x ≡ 0 → ⊥) → (cobs_receive e x).after ≡ put_back e (steps_1_to_4 g (aside e) (work e) x)
  passes-plain f h =
      ap (λ (k : Receive). k.after) (receive_other g e z x f) ∙ ap (λ (y : ℕ). put_back e (steps_1_to_4 g (aside e) (work e) y)) (from-line x h)

pub follows-at : (d : List ℕ) (w : Working) {pos pos' n n' z z' : ℕ} → pos ≡ pos' → n ≡ n' → z ≡ z' → Follows d pos n z w → Follows d pos' n' z' w
follows-at d w e f g fo = subst₃ (λ i j k. Follows d i j k w) e f g fo

-- whether something is held, in a frame that is no resumed one or out of a frame
pub record HeldIs (s : Bool) (e : ReceiverEnd) : Type 0 where
  pub plain : e.state.resumed ≡ false
  pub is : is_held e.state.held ≡ s

-- whether the fragment of this frame, were it broken off, would take an older one's place
abbrev pub Replaces : Bool → ReceiverEnd → Type 0
Replaces s e = (not e.state.resumed && is_held e.state.held) ≡ s

-- what an octet of a lane's D leaves: the receiver still follows, and what it held it holds
pub record Went (d : List ℕ) (pos n z : ℕ) (e e' : ReceiverEnd) : Type 0 where
  pub follows : Follows d pos n z (work e')
  pub holding : (d' : List ℕ) (pos' : ℕ) → Holding d' pos' e → Holding d' pos' e'
  pub held : (s : Bool) → HeldIs s e → HeldIs s e'
  pub replaces : (s : Bool) → Replaces s e → Replaces s e'

went : (d : List ℕ) (pos n z : ℕ) (e : ReceiverEnd) (w : Working) → Moved d pos n z (work e) w → Went d pos n z e (put_back e w)
went d pos n z e w m =
    record {
      follows = follows-back d pos n z e w m.keeps.turn-is m.follows;
      holding = λ d' pos' h. keeps-holding d' pos' e w m.keeps h;
      held = λ s h. record { plain = m.keeps.resumed-is ∙ h.plain; is = ap is_held m.keeps.held-is ∙ h.is };
      replaces = λ s h. rw (m.keeps.resumed-is, m.keeps.held-is) h;
    }

-- the lane on the line and the receiver move alike
module _ (g : Agreed) (q : LaneState) (a : List ℕ) (n z : ℕ) (fits : q.length ≤ length a) (deep : q.length ≤ largest_frame g)
    (v : bounds.Numbers g q a fits q.position n z) (b : BlockAt (lane_d q a) q.position n z)
    (e : ReceiverEnd) (r : Ready g e) (fo : Follows (lane_d q a) q.position n z (work e)) where
  abbrev d : List ℕ
  d = lane_d q a

  long : length d ≡ q.length + 1
  long = bounds.data-long g q a fits

  depth : length d ≤ most_decoded g
  depth = omega (arith, long)

  first-nonzero : 0 < n → get_or d q.position 0 ≡ 0 → ⊥
  first-nonzero h s = b.nonzero 0 h (ap (λ (i : ℕ). get_or d i 0) (omega arith) ∙ s)

  none_left : n ≡ 0 → Follows d q.position 0 0 (work e)
  none_left h = follows-at d (work e) refl h (v.even h) fo

  -- whatever octet of D is sent
  pub heard : (x pos n' z' : ℕ) → q.position ≤ q.length → Advance g.zxe d q.position n z x pos n' z'
      → Went d pos n' z' e (cobs_receive e (to_line x)).after
  heard x pos n' z' h (last k) =
      rw (passes g e r x (first-nonzero (omega arith)))
      (went d _ 0 0 e _
      (data-last g d depth q.position (aside e) (work e) (fit-work g e r) n z fo (omega arith) (omega (arith, v.room, long)) k
      (λ i l. ap (λ (j : ℕ). get_or d j 0) (omega arith) ∙ b.zero (1 + i) (omega arith) (omega arith))))
  heard x pos n' z' h (more k l) =
      rw (passes g e r x (first-nonzero k))
      (went d _ _ z e _ (data-more g d depth q.position (aside e) (work e) (fit-work g e r) n z fo k (omega (arith, v.room, long)) l))
  heard x pos n' z' h (covers k l) =
      let ch = bounds.stands g q a fits h in
      let c = choice g.zxe (drop q.position d) in
      let m = code-zero g d depth q.position (aside e) (work e) (fit-work g e r) (none_left k) c ch l (omega (arith, long)) in
      rw (passes g e r x (λ s. omega (arith, (numbers ch.row).code-some)))
      (went d _ n z e _
      (record { follows = follows-at d _ refl (sym k) (sym (v.even k)) m.follows; keeps = m.keeps }))
  heard x pos n' z' h (opens k l) =
      let ch = bounds.stands g q a fits h in
      rw (passes g e r x (λ s. omega (arith, (numbers ch.row).code-some)))
      (went d _ _ _ e _ (code-some g d depth q.position (aside e) (work e) (fit-work g e r) (none_left k) _ ch l))

  -- 02 before a cut
  pub heard-two : n ≡ 0 → Went d q.position 1 1 e (cobs_receive e 0x02).after
  heard-two h =
      rw (passes-plain g e r 0x02 (λ s. omega arith) (λ s. omega arith))
      (went d q.position 1 1 e _ (code-two g d depth q.position (aside e) (work e) (fit-work g e r) (none_left h)))

-- a packet that was under way at the chosen flag: the receiver is in step with its blocks
module _ (g : Agreed) (q : LaneState) (a : List ℕ) (n z : ℕ) (fits : q.length ≤ length a) (b : BlockAt (lane_d q a) q.position n z)
    (e : ReceiverEnd) (r : Ready g e) (i : InStep n e.state) where
  nonzero : 0 < n → get_or (lane_d q a) q.position 0 ≡ 0 → ⊥
  nonzero h s = b.nonzero 0 h (ap (λ (j : ℕ). get_or (lane_d q a) j 0) (omega arith) ∙ s)

  pub in_step : (x pos n' z' : ℕ) → q.position ≤ q.length → Advance g.zxe (lane_d q a) q.position n z x pos n' z'
      → InStep n' (cobs_receive e (to_line x)).after.state
  in_step x pos n' z' h (last k) =
      rw (passes g e r x (nonzero (omega arith)))
      (in-step-at (n - 1) 0 _ (omega arith) (data-in-step g (aside e) (work e) n i x (omega arith)))
  in_step x pos n' z' h (more k l) = rw (passes g e r x (nonzero k)) (data-in-step g (aside e) (work e) n i x k)
  in_step x pos n' z' h (covers k l) =
      let ch = bounds.stands g q a fits h in
      rw (passes g e r x (λ s. omega (arith, (numbers ch.row).code-some)))
      (in-step-at _ n _ (l ∙ sym k) (code-in-step g (aside e) (work e) n i x _ _ ch.row k))
  in_step x pos n' z' h (opens k l) =
      let ch = bounds.stands g q a fits h in
      rw (passes g e r x (λ s. omega (arith, (numbers ch.row).code-some))) (code-in-step g (aside e) (work e) n i x _ _ ch.row k)

-- ---- in step

-- What the receiver holds, with low off the line: of a suspended packet begun after the chosen flag its covered octets; of one under way at the
-- flag (`aside`) whatever it may be. Where low is not suspended, `s` says whether an older fragment is held.
abbrev pub HeldLow : (suspended aside : Bool) → Bool → LaneState → List ℕ → ReceiverEnd → Type 0
HeldLow true false s q a e = (s ≡ false) × Holding (lane_d q a) q.position e
HeldLow true true s q a e = s ≡ false
HeldLow false b s q a e = (b ≡ false) × HeldIs s e

-- With low on the line the receiver follows; if its packet was under way at the chosen flag, it is only in step with its blocks.
abbrev pub OnLow : (aside cut : Bool) → Bool → LaneState → List ℕ → ℕ → ℕ → ReceiverEnd → Type 0
OnLow false false s q a n z e = Follows (lane_d q a) q.position n z (work e) × Replaces s e
OnLow false true s q a n z e = Follows (lane_d q a) q.position 1 1 (work e) × Replaces s e
OnLow true false s q a n z e = (s ≡ false) × InStep n e.state
OnLow true true s q a n z e = s ≡ false

-- With no lane on the line the receiver is out of a frame, with the high one it follows.
abbrev pub Along : OnLine → (suspended cut aside : Bool) → Bool → Station → ReceiverEnd → Type 0
Along None u c b s w e = (e.state.framed ≡ false) × HeldLow u b s w.end.state.low w.end.low e
Along (Some high) u c b s w e =
    Follows (lane_d w.end.state.high w.end.high) w.end.state.high.position w.end.state.left w.end.state.zeros (work e)
    × HeldLow u b s w.end.state.low w.end.low e
Along (Some low) u c b s w e = OnLow b c s w.end.state.low w.end.low w.end.state.left w.end.state.zeros e

-- b: the low packet is the one that was under way at the chosen flag, m; s: the next fragment that is held takes an older one's place
pub record Lock (g : Agreed) (m : Option (List ℕ)) (b s : Bool) (w : Station) (e : ReceiverEnd) : Type 0 where
  pub ready : Ready g e
  pub whose : b ≡ true → w.lanes.low ≡ m
  pub along : Along w.end.state.on w.end.state.suspended w.end.state.cut b s w e

-- what is shown of an octet and the receiver's call for it
pub record Answered (m : Option (List ℕ)) (b s : Bool) (x : Written) (h : Receive) : Type 0 where
  pub arrives : Arrives h.report
  pub expected : ends_its_frame b x.out ≡ false → ExpectedReport s x.out x.sent_for x.low_position h
  pub aside : ends_its_frame b x.out ≡ true → (x.sent_for ≡ m) × (replaces_after s x.out ≡ s)

-- what a call of the sender must lead to: w the station before it, w' after it
abbrev pub LedBy : Agreed → Option (List ℕ) → Bool → Bool → Written → Station → ReceiverEnd → Type 0
LedBy g m b s x w' e =
    Answered m b s x (cobs_receive e x.octet) × Lock g m (aside_after b x.out) (replaces_after s x.out) w' (cobs_receive e x.octet).after

abbrev pub Leads : Agreed → Option (List ℕ) → Bool → Bool → Out → Lanes → ℕ → Station → ReceiverEnd → Type 0
Leads g m b s (closes l) v k w' e = LedBy g m b s (record { out = closes l; octet = flag; sent_for = lane_packet l v; low_position = k }) w' e
Leads g m b s breaks_off v k w' e = LedBy g m b s (record { out = breaks_off; octet = flag; sent_for = v.low; low_position = k }) w' e
Leads g m b s (sends l x) v k w' e = LedBy g m b s (record { out = sends l x; octet = x; sent_for = lane_packet l v; low_position = k }) w' e
Leads g m b s sends_nothing v k w' e = Lock g m b s w' e
Leads g m b s (refuses n) v k w' e = Lock g m b s w' e

arrives : (a : Answer) → OfFrame a → Arrives a
arrives a t =
    record {
      areas = λ e. absurd (let h : OfFrame (refused 2) = subst OfFrame e t in omega arith);
      bounds = λ e. absurd (let h : OfFrame (refused 3) = subst OfFrame e t in omega arith);
    }

-- an octet that is no flag
quiet-send : (g : Agreed) (l : Lane) (x : ℕ) (m n : Option (List ℕ)) (b s : Bool) (k : ℕ) (e : ReceiverEnd) → Ready g e → (x ≡ flag → ⊥)
    → Answered n b s (record { out = sends l x; octet = x; sent_for = m; low_position = k }) (cobs_receive e x)
quiet-send g l x m n b s k e z f =
    let p = other-passes g e x f z in
    record { arrives = arrives _ (subst OfFrame (sym p.silent) tt); expected = λ _. p.silent; aside = λ q. false-true q }

-- a flag that ends a frame of the packet that was under way
aside-flag : (g : Agreed) (o : Out) (m n : Option (List ℕ)) (s : Bool) (k : ℕ) (e : ReceiverEnd) → Ready g e → ends_its_frame true o ≡ true → m ≡ n → replaces_after s o ≡ s
    → Answered n true s (record { out = o; octet = flag; sent_for = m; low_position = k }) (cobs_receive e flag)
aside-flag g o m n s k e z f w i =
    record { arrives = arrives _ (flag-ends g e z).tells; expected = λ q. true-false (sym f ∙ q); aside = λ _. (w, i) }

module _ (g : Agreed) (law : check.Sound g.check) (q : LaneState) (a : List ℕ) (e : ReceiverEnd) (z : Ready g e) where
  whole-frame : (p : List ℕ) → StockOf g q a p → Follows (lane_d q a) (q.length + 1) 0 0 (work e)
      → Follows (with_phantom (frame g.check p)) (length (frame g.check p) + 1) 0 0 (work e)
  whole-frame p st fo =
      subst (λ (i : ℕ). Follows (with_phantom (frame g.check p)) (i + 1) 0 0 (work e)) st.long
      (subst (λ (f : List ℕ). Follows (with_phantom f) (q.length + 1) 0 0 (work e)) st.same fo)

  -- a closing flag: the packet, and what was held
  closed : (l : Lane) (m : Option (List ℕ)) (s : Bool) (k : ℕ) → Stock g q a m → 0 < q.length → Follows (lane_d q a) (q.length + 1) 0 0 (work e)
      → ExpectedReport s (closes l) m k (cobs_receive e flag)
  closed l none s k st h fo = absurd (omega arith)
  closed l (some p) s k st h fo = reports g e z p law st.big (whole-frame p st fo)

  closed-answer : (l : Lane) (m n : Option (List ℕ)) (b s : Bool) (k : ℕ) → ends_its_frame b (closes l) ≡ false → Stock g q a m → 0 < q.length
      → Follows (lane_d q a) (q.length + 1) 0 0 (work e)
      → Answered n b s (record { out = closes l; octet = flag; sent_for = m; low_position = k }) (cobs_receive e flag)
  closed-answer l m n b s k f st h fo =
      record { arrives = arrives _ (flag-ends g e z).tells; expected = λ _. closed l m s k st h fo; aside = λ i. false-true (sym f ∙ i) }

  closed-holding : (m : Option (List ℕ)) → Stock g q a m → 0 < q.length → Follows (lane_d q a) (q.length + 1) 0 0 (work e)
      → (d : List ℕ) (pos : ℕ) → Holding d pos e → Holding d pos (cobs_receive e flag).after
  closed-holding none st h fo d pos hd = absurd (omega arith)
  closed-holding (some p) st h fo d pos hd = delivers-holding g e z p law st.big (whole-frame p st fo) d pos hd

  closed-held : (m : Option (List ℕ)) (s : Bool) → Stock g q a m → 0 < q.length → Follows (lane_d q a) (q.length + 1) 0 0 (work e) → Replaces s e
      → HeldIs s (cobs_receive e flag).after
  closed-held none s st h fo k = absurd (omega arith)
  closed-held (some p) s st h fo k =
      let end = flag-ends g e z in
      record {
        plain = (end.ready.bounds.out end.out).resumed-0;
        is = ap is_held (delivers-held g e z p law st.big (whole-frame p st fo)) ∙ (still e.state.resumed e.state.held ∙ k);
      }
    where
      still : (b : Bool) (h : Held) → is_held (cond b None h) ≡ (not b && is_held h)
      still true h = refl
      still false h = refl

plain-replaces : (s : Bool) (e : ReceiverEnd) → HeldIs s e → Replaces s e
plain-replaces s e h = rw h.plain h.is

held_on : (u b s : Bool) (q : LaneState) (a : List ℕ) (e e' : ReceiverEnd) → ((d : List ℕ) (pos : ℕ) → Holding d pos e → Holding d pos e') → (HeldIs s e → HeldIs s e')
    → HeldLow u b s q a e → HeldLow u b s q a e'
held_on true false s q a e e' k i h = (h.0, k (lane_d q a) q.position h.1)
held_on true true s q a e e' k i h = h
held_on false b s q a e e' k i h = (h.0, i h.1)

-- D is covered
all-covered : (q : LaneState) (a : List ℕ) (n z : ℕ) (e : ReceiverEnd) → q.length < q.position → bounds.Room q n z
    → Follows (lane_d q a) q.position n z (work e) → Follows (lane_d q a) (q.length + 1) 0 0 (work e)
all-covered q a n z e h r fo =
    follows-at (lane_d q a) (work e) (omega (arith, r.room)) (omega (arith, r.room)) (omega (arith, r.room)) fo

module _ (g : Agreed) (law : check.Sound g.check) (m : Option (List ℕ)) (ql qh : LaneState) (n z : ℕ) (t : Settings) (al ah : List ℕ) (bl bh : Option (List ℕ)) (e : ReceiverEnd) where
  -- steps 3 to 6 of the high lane
  lock-high : (u b s : Bool) → (let v = sender ql qh n z (Some high) u false t in
      let w = station v al ah bl bh in
      Sound g w → Lock g m b s w e → (st : Step) → Way g high v (lane_d qh ah) st → Leads g m b s st.out w.lanes ql.position (after_step w st) e)
  lock-high u b s i k st (ends over) =
      let room = i.in-bounds.line.0 in
      let fo = all-covered qh ah n z e over room k.along.0 in
      let end = flag-ends g e k.ready in (
        closed-answer g law qh ah e k.ready high bh m b s ql.position refl i.stock-high room.loaded fo,
        record {
          ready = end.ready;
          whose = k.whose;
          along = (
            end.out,
            held_on u b s ql al e _ (closed-holding g law qh ah e k.ready bh i.stock-high room.loaded fo)
                (λ h. closed-held g law qh ah e k.ready bh s i.stock-high room.loaded fo (plain-replaces s e h)) k.along.1,
          );
        },
      )
  lock-high u b s i k st (cuts short is pre urgent f) = bounds.low-high is
  lock-high u b s i k st (warns short is pre urgent f) = bounds.low-high is
  lock-high u b s i k st (goes x pos n' z' short v free) =
      let c = i.in-bounds in
      let h =
      heard g qh ah n z (stock-fits g qh ah bh i.stock-high) (c.high.size (λ q. omega (arith, c.line.0.loaded))).1
      (record { room = c.line.0.room; few = c.few; two = c.two; even = c.even }) i.line.0 e k.ready k.along.0 x pos n' z' short v in (
        quiet-send g high (to_line x) bh m b s ql.position e k.ready (no_flag x),
        record {
          ready = (other-passes g e (to_line x) (no_flag x) k.ready).ready;
          whose = k.whose;
          along = (h.follows, held_on u b s ql al e _ h.holding (h.held s) k.along.1);
        },
      )

  -- a flag that breaks off a packet begun after the chosen flag,
  breaks : (s : Bool) (n' z' i j : ℕ) → Ready g e → Follows (lane_d ql al) ql.position n' z' (work e) → Replaces s e → 0 < n' → g.pre ≡ true
      → LedBy g m false s (record { out = breaks_off; octet = flag; sent_for = bl; low_position = ql.position }) (station (sender ql qh i j None true false t) al ah bl bh) e
  breaks s n' z' i j r fo rep left pre =
      let end = flag-ends g e r in (
        record {
          arrives = arrives _ end.tells;
          expected = λ _. breaks-held g e r (lane_d ql al) ql.position n' z' fo left pre ∙ ap (held ql.position) rep;
          aside = λ q. false-true q;
        },
        record {
          ready = end.ready;
          whose = λ q. false-true q;
          along = (end.out, (refl, breaks-holding g e r (lane_d ql al) ql.position n' z' fo left pre));
        },
      )

  -- and one under way at it
  breaks-aside : (s : Bool) (i j : ℕ) → Ready g e → bl ≡ m → s ≡ false
      → LedBy g m true s (record { out = breaks_off; octet = flag; sent_for = bl; low_position = ql.position }) (station (sender ql qh i j None true false t) al ah bl bh) e
  breaks-aside s i j r whose none-s =
      let end = flag-ends g e r in (
        aside-flag g breaks_off bl m s ql.position e r refl whose (sym none-s),
        record { ready = end.ready; whose = λ _. whose; along = (end.out, refl) },
      )

  -- of the low lane, a packet begun after the chosen flag,
  lock-low : (s : Bool) → (let v = sender ql qh n z (Some low) false false t in
      let w = station v al ah bl bh in
      Sound g w → Lock g m false s w e → (st : Step) → Way g low v (lane_d ql al) st → Leads g m false s st.out w.lanes ql.position (after_step w st) e)
  lock-low s i k st (ends over) =
      let room = i.in-bounds.line.0 in
      let fo = all-covered ql al n z e over room k.along.0 in
      let end = flag-ends g e k.ready in (
        closed-answer g law ql al e k.ready low bl m false s ql.position refl i.stock-low room.loaded fo,
        record {
          ready = end.ready;
          whose = λ q. false-true q;
          along = (end.out, (refl, closed-held g law ql al e k.ready bl s i.stock-low room.loaded fo k.along.1));
        },
      )
  lock-low s i k st (cuts short is pre urgent left) = breaks s n z 0 0 k.ready k.along.0 k.along.1 left pre
  lock-low s i k st (warns short is pre urgent f) =
      let c = i.in-bounds in
      let h =
      heard-two g ql al n z (stock-fits g ql al bl i.stock-low) (c.low.size (λ q. omega (arith, c.line.0.loaded))).1
      (record { room = c.line.0.room; few = c.few; two = c.two; even = c.even }) i.line.0 e k.ready k.along.0 f in (
        quiet-send g low 0x02 bl m false s ql.position e k.ready (λ q. omega arith),
        record {
          ready = (other-passes g e 0x02 (λ q. omega arith) k.ready).ready;
          whose = k.whose;
          along = (h.follows, h.replaces s k.along.1);
        },
      )
  lock-low s i k st (goes x pos n' z' short v free) =
      let c = i.in-bounds in
      let h =
      heard g ql al n z (stock-fits g ql al bl i.stock-low) (c.low.size (λ q. omega (arith, c.line.0.loaded))).1
      (record { room = c.line.0.room; few = c.few; two = c.two; even = c.even }) i.line.0 e k.ready k.along.0 x pos n' z' short v in (
        quiet-send g low (to_line x) bl m false s ql.position e k.ready (no_flag x),
        record {
          ready = (other-passes g e (to_line x) (no_flag x) k.ready).ready;
          whose = k.whose;
          along = (h.follows, h.replaces s k.along.1);
        },
      )

  -- and one under way at it
  lock-aside : (s : Bool) → (let v = sender ql qh n z (Some low) false false t in
      let w = station v al ah bl bh in
      Sound g w → Lock g m true s w e → (st : Step) → Way g low v (lane_d ql al) st → Leads g m true s st.out w.lanes ql.position (after_step w st) e)
  lock-aside s i k st (ends over) =
      let end = flag-ends g e k.ready in
      let none-left : n ≡ 0 = omega (arith, over, i.in-bounds.line.0.room) in (
        aside-flag g (closes low) bl m s ql.position e k.ready refl (k.whose refl) refl,
        record {
          ready = end.ready;
          whose = λ q. false-true q;
          along = (
            end.out,
            (
              refl,
              record {
                plain = (end.ready.bounds.out end.out).resumed-0;
                is = ap is_held (leaves_nothing g e k.ready (in-step-at n 0 e.state none-left k.along.1)) ∙ sym k.along.0;
              },
            ),
          );
        },
      )
  lock-aside s i k st (cuts short is pre urgent left) = breaks-aside s 0 0 k.ready (k.whose refl) k.along.0
  lock-aside s i k st (warns short is pre urgent f) = (
    quiet-send g low 0x02 bl m true s ql.position e k.ready (λ q. omega arith),
    record { ready = (other-passes g e 0x02 (λ q. omega arith) k.ready).ready; whose = k.whose; along = k.along.0 },
  )
  lock-aside s i k st (goes x pos n' z' short v free) = (
    quiet-send g low (to_line x) bl m true s ql.position e k.ready (no_flag x),
    record {
      ready = (other-passes g e (to_line x) (no_flag x) k.ready).ready;
      whose = k.whose;
      along = (
        k.along.0,
        in_step g ql al n z (stock-fits g ql al bl i.stock-low) i.line.0 e k.ready k.along.1 x pos n' z' short v,
      );
    },
  )

  -- a lane comes on the line
  begins : (q : LaneState) (a : List ℕ) → q.length ≤ length a → q.position ≡ 0 → n ≡ 0 → z ≡ 0 → Ready g e → e.state.framed ≡ false
      → Follows (lane_d q a) q.position n z (work e)
  begins q a fits p h k r out =
      follows-at (lane_d q a) (work e) (sym p) (sym h) (sym k)
      (starts g e r (lane_d q a) out (omega (arith, bounds.data-long g q a fits)))

  -- D1
  resumes-low_lem : Stock g ql al bl → Waiting g ql → Holding (lane_d ql al) ql.position e → n ≡ 0 → z ≡ 0 → Ready g e → e.state.framed ≡ false
      → Follows (lane_d ql al) ql.position n z (work (cobs_receive e 0xD1).after)
  resumes-low_lem st wait hd h k r out =
      rw (passes-plain g e r 0xD1 (λ q. omega arith) (λ q. omega arith))
      (follows-at (lane_d ql al) _ refl (sym h) (sym k)
      (resumes g e r (lane_d ql al) ql.position hd out wait.pre
      (omega (arith, wait.short, bounds.data-long g ql al (stock-fits g ql al bl st)))))

  D1-steps : Ready g e → e.state.framed ≡ false → InStep 0 (cobs_receive e 0xD1).after.state
  D1-steps r out = rw (passes-plain g e r 0xD1 (λ q. omega arith) (λ q. omega arith)) (D1-in-step g e r out)

  resumed-low : (b s : Bool) → Sound g (station (sender ql qh n z None true false t) al ah bl bh)
      → Lock g m b s (station (sender ql qh n z None true false t) al ah bl bh) e
      → OnLow b false s ql al n z (cobs_receive e 0xD1).after
  resumed-low false s i k =
      let none-left = i.in-bounds.line in (
        resumes-low_lem i.stock-low i.line.1 k.along.1.1 none-left.0 none-left.1 k.ready k.along.0,
        rw (D1-steps k.ready k.along.0).resumed-is (sym k.along.1.0),
      )
  resumed-low true s i k = (k.along.1, in-step-at 0 n _ (sym i.in-bounds.line.0) (D1-steps k.ready k.along.0))

  -- whichever step applies
  lock-turn : (o : OnLine) (u c b s : Bool) (st : Step) → Turn g ql qh n z t al ah o u c st → (let w = station (sender ql qh n z o u c t) al ah bl bh in
      Sound g w → Lock g m b s w e → Leads g m b s st.out w.lanes ql.position (after_step w st) e)
  lock-turn None u c b s st cut-due i k = true-false i.in-bounds.line.2
  lock-turn (Some high) u c b s st cut-due i k = true-false i.in-bounds.line.1
  lock-turn (Some low) u c false s st cut-due i k =
      let wait : Waiting g ql = i.line.0 in
      breaks s 1 1 n z k.ready k.along.0 k.along.1 (omega arith) wait.pre
  lock-turn (Some low) u c true s st cut-due i k = breaks-aside s n z k.ready (k.whose refl) k.along
  lock-turn o u c b s st (idles f h) i k = k
  lock-turn o u c b s st (resumes-low f h) i k = (
    quiet-send g low 0xD1 bl m b s ql.position e k.ready (λ q. omega arith),
    record { ready = (other-passes g e 0xD1 (λ q. omega arith) k.ready).ready; whose = k.whose; along = resumed-low b s i k },
  )
  lock-turn o u c b s st (begins-high h w) i k =
      let c = i.in-bounds in
      let fo = begins qh ah (stock-fits g qh ah bh i.stock-high) i.line.0 c.line.0 c.line.1 k.ready k.along.0 in
      lock-high u b s (enter-high g ql qh n z t al ah bl bh u h i) (record { ready = k.ready; whose = k.whose; along = (fo, k.along.1) }) st w
  lock-turn o u c true s st (begins-low f h w) i k = true-false k.along.1.0
  lock-turn o u c false s st (begins-low f h w) i k =
      let c = i.in-bounds in
      let fo = begins ql al (stock-fits g ql al bl i.stock-low) i.line.1 c.line.0 c.line.1 k.ready k.along.0 in
      lock-low s (enter-low g ql qh n z t al ah bl bh h i)
      (record { ready = k.ready; whose = k.whose; along = (fo, plain-replaces s e k.along.1.1) }) st w
  lock-turn o u c b s st (high-on w) i k = lock-high u b s i k st w
  lock-turn o true c b s st (low-on w) i k = true-false i.in-bounds.line.1
  lock-turn o false c false s st (low-on w) i k = lock-low s i k st w
  lock-turn o false c true s st (low-on w) i k = lock-aside s i k st w

-- ---- the calls

pub lock-next : (g : Agreed) (law : check.Sound g.check) (m : Option (List ℕ)) (b s : Bool) (w : Station) (e : ReceiverEnd) → Sound g w → Lock g m b s w e
    → Leads g m b s (next w.end).out w.lanes w.end.state.low.position (after_next w) e
unfolding after_next
lock-next g law m b s w e i k =
    let d = w.end in
    let r = d.state in
    by_next g d i.agrees (λ st. Leads g m b s st.out w.lanes r.low.position (after_step w st) e) (λ _. k)
    (λ st v.
    lock-turn g law m r.low r.high r.left r.zeros r.settings d.low d.high w.lanes.low w.lanes.high e
    r.on r.suspended r.cut b s st v i k)

-- a load leaves the two ends in step
module _ (q-p : LaneState) (a-p : List ℕ) (b-p : Option (List ℕ)) (ql qh : LaneState) (n z : ℕ) (t : Settings) (al ah : List ℕ) (bl bh : Option (List ℕ)) (b s : Bool) (e : ReceiverEnd) where
  along-low : (o : OnLine) (u c : Bool) → bounds.LowOff o u c → Along o u c b s (station (sender ql qh n z o u c t) al ah bl bh) e
      → (b ≡ false) × Along o u c b s (station (sender q-p qh n z o u c t) a-p ah b-p bh) e
  along-low o u c bounds.low-off₁ k = (k.1.0, k)
  along-low o u c bounds.low-off₂ k = (k.1.0, k)

  along-high : (o : OnLine) (u c : Bool) → bounds.HighOff o u c → Along o u c b s (station (sender ql qh n z o u c t) al ah bl bh) e
      → Along o u c b s (station (sender ql q-p n z o u c t) al a-p bl b-p) e
  along-high o u c bounds.high-off₁ k = k
  along-high o u c bounds.high-off₂ k = k
  along-high o u c bounds.high-off₃ k = k

pub lock-load : (g : Agreed) (m : Option (List ℕ)) (b s : Bool) (l : Lane) (p : List ℕ) (w : Station) (e : ReceiverEnd) → Sound g w → Lock g m b s w e
    → Lock g m b s (after_load l p w) e
unfolding put_frame
lock-load g m b s low p w e i k =
    let d = w.end in
    let r = d.state in
    by-load g low p w (λ v. Lock g m b s v e) i.agrees k
    (λ a.
    let along =
    along-low _ _ (some p) r.low r.high r.left r.zeros r.settings d.low d.high w.lanes.low w.lanes.high b s e
    r.on r.suspended r.cut (low-is-off g r i.in-bounds a.free) k.along in
    record { ready = k.ready; whose = λ q. true-false (sym q ∙ along.0); along = along.1 })
lock-load g m b s high p w e i k =
    let d = w.end in
    let r = d.state in
    by-load g high p w (λ v. Lock g m b s v e) i.agrees k
    (λ a.
    record {
      ready = k.ready;
      whose = k.whose;
      along =
          along-high _ _ (some p) r.low r.high r.left r.zeros r.settings d.low d.high w.lanes.low w.lanes.high b s e
          r.on r.suspended r.cut (high-is-off g r i.in-bounds a.free) k.along;
    })
