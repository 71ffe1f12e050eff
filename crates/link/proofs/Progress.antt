-- The sender by itself: idle exactly if both lanes are empty, both lanes get empty in time, and urgent packets go first.
use mathlib.Core.Path.{◌≡◌, refl, ap, ◌∙◌}
use mathlib.Core.Bool.{Bool, true, false, cond, ◌&&◌, ◌||◌}
use mathlib.Core.List.{List, [], ◌∷◌, ◌++◌}
use Prim.Native.Nat.{ℕ, zero, suc, ◌+◌, ◌-◌, ◌/◌, ◌≤◌, ◌<◌}
use native.Mathlib.Omega.{arith}
use borrow.Author.Tests.{le-ltb, lt-ltb, eq-eqb, ne_eqb, ltb-true, ltb-false}
use lib.Dec.{ltb}
use lib.ListN.{length, replicate, drop, length-append, length-drop}
use Rattle.std.specs.Prelude.{Some, None}
use Rattle.cobs.specs.CodeBlocks.{frame, choice}
use Rattle.cobs.specs.declared.Choice.{Choice}
use Rattle.cobs.proofs.Tests.{branch, decide, and_right}
use Rattle.cobs.proofs.Frame.{longest, longest-frame, longest-part, block-cost}
use Rattle.link.specs.Agreed.{Settings, Agreed, agreed, largest_frame}
use Rattle.link.specs.Answers.{idle, octet}
use Rattle.link.specs.Sender.{Lane, low, high, OnLine, LaneState, Sender, SenderEnd, Step, out_answer, loaded, lane_area, lane_d, steps_1_to_6, next, put_frame}
use Rattle.link.specs.SenderParts.{SenderReady}
use Rattle.link.specs.Runs.{Station, SenderCall, loading, next_octet, loaded_by, after_load, after_next, run}
use Rattle.link.specs.Progress.{BothEmpty, IdleIfEmpty, calls_for, Emptied}
use Rattle.link.proofs.Tests.{true-false}
use Rattle.link.proofs.Way.{Advance, last, more, covers, opens, Way, ends, cuts, warns, goes, sender, Turn, cut-due, idles, resumes-low, begins-high, begins-low, high-on, low-on, turn}
use Rattle.link.proofs.Follow.{frame-long}
use Rattle.link.proofs.SenderBounds as bounds
use Rattle.link.proofs.Sound.{by-load}

-- ---- a call that is not refused

-- the next step of a sender in bounds with areas long enough is one of those in Way.antt
pub record Unrefused (e : SenderEnd) : Type 0 where
  pub is : next e ≡ steps_1_to_6 (agreed e.state.settings) e e.state.cut e.state.on
  pub bounds : bounds.Bounds (agreed e.state.settings) e.state
  pub low : e.state.low.length ≤ length e.low
  pub high : e.state.high.length ≤ length e.high

pub unrefused : (e : SenderEnd) → SenderReady e → Unrefused e
unfolding next
unrefused e r =
    let g = agreed e.state.settings in
    let b = bounds.bounds g e.state r.bounds in
    record {
      is = rw (r.valid, le-ltb (length e.low) (largest_frame g) r.low, le-ltb (length e.high) (largest_frame g) r.high, r.bounds);
      bounds = b;
      low = bounds.fits-area g e.state.low e.low b.low r.low;
      high = bounds.fits-area g e.state.high e.high b.high r.high;
    }

-- what holds of every such step holds of the call
pub by_turn : (e : SenderEnd) → SenderReady e → (P : Step → Type 0)
    → (let s = e.state in
    ((st : Step) → Turn (agreed s.settings) s.low s.high s.left s.zeros s.settings e.low e.high s.on s.suspended s.cut st → P st))
    → P (next e)
by_turn e r P f =
    let s = e.state in
    rw (unrefused e r).is
    (f _ (turn (agreed s.settings) s.low s.high s.left s.zeros s.settings e.low e.high s.on s.suspended s.cut))

-- the sender after it
pub ready_on : (w : Station) → SenderReady w.end → SenderReady (after_next w).end
unfolding after_next
ready_on w r =
    let e = w.end in
    let g = agreed e.state.settings in
    let k = bounds.next-keeps g e refl (unrefused e r).bounds in
    let same : agreed (next e).state.settings ≡ g = ap agreed k.settings in
    record {
      valid = rw same r.valid;
      low = rw same r.low;
      high = rw same r.high;
      bounds = rw same (bounds.in_bounds_lem g (next e).state k.bounds);
    }

-- and after a load
area-kept : (g : Agreed) (p a : List ℕ) → length p ≤ g.limit → largest_frame g ≤ length a
    → largest_frame g ≤ length (frame g.check p ++ drop (length (frame g.check p)) a)
area-kept g p a small h =
    let f = frame g.check p in
    omega (arith, length-append f (drop (length f) a), length-drop (length f) a, frame-long g p)

pub ready-put : (w : Station) → SenderReady w.end → (l : Lane) (p : List ℕ) → (let g = agreed w.end.state.settings in
    bounds.Accepts g l p w.end.state → SenderReady (loaded_by (put_frame g l p w.end.state (lane_area l w.end)) l p w).end)
unfolding put_frame
ready-put w r low p k =
    let s = w.end.state in
    let g = agreed s.settings in
    record {
      valid = r.valid;
      low = area-kept g p w.end.low k.small r.low;
      high = r.high;
      bounds = bounds.in_bounds_lem g _ (bounds.put-bounds g p k.big k.small low s w.end.low k.free (unrefused w.end r).bounds).bounds;
    }
ready-put w r high p k =
    let s = w.end.state in
    let g = agreed s.settings in
    record {
      valid = r.valid;
      low = r.low;
      high = area-kept g p w.end.high k.small r.high;
      bounds = bounds.in_bounds_lem g _ (bounds.put-bounds g p k.big k.small high s w.end.high k.free (unrefused w.end r).bounds).bounds;
    }

pub ready-run : (w : Station) (cs : List SenderCall) → SenderReady w.end → SenderReady (run w cs).end
unfolding run
ready-run w [] r = r
ready-run w (loading l p ∷ cs) r = ready-run (after_load l p w) cs (by-load _ l p w (λ v. SenderReady v.end) refl r (ready-put w r l p))
ready-run w (next_octet ∷ cs) r = ready-run (after_next w) cs (ready_on w r)

-- ---- never idle with work to do

not-idle : {Q : Type 0} (x : ℕ) → octet x ≡ idle → Q
not-idle x q = absurd (let z : ◌≡◌ {A = ℕ} 0 1 = cc in omega arith)

way-idle : {Q : Type 0} (g : Agreed) (l : Lane) (s : Sender) (d : List ℕ) (st : Step) → Way g l s d st → out_answer st.out ≡ idle → Q
way-idle g l s d st (ends over) q = not-idle _ q
way-idle g l s d st (cuts short e pre urgent f) q = not-idle _ q
way-idle g l s d st (warns short e pre urgent f) q = not-idle _ q
way-idle g l s d st (goes x pos n z short v free) q = not-idle _ q

module _ (g : Agreed) (ql qh : LaneState) (n z : ℕ) (t : Settings) (al ah : List ℕ) where
  turn-idle : (o : OnLine) (u c : Bool) (st : Step) → Turn g ql qh n z t al ah o u c st → out_answer st.out ≡ idle → (ql.length ≡ 0) × (qh.length ≡ 0)
  turn-idle o u c st cut-due q = not-idle _ q
  turn-idle o u c st (idles h k) q = (k, h)
  turn-idle o u c st (resumes-low k h) q = not-idle _ q
  turn-idle o u c st (begins-high h w) q = way-idle g high _ _ st w q
  turn-idle o u c st (begins-low k h w) q = way-idle g low _ _ st w q
  turn-idle o u c st (high-on w) q = way-idle g high _ _ st w q
  turn-idle o u c st (low-on w) q = way-idle g low _ _ st w q

  turn-empty : (o : OnLine) (u c : Bool) (st : Step) → Turn g ql qh n z t al ah o u c st → bounds.Bounds g (sender ql qh n z o u c t)
      → ql.length ≡ 0 → qh.length ≡ 0 → out_answer st.out ≡ idle
  turn-empty None u c st cut-due b i j = true-false b.line.2
  turn-empty (Some high) u c st cut-due b i j = true-false b.line.1
  turn-empty (Some low) u c st cut-due b i j = absurd (omega (arith, b.line.0.loaded))
  turn-empty o u c st (idles h k) b i j = refl
  turn-empty o u c st (resumes-low k h) b i j = absurd (omega arith)
  turn-empty o u c st (begins-high h w) b i j = absurd (omega arith)
  turn-empty o u c st (begins-low k h w) b i j = absurd (omega arith)
  turn-empty o u c st (high-on w) b i j = absurd (omega (arith, b.line.0.loaded))
  turn-empty o u c st (low-on w) b i j = absurd (omega (arith, b.line.0.loaded))

pub idle-if-empty : IdleIfEmpty
idle-if-empty =
    record {
      only =
          λ e r.
          by_turn e r (λ st. out_answer st.out ≡ idle → BothEmpty e.state)
          (λ st h q. let k = turn-idle _ _ _ _ _ _ _ _ _ _ _ st h q in record { low = k.0; high = k.1 });
      always =
          λ e r k.
          by_turn e r (λ st. out_answer st.out ≡ idle) (λ st h. turn-empty _ _ _ _ _ _ _ _ _ _ _ st h (unrefused e r).bounds k.low k.high);
    }

-- ---- both lanes get empty

-- At most so many octets are sent of a D of `size` octets and the phantom, where n data octets and z zeros of a block are to come.
abbrev rest : ℕ → ℕ → ℕ → ℕ → ℕ
rest size pos n z = n + longest (size + 1 - (pos + (n + z)))

module _ (g : Agreed) (q : LaneState) (a : List ℕ) (n z : ℕ) (fits : q.length ≤ length a) (even : n ≡ 0 → z ≡ 0) where
  abbrev d : List ℕ
  d = lane_d q a

  abbrev r : List ℕ
  r = drop q.position d

  abbrev c : Choice
  c = choice g.zxe r

  left : length r ≡ q.length + 1 - q.position
  left = length-drop q.position d ∙ ap (λ (i : ℕ). i - q.position) (bounds.data-long g q a fits)

  whole : n ≡ 0 → rest q.length q.position n z ≡ longest (length r)
  whole e =
      let at : q.length + 1 - (q.position + (n + z)) ≡ length r = omega (arith, even e, left) in
      omega (arith, ap longest at)

  -- each octet of D leaves less to send
  shrinks : (x pos n' z' : ℕ) → q.position ≤ q.length → Advance g.zxe d q.position n z x pos n' z'
      → rest q.length pos n' z' < rest q.length q.position n z
  shrinks x pos n' z' h (last e) =
      let at : q.length + 1 - (q.position + (1 + z) + (0 + 0)) ≡ q.length + 1 - (q.position + (n + z)) = omega arith in
      omega (arith, ap longest at)
  shrinks x pos n' z' h (more e f) =
      let at : q.length + 1 - (q.position + 1 + (n - 1 + z)) ≡ q.length + 1 - (q.position + (n + z)) = omega arith in
      omega (arith, ap longest at)
  shrinks x pos n' z' h (covers e f) =
      let at : q.length + 1 - (q.position + c.zeros + (n + z)) ≡ length r - (c.nonzeros + c.zeros) = omega (arith, even e, left) in
      omega (arith, ap longest at, whole e, block-cost g.zxe r c (bounds.stands g q a fits h))
  shrinks x pos n' z' h (opens e f) =
      let at : q.length + 1 - (q.position + (c.nonzeros + c.zeros)) ≡ length r - (c.nonzeros + c.zeros) = omega (arith, left) in
      omega (arith, ap longest at, whole e, block-cost g.zxe r c (bounds.stands g q a fits h))

-- a lane off the line: its D from its position on, and the flag
owed : LaneState → ℕ
owed q = cond (loaded q) (longest (q.length + 1 - q.position) + 1) 0

abbrev one : Bool → ℕ
one u = cond u 1 0

-- At most so many octets are sent until both lanes are empty, if nothing more is loaded. A low lane on the line that is broken off begins its
-- block again, after 02, the flag and D1.
due : Agreed → LaneState → LaneState → ℕ → ℕ → OnLine → (suspended cut : Bool) → ℕ
due g ql qh n z None u c = owed qh + owed ql + one u
due g ql qh n z (Some high) u c = rest qh.length qh.position n z + 1 + owed ql + one u
due g ql qh n z (Some low) u true = owed qh + owed ql + 2
due g ql qh n z (Some low) u false = cond (g.pre && loaded qh) (owed qh + owed ql + 3) (rest ql.length ql.position n z + 1 + owed qh)

abbrev due_in : Agreed → Sender → ℕ
due_in g s = due g s.low s.high s.left s.zeros s.on s.suspended s.cut

owed-loaded : (q : LaneState) (n z : ℕ) → 0 < q.length → n ≡ 0 → z ≡ 0 → owed q ≡ rest q.length q.position n z + 1
unfolding owed
owed-loaded q n z h i j =
    let at : q.length + 1 - (q.position + (n + z)) ≡ q.length + 1 - q.position = omega arith in
    rw (lt-ltb 0 q.length h) (omega (arith, ap longest at))

none-owed : (q : LaneState) → owed q ≡ 0 → q.length ≡ 0
unfolding owed
none-owed q =
    branch (λ (m : ℕ). m ≡ 0 → q.length ≡ 0) (loaded q) (λ _ e. absurd (omega arith)) (λ f _. omega (arith, ltb-false 0 q.length f))

empty-owed : (q : LaneState) → q.length ≡ 0 → owed q ≡ 0
unfolding owed
empty-owed q e = rw (le-ltb 0 q.length (omega arith))

-- no more than the calls for a frame
rest-most : (q : LaneState) (n z : ℕ) → bounds.Room q n z → rest q.length q.position n z + 1 ≤ calls_for q.length
rest-most q n z h =
    rw (ne_eqb q.length 0 (λ e. omega (arith, h.loaded)))
    (omega (arith, longest-part n (q.position + (n + z)) (q.length + 1) (omega arith) h.room, longest-frame q.length))

owed-most : (q : LaneState) → owed q ≤ calls_for q.length
unfolding owed
owed-most q =
    branch (λ (m : ℕ). m ≤ calls_for q.length) (loaded q)
    (λ e. rw (ne_eqb q.length 0 (λ i. omega (arith, ltb-true 0 q.length e))) (at_most))
    (λ e. rw (eq-eqb q.length 0 (omega (arith, ltb-false 0 q.length e))) (omega arith))
  where
    at_most : longest (q.length + 1 - q.position) + 1 ≤ q.length + 1 + q.length / 207 + 1
    at_most =
        decide (ltb (q.length + 1) q.position)
        (λ e. let at : q.length + 1 - q.position ≡ q.length + 1 - (q.length + 1) = omega (arith, ltb-true (q.length + 1) q.position e) in
        omega (arith, ap longest at, longest-part 0 (q.length + 1) (q.length + 1) (omega arith) (omega arith), longest-frame q.length))
        (λ e. omega (arith, longest-part 0 q.position (q.length + 1) (omega arith) (ltb-false (q.length + 1) q.position e), longest-frame q.length))

or-true : (b : Bool) → (b || true) ≡ true
or-true true = refl
or-true false = refl

module _ (g : Agreed) (ql qh : LaneState) (n z : ℕ) (t : Settings) (al ah : List ℕ) where
  -- steps 3 to 6 leave less to send
  high-less : (u : Bool) → qh.length ≤ length ah → bounds.Bounds g (sender ql qh n z (Some high) u false t) → (st : Step)
      → Way g high (sender ql qh n z (Some high) u false t) (lane_d qh ah) st → due_in g st.state < rest qh.length qh.position n z + 1 + owed ql + one u
  unfolding due owed
  high-less u fits b st (ends over) = omega arith
  high-less u fits b st (cuts short e pre urgent f) = bounds.low-high e
  high-less u fits b st (warns short e pre urgent f) = bounds.low-high e
  high-less u fits b st (goes x pos n' z' short v free) = omega (arith, shrinks g qh ah n z fits b.even x pos n' z' short v)

  none-waits : (pre : Bool) → (pre ≡ true → qh.length ≡ 0) → (pre && loaded qh) ≡ false
  none-waits true f = le-ltb 0 qh.length (omega (arith, f refl))
  none-waits false f = refl

  low-less : ql.length ≤ length al → bounds.Bounds g (sender ql qh n z (Some low) false false t) → (st : Step)
      → Way g low (sender ql qh n z (Some low) false false t) (lane_d ql al) st → due_in g st.state < due g ql qh n z (Some low) false false
  unfolding due owed
  low-less fits b st (ends over) = branch (λ (m : ℕ). owed qh + 0 + 0 < m) (g.pre && loaded qh) (λ _. omega arith) (λ _. omega arith)
  low-less fits b st (cuts short e pre urgent f) = rw (pre, lt-ltb 0 qh.length urgent) (omega arith)
  low-less fits b st (warns short e pre urgent f) = rw (pre, lt-ltb 0 qh.length urgent) (omega arith)
  low-less fits b st (goes x pos n' z' short v free) =
      rw (none-waits g.pre (λ e. free refl e)) (omega (arith, shrinks g ql al n z fits b.even x pos n' z' short v))

  -- a low lane comes on the line, with nothing in the high one
  low-enters : qh.length ≡ 0 → 0 < ql.length → n ≡ 0 → z ≡ 0 → due g ql qh n z (Some low) false false ≡ owed ql + owed qh
  unfolding due
  low-enters k h i j = rw (none-waits g.pre (λ _. k)) (omega (arith, owed-loaded ql n z h i j))

  -- and so does every call, unless there is nothing to send
  turn-less : ql.length ≤ length al → qh.length ≤ length ah → (o : OnLine) (u c : Bool) (st : Step) → Turn g ql qh n z t al ah o u c st
      → bounds.Bounds g (sender ql qh n z o u c t) → due_in g st.state ≤ due g ql qh n z o u c - 1
  unfolding due
  turn-less hl hh None u c st cut-due b = true-false b.line.2
  turn-less hl hh (Some high) u c st cut-due b = true-false b.line.1
  turn-less hl hh (Some low) u c st cut-due b = omega arith
  turn-less hl hh o true c st (idles h k) b = absurd (omega (arith, b.waits refl))
  turn-less hl hh o false c st (idles h k) b = omega (arith, empty-owed qh h, empty-owed ql k)
  turn-less hl hh o u c st (resumes-low k h) b = omega (arith, low-enters k h b.line.0 b.line.1)
  turn-less hl hh o u c st (begins-high h w) b =
      omega (arith, high-less u hh (bounds.enter-high g ql qh n z t u h b) st w, owed-loaded qh n z h b.line.0 b.line.1)
  turn-less hl hh o u c st (begins-low k h w) b =
      omega (arith, low-less hl (bounds.enter-low g ql qh n z t false h b) st w, low-enters k h b.line.0 b.line.1)
  turn-less hl hh o u c st (high-on w) b = omega (arith, high-less u hh b st w)
  turn-less hl hh o true c st (low-on w) b = true-false b.line.1
  turn-less hl hh o false c st (low-on w) b = omega (arith, low-less hl b st w)

  -- nothing is due: both lanes are empty
  none-due : (o : OnLine) (u c : Bool) → due g ql qh n z o u c ≡ 0 → (ql.length ≡ 0) × (qh.length ≡ 0)
  unfolding due
  none-due None u c e = (none-owed ql (omega arith), none-owed qh (omega arith))
  none-due (Some high) u c e = absurd (omega arith)
  none-due (Some low) u true e = absurd (omega arith)
  none-due (Some low) u false e =
      branch (λ (m : ℕ). m ≡ 0 → (ql.length ≡ 0) × (qh.length ≡ 0)) (g.pre && loaded qh) (λ _ i. absurd (omega arith)) (λ _ i. absurd (omega arith)) e

  -- no more is due than the calls that are told
  most-due : (o : OnLine) (u c : Bool) → bounds.Bounds g (sender ql qh n z o u c t)
      → due g ql qh n z o u c ≤ calls_for qh.length + calls_for ql.length + cond (loaded ql && (loaded qh || u || c)) 3 0
  unfolding due
  most-due None true c b = rw (lt-ltb 0 ql.length (b.waits refl), or-true (loaded qh)) (omega (arith, owed-most ql, owed-most qh))
  most-due None false c b = omega (arith, owed-most ql, owed-most qh)
  most-due (Some high) true c b =
      rw (lt-ltb 0 ql.length (b.waits refl), or-true (loaded qh)) (omega (arith, owed-most ql, rest-most qh n z b.line.0))
  most-due (Some high) false c b = omega (arith, owed-most ql, rest-most qh n z b.line.0)
  most-due (Some low) u true b =
      rw (lt-ltb 0 ql.length b.line.0.loaded, or-true (loaded qh || u)) (omega (arith, owed-most ql, owed-most qh))
  most-due (Some low) u false b =
      branch (λ (m : ℕ). m ≤ calls_for qh.length + calls_for ql.length + cond (loaded ql && (loaded qh || u || false)) 3 0) (g.pre && loaded qh)
      (λ e. rw (lt-ltb 0 ql.length b.line.0.loaded, and_right g.pre (loaded qh) e) (omega (arith, owed-most ql, owed-most qh)))
      (λ _. omega (arith, owed-most qh, rest-most ql n z b.line.0))

after-calls : (n : ℕ) (w : Station) → SenderReady w.end → due_in (agreed w.end.state.settings) w.end.state ≤ n
    → BothEmpty (run w (replicate n next_octet)).end.state
unfolding run after_next
after-calls zero w r h =
    let s = w.end.state in
    let k = none-due (agreed s.settings) s.low s.high s.left s.zeros s.settings w.end.low w.end.high s.on s.suspended s.cut (omega arith) in
    record { low = k.0; high = k.1 }
after-calls (suc n) w r h =
    let e = w.end in
    let s = e.state in
    let g = agreed s.settings in
    let u = unrefused e r in
    let same : agreed (next e).state.settings ≡ g = ap agreed (bounds.next-keeps g e refl u.bounds).settings in
    let less : due_in g (next e).state ≤ due_in g s - 1 =
    by_turn e r (λ st. due_in g st.state ≤ due_in g s - 1)
    (λ st t. turn-less g s.low s.high s.left s.zeros s.settings e.low e.high u.low u.high s.on s.suspended s.cut st t u.bounds) in
    after-calls n (after_next w) (ready_on w r) (rw same (omega arith))

pub emptied : Emptied
emptied w r n h =
    let e = w.end in
    let s = e.state in
    after-calls n w r
    (omega (
      arith,
      most-due (agreed s.settings) s.low s.high s.left s.zeros s.settings e.low e.high s.on s.suspended s.cut (unrefused e r).bounds,
    ))
