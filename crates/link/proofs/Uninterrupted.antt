-- A frame that nothing interrupts: the calls of next octet send its blocks, octet by octet, and the flag; so they do from any place of it.
use mathlib.Core.Path.{◌≡◌, refl, sym, ap, subst, ◌∙◌}
use mathlib.Core.Bool.{Bool, true, false, cond, ◌&&◌}
use mathlib.Core.List.{List, [], ◌∷◌}
use Prim.Native.Nat.{ℕ, suc, ◌+◌, ◌-◌, ◌≤◌, ◌<◌}
use native.Mathlib.Numerals.{add-one}
use native.Mathlib.Omega.{arith}
use borrow.Author.Tests.{ltb-true}
use lib.ListN.{length, take, drop, get_or, length-append}
use lib.Seq.{take-nil, length-take-le, drop-cons}
use Rattle.std.specs.Prelude.{Some, None}
use Rattle.cobs.specs.CodeBlocks.{with_phantom, to_line, choice, line_octets, blocks, uninterrupted}
use Rattle.cobs.proofs.Blocks.{on-line-nil, on-line-cons}
use Rattle.cobs.proofs.Frame.{frame-sent, frame-next, frame-end}
use Rattle.link.specs.Agreed.{Settings, Agreed, agreed}
use Rattle.link.specs.Answers.{refused}
use Rattle.link.specs.Sender.{Lane, low, high, OnLine, LaneState, Sender, SenderEnd, Load, Step, Out, closes, sends, lane_state, lane_area, lane_d, with_lane, with_block, with_line, put_frame}
use Rattle.link.specs.SenderParts.{SenderReady}
use Rattle.link.specs.Runs.{SenderCall, loading, next_octet, Station, same_lane, is_done, loaded_by, after_step, after_load, after_next, loaded_into, writes, written}
use Rattle.link.specs.Progress.{next_calls, SendsOf, SentUninterrupted, still_to_send, RestUninterrupted}
use Rattle.link.proofs.Tests.{true-false}
use Rattle.link.proofs.Way.{Advance, last, more, covers, opens, Way, ends, cuts, warns, goes, sender, Turn, cut-due, idles, resumes-low, begins-high, begins-low, high-on, low-on, line-free, not-high}
use Rattle.link.proofs.SenderBounds as bounds
use Rattle.link.proofs.Progress.{unrefused, by_turn, ready_on, ready-put}

-- ---- what is still to be sent of a frame

module _ (zxe : Bool) (f : List ℕ) where
  abbrev d : List ℕ
  d = with_phantom f

  abbrev to_send : (pos n z : ℕ) → List ℕ
  to_send = still_to_send zxe d

  -- without data, the blocks from a place on
  no-data : (pos n z i : ℕ) → n ≡ 0 → pos + z ≡ i → to_send pos n z ≡ line_octets (blocks zxe (drop i d))
  unfolding still_to_send
  no-data pos n z i e at = let from : pos + (0 + z) ≡ i = omega arith in rw (e, from)

  data-first : (pos n z : ℕ) → pos ≤ length f → to_send pos (suc n) z ≡ to_line (get_or d pos 0) ∷ to_send (pos + 1) n z
  unfolding still_to_send
  data-first pos n z h =
      let at : pos + (suc n + z) ≡ suc pos + (n + z) = omega arith in
      rw (drop-cons d pos 0 (omega (arith, length-append f (0 ∷ []))), add-one pos, at)

  code-first : (pos n z : ℕ) → pos ≤ length f → n ≡ 0 → z ≡ 0
      → (let c = choice zxe (drop pos d) in to_send pos n z ≡ to_line c.code ∷ to_send pos c.nonzeros c.zeros)
  unfolding still_to_send
  code-first pos n z h e k = no-data pos n z pos e (omega arith) ∙ (ap line_octets (frame-next zxe f pos h) ∙ on-line-cons _ _)

  -- the octet that is sent is the first of them, and the others are to be sent behind it
  sends-first : (pos n z x pos' n' z' : ℕ) → pos ≤ length f → (n ≡ 0 → z ≡ 0) → Advance zxe d pos n z x pos' n' z'
      → to_send pos n z ≡ to_line x ∷ to_send pos' n' z'
  sends-first pos n z x pos' n' z' h even (last e) =
      rw e (data-first pos 0 z h ∙ ap (λ (l : List ℕ). to_line (get_or d pos 0) ∷ l) (no-data (pos + 1) 0 z (pos + 1 + z) refl refl ∙ sym (no-data (pos + (1 + z)) 0 0 (pos + 1 + z) refl (omega arith))))
  sends-first pos n z x pos' n' z' h even (more e k) =
      let is : n ≡ suc (n - 1) = omega arith in
      ap (λ (m : ℕ). to_send pos m z) is ∙ data-first pos (n - 1) z h
  sends-first pos n z x pos' n' z' h even (covers e k) =
      let c = choice zxe (drop pos d) in
      code-first pos n z h e (even e)
      ∙ ap (λ (l : List ℕ). to_line c.code ∷ l) (no-data pos c.nonzeros c.zeros (pos + c.zeros) k refl ∙ sym (no-data (pos + c.zeros) n z (pos + c.zeros) e (omega (arith, even e))))
  sends-first pos n z x pos' n' z' h even (opens e k) = code-first pos n z h e (even e)

  -- behind D there is none
  none_left : (pos n z : ℕ) → length f < pos → n ≡ 0 → z ≡ 0 → to_send pos n z ≡ []
  none_left pos n z h e k = no-data pos n z pos e (omega arith) ∙ (ap line_octets (frame-end zxe f pos h) ∙ on-line-nil)

-- ---- a lane on the line

module _ (g : Agreed) (ql qh : LaneState) (n z : ℕ) (t : Settings) (al ah : List ℕ) where
  abbrev end : OnLine → Bool → Bool → SenderEnd
  end o u c = record { state = sender ql qh n z o u c t; low = al; high = ah }

  -- it goes on
  goes_on : (l : Lane) (o : OnLine) (u c : Bool) (st : Step) → Turn g ql qh n z t al ah o u c st → o ≡ Some l → c ≡ false
      → Way g l (sender ql qh n z o u c t) (lane_d (lane_state l (sender ql qh n z o u c t)) (lane_area l (end o u c))) st
  goes_on l o u c st cut-due i j = true-false j
  goes_on l o u c st (idles h k) i j = line-free l (sym i)
  goes_on l o u c st (resumes-low k h) i j = line-free l (sym i)
  goes_on l o u c st (begins-high h w) i j = line-free l (sym i)
  goes_on l o u c st (begins-low k h w) i j = line-free l (sym i)
  goes_on low o u c st (high-on w) i j = not-high i
  goes_on high o u c st (high-on w) i j = w
  goes_on low o u c st (low-on w) i j = w
  goes_on high o u c st (low-on w) i j = not-high (sym i)

  -- or begins
  goes_first : (l : Lane) (o : OnLine) (u c : Bool) (st : Step) → Turn g ql qh n z t al ah o u c st → o ≡ None → c ≡ false
      → 0 < (lane_state l (sender ql qh n z o u c t)).length → (l ≡ low → qh.length ≡ 0) → (l ≡ low → u ≡ false)
      → Way g l (sender ql qh n z (Some l) u c t) (lane_d (lane_state l (sender ql qh n z o u c t)) (lane_area l (end o u c))) st
  goes_first l o u c st cut-due i j some free new = true-false j
  goes_first low o u c st (idles h k) i j some free new = absurd (omega arith)
  goes_first high o u c st (idles h k) i j some free new = absurd (omega arith)
  goes_first low o u c st (resumes-low k h) i j some free new = true-false (new refl)
  goes_first high o u c st (resumes-low k h) i j some free new = absurd (omega arith)
  goes_first low o u c st (begins-high h w) i j some free new = absurd (omega (arith, free refl))
  goes_first high o u c st (begins-high h w) i j some free new = w
  goes_first low o u c st (begins-low k h w) i j some free new = w
  goes_first high o u c st (begins-low k h w) i j some free new = absurd (omega arith)
  goes_first l o u c st (high-on w) i j some free new = line-free high i
  goes_first l o u c st (low-on w) i j some free new = line-free low i

-- ---- one call

-- the state after an octet of D: the lane moved
record LaneMoved (l : Lane) (q : LaneState) (s t : Sender) : Type 0 where
  lane : lane_state l t ≡ q
  on : t.on ≡ s.on
  cut : t.cut ≡ s.cut
  urgent : l ≡ low → t.high ≡ s.high

moved : (l : Lane) (q : LaneState) (n z : ℕ) (s : Sender) → LaneMoved l q s (with_block n z (with_lane l q s))
moved low q n z s = record { lane = refl; on = refl; cut = refl; urgent = λ _. refl }
moved high q n z s = record { lane = refl; on = refl; cut = refl; urgent = bounds.low-high }

area-stays : (l : Lane) (w : Station) (st : Step) → lane_area l (after_step w st).end ≡ lane_area l w.end
area-stays low w st = refl
area-stays high w st = refl

lane-fits : (l : Lane) (e : SenderEnd) → SenderReady e → (lane_state l e.state).length ≤ length (lane_area l e)
lane-fits low e r = (unrefused e r).low
lane-fits high e r = (unrefused e r).high

lane_room : (l : Lane) (s : Sender) → s.on ≡ Some l → bounds.LineOk s.on s.low s.high s.left s.zeros s.suspended s.cut
    → bounds.Room (lane_state l s) s.left s.zeros
lane_room low s e b = (rw e at b).0
lane_room high s e b = (rw e at b).0

module _ (g : Agreed) (l : Lane) (f : List ℕ) where
  -- the lane l is on the line, and nothing urgent breaks it off
  record Unbroken (s : Sender) : Type 0 where
    on : s.on ≡ Some l
    cut : s.cut ≡ false
    free : l ≡ low → g.pre ≡ true → s.high.length ≡ 0

  -- with the frame f
  record OnLineWith (s : Sender) : Type 0 where
    line : Unbroken s
    long : (lane_state l s).length ≡ length f
    even : s.left ≡ 0 → s.zeros ≡ 0
    room : (lane_state l s).position + (s.left + s.zeros) ≤ length f + 1

  record InFrame (e : SenderEnd) : Type 0 where
    agrees : agreed e.state.settings ≡ g
    ready : SenderReady e
    area : take (lane_state l e.state).length (lane_area l e) ≡ f
    line : Unbroken e.state

  ahead : Sender → List ℕ
  ahead s = to_send g.zxe f (lane_state l s).position s.left s.zeros

  -- no load of these calls can break it off
  abbrev NoneUrgent : Station → List SenderCall → Type 0
  NoneUrgent w cs = l ≡ low → g.pre ≡ true → loaded_into high w cs ≡ []

  abbrev Sends : Station → List SenderCall → List ℕ → Type 0
  Sends w cs octets = SendsOf l octets (next_calls cs) (written w cs)

  -- a call that is not refused, and those behind it
  Through : List ℕ → Station → List SenderCall → Step → Type 0
  Through octets w cs st =
      agreed st.state.settings ≡ g → SenderReady (after_step w st).end → NoneUrgent (after_step w st) cs
      → SendsOf l octets (next_calls cs + 1) (writes st.out w (written (after_step w st) cs))

  through : (octets : List ℕ) (w : Station) (cs : List SenderCall) → agreed w.end.state.settings ≡ g → SenderReady w.end → NoneUrgent w (next_octet ∷ cs)
      → (let e = w.end in
      let s = e.state in
      (st : Step) → Turn g s.low s.high s.left s.zeros s.settings e.low e.high s.on s.suspended s.cut st → Through octets w cs st)
      → Sends w (next_octet ∷ cs) octets
  unfolding Through written loaded_into next_calls after_next
  through octets w cs agrees r none h =
      let e = w.end in
      let s = e.state in
      by_turn e r (Through octets w cs)
      (λ st t.
      h st (subst (λ (a : Agreed). Turn a s.low s.high s.left s.zeros s.settings e.low e.high s.on s.suspended s.cut st) agrees t))
      (ap agreed (bounds.next-keeps (agreed s.settings) e refl (unrefused e r).bounds).settings ∙ agrees)
      (ready_on w r) none

  one-call : (octets : List ℕ) (w : Station) (cs : List SenderCall) (s : Sender) (st : Step) → Way g l s (with_phantom f) st → OnLineWith s → ahead s ≡ octets
      → take (lane_state l s).length (lane_area l w.end) ≡ f
      → ((v : Station) (rest : List ℕ) → InFrame v.end → ahead v.end.state ≡ rest → NoneUrgent v cs → Sends v cs rest)
      → Through octets w cs st
  unfolding Through ahead
  one-call octets w cs s st (ends over) i is area ih agrees ready none =
      let q = lane_state l s in
      let all : octets ≡ [] = sym is ∙ none_left g.zxe f q.position s.left s.zeros (omega (arith, i.long)) (omega (arith, i.long, i.room)) (omega (arith, i.long, i.room)) in
      rw (all, add-one (next_calls cs)) (ap (λ (os : List Out). closes l ∷ os) (sym (take-nil (next_calls cs))))
  one-call octets w cs s st (cuts short e pre urgent k) i is area ih agrees ready none = absurd (omega (arith, i.line.free e pre))
  one-call octets w cs s st (warns short e pre urgent k) i is area ih agrees ready none = absurd (omega (arith, i.line.free e pre))
  one-call octets w cs s st (goes x pos n z short v free) i is area ih agrees ready none =
      let q = lane_state l s in
      let m = moved l (record { length = q.length; position = pos }) n z s in
      let rest = to_send g.zxe f pos n z in
      let all : octets ≡ to_line x ∷ rest = sym is ∙ sends-first g.zxe f q.position s.left s.zeros x pos n z (omega (arith, i.long)) i.even v in
      let size : suc (length rest) + 1 ≡ suc (length rest + 1) = omega arith in
      rw (all, add-one (next_calls cs), size)
      (ap (λ (os : List Out). sends l (to_line x) ∷ os)
      (ih (after_step w st) rest
      (record {
        agrees = agrees;
        ready = ready;
        area = rw (m.lane, area-stays l w st) area;
        line =
            record {
              on = m.on ∙ i.line.on;
              cut = m.cut ∙ i.line.cut;
              free = λ e pre. ap (λ (h : LaneState). h.length) (m.urgent e) ∙ i.line.free e pre;
            };
      })
      (rw m.lane) none))

  -- ---- one call after another

  lane-long : (e : SenderEnd) → SenderReady e → take (lane_state l e.state).length (lane_area l e) ≡ f → (lane_state l e.state).length ≡ length f
  lane-long e r area = sym (length-take-le (lane_state l e.state).length (lane_area l e) (lane-fits l e r)) ∙ ap length area

  facts : (e : SenderEnd) → InFrame e → OnLineWith e.state
  facts e i =
      let long = lane-long e i.ready i.area in
      let b = (unrefused e i.ready).bounds in
      record { line = i.line; long = long; even = b.even; room = rw (← long) (lane_room l e.state i.line.on b.line).room }

-- a load that is Done, into the other lane
put_keeps : (g : Agreed) (l k : Lane) (f : List ℕ) (w : Station) (p : List ℕ) → InFrame g l f w.end
    → (let s = w.end.state in
    let a = agreed s.settings in
    let v = loaded_by (put_frame a k p s (lane_area k w.end)) k p w in
    bounds.Accepts a k p s → (l ≡ low → k ≡ high → g.pre ≡ true → ⊥) → InFrame g l f v.end × (ahead g l f v.end.state ≡ ahead g l f s))
unfolding ahead put_frame
put_keeps g low low f w p i k none = absurd (omega (arith, k.free, (lane_room low w.end.state i.line.on (unrefused w.end i.ready).bounds.line).loaded))
put_keeps g high high f w p i k none = absurd (omega (arith, k.free, (lane_room high w.end.state i.line.on (unrefused w.end i.ready).bounds.line).loaded))
put_keeps g low high f w p i k none = (
  record {
    agrees = i.agrees;
    ready = ready-put w i.ready high p k;
    area = i.area;
    line = record { on = i.line.on; cut = i.line.cut; free = λ e pre. absurd (none e refl pre) };
  },
  refl,
)
put_keeps g high low f w p i k none = (
  record {
    agrees = i.agrees;
    ready = ready-put w i.ready low p k;
    area = i.area;
    line = record { on = i.line.on; cut = i.line.cut; free = λ e. bounds.low-high e };
  },
  refl,
)

-- a refused load changes nothing
refused-same : (k : Lane) (n : ℕ) (p : List ℕ) (w : Station)
    → loaded_by (record { answer = refused n; state = w.end.state; area = lane_area k w.end }) k p w ≡ w
refused-same low n p w = refl
refused-same high n p w = refl

-- where the calls load nothing, the first of them does not, and nor do the others
none_after : (b : Bool) (p : List ℕ) (ps : List (List ℕ)) → cond b (p ∷ ps) ps ≡ [] → ps ≡ []
none_after true p ps e = absurd (let z : ◌≡◌ {A = ℕ} 0 1 = cc in omega arith)
none_after false p ps e = e

none-high : (k : Lane) (p : List ℕ) (ps : List (List ℕ)) → cond (same_lane high k && true) (p ∷ ps) ps ≡ [] → k ≡ high → ⊥
none-high low p ps e q = bounds.low-high (sym q)
none-high high p ps e q = absurd (let z : ◌≡◌ {A = ℕ} 0 1 = cc in omega arith)

module _ (g : Agreed) (l : Lane) (f : List ℕ) where
  along : (cs : List SenderCall) (w : Station) (octets : List ℕ) → InFrame g l f w.end → ahead g l f w.end.state ≡ octets → NoneUrgent g l f w cs → Sends g l f w cs octets
  unfolding next_calls written loaded_into after_load put_frame
  along [] w octets i is none = take-nil (length octets + 1)
  along (loading k p ∷ cs) w octets i is none =
      let e = w.end in
      let s = e.state in
      let Loads : Load → Type 0 =
      (λ t. (l ≡ low → g.pre ≡ true → cond (same_lane high k && is_done t.answer) (p ∷ loaded_into high (loaded_by t k p w) cs) (loaded_into high (loaded_by t k p w) cs) ≡ [])
      → Sends g l f (loaded_by t k p w) cs octets) in
      bounds.by-load (agreed s.settings) k p s (lane_area k e) Loads refl
      (λ n free.
      let same = refused-same k n p w in
      subst (λ (v : Station). NoneUrgent g l f v cs → Sends g l f v cs octets) (sym same) (along cs w octets i is) (λ q pre. none_after (same_lane high k && false) p _ (free q pre)))
      (λ a free.
      let v = put_keeps g l k f w p i a (λ q r pre. none-high k p _ (free q pre) r) in
      along cs _ octets v.0 (v.1 ∙ is) (λ q pre. none_after (same_lane high k && true) p _ (free q pre)))
      none
  along (next_octet ∷ cs) w octets i is none =
      let e = w.end in
      let s = e.state in
      through g l f octets w cs i.agrees i.ready none
      (λ st t.
      let way = goes_on g s.low s.high s.left s.zeros s.settings e.low e.high l s.on s.suspended s.cut st t i.line.on i.line.cut in
      one-call g l f octets w cs s st (subst (λ (a : List ℕ). Way g l s (with_phantom a) st) i.area way) (facts g l f e i) is i.area (along cs))

-- ---- from the first

lane-same : (l : Lane) (o : OnLine) (s : Sender) → lane_state l (with_line o s) ≡ lane_state l s
lane-same low o s = refl
lane-same high o s = refl

pub sent-uninterrupted : SentUninterrupted
unfolding ahead next_calls loaded_into
sent-uninterrupted l w r b calls none =
    let e = w.end in
    let s = e.state in
    let g = agreed s.settings in
    let q = lane_state l s in
    let f = take q.length (lane_area l e) in
    let octets = uninterrupted g.zxe f in
    let n = (unrefused e r).bounds in
    let line : bounds.LineOk None s.low s.high s.left s.zeros s.suspended s.cut = rw b.free at n.line in
    let same = lane-same l (Some l) s in
    let begins : OnLineWith g l f (with_line (Some l) s) =
    record {
      line = record { on = refl; cut = line.2; free = λ h _. b.high_empty h };
      long = rw same (lane-long g l f e r refl);
      even = n.even;
      room = rw same (omega (arith, b.start, line.0, line.1));
    } in
    let is : ahead g l f (with_line (Some l) s) ≡ octets =
    rw same (no-data g.zxe f q.position s.left s.zeros 0 line.0 (omega (arith, b.start, line.1)) ∙ sym (frame-sent g.zxe f)) in
    through g l f octets w calls refl r none
    (λ st t.
    one-call g l f octets w calls (with_line (Some l) s) st
    (goes_first g s.low s.high s.left s.zeros s.settings e.low e.high l s.on s.suspended s.cut st t b.free line.2
    (ltb-true 0 q.length b.holds) b.high_empty b.not_suspended)
    begins is (rw same) (along g l f calls))

pub rest-uninterrupted : RestUninterrupted
unfolding ahead
rest-uninterrupted l w r on cut calls none =
    let s = w.end.state in
    let q = lane_state l s in
    let g = agreed s.settings in
    let f = take q.length (lane_area l w.end) in
    along g l f calls w _
    (record {
      agrees = refl;
      ready = r;
      area = refl;
      line = record { on = on; cut = cut; free = λ e pre. (none e pre).0 };
    })
    refl (λ e pre. (none e pre).1)
