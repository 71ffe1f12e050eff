-- Urgent packets go first.
use mathlib.Core.Path.{◌≡◌, refl, sym, ap, ◌∙◌}
use mathlib.Core.Bool.{Bool, true, false, cond}
use mathlib.Core.Logic.{◌⊎◌, inl, inr, ⊎_elim}
use mathlib.Core.List.Memᴰ
use mathlib.Core.List.{List, [], ◌∷◌, Memᴰ}
use mathlib.Core.Option.{Option}
use Prim.Native.Nat.{ℕ, zero, suc, ◌≤◌, ◌<◌}
use native.Mathlib.Omega.{arith}
use borrow.Author.Tests.{ltb-true, lt-ltb, le-ltb}
use lib.Dec.{ltb}
use lib.ListN.{replicate}
use Rattle.std.specs.Prelude.{Some, None}
use Rattle.link.specs.Agreed.{Settings, Agreed, agreed}
use Rattle.link.specs.Answers.{done}
use Rattle.link.specs.Sender.{Lane, low, high, OnLine, LaneState, Sender, Out, closes, breaks_off, sends, sends_nothing, refuses, Step, lane_d, load, next, put_frame}
use Rattle.link.specs.SenderParts.{SenderReady}
use Rattle.link.specs.Runs.{Station, Written, SenderCall, loading, next_octet, writes, written, sent_by, is_of, loaded_by, after_load, after_next}
use Rattle.link.specs.Progress.{broken_off_after, OnlyHighUntilD1, UrgentFirst}
use Rattle.link.proofs.Tests.{if-so, if-not, true-false, false-true}
use Rattle.link.proofs.Way.{Way, ends, cuts, warns, goes, sender, Turn, cut-due, idles, resumes-low, begins-high, begins-low, high-on, low-on, line-free, not-high, by_next}
use Rattle.link.proofs.Follow.{frame-long}
use Rattle.link.proofs.SenderBounds as bounds
use Rattle.link.proofs.Sound.{station, Sound, by-load, sound-fresh, sound-load, sound-next}
use Rattle.link.proofs.Progress.{unrefused, by_turn, ready_on, ready-put}

-- ---- with the line free

way-high : (g : Agreed) (s : Sender) (d : List ℕ) (st : Step) → Way g high s d st → is_of high st.out ≡ true
way-high g s d st (ends over) = refl
way-high g s d st (cuts short e pre urgent f) = bounds.low-high e
way-high g s d st (warns short e pre urgent f) = bounds.low-high e
way-high g s d st (goes x pos n z short v free) = refl

module _ (g : Agreed) (ql qh : LaneState) (n z : ℕ) (t : Settings) (al ah : List ℕ) where
  turn-free : (o : OnLine) (u c : Bool) (st : Step) → Turn g ql qh n z t al ah o u c st → bounds.Bounds g (sender ql qh n z o u c t) → o ≡ None → 0 < qh.length
      → is_of high st.out ≡ true
  turn-free None u c st cut-due b e h = true-false b.line.2
  turn-free (Some l) u c st cut-due b e h = line-free l e
  turn-free o u c st (idles i j) b e h = absurd (omega arith)
  turn-free o u c st (resumes-low i j) b e h = absurd (omega arith)
  turn-free o u c st (begins-high j w) b e h = way-high g _ _ st w
  turn-free o u c st (begins-low i j w) b e h = absurd (omega arith)
  turn-free o u c st (high-on w) b e h = line-free high e
  turn-free o u c st (low-on w) b e h = line-free low e

-- ---- with low on the line

module _ (g : Agreed) (ql qh : LaneState) (n z : ℕ) (t : Settings) (al ah : List ℕ) (pre : g.pre ≡ true) (h : 0 < qh.length) (short : ql.position ≤ ql.length) where
  way-gives : (u : Bool) (d : List ℕ) (st : Step) → Way g low (sender ql qh n z (Some low) u false t) d st
      → st.out ≡ cond (ltb 0 n) breaks_off (sends low 0x02)
  way-gives u d st (ends over) = absurd (omega arith)
  way-gives u d st (cuts k e p urgent f) = sym (if-so _ _ _ (lt-ltb 0 n f))
  way-gives u d st (warns k e p urgent f) = sym (if-not _ _ _ (le-ltb 0 n (omega arith)))
  way-gives u d st (goes x pos n' z' k v free) = absurd (omega (arith, free refl pre))

  turn-gives : (o : OnLine) (u c : Bool) (st : Step) → Turn g ql qh n z t al ah o u c st → o ≡ Some low → c ≡ false
      → st.out ≡ cond (ltb 0 n) breaks_off (sends low 0x02)
  turn-gives o u c st cut-due e f = true-false f
  turn-gives o u c st (idles i j) e f = absurd (omega arith)
  turn-gives o u c st (resumes-low i j) e f = absurd (omega arith)
  turn-gives o u c st (begins-high j w) e f = line-free low (sym e)
  turn-gives o u c st (begins-low i j w) e f = absurd (omega arith)
  turn-gives o u c st (high-on w) e f = not-high e
  turn-gives o u c st (low-on w) e f = way-gives u (lane_d ql al) st w

-- ---- how far the line is from free

-- with low on the line 02, with a cut due the flag, then the high lane's first octet
abbrev away : OnLine → Bool → ℕ
away None c = 1
away (Some low) true = 2
away (Some low) false = 3
away (Some high) c = 0

record Nearer (n : ℕ) (s : Sender) : Type 0 where
  nearer : away s.on s.cut < n
  before : 0 < away s.on s.cut
  waits : 0 < s.high.length

module _ (g : Agreed) (ql qh : LaneState) (n z : ℕ) (t : Settings) (al ah : List ℕ) (pre : g.pre ≡ true) (h : 0 < qh.length) where
  way-nearer : (st : Step) → Way g low (sender ql qh n z (Some low) false false t) (lane_d ql al) st → Nearer 3 st.state
  way-nearer st (ends over) = record { nearer = omega arith; before = omega arith; waits = h }
  way-nearer st (cuts short e p urgent f) = record { nearer = omega arith; before = omega arith; waits = h }
  way-nearer st (warns short e p urgent f) = record { nearer = omega arith; before = omega arith; waits = h }
  way-nearer st (goes x pos n' z' short v free) = absurd (omega (arith, free refl pre))

  turn-nearer : (o : OnLine) (u c : Bool) (st : Step) → Turn g ql qh n z t al ah o u c st → bounds.Bounds g (sender ql qh n z o u c t) → 0 < away o c
      → (is_of high st.out ≡ true) ⊎ Nearer (away o c) st.state
  turn-nearer None u c st cut-due b k = true-false b.line.2
  turn-nearer (Some high) u c st cut-due b k = true-false b.line.1
  turn-nearer (Some low) u c st cut-due b k = inr (record { nearer = omega arith; before = omega arith; waits = h })
  turn-nearer o u c st (idles i j) b k = absurd (omega arith)
  turn-nearer o u c st (resumes-low i j) b k = absurd (omega arith)
  turn-nearer o u c st (begins-high j w) b k = inl (way-high g _ _ st w)
  turn-nearer o u c st (begins-low i j w) b k = absurd (omega arith)
  turn-nearer o u c st (high-on w) b k = inl (way-high g _ _ st w)
  turn-nearer o true c st (low-on w) b k = true-false b.line.1
  turn-nearer o false c st (low-on w) b k = inr (way-nearer st w)

-- ---- the first octet of an urgent packet

abbrev HighIn : List Written → Type 0
HighIn es = Memᴰ true (sent_by high es)

writes-high : (o : Out) (w : Station) (es : List Written) → is_of high o ≡ true → HighIn (writes o w es)
writes-high (closes l) w es e = Memᴰ.head (sym e)
writes-high breaks_off w es e = Memᴰ.head (sym e)
writes-high (sends l x) w es e = Memᴰ.head (sym e)
writes-high sends_nothing w es e = false-true e
writes-high (refuses n) w es e = false-true e

writes_later : (o : Out) (w : Station) (es : List Written) → HighIn es → HighIn (writes o w es)
writes_later (closes l) w es m = Memᴰ.tail m
writes_later breaks_off w es m = Memᴰ.tail m
writes_later (sends l x) w es m = Memᴰ.tail m
writes_later sends_nothing w es m = m
writes_later (refuses n) w es m = m

soon : (k : ℕ) (w : Station) → SenderReady w.end → (agreed w.end.state.settings).pre ≡ true → 0 < w.end.state.high.length
    → 0 < away w.end.state.on w.end.state.cut → away w.end.state.on w.end.state.cut ≤ k → HighIn (written w (replicate k next_octet))
unfolding written after_next
soon zero w r pre h i j = absurd (omega arith)
soon (suc k) w r pre h i j =
    let e = w.end in
    let s = e.state in
    let u = unrefused e r in
    ⊎_elim (λ q. writes-high (next e).out w _ q)
    (λ q.
    writes_later (next e).out w _
    (soon k (after_next w) (ready_on w r)
    (ap (λ (t : Settings). (agreed t).pre) (bounds.next-keeps (agreed s.settings) e refl u.bounds).settings ∙ pre)
    q.waits q.before (omega (arith, q.nearer))))
    (by_turn e r (λ st. (is_of high st.out ≡ true) ⊎ Nearer (away s.on s.cut) st.state)
    (λ st t.
    turn-nearer (agreed s.settings) s.low s.high s.left s.zeros s.settings e.low e.high pre h s.on s.suspended s.cut st t u.bounds i))

-- a packet that was just loaded
off-away : (o : OnLine) (u c : Bool) → bounds.HighOff o u c → (0 < away o c) × (away o c ≤ 3)
off-away o u c bounds.high-off₁ = (omega arith, omega arith)
off-away o u c bounds.high-off₂ = (omega arith, omega arith)
off-away o u c bounds.high-off₃ = (omega arith, omega arith)

module _ (w : Station) (r : SenderReady w.end) (pre : (agreed w.end.state.settings).pre ≡ true) (p : List ℕ) where
  abbrev s : Sender
  s = w.end.state

  abbrev g : Agreed
  g = agreed s.settings

  accepted : bounds.Accepts g high p s → HighIn (written (loaded_by (put_frame g high p s w.end.high) high p w) (replicate 3 next_octet))
  unfolding put_frame
  accepted k =
      let b = (unrefused w.end r).bounds in
      let off = off-away s.on s.suspended s.cut (bounds.high-off s.low s.high s.left s.zeros s.on s.suspended s.cut k.free b.line) in
      soon 3 (loaded_by (put_frame g high p s w.end.high) high p w)
      (ready-put w r high p k) pre (omega (arith, frame-long g p, k.big)) off.0 off.1

  soon-loaded : (load high p s w.end.high).answer ≡ done → HighIn (written (after_load high p w) (replicate 3 next_octet))
  unfolding after_load
  soon-loaded =
      bounds.by-load g high p s w.end.high (λ t. t.answer ≡ done → HighIn (written (loaded_by t high p w) (replicate 3 next_octet))) refl
      (λ n q. absurd (let z : ◌≡◌ {A = ℕ} 0 1 = cc in omega arith)) (λ k _. accepted k)

-- ---- without PRE nothing is broken off

way-whole : (g : Agreed) (l : Lane) (s : Sender) (d : List ℕ) (st : Step) → g.pre ≡ false → Way g l s d st → st.out ≡ breaks_off → ⊥
way-whole g l s d st off (ends over) q = let z : ◌≡◌ {A = ℕ} 0 1 = cc in omega arith
way-whole g l s d st off (cuts short e pre urgent f) q = true-false (sym pre ∙ off)
way-whole g l s d st off (warns short e pre urgent f) q = true-false (sym pre ∙ off)
way-whole g l s d st off (goes x pos n z short v free) q = let i : ◌≡◌ {A = ℕ} 0 1 = cc in omega arith

module _ (g : Agreed) (ql qh : LaneState) (n z : ℕ) (t : Settings) (al ah : List ℕ) (bl bh : Option (List ℕ)) where
  turn-whole : (o : OnLine) (u c : Bool) (st : Step) → Turn g ql qh n z t al ah o u c st → Sound g (station (sender ql qh n z o u c t) al ah bl bh) → g.pre ≡ false
      → st.out ≡ breaks_off → ⊥
  turn-whole None u c st cut-due i off q = true-false i.in-bounds.line.2
  turn-whole (Some high) u c st cut-due i off q = true-false i.in-bounds.line.1
  turn-whole (Some low) u c st cut-due i off q = true-false (sym i.line.0.pre ∙ off)
  turn-whole o u c st (idles f h) i off q = let j : ◌≡◌ {A = ℕ} 0 1 = cc in omega arith
  turn-whole o u c st (resumes-low f h) i off q = let j : ◌≡◌ {A = ℕ} 0 1 = cc in omega arith
  turn-whole o u c st (begins-high h w) i off q = way-whole g high _ _ st off w q
  turn-whole o u c st (begins-low f h w) i off q = way-whole g low _ _ st off w q
  turn-whole o u c st (high-on w) i off q = way-whole g high _ _ st off w q
  turn-whole o u c st (low-on w) i off q = way-whole g low _ _ st off w q

abbrev Unbroken : List Written → Type 0
Unbroken es = (e : Written) → Memᴰ e es → e.out ≡ breaks_off → ⊥

unbroken-cons : (x : Written) (es : List Written) → (x.out ≡ breaks_off → ⊥) → Unbroken es → Unbroken (x ∷ es)
unbroken-cons x es f k e m q = ⊎_elim (λ i. f (sym (ap (λ (y : Written). y.out) i) ∙ q)) (λ i. k e i q) (Memᴰ.cases_cons m)

writes-whole : (o : Out) (w : Station) (es : List Written) → (o ≡ breaks_off → ⊥) → Unbroken es → Unbroken (writes o w es)
writes-whole (closes l) w es f k = unbroken-cons _ es f k
writes-whole breaks_off w es f k = unbroken-cons _ es f k
writes-whole (sends l x) w es f k = unbroken-cons _ es f k
writes-whole sends_nothing w es f k = k
writes-whole (refuses n) w es f k = k

whole : (g : Agreed) (w : Station) (cs : List SenderCall) → Sound g w → g.pre ≡ false → Unbroken (written w cs)
unfolding written
whole g w [] i off = λ e m q. Memᴰ.not-nil m
whole g w (loading l p ∷ cs) i off = whole g (after_load l p w) cs (sound-load g l p w i) off
whole g w (next_octet ∷ cs) i off =
    let e = w.end in
    let s = e.state in
    writes-whole (next e).out w (written (after_next w) cs)
    (by_next g e i.agrees (λ st. st.out ≡ breaks_off → ⊥) (λ n q. let j : ◌≡◌ {A = ℕ} 0 1 = cc in omega arith)
    (λ st t.
    turn-whole g s.low s.high s.left s.zeros s.settings e.low e.high w.lanes.low w.lanes.high s.on s.suspended s.cut st t i off))
    (whole g (after_next w) cs (sound-next g w i) off)

-- ---- from a break-off until D1

-- an octet that may be sent then
abbrev MayFollow : Out → Type 0
MayFollow (closes l) = (is_of high (closes l) ≡ true) ⊎ (closes l ≡ sends low 0xD1)
MayFollow breaks_off = (is_of high breaks_off ≡ true) ⊎ (breaks_off ≡ sends low 0xD1)
MayFollow (sends l x) = (is_of high (sends l x) ≡ true) ⊎ (sends l x ≡ sends low 0xD1)
MayFollow sends_nothing = Unit {0}
MayFollow (refuses n) = Unit {0}

-- b: a packet is broken off; then its lane is suspended
record Until (b : Bool) (st : Step) : Type 0 where
  only : b ≡ true → MayFollow st.out
  still : broken_off_after b st.out ≡ true → st.state.suspended ≡ true

module _ (g : Agreed) (ql qh : LaneState) (n z : ℕ) (t : Settings) (b : Bool) where
  high-until : (u : Bool) (d : List ℕ) → (b ≡ true → u ≡ true) → (st : Step) → Way g high (sender ql qh n z (Some high) u false t) d st → Until b st
  high-until u d h st (ends over) = record { only = λ _. inl refl; still = h }
  high-until u d h st (cuts short e pre urgent f) = bounds.low-high e
  high-until u d h st (warns short e pre urgent f) = bounds.low-high e
  high-until u d h st (goes x pos n' z' short v free) = record { only = λ _. inl refl; still = h }

  low-until : (d : List ℕ) → (b ≡ true → false ≡ true) → (st : Step) → Way g low (sender ql qh n z (Some low) false false t) d st → Until b st
  low-until d h st (ends over) = record { only = λ q. false-true (h q); still = h }
  low-until d h st (cuts short e pre urgent f) = record { only = λ q. false-true (h q); still = λ _. refl }
  low-until d h st (warns short e pre urgent f) = record { only = λ q. false-true (h q); still = λ q. false-true q }
  low-until d h st (goes x pos n' z' short v free) = record { only = λ q. false-true (h q); still = λ q. false-true q }

  turn-until : (al ah : List ℕ) (o : OnLine) (u c : Bool) (st : Step) → Turn g ql qh n z t al ah o u c st → bounds.Bounds g (sender ql qh n z o u c t)
      → (b ≡ true → u ≡ true) → Until b st
  turn-until al ah None u c st cut-due k h = true-false k.line.2
  turn-until al ah (Some high) u c st cut-due k h = true-false k.line.1
  turn-until al ah (Some low) u c st cut-due k h = record { only = λ q. false-true (sym k.line.1 ∙ h q); still = λ _. refl }
  turn-until al ah o u c st (idles i j) k h = record { only = λ _. tt; still = h }
  turn-until al ah o u c st (resumes-low i j) k h = record { only = λ _. inr refl; still = λ q. false-true q }
  turn-until al ah o u c st (begins-high j w) k h = high-until u (lane_d qh ah) h st w
  turn-until al ah o u c st (begins-low i j w) k h = low-until (lane_d ql al) h st w
  turn-until al ah o u c st (high-on w) k h = high-until u (lane_d qh ah) h st w
  turn-until al ah o true c st (low-on w) k h = true-false k.line.1
  turn-until al ah o false c st (low-on w) k h = low-until (lane_d ql al) h st w

writes-until : (b : Bool) (o : Out) (w : Station) (es : List Written) → (b ≡ true → MayFollow o) → OnlyHighUntilD1 (broken_off_after b o) es → OnlyHighUntilD1 b (writes o w es)
writes-until b (closes l) w es f k = (f, k)
writes-until b breaks_off w es f k = (f, k)
writes-until b (sends l x) w es f k = (f, k)
writes-until b sends_nothing w es f k = k
writes-until b (refuses n) w es f k = k

loaded-until : (g : Agreed) (l : Lane) (p : List ℕ) (w : Station) → agreed w.end.state.settings ≡ g → (after_load l p w).end.state.suspended ≡ w.end.state.suspended
unfolding put_frame
loaded-until g low p w ag = by-load g low p w (λ v. v.end.state.suspended ≡ w.end.state.suspended) ag refl (λ _. refl)
loaded-until g high p w ag = by-load g high p w (λ v. v.end.state.suspended ≡ w.end.state.suspended) ag refl (λ _. refl)

until : (g : Agreed) (b : Bool) (w : Station) (cs : List SenderCall) → Sound g w → (b ≡ true → w.end.state.suspended ≡ true) → OnlyHighUntilD1 b (written w cs)
unfolding written after_next
until g b w [] i h = tt
until g b w (loading l p ∷ cs) i h = until g b (after_load l p w) cs (sound-load g l p w i) (λ q. loaded-until g l p w i.agrees ∙ h q)
until g b w (next_octet ∷ cs) i h =
    let e = w.end in
    let s = e.state in
    let k : Until b (next e) =
    by_next g e i.agrees (Until b) (λ n. record { only = λ _. tt; still = h })
    (λ st t.
    turn-until g s.low s.high s.left s.zeros s.settings b e.low e.high s.on s.suspended s.cut st t i.in-bounds h) in
    writes-until b (next e).out w (written (after_next w) cs) k.only
    (until g (broken_off_after b (next e).out) (after_next w) cs (sound-next g w i) k.still)

pub urgent-first : UrgentFirst
urgent-first =
    record {
      free =
          λ e r off h.
          let s = e.state in
          by_turn e r (λ st. is_of high st.out ≡ true)
          (λ st t.
          turn-free (agreed s.settings) s.low s.high s.left s.zeros s.settings e.low e.high s.on s.suspended s.cut st t
          (unrefused e r).bounds off (ltb-true 0 s.high.length h));
      at_once =
          λ e r pre on whole h short.
          let s = e.state in
          by_turn e r (λ st. st.out ≡ cond (ltb 0 s.left) breaks_off (sends low 0x02))
          (λ st t.
          turn-gives (agreed s.settings) s.low s.high s.left s.zeros s.settings e.low e.high pre (ltb-true 0 s.high.length h) short
          s.on s.suspended s.cut st t on whole);
      soon = λ w r pre p h. soon-loaded w r pre p h;
      whole = λ t a b calls off. whole (agreed t) _ calls (sound-fresh t a b) off;
      until = λ t a b calls. until (agreed t) false _ calls (sound-fresh t a b) (λ q. false-true q);
    }
