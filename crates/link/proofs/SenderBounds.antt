-- The sender's state stays in bounds, whatever its areas hold.
use mathlib.Core.Path.{◌≡◌, refl, sym, ap, ◌∙◌}
use mathlib.Core.Bool.{Bool, true, false, not, ◌&&◌, ◌||◌}
use mathlib.Core.List.{List, [], ◌∷◌}
use Prim.Native.Nat.{ℕ, ◌+◌, ◌≤◌, ◌<◌}
use native.Mathlib.Omega.{arith}
use borrow.Author.Tests.{ltb-true, ltb-false, leb-true, eqb-true, eqb-false, lt-ltb, le-leb, eq-eqb, not-true}
use lib.Dec.{leb, ltb, eqb}
use lib.ListN.{length, take, drop, length-append, length-drop}
use lib.Seq.{length-take-le}
use Rattle.std.specs.Prelude.{Some, None}
use Rattle.cobs.specs.CodeBlocks.{frame, choice}
use Rattle.cobs.proofs.Tests.{branch, decide, and_left, and_right}
use Rattle.cobs.proofs.Table.{numbers}
use Rattle.cobs.proofs.Chosen.{Stands, chosen_at}
use Rattle.link.specs.Agreed.{Settings, Agreed, agreed, least_packet, least_frame, largest_frame, valid}
use Rattle.link.specs.Answers.{Answer, done, refused}
use Rattle.link.specs.Sender.{Lane, low, high, OnLine, LaneState, Sender, SenderEnd, refuses, Step, Load, lane_state, loaded, lane_d, lane_ok, line_ok, lane_on_line_ok, in_bounds, put_frame, load, step1_cut_due, next}
use Rattle.link.proofs.Tests.{ands, true-false, false-true, not-below, or_cases}
use Rattle.link.proofs.Way.{Advance, last, more, covers, opens, Way, ends, cuts, warns, goes, sender, Turn, cut-due, idles, resumes-low, begins-high, begins-low, high-on, low-on, turn}
use Rattle.link.proofs.Follow.{frame-long}

-- ---- in bounds, as facts

pub record LaneOk (g : Agreed) (q : LaneState) : Type 0 where
  pub size : (q.length ≡ 0 → ⊥) → (least_frame g ≤ q.length) × (q.length ≤ largest_frame g)
  pub place : q.position ≤ q.length + 1

-- a lane on the line, with n data octets left and z zeros due
pub record Room (q : LaneState) (n z : ℕ) : Type 0 where
  pub loaded : 0 < q.length
  pub room : q.position + (n + z) ≤ q.length + 1

abbrev pub LineOk : OnLine → LaneState → LaneState → ℕ → ℕ → Bool → Bool → Type 0
LineOk None ql qh n z suspended cut = (n ≡ 0) × (z ≡ 0) × (cut ≡ false)
LineOk (Some low) ql qh n z suspended cut = Room ql n z × (suspended ≡ false) × (cut ≡ true → n ≡ 0)
LineOk (Some high) ql qh n z suspended cut = Room qh n z × (cut ≡ false)

pub record Bounds (g : Agreed) (s : Sender) : Type 0 where
  pub low : LaneOk g s.low
  pub high : LaneOk g s.high
  pub few : s.left ≤ 207
  pub two : s.zeros ≤ 2
  pub even : s.left ≡ 0 → s.zeros ≡ 0
  pub line : LineOk s.on s.low s.high s.left s.zeros s.suspended s.cut
  pub waits : s.suspended ≡ true → 0 < s.low.length

-- the facts make the test true
lane-ok : (g : Agreed) (q : LaneState) → LaneOk g q → lane_ok g q ≡ true
lane-ok g q h =
    rw (le-leb q.position (q.length + 1) h.place)
    (decide (eqb q.length 0) (λ e. rw e)
    (λ e. let k = h.size (eqb-false q.length 0 e) in rw (e, le-leb (least_frame g) q.length k.0, le-leb q.length (largest_frame g) k.1)))

block-ok : (q : LaneState) (s : Sender) → Room q s.left s.zeros → lane_on_line_ok q s ≡ true
block-ok q s h = rw (lt-ltb 0 q.length h.loaded, le-leb (q.position + s.left + s.zeros) (q.length + 1) (omega (arith, h.room)))

line_ok_lem : (o : OnLine) (s : Sender) → LineOk o s.low s.high s.left s.zeros s.suspended s.cut → line_ok o s ≡ true
line_ok_lem None s h = rw (eq-eqb s.left 0 h.0, eq-eqb s.zeros 0 h.1, h.2)
line_ok_lem (Some low) s h =
    rw (block-ok s.low s h.0, h.1) (decide s.cut (λ e. rw e (eq-eqb s.left 0 (h.2 e))) (λ e. rw e))
line_ok_lem (Some high) s h = rw (block-ok s.high s h.0, h.1)

pub in_bounds_lem : (g : Agreed) (s : Sender) → Bounds g s → in_bounds g s ≡ true
unfolding in_bounds
in_bounds_lem g s h =
    rw (
      lane-ok g s.low h.low,
      lane-ok g s.high h.high,
      le-leb s.left 207 h.few,
      le-leb s.zeros 2 h.two,
      even s.left s.zeros h.even,
      line_ok_lem s.on s h.line,
    )
    (waits s.suspended s.low h.waits)
  where
    even : (n z : ℕ) → (n ≡ 0 → z ≡ 0) → (ltb 0 n || eqb z 0) ≡ true
    even n z h = decide (ltb 0 n) (λ e. rw e) (λ e. rw e (eq-eqb z 0 (h (omega (arith, ltb-false 0 n e)))))

    waits : (u : Bool) (q : LaneState) → (u ≡ true → 0 < q.length) → (not u || loaded q) ≡ true
    waits true q h = lt-ltb 0 q.length (h refl)
    waits false q h = refl

-- and the test tells the facts
pub ok-lane : (g : Agreed) (q : LaneState) → lane_ok g q ≡ true → LaneOk g q
ok-lane g q e =
    let inside = leb (least_frame g) q.length && leb q.length (largest_frame g) in
    let sized = eqb q.length 0 || inside in
    let placed = leb q.position (q.length + 1) in
    record {
      size =
          λ k.
          or_cases (eqb q.length 0) inside (and_left sized placed e) (λ f. absurd (k (eqb-true q.length 0 f)))
          (λ f. (
            leb-true (least_frame g) q.length (and_left (leb (least_frame g) q.length) (leb q.length (largest_frame g)) f),
            leb-true q.length (largest_frame g) (and_right (leb (least_frame g) q.length) (leb q.length (largest_frame g)) f),
          ));
      place = leb-true q.position (q.length + 1) (and_right sized placed e);
    }

ok-block : (q : LaneState) (s : Sender) → lane_on_line_ok q s ≡ true → Room q s.left s.zeros
ok-block q s e =
    let sum = q.position + s.left + s.zeros in
    let k : sum ≤ q.length + 1 = leb-true sum (q.length + 1) (and_right (loaded q) (leb sum (q.length + 1)) e) in
    record { loaded = ltb-true 0 q.length (and_left (loaded q) (leb sum (q.length + 1)) e); room = omega arith }

ok-line : (o : OnLine) (s : Sender) → line_ok o s ≡ true → LineOk o s.low s.high s.left s.zeros s.suspended s.cut
ok-line None s e =
    let none = eqb s.left 0 && eqb s.zeros 0 in
    let e₁ = and_left none (not s.cut) e in (
      eqb-true s.left 0 (and_left (eqb s.left 0) (eqb s.zeros 0) e₁),
      eqb-true s.zeros 0 (and_right (eqb s.left 0) (eqb s.zeros 0) e₁),
      not-true s.cut (and_right none (not s.cut) e),
    )
ok-line (Some low) s e =
    let due = not s.cut || eqb s.left 0 in
    let e₁ = and_left (lane_on_line_ok s.low s && not s.suspended) due e in (
      ok-block s.low s (and_left (lane_on_line_ok s.low s) (not s.suspended) e₁),
      not-true s.suspended (and_right (lane_on_line_ok s.low s) (not s.suspended) e₁),
      λ k.
          or_cases (not s.cut) (eqb s.left 0) (and_right (lane_on_line_ok s.low s && not s.suspended) due e)
          (λ f. true-false (sym k ∙ not-true s.cut f))
          (eqb-true s.left 0),
    )
ok-line (Some high) s e = (
  ok-block s.high s (and_left (lane_on_line_ok s.high s) (not s.cut) e),
  not-true s.cut (and_right (lane_on_line_ok s.high s) (not s.cut) e),
)

pub bounds : (g : Agreed) (s : Sender) → in_bounds g s ≡ true → Bounds g s
unfolding in_bounds
bounds g s e =
    let ql = lane_ok g s.low in
    let qh = lane_ok g s.high in
    let few = leb s.left 207 in
    let two = leb s.zeros 2 in
    let even = ltb 0 s.left || eqb s.zeros 0 in
    let line = line_ok s.on s in
    let waits = not s.suspended || loaded s.low in
    let all = ands ql qh few two even line (and_left (ql && qh && few && two && even && line) waits e) in
    record {
      low = ok-lane g s.low all.0;
      high = ok-lane g s.high all.1;
      few = leb-true s.left 207 all.2;
      two = leb-true s.zeros 2 all.3;
      even = λ k. or_cases (ltb 0 s.left) (eqb s.zeros 0) all.4 (λ f. absurd (omega (arith, ltb-true 0 s.left f))) (eqb-true s.zeros 0);
      line = ok-line s.on s all.5;
      waits =
          λ k.
          or_cases (not s.suspended) (loaded s.low) (and_right (ql && qh && few && two && even && line) waits e)
          (λ f. true-false (sym k ∙ not-true s.suspended f))
          (ltb-true 0 s.low.length);
    }

-- ---- a lane's D

module _ (g : Agreed) (q : LaneState) (a : List ℕ) (fits : q.length ≤ length a) where
  pub data-long : length (lane_d q a) ≡ q.length + 1
  data-long = length-append (take q.length a) (0 ∷ []) ∙ ap (λ (n : ℕ). n + 1) (length-take-le q.length a fits)

  -- the choice at a D that isn't covered
  pub stands : q.position ≤ q.length → Stands g.zxe (drop q.position (lane_d q a)) (choice g.zxe (drop q.position (lane_d q a)))
  stands h = chosen_at g.zxe (take q.length a) q.position (omega (arith, length-take-le q.length a fits))

  -- the numbers behind an octet of D
  pub record Numbers (pos n z : ℕ) : Type 0 where
    pub room : pos + (n + z) ≤ q.length + 1
    pub few : n ≤ 207
    pub two : z ≤ 2
    pub even : n ≡ 0 → z ≡ 0

  pub advance : (n z : ℕ) → Numbers q.position n z → q.position ≤ q.length → (x pos n' z' : ℕ)
      → Advance g.zxe (lane_d q a) q.position n z x pos n' z' → Numbers pos n' z'
  advance n z v h x pos n' z' (last e) = record { room = omega (arith, v.room); few = omega arith; two = omega arith; even = λ _. refl }
  advance n z v h x pos n' z' (more e f) =
      record { room = omega (arith, v.room); few = omega (arith, v.few); two = v.two; even = λ k. absurd (omega arith) }
  advance n z v h x pos n' z' (covers e f) =
      let ch = stands h in
      record {
        room = omega (arith, v.even e, ch.inside, length-drop q.position (lane_d q a), data-long);
        few = v.few;
        two = v.two;
        even = v.even;
      }
  advance n z v h x pos n' z' (opens e f) =
      let ch = stands h in
      let k = numbers ch.row in
      record {
        room = omega (arith, ch.inside, length-drop q.position (lane_d q a), data-long);
        few = k.nonzeros-most;
        two = k.zeros-few (omega arith);
        even = λ i. absurd (f i);
      }

-- ---- every step keeps the bounds, and the settings

pub record Kept (g : Agreed) (t : Settings) (s : Sender) : Type 0 where
  pub settings : s.settings ≡ t
  pub bounds : Bounds g s

pub low-high : {Q : Type 0} → high ≡ low → Q
low-high e = absurd (let z : ◌≡◌ {A = ℕ} 0 1 = cc in omega arith)

pub most : (g : Agreed) (q : LaneState) → LaneOk g q → q.length ≤ largest_frame g
most g q h = decide (eqb q.length 0) (λ e. omega (arith, eqb-true q.length 0 e)) (λ e. (h.size (eqb-false q.length 0 e)).1)

pub fits-area : (g : Agreed) (q : LaneState) (a : List ℕ) → LaneOk g q → largest_frame g ≤ length a → q.length ≤ length a
fits-area g q a h k = omega (arith, most g q h)

empty-ok : (g : Agreed) → LaneOk g (record { length = 0; position = 0 })
empty-ok g = record { size = λ k. absurd (k refl); place = omega arith }

moved_ok : (g : Agreed) (q : LaneState) (pos : ℕ) → LaneOk g q → pos ≤ q.length + 1 → LaneOk g (record { length = q.length; position = pos })
moved_ok g q pos h k = record { size = h.size; place = k }

module _ (g : Agreed) (ql qh : LaneState) (n z : ℕ) (t : Settings) where
  -- the same numbers with another line and other marks
  relined : {o : OnLine} {u c : Bool} (o' : OnLine) (u' c' : Bool) → LineOk o' ql qh n z u' c' → (u' ≡ true → 0 < ql.length)
      → Bounds g (sender ql qh n z o u c t) → Bounds g (sender ql qh n z o' u' c' t)
  relined o' u' c' line waits b =
      record { low = b.low; high = b.high; few = b.few; two = b.two; even = b.even; line = line; waits = waits }

  -- steps 3 to 6 of the high lane
  pub high-keeps : (u : Bool) (a : List ℕ) → qh.length ≤ length a → Bounds g (sender ql qh n z (Some high) u false t)
      → (st : Step) → Way g high (sender ql qh n z (Some high) u false t) (lane_d qh a) st → Kept g t st.state
  high-keeps u a fits b st (ends over) =
      let room = b.line.0.room in
      record {
        settings = refl;
        bounds =
            record {
              low = b.low;
              high = empty-ok g;
              few = b.few;
              two = b.two;
              even = b.even;
              line = (omega arith, omega arith, refl);
              waits = b.waits;
            };
      }
  high-keeps u a fits b st (cuts short e pre urgent f) = low-high e
  high-keeps u a fits b st (warns short e pre urgent f) = low-high e
  high-keeps u a fits b st (goes x pos n' z' short v free) =
      let k = advance g qh a fits n z (record { room = b.line.0.room; few = b.few; two = b.two; even = b.even }) short x pos n' z' v in
      record {
        settings = refl;
        bounds =
            record {
              low = b.low;
              high = moved_ok g qh pos b.high (omega (arith, k.room));
              few = k.few;
              two = k.two;
              even = k.even;
              line = (record { loaded = b.line.0.loaded; room = k.room }, refl);
              waits = b.waits;
            };
      }

  -- of the low lane
  pub low_keeps : (a : List ℕ) → ql.length ≤ length a → Bounds g (sender ql qh n z (Some low) false false t)
      → (st : Step) → Way g low (sender ql qh n z (Some low) false false t) (lane_d ql a) st → Kept g t st.state
  low_keeps a fits b st (ends over) =
      let room = b.line.0.room in
      record {
        settings = refl;
        bounds =
            record {
              low = empty-ok g;
              high = b.high;
              few = b.few;
              two = b.two;
              even = b.even;
              line = (omega arith, omega arith, refl);
              waits = λ e. false-true e;
            };
      }
  low_keeps a fits b st (cuts short e pre urgent f) =
      record {
        settings = refl;
        bounds =
            record {
              low = b.low;
              high = b.high;
              few = omega arith;
              two = omega arith;
              even = λ _. refl;
              line = (refl, refl, refl);
              waits = λ _. b.line.0.loaded;
            };
      }
  low_keeps a fits b st (warns short e pre urgent f) =
      record { settings = refl; bounds = relined (Some low) false true (b.line.0, refl, λ _. f) (λ e. false-true e) b }
  low_keeps a fits b st (goes x pos n' z' short v free) =
      let k = advance g ql a fits n z (record { room = b.line.0.room; few = b.few; two = b.two; even = b.even }) short x pos n' z' v in
      record {
        settings = refl;
        bounds =
            record {
              low = moved_ok g ql pos b.low (omega (arith, k.room));
              high = b.high;
              few = k.few;
              two = k.two;
              even = k.even;
              line = (record { loaded = b.line.0.loaded; room = k.room }, refl, λ e. false-true e);
              waits = λ e. false-true e;
            };
      }

  -- step 1
  pub cut_keeps : (u : Bool) → Bounds g (sender ql qh n z (Some low) u true t) → Kept g t (step1_cut_due (sender ql qh n z (Some low) u true t)).state
  cut_keeps u b =
      let none-left = b.line.2 refl in
      record { settings = refl; bounds = relined None true false (none-left, b.even none-left, refl) (λ _. b.line.0.loaded) b }

  -- a lane comes on the line
  pub enter-high : (u : Bool) → 0 < qh.length → Bounds g (sender ql qh n z None u false t) → Bounds g (sender ql qh n z (Some high) u false t)
  enter-high u h b =
      relined (Some high) u false (record { loaded = h; room = omega (arith, b.high.place, b.line.0, b.line.1) }, refl) b.waits b

  pub enter-low : (u : Bool) → 0 < ql.length → Bounds g (sender ql qh n z None u false t) → Bounds g (sender ql qh n z (Some low) false false t)
  enter-low u h b =
      relined (Some low) false false
      (record { loaded = h; room = omega (arith, b.low.place, b.line.0, b.line.1) }, refl, λ e. false-true e)
      (λ e. false-true e)
      b

  -- whichever step applies
  turn-keeps : (al ah : List ℕ) → largest_frame g ≤ length al → largest_frame g ≤ length ah → (o : OnLine) (u c : Bool) (st : Step)
      → Turn g ql qh n z t al ah o u c st → Bounds g (sender ql qh n z o u c t) → Kept g t st.state
  turn-keeps al ah hl hh None u c st cut-due b = true-false b.line.2
  turn-keeps al ah hl hh (Some high) u c st cut-due b = true-false b.line.1
  turn-keeps al ah hl hh (Some low) u c st cut-due b = cut_keeps u b
  turn-keeps al ah hl hh o u c st (idles i j) b = record { settings = refl; bounds = b }
  turn-keeps al ah hl hh o u c st (resumes-low i h) b = record { settings = refl; bounds = enter-low true h b }
  turn-keeps al ah hl hh o u c st (begins-high h w) b = high-keeps u ah (fits-area g qh ah b.high hh) (enter-high u h b) st w
  turn-keeps al ah hl hh o u c st (begins-low i h w) b = low_keeps al (fits-area g ql al b.low hl) (enter-low false h b) st w
  turn-keeps al ah hl hh o u c st (high-on w) b = high-keeps u ah (fits-area g qh ah b.high hh) b st w
  turn-keeps al ah hl hh o true c st (low-on w) b = true-false b.line.1
  turn-keeps al ah hl hh o false c st (low-on w) b = low_keeps al (fits-area g ql al b.low hl) b st w

-- next octet
pub next-keeps : (g : Agreed) (e : SenderEnd) → agreed e.state.settings ≡ g → Bounds g e.state → Kept g e.state.settings (next e).state
unfolding next
next-keeps g e ag b =
    let s = e.state in
    let P : Step → Type 0 = λ st. Kept g s.settings st.state in
    let short = ltb (length e.low) (largest_frame g) || ltb (length e.high) (largest_frame g) in
    rw ag
    (branch P (not (valid g)) (λ _. record { settings = refl; bounds = b })
    (λ _. branch P short (λ _. record { settings = refl; bounds = b })
    (λ k. branch P (not (in_bounds g s)) (λ _. record { settings = refl; bounds = b })
    (λ _.
    let long = not-below (length e.low) (largest_frame g) (length e.high) (largest_frame g) k in
    turn-keeps g s.low s.high s.left s.zeros s.settings e.low e.high long.0 long.1
    s.on s.suspended s.cut _
    (turn g s.low s.high s.left s.zeros s.settings e.low e.high s.on s.suspended s.cut) b))))

-- ---- a lane that holds nothing is neither on the line nor suspended

pub data LowOff : OnLine → Bool → Bool → Type 0 where
  low-off₁ : LowOff None false false
  low-off₂ : LowOff (Some high) false false

pub data HighOff : OnLine → Bool → Bool → Type 0 where
  high-off₁ : {u : Bool} → HighOff None u false
  high-off₂ : HighOff (Some low) false false
  high-off₃ : HighOff (Some low) false true

module _ (ql qh : LaneState) (n z : ℕ) where
  pub low-off : (o : OnLine) (u c : Bool) → ql.length ≡ 0 → (u ≡ true → 0 < ql.length) → LineOk o ql qh n z u c → LowOff o u c
  low-off None u true e w h = true-false h.2
  low-off None true false e w h = absurd (omega (arith, w refl))
  low-off None false false e w h = low-off₁
  low-off (Some high) u true e w h = true-false h.1
  low-off (Some high) true false e w h = absurd (omega (arith, w refl))
  low-off (Some high) false false e w h = low-off₂
  low-off (Some low) u c e w h = absurd (omega (arith, h.0.loaded))

  pub high-off : (o : OnLine) (u c : Bool) → qh.length ≡ 0 → LineOk o ql qh n z u c → HighOff o u c
  high-off None u true e h = true-false h.2
  high-off None u false e h = high-off₁
  high-off (Some high) u c e h = absurd (omega (arith, h.0.loaded))
  high-off (Some low) true c e h = true-false h.1
  high-off (Some low) false true e h = high-off₃
  high-off (Some low) false false e h = high-off₂

-- ---- load

-- where a load is Done
pub record Accepts (g : Agreed) (l : Lane) (p : List ℕ) (s : Sender) : Type 0 where
  pub free : (lane_state l s).length ≡ 0
  pub big : least_packet ≤ length p
  pub small : length p ≤ g.limit

-- a load changes nothing, or is Done
pub by-load : (g : Agreed) (l : Lane) (p : List ℕ) (s : Sender) (a : List ℕ) (P : Load → Type 0) → agreed s.settings ≡ g
    → ((n : ℕ) → P (record { answer = refused n; state = s; area = a })) → (Accepts g l p s → P (put_frame g l p s a)) → P (load l p s a)
unfolding load
by-load g l p s a P ag same f =
    rw ag
    (branch P (not (valid g)) (λ _. same 3)
    (λ _. branch P (ltb (length a) (largest_frame g)) (λ _. same 2)
    (λ _. branch P (not (in_bounds g s)) (λ _. same 3)
    (λ _. branch P (loaded (lane_state l s)) (λ _. same 4)
    (λ e₁. branch P (ltb (length p) least_packet || ltb g.limit (length p)) (λ _. same 1)
    (λ e₂.
    let size = not-below (length p) least_packet g.limit (length p) e₂ in
    f (record { free = omega (arith, ltb-false 0 (lane_state l s).length e₁); big = size.0; small = size.1 })))))))

-- the state of a lane that was just loaded
abbrev pub q-p : Agreed → List ℕ → LaneState
q-p g p = record { length = length (frame g.check p); position = 0 }

module _ (g : Agreed) (p : List ℕ) (big : least_packet ≤ length p) (small : length p ≤ g.limit) where
  loaded-ok : LaneOk g (q-p g p)
  loaded-ok = record { size = λ _. (omega (arith, frame-long g p), omega (arith, frame-long g p)); place = omega arith }

  line_low : (o : OnLine) (ql qh : LaneState) (n z : ℕ) (u c : Bool) → ql.length ≡ 0 → LineOk o ql qh n z u c → LineOk o (q-p g p) qh n z u c
  line_low None ql qh n z u c e h = h
  line_low (Some low) ql qh n z u c e h = absurd (omega (arith, h.0.loaded))
  line_low (Some high) ql qh n z u c e h = h

  line-high : (o : OnLine) (ql qh : LaneState) (n z : ℕ) (u c : Bool) → qh.length ≡ 0 → LineOk o ql qh n z u c → LineOk o ql (q-p g p) n z u c
  line-high None ql qh n z u c e h = h
  line-high (Some low) ql qh n z u c e h = h
  line-high (Some high) ql qh n z u c e h = absurd (omega (arith, h.0.loaded))

  pub put-bounds : (l : Lane) (s : Sender) (a : List ℕ) → (lane_state l s).length ≡ 0 → Bounds g s → Kept g s.settings (put_frame g l p s a).state
  unfolding put_frame
  put-bounds low s a e b =
      record {
        settings = refl;
        bounds =
            record {
              low = loaded-ok;
              high = b.high;
              few = b.few;
              two = b.two;
              even = b.even;
              line = line_low s.on s.low s.high s.left s.zeros s.suspended s.cut e b.line;
              waits = λ _. omega (arith, frame-long g p);
            };
      }
  put-bounds high s a e b =
      record {
        settings = refl;
        bounds =
            record {
              low = b.low;
              high = loaded-ok;
              few = b.few;
              two = b.two;
              even = b.even;
              line = line-high s.on s.low s.high s.left s.zeros s.suspended s.cut e b.line;
              waits = b.waits;
            };
      }

pub load-keeps : (g : Agreed) (l : Lane) (p : List ℕ) (s : Sender) (a : List ℕ) → agreed s.settings ≡ g → Bounds g s
    → Kept g s.settings (load l p s a).state
load-keeps g l p s a ag b =
    by-load g l p s a (λ t. Kept g s.settings t.state) ag (λ _. record { settings = refl; bounds = b })
    (λ k. put-bounds g p k.big k.small l s a k.free b)

-- a load answers Done or a refusal
pub load-answers : (P : Answer → Type 0) → P done → ((n : ℕ) → P (refused n)) → (l : Lane) (p : List ℕ) (s : Sender) (area : List ℕ) → P (load l p s area).answer
unfolding put_frame
load-answers P d r l p s area = by-load (agreed s.settings) l p s area (λ (t : Load). P t.answer) refl r (λ _. d)

-- ---- refused 2 and 3

module _ (l : Lane) (p : List ℕ) (s : Sender) (area : List ℕ) where
  pub load-invalid : valid (agreed s.settings) ≡ false → load l p s area ≡ record { answer = refused 3; state = s; area = area }
  unfolding load
  load-invalid v = simp v

  pub load-short : valid (agreed s.settings) ≡ true → ltb (length area) (largest_frame (agreed s.settings)) ≡ true
      → load l p s area ≡ record { answer = refused 2; state = s; area = area }
  unfolding load
  load-short v k = simp (v, k)

  pub load-out-of-bounds : valid (agreed s.settings) ≡ true → ltb (length area) (largest_frame (agreed s.settings)) ≡ false → in_bounds (agreed s.settings) s ≡ false
      → load l p s area ≡ record { answer = refused 3; state = s; area = area }
  unfolding load
  load-out-of-bounds v k b = simp (v, k, b)

module _ (e : SenderEnd) where
  abbrev short : Bool
  short = ltb (length e.low) (largest_frame (agreed e.state.settings)) || ltb (length e.high) (largest_frame (agreed e.state.settings))

  pub next-invalid : valid (agreed e.state.settings) ≡ false → next e ≡ record { out = refuses 3; state = e.state }
  unfolding next
  next-invalid v = simp v

  pub next-short : valid (agreed e.state.settings) ≡ true → short ≡ true → next e ≡ record { out = refuses 2; state = e.state }
  unfolding next
  next-short v k = simp (v, k)

  pub next-out-of-bounds : valid (agreed e.state.settings) ≡ true → short ≡ false → in_bounds (agreed e.state.settings) e.state ≡ false → next e ≡ record { out = refuses 3; state = e.state }
  unfolding next
  next-out-of-bounds v k b = simp (v, k, b)
