-- The sender by itself: through every call of a run its areas hold the frames of the packets that its lanes were loaded with, and the
-- block on the line stands in D.
use mathlib.Core.Path.{◌≡◌, refl, sym, ap, ◌∙◌}
use mathlib.Core.Bool.{Bool, true, false}
use mathlib.Core.List.{List, [], ◌∷◌, ◌++◌}
use mathlib.Core.Option.{Option, none, some}
use Prim.Native.Nat.{ℕ, ◌+◌, ◌≤◌, ◌<◌}
use native.Mathlib.Omega.{arith}
use lib.ListN.{length, take, drop, get_or, length-take}
use lib.Seq.{get_or-drop, take-append_seam}
use Rattle.std.specs.Prelude.{Some, None}
use Rattle.cobs.specs.CodeBlocks.{frame}
use Rattle.link.specs.Agreed.{Settings, Agreed, agreed, least_packet}
use Rattle.link.specs.Sender.{Lane, low, high, OnLine, LaneState, Sender, Step, lane_area, lane_d, put_frame}
use Rattle.link.specs.Runs.{Station, fresh_station, loaded_by, after_load, after_step, after_next, run, SenderCall, loading, next_octet}
use Rattle.link.proofs.Tests.{true-false, false-true}
use Rattle.link.proofs.Way.{Advance, last, more, covers, opens, Way, ends, cuts, warns, goes, sender, Turn, cut-due, idles, resumes-low, begins-high, begins-low, high-on, low-on, by_next}
use Rattle.link.proofs.Follow.{BlockAt}
use Rattle.link.proofs.SenderBounds as bounds

abbrev pub station : Sender → List ℕ → List ℕ → Option (List ℕ) → Option (List ℕ) → Station
station s al ah bl bh = record { end = record { state = s; low = al; high = ah }; lanes = record { low = bl; high = bh } }

-- A lane's area holds the frame of the packet that was loaded.
pub record StockOf (g : Agreed) (q : LaneState) (a p : List ℕ) : Type 0 where
  pub big : least_packet ≤ length p
  pub long : q.length ≡ length (frame g.check p)
  pub same : take q.length a ≡ frame g.check p

abbrev pub Stock : Agreed → LaneState → List ℕ → Option (List ℕ) → Type 0
Stock g q a none = q.length ≡ 0
Stock g q a (some p) = StockOf g q a p

-- a lane that has sent nothing of what it holds
abbrev pub Rested : LaneState → Type 0
Rested q = q.position ≡ 0

-- a lane that was broken off, or is about to be
pub record Waiting (g : Agreed) (q : LaneState) : Type 0 where
  pub short : q.position ≤ q.length
  pub pre : g.pre ≡ true

abbrev pub Aside : Agreed → Bool → LaneState → Type 0
Aside g true q = Waiting g q
Aside g false q = Rested q

-- by the lane on the line, the mark suspended and whether a cut is due
abbrev pub Line : Agreed → OnLine → Bool → Bool → Station → Type 0
Line g None u c w = Rested w.end.state.high × Aside g u w.end.state.low
Line g (Some high) u c w =
    BlockAt (lane_d w.end.state.high w.end.high) w.end.state.high.position w.end.state.left w.end.state.zeros
    × Aside g u w.end.state.low
Line g (Some low) u false w =
    BlockAt (lane_d w.end.state.low w.end.low) w.end.state.low.position w.end.state.left w.end.state.zeros
    × Rested w.end.state.high
Line g (Some low) u true w = Waiting g w.end.state.low × Rested w.end.state.high

pub record Sound (g : Agreed) (w : Station) : Type 0 where
  pub agrees : agreed w.end.state.settings ≡ g
  pub in-bounds : bounds.Bounds g w.end.state
  pub stock-low : Stock g w.end.state.low w.end.low w.lanes.low
  pub stock-high : Stock g w.end.state.high w.end.high w.lanes.high
  pub line : Line g w.end.state.on w.end.state.suspended w.end.state.cut w

stock-moved : (g : Agreed) (q : LaneState) (a : List ℕ) (m : Option (List ℕ)) (pos : ℕ) → Stock g q a m → Stock g (record { length = q.length; position = pos }) a m
stock-moved g q a none pos h = h
stock-moved g q a (some p) pos h = record { big = h.big; long = h.long; same = h.same }

pub stock-fits : (g : Agreed) (q : LaneState) (a : List ℕ) (m : Option (List ℕ)) → Stock g q a m → q.length ≤ length a
stock-fits g q a none h = omega arith
stock-fits g q a (some p) h =
    let e : length (take q.length a) ≡ q.length = ap length h.same ∙ sym h.long in
    omega (arith, length-take q.length a)

-- ---- the block on the line

block_0 : (d : List ℕ) (pos n z : ℕ) → n ≡ 0 → z ≡ 0 → BlockAt d pos n z
block_0 d pos n z e f = record { nonzero = λ i h. absurd (omega arith); zero = λ i h k. absurd (omega arith) }

module _ (g : Agreed) (q : LaneState) (a : List ℕ) (n z : ℕ) (fits : q.length ≤ length a) (even : n ≡ 0 → z ≡ 0) where
  -- whatever octet of D is sent, the block stands next again
  pub block_on : BlockAt (lane_d q a) q.position n z → q.position ≤ q.length → (x pos n' z' : ℕ)
      → Advance g.zxe (lane_d q a) q.position n z x pos n' z' → BlockAt (lane_d q a) pos n' z'
  block_on b h x pos n' z' (last e) = block_0 (lane_d q a) _ 0 0 refl refl
  block_on b h x pos n' z' (more e f) =
      let d = lane_d q a in
      let at : (i : ℕ) → get_or d (q.position + 1 + i) 0 ≡ get_or d (q.position + (1 + i)) 0 = (λ i. ap (λ (j : ℕ). get_or d j 0) (omega arith)) in
      record {
        nonzero = λ i k s. b.nonzero (1 + i) (omega arith) (sym (at i) ∙ s);
        zero = λ i k l. at i ∙ b.zero (1 + i) (omega arith) (omega arith);
      }
  block_on b h x pos n' z' (covers e f) = block_0 (lane_d q a) _ n z e (even e)
  block_on b h x pos n' z' (opens e f) =
      let ch = bounds.stands g q a fits h in
      let d = lane_d q a in
      record {
        nonzero = λ i k s. ch.nonzero i k (get_or-drop q.position d i 0 ∙ s);
        zero = λ i k l. sym (get_or-drop q.position d i 0) ∙ ch.zero i k l;
      }

module _ (g : Agreed) (ql qh : LaneState) (n z : ℕ) (t : Settings) (al ah : List ℕ) (bl bh : Option (List ℕ)) where
  -- steps 3 to 6 of the high lane
  pub sound-high : (u : Bool) → Sound g (station (sender ql qh n z (Some high) u false t) al ah bl bh)
      → (st : Step) → Way g high (sender ql qh n z (Some high) u false t) (lane_d qh ah) st
      → Sound g (after_step (station (sender ql qh n z (Some high) u false t) al ah bl bh) st)
  sound-high u s st (ends over) =
      let k = bounds.high-keeps g ql qh n z t u ah (stock-fits g qh ah bh s.stock-high) s.in-bounds st (ends over) in
      record {
        agrees = s.agrees;
        in-bounds = k.bounds;
        stock-low = s.stock-low;
        stock-high = refl;
        line = (refl, s.line.1);
      }
  sound-high u s st (cuts short e pre urgent f) = bounds.low-high e
  sound-high u s st (warns short e pre urgent f) = bounds.low-high e
  sound-high u s st (goes x pos n' z' short v free) =
      let fits = stock-fits g qh ah bh s.stock-high in
      let k = bounds.high-keeps g ql qh n z t u ah fits s.in-bounds st (goes x pos n' z' short v free) in
      record {
        agrees = s.agrees;
        in-bounds = k.bounds;
        stock-low = s.stock-low;
        stock-high = stock-moved g qh ah bh pos s.stock-high;
        line = (block_on g qh ah n z fits s.in-bounds.even s.line.0 short x pos n' z' v, s.line.1);
      }

  -- of the low lane
  low-in-bounds : Sound g (station (sender ql qh n z (Some low) false false t) al ah bl bh)
      → (st : Step) → Way g low (sender ql qh n z (Some low) false false t) (lane_d ql al) st → bounds.Bounds g st.state
  low-in-bounds s st w = (bounds.low_keeps g ql qh n z t al (stock-fits g ql al bl s.stock-low) s.in-bounds st w).bounds

  pub sound-low : Sound g (station (sender ql qh n z (Some low) false false t) al ah bl bh)
      → (st : Step) → Way g low (sender ql qh n z (Some low) false false t) (lane_d ql al) st
      → Sound g (after_step (station (sender ql qh n z (Some low) false false t) al ah bl bh) st)
  sound-low s st (ends over) =
      record {
        agrees = s.agrees;
        in-bounds = low-in-bounds s st (ends over);
        stock-low = refl;
        stock-high = s.stock-high;
        line = (s.line.1, refl);
      }
  sound-low s st (cuts short e pre urgent f) =
      record {
        agrees = s.agrees;
        in-bounds = low-in-bounds s st (cuts short e pre urgent f);
        stock-low = s.stock-low;
        stock-high = s.stock-high;
        line = (s.line.1, record { short = short; pre = pre });
      }
  sound-low s st (warns short e pre urgent f) =
      record {
        agrees = s.agrees;
        in-bounds = low-in-bounds s st (warns short e pre urgent f);
        stock-low = s.stock-low;
        stock-high = s.stock-high;
        line = (record { short = short; pre = pre }, s.line.1);
      }
  sound-low s st (goes x pos n' z' short v free) =
      let fits = stock-fits g ql al bl s.stock-low in
      let k = bounds.low_keeps g ql qh n z t al fits s.in-bounds st (goes x pos n' z' short v free) in
      record {
        agrees = s.agrees;
        in-bounds = k.bounds;
        stock-low = stock-moved g ql al bl pos s.stock-low;
        stock-high = s.stock-high;
        line = (block_on g ql al n z fits s.in-bounds.even s.line.0 short x pos n' z' v, s.line.1);
      }

  -- a lane comes on the line
  pub enter-high : (u : Bool) → 0 < qh.length → Sound g (station (sender ql qh n z None u false t) al ah bl bh)
      → Sound g (station (sender ql qh n z (Some high) u false t) al ah bl bh)
  enter-high u h s =
      record {
        agrees = s.agrees;
        in-bounds = bounds.enter-high g ql qh n z t u h s.in-bounds;
        stock-low = s.stock-low;
        stock-high = s.stock-high;
        line = (block_0 (lane_d qh ah) qh.position n z s.in-bounds.line.0 s.in-bounds.line.1, s.line.1);
      }

  pub enter-low : 0 < ql.length → Sound g (station (sender ql qh n z None false false t) al ah bl bh)
      → Sound g (station (sender ql qh n z (Some low) false false t) al ah bl bh)
  enter-low h s =
      record {
        agrees = s.agrees;
        in-bounds = bounds.enter-low g ql qh n z t false h s.in-bounds;
        stock-low = s.stock-low;
        stock-high = s.stock-high;
        line = (block_0 (lane_d ql al) ql.position n z s.in-bounds.line.0 s.in-bounds.line.1, s.line.0);
      }

  -- whichever step applies
  sound-turn : (o : OnLine) (u c : Bool) (st : Step) → Turn g ql qh n z t al ah o u c st → Sound g (station (sender ql qh n z o u c t) al ah bl bh)
      → Sound g (after_step (station (sender ql qh n z o u c t) al ah bl bh) st)
  sound-turn None u c st cut-due s = true-false s.in-bounds.line.2
  sound-turn (Some high) u c st cut-due s = true-false s.in-bounds.line.1
  sound-turn (Some low) u c st cut-due s =
      record {
        agrees = s.agrees;
        in-bounds = (bounds.cut_keeps g ql qh n z t u s.in-bounds).bounds;
        stock-low = s.stock-low;
        stock-high = s.stock-high;
        line = (s.line.1, s.line.0);
      }
  sound-turn o u c st (idles i j) s = s
  sound-turn o u c st (resumes-low i h) s =
      record {
        agrees = s.agrees;
        in-bounds = bounds.enter-low g ql qh n z t true h s.in-bounds;
        stock-low = s.stock-low;
        stock-high = s.stock-high;
        line = (block_0 (lane_d ql al) ql.position n z s.in-bounds.line.0 s.in-bounds.line.1, s.line.0);
      }
  sound-turn o u c st (begins-high h w) s = sound-high u (enter-high u h s) st w
  sound-turn o u c st (begins-low i h w) s = sound-low (enter-low h s) st w
  sound-turn o u c st (high-on w) s = sound-high u s st w
  sound-turn o true c st (low-on w) s = true-false s.in-bounds.line.1
  sound-turn o false c st (low-on w) s = sound-low s st w

-- ---- the calls

pub sound-next : (g : Agreed) (w : Station) → Sound g w → Sound g (after_next w)
unfolding after_next
sound-next g w s =
    let e = w.end in
    let r = e.state in
    by_next g e s.agrees (λ st. Sound g (after_step w st)) (λ _. s)
    (λ st t.
    sound-turn g r.low r.high r.left r.zeros r.settings e.low e.high w.lanes.low w.lanes.high
    r.on r.suspended r.cut st t s)

-- a load
pub loaded-stock : (g : Agreed) (p a : List ℕ) → least_packet ≤ length p
    → StockOf g (bounds.q-p g p) (frame g.check p ++ drop (length (frame g.check p)) a) p
loaded-stock g p a h =
    record { big = h; long = refl; same = take-append_seam (frame g.check p) (drop (length (frame g.check p)) a) }

module _ (g : Agreed) (p : List ℕ) (ql qh : LaneState) (n z : ℕ) (t : Settings) (al ah : List ℕ) (bl bh : Option (List ℕ)) where
  abbrev a-p : List ℕ → List ℕ
  a-p a = frame g.check p ++ drop (length (frame g.check p)) a

  line_low : (o : OnLine) (u c : Bool) → bounds.LowOff o u c → Line g o u c (station (sender ql qh n z o u c t) al ah bl bh)
      → Line g o u c (station (sender (bounds.q-p g p) qh n z o u c t) (a-p al) ah (some p) bh)
  line_low o u c bounds.low-off₁ l = (l.0, refl)
  line_low o u c bounds.low-off₂ l = (l.0, refl)

  line-high : (o : OnLine) (u c : Bool) → bounds.HighOff o u c → Line g o u c (station (sender ql qh n z o u c t) al ah bl bh)
      → Line g o u c (station (sender ql (bounds.q-p g p) n z o u c t) al (a-p ah) bl (some p))
  line-high o u c bounds.high-off₁ l = (refl, l.1)
  line-high o u c bounds.high-off₂ l = (l.0, refl)
  line-high o u c bounds.high-off₃ l = (l.0, refl)

-- a run's load changes nothing, or is Done
pub by-load : (g : Agreed) (l : Lane) (p : List ℕ) (w : Station) (P : Station → Type 0) → agreed w.end.state.settings ≡ g → P w
    → (bounds.Accepts g l p w.end.state → P (loaded_by (put_frame g l p w.end.state (lane_area l w.end)) l p w)) → P (after_load l p w)
unfolding after_load
by-load g low p w P ag same f = bounds.by-load g low p w.end.state w.end.low (λ t. P (loaded_by t low p w)) ag (λ _. same) f
by-load g high p w P ag same f = bounds.by-load g high p w.end.state w.end.high (λ t. P (loaded_by t high p w)) ag (λ _. same) f

-- the empty lane of a state in bounds
pub low-is-off : (g : Agreed) (s : Sender) → bounds.Bounds g s → s.low.length ≡ 0 → bounds.LowOff s.on s.suspended s.cut
low-is-off g s b e = bounds.low-off s.low s.high s.left s.zeros s.on s.suspended s.cut e b.waits b.line

pub high-is-off : (g : Agreed) (s : Sender) → bounds.Bounds g s → s.high.length ≡ 0 → bounds.HighOff s.on s.suspended s.cut
high-is-off g s b e = bounds.high-off s.low s.high s.left s.zeros s.on s.suspended s.cut e b.line

pub sound-load : (g : Agreed) (l : Lane) (p : List ℕ) (w : Station) → Sound g w → Sound g (after_load l p w)
unfolding put_frame
sound-load g low p w s =
    let r = w.end.state in
    by-load g low p w (Sound g) s.agrees s
    (λ k.
    record {
      agrees = s.agrees;
      in-bounds = (bounds.put-bounds g p k.big k.small low r w.end.low k.free s.in-bounds).bounds;
      stock-low = loaded-stock g p w.end.low k.big;
      stock-high = s.stock-high;
      line =
          line_low g p r.low r.high r.left r.zeros r.settings w.end.low w.end.high w.lanes.low w.lanes.high
          r.on r.suspended r.cut (low-is-off g r s.in-bounds k.free) s.line;
    })
sound-load g high p w s =
    let r = w.end.state in
    by-load g high p w (Sound g) s.agrees s
    (λ k.
    record {
      agrees = s.agrees;
      in-bounds = (bounds.put-bounds g p k.big k.small high r w.end.high k.free s.in-bounds).bounds;
      stock-low = s.stock-low;
      stock-high = loaded-stock g p w.end.high k.big;
      line =
          line-high g p r.low r.high r.left r.zeros r.settings w.end.low w.end.high w.lanes.low w.lanes.high
          r.on r.suspended r.cut (high-is-off g r s.in-bounds k.free) s.line;
    })

pub sound-fresh : (t : Settings) (a b : List ℕ) → Sound (agreed t) (fresh_station t a b)
sound-fresh t a b =
    record {
      agrees = refl;
      in-bounds =
          record {
            low = record { size = λ k. absurd (k refl); place = omega arith };
            high = record { size = λ k. absurd (k refl); place = omega arith };
            few = omega arith;
            two = omega arith;
            even = λ _. refl;
            line = (refl, refl, refl);
            waits = λ e. false-true e;
          };
      stock-low = refl;
      stock-high = refl;
      line = (refl, refl);
    }

pub sound-run : (g : Agreed) (w : Station) (cs : List SenderCall) → Sound g w → Sound g (run w cs)
unfolding run
sound-run g w [] s = s
sound-run g w (loading l p ∷ cs) s = sound-run g (after_load l p w) cs (sound-load g l p w s)
sound-run g w (next_octet ∷ cs) s = sound-run g (after_next w) cs (sound-next g w s)
