-- Which packets are under way, told by the written octets and by the state; and after a flag no lane is on the line.
use mathlib.Core.Path.{◌≡◌, refl, sym, ap, ◌∙◌}
use mathlib.Core.Bool.{Bool, true, false}
use mathlib.Core.List.{List, [], ◌∷◌, ◌++◌}
use Prim.Native.Nat.{ℕ}
use native.Mathlib.Omega.{arith}
use Rattle.std.specs.Prelude.{Some, None}
use Rattle.cobs.specs.CodeBlocks.{flag, to_line}
use Rattle.cobs.proofs.Exchange.{no_flag}
use Rattle.link.specs.Agreed.{Settings, Agreed}
use Rattle.link.specs.Answers.{Answer, octet, idle, refused}
use Rattle.link.specs.Sender.{Lane, low, high, OnLine, LaneState, Out, closes, breaks_off, sends, sends_nothing, refuses, Step, out_answer, lane_d, next, put_frame}
use Rattle.link.specs.Runs.{Station, under_way_after, under_way, Written, writes, written, after_load, after_next, run, SenderCall, loading, next_octet}
use Rattle.link.proofs.Tests.{true-false}
use Rattle.link.proofs.Way.{Way, ends, cuts, warns, goes, sender, Turn, cut-due, idles, resumes-low, begins-high, begins-low, high-on, low-on, by_next}
use Rattle.link.proofs.SenderBounds as bounds
use Rattle.link.proofs.Sound.{Sound, by-load, sound-load, sound-next}

-- a lane's packet is under way, by the lane on the line and the mark suspended
abbrev pub under_way_by : Lane → OnLine → Bool → Bool
under_way_by low None u = u
under_way_by low (Some low) u = true
under_way_by low (Some high) u = u
under_way_by high None u = false
under_way_by high (Some low) u = false
under_way_by high (Some high) u = true

-- only a flag is answered as 7E
abbrev as_flag : Answer → Type 0
as_flag a = a ≡ octet flag

plain : {Q : Type 0} (x : ℕ) → as_flag (octet x) → (x ≡ flag → ⊥) → Q
plain x e f = absurd (f (cc))

silent : {Q : Type 0} → as_flag idle → Q
silent e = absurd (let z : ◌≡◌ {A = ℕ} 0 1 = cc in omega arith)

no-octet : {Q : Type 0} (n : ℕ) → as_flag (refused n) → Q
no-octet n e = absurd (let z : ◌≡◌ {A = ℕ} 0 1 = cc in omega arith)

-- a call, with the lane o on the line and the mark u before it
pub record After (o : OnLine) (u : Bool) (st : Step) : Type 0 where
  pub way : (l : Lane) → under_way_after l (under_way_by l o u) st.out ≡ under_way_by l st.state.on st.state.suspended
  pub off : as_flag (out_answer st.out) → st.state.on ≡ None

pub lanes : (P : Lane → Type 0) → P low → P high → (l : Lane) → P l
lanes P h k low = h
lanes P h k high = k

module _ (g : Agreed) (ql qh : LaneState) (n z : ℕ) (t : Settings) (d : List ℕ) where
  -- a lane goes on, or begins
  high_goes : (u : Bool) (st : Step) → Way g high (sender ql qh n z (Some high) u false t) d st → After (Some high) u st
  high_goes true st (ends over) = record { way = lanes _ refl refl; off = λ _. refl }
  high_goes false st (ends over) = record { way = lanes _ refl refl; off = λ _. refl }
  high_goes u st (cuts short e pre urgent f) = bounds.low-high e
  high_goes u st (warns short e pre urgent f) = bounds.low-high e
  high_goes true st (goes x pos n' z' short v free) = record { way = lanes _ refl refl; off = λ i. plain (to_line x) i (no_flag x) }
  high_goes false st (goes x pos n' z' short v free) = record { way = lanes _ refl refl; off = λ i. plain (to_line x) i (no_flag x) }

  high-begins : (u : Bool) (st : Step) → Way g high (sender ql qh n z (Some high) u false t) d st → After None u st
  high-begins true st (ends over) = record { way = lanes _ refl refl; off = λ _. refl }
  high-begins false st (ends over) = record { way = lanes _ refl refl; off = λ _. refl }
  high-begins u st (cuts short e pre urgent f) = bounds.low-high e
  high-begins u st (warns short e pre urgent f) = bounds.low-high e
  high-begins true st (goes x pos n' z' short v free) = record { way = lanes _ refl refl; off = λ i. plain (to_line x) i (no_flag x) }
  high-begins false st (goes x pos n' z' short v free) = record { way = lanes _ refl refl; off = λ i. plain (to_line x) i (no_flag x) }

  low_goes : (st : Step) → Way g low (sender ql qh n z (Some low) false false t) d st → After (Some low) false st
  low_goes st (ends over) = record { way = lanes _ refl refl; off = λ _. refl }
  low_goes st (cuts short e pre urgent f) = record { way = lanes _ refl refl; off = λ _. refl }
  low_goes st (warns short e pre urgent f) = record { way = lanes _ refl refl; off = λ i. plain 0x02 i (λ q. omega arith) }
  low_goes st (goes x pos n' z' short v free) = record { way = lanes _ refl refl; off = λ i. plain (to_line x) i (no_flag x) }

  low-begins : (st : Step) → Way g low (sender ql qh n z (Some low) false false t) d st → After None false st
  low-begins st (ends over) = record { way = lanes _ refl refl; off = λ _. refl }
  low-begins st (cuts short e pre urgent f) = record { way = lanes _ refl refl; off = λ _. refl }
  low-begins st (warns short e pre urgent f) = record { way = lanes _ refl refl; off = λ i. plain 0x02 i (λ q. omega arith) }
  low-begins st (goes x pos n' z' short v free) = record { way = lanes _ refl refl; off = λ i. plain (to_line x) i (no_flag x) }

module _ (g : Agreed) (ql qh : LaneState) (n z : ℕ) (t : Settings) (al ah : List ℕ) where
  after_turn : (o : OnLine) (u c : Bool) (st : Step) → Turn g ql qh n z t al ah o u c st → bounds.Bounds g (sender ql qh n z o u c t) → After o u st
  after_turn None u c st cut-due b = true-false b.line.2
  after_turn (Some high) u c st cut-due b = true-false b.line.1
  after_turn (Some low) u c st cut-due b = record { way = lanes _ refl refl; off = λ _. refl }
  after_turn o u c st (idles i j) b = record { way = lanes _ refl refl; off = λ k. silent k }
  after_turn o u c st (resumes-low i h) b = record { way = lanes _ refl refl; off = λ q. plain 0xD1 q (λ r. omega arith) }
  after_turn o u c st (begins-high h w) b = high-begins g ql qh n z t (lane_d qh ah) u st w
  after_turn o u c st (begins-low i h w) b = low-begins g ql qh n z t (lane_d ql al) st w
  after_turn o u c st (high-on w) b = high_goes g ql qh n z t (lane_d qh ah) u st w
  after_turn o true c st (low-on w) b = true-false b.line.1
  after_turn o false c st (low-on w) b = low_goes g ql qh n z t (lane_d ql al) st w

after_next_lem : (g : Agreed) (w : Station) → Sound g w → After w.end.state.on w.end.state.suspended (next w.end)
after_next_lem g w s =
    let e = w.end in
    let r = e.state in
    by_next g e s.agrees (After r.on r.suspended) (λ n. record { way = λ l. refl; off = λ i. no-octet n i })
    (λ st t.
    after_turn g r.low r.high r.left r.zeros r.settings e.low e.high r.on r.suspended r.cut st t s.in-bounds)

pub flag_off : (g : Agreed) (w : Station) → Sound g w → as_flag (out_answer (next w.end).out) → (after_next w).end.state.on ≡ None
unfolding after_next
flag_off g w s f = (after_next_lem g w s).off f

-- ---- over a list of calls

abbrev pub under_way_in : Lane → Station → Bool
under_way_in l w = under_way_by l w.end.state.on w.end.state.suspended

load-under-way : (g : Agreed) (l k : Lane) (p : List ℕ) (w : Station) → Sound g w → under_way_in l (after_load k p w) ≡ under_way_in l w
unfolding put_frame
load-under-way g l low p w s = by-load g low p w (λ v. under_way_in l v ≡ under_way_in l w) s.agrees refl (λ _. refl)
load-under-way g l high p w s = by-load g high p w (λ v. under_way_in l v ≡ under_way_in l w) s.agrees refl (λ _. refl)

next-under-way : (g : Agreed) (l : Lane) (w : Station) → Sound g w → under_way_after l (under_way_in l w) (next w.end).out ≡ under_way_in l (after_next w)
unfolding after_next
next-under-way g l w s = (after_next_lem g w s).way l

writes-under-way : (l : Lane) (b : Bool) (o : Out) (w : Station) (es : List Written) → under_way l b (writes o w es) ≡ under_way l (under_way_after l b o) es
unfolding under_way
writes-under-way l b (closes k) w es = refl
writes-under-way l b breaks_off w es = refl
writes-under-way l b (sends k x) w es = refl
writes-under-way l b sends_nothing w es = refl
writes-under-way l b (refuses n) w es = refl

pub under-way : (g : Agreed) (l : Lane) (w : Station) (cs : List SenderCall) → Sound g w → under_way l (under_way_in l w) (written w cs) ≡ under_way_in l (run w cs)
unfolding under_way written run
under-way g l w [] s = refl
under-way g l w (loading k p ∷ cs) s =
    ap (λ (b : Bool). under_way l b (written (after_load k p w) cs)) (sym (load-under-way g l k p w s))
    ∙ under-way g l (after_load k p w) cs (sound-load g k p w s)
under-way g l w (next_octet ∷ cs) s =
    writes-under-way l (under_way_in l w) (next w.end).out w (written (after_next w) cs)
    ∙ (ap (λ (b : Bool). under_way l b (written (after_next w) cs)) (next-under-way g l w s)
    ∙ under-way g l (after_next w) cs (sound-next g w s))

pub run-append : (w : Station) (cs ds : List SenderCall) → run w (cs ++ ds) ≡ run (run w cs) ds
unfolding run
run-append w [] ds = refl
run-append w (loading l p ∷ cs) ds = run-append (after_load l p w) cs ds
run-append w (next_octet ∷ cs) ds = run-append (after_next w) cs ds
