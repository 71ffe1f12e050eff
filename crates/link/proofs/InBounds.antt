-- Every call keeps a state in bounds, and a run from a fresh end is never refused 3.
use mathlib.Core.Path.{◌≡◌, refl, sym, subst}
use mathlib.Core.Bool.{Bool, true, ◌||◌}
use mathlib.Core.Logic.{⊎_elim}
use mathlib.Core.List.Memᴰ
use mathlib.Core.List.{List, [], ◌∷◌, map, Memᴰ}
use Prim.Native.Nat.{ℕ}
use native.Mathlib.Omega.{arith}
use lib.Dec.{ltb}
use lib.ListN.{length}
use Rattle.std.specs.Prelude.{Some, None}
use Rattle.cobs.proofs.Tests.{branch, decide}
use Rattle.link.specs.Agreed.{Settings, Agreed, agreed, valid, least_packet, largest_frame, most_decoded}
use Rattle.link.specs.Answers.{refused}
use Rattle.link.specs.Sender.{Lane, low, high, OnLine, LaneState, Sender, SenderEnd, Step, Load, out_answer, lane_area, lane_state, loaded, next, put_frame, load, in_bounds}
use Rattle.link.specs.Receiver.{PlainReading, ReceiverEnd, Receive, receive}
use Rattle.link.specs.Receiver as receiver
use Rattle.link.specs.Runs.{SenderCall, loading, next_octet, Station, fresh_station, sender_answers, after_load, after_next, receives}
use Rattle.link.specs.Demands.{KeepBounds, NeverOutOfBounds, fresh_receiver}
use Rattle.link.proofs.Tests.{not-below}
use Rattle.link.proofs.Way.{Way, ends, cuts, warns, goes, Turn, cut-due, idles, resumes-low, begins-high, begins-low, high-on, low-on, turn}
use Rattle.link.proofs.ReceiverBounds as heard
use Rattle.link.proofs.ReceiverCases.{too_short}
use Rattle.link.proofs.Whole.{passes, by-ready}
use Rattle.link.proofs.Stays.{receive-settings}
use Rattle.link.proofs.SenderBounds as sent
use Rattle.link.proofs.Sound.{Sound, sound-fresh, sound-load, sound-next}

-- ---- the receiver

-- a refused call changes nothing, and any other leaves the state in bounds
keeps : (e : ReceiverEnd) (x : ℕ) → receiver.in_bounds (agreed e.state.settings) e.state ≡ true
    → receiver.in_bounds (agreed (receive e x).after.state.settings) (receive e x).after.state ≡ true
keeps e x b = by-ready (λ h. receiver.in_bounds (agreed h.after.state.settings) h.after.state ≡ true) e x (λ _ _ _. b) (λ a. (passes e x a).ready.bounds)

-- 3 refuses only a state out of bounds
not-3 : (e : ReceiverEnd) (x : ℕ) → valid (agreed e.state.settings) ≡ true → receiver.in_bounds (agreed e.state.settings) e.state ≡ true
    → (receive e x).report ≡ refused 3 → ⊥
not-3 e x v b =
    let g = agreed e.state.settings in
    let most = most_decoded g in
    decide (ltb (length e.first) most || ltb (length e.second) most)
    (λ s. rw (too_short e x v s) (λ q. let n : ◌≡◌ {A = ℕ} 2 3 = cc in omega arith))
    (λ s q.
    let long = not-below (length e.first) most (length e.second) most s in
    let five : heard.OfFrame (refused 3) = subst heard.OfFrame q (passes e x (record { valid = v; first = long.0; second = long.1; bounds = b })).tells in
    omega arith)

never-3 : (xs : List ℕ) (e : ReceiverEnd) → valid (agreed e.state.settings) ≡ true → receiver.in_bounds (agreed e.state.settings) e.state ≡ true
    → Memᴰ (refused 3) (map (λ (h : Receive). h.report) (receives e xs)) → ⊥
unfolding receives
never-3 [] e v b m = Memᴰ.not-nil m
never-3 (x ∷ xs) e v b m =
    ⊎_elim (λ q. not-3 e x v b (sym q))
    (never-3 xs (receive e x).after (subst (λ (t : Settings). valid (agreed t) ≡ true) (sym (receive-settings e x)) v) (keeps e x b)) (Memᴰ.cases_cons m)

fresh-3 : (t : Settings) (reading : PlainReading) → valid (agreed t) ≡ true → (a b xs : List ℕ)
    → Memᴰ (refused 3) (map (λ (h : Receive). h.report) (receives (fresh_receiver t reading a b) xs)) → ⊥
fresh-3 t None v a b xs = never-3 xs _ v (heard.in_bounds_lem _ _ refl (λ _. refl) (heard.fresh_in (agreed t) t _ _ _ _ tt))
fresh-3 t (Some map) v a b xs = never-3 xs _ v (heard.in_bounds_lem _ _ refl (λ q. absurd (omega arith)) (heard.fresh_in (agreed t) t _ _ _ _ tt))

-- ---- the sender

-- no step refuses
way-3 : (g : Agreed) (l : Lane) (s : Sender) (d : List ℕ) (st : Step) → Way g l s d st → out_answer st.out ≡ refused 3 → ⊥
way-3 g l s d st (ends over) q = let n : ◌≡◌ {A = ℕ} 0 1 = cc in omega arith
way-3 g l s d st (cuts short e pre urgent f) q = let n : ◌≡◌ {A = ℕ} 0 1 = cc in omega arith
way-3 g l s d st (warns short e pre urgent f) q = let n : ◌≡◌ {A = ℕ} 0 1 = cc in omega arith
way-3 g l s d st (goes x pos n z short v free) q = let n : ◌≡◌ {A = ℕ} 0 1 = cc in omega arith

turn-3 : (g : Agreed) (ql qh : LaneState) (n z : ℕ) (t : Settings) (al ah : List ℕ) (o : OnLine) (u c : Bool) (st : Step) → Turn g ql qh n z t al ah o u c st
    → out_answer st.out ≡ refused 3 → ⊥
turn-3 g ql qh n z t al ah o u c st cut-due q = let i : ◌≡◌ {A = ℕ} 0 1 = cc in omega arith
turn-3 g ql qh n z t al ah o u c st (idles h k) q = let i : ◌≡◌ {A = ℕ} 0 1 = cc in omega arith
turn-3 g ql qh n z t al ah o u c st (resumes-low k h) q = let i : ◌≡◌ {A = ℕ} 0 1 = cc in omega arith
turn-3 g ql qh n z t al ah o u c st (begins-high h w) q = way-3 g high _ _ st w q
turn-3 g ql qh n z t al ah o u c st (begins-low k h w) q = way-3 g low _ _ st w q
turn-3 g ql qh n z t al ah o u c st (high-on w) q = way-3 g high _ _ st w q
turn-3 g ql qh n z t al ah o u c st (low-on w) q = way-3 g low _ _ st w q

next-3 : (g : Agreed) → valid g ≡ true → (e : SenderEnd) → agreed e.state.settings ≡ g → in_bounds g e.state ≡ true → out_answer (next e).out ≡ refused 3 → ⊥
unfolding next
next-3 g v e ag b =
    rw (ag, v, b)
    (branch (λ (st : Step). out_answer st.out ≡ refused 3 → ⊥) (ltb (length e.low) (largest_frame g) || ltb (length e.high) (largest_frame g))
    (λ _ q. let n : ◌≡◌ {A = ℕ} 2 3 = cc in omega arith)
    (λ _.
    let s = e.state in
    turn-3 g s.low s.high s.left s.zeros s.settings e.low e.high s.on s.suspended s.cut _
    (turn g s.low s.high s.left s.zeros s.settings e.low e.high s.on s.suspended s.cut)))

load-3 : (g : Agreed) → valid g ≡ true → (l : Lane) (p : List ℕ) (s : Sender) (a : List ℕ) → agreed s.settings ≡ g → in_bounds g s ≡ true
    → (load l p s a).answer ≡ refused 3 → ⊥
unfolding load put_frame
load-3 g v l p s a ag b =
    let P : Load → Type 0 = λ t. t.answer ≡ refused 3 → ⊥ in
    rw (ag, v, b)
    (branch P (ltb (length a) (largest_frame g)) (λ _ q. let n : ◌≡◌ {A = ℕ} 2 3 = cc in omega arith)
    (λ _. branch P (loaded (lane_state l s)) (λ _ q. let n : ◌≡◌ {A = ℕ} 4 3 = cc in omega arith)
    (λ _. branch P (ltb (length p) least_packet || ltb g.limit (length p)) (λ _ q. let n : ◌≡◌ {A = ℕ} 1 3 = cc in omega arith)
    (λ _ q. let n : ◌≡◌ {A = ℕ} 0 1 = cc in omega arith))))

sender-3 : (g : Agreed) → valid g ≡ true → (w : Station) (cs : List SenderCall) → Sound g w → Memᴰ (refused 3) (sender_answers w cs) → ⊥
unfolding sender_answers
sender-3 g v w [] s m = Memᴰ.not-nil m
sender-3 g v w (loading l p ∷ cs) s m =
    ⊎_elim (λ q. load-3 g v l p w.end.state (lane_area l w.end) s.agrees (sent.in_bounds_lem g w.end.state s.in-bounds) (sym q))
    (sender-3 g v (after_load l p w) cs (sound-load g l p w s)) (Memᴰ.cases_cons m)
sender-3 g v w (next_octet ∷ cs) s m =
    ⊎_elim (λ q. next-3 g v w.end s.agrees (sent.in_bounds_lem g w.end.state s.in-bounds) (sym q))
    (sender-3 g v (after_next w) cs (sound-next g w s)) (Memᴰ.cases_cons m)

-- ---- the theorems

kept_in : (t : Settings) (s : Sender) → sent.Kept (agreed t) t s → in_bounds (agreed s.settings) s ≡ true
kept_in t s k = subst (λ (u : Settings). in_bounds (agreed u) s ≡ true) (sym k.settings) (sent.in_bounds_lem (agreed t) s k.bounds)

pub keep-bounds : KeepBounds
keep-bounds =
    record {
      load = λ l p s a b. kept_in s.settings _ (sent.load-keeps (agreed s.settings) l p s a refl (sent.bounds (agreed s.settings) s b));
      next =
          λ e b.
          kept_in e.state.settings _ (sent.next-keeps (agreed e.state.settings) e refl (sent.bounds (agreed e.state.settings) e.state b));
      receive = keeps;
    }

pub never-out-of-bounds : NeverOutOfBounds
never-out-of-bounds =
    record {
      sender = λ t v al ah cs m. sender-3 (agreed t) v (fresh_station t al ah) cs (sound-fresh t al ah) m;
      receiver = fresh-3;
    }
