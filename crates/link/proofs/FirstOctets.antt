-- No frame that the sender writes begins FF.
use mathlib.Core.Path.{◌≡◌, refl, sym, ◌∙◌}
use mathlib.Core.Bool.{Bool, true, false}
use mathlib.Core.List.{List, [], ◌∷◌}
use Prim.Native.Nat.{ℕ}
use native.Mathlib.Omega.{arith}
use borrow.Author.Tests.{ne_eqb}
use lib.ListN.{drop}
use Rattle.std.specs.Prelude.{Some, None}
use Rattle.cobs.specs.CodeBlocks.{flag, to_line, choice}
use Rattle.cobs.proofs.Exchange.{no_flag, to-other}
use Rattle.cobs.proofs.Chosen.{code_below}
use Rattle.link.specs.Agreed.{Settings, Agreed}
use Rattle.link.specs.Sender.{Lane, low, high, OnLine, LaneState, Sender, Out, closes, breaks_off, sends, sends_nothing, refuses, Step, lane_state, next, put_frame}
use Rattle.link.specs.Runs.{Station, Written, writes, written, written_octets, after_load, after_next, SenderCall, loading, next_octet}
use Rattle.link.specs.Demands.{frame_began_ff}
use Rattle.link.proofs.Tests.{true-false}
use Rattle.link.proofs.Way.{Advance, last, more, covers, opens, Way, ends, cuts, warns, goes, sender, Turn, cut-due, idles, resumes-low, begins-high, begins-low, high-on, low-on, line-free, by_next}
use Rattle.link.proofs.SenderBounds as bounds
use Rattle.link.proofs.Sound.{Sound, by-load, sound-load, sound-next}

-- What a step writes, b: where a frame begins; o, o': the lane on the line before and after it. Behind a flag no lane is; and with no lane on the
-- line the octet is a code, D1 or 02.
abbrev Begins : Bool → OnLine → OnLine → Out → Type 0
Begins b o o' (closes l) = o' ≡ None
Begins b o o' breaks_off = o' ≡ None
Begins b o o' (sends l x) = (b ≡ true → x ≡ 0xFF → ⊥) × (x ≡ flag → ⊥)
Begins b o o' sends_nothing = o' ≡ o
Begins b o o' (refuses n) = o' ≡ o

not-FF : (zxe : Bool) (d : List ℕ) (pos : ℕ) → to_line (choice zxe (drop pos d)).code ≡ 0xFF → ⊥
not-FF zxe d pos q = omega (arith, to-other _ 0xFF q (λ k. omega arith), code_below zxe (drop pos d))

module _ (b : Bool) (o : OnLine) (g : Agreed) (l : Lane) (s : Sender) (d : List ℕ) (fresh : b ≡ true → s.left ≡ 0) where
  goes_first : (x pos n z : ℕ) → Advance g.zxe d (lane_state l s).position s.left s.zeros x pos n z → (b ≡ true → to_line x ≡ 0xFF → ⊥) × (to_line x ≡ flag → ⊥)
  goes_first x pos n z (last k) = ((λ q _. omega (arith, fresh q)), no_flag x)
  goes_first x pos n z (more k i) = ((λ q _. omega (arith, fresh q)), no_flag x)
  goes_first x pos n z (covers k i) = ((λ _ q. not-FF g.zxe d (lane_state l s).position q), no_flag x)
  goes_first x pos n z (opens k i) = ((λ _ q. not-FF g.zxe d (lane_state l s).position q), no_flag x)

  way-first : (st : Step) → Way g l s d st → Begins b o st.state.on st.out
  way-first st (ends over) = refl
  way-first st (cuts short e pre urgent f) = refl
  way-first st (warns short e pre urgent f) = ((λ _ q. omega arith), λ q. omega arith)
  way-first st (goes x pos n z short v free) = goes_first x pos n z v

module _ (b : Bool) (g : Agreed) (ql qh : LaneState) (n z : ℕ) (t : Settings) (al ah : List ℕ) where
  turn-first : (o : OnLine) (u c : Bool) (st : Step) → Turn g ql qh n z t al ah o u c st → bounds.Bounds g (sender ql qh n z o u c t) → (b ≡ true → o ≡ None)
      → Begins b o st.state.on st.out
  turn-first o u c st cut-due i h = refl
  turn-first o u c st (idles j k) i h = refl
  turn-first o u c st (resumes-low j k) i h = ((λ _ q. omega arith), λ q. omega arith)
  turn-first o u c st (begins-high k w) i h = way-first b None g high _ _ (λ _. i.line.0) st w
  turn-first o u c st (begins-low j k w) i h = way-first b None g low _ _ (λ _. i.line.0) st w
  turn-first o u c st (high-on w) i h = way-first b (Some high) g high _ _ (λ q. line-free high (h q)) st w
  turn-first o u c st (low-on w) i h = way-first b (Some low) g low _ _ (λ q. line-free low (h q)) st w

next-first : (b : Bool) (g : Agreed) (w : Station) → Sound g w → (b ≡ true → w.end.state.on ≡ None)
    → Begins b w.end.state.on (next w.end).state.on (next w.end).out
next-first b g w s h =
    let e = w.end in
    let r = e.state in
    by_next g e s.agrees (λ (st : Step). Begins b r.on st.state.on st.out) (λ _. refl)
    (λ st t.
    turn-first b g r.low r.high r.left r.zeros r.settings e.low e.high r.on r.suspended r.cut st t s.in-bounds h)

-- ---- over a list of calls

load-on : (g : Agreed) (k : Lane) (p : List ℕ) (w : Station) → Sound g w → (after_load k p w).end.state.on ≡ w.end.state.on
unfolding put_frame
load-on g low p w s = by-load g low p w (λ v. v.end.state.on ≡ w.end.state.on) s.agrees refl (λ _. refl)
load-on g high p w s = by-load g high p w (λ v. v.end.state.on ≡ w.end.state.on) s.agrees refl (λ _. refl)

writes-first : (b : Bool) (o : Out) (w v : Station) (es : List Written) → (b ≡ true → w.end.state.on ≡ None)
    → Begins b w.end.state.on v.end.state.on o
    → ((c : Bool) → (c ≡ true → v.end.state.on ≡ None) → frame_began_ff c (written_octets es) ≡ false)
    → frame_began_ff b (written_octets (writes o w es)) ≡ false
writes-first true (closes l) w v es h k f = f true (λ _. k)
writes-first false (closes l) w v es h k f = f true (λ _. k)
writes-first true breaks_off w v es h k f = f true (λ _. k)
writes-first false breaks_off w v es h k f = f true (λ _. k)
writes-first true (sends l x) w v es h k f = rw (ne_eqb x 0xFF (k.0 refl), ne_eqb x flag k.1) (f false (λ q. true-false (sym q)))
writes-first false (sends l x) w v es h k f = rw (ne_eqb x flag k.1) (f false (λ q. true-false (sym q)))
writes-first b sends_nothing w v es h k f = f b (λ q. k ∙ h q)
writes-first b (refuses n) w v es h k f = f b (λ q. k ∙ h q)

-- b: nothing of a frame was written since the last flag
pub never-FF : (g : Agreed) (b : Bool) (w : Station) (cs : List SenderCall) → Sound g w → (b ≡ true → w.end.state.on ≡ None)
    → frame_began_ff b (written_octets (written w cs)) ≡ false
unfolding written after_next
never-FF g b w [] s h = refl
never-FF g b w (loading l p ∷ cs) s h = never-FF g b (after_load l p w) cs (sound-load g l p w s) (λ q. load-on g l p w s ∙ h q)
never-FF g b w (next_octet ∷ cs) s h =
    writes-first b (next w.end).out w (after_next w) (written (after_next w) cs) h (next-first b g w s h)
    (λ c k. never-FF g c (after_next w) cs (sound-next g w s) k)
