-- Areas changed behind the receiver's back: a D1 finds out, and refuses 21; with areas that nobody else writes 21 is never reported.
use mathlib.Core.Path.{◌≡◌, refl, sym, ap, subst, ◌∙◌}
use mathlib.Core.Bool.{Bool, true, false, not, ◌&&◌}
use mathlib.Core.List.Memᴰ
use mathlib.Core.List.{List, [], ◌∷◌, map, Memᴰ}
use mathlib.Core.Logic.{⊎_elim}
use Prim.Native.Nat.{ℕ, ◌^◌, ◌≤◌}
use native.Mathlib.Omega.{arith}
use borrow.Author.Tests.{eqb-true, eqb-false, ne_eqb}
use lib.Dec.{eqb}
use lib.ListN.{take}
use lib.Pow.{pow_pos}
use Rattle.std.specs.Prelude.{Some, None}
use Rattle.fcs.specs.CheckSequence.{width, register, Burst}
use Rattle.fcs.proofs.Laws.{register-none}
use Rattle.fcs.proofs.Bursts.{bursts-change}
use Rattle.cobs.specs.CodeBlocks.{flag, from_line}
use Rattle.cobs.proofs.Tests.{branch, decide}
use Rattle.link.specs.Agreed.{Settings, Agreed, agreed}
use Rattle.link.specs.Answers.{quiet, refused}
use Rattle.link.specs.Receiver.{Held, holds, PlainReading, Receiver, ReceiverEnd, Receive, is_plain, carried, let_go, in_bounds, step4_remember, step1_resume_held, step1_d1, is_held, area_of, aside, receive}
use Rattle.link.specs.ReceiverParts.{ReceiverReady}
use Rattle.link.specs.Runs.{receives, received}
use Rattle.link.specs.EachCall.{HeldThen, NotHeldThen}
use Rattle.link.specs.Demands.{fresh_receiver, held_octets, cleared, octets_held, Unchanged, OutOfCobsFrame, HasToResume, NeverChanged, AreasChanged}
use Rattle.link.proofs.Tests.{if-so, if-not, true-false, not-not}
use Rattle.link.proofs.Agreed.{sound-check}
use Rattle.link.proofs.ReceiverBounds.{counts, out-fresh, HeldOk}
use Rattle.link.proofs.Remembers.{NoLongerGives}
use Rattle.link.proofs.Whole.{by-ready}
use Rattle.link.proofs.Within.{call-refuses}
use Rattle.link.proofs.EachCall.{octet-changed, resumed-by-D1, receives-so, settings-stay}
use Rattle.link.proofs.Restart.{becomes, D1-becomes, refused-first, over-cleared}

-- ---- a D1 with something held

-- what is held, unchanged, by its count and register
abbrev Gives : Agreed → List ℕ → Held → Type 0
Gives g area h = register g.check (held_octets h area) ≡ carried g h

-- either the octets give the register, or they were changed
not-given : (g : Agreed) (area : List ℕ) (h : Held) → Gives g area h → NoLongerGives g area h → ⊥
not-given g area None u c = c
not-given g area (Some h) u c = c u

module _ (e : ReceiverEnd) (h : HasToResume e) where
  abbrev g : Agreed
  g = agreed e.state.settings

  abbrev at : OutOfCobsFrame e
  at = h.at

  D1-refused : (f : Held) → is_held f ≡ true → (Gives g (aside e) f → ⊥) → step1_resume_held g (aside e) f e.state ≡ step4_remember 21 true (let_go e.state)
  unfolding step1_resume_held
  D1-refused None some c = true-false (sym some)
  D1-refused (Some f) some c = if-not _ _ _ (ne_eqb _ f.register c)

  at-once : (Unchanged e → ⊥) → receive e 0xD1 ≡ record { report = quiet; after = becomes e at (step4_remember 21 true (cleared e).state) }
  unfolding step1_d1
  at-once c =
      let o = out-fresh g e.state (counts g e.state at.ready.bounds) at.out in
      D1-becomes e at _ (if-so _ _ _ h.pre ∙ D1-refused e.state.held h.some c)
      ∙ rw o.decoded-0

  frame-21 : (Unchanged e → ⊥) → (rest : List ℕ) → (Memᴰ flag rest → ⊥) → receive (received e (0xD1 ∷ rest)) flag ≡ record { report = refused 21; after = cleared e }
  frame-21 c rest none = refused-first e at 0xD1 21 _ (at-once c) at.cobs refl refl (λ q. omega arith) rest none ∙ over-cleared e at 21 true

-- ---- in a run

-- nothing that is held was changed, and no frame is remembered as refused 21
record Still (e : ReceiverEnd) : Type 0 where
  unchanged : Unchanged e
  not-21 : e.state.refusal ≡ 21 → ⊥

-- after a call, which does not report 21 either
record Calls (h : Receive) : Type 0 where
  still : Still h.after
  tells : h.report ≡ refused 21 → ⊥

-- nothing held is unchanged, whatever the areas
none-changed : (g : Agreed) (area : List ℕ) (h : Held) → h ≡ None → Gives g area h
none-changed g area h e = subst (Gives g area) (sym e) (register-none g.check)

module _ (e : ReceiverEnd) (k : Still e) where
  abbrev t : Agreed
  t = agreed e.state.settings

  module _ (a : ReceiverReady e) (x : ℕ) where
    abbrev d : ReceiverEnd
    d = (receive e x).after

    kept : (f : Held) → d.state.held ≡ f → Gives t (aside d) f → Unchanged d
    kept f h u = rw (settings-stay.receive e x, h) u

    -- ---- an octet that is no flag

    module _ (other : x ≡ flag → ⊥) where
      takes : (is_plain e.state.mode ≡ false → e.state.framed ≡ false → from_line x ≡ 0xD1 → t.pre ≡ true → e.state.held ≡ None) → Unchanged d
      takes none =
          let m = receives-so.takes_in e a x other none in
          let same : aside d ≡ aside e = ap (λ (b : Bool). area_of (not b) d) m.turn ∙ m.other in
          kept _ m.held
          (rw same (branch (Gives t (aside e)) (not (is_plain e.state.mode) && not e.state.framed && eqb (from_line x) 0xFF) (λ _. register-none t.check) (λ _. k.unchanged)))

      by-held : is_plain e.state.mode ≡ false → e.state.framed ≡ false → from_line x ≡ 0xD1 → t.pre ≡ true → (f : Held) → e.state.held ≡ f → Unchanged d
      by-held cobs-read out is pre None q = takes (λ _ _ _ _. q)
      by-held cobs-read out is pre (Some f) q =
          let m = resumed-by-D1 e a cobs-read out pre f.count f.register q (subst (Gives t (aside e)) q k.unchanged) x other is in
          kept None m.held (register-none t.check)

      octet-unchanged : Unchanged d
      octet-unchanged =
          decide (is_plain e.state.mode) (λ m. takes (λ no. true-false (sym m ∙ no)))
          (λ m. decide e.state.framed (λ f. takes (λ _ out. true-false (sym f ∙ out)))
          (λ f. decide (eqb (from_line x) 0xD1)
          (λ i. decide t.pre (λ p. by-held m f (eqb-true _ _ i) p e.state.held refl) (λ p. takes (λ _ _ _ q. true-false (sym q ∙ p))))
          (λ i. takes (λ _ _ q _. absurd (eqb-false _ _ i q)))))

      octet-not-21 : d.state.refusal ≡ 21 → ⊥
      octet-not-21 q =
          decide (eqb e.state.refusal 0)
          (λ c. not-given t (aside e) e.state.held k.unchanged (octet-changed e a (eqb-true _ _ c) x other q))
          (λ c. k.not-21 (ap (λ (f : ReceiverEnd). f.state.refusal) (sym (receives-so.skipped e a (eqb-false _ _ c) x other)) ∙ q))

      octet-still : Calls (receive e x)
      octet-still =
          record {
            still = record { unchanged = octet-unchanged; not-21 = octet-not-21 };
            tells = λ q. let same = sym (receives-so.others e a x other) ∙ q in let n : ◌≡◌ {A = ℕ} 0 1 = cc in omega arith;
          }

  -- ---- a flag

  module _ (a : ReceiverReady e) where
    abbrev v : ReceiverEnd
    v = (receive e flag).after

    flag-kept : (turn : Bool) (f : Held) → v.state.turn ≡ turn → v.state.held ≡ f → v.first ≡ e.first → v.second ≡ e.second
        → Gives t (area_of (not turn) e) f → Unchanged v
    flag-kept turn f b h i j u =
        kept a flag f h (rw (ap (λ (c : Bool). area_of (not c) v) b, i, j) u)

    flag-unchanged : e.state.framed ≡ true → Still v
    flag-unchanged f =
        let m = receives-so.frame e a f in
        ⊎_elim
        (λ (h : HeldThen e (receive e flag)).
        record {
          unchanged =
              flag-kept _ _ (ap (λ (r : Receiver). r.turn) h.1) (ap (λ (r : Receiver). r.held) h.1) m.first m.second
              (ap (λ (b : Bool). register t.check (take e.state.decoded (area_of b e))) (not-not e.state.turn));
          not-21 = λ q. let n : 0 ≡ 21 = sym (ap (λ (r : Receiver). r.refusal) h.1) ∙ q in omega arith;
        })
        (λ (h : NotHeldThen e.state (receive e flag)).
        record {
          unchanged =
              flag-kept _ _ (ap (λ (r : Receiver). r.turn) h.state) (ap (λ (r : Receiver). r.held) h.state) m.first m.second
              (decide e.state.resumed (λ r. none-changed t (aside e) h.fragment (h.resumed r))
              (λ r. subst (Gives t (aside e)) (sym (h.other r)) k.unchanged));
          not-21 = λ q. let n : 0 ≡ 21 = sym (ap (λ (r : Receiver). r.refusal) h.state) ∙ q in omega arith;
        })
        m.report

    flag-still : Calls (receive e flag)
    flag-still =
        record {
          still = decide e.state.framed flag-unchanged (λ f. subst Still (sym (ap (λ (h : Receive). h.after) (receives-so.empty e a f))) k);
          tells =
              λ q.
              ⊎_elim (λ c. k.not-21 c.0) (λ c. omega (arith, c.1))
              (call-refuses e a 21 q);
        }

    ready-still : (x : ℕ) → Calls (receive e x)
    ready-still x = decide (eqb x flag) (λ q. rw (eqb-true x flag q) flag-still) (λ q. octet-still a x (eqb-false x flag q))

  -- ---- any call

  call-still : (x : ℕ) → Calls (receive e x)
  call-still x = by-ready Calls e x (λ n _ h. record { still = k; tells = λ q. let m : n ≡ 21 = cc in omega arith }) (λ a. ready-still a x)

-- ---- and any list of them

stills : (line : List ℕ) (e : ReceiverEnd) → Still e → Still (received e line)
unfolding received
stills [] e k = k
stills (x ∷ xs) e k = stills xs (receive e x).after (call-still e k x).still

never-told : (line : List ℕ) (e : ReceiverEnd) → Still e → Memᴰ (refused 21) (map (λ (h : Receive). h.report) (receives e line)) → ⊥
unfolding receives
never-told [] e k m = Memᴰ.not-nil m
never-told (x ∷ xs) e k m =
    ⊎_elim (λ q. (call-still e k x).tells (sym q)) (never-told xs (receive e x).after (call-still e k x).still) (Memᴰ.cases_cons m)

never-changed : (e : ReceiverEnd) → Unchanged e → (e.state.refusal ≡ 21 → ⊥) → (line : List ℕ) → NeverChanged e line
never-changed e u n line =
    let k : Still e = record { unchanged = u; not-21 = n } in
    record { unchanged = (stills line e k).unchanged; not21 = never-told line e k }

-- ---- the theorem

only-changed : (e : ReceiverEnd) → HasToResume e → (rest : List ℕ) → (receive (received e (0xD1 ∷ rest)) flag).report ≡ refused 21 → Unchanged e → ⊥
only-changed e h rest q u =
    let k : Still e = record { unchanged = u; not-21 = λ n. omega (arith, (out-fresh _ e.state (counts _ e.state h.at.ready.bounds) h.at.out).refusal-0) } in
    (call-still (received e (0xD1 ∷ rest)) (stills (0xD1 ∷ rest) e k) flag).tells q

-- two registers that are one
by-burst : (e f : ReceiverEnd) → Unchanged e → f.state ≡ e.state → Burst (width (agreed e.state.settings).check) (octets_held e) (octets_held f) → Unchanged f → ⊥
by-burst e f u same b w =
    let g = agreed e.state.settings in
    let one : register g.check (octets_held f) ≡ carried g e.state.held =
    subst (λ (r : Receiver). register (agreed r.settings).check (octets_held f) ≡ carried (agreed r.settings) r.held) same w in
    bursts-change g.check (sound-check e.state.settings) (octets_held e) (octets_held f) b (u ∙ sym one)

too_wide : (r : Receiver) (n k : ℕ) → r.held ≡ holds n k → 2 ^ width (agreed r.settings).check ≤ k → in_bounds (agreed r.settings) r ≡ false
too_wide r n k h wide =
    let g = agreed r.settings in
    decide (in_bounds g r)
    (λ b.
    let ok : HeldOk g (holds n k) = subst (HeldOk g) h (counts g r b).holds in
    absurd (omega (arith, ok.1, pow_pos (width g.check))))
    (λ b. b)

fresh-never : (t : Settings) (reading : PlainReading) (a b line : List ℕ) → NeverChanged (fresh_receiver t reading a b) line
fresh-never t None a b line = never-changed (fresh_receiver t None a b) (register-none (agreed t).check) (λ q. omega arith) line
fresh-never t (Some map) a b line = never-changed (fresh_receiver t (Some map) a b) (register-none (agreed t).check) (λ q. omega arith) line

pub areas-changed : AreasChanged
areas-changed =
    record {
      at_once = at-once;
      frame = frame-21;
      only = only-changed;
      run = never-changed;
      fresh = fresh-never;
      burst = λ e f u same h b rest none. ap (λ (r : Receive). r.report) (frame-21 f h (by-burst e f u same b) rest none);
      bounds = too_wide;
    }
