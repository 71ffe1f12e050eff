-- What an octet, or a flag, does to the remembered refusal, and that the settings, the mode and the map stay while COBS is read.
use mathlib.Core.Path.{◌≡◌, refl, sym, ap, subst, ◌∙◌}
use mathlib.Core.Bool.{Bool, true, false, not}
use mathlib.Core.List.{List}
use Prim.Native.Nat.{ℕ, ◌+◌, ◌-◌, ◌<◌}
use native.Mathlib.Omega.{arith}
use borrow.Author.Tests.{eqb-true, eqb-false, ne_eqb, not-true, not-false}
use lib.Dec.{ltb, eqb}
use lib.ListN.{length, take, replicate}
use Rattle.std.specs.Prelude.{Some, None, Ok, Err}
use Rattle.fcs.specs.CheckSequence.{register, good}
use Rattle.cobs.specs.CodeBlocks.{meaning, Meaning}
use Rattle.cobs.specs.declared.CodeError.TheVariants.{NotAgreed, NoCode}
use Rattle.cobs.proofs.Tests.{branch, decide}
use Rattle.link.specs.Agreed.{Agreed, least_frame, most_decoded}
use Rattle.link.specs.Answers.{Answer, packet, refused}
use Rattle.link.specs.Receiver.{Held, Receiver, Working, Ended, is_no_block, is_d0, is_plain, step4_refuse, step3_write, step3_decode, step3_data, step2_by_meaning, step2_code, step1_resume_held, step1_d1, step1_first_octet, steps_1_to_4, step5_end, step5_without_phantom, step5_flag, at_flag}
use Rattle.link.specs.Receiver as receiver
use Rattle.link.specs.EachCall.{BlockOver}
use Rattle.link.proofs.Tests.{if-so, if-not, true-false}
use Rattle.link.proofs.Cobs.{not-escaped, over-same}
use Rattle.link.proofs.ReceiverBounds.{by_end}

-- what is held, in the area o, does not give the register that is carried
abbrev pub NoLongerGives : Agreed → List ℕ → Held → Type 0
NoLongerGives g o None = ⊥
NoLongerGives g o (Some h) = register g.check (take h.count o) ≡ h.register → ⊥

-- the settings, the mode and the map stay
abbrev pub Agrees : Receiver → Receiver → Type 0
Agrees r s = (s.settings ≡ r.settings) × (s.mode ≡ r.mode) × (s.map ≡ r.map)

all_same : (r : Receiver) → Agrees r r
all_same r = (refl, refl, refl)

-- in a frame from now on; where 21 is remembered, what was held was changed; where 5 is, a frame begins FF (F)
pub record Remembers (F : Type 0) (g : Agreed) (o : List ℕ) (w v : Working) : Type 0 where
  pub over : (v.state.refusal ≡ 0 → ⊥) → BlockOver v.state
  pub changed : v.state.refusal ≡ 21 → NoLongerGives g o w.state.held
  pub restarts : v.state.refusal ≡ 5 → F
  pub agrees : Agrees w.state v.state
  pub framed : v.state.framed ≡ true

module _ (F : Type 0) (g : Agreed) (o : List ℕ) (w : Working) where
  abbrev So : Working → Type 0
  So v = Remembers F g o w v

  remembers : (n : ℕ) (resumed : Bool) (r : Receiver) → (n ≡ 21 → NoLongerGives g o w.state.held) → (n ≡ 5 → F) → Agrees w.state r
      → So (record { state = receiver.step4_remember n resumed r; area = w.area })
  remembers n resumed r f h e = record { over = λ _. record { left = refl; zeros = refl; last = refl }; changed = f; restarts = h; agrees = e; framed = refl }

  refused-so : (n : ℕ) (v : Working) → 5 < n → n < 21 → Agrees w.state v.state → So (step4_refuse n v)
  refused-so n v h k e =
      record {
        over = λ _. record { left = refl; zeros = refl; last = refl };
        changed = λ q. absurd (omega arith);
        restarts = λ q. absurd (omega arith);
        agrees = e;
        framed = refl;
      }

  clean-so : (v : Working) → v.state.refusal ≡ 0 → v.state.framed ≡ true → Agrees w.state v.state → So v
  clean-so v c i e =
      record { over = λ f. absurd (f c); changed = λ q. absurd (omega arith); restarts = λ q. absurd (omega arith); agrees = e; framed = i }

  decode-so : (xs : List ℕ) (v : Working) → v.state.refusal ≡ 0 → v.state.framed ≡ true → Agrees w.state v.state → So (step3_decode g xs v)
  unfolding step3_decode
  decode-so xs v c i e =
      branch So (ltb (most_decoded g) (v.state.decoded + length xs)) (λ _. refused-so 10 v (omega arith) (omega arith) e) (λ _. clean-so (step3_write xs v) c i e)

  abbrev same : Agrees w.state w.state
  same = (refl, refl, refl)

  module _ (c : w.state.refusal ≡ 0) where
    data-so : (x : ℕ) → w.state.framed ≡ true → So (step3_data g w x)
    unfolding step3_data
    data-so x i =
        branch So (ltb (most_decoded g) (w.state.decoded + 1)) (λ _. refused-so 10 w (omega arith) (omega arith) same)
        (λ _. branch So (eqb w.state.left 1) (λ _. decode-so (replicate w.state.zeros 0) _ c i same) (λ _. clean-so _ c i same))

    code-so : (x : ℕ) (k : Meaning) → So (step2_by_meaning g w x k)
    unfolding step2_by_meaning
    code-so x (Ok row) = branch So (eqb row.nonzeros 0) (λ _. decode-so (replicate row.zeros 0) _ c refl same) (λ _. clean-so _ c refl same)
    code-so x (Err NotAgreed) = refused-so 6 w (omega arith) (omega arith) same
    code-so x (Err NoCode) = refused-so 7 w (omega arith) (omega arith) same

    D1-so : (h : Held) → w.state.held ≡ h → So (record { state = step1_resume_held g o h w.state; area = w.area })
    unfolding step1_resume_held
    D1-so None e = remembers 8 true w.state (λ q. absurd (omega arith)) (λ q. absurd (omega arith)) same
    D1-so (Some h) e =
        let n = h.count in
        let k = h.register in
        branch (λ (r : Receiver). So (record { state = r; area = w.area })) (eqb (register g.check (take n o)) k) (λ _. clean-so _ refl refl same)
        (λ q. remembers 21 true (receiver.let_go w.state) (λ _. subst (NoLongerGives g o) (sym e) (eqb-false _ k q)) (λ q. absurd (omega arith)) same)

    pub octet-so : (x : ℕ) → (w.state.framed ≡ false → x ≡ 0xFF → F) → So (steps_1_to_4 g o w x)
    unfolding steps_1_to_4 step1_first_octet step1_d1 step2_code
    octet-so x ff =
        branch So (not (eqb w.state.refusal 0)) (λ k. absurd (eqb-false w.state.refusal 0 (not-true (eqb w.state.refusal 0) k) c))
        (λ _. branch So (not w.state.framed)
        (λ k. branch So (eqb x 0xFF)
        (λ q. remembers 5 w.state.resumed (receiver.let_go w.state) (λ q. absurd (omega arith)) (λ _. ff (not-true w.state.framed k) (eqb-true x 0xFF q)) same)
        (λ _. branch So (eqb x 0xD1)
        (λ _. branch (λ (r : Receiver). So (record { state = r; area = w.area })) g.pre (λ _. D1-so w.state.held refl)
        (λ _. remembers 6 true w.state (λ q. absurd (omega arith)) (λ q. absurd (omega arith)) same))
        (λ _. code-so x (meaning g.zxe x))))
        (λ k. branch So (ltb 0 w.state.left) (λ _. data-so x (not-false w.state.framed k)) (λ _. code-so x (meaning g.zxe x))))

-- whatever is remembered
module _ (g : Agreed) (o : List ℕ) (w : Working) where
  pub skips-octet : (x : ℕ) → (w.state.refusal ≡ 0 → ⊥) → steps_1_to_4 g o w x ≡ w
  unfolding steps_1_to_4
  skips-octet x some = if-so _ _ _ (ap not (ne_eqb w.state.refusal 0 some))

  pub octet-agrees : (x : ℕ) → Agrees w.state (steps_1_to_4 g o w x).state
  octet-agrees x =
      decide (eqb w.state.refusal 0) (λ c. (octet-so (Unit {0}) g o w (eqb-true w.state.refusal 0 c) x (λ _ _. tt)).agrees)
      (λ c. subst (λ (v : Working). Agrees w.state v.state) (sym (skips-octet x (eqb-false _ _ c))) (all_same w.state))

-- at a flag an escape is over
abbrev pub AgreesOver : Receiver → Receiver → Type 0
AgreesOver r s = (s.settings ≡ r.settings) × (s.mode ≡ receiver.escape_over r.mode) × (s.map ≡ r.map)

over : (r : Receiver) (turn : Bool) (h : Held) → AgreesOver r (receiver.out_of_frame r turn h)
over r turn h = (refl, refl, refl)

pub end-over : (a : Answer) (r : Receiver) → AgreesOver r (step5_end a r).state
end-over a r = by_end (AgreesOver r) r (λ _. over r r.turn None) (λ _. over r r.turn r.held)

pub whole-over : (g : Agreed) (r : Receiver) (area : List ℕ) (n : ℕ) → AgreesOver r (step5_without_phantom g r area n).state
unfolding step5_without_phantom
whole-over g r area n =
    let P : Ended → Type 0 = λ t. AgreesOver r t.state in
    branch P (ltb n (least_frame g)) (λ _. end-over (refused 13) r)
    (λ _. branch P (good g.check (take n area)) (λ _. end-over (packet r.turn (n - g.check.fcs_length)) r) (λ _. end-over (refused 14) r))

pub flag-over : (g : Agreed) (r : Receiver) (area : List ℕ) → r.framed ≡ true → AgreesOver r (at_flag g r area).state
unfolding at_flag step5_flag
flag-over g r area f =
    let P : Ended → Type 0 = λ t. AgreesOver r t.state in
    branch P r.framed
    (λ _. branch P (not (eqb r.refusal 0)) (λ _. end-over (refused r.refusal) r)
    (λ _. branch P (is_no_block r.last) (λ _. end-over (refused 9) r)
    (λ _. branch P (ltb 0 r.left) (λ _. branch P g.pre (λ _. (refl, refl, refl)) (λ _. end-over (refused 11) r))
    (λ _. branch P (is_d0 r.last) (λ _. end-over (refused 12) r) (λ _. whole-over g r area (r.decoded - 1))))))
    (λ no. true-false (sym f ∙ no))

-- while COBS is read there is none
pub flag-agrees : (g : Agreed) (r : Receiver) (area : List ℕ) → is_plain r.mode ≡ false → Agrees r (at_flag g r area).state
unfolding at_flag
flag-agrees g r area p =
    decide r.framed
    (λ f. let k = flag-over g r area f in (k.0, k.1 ∙ over-same r.mode (not-escaped r.mode p), k.2))
    (λ f. subst (λ (t : Ended). Agrees r t.state) (sym (if-not _ _ _ f)) (all_same r))
