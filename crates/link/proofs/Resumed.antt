-- A resumed frame, whatever fragment it is joined to: the receiver stays in step with its blocks or remembers a refusal, so that its closing
-- flag leaves nothing held.
use mathlib.Core.Path.{◌≡◌, refl, sym, ap, ◌∙◌}
use mathlib.Core.Bool.{true, false, not}
use mathlib.Core.List.{List}
use Prim.Native.Nat.{ℕ, ◌+◌, ◌-◌, ◌<◌}
use native.Mathlib.Omega.{arith}
use borrow.Author.Tests.{eqb-true, eqb-false, ltb-true, lt-ltb, le-ltb, eq-eqb, not-false}
use lib.Dec.{ltb, eqb}
use lib.ListN.{length, take, replicate}
use Rattle.std.specs.Prelude.{Some, None}
use Rattle.fcs.specs.CheckSequence.{register, good}
use Rattle.cobs.specs.CodeBlocks.{flag, from_line, in_row}
use Rattle.cobs.proofs.Tests.{branch, decide}
use Rattle.cobs.proofs.Table.{Row, row_read}
use Rattle.link.specs.Agreed.{Agreed, least_frame, most_decoded}
use Rattle.link.specs.Answers.{quiet}
use Rattle.link.specs.Receiver.{Held, Receiver, Working, ReceiverEnd, Ended, is_no_block, is_d0, step4_refuse, step3_decode, step3_data, step2_by_meaning, step2_code, step1_resume_held, step1_d1, step1_first_octet, steps_1_to_4, step5_without_phantom, step5_flag, at_flag, work, aside, put_back}
use Rattle.link.proofs.Cobs.{cobs_receive}
use Rattle.link.proofs.Tests.{if-so, if-not, true-false}
use Rattle.link.proofs.ReceiverBounds.{Ready, receive-flag, receive_other, first-octet, by_end}
use Rattle.link.proofs.Follow.{code_is}

-- in a resumed frame, with n data octets left in the block unless a refusal is remembered
pub record InStep (n : ℕ) (r : Receiver) : Type 0 where
  pub framed-is : r.framed ≡ true
  pub resumed-is : r.resumed ≡ true
  pub left-is : r.refusal ≡ 0 → r.left ≡ n

pub in-step-at : (n m : ℕ) (r : Receiver) → n ≡ m → InStep n r → InStep m r
in-step-at n m r e i = record { framed-is = i.framed-is; resumed-is = i.resumed-is; left-is = λ c. i.left-is c ∙ e }

-- ---- an octet that is no flag

refuses-ten : (w : Working) (m : ℕ) → w.state.resumed ≡ true → InStep m (step4_refuse 10 w).state
refuses-ten w m e = record { framed-is = refl; resumed-is = e; left-is = λ c. absurd (omega arith) }

decodes : (g : Agreed) (w : Working) (n : ℕ) (xs : List ℕ) → InStep n w.state → InStep n (step3_decode g xs w).state
unfolding step3_decode
decodes g w n xs i =
    branch (λ (v : Working). InStep n v.state) (ltb (most_decoded g) (w.state.decoded + length xs)) (λ _. refuses-ten w n i.resumed-is)
    (λ _. record { framed-is = i.framed-is; resumed-is = i.resumed-is; left-is = i.left-is })

module _ (g : Agreed) (o : List ℕ) (w : Working) (n : ℕ) (i : InStep n w.state) where
  abbrev r : Receiver
  r = w.state

  -- with a refusal remembered the octet is skipped
  skips : (x : ℕ) → eqb r.refusal 0 ≡ false → steps_1_to_4 g o w x ≡ w
  unfolding steps_1_to_4
  skips x e = if-so _ _ _ (ap not e)

  unless-refused : (x m : ℕ) → (r.refusal ≡ 0 → InStep m (steps_1_to_4 g o w x).state) → InStep m (steps_1_to_4 g o w x).state
  unless-refused x m f =
      decide (eqb r.refusal 0) (λ e. f (eqb-true r.refusal 0 e))
      (λ e.
      rw (skips x e) (record { framed-is = i.framed-is; resumed-is = i.resumed-is; left-is = λ c. absurd (eqb-false r.refusal 0 e c) }))

  -- a code begins its block
  step2 : (x : ℕ) → r.refusal ≡ 0 → n ≡ 0 → steps_1_to_4 g o w x ≡ step2_code g w x
  unfolding steps_1_to_4
  step2 x c h =
      if-not _ _ _ (ap not (eq-eqb r.refusal 0 c))
      ∙ (if-not _ _ _ (ap not i.framed-is) ∙ if-not _ _ _ (le-ltb 0 r.left (omega (arith, i.left-is c))))

  begins : (c m z : ℕ) → InStep m (step2_by_meaning g w c (in_row m z)).state
  unfolding step2_by_meaning
  begins c m z =
      branch (λ (v : Working). InStep m v.state) (eqb m 0)
      (λ e. decodes g _ m (replicate z 0) (record { framed-is = refl; resumed-is = i.resumed-is; left-is = λ _. sym (eqb-true m 0 e) }))
      (λ _. record { framed-is = refl; resumed-is = i.resumed-is; left-is = λ _. refl })

  pub code-in-step : (c m z : ℕ) → Row g.zxe c m z → n ≡ 0 → InStep m (steps_1_to_4 g o w c).state
  code-in-step c m z row h = unless-refused c m (λ e. rw (step2 c e h ∙ code_is g w c m z (row_read row)) (begins c m z))

  -- a data octet leaves one less
  step3 : (x : ℕ) → r.refusal ≡ 0 → 0 < n → steps_1_to_4 g o w x ≡ step3_data g w x
  unfolding steps_1_to_4
  step3 x c h =
      if-not _ _ _ (ap not (eq-eqb r.refusal 0 c))
      ∙ (if-not _ _ _ (ap not i.framed-is) ∙ if-so _ _ _ (lt-ltb 0 r.left (omega (arith, i.left-is c))))

  takes : (x : ℕ) → r.refusal ≡ 0 → InStep (n - 1) (step3_data g w x).state
  unfolding step3_data
  takes x c =
      branch (λ (v : Working). InStep (n - 1) v.state) (ltb (most_decoded g) (r.decoded + 1)) (λ _. refuses-ten w (n - 1) i.resumed-is)
      (λ _. branch (λ (v : Working). InStep (n - 1) v.state) (eqb r.left 1)
      (λ e.
      decodes g _ (n - 1) (replicate r.zeros 0)
      (record { framed-is = i.framed-is; resumed-is = i.resumed-is; left-is = λ _. omega (arith, eqb-true r.left 1 e, i.left-is c) }))
      (λ _. record { framed-is = i.framed-is; resumed-is = i.resumed-is; left-is = λ _. omega (arith, i.left-is c) }))

  pub data-in-step : (x : ℕ) → 0 < n → InStep (n - 1) (steps_1_to_4 g o w x).state
  data-in-step x h = unless-refused x (n - 1) (λ e. rw (step3 x e h) (takes x e))

-- ---- D1 and the closing flag

module _ (g : Agreed) (e : ReceiverEnd) (z : Ready g e) where
  abbrev s : Receiver
  s = e.state

  resume-in-step : (k : Held) → InStep 0 (step1_resume_held g (aside e) k s)
  unfolding step1_resume_held
  resume-in-step None = record { framed-is = refl; resumed-is = refl; left-is = λ c. absurd (omega arith) }
  resume-in-step (Some h) =
      let n = h.count in
      let k = h.register in
      branch (InStep 0) (eqb (register g.check (take n (aside e))) k) (λ _. record { framed-is = refl; resumed-is = refl; left-is = λ _. refl })
      (λ _. record { framed-is = refl; resumed-is = refl; left-is = λ c. absurd (omega arith) })

  pub D1-is : s.framed ≡ false → steps_1_to_4 g (aside e) (work e) 0xD1 ≡ record { state = step1_d1 g (aside e) s; area = (work e).area }
  unfolding step1_first_octet
  D1-is out = first-octet g (aside e) (work e) 0xD1 z.bounds out

  -- the call for it
  pub D1-does : s.framed ≡ false → (x : ℕ) → (x ≡ flag → ⊥) → from_line x ≡ 0xD1
      → cobs_receive e x ≡ record { report = quiet; after = put_back e (record { state = step1_d1 g (aside e) s; area = (work e).area }) }
  D1-does out x other is =
      receive_other g e z x other
      ∙ ap (λ (w : Working). record { report = quiet; after = put_back e w }) (ap (steps_1_to_4 g (aside e) (work e)) is ∙ D1-is out)

  pub D1-in-step : s.framed ≡ false → InStep 0 (steps_1_to_4 g (aside e) (work e) 0xD1).state
  unfolding step1_d1
  D1-in-step out =
      rw (D1-is out)
      (branch (InStep 0) g.pre (λ _. resume-in-step s.held)
      (λ _. record { framed-is = refl; resumed-is = refl; left-is = λ c. absurd (omega arith) }))

  pub leaves_nothing : InStep 0 s → (cobs_receive e flag).after.state.held ≡ None
  unfolding at_flag step5_flag step5_without_phantom
  leaves_nothing i =
      let P : Ended → Type 0 = λ t. t.state.held ≡ None in
      let given = by_end (λ (r : Receiver). r.held ≡ None) s (λ _. refl) (λ q. true-false (sym i.resumed-is ∙ q)) in
      rw (receive-flag g e z)
      (branch P s.framed
      (λ _. branch P (not (eqb s.refusal 0)) (λ _. given)
      (λ c.
      let clean : s.refusal ≡ 0 = eqb-true s.refusal 0 (not-false (eqb s.refusal 0) c) in
      branch P (is_no_block s.last) (λ _. given)
      (λ _. branch P (ltb 0 s.left) (λ more. absurd (omega (arith, ltb-true 0 s.left more, i.left-is clean)))
      (λ _. branch P (is_d0 s.last) (λ _. given)
      (λ _. branch P (ltb (s.decoded - 1) (least_frame g)) (λ _. given)
      (λ _. branch P (good g.check (take (s.decoded - 1) (work e).area)) (λ _. given) (λ _. given)))))))
      (λ f. true-false (sym i.framed-is ∙ f)))
