-- What the reports depend on: two receivers that are alike stay so, and report alike.
use mathlib.Core.Path.{◌≡◌, refl, sym, ap, subst, ◌∙◌}
use mathlib.Core.Bool.{Bool, true, false, cond, not}
use mathlib.Core.List.{List, [], ◌∷◌, ◌++◌}
use mathlib.Core.Option.{Option, some}
use Prim.Native.Nat.{ℕ, ◌+◌, ◌-◌, ◌≤◌}
use native.Mathlib.Omega.{arith}
use borrow.Author.Tests.{ltb-false}
use lib.Dec.{ltb, eqb}
use lib.ListN.{length, take, replicate}
use lib.Seq.{take-take}
use Rattle.std.specs.Prelude.{Some, None, Ok, Err}
use Rattle.fcs.specs.CheckSequence.{register, good}
use Rattle.cobs.specs.CodeBlocks.{flag, from_line, meaning, Meaning}
use Rattle.cobs.specs.declared.CodeError.TheVariants.{NotAgreed, NoCode}
use Rattle.cobs.proofs.Tests.{branch, decide}
use Rattle.plain.specs.declared.Taken.{Taken}
use Rattle.plain.specs.declared.Taken.TheVariants.{Removed, Escape, Data}
use Rattle.plain.specs.Stuffing.{taken}
use Rattle.link.specs.Agreed.{Agreed, agreed, least_frame, largest_frame, most_decoded, valid}
use Rattle.link.specs.Answers.{Answer, done, octet, idle, quiet, packet, held, refused}
use Rattle.link.specs.Receiver.{Held, plain, Receiver, Working, ReceiverEnd, Receive, Ended, with_due, step2_begin_block, is_no_block, is_d0, is_plain, is_escaped, in_bounds, step4_remember, step4_refuse, step3_write, step3_decode, step3_data, last_block, step2_by_meaning, step2_code, let_go, step1_resume_held, step1_d1, step1_first_octet, steps_1_to_4, step5_end, step5_hold, step5_without_phantom, step5_flag, at_flag, in_plain_frame, plain_data, plain_taken, plain_octet, plain_flag, at_plain_flag, begins_plain, begin_plain, area_of, work, aside, put_back, flagged, quietly, receive}
use Rattle.link.specs.ReceiverParts.{ReceiverReady}
use Rattle.link.specs.Runs.{receives, stands_for}
use Rattle.link.specs.Demands.{held_octets, Alike, AreasLongEnough, report_and_packet, AreasAside}
use Rattle.link.proofs.Tests.{not-not, none-short}
use Rattle.link.proofs.Write.{length-write, take-write}
use Rattle.link.proofs.Cobs.{cobs_receive, in-plain, begins, in-cobs}
use Rattle.link.proofs.ReceiverCases.{not_valid, out-of-bounds}
use Rattle.link.proofs.ReceiverBounds.{Bounds, bounds, counts, by_end}
use Rattle.link.proofs.Whole.{passes, by-ready}
use Rattle.link.proofs.Follow.{work-back, aside-back}

-- a choice in two places by one test
branch₂ : {A B : Type 0} (P : A → B → Type 0) (b : Bool) {x y : A} {u v : B} → (b ≡ true → P x u) → (b ≡ false → P y v) → P (cond b x y) (cond b u v)
branch₂ P true f g = f refl
branch₂ P false f g = g refl

-- what is the same to some place is the same to an earlier one
earlier : (n m : ℕ) (a b : List ℕ) → n ≤ m → take m b ≡ take m a → take n b ≡ take n a
earlier n m a b h e = sym (take-take n m b h) ∙ (ap (take n) e ∙ take-take n m a h)

-- ---- an octet that is no flag

-- From the state s two work areas went to w and v: the states are one, the turn is as it was, the decoded octets are the same, and so, where they
-- were, are those held.
record Stays (s : Receiver) (w v : Working) : Type 0 where
  same : v.state ≡ w.state
  turn : w.state.turn ≡ s.turn
  same-held : (a b : List ℕ) → held_octets s.held b ≡ held_octets s.held a → held_octets w.state.held b ≡ held_octets w.state.held a
  decoded : take w.state.decoded v.area ≡ take w.state.decoded w.area

-- with what is held as it was
as-held : (h k : Held) → k ≡ h → (a b : List ℕ) → held_octets h b ≡ held_octets h a → held_octets k b ≡ held_octets k a
as-held h k e a b q = subst (λ (i : Held). held_octets i b ≡ held_octets i a) (sym e) q

module _ (g : Agreed) (s : Receiver) (a b : List ℕ) (la : most_decoded g ≤ length a) (lb : most_decoded g ≤ length b)
    (eq : take s.decoded b ≡ take s.decoded a) (deep : s.decoded ≤ most_decoded g) where
  abbrev at : Receiver → List ℕ → Working
  at r area = record { state = r; area = area }

  -- octets written after those decoded, from a state with the same count, held and turn
  write-stays : (r : Receiver) (xs : List ℕ) → r.turn ≡ s.turn → r.held ≡ s.held → r.decoded ≡ s.decoded
      → s.decoded + length xs ≤ most_decoded g → Stays s (step3_write xs (at r a)) (step3_write xs (at r b))
  write-stays r xs turn same-held count room =
      let n = r.decoded in
      let eq₁ : take n b ≡ take n a = subst (λ (k : ℕ). take k b ≡ take k a) (sym count) eq in
      record {
        same = refl;
        turn = turn;
        same-held = as-held s.held r.held same-held;
        decoded = take-write b n xs (omega arith) ∙ (ap (λ (l : List ℕ). l ++ xs) eq₁ ∙ sym (take-write a n xs (omega arith)));
      }

  refuse-stays : (r : Receiver) (n : ℕ) → r.turn ≡ s.turn → r.held ≡ s.held → r.decoded ≡ s.decoded
      → Stays s (step4_refuse n (at r a)) (step4_refuse n (at r b))
  refuse-stays r n turn same-held count =
      record { same = refl; turn = turn; same-held = as-held s.held r.held same-held; decoded = subst (λ (k : ℕ). take k b ≡ take k a) (sym count) eq }

  decode-stays : (r : Receiver) (xs : List ℕ) → r.turn ≡ s.turn → r.held ≡ s.held → r.decoded ≡ s.decoded
      → Stays s (step3_decode g xs (at r a)) (step3_decode g xs (at r b))
  unfolding step3_decode
  decode-stays r xs turn same-held count =
      branch₂ (Stays s) (ltb (most_decoded g) (r.decoded + length xs)) (λ _. refuse-stays r 10 turn same-held count)
      (λ e. write-stays r xs turn same-held count (omega (arith, ltb-false (most_decoded g) (r.decoded + length xs) e)))

  meaning-stays : (c : ℕ) (m : Meaning) → Stays s (step2_by_meaning g (at s a) c m) (step2_by_meaning g (at s b) c m)
  unfolding step2_by_meaning
  meaning-stays c (Ok row) =
      let n = row.nonzeros in
      let z = row.zeros in
      branch₂ (Stays s) (eqb n 0) (λ _. decode-stays (step2_begin_block (last_block c) 0 0 s) (replicate z 0) refl refl refl)
      (λ _. record { same = refl; turn = refl; same-held = λ _ _ q. q; decoded = eq })
  meaning-stays c (Err NotAgreed) = refuse-stays s 6 refl refl refl
  meaning-stays c (Err NoCode) = refuse-stays s 7 refl refl refl

  code_stays : (c : ℕ) → Stays s (step2_code g (at s a) c) (step2_code g (at s b) c)
  unfolding step2_code
  code_stays c = meaning-stays c (meaning g.zxe c)

-- a data octet; its block's zeros are decoded behind it
data-stays : (g : Agreed) (s : Receiver) (a b : List ℕ) → most_decoded g ≤ length a → most_decoded g ≤ length b → take s.decoded b ≡ take s.decoded a
    → s.decoded ≤ most_decoded g → (x : ℕ)
    → Stays s (step3_data g (record { state = s; area = a }) x) (step3_data g (record { state = s; area = b }) x)
unfolding step3_data
data-stays g s a b la lb eq deep x =
    branch₂ (Stays s) (ltb (most_decoded g) (s.decoded + 1)) (λ _. refuse-stays g s a b la lb eq deep s 10 refl refl refl)
    (λ e.
    let room : s.decoded + 1 ≤ most_decoded g = ltb-false (most_decoded g) (s.decoded + 1) e in
    branch₂ (Stays s) (eqb s.left 1)
    (λ _.
    let w : Working = step3_write (x ∷ []) (record { state = with_due 0 0 s; area = a }) in
    let v : Working = step3_write (x ∷ []) (record { state = with_due 0 0 s; area = b }) in
    let one = write-stays g s a b la lb eq deep (with_due 0 0 s) (x ∷ []) refl refl refl room in
    let k =
    decode-stays g w.state w.area v.area (omega (arith, length-write a s.decoded (x ∷ []) (omega arith)))
    (omega (arith, length-write b s.decoded (x ∷ []) (omega arith))) one.decoded room w.state (replicate s.zeros 0) refl refl refl in
    record { same = k.same; turn = k.turn; same-held = k.same-held; decoded = k.decoded })
    (λ _. write-stays g s a b la lb eq deep (with_due (s.left - 1) s.zeros s) (x ∷ []) refl refl refl room))

-- ---- two receivers of one state

module _ (g : Agreed) (s : Receiver) (a₁ a₂ b₁ b₂ : List ℕ) (alike : Alike (record { state = s; first = a₁; second = a₂ }) (record { state = s; first = b₁; second = b₂ })) where
  abbrev e : ReceiverEnd
  e = record { state = s; first = a₁; second = a₂ }

  abbrev f : ReceiverEnd
  f = record { state = s; first = b₁; second = b₂ }

  -- where two work areas went
  record Both (w v : Working) : Type 0 where
    same : v.state ≡ w.state
    after : Alike (put_back e w) (put_back f v)

  stays-both : (w v : Working) → Stays s w v → Both w v
  stays-both w v k =
      let area : Bool → ReceiverEnd → Working → List ℕ = λ c d u. cond c (cond s.turn u.area d.second) (cond s.turn d.first u.area) in
      let n = w.state.decoded in
      let back : (d : ReceiverEnd) (u : Working) → area w.state.turn d u ≡ u.area =
      (λ d u. ap (λ (c : Bool). area c d u) k.turn ∙ work-back s.turn d.first d.second u.area) in
      let aside : (d : ReceiverEnd) (u : Working) → area (not w.state.turn) d u ≡ cond (not s.turn) d.second d.first =
      (λ d u. ap (λ (c : Bool). area (not c) d u) k.turn ∙ aside-back s.turn d.first d.second u.area) in
      record {
        same = k.same;
        after =
            record {
              state = k.same;
              decoded = ap (take n) (back f v) ∙ (k.decoded ∙ sym (ap (take n) (back e w)));
              held =
                  ap (held_octets w.state.held) (aside f v)
                  ∙ (k.same-held (area_of (not s.turn) e) (area_of (not s.turn) f) alike.held
                  ∙ sym (ap (held_octets w.state.held) (aside e w)));
            };
      }

  -- D1 that resumes what is held: the other area works
  resume-both : (h : Held) → s.held ≡ h
      → Both (record { state = step1_resume_held g (aside e) h s; area = (work e).area }) (record { state = step1_resume_held g (aside f) h s; area = (work f).area })
  unfolding step1_resume_held
  resume-both None q = stays-both _ _ (record { same = refl; turn = refl; same-held = λ _ _ p. p; decoded = alike.decoded })
  resume-both (Some h) q =
      let n = h.count in
      let k = h.register in
      let same-octets : take n (aside f) ≡ take n (aside e) = subst (λ (h : Held). held_octets h (aside f) ≡ held_octets h (aside e)) q alike.held in
      rw (ap (register g.check) same-octets)
      (branch₂ (λ r t. Both (record { state = r; area = (work e).area }) (record { state = t; area = (work f).area })) (eqb (register g.check (take n (aside e))) k)
      (λ _.
      record {
        same = refl;
        after =
            record {
              state = refl;
              decoded =
                  ap (take n) (aside-back s.turn b₁ b₂ (work f).area)
                  ∙ (same-octets ∙ sym (ap (take n) (aside-back s.turn a₁ a₂ (work e).area)));
              held = refl;
            };
      })
      (λ _. stays-both _ _ (record { same = refl; turn = refl; same-held = λ _ _ _. refl; decoded = alike.decoded })))

  module _ (la : most_decoded g ≤ length (work e).area) (lb : most_decoded g ≤ length (work f).area) (b : Bounds g s) where
    steps-both : (x : ℕ) → Both (steps_1_to_4 g (aside e) (work e) x) (steps_1_to_4 g (aside f) (work f) x)
    unfolding steps_1_to_4 step1_first_octet step1_d1
    steps-both x =
        let wa = (work e).area in
        let wb = (work f).area in
        let eq = alike.decoded in
        let d = b.deep in
        let none-moved : Stays s (work e) (work f) = record { same = refl; turn = refl; same-held = λ _ _ q. q; decoded = eq } in
        let refused-6 : Stays s (record { state = step4_remember 6 true s; area = wa }) (record { state = step4_remember 6 true s; area = wb }) =
        record { same = refl; turn = refl; same-held = λ _ _ q. q; decoded = eq } in
        let refused-5 : Stays s (step4_refuse 5 (record { state = let_go s; area = wa })) (step4_refuse 5 (record { state = let_go s; area = wb })) =
        record { same = refl; turn = refl; same-held = λ _ _ _. refl; decoded = eq } in
        branch₂ Both (not (eqb s.refusal 0)) (λ _. stays-both _ _ none-moved)
        (λ _. branch₂ Both (not s.framed)
        (λ _. branch₂ Both (eqb x 0xFF) (λ _. stays-both _ _ refused-5)
        (λ _. branch₂ Both (eqb x 0xD1)
        (λ _.
        branch₂ (λ r q. Both (record { state = r; area = wa }) (record { state = q; area = wb })) g.pre (λ _. resume-both s.held refl)
        (λ _. stays-both _ _ refused-6))
        (λ _. stays-both _ _ (code_stays g s wa wb la lb eq d x))))
        (λ _. branch₂ Both (ltb 0 s.left) (λ _. stays-both _ _ (data-stays g s wa wb la lb eq d x))
        (λ _. stays-both _ _ (code_stays g s wa wb la lb eq d x))))

  -- in plain PPP, from a state with the same turn, held and count
  module _ (la : most_decoded g ≤ length (work e).area) (lb : most_decoded g ≤ length (work f).area) (deep : s.decoded ≤ most_decoded g) where
    data-both : (y : ℕ) → Both (plain_data g y (work e)) (plain_data g y (work f))
    unfolding plain_data
    data-both y =
        let wa = (work e).area in
        let wb = (work f).area in
        let r = in_plain_frame plain s in
        branch₂ Both (ltb (largest_frame g) (s.decoded + 1)) (λ _. stays-both _ _ (refuse-stays g s wa wb la lb alike.decoded deep r 10 refl refl refl))
        (λ k. stays-both _ _ (write-stays g s wa wb la lb alike.decoded deep r (y ∷ []) refl refl refl (let room : s.decoded + 1 ≤ largest_frame g = ltb-false _ _ k in omega arith)))

    taken-both : (t : Taken) → Both (plain_taken g (work e) t) (plain_taken g (work f) t)
    unfolding plain_taken
    taken-both Removed = stays-both _ _ (record { same = refl; turn = refl; same-held = λ _ _ q. q; decoded = alike.decoded })
    taken-both Escape = stays-both _ _ (record { same = refl; turn = refl; same-held = λ _ _ q. q; decoded = alike.decoded })
    taken-both (Data y) = data-both y

    plain-both : (x : ℕ) → Both (plain_octet g (work e) x) (plain_octet g (work f) x)
    unfolding plain_octet
    plain-both x =
        branch₂ Both (not (eqb s.refusal 0)) (λ _. stays-both _ _ (record { same = refl; turn = refl; same-held = λ _ _ q. q; decoded = alike.decoded }))
        (λ _. taken-both (taken s.map (is_escaped s.mode) x))

    -- what is held is let go
    begin-both : Both (begin_plain g (work e)) (begin_plain g (work f))
    unfolding begin_plain plain_data
    begin-both =
        let wa = (work e).area in
        let wb = (work f).area in
        let r = in_plain_frame plain (let_go s) in
        let go : (w v : Working) → Stays (let_go s) w v → Stays s w v =
        (λ w v k. record { same = k.same; turn = k.turn; same-held = λ a b _. k.same-held a b refl; decoded = k.decoded }) in
        branch₂ Both (ltb (largest_frame g) (s.decoded + 1)) (λ _. stays-both _ _ (go _ _ (refuse-stays g (let_go s) wa wb la lb alike.decoded deep r 10 refl refl refl)))
        (λ k. stays-both _ _ (go _ _ (write-stays g (let_go s) wa wb la lb alike.decoded deep r (0xFF ∷ []) refl refl refl (let room : s.decoded + 1 ≤ largest_frame g = ltb-false _ _ k in omega arith))))

  -- ---- a flag

  record FlagAlike (t u : Ended) : Type 0 where
    same : u ≡ t
    says : stands_for t.report f ≡ stands_for t.report e
    after : Alike (record { state = t.state; first = a₁; second = a₂ }) (record { state = t.state; first = b₁; second = b₂ })

  ends-alike : (a : Answer) → stands_for a f ≡ stands_for a e → FlagAlike (step5_end a s) (step5_end a s)
  ends-alike a q =
      by_end (λ (r : Receiver). FlagAlike (record { report = a; state = r }) (record { report = a; state = r })) s
      (λ _. record { same = refl; says = q; after = record { state = refl; decoded = refl; held = refl } })
      (λ _. record { same = refl; says = q; after = record { state = refl; decoded = refl; held = alike.held } })

  hold-alike : FlagAlike (step5_hold g s (work e).area) (step5_hold g s (work f).area)
  hold-alike = record { same = rw alike.decoded; says = refl; after = record { state = refl; decoded = refl; held = turned } }
    where
      turned : take s.decoded (area_of (not (not s.turn)) f) ≡ take s.decoded (area_of (not (not s.turn)) e)
      turned = rw (not-not s.turn) alike.decoded

  without-phantom-alike : (n : ℕ) → n ≤ s.decoded → FlagAlike (step5_without_phantom g s (work e).area n) (step5_without_phantom g s (work f).area n)
  unfolding step5_without_phantom
  without-phantom-alike n h =
      let m = n - g.check.fcs_length in
      let area : Bool → List ℕ = λ c. area_of c e in
      let q : take n (work f).area ≡ take n (work e).area = earlier n s.decoded (work e).area (work f).area h alike.decoded in
      branch₂ FlagAlike (ltb n (least_frame g)) (λ _. ends-alike (refused 13) refl)
      (λ _.
      rw (ap (good g.check) q)
      (branch₂ FlagAlike (good g.check (take n (work e).area))
      (λ _. ends-alike (packet s.turn m) (ap some (earlier m s.decoded (work e).area (work f).area (omega arith) alike.decoded)))
      (λ _. ends-alike (refused 14) refl)))

  step5-alike : FlagAlike (step5_flag g s (work e).area) (step5_flag g s (work f).area)
  unfolding step5_flag
  step5-alike =
      branch₂ FlagAlike (not (eqb s.refusal 0)) (λ _. ends-alike (refused s.refusal) refl)
      (λ _. branch₂ FlagAlike (is_no_block s.last) (λ _. ends-alike (refused 9) refl)
      (λ _. branch₂ FlagAlike (ltb 0 s.left) (λ _. branch₂ FlagAlike g.pre (λ _. hold-alike) (λ _. ends-alike (refused 11) refl))
      (λ _. branch₂ FlagAlike (is_d0 s.last) (λ _. ends-alike (refused 12) refl) (λ _. without-phantom-alike (s.decoded - 1) (omega arith)))))

  flag-alike : FlagAlike (at_flag g s (work e).area) (at_flag g s (work f).area)
  unfolding at_flag
  flag-alike =
      branch₂ FlagAlike s.framed (λ _. step5-alike) (λ _. record { same = refl; says = refl; after = alike })

  plain-alike : FlagAlike (at_plain_flag g s (work e).area) (at_plain_flag g s (work f).area)
  unfolding at_plain_flag plain_flag
  plain-alike =
      branch₂ FlagAlike s.framed
      (λ _. branch₂ FlagAlike (not (eqb s.refusal 0)) (λ _. ends-alike (refused s.refusal) refl)
      (λ _. branch₂ FlagAlike (ltb (largest_frame g) s.decoded) (λ _. ends-alike (refused 10) refl)
      (λ _. branch₂ FlagAlike (is_escaped s.mode) (λ _. ends-alike (refused 18) refl) (λ _. without-phantom-alike s.decoded (omega arith)))))
      (λ _. record { same = refl; says = refl; after = alike })

-- ---- the calls

-- what a report stands for is in the areas, whatever the state
stands-by-areas : (a : Answer) (s r : Receiver) (first second : List ℕ)
    → stands_for a (record { state = s; first = first; second = second }) ≡ stands_for a (record { state = r; first = first; second = second })
stands-by-areas done s r first second = refl
stands-by-areas (octet x) s r first second = refl
stands-by-areas idle s r first second = refl
stands-by-areas quiet s r first second = refl
stands-by-areas (packet b n) s r first second = refl
stands-by-areas (held n b) s r first second = refl
stands-by-areas (refused n) s r first second = refl

record Pair (h k : Receive) : Type 0 where
  tell : report_and_packet h ≡ report_and_packet k
  after : Alike h.after k.after

module _ (s : Receiver) (a₁ a₂ b₁ b₂ : List ℕ) where
  abbrev one : ReceiverEnd
  one = record { state = s; first = a₁; second = a₂ }

  abbrev two : ReceiverEnd
  two = record { state = s; first = b₁; second = b₂ }

  abbrev g : Agreed
  g = agreed s.settings

  module _ (alike : Alike one two) where
    pair-flag : (t u : Ended) → FlagAlike g s a₁ a₂ b₁ b₂ alike t u → Pair (flagged one t) (flagged two u)
    pair-flag t u k =
        let says : stands_for t.report (flagged two t).after ≡ stands_for t.report (flagged one t).after =
        stands-by-areas t.report t.state s b₁ b₂ ∙ (k.says ∙ stands-by-areas t.report s t.state a₁ a₂) in
        rw k.same (record { tell = ap (λ (o : Option (List ℕ)). record { report = t.report; packet = o }) (sym says); after = k.after })

    pair-octet : (w v : Working) → Both g s a₁ a₂ b₁ b₂ alike w v → Pair (quietly one w) (quietly two v)
    pair-octet w v k = record { tell = refl; after = k.after }

    module _ (z : ReceiverReady one) (y : ReceiverReady two) (x : ℕ) where
      la : most_decoded g ≤ length (work one).area
      la = branch (λ l. most_decoded g ≤ length l) s.turn (λ _. z.second) (λ _. z.first)

      lb : most_decoded g ≤ length (work two).area
      lb = branch (λ l. most_decoded g ≤ length l) s.turn (λ _. y.second) (λ _. y.first)

      pair-ready : Pair (receive one x) (receive two x)
      unfolding cobs_receive
      pair-ready =
          let deep = (counts g s z.bounds).deep in
          decide (is_plain s.mode)
          (λ p.
          rw (in-plain one x z p, in-plain two x y p)
          (branch₂ Pair (eqb x flag) (λ _. pair-flag _ _ (plain-alike g s a₁ a₂ b₁ b₂ alike)) (λ _. pair-octet _ _ (plain-both g s a₁ a₂ b₁ b₂ alike la lb deep x))))
          (λ p. decide (begins_plain s x) (λ b. rw (begins one x z p b, begins two x y p b) (pair-octet _ _ (begin-both g s a₁ a₂ b₁ b₂ alike la lb deep)))
          (λ b.
          rw (in-cobs one x z p b, in-cobs two x y p b)
          (branch₂ Pair (eqb x flag) (λ _. pair-flag _ _ (flag-alike g s a₁ a₂ b₁ b₂ alike))
          (λ _. pair-octet _ _ (steps-both g s a₁ a₂ b₁ b₂ alike la lb (bounds g s p z.bounds) (from_line x))))))

    pair : AreasLongEnough one → AreasLongEnough two → (x : ℕ) → Pair (receive one x) (receive two x)
    pair l m x =
        decide (valid g)
        (λ v. decide (in_bounds g s)
        (λ k.
        pair-ready (record { valid = v; first = l.first; second = l.second; bounds = k }) (record { valid = v; first = m.first; second = m.second; bounds = k }) x)
        (λ k.
        rw (out-of-bounds one x v (none-short _ _ _ (l.first, l.second)) k, out-of-bounds two x v (none-short _ _ _ (m.first, m.second)) k)
        (record { tell = refl; after = alike })))
        (λ v. rw (not_valid one x v, not_valid two x v) (record { tell = refl; after = alike }))

-- areas that are long enough stay so
lent-on : (e : ReceiverEnd) (x : ℕ) → AreasLongEnough e → AreasLongEnough (receive e x).after
lent-on e x l =
    by-ready (λ h. AreasLongEnough h.after) e x (λ _ _ _. l) (λ a. let z = (passes e x a).ready in record { first = z.first; second = z.second })

pub areas-aside : AreasAside
unfolding receives
areas-aside e f l m k [] = refl
areas-aside e f l m k (x ∷ xs) =
    let f₁ : ReceiverEnd = record { state = e.state; first = f.first; second = f.second } in
    let same : f ≡ f₁ = ap (λ (s : Receiver). record { state = s; first = f.first; second = f.second }) k.state in
    let k₁ : Alike e f₁ = subst (Alike e) same k in
    let m₁ : AreasLongEnough f₁ = subst AreasLongEnough same m in
    let p = pair e.state e.first e.second f.first f.second k₁ l m₁ x in
    rw same (rw (p.tell, areas-aside (receive e x).after (receive f₁ x).after (lent-on e x l) (lent-on f₁ x m₁) p.after xs))
