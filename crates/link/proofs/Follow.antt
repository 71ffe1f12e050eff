-- The receiver in step with a D: what it has decoded is D's beginning, and each octet that a sender may send of D moves it on.
use mathlib.Core.Path.{◌≡◌, refl, sym, ap, subst, ◌∙◌}
use mathlib.Core.Bool.{Bool, true, false, cond, not, ◌&&◌}
use mathlib.Core.List.{List, [], ◌∷◌}
use mathlib.Core.Option.{some}
use Prim.Native.Nat.{ℕ, ◌+◌, ◌-◌, ◌≤◌, ◌<◌}
use native.Mathlib.Omega.{arith}
use borrow.Author.Tests.{eqb-true, lt-ltb, le-ltb, eq-eqb, ne_eqb}
use lib.Dec.{ltb, eqb}
use lib.ListN.{length, take, drop, get_or, replicate, length-append, length-drop, length-replicate}
use lib.Seq.{take-add, drop-cons, take-append_seam, take-take, get_or-drop}
use Rattle.std.specs.Prelude.{None}
use Rattle.fcs.specs.CheckSequence.{Sound, register, fcs, good}
use Rattle.fcs.proofs.Laws.{fcs-length, good-frame}
use Rattle.cobs.specs.CodeBlocks.{frame, with_phantom, flag, meaning, in_row}
use Rattle.cobs.specs.declared.Choice.{Choice}
use Rattle.cobs.proofs.Tests.{branch, decide}
use Rattle.cobs.proofs.Table.{Row, plain_row, row_read, numbers}
use Rattle.cobs.proofs.Chosen.{Stands}
use Rattle.cobs.proofs.Frame.{zeros-from}
use Rattle.link.specs.Agreed.{Settings, Agreed, agreed, least_packet, least_frame, most_decoded}
use Rattle.link.specs.Answers.{held, packet, refused}
use Rattle.link.specs.Receiver.{Held, holds, LastBlock, no_block, block_d0, other_block, Receiver, Working, ReceiverEnd, with_due, step2_begin_block, is_no_block, is_d0, write, step3_write, step3_decode, step3_data, last_block, step2_by_meaning, step2_code, let_go, step1_resume, step1_resume_held, step1_d1, step1_first_octet, steps_1_to_4, is_held, step5_end, step5_hold, step5_without_phantom, step5_flag, at_flag, area_of, work, aside, put_back, flagged}
use Rattle.link.specs.Runs.{packet_in}
use Rattle.link.proofs.Cobs.{cobs_receive}
use Rattle.link.proofs.Tests.{if-so, if-not, true-false, not-not}
use Rattle.link.proofs.Write.{length-write, take-write}
use Rattle.link.proofs.ReceiverBounds.{Bounds, by_end, Fit, Ready, receive-flag, first-octet, steps-data}

-- Before any block, or after D0, some of D is left behind what is due of the block.
abbrev pub Ahead : LastBlock → ℕ → ℕ → Type 0
Ahead no_block n rest = (n ≡ 0) × (0 < rest)
Ahead block_d0 n rest = n < rest
Ahead other_block n rest = Unit {0}

-- pos octets of d are decoded, with n data octets left in the block and z zeros due
pub record Follows (d : List ℕ) (pos n z : ℕ) (w : Working) : Type 0 where
  pub clean : w.state.refusal ≡ 0
  pub count : w.state.decoded ≡ pos
  pub same : take pos w.area ≡ take pos d
  pub left-is : w.state.left ≡ n
  pub zeros-is : w.state.zeros ≡ z
  pub ahead : Ahead w.state.last (n + z) (length d - pos)

-- the settings, what is held, whose turn it is and whether the frame is resumed stay
pub record Keeps (r r' : Receiver) : Type 0 where
  pub settings-is : r'.settings ≡ r.settings
  pub held-is : r'.held ≡ r.held
  pub resumed-is : r'.resumed ≡ r.resumed
  pub turn-is : r'.turn ≡ r.turn

pub record Moved (d : List ℕ) (pos n z : ℕ) (w w' : Working) : Type 0 where
  pub follows : Follows d pos n z w'
  pub keeps : Keeps w.state w'.state

-- in d at pos stand n octets that are not zero, and then z zeros
pub record BlockAt (d : List ℕ) (pos n z : ℕ) : Type 0 where
  pub nonzero : (i : ℕ) → i < n → get_or d (pos + i) 0 ≡ 0 → ⊥
  pub zero : (i : ℕ) → n ≤ i → i < n + z → get_or d (pos + i) 0 ≡ 0

-- ---- the step that an octet takes

module _ (g : Agreed) where
  -- a code where no data is left, else data
  pub steps-code : (o : List ℕ) (w : Working) (x : ℕ) → w.state.refusal ≡ 0 → w.state.left ≡ 0 → (x ≡ 0xD1 → ⊥) → (x ≡ 0xFF → ⊥)
      → steps_1_to_4 g o w x ≡ step2_code g w x
  unfolding steps_1_to_4 step1_first_octet
  steps-code o w x clean none-left h k =
      if-not _ _ _ (ap not (eq-eqb w.state.refusal 0 clean))
      ∙ decide (not w.state.framed)
      (λ e. if-so _ _ _ e ∙ (if-not _ _ _ (ne_eqb x 0xFF k) ∙ if-not _ _ _ (ne_eqb x 0xD1 h)))
      (λ e. if-not _ _ _ e ∙ if-not _ _ _ (le-ltb 0 w.state.left (omega arith)))

  pub code_is : (w : Working) (c n z : ℕ) → meaning g.zxe c ≡ in_row n z → step2_code g w c ≡ step2_by_meaning g w c (in_row n z)
  unfolding step2_code
  code_is w c n z e = ap (step2_by_meaning g w c) e

-- ---- octets of D are decoded

module _ (g : Agreed) (d : List ℕ) (depth : length d ≤ most_decoded g) where
  module _ (pos : ℕ) (xs : List ℕ) (w : Working) (long : most_decoded g ≤ length w.area) (count : w.state.decoded ≡ pos)
      (same : take pos w.area ≡ take pos d) (fits : pos + length xs ≤ length d) (next : take (length xs) (drop pos d) ≡ xs) where
    decodes : step3_decode g xs w ≡ step3_write xs w
    unfolding step3_decode
    decodes = if-not _ _ _ (le-ltb (most_decoded g) (w.state.decoded + length xs) (omega arith))

    write_same : take (pos + length xs) (step3_write xs w).area ≡ take (pos + length xs) d
    write_same =
        ap (λ (n : ℕ). take (pos + length xs) (write w.area n xs)) count
        ∙ (take-write w.area pos xs (omega arith) ∙ rw same (rw (take-add pos (length xs) d, next)))

  -- ---- a code

  module _ (pos : ℕ) (o : List ℕ) (w : Working) (f : Fit g w) (fo : Follows d pos 0 0 w) where
    pub code-opens : (c n z : ℕ) → Row g.zxe c n z → (n ≡ 0 → ⊥) → Ahead (last_block c) (n + z) (length d - pos) → Moved d pos n z w (steps_1_to_4 g o w c)
    unfolding step2_by_meaning
    code-opens c n z row h ahd =
        let v = numbers row in
        let eq : steps_1_to_4 g o w c ≡ record { state = step2_begin_block (last_block c) n z w.state; area = w.area } =
        steps-code g o w c fo.clean fo.left-is v.code-used (λ q. omega (arith, v.code_below))
        ∙ (code_is g w c n z (row_read row) ∙ if-not _ _ _ (ne_eqb n 0 h)) in
        rw eq
        (record {
          follows = record { clean = fo.clean; count = fo.count; same = fo.same; left-is = refl; zeros-is = refl; ahead = ahd };
          keeps = record { settings-is = refl; held-is = refl; resumed-is = refl; turn-is = refl };
        })

    -- 02, before a cut
    pub code-two : Moved d pos 1 1 w (steps_1_to_4 g o w 0x02)
    code-two = code-opens 0x02 1 1 (plain_row 1 (omega arith)) (λ q. omega arith) tt

    -- a block without data: its zeros are decoded with the code
    pub code-zeros : (c n z : ℕ) → Row g.zxe c n z → n ≡ 0 → pos + z ≤ length d → ((i : ℕ) → i < z → get_or d (pos + i) 0 ≡ 0)
        → Moved d (pos + z) 0 0 w (steps_1_to_4 g o w c)
    unfolding step2_by_meaning
    code-zeros c n z row h fits zeros =
        let v = numbers row in
        let w₁ : Working = record { state = step2_begin_block (last_block c) 0 0 w.state; area = w.area } in
        let xs : List ℕ = replicate z 0 in
        let size : length xs ≡ z = length-replicate z 0 in
        let next : take (length xs) (drop pos d) ≡ xs = rw size (zeros-from d pos z fits zeros) in
        let eq : steps_1_to_4 g o w c ≡ step3_write xs w₁ =
        steps-code g o w c fo.clean fo.left-is v.code-used (λ q. omega (arith, v.code_below))
        ∙ (code_is g w c n z (row_read row)
        ∙ (if-so _ _ _ (eq-eqb n 0 h) ∙ decodes pos xs w₁ f.long fo.count fo.same (omega arith) next)) in
        rw eq
        (record {
          follows =
              record {
                clean = fo.clean;
                count = omega (arith, fo.count);
                same = subst (λ (k : ℕ). take (pos + k) (step3_write xs w₁).area ≡ take (pos + k) d) size (write_same pos xs w₁ f.long fo.count fo.same (omega arith) next);
                left-is = refl;
                zeros-is = refl;
                ahead =
                    branch (λ b. Ahead b 0 (length d - (pos + z))) (eqb c 0xD0) (λ e. absurd (omega (arith, v.covers, v.full-zeros (eqb-true c 0xD0 e)))) (λ _. tt);
              };
          keeps = record { settings-is = refl; held-is = refl; resumed-is = refl; turn-is = refl };
        })

    module _ (c : Choice) (ch : Stands g.zxe (drop pos d) c) where
      pub code-some : (c.nonzeros ≡ 0 → ⊥) → Moved d pos c.nonzeros c.zeros w (steps_1_to_4 g o w c.code)
      code-some h =
          code-opens c.code c.nonzeros c.zeros ch.row h
          (branch (λ b. Ahead b (c.nonzeros + c.zeros) (length d - pos)) (eqb c.code 0xD0)
          (λ e. omega (arith, (numbers ch.row).full-zeros (eqb-true c.code 0xD0 e), ch.more, length-drop pos d))
          (λ _. tt))

      pub code-zero : c.nonzeros ≡ 0 → pos ≤ length d → Moved d (pos + c.zeros) 0 0 w (steps_1_to_4 g o w c.code)
      code-zero h within =
          code-zeros c.code c.nonzeros c.zeros ch.row h (omega (arith, ch.inside, length-drop pos d))
          (λ i k. sym (get_or-drop pos d i 0) ∙ ch.zero i (omega arith) (omega arith))

-- ---- a data octet

ahead-on : (b : LastBlock) (n m k l : ℕ) → 0 < n → (n < m → k < l) → Ahead b n m → Ahead b k l
ahead-on no_block n m k l h f a = absurd (omega arith)
ahead-on block_d0 n m k l h f a = f a
ahead-on other_block n m k l h f a = tt

module _ (g : Agreed) (d : List ℕ) (depth : length d ≤ most_decoded g) (pos : ℕ) (o : List ℕ) (w : Working) (f : Fit g w) where
  module _ (n z : ℕ) (fo : Follows d pos n z w) (more : 0 < n) (fits : pos + (n + z) ≤ length d) where
    abbrev x : ℕ
    x = get_or d pos 0

    one : take 1 (drop pos d) ≡ x ∷ []
    one = rw (drop-cons d pos 0 (omega arith))

    -- it is not refused, and stands in the area
    data_is : steps_1_to_4 g o w x ≡ cond (eqb w.state.left 1)
        (step3_decode g (replicate w.state.zeros 0) (step3_write (x ∷ []) (record { state = with_due 0 0 w.state; area = w.area })))
        (step3_write (x ∷ []) (record { state = with_due (w.state.left - 1) w.state.zeros w.state; area = w.area }))
    unfolding step3_data
    data_is =
        steps-data g o w x f.bounds fo.clean (omega (arith, fo.left-is))
        ∙ if-not _ _ _ (le-ltb (most_decoded g) (w.state.decoded + 1) (omega (arith, fo.count)))

    stored : (r : Receiver) → r.decoded ≡ pos → take (pos + 1) (step3_write (x ∷ []) (record { state = r; area = w.area })).area ≡ take (pos + 1) d
    stored r e = write_same g d depth pos (x ∷ []) (record { state = r; area = w.area }) f.long e fo.same (omega arith) one

    pub data-more : (n ≡ 1 → ⊥) → Moved d (pos + 1) (n - 1) z w (steps_1_to_4 g o w x)
    data-more h =
        let r = w.state in
        rw (data_is ∙ if-not _ _ _ (ne_eqb r.left 1 (λ q. h (sym fo.left-is ∙ q))))
        (record {
          follows =
              record {
                clean = fo.clean;
                count = omega (arith, fo.count);
                same = stored (with_due (r.left - 1) r.zeros r) fo.count;
                left-is = omega (arith, fo.left-is);
                zeros-is = fo.zeros-is;
                ahead = ahead-on r.last (n + z) (length d - pos) (n - 1 + z) (length d - (pos + 1)) (omega arith) (λ k. omega arith) fo.ahead;
              };
          keeps = record { settings-is = refl; held-is = refl; resumed-is = refl; turn-is = refl };
        })

    -- with the last, the zeros of the block stand behind it
    pub data-last : n ≡ 1 → ((i : ℕ) → i < z → get_or d (pos + 1 + i) 0 ≡ 0) → Moved d (pos + (1 + z)) 0 0 w (steps_1_to_4 g o w x)
    data-last h all =
        let r = w.state in
        let w₁ : Working = step3_write (x ∷ []) (record { state = with_due 0 0 r; area = w.area }) in
        let xs : List ℕ = replicate r.zeros 0 in
        let size : length xs ≡ z = length-replicate r.zeros 0 ∙ fo.zeros-is in
        let count : w₁.state.decoded ≡ pos + 1 = omega (arith, fo.count) in
        let same : take (pos + 1) w₁.area ≡ take (pos + 1) d = stored (with_due 0 0 r) fo.count in
        let long : most_decoded g ≤ length w₁.area =
        omega (arith, f.long, length-write w.area r.decoded (x ∷ []) (omega (arith, f.long, fo.count))) in
        let next : take (length xs) (drop (pos + 1) d) ≡ xs =
        rw size (zeros-from d (pos + 1) z (omega arith) all ∙ ap (λ (k : ℕ). replicate k 0) (sym fo.zeros-is)) in
        let fits₁ : pos + 1 + length xs ≤ length d = omega arith in
        let at : pos + 1 + length xs ≡ pos + (1 + z) = omega arith in
        rw (data_is ∙ (if-so _ _ _ (eq-eqb r.left 1 (fo.left-is ∙ h)) ∙ decodes g d depth (pos + 1) xs w₁ long count same fits₁ next))
        (record {
          follows =
              record {
                clean = fo.clean;
                count = omega (arith, fo.count);
                same = subst (λ (k : ℕ). take k (step3_write xs w₁).area ≡ take k d) at (write_same g d depth (pos + 1) xs w₁ long count same fits₁ next);
                left-is = refl;
                zeros-is = refl;
                ahead = ahead-on r.last (n + z) (length d - pos) 0 (length d - (pos + (1 + z))) (omega arith) (λ k. omega arith) fo.ahead;
              };
          keeps = record { settings-is = refl; held-is = refl; resumed-is = refl; turn-is = refl };
        })

-- ---- the work area put back

pub work-back : (b : Bool) (first second area : List ℕ) → cond b (cond b area second) (cond b first area) ≡ area
work-back true first second area = refl
work-back false first second area = refl

pub aside-back : (b : Bool) (first second area : List ℕ) → cond (not b) (cond b area second) (cond b first area) ≡ cond (not b) second first
aside-back true first second area = refl
aside-back false first second area = refl

pub follows-back : (d : List ℕ) (pos n z : ℕ) (e : ReceiverEnd) (w : Working) → w.state.turn ≡ e.state.turn → Follows d pos n z w
    → Follows d pos n z (work (put_back e w))
follows-back d pos n z e w turn fo =
    let b = e.state.turn in
    record {
      clean = fo.clean;
      count = fo.count;
      same =
          ap (λ (c : Bool). take pos (cond c (cond b w.area e.second) (cond b e.first w.area))) turn
          ∙ (ap (take pos) (work-back b e.first e.second w.area) ∙ fo.same);
      left-is = fo.left-is;
      zeros-is = fo.zeros-is;
      ahead = fo.ahead;
    }

-- ---- what is held

-- pos octets of d are held, with their register
pub record Holding (d : List ℕ) (pos : ℕ) (e : ReceiverEnd) : Type 0 where
  pub plain : e.state.resumed ≡ false
  pub held-is : e.state.held ≡ holds pos (register (agreed e.state.settings).check (take pos d))
  pub same : take pos (aside e) ≡ take pos d

-- so in another state with these settings
holds_on : (d : List ℕ) (pos : ℕ) (s t : Settings) → t ≡ s
    → holds pos (register (agreed s).check (take pos d)) ≡ holds pos (register (agreed t).check (take pos d))
holds_on d pos s t e = ap (λ (u : Settings). holds pos (register (agreed u).check (take pos d))) (sym e)

pub keeps-holding : (d : List ℕ) (pos : ℕ) (e : ReceiverEnd) (w : Working) → Keeps e.state w.state → Holding d pos e → Holding d pos (put_back e w)
keeps-holding d pos e w k h =
    let b = e.state.turn in
    record {
      plain = k.resumed-is ∙ h.plain;
      held-is = k.held-is ∙ (h.held-is ∙ holds_on d pos e.state.settings w.state.settings k.settings-is);
      same =
          ap (λ (c : Bool). take pos (cond (not c) (cond b w.area e.second) (cond b e.first w.area))) k.turn-is
          ∙ (ap (take pos) (aside-back b e.first e.second w.area) ∙ h.same);
    }

-- ---- a flag

-- D is covered: the last block was neither none nor D0
last-covered : (b : LastBlock) (n rest : ℕ) → rest ≡ 0 → Ahead b n rest → (is_no_block b ≡ false) × (is_d0 b ≡ false)
last-covered no_block n rest e a = absurd (omega arith)
last-covered block_d0 n rest e a = absurd (omega arith)
last-covered other_block n rest e a = (refl, refl)

-- inside a block: there was one
block-open : (b : LastBlock) (n rest : ℕ) → 0 < n → Ahead b n rest → is_no_block b ≡ false
block-open no_block n rest h a = absurd (omega arith)
block-open block_d0 n rest h a = refl
block-open other_block n rest h a = refl

framed-last : (g : Agreed) (r : Receiver) → Bounds g r → is_no_block r.last ≡ false → r.framed ≡ true
framed-last g r b h =
    decide r.framed (λ e. e) (λ e. true-false (sym (ap is_no_block (b.out e).last-0) ∙ h))

-- the frame's octets in the work area
decoded-frame : (f area : List ℕ) → take (length f + 1) area ≡ take (length f + 1) (with_phantom f) → take (length f) area ≡ f
decoded-frame f area e =
    sym (take-take (length f) (length f + 1) area (omega arith))
    ∙ (ap (take (length f)) e ∙ (take-take (length f) (length f + 1) (with_phantom f) (omega arith) ∙ take-append_seam f (0 ∷ [])))

pub frame-long : (g : Agreed) (p : List ℕ) → length (frame g.check p) ≡ length p + g.check.fcs_length
frame-long g p = length-append p (fcs g.check p) ∙ ap (λ (n : ℕ). length p + n) (fcs-length g.check p)

module _ (g : Agreed) (e : ReceiverEnd) (z : Ready g e) where
  abbrev r : Receiver
  r = e.state

  -- step 5 with no refusal remembered
  step5-clean : r.refusal ≡ 0 → is_no_block r.last ≡ false
      → cobs_receive e flag
      ≡ flagged e
      (cond (ltb 0 r.left) (cond g.pre (step5_hold g r (work e).area) (step5_end (refused 11) r))
      (cond (is_d0 r.last) (step5_end (refused 12) r) (step5_without_phantom g r (work e).area (r.decoded - 1))))
  unfolding at_flag step5_flag
  step5-clean clean h =
      receive-flag g e z
      ∙ ap (flagged e)
      (if-so _ _ _ (framed-last g r z.bounds h) ∙ (if-not _ _ _ (ap not (eq-eqb r.refusal 0 clean)) ∙ if-not _ _ _ h))

  -- a closing flag delivers the packet
  module _ (p : List ℕ) (sound : Sound g.check) (big : least_packet ≤ length p)
      (fo : Follows (with_phantom (frame g.check p)) (length (frame g.check p) + 1) 0 0 (work e)) where
    delivers : cobs_receive e flag ≡ flagged e (step5_end (packet r.turn (length p)) r)
    unfolding step5_without_phantom
    delivers =
        let f = frame g.check p in
        let size : length (with_phantom f) ≡ length f + 1 = length-append f (0 ∷ []) in
        let long : length f ≡ length p + g.check.fcs_length = frame-long g p in
        let last = last-covered r.last 0 (length (with_phantom f) - (length f + 1)) (omega arith) fo.ahead in
        let n : r.decoded - 1 ≡ length f = omega (arith, fo.count) in
        let ok : good g.check (take (length f) (work e).area) ≡ true =
        rw (decoded-frame f (work e).area fo.same) (good-frame g.check sound p) in
        step5-clean fo.clean last.0
        ∙ ap (flagged e)
        (if-not _ _ _ (le-ltb 0 r.left (omega (arith, fo.left-is)))
        ∙ (if-not _ _ _ last.1
        ∙ (ap (step5_without_phantom g r (work e).area) n
        ∙ (if-not _ _ _ (le-ltb (length f) (least_frame g) (omega arith))
        ∙ (if-so _ _ _ ok ∙ ap (λ (k : ℕ). step5_end (packet r.turn k) r) (omega arith))))))

    delivered : take (length p) (work e).area ≡ p
    delivered =
        sym (take-take (length p) (length (frame g.check p)) (work e).area (omega (arith, frame-long g p)))
        ∙ (ap (take (length p)) (decoded-frame (frame g.check p) (work e).area fo.same) ∙ take-append_seam p (fcs g.check p))

    pub reports : packet_in (cobs_receive e flag) ≡ some p
    reports = rw delivers (ap some delivered)

    -- what was held stays so, unless the frame was a resumed one
    pub delivers-held : (cobs_receive e flag).after.state.held ≡ cond r.resumed None r.held
    delivers-held =
        rw delivers
        (by_end (λ (s : Receiver). s.held ≡ cond r.resumed None r.held) r (λ k. sym (if-so _ _ _ k)) (λ k. sym (if-not _ _ _ k)))

    pub delivers-holding : (d : List ℕ) (pos : ℕ) → Holding d pos e → Holding d pos (cobs_receive e flag).after
    delivers-holding d pos h =
        rw delivers
        (by_end (λ (s : Receiver). Holding d pos (record { state = s; first = e.first; second = e.second })) r (λ k. true-false (sym k ∙ h.plain))
        (λ _. record { plain = refl; held-is = h.held-is; same = h.same }))

  -- a flag inside a block leaves the fragment held
  module _ (d : List ℕ) (pos n y : ℕ) (fo : Follows d pos n y (work e)) (more : 0 < n) (pre : g.pre ≡ true) where
    breaks-off : cobs_receive e flag ≡ flagged e (step5_hold g r (work e).area)
    breaks-off =
        step5-clean fo.clean (block-open r.last (n + y) (length d - pos) (omega arith) fo.ahead)
        ∙ ap (flagged e) (if-so _ _ _ (lt-ltb 0 r.left (omega (arith, fo.left-is))) ∙ if-so _ _ _ pre)

    pub breaks-held : (cobs_receive e flag).report ≡ held pos (not r.resumed && is_held r.held)
    breaks-held = rw breaks-off (ap (λ (k : ℕ). held k (not r.resumed && is_held r.held)) fo.count)

    pub breaks-holding : Holding d pos (cobs_receive e flag).after
    breaks-holding = rw breaks-off (record { plain = refl; held-is = carries; same = subst (λ (b : Bool). take pos (area_of b e) ≡ take pos d) (sym (not-not r.turn)) fo.same })
      where
        carries : holds r.decoded (register g.check (take r.decoded (work e).area)) ≡ holds pos (register (agreed r.settings).check (take pos d))
        carries = rw (fo.count, fo.same, z.agrees)

  -- ---- the first octet of a frame

  -- a frame begins
  pub starts : (d : List ℕ) → r.framed ≡ false → 0 < length d → Follows d 0 0 0 (work e)
  starts d out more =
      let o = z.bounds.out out in
      record {
        clean = o.refusal-0;
        count = o.decoded-0;
        same = refl;
        left-is = o.left-0;
        zeros-is = o.zeros-0;
        ahead = subst (λ (b : LastBlock). Ahead b 0 (length d - 0)) (sym o.last-0) (refl, omega arith);
      }

  -- D1 resumes what is held
  pub resume-is : (pos k : ℕ) → r.held ≡ holds pos k → g.pre ≡ true → register g.check (take pos (aside e)) ≡ k
      → step1_d1 g (aside e) r ≡ step1_resume pos (let_go r)
  unfolding step1_d1 step1_resume_held
  resume-is pos k h pre same =
      if-so _ _ _ pre ∙ (ap (λ (f : Held). step1_resume_held g (aside e) f r) h ∙ if-so _ _ _ (eq-eqb _ k same))

  pub resumes : (d : List ℕ) (pos : ℕ) → Holding d pos e → r.framed ≡ false → g.pre ≡ true → pos < length d
      → Follows d pos 0 0 (work (put_back e (steps_1_to_4 g (aside e) (work e) 0xD1)))
  unfolding step1_first_octet
  resumes d pos h out pre more =
      let up : Working = record { state = step1_resume pos (let_go r); area = (work e).area } in
      let same : register g.check (take pos (aside e)) ≡ register (agreed r.settings).check (take pos d) = rw (h.same, z.agrees) in
      let eq : steps_1_to_4 g (aside e) (work e) 0xD1 ≡ up =
      first-octet g (aside e) (work e) 0xD1 z.bounds out
      ∙ ap (λ (s : Receiver). record { state = s; area = (work e).area }) (resume-is pos _ h.held-is pre same) in
      subst (λ (w : Working). Follows d pos 0 0 (work (put_back e w))) (sym eq)
      (record {
        clean = refl;
        count = refl;
        same = ap (take pos) (aside-back r.turn e.first e.second (work e).area) ∙ h.same;
        left-is = refl;
        zeros-is = refl;
        ahead = (refl, omega arith);
      })
