-- Octets that are sure to be Quiet: with a refusal remembered all but a flag, and in a block its data octets. Of the data octets the laws
-- leave out the last, with which the zeros are decoded.
use mathlib.Core.Path.{◌≡◌, refl, sym, ap, ◌∙◌}
use mathlib.Core.Bool.{Bool, true, false, cond, not, ◌&&◌, ◌||◌}
use mathlib.Core.List.{List, [], ◌∷◌}
use Prim.Native.Nat.{ℕ, suc, ◌+◌, ◌-◌, ◌≤◌, ◌<◌}
use native.Mathlib.Nat.{sub-zero, add-zero}
use native.Mathlib.Omega.{arith}
use borrow.Author.Tests.{le-ltb, eq-eqb, ne_eqb}
use lib.Dec.{ltb, eqb}
use lib.ListN.{length, set}
use Rattle.cobs.specs.CodeBlocks.{flag, from_line}
use Rattle.cobs.proofs.Tests.{decide}
use Rattle.plain.specs.declared.Taken.TheVariants.{Data}
use Rattle.plain.specs.Maps.{escape, removed}
use Rattle.plain.specs.Stuffing.{taken}
use Rattle.plain.proofs.Laws.{taken-plainly}
use Rattle.link.specs.Agreed.{agreed, valid, largest_frame, most_decoded}
use Rattle.link.specs.Answers.{Answer, quiet, refused}
use Rattle.link.specs.Receiver.{Mode, plain, Receiver, Working, ReceiverEnd, Receive, is_off, is_plain, is_escaped, with_due, with_decoded, in_bounds, step3_write, plain_data, plain_taken, plain_octet, begins_plain, work, aside, put_back, quietly, receive}
use Rattle.link.specs.ReceiverParts.{ReceiverReady}
use Rattle.link.proofs.Tests.{if-not, not-below}
use Rattle.link.proofs.Area.{stored}
use Rattle.link.proofs.Cobs.{cobs_receive, in-plain, in-cobs}
use Rattle.link.proofs.ReceiverBounds.{counts, out-fresh, steps-data, receive_other, area-long}
use Rattle.link.proofs.ReceiverCases.{inner-octet, not_valid, too_short, out-of-bounds, plain-skipped}
use Rattle.link.proofs.Remembers.{skips-octet}
use Rattle.link.proofs.PlainCases.{same-frame, plain-bounds}
use Rattle.link.proofs.Whole.{fit-plain, ready_of, passes}

-- so many octets at most are decoded
pub deep : (e : ReceiverEnd) → ReceiverReady e → e.state.decoded ≤ most_decoded (agreed e.state.settings)
deep e a = (counts _ _ a.bounds).deep

abbrev answered : Receive → Answer
answered h = h.report

refused-quiet : {Q : Type 0} (n : ℕ) → refused n ≡ quiet → Q
refused-quiet n e = absurd (let z : ◌≡◌ {A = ℕ} 0 1 = cc in omega arith)

-- after a Quiet answer no call is refused
pub after-quiet : (e : ReceiverEnd) (x : ℕ) → (receive e x).report ≡ quiet → ReceiverReady (receive e x).after
after-quiet e x q =
    let g = agreed e.state.settings in
    let m = most_decoded g in
    let short = ltb (length e.first) m || ltb (length e.second) m in
    decide (valid g)
    (λ v. decide short (λ s. refused-quiet 2 (ap answered (sym (too_short e x v s)) ∙ q))
    (λ s. decide (in_bounds g e.state)
    (λ b.
    let l = not-below _ m _ m s in
    (passes e x (record { valid = v; first = l.0; second = l.1; bounds = b })).ready)
    (λ b. refused-quiet 3 (ap answered (sym (out-of-bounds e x v s b)) ∙ q))))
    (λ v. refused-quiet 3 (ap answered (sym (not_valid e x v)) ∙ q))

-- what is put back is found there
module _ {A : Type 0} where
  pub found : (b : Bool) (x y z : A) → cond b (cond b x y) (cond b z x) ≡ x
  found true x y z = refl
  found false x y z = refl

  pub first-stays : (b : Bool) (x y : A) → cond b x (cond b y x) ≡ x
  first-stays true x y = refl
  first-stays false x y = refl

  pub second-stays : (b : Bool) (x y : A) → cond b (cond b y x) y ≡ y
  second-stays true x y = refl
  second-stays false x y = refl

pub put-back-same : (e : ReceiverEnd) → put_back e (work e) ≡ e
put-back-same e = simp (first-stays, second-stays)

-- in a frame no plain reading begins
framed-begins : (r : Receiver) (x : ℕ) → r.framed ≡ true → begins_plain r x ≡ false
framed-begins r x f = rw f (ands-none (not (is_off r.mode)) (eqb x 0xFF))
  where
    ands-none : (b c : Bool) → (b && false && c) ≡ false
    ands-none true c = refl
    ands-none false c = refl

-- a refusal is remembered: an octet that is no flag is skipped
pub skips : (e : ReceiverEnd) (x : ℕ) → ReceiverReady e → (e.state.refusal ≡ 0 → ⊥) → (x ≡ flag → ⊥) → receive e x ≡ record { report = quiet; after = e }
skips e x a n h =
    decide (is_plain e.state.mode) (λ p. in-plain e x a p ∙ plain-skipped e x h n)
    (λ p. in-cobs e x a p (in_frame e a p n) ∙ skipped-cobs p)
  where
    -- what is remembered is of a frame
    in_frame : (e : ReceiverEnd) → ReceiverReady e → is_plain e.state.mode ≡ false → (e.state.refusal ≡ 0 → ⊥) → begins_plain e.state x ≡ false
    in_frame e a p n = framed-begins e.state x (decide e.state.framed (λ f. f) (λ f. absurd (n (out-fresh _ _ (counts _ _ a.bounds) f).refusal-0)))

    skipped-cobs : is_plain e.state.mode ≡ false → cobs_receive e x ≡ record { report = quiet; after = e }
    skipped-cobs p = receive_other _ e (ready_of e a p) x h ∙ (ap (quietly e) (skips-octet _ (aside e) (work e) (from_line x) n) ∙ ap (λ (d : ReceiverEnd). record { report = quiet; after = d }) (put-back-same e))

-- the receiver after n data octets more of a block, which made `area` of the work area
abbrev pub after_data : ℕ → List ℕ → ReceiverEnd → ReceiverEnd
after_data n area e = put_back e (record { state = with_decoded (e.state.decoded + n) (with_due (e.state.left - n) e.state.zeros e.state); area = area })

-- data is left only while COBS is read, and in a frame
in_block : (e : ReceiverEnd) → ReceiverReady e → 1 < e.state.left → is_plain e.state.mode ≡ false
in_block e a l = decide (is_plain e.state.mode) (λ p. absurd (omega (arith, (plain-bounds _ e.state p a.bounds).left-0))) (λ p. p)

block-framed : (e : ReceiverEnd) → ReceiverReady e → 1 < e.state.left → e.state.framed ≡ true
block-framed e a l = decide e.state.framed (λ f. f) (λ f. absurd (omega (arith, (out-fresh _ _ (counts _ _ a.bounds) f).left-0)))

-- a data octet that is not the last of its block, and for which there is room
pub decodes : (e : ReceiverEnd) (x : ℕ) → ReceiverReady e → e.state.refusal ≡ 0 → 1 < e.state.left
    → e.state.decoded < most_decoded (agreed e.state.settings) → (x ≡ flag → ⊥)
    → receive e x ≡ record { report = quiet; after = after_data 1 (set (work e).area e.state.decoded (from_line x)) e }
decodes e x a n l room h =
    let g = agreed e.state.settings in
    let c = counts g e.state a.bounds in
    let p : is_plain e.state.mode ≡ false = in_block e a l in
    let z = ready_of e a p in
    let w = work e in
    let y = from_line x in
    let more : w.state.left ≡ 1 → ⊥ = λ k. omega arith in
    let s = steps-data g (aside e) w y z.bounds n (omega arith) ∙ inner-octet g w y room more in
    let t = stored w.area e.state.decoded y (omega (arith, area-long g e z e.state.turn)) in
    in-cobs e x a p (framed-begins e.state x (block-framed e a l)) ∙ receive_other g e z x h
    ∙ ap (λ (v : Working). record { report = quiet; after = put_back e v }) s
    ∙ ap (λ (area : List ℕ). record { report = quiet; after = after_data 1 area e }) (sym t)

-- ---- plain PPP

-- the receiver after n octets more of a plain frame, which made `area` of the work area
abbrev pub after_plain : ℕ → List ℕ → ReceiverEnd → ReceiverEnd
after_plain n area e = put_back e (record { state = with_decoded (e.state.decoded + n) e.state; area = area })

-- In a plain frame, with no escape open and room in the largest frame: an octet that is neither flag nor escape and is not removed.
pub copies : (e : ReceiverEnd) (x : ℕ) → ReceiverReady e → e.state.mode ≡ plain → e.state.refusal ≡ 0 → e.state.framed ≡ true
    → e.state.decoded < largest_frame (agreed e.state.settings) → (x ≡ flag → ⊥) → (x ≡ escape → ⊥) → removed e.state.map x ≡ false
    → receive e x ≡ record { report = quiet; after = after_plain 1 (set (work e).area e.state.decoded x) e }
unfolding plain_octet plain_taken plain_data
copies e x a m n f room h k i =
    let g = agreed e.state.settings in
    let p : is_plain e.state.mode ≡ true = ap is_plain m in
    let b = plain-bounds g e.state p a.bounds in
    let fits : e.state.decoded + 1 ≤ largest_frame g = omega arith in
    let long : e.state.decoded < length (work e).area = omega (arith, (fit-plain e x a p).long) in
    let says : taken e.state.map (is_escaped e.state.mode) x ≡ Data x = ap (λ (c : Mode). taken e.state.map (is_escaped c) x) m ∙ taken-plainly e.state.map x i k in
    in-plain e x a p
    ∙ (if-not _ _ _ (ne_eqb x flag h)
    ∙ (ap (quietly e) (if-not _ _ _ (ap not (eq-eqb _ _ n)) ∙ (ap (plain_taken g (work e)) says ∙ if-not _ _ _ (le-ltb _ _ fits)))
    ∙ (ap (λ (r : Receiver). quietly e (step3_write (x ∷ []) (record { state = r; area = (work e).area }))) (same-frame e.state m n f b.last-0)
    ∙ ap (λ (area : List ℕ). record { report = quiet; after = after_plain 1 area e }) (sym (stored (work e).area e.state.decoded x long)))))

-- one octet, and n more
pub plain_more : (n : ℕ) (area one : List ℕ) (e : ReceiverEnd) → after_plain n area (after_plain 1 one e) ≡ after_plain (suc n) area e
plain_more n area one e =
    let d : e.state.decoded + 1 + n ≡ e.state.decoded + suc n = omega arith in
    decide e.state.turn (λ k. simp (d, k)) (λ k. simp (d, k))

pub plain-area : (n : ℕ) (area : List ℕ) (e : ReceiverEnd) → (work (after_plain n area e)).area ≡ area
plain-area n area e = found e.state.turn area e.second e.first

pub no_plain : (e : ReceiverEnd) → after_plain 0 (work e).area e ≡ e
no_plain e = simp (add-zero, first-stays, second-stays)

-- ---- one data octet of a block, and n more

pub data-more : (n : ℕ) (area one : List ℕ) (e : ReceiverEnd) → after_data n area (after_data 1 one e) ≡ after_data (suc n) area e
data-more n area one e =
    let l : e.state.left - 1 - n ≡ e.state.left - suc n = omega arith in
    let d : e.state.decoded + 1 + n ≡ e.state.decoded + suc n = omega arith in
    decide e.state.turn (λ k. simp (l, d, k)) (λ k. simp (l, d, k))

pub data-area : (n : ℕ) (area : List ℕ) (e : ReceiverEnd) → (work (after_data n area e)).area ≡ area
data-area n area e = found e.state.turn area e.second e.first

pub no-data : (e : ReceiverEnd) → after_data 0 (work e).area e ≡ e
no-data e = simp (sub-zero, add-zero, first-stays, second-stays)
