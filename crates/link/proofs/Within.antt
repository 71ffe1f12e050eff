-- The numbers of a report: the length of a packet is within the limit, and within its area as the call left it; a count of held octets and
-- the number of a refusal are small.
use mathlib.Core.Bool.{Bool, not}
use mathlib.Core.List.{List}
use mathlib.Core.Logic.{◌⊎◌, inl, inr, ⊎_elim}
use mathlib.Core.Path.{◌≡◌, refl, sym, ap, subst, ◌∙◌}
use Prim.Native.Nat.{ℕ, ◌+◌, ◌-◌, ◌≤◌}
use native.Mathlib.Omega.{arith}
use borrow.Author.Tests.{eqb-true, eqb-false, ltb-false, not-true}
use lib.Dec.{ltb, eqb}
use lib.ListN.{length, take}
use Rattle.fcs.specs.CheckSequence.{good}
use Rattle.cobs.specs.CodeBlocks.{flag}
use Rattle.cobs.proofs.Tests.{branch, decide}
use Rattle.link.specs.Agreed.{Agreed, agreed, least_frame, most_decoded}
use Rattle.link.specs.Answers.{Answer, quiet, packet, held, refused}
use Rattle.link.specs.Receiver.{kept_off, Receiver, ReceiverEnd, Receive, Ended, is_no_block, is_d0, is_plain, step5_without_phantom, step5_flag, at_flag, at_plain_flag, begins_plain, work, flagged, receive}
use Rattle.link.specs.EachCall.{Within, ReportsWithin, FiveIfOff}
use Rattle.link.specs.ReceiverParts.{ReceiverReady}
use Rattle.link.proofs.Cobs.{cobs_receive, in-plain, begins, in-cobs, off-is}
use Rattle.link.proofs.ReceiverBounds.{Bounds, bounds, Remembered, OfFrame}
use Rattle.link.proofs.PlainCases.{PlainBounds, plain-bounds, by-plain-flag}
use Rattle.link.proofs.Whole.{five-off, passes, by-ready}
use Rattle.link.proofs.Stays.{flag-begins}

-- what is remembered is one of these
of-remembered : (n : ℕ) → Remembered n → (2 ≤ n) × ((n ≤ 14) ⊎ (n ≡ 18) ⊎ (n ≡ 21))
of-remembered n k = (omega (arith, k.0), ⊎_elim (λ l. inl (omega arith)) (λ e. inr (inr e)) k.1)

-- at a flag
module _ (g : Agreed) (e : ReceiverEnd) (long : most_decoded g ≤ length (work e).area) where
  abbrev Ends : Ended → Type 0
  Ends t = Within g t.report (flagged e t).after

  whole-within : (n : ℕ) → n + 1 ≤ most_decoded g → Ends (step5_without_phantom g e.state (work e).area n)
  unfolding step5_without_phantom
  whole-within n h =
      branch Ends (ltb n (least_frame g)) (λ _. (omega arith, inl (omega arith)))
      (λ k.
      let least : least_frame g ≤ n = ltb-false n (least_frame g) k in
      branch Ends (good g.check (take n (work e).area))
      (λ good-n.
      let all : n - g.check.fcs_length + g.check.fcs_length ≡ n = omega arith in
      (omega arith, omega arith, omega arith, ap (λ (i : ℕ). good g.check (take i (work e).area)) all ∙ good-n))
      (λ _. (omega arith, inl (omega arith))))

  flag-within : Bounds g e.state → Ends (at_flag g e.state (work e).area)
  unfolding at_flag step5_flag
  flag-within b =
      let r = e.state in
      let deep = b.deep in
      branch Ends r.framed
      (λ _. branch Ends (not (eqb r.refusal 0))
      (λ k. let some = b.refusals (eqb-false r.refusal 0 (not-true (eqb r.refusal 0) k)) in of-remembered r.refusal some)
      (λ _. branch Ends (is_no_block r.last) (λ _. (omega arith, inl (omega arith)))
      (λ _. branch Ends (ltb 0 r.left) (λ _. branch Ends g.pre (λ _. deep) (λ _. (omega arith, inl (omega arith))))
      (λ _. branch Ends (is_d0 r.last) (λ _. (omega arith, inl (omega arith))) (λ _. whole-within (r.decoded - 1) (omega arith))))))
      (λ _. tt)

  plain-within : PlainBounds g e.state → Ends (at_plain_flag g e.state (work e).area)
  plain-within b =
      by-plain-flag g Ends e.state (work e).area (λ _. tt) (λ _ some. of-remembered e.state.refusal (b.refusals some))
      (λ _. (omega arith, inl (omega arith)))
      (λ _. (omega arith, inr (inl refl)))
      (λ _ h. whole-within e.state.decoded (omega arith))

-- the call
pub within : ReportsWithin
unfolding cobs_receive
within e x =
    let g = agreed e.state.settings in
    let most = most_decoded g in
    let P : Receive → Type 0 = λ h. Within g h.report h.after in
    by-ready P e x (λ n h k. (h, inl (omega arith)))
    (λ a.
    let long = branch (λ (l : List ℕ). most ≤ length l) e.state.turn (λ _. a.second) (λ _. a.first) in
    decide (is_plain e.state.mode)
    (λ p. rw (in-plain e x a p) (branch P (eqb x flag) (λ _. plain-within g e long (plain-bounds g e.state p a.bounds)) (λ _. tt)))
    (λ p. decide (begins_plain e.state x) (λ b. rw (begins e x a p b) tt)
    (λ b. rw (in-cobs e x a p b) (branch P (eqb x flag) (λ _. flag-within g e long (bounds g e.state p a.bounds)) (λ _. tt)))))

-- what a flag refuses is what is remembered, or from 9 to 14, or 18
module _ (g : Agreed) (r : Receiver) where
  abbrev Which : Ended → Type 0
  Which t = (n : ℕ) → t.report ≡ refused n → ((r.refusal ≡ n) × (r.refusal ≡ 0 → ⊥)) ⊎ ((9 ≤ n) × (n ≤ 18))

  whole-refuses : (area : List ℕ) (n : ℕ) → Which (step5_without_phantom g r area n)
  unfolding step5_without_phantom
  whole-refuses area n =
      branch Which (ltb n (least_frame g)) (λ _ k e. let z : 13 ≡ k = cc in inr (omega arith, omega arith))
      (λ _. branch Which (good g.check (take n area)) (λ _ k e. absurd (let z : ◌≡◌ {A = ℕ} 0 1 = cc in omega arith))
      (λ _ k e. let z : 14 ≡ k = cc in inr (omega arith, omega arith)))

  pub flag-refuses : (area : List ℕ) → Which (at_flag g r area)
  unfolding at_flag step5_flag
  flag-refuses area =
      branch Which r.framed
      (λ _. branch Which (not (eqb r.refusal 0)) (λ k n e. let z : r.refusal ≡ n = cc in inl (z, eqb-false r.refusal 0 (not-true (eqb r.refusal 0) k)))
      (λ _. branch Which (is_no_block r.last) (λ _ n e. let z : 9 ≡ n = cc in inr (omega arith, omega arith))
      (λ _. branch Which (ltb 0 r.left)
      (λ _. branch Which g.pre (λ _ n e. absurd (let z : ◌≡◌ {A = ℕ} 0 1 = cc in omega arith))
      (λ _ n e. let z : 11 ≡ n = cc in inr (omega arith, omega arith)))
      (λ _. branch Which (is_d0 r.last) (λ _ n e. let z : 12 ≡ n = cc in inr (omega arith, omega arith)) (λ _. whole-refuses area (r.decoded - 1))))))
      (λ _ n e. absurd (let z : ◌≡◌ {A = ℕ} 0 1 = cc in omega arith))

  pub plain-refuses : (area : List ℕ) → Which (at_plain_flag g r area)
  plain-refuses area =
      by-plain-flag g Which r area (λ _ n e. absurd (let z : ◌≡◌ {A = ℕ} 0 1 = cc in omega arith)) (λ _ some n e. let z : r.refusal ≡ n = cc in inl (z, some))
      (λ _ n e. let z : 10 ≡ n = cc in inr (omega arith, omega arith))
      (λ _ n e. let z : 18 ≡ n = cc in inr (omega arith, omega arith))
      (λ _ _. whole-refuses area r.decoded)

-- the call
pub call-refuses : (e : ReceiverEnd) → ReceiverReady e → (n : ℕ) → (receive e flag).report ≡ refused n
    → ((e.state.refusal ≡ n) × (e.state.refusal ≡ 0 → ⊥)) ⊎ ((9 ≤ n) × (n ≤ 18))
unfolding cobs_receive
call-refuses e a n q =
    let g = agreed e.state.settings in
    decide (is_plain e.state.mode)
    (λ p. plain-refuses g e.state (work e).area n (sym (ap (λ (h : Receive). h.report) (in-plain e flag a p)) ∙ q))
    (λ p. flag-refuses g e.state (work e).area n (sym (ap (λ (h : Receive). h.report) (in-cobs e flag a p (flag-begins e.state))) ∙ q))

pub five-if-off : FiveIfOff
five-if-off e x =
    by-ready (λ h. h.report ≡ refused 5 → e.state.mode ≡ kept_off) e x (λ n h k q. absurd (let z : n ≡ 5 = cc in omega arith))
    (λ a q.
    decide (eqb x flag)
    (λ f.
    ⊎_elim (λ k. off-is e.state.mode (five-off _ e.state a.bounds k.0)) (λ k. absurd (omega (arith, k.0)))
    (call-refuses e a 5 (ap (λ (y : ℕ). (receive e y).report) (sym (eqb-true x flag f)) ∙ q)))
    (λ f. absurd (let z : quiet ≡ refused 5 = sym ((passes e x a).silent (eqb-false x flag f)) ∙ q in let n : ◌≡◌ {A = ℕ} 0 1 = cc in omega arith)))

-- a receiver that is in bounds and has areas long enough refuses no call: what it refuses are frames
pub refuses-frames : (e : ReceiverEnd) → ReceiverReady e → (x n : ℕ) → (receive e x).report ≡ refused n → 5 ≤ n
refuses-frames e a x n q = let t : OfFrame (refused n) = subst OfFrame q (passes e x a).tells in t

-- a receiver's call answers Quiet, Packet, Held or a refusal
module _ (P : Answer → Type 0) (q : P quiet) (p : (in_second : Bool) (n : ℕ) → P (packet in_second n)) (h : (n : ℕ) (replaced : Bool) → P (held n replaced)) (r : (n : ℕ) → P (refused n)) where
  by_whole : (g : Agreed) (s : Receiver) (area : List ℕ) (n : ℕ) → P (step5_without_phantom g s area n).report
  unfolding step5_without_phantom
  by_whole g s area n =
      let E : Ended → Type 0 = λ t. P t.report in
      branch E (ltb n (least_frame g)) (λ _. r 13) (λ _. branch E (good g.check (take n area)) (λ _. p _ _) (λ _. r 14))

  by_flag : (g : Agreed) (s : Receiver) (area : List ℕ) → P (at_flag g s area).report
  unfolding at_flag step5_flag
  by_flag g s area =
      let E : Ended → Type 0 = λ t. P t.report in
      branch E s.framed
      (λ _. branch E (not (eqb s.refusal 0)) (λ _. r s.refusal)
      (λ _. branch E (is_no_block s.last) (λ _. r 9)
      (λ _. branch E (ltb 0 s.left) (λ _. branch E g.pre (λ _. h _ _) (λ _. r 11))
      (λ _. branch E (is_d0 s.last) (λ _. r 12) (λ _. by_whole g s area (s.decoded - 1))))))
      (λ _. q)

  pub by-report : (e : ReceiverEnd) (x : ℕ) → P (receive e x).report
  unfolding cobs_receive
  by-report e x =
      let g = agreed e.state.settings in
      let E : Receive → Type 0 = λ t. P t.report in
      by-ready E e x (λ n _ _. r n)
      (λ a.
      decide (is_plain e.state.mode)
      (λ k.
      rw (in-plain e x a k)
      (branch E (eqb x flag)
      (λ _. by-plain-flag g (λ (t : Ended). P t.report) e.state (work e).area (λ _. q) (λ _ _. r _) (λ _. r 10) (λ _. r 18) (λ _ _. by_whole g e.state (work e).area e.state.decoded))
      (λ _. q)))
      (λ k. decide (begins_plain e.state x) (λ b. rw (begins e x a k b) q)
      (λ b. rw (in-cobs e x a k b) (branch E (eqb x flag) (λ _. by_flag g e.state (work e).area) (λ _. q)))))
