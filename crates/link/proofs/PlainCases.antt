-- Plain reading in each of its cases.
use mathlib.Core.Path.{◌≡◌, refl, sym, ap, ◌∙◌}
use mathlib.Core.Bool.{true, false, not, ◌&&◌, ◌||◌}
use mathlib.Core.List.{List, [], ◌∷◌}
use Prim.Native.Nat.{ℕ, ◌+◌, ◌≤◌, ◌<◌}
use native.Mathlib.Omega.{arith}
use borrow.Author.Tests.{ltb-true, ltb-false, eqb-true, eqb-false, ne_eqb, not-true, not-false}
use lib.Dec.{ltb, eqb}
use Rattle.cobs.proofs.Tests.{branch, decide, and_left, and_right}
use Rattle.plain.specs.declared.Taken.{Taken}
use Rattle.plain.specs.declared.Taken.TheVariants.{Removed, Escape, Data}
use Rattle.plain.specs.Stuffing.{taken}
use Rattle.link.specs.Agreed.{Agreed, largest_frame, most_decoded}
use Rattle.link.specs.Answers.{quiet, refused}
use Rattle.link.specs.Receiver.{no_block, Mode, kept_off, cobs, plain, escape_open, Receiver, Working, Ended, is_no_block, is_off, is_plain, is_escaped, let_go, with_mode, in_bounds, mode_ok, no_block_open, step4_refuse, step3_write, step5_end, step5_without_phantom, in_plain_frame, plain_data, plain_taken, plain_octet, plain_flag, at_plain_flag, begin_plain}
use Rattle.link.proofs.Tests.{or_cases, true-false, false-true}
use Rattle.link.proofs.ReceiverBounds.{HeldOk, FreshOk, Remembered, counts, out-fresh, fresh_ok_lem, is_none, ok-in-bounds}

-- ---- an octet that is no flag

-- the frame goes on
abbrev pub on : Mode → Working → Working
on m w = record { state = in_plain_frame m w.state; area = w.area }

module _ (g : Agreed) (P : Working → Type 0) (w : Working) where
  pub by-data : (y : ℕ) → (largest_frame g ≤ w.state.decoded → P (step4_refuse 10 (on plain w)))
      → (w.state.decoded + 1 ≤ largest_frame g → P (step3_write (y ∷ []) (on plain w)))
      → P (plain_data g y w)
  unfolding plain_data
  by-data y f h =
      branch P (ltb (largest_frame g) (w.state.decoded + 1))
      (λ e. f (let t : largest_frame g < w.state.decoded + 1 = ltb-true _ _ e in omega arith)) (λ e. h (ltb-false _ _ e))

  by-taken : (t : Taken) → P w → P (on escape_open w) → (largest_frame g ≤ w.state.decoded → P (step4_refuse 10 (on plain w)))
      → ((y : ℕ) → w.state.decoded + 1 ≤ largest_frame g → P (step3_write (y ∷ []) (on plain w)))
      → P (plain_taken g w t)
  unfolding plain_taken
  by-taken Removed same esc ten put = same
  by-taken Escape same esc ten put = esc
  by-taken (Data y) same esc ten put = by-data y ten (put y)

  pub by-octet : (x : ℕ) → P w → (w.state.refusal ≡ 0 → P (on escape_open w))
      → (w.state.refusal ≡ 0 → largest_frame g ≤ w.state.decoded → P (step4_refuse 10 (on plain w)))
      → ((y : ℕ) → w.state.refusal ≡ 0 → w.state.decoded + 1 ≤ largest_frame g → P (step3_write (y ∷ []) (on plain w)))
      → P (plain_octet g w x)
  unfolding plain_octet
  by-octet x same esc ten put =
      branch P (not (eqb w.state.refusal 0)) (λ _. same)
      (λ e.
      let c : w.state.refusal ≡ 0 = eqb-true _ _ (not-false _ e) in
      by-taken (taken w.state.map (is_escaped w.state.mode) x) same (esc c) (ten c) (λ y. put y c))

-- plain reading begins
pub by-begin : (g : Agreed) (P : Working → Type 0) (w : Working)
    → (largest_frame g ≤ w.state.decoded → P (step4_refuse 10 (on plain (record { state = let_go w.state; area = w.area }))))
    → (w.state.decoded + 1 ≤ largest_frame g → P (step3_write (0xFF ∷ []) (on plain (record { state = let_go w.state; area = w.area }))))
    → P (begin_plain g w)
unfolding begin_plain
by-begin g P w ten put = by-data g P (record { state = let_go w.state; area = w.area }) 0xFF ten put

-- ---- a flag

module _ (g : Agreed) (P : Ended → Type 0) (r : Receiver) (area : List ℕ) where
  pub by-plain-flag : (r.framed ≡ false → P (record { report = quiet; state = r }))
      → (r.framed ≡ true → (r.refusal ≡ 0 → ⊥) → P (step5_end (refused r.refusal) r))
      → (r.framed ≡ true → P (step5_end (refused 10) r))
      → (r.framed ≡ true → P (step5_end (refused 18) r))
      → (r.framed ≡ true → r.decoded ≤ largest_frame g → P (step5_without_phantom g r area r.decoded))
      → P (at_plain_flag g r area)
  unfolding at_plain_flag plain_flag
  by-plain-flag out kept ten esc whole =
      branch P r.framed
      (λ f. branch P (not (eqb r.refusal 0)) (λ e. kept f (eqb-false _ _ (not-true _ e)))
      (λ _. branch P (ltb (largest_frame g) r.decoded) (λ _. ten f)
      (λ e. branch P (is_escaped r.mode) (λ _. esc f) (λ _. whole f (ltb-false _ _ e)))))
      out

-- in a frame, with no escape open: the state is as it was
pub same-frame : (r : Receiver) → r.mode ≡ plain → r.refusal ≡ 0 → r.framed ≡ true → r.last ≡ no_block → in_plain_frame plain r ≡ r
same-frame r m n f l = same
  where
    same : in_plain_frame plain r ≡ with_mode r.mode r
    same = rw (m, n, f, l)

-- ---- in bounds, as facts

pub record PlainBounds (g : Agreed) (r : Receiver) : Type 0 where
  pub deep : r.decoded ≤ most_decoded g
  pub holds : HeldOk g r.held
  pub refusals : (r.refusal ≡ 0 → ⊥) → Remembered r.refusal
  pub not-5 : r.refusal ≡ 5 → ⊥
  pub left-0 : r.left ≡ 0
  pub zeros-0 : r.zeros ≡ 0
  pub last-0 : r.last ≡ no_block
  pub out : r.framed ≡ false → FreshOk r
  pub escape : is_escaped r.mode ≡ true → r.framed ≡ true
  pub reads : is_plain r.mode ≡ true

pub plain-not-off : (m : Mode) → is_plain m ≡ true → is_off m ≡ false
plain-not-off kept_off p = true-false (sym p)
plain-not-off cobs p = refl
plain-not-off plain p = refl
plain-not-off escape_open p = refl

pub plain-bounds : (g : Agreed) (r : Receiver) → is_plain r.mode ≡ true → in_bounds g r ≡ true → PlainBounds g r
plain-bounds g r p e =
    let c = counts g r e in
    let five = not (eqb r.refusal 5) || is_off r.mode in
    let block = not (is_plain r.mode) || no_block_open r in
    let esc = not (is_escaped r.mode) || r.framed in
    let front = and_left (five && block) esc c.mode in
    let none-open : no_block_open r ≡ true = or_cases (not (is_plain r.mode)) (no_block_open r) (and_right five block front) (λ q. false-true (sym (ap not p) ∙ q)) (λ q. q) in
    let counts-0 = and_left (eqb r.left 0 && eqb r.zeros 0) (is_no_block r.last) none-open in
    record {
      deep = c.deep;
      holds = c.holds;
      refusals = c.refusals;
      not-5 = λ q. or_cases (not (eqb r.refusal 5)) (is_off r.mode) (and_left five block front)
          (λ k. eqb-false _ _ (not-true _ k) q) (λ k. true-false (sym k ∙ plain-not-off r.mode p));
      left-0 = eqb-true _ _ (and_left (eqb r.left 0) (eqb r.zeros 0) counts-0);
      zeros-0 = eqb-true _ _ (and_right (eqb r.left 0) (eqb r.zeros 0) counts-0);
      last-0 = is_none r.last (and_right (eqb r.left 0 && eqb r.zeros 0) (is_no_block r.last) none-open);
      out = out-fresh g r c;
      escape = λ q. or_cases (not (is_escaped r.mode)) r.framed (and_right (five && block) esc c.mode) (λ k. false-true (sym (ap not q) ∙ k)) (λ k. k);
      reads = p;
    }

plain-mode-ok : (g : Agreed) (r : Receiver) → PlainBounds g r → mode_ok r ≡ true
plain-mode-ok g r b =
    rw (b.reads, ne_eqb _ _ b.not-5, b.left-0, b.zeros-0, b.last-0)
    (decide (is_escaped r.mode) (λ q. rw (q, b.escape q)) (λ q. rw q))

pub plain-in-bounds : (g : Agreed) (r : Receiver) → PlainBounds g r → in_bounds g r ≡ true
plain-in-bounds g r b =
    ok-in-bounds g r
    (record {
      deep = b.deep;
      holds = b.holds;
      few = omega (arith, b.left-0);
      two = omega (arith, b.zeros-0);
      refusals = b.refusals;
      restart = λ q. absurd (b.not-5 q);
      mode = plain-mode-ok g r b;
      frame = branch (λ t. t ≡ true) r.framed (λ _. rw b.reads) (λ f. fresh_ok_lem r (b.out f));
    })
