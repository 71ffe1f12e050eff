-- The receiver by itself, while COBS is read: on areas that are long enough no octet is refused, each leaves the state in bounds, all but flags
-- are Quiet, and after a flag the receiver is out of a frame.
use mathlib.Core.Path.{◌≡◌, refl, sym, ap, subst, ◌∙◌}
use mathlib.Core.Bool.{Bool, true, false, cond, not, ◌&&◌, ◌||◌}
use mathlib.Core.List.{List, [], ◌∷◌}
use mathlib.Core.Logic.{◌⊎◌, inl, inr, ⊎_elim}
use Prim.Native.Nat.{ℕ, ◌+◌, ◌-◌, ◌^◌, ◌≤◌, ◌<◌}
use native.Mathlib.Omega.{arith}
use borrow.Author.Tests.{ltb-true, ltb-false, leb-true, eqb-true, eqb-false, lt-ltb, le-leb, eq-eqb, ne_eqb, not-true, not-false}
use lib.Dec.{leb, ltb, eqb}
use lib.ListN.{length, take, replicate, length-replicate}
use Rattle.std.specs.Prelude.{Some, None, Ok, Err}
use Rattle.fcs.specs.CheckSequence.{Sound, width, ones, register, good}
use Rattle.fcs.proofs.Laws.{register-below}
use Rattle.cobs.specs.CodeBlocks.{flag, from_line, meaning, Meaning}
use Rattle.cobs.specs.declared.CodeError.TheVariants.{NotAgreed, NoCode}
use Rattle.cobs.proofs.Tests.{branch, decide, and_left, and_right}
use Rattle.cobs.proofs.Table.{read-row, numbers}
use Rattle.link.specs.Agreed.{Settings, Agreed, agreed, valid, least_frame, most_decoded}
use Rattle.link.specs.Answers.{Answer, done, octet, idle, quiet, packet, held, refused}
use Rattle.link.specs.Receiver.{Fragment, Held, LastBlock, no_block, block_d0, other_block, Mode, Receiver, Working, ReceiverEnd, Receive, Ended, fresh, out_of_frame, with_due, step2_begin_block, is_no_block, is_d0, is_off, is_plain, let_go, held_ok, fresh_ok, last_block_ok, refusal_ok, mode_ok, frame_ok, in_bounds, step4_remember, step4_refuse, step3_write, step3_decode, step3_data, last_block, step2_by_meaning, step2_code, step1_resume_held, step1_d1, step1_first_octet, steps_1_to_4, frame_over, step5_end, step5_hold, step5_without_phantom, step5_flag, at_flag, area_of, work, aside, put_back, flagged}
use Rattle.link.proofs.Agreed.{sound-check}
use Rattle.link.proofs.Cobs.{cobs_receive, not-escaped}
use Rattle.link.proofs.Tests.{if-so, if-not, ands, true-false, false-true, or_cases}
use Rattle.link.proofs.Write.{length-write}

-- ---- in bounds, as facts

abbrev pub HeldOk : Agreed → Held → Type 0
HeldOk g None = Unit {0}
HeldOk g (Some h) = (h.count ≤ most_decoded g) × (h.register ≤ ones g.check)

-- out of a frame
pub record FreshOk (r : Receiver) : Type 0 where
  pub decoded-0 : r.decoded ≡ 0
  pub left-0 : r.left ≡ 0
  pub zeros-0 : r.zeros ≡ 0
  pub last-0 : r.last ≡ no_block
  pub resumed-0 : r.resumed ≡ false
  pub refusal-0 : r.refusal ≡ 0

-- in a frame without refusal, by the last block
abbrev pub LastBlockOk : LastBlock → Bool → ℕ → ℕ → Type 0
LastBlockOk no_block resumed left decoded = resumed ≡ true
LastBlockOk block_d0 resumed left decoded = Unit {0}
LastBlockOk other_block resumed left decoded = 0 < left + decoded

-- a refusal that may be remembered
abbrev pub Remembered : ℕ → Type 0
Remembered n = (5 ≤ n) × ((n ≤ 10) ⊎ (n ≡ 21))

pub record Bounds (g : Agreed) (r : Receiver) : Type 0 where
  pub deep : r.decoded ≤ most_decoded g
  pub holds : HeldOk g r.held
  pub few : r.left ≤ 207
  pub two : r.zeros ≤ 2
  pub refusals : (r.refusal ≡ 0 → ⊥) → Remembered r.refusal
  pub restart : r.refusal ≡ 5 → r.held ≡ None
  pub out : r.framed ≡ false → FreshOk r
  pub begun : r.framed ≡ true → r.refusal ≡ 0 → LastBlockOk r.last r.resumed r.left r.decoded

some-held : {Q : Type 0} (h : Fragment) → Some h ≡ None → Q
some-held h e = absurd (let z : ◌≡◌ {A = ℕ} 0 1 = cc in omega arith)

-- the facts make the test true
held-ok : (g : Agreed) (m : ℕ) (h : Held) → HeldOk g h → (m ≡ 5 → h ≡ None) → held_ok g m h ≡ true
held-ok g m None k f = refl
held-ok g m (Some h) k f = rw (ne_eqb m 5 (λ e. some-held h (f e)), le-leb h.count (most_decoded g) k.0, le-leb h.register (ones g.check) k.1)

remembered-ok : (n : ℕ) → Remembered n → (leb 5 n && leb n 10 || eqb n 21) ≡ true
remembered-ok n k = ⊎_elim (λ l. rw (le-leb 5 n k.0, le-leb n 10 l)) (λ e. rw e) k.1

refusal-ok : (n : ℕ) → ((n ≡ 0 → ⊥) → Remembered n) → refusal_ok n ≡ true
refusal-ok n h = decide (eqb n 0) (λ e. rw e) (λ e. rw e (remembered-ok n (h (eqb-false n 0 e))))

block-ok : (b : LastBlock) (r : Receiver) → LastBlockOk b r.resumed r.left r.decoded → last_block_ok b r ≡ true
block-ok no_block r h = h
block-ok block_d0 r h = refl
block-ok other_block r h = decide (ltb 0 r.left) (λ e. rw e) (λ e. rw e (lt-ltb 0 r.decoded (omega (arith, ltb-false 0 r.left e))))

pub fresh_ok_lem : (r : Receiver) → FreshOk r → fresh_ok r ≡ true
fresh_ok_lem r h = rw (h.decoded-0, h.left-0, h.zeros-0, h.last-0, h.resumed-0, h.refusal-0)

-- what the mode asks, while COBS is read
mode-ok : (r : Receiver) → is_plain r.mode ≡ false → (r.refusal ≡ 5 → is_off r.mode ≡ true) → mode_ok r ≡ true
mode-ok r p h = rw (p, not-escaped r.mode p) (decide (eqb r.refusal 5) (λ e. rw (e, h (eqb-true _ _ e))) (λ e. rw e))

-- whatever is read
pub record Counts (g : Agreed) (r : Receiver) : Type 0 where
  pub deep : r.decoded ≤ most_decoded g
  pub holds : HeldOk g r.held
  pub few : r.left ≤ 207
  pub two : r.zeros ≤ 2
  pub refusals : (r.refusal ≡ 0 → ⊥) → Remembered r.refusal
  pub restart : r.refusal ≡ 5 → r.held ≡ None
  pub mode : mode_ok r ≡ true
  pub frame : cond r.framed (is_plain r.mode || not (eqb r.refusal 0) || last_block_ok r.last r) (fresh_ok r) ≡ true

pub ok-in-bounds : (g : Agreed) (r : Receiver) → Counts g r → in_bounds g r ≡ true
unfolding in_bounds
ok-in-bounds g r h =
    rw (
      le-leb r.decoded (most_decoded g) h.deep,
      held-ok g r.refusal r.held h.holds h.restart,
      le-leb r.left 207 h.few,
      le-leb r.zeros 2 h.two,
      h.mode,
      refusal-ok r.refusal h.refusals,
    )
    h.frame

pub in_bounds_lem : (g : Agreed) (r : Receiver) → is_plain r.mode ≡ false → (r.refusal ≡ 5 → is_off r.mode ≡ true) → Bounds g r → in_bounds g r ≡ true
in_bounds_lem g r p five h =
    ok-in-bounds g r
    (record {
      deep = h.deep;
      holds = h.holds;
      few = h.few;
      two = h.two;
      refusals = h.refusals;
      restart = h.restart;
      mode = mode-ok r p five;
      frame =
          branch (λ b. b ≡ true) r.framed
          (λ e. rw p (decide (eqb r.refusal 0) (λ f. rw f (block-ok r.last r (h.begun e (eqb-true r.refusal 0 f)))) (λ f. rw f)))
          (λ e. fresh_ok_lem r (h.out e));
    })

-- and the test tells the facts
pub ok-held : (g : Agreed) (m : ℕ) (h : Held) → held_ok g m h ≡ true → HeldOk g h
ok-held g m None e = tt
ok-held g m (Some h) e =
    let n = h.count in
    let k = h.register in
    let few = not (eqb m 5) && leb n (most_decoded g) in
    let front = and_left few (leb k (ones g.check)) e in
    (leb-true n (most_decoded g) (and_right (not (eqb m 5)) (leb n (most_decoded g)) front), leb-true k (ones g.check) (and_right few (leb k (ones g.check)) e))

ok-restart : (g : Agreed) (m : ℕ) (h : Held) → held_ok g m h ≡ true → m ≡ 5 → h ≡ None
ok-restart g m None e f = refl
ok-restart g m (Some h) e f = false-true (rw f at e)

ok-refusal : (n : ℕ) → refusal_ok n ≡ true → (n ≡ 0 → ⊥) → Remembered n
ok-refusal n e some =
    or_cases (eqb n 0) _ e (λ k. absurd (some (eqb-true n 0 k)))
    (λ k. or_cases (leb 5 n && leb n 10) (eqb n 21) k
    (λ l. (leb-true 5 n (and_left (leb 5 n) (leb n 10) l), inl (leb-true n 10 (and_right (leb 5 n) (leb n 10) l))))
    (λ l. (omega (arith, eqb-true n 21 l), inr (eqb-true n 21 l))))

ok-block : (b : LastBlock) (r : Receiver) → last_block_ok b r ≡ true → LastBlockOk b r.resumed r.left r.decoded
ok-block no_block r e = e
ok-block block_d0 r e = tt
ok-block other_block r e =
    or_cases (ltb 0 r.left) (ltb 0 r.decoded) e
    (λ k. omega (arith, ltb-true 0 r.left k))
    (λ k. omega (arith, ltb-true 0 r.decoded k))

pub is_none : (b : LastBlock) → is_no_block b ≡ true → b ≡ no_block
is_none no_block e = refl
is_none block_d0 e = false-true e
is_none other_block e = false-true e

ok-fresh : (r : Receiver) → fresh_ok r ≡ true → FreshOk r
ok-fresh r e =
    let all = ands (eqb r.decoded 0) (eqb r.left 0) (eqb r.zeros 0) (is_no_block r.last) (not r.resumed) (eqb r.refusal 0) e in
    record {
      decoded-0 = eqb-true r.decoded 0 all.0;
      left-0 = eqb-true r.left 0 all.1;
      zeros-0 = eqb-true r.zeros 0 all.2;
      last-0 = is_none r.last all.3;
      resumed-0 = not-true r.resumed all.4;
      refusal-0 = eqb-true r.refusal 0 all.5;
    }

pub counts : (g : Agreed) (r : Receiver) → in_bounds g r ≡ true → Counts g r
unfolding in_bounds
counts g r e =
    let n = r.refusal in
    let frame = cond r.framed (is_plain r.mode || not (eqb n 0) || last_block_ok r.last r) (fresh_ok r) in
    let all = ands (leb r.decoded (most_decoded g)) (held_ok g n r.held) (leb r.left 207) (leb r.zeros 2) (mode_ok r) (frame_ok r) e in
    record {
      deep = leb-true r.decoded (most_decoded g) all.0;
      holds = ok-held g n r.held all.1;
      few = leb-true r.left 207 all.2;
      two = leb-true r.zeros 2 all.3;
      refusals = ok-refusal n (and_left (refusal_ok n) frame all.5);
      restart = ok-restart g n r.held all.1;
      mode = all.4;
      frame = and_right (refusal_ok n) frame all.5;
    }

pub out-fresh : (g : Agreed) (r : Receiver) → Counts g r → r.framed ≡ false → FreshOk r
out-fresh g r c f = ok-fresh r (sym (if-not r.framed _ (fresh_ok r) f) ∙ c.frame)

-- and while COBS is read
pub bounds : (g : Agreed) (r : Receiver) → is_plain r.mode ≡ false → in_bounds g r ≡ true → Bounds g r
bounds g r p e =
    let c = counts g r e in
    let n = r.refusal in
    record {
      deep = c.deep;
      holds = c.holds;
      few = c.few;
      two = c.two;
      refusals = c.refusals;
      restart = c.restart;
      out = out-fresh g r c;
      begun =
          λ f z.
          or_cases (not (eqb n 0)) (last_block_ok r.last r)
          (subst (λ (b : Bool). (b || not (eqb n 0) || last_block_ok r.last r) ≡ true) p (sym (if-so r.framed _ _ f) ∙ c.frame))
          (λ k. absurd (eqb-false n 0 (not-true (eqb n 0) k) z))
          (ok-block r.last r);
    }

-- of these, the test of what is held
pub ok-if-in-bounds : (g : Agreed) (r : Receiver) → in_bounds g r ≡ true → held_ok g r.refusal r.held ≡ true
ok-if-in-bounds g r e = let b = counts g r e in held-ok g r.refusal r.held b.holds b.restart

-- data left: the octet is a data octet
in_frame : (g : Agreed) (r : Receiver) → Bounds g r → 0 < r.left → r.framed ≡ true
in_frame g r b l = decide r.framed (λ f. f) (λ f. absurd (omega (arith, (b.out f).left-0)))

pub steps-data : (g : Agreed) (a : List ℕ) (w : Working) (x : ℕ) → Bounds g w.state → w.state.refusal ≡ 0 → 0 < w.state.left
    → steps_1_to_4 g a w x ≡ step3_data g w x
unfolding steps_1_to_4
steps-data g a w x b n l = simp (eq-eqb _ _ n, in_frame g w.state b l, lt-ltb _ _ l)

-- out of a frame: it is the first octet of one
pub first-octet : (g : Agreed) (a : List ℕ) (w : Working) (x : ℕ) → Bounds g w.state → w.state.framed ≡ false
    → steps_1_to_4 g a w x ≡ step1_first_octet g a w x
unfolding steps_1_to_4
first-octet g a w x b f = simp (eq-eqb _ _ (b.out f).refusal-0, f)

-- ---- a call that isn't refused

-- a receiver of the agreed settings, in bounds, with areas that are long enough
pub record Ready (g : Agreed) (e : ReceiverEnd) : Type 0 where
  pub agrees : agreed e.state.settings ≡ g
  pub valid : valid g ≡ true
  pub bounds : Bounds g e.state
  pub first : most_decoded g ≤ length e.first
  pub second : most_decoded g ≤ length e.second

-- the same of the work area alone
pub record Fit (g : Agreed) (w : Working) : Type 0 where
  pub agrees : agreed w.state.settings ≡ g
  pub bounds : Bounds g w.state
  pub long : most_decoded g ≤ length w.area

module _ (g : Agreed) (e : ReceiverEnd) (z : Ready g e) where
  pub receive-flag : cobs_receive e flag ≡ flagged e (at_flag g e.state (work e).area)
  unfolding cobs_receive
  receive-flag = rw z.agrees

  pub receive_other : (x : ℕ) → (x ≡ flag → ⊥) → cobs_receive e x ≡ record { report = quiet; after = put_back e (steps_1_to_4 g (aside e) (work e) (from_line x)) }
  unfolding cobs_receive
  receive_other x other-x = rw (z.agrees, ne_eqb x flag other-x)

  pub area-long : (b : Bool) → most_decoded g ≤ length (area_of b e)
  area-long b = branch (λ a. most_decoded g ≤ length a) b (λ _. z.second) (λ _. z.first)

  pub fit-work : Fit g (work e)
  fit-work = record { agrees = z.agrees; bounds = z.bounds; long = area-long e.state.turn }

  pub put-back-ready : (w : Working) → Fit g w → Ready g (put_back e w)
  put-back-ready w f =
      record {
        agrees = f.agrees;
        valid = z.valid;
        bounds = f.bounds;
        first = branch (λ a. most_decoded g ≤ length a) e.state.turn (λ _. z.first) (λ _. f.long);
        second = branch (λ a. most_decoded g ≤ length a) e.state.turn (λ _. f.long) (λ _. z.second);
      }

-- ---- each part of the steps leaves the state in bounds and the work area as long as it was

remember-in : (g : Agreed) (n : ℕ) (resumed : Bool) (r : Receiver) → Remembered n → (n ≡ 5 → r.held ≡ None) → Bounds g r → Bounds g (step4_remember n resumed r)
remember-in g n resumed r h i b =
    record {
      deep = b.deep;
      holds = b.holds;
      few = omega arith;
      two = omega arith;
      refusals = λ _. h;
      restart = i;
      out = λ e. true-false e;
      begun = λ _ e. absurd (omega arith);
    }

refuse-in : (g : Agreed) (n : ℕ) (w : Working) → 5 < n → n ≤ 10 → Fit g w → Fit g (step4_refuse n w)
refuse-in g n w h k f =
    record {
      agrees = f.agrees;
      bounds = remember-in g n w.state.resumed w.state (omega arith, inl k) (λ q. absurd (omega arith)) f.bounds;
      long = f.long;
    }

-- in a frame without refusal, where m octets more may be decoded
pub record InFrame (g : Agreed) (m : ℕ) (w : Working) : Type 0 where
  pub agrees : agreed w.state.settings ≡ g
  pub long : most_decoded g ≤ length w.area
  pub deep : w.state.decoded ≤ most_decoded g
  pub holds : HeldOk g w.state.held
  pub few : w.state.left ≤ 207
  pub two : w.state.zeros ≤ 2
  pub framed : w.state.framed ≡ true
  pub clean : w.state.refusal ≡ 0
  pub begun : LastBlockOk w.state.last w.state.resumed w.state.left (w.state.decoded + m)

write-in : (g : Agreed) (xs : List ℕ) (w : Working) → InFrame g (length xs) w → w.state.decoded + length xs ≤ most_decoded g → Fit g (step3_write xs w)
write-in g xs w f room =
    record {
      agrees = f.agrees;
      bounds =
          record {
            deep = room;
            holds = f.holds;
            few = f.few;
            two = f.two;
            refusals = λ some. absurd (some f.clean);
            restart = λ q. absurd (omega (arith, f.clean));
            out = λ e. true-false (sym f.framed ∙ e);
            begun = λ _ _. f.begun;
          };
      long = omega (arith, f.long, length-write w.area w.state.decoded xs (omega (arith, f.long)));
    }

decode-in : (g : Agreed) (xs : List ℕ) (w : Working) → InFrame g (length xs) w → Fit g (step3_decode g xs w)
unfolding step3_decode
decode-in g xs w f =
    branch (Fit g) (ltb (most_decoded g) (w.state.decoded + length xs))
    (λ e.
    record {
      agrees = f.agrees;
      bounds =
          record {
            deep = f.deep;
            holds = f.holds;
            few = omega arith;
            two = omega arith;
            refusals = λ _. (omega arith, inl (omega arith));
            restart = λ q. absurd (omega arith);
            out = λ k. true-false k;
            begun = λ _ k. absurd (omega arith);
          };
      long = f.long;
    })
    (λ e. write-in g xs w f (ltb-false (most_decoded g) (w.state.decoded + length xs) e))

last_on : (b : LastBlock) (resumed : Bool) (n m k l : ℕ) → 0 < k + l → LastBlockOk b resumed n m → LastBlockOk b resumed k l
last_on no_block resumed n m k l h g = g
last_on block_d0 resumed n m k l h g = tt
last_on other_block resumed n m k l h g = h

-- a data octet of a frame without refusal
data-in : (g : Agreed) (w : Working) (x : ℕ) → Fit g w → w.state.framed ≡ true → w.state.refusal ≡ 0 → Fit g (step3_data g w x)
unfolding step3_data
data-in g w x f framed clean =
    let r = w.state in
    let b = f.bounds in
    let begun : LastBlockOk r.last r.resumed r.left r.decoded = b.begun framed clean in
    branch (Fit g) (ltb (most_decoded g) (r.decoded + 1)) (λ _. refuse-in g 10 w (omega arith) (omega arith) f)
    (λ e.
    let room : r.decoded + 1 ≤ most_decoded g = ltb-false (most_decoded g) (r.decoded + 1) e in
    branch (Fit g) (eqb r.left 1)
    (λ _.
    let w₁ = step3_write (x ∷ []) (record { state = with_due 0 0 r; area = w.area }) in
    decode-in g (replicate r.zeros 0) w₁
    (record {
      agrees = f.agrees;
      long = omega (arith, f.long, length-write w.area r.decoded (x ∷ []) (omega (arith, f.long)));
      deep = room;
      holds = b.holds;
      few = omega arith;
      two = omega arith;
      framed = framed;
      clean = clean;
      begun = last_on r.last r.resumed r.left r.decoded 0 _ (omega arith) begun;
    }))
    (λ _.
    write-in g (x ∷ []) (record { state = with_due (r.left - 1) r.zeros r; area = w.area })
    (record {
      agrees = f.agrees;
      long = f.long;
      deep = b.deep;
      holds = b.holds;
      few = omega (arith, b.few);
      two = b.two;
      framed = framed;
      clean = clean;
      begun = last_on r.last r.resumed r.left r.decoded _ _ (omega arith) begun;
    })
    room))

-- a code: a block that begins has data, or zeros that are decoded at once
last_begins : (c : ℕ) (resumed : Bool) (n m : ℕ) → 0 < n + m → LastBlockOk (last_block c) resumed n m
last_begins c resumed n m h = branch (λ b. LastBlockOk b resumed n m) (eqb c 0xD0) (λ _. tt) (λ _. h)

meaning-in : (g : Agreed) (w : Working) (c : ℕ) (m : Meaning) → meaning g.zxe c ≡ m → Fit g w → w.state.refusal ≡ 0 → Fit g (step2_by_meaning g w c m)
unfolding step2_by_meaning
meaning-in g w c (Err NotAgreed) e f clean = refuse-in g 6 w (omega arith) (omega arith) f
meaning-in g w c (Err NoCode) e f clean = refuse-in g 7 w (omega arith) (omega arith) f
meaning-in g w c (Ok entry) e f clean =
    let n = entry.nonzeros in
    let z = entry.zeros in
    let r = w.state in
    let b = f.bounds in
    let row = numbers (read-row g.zxe c n z e) in
    branch (Fit g) (eqb n 0)
    (λ k.
    let size : length {A = ℕ} (replicate z 0) ≡ z = length-replicate z 0 in
    decode-in g (replicate z 0) (record { state = step2_begin_block (last_block c) 0 0 r; area = w.area })
    (record {
      agrees = f.agrees;
      long = f.long;
      deep = b.deep;
      holds = b.holds;
      few = omega arith;
      two = omega arith;
      framed = refl;
      clean = clean;
      begun = last_begins c r.resumed 0 _ (omega (arith, row.covers, eqb-true n 0 k));
    }))
    (λ k.
    let some : n ≡ 0 → ⊥ = eqb-false n 0 k in
    record {
      agrees = f.agrees;
      bounds =
          record {
            deep = b.deep;
            holds = b.holds;
            few = row.nonzeros-most;
            two = row.zeros-few (omega arith);
            refusals = λ q. absurd (q clean);
            restart = λ q. absurd (omega arith);
            out = λ q. true-false q;
            begun = λ _ _. last_begins c r.resumed n _ (omega arith);
          };
      long = f.long;
    })

code_in : (g : Agreed) (w : Working) (c : ℕ) → Fit g w → w.state.refusal ≡ 0 → Fit g (step2_code g w c)
unfolding step2_code
code_in g w c f clean = meaning-in g w c (meaning g.zxe c) refl f clean

-- nothing held is in bounds, whatever was held
let-go-in : (g : Agreed) (r : Receiver) → Bounds g r → Bounds g (let_go r)
let-go-in g r b =
    record {
      deep = b.deep;
      holds = tt;
      few = b.few;
      two = b.two;
      refusals = b.refusals;
      restart = λ _. refl;
      out = λ q. let o = b.out q in record { decoded-0 = o.decoded-0; left-0 = o.left-0; zeros-0 = o.zeros-0; last-0 = o.last-0; resumed-0 = o.resumed-0; refusal-0 = o.refusal-0 };
      begun = b.begun;
    }

-- D1
resume-held-in : (g : Agreed) (a : List ℕ) (h : Held) (r : Receiver) → HeldOk g h → Bounds g r → Bounds g (step1_resume_held g a h r)
unfolding step1_resume_held
resume-held-in g a None r k b = remember-in g 8 true r (omega arith, inl (omega arith)) (λ q. absurd (omega arith)) b
resume-held-in g a (Some h) r k b =
    let n = h.count in
    let i = h.register in
    branch (Bounds g) (eqb (register g.check (take n a)) i)
    (λ _.
    record {
      deep = k.0;
      holds = tt;
      few = omega arith;
      two = omega arith;
      refusals = λ q. absurd (q refl);
      restart = λ _. refl;
      out = λ q. true-false q;
      begun = λ _ _. refl;
    })
    (λ _. remember-in g 21 true (let_go r) (omega arith, inr refl) (λ _. refl) (let-go-in g r b))

settings-up : (g : Agreed) (a : List ℕ) (h : Held) (r : Receiver) → (step1_resume_held g a h r).settings ≡ r.settings
unfolding step1_resume_held
settings-up g a None r = refl
settings-up g a (Some h) r = let n = h.count in
    let k = h.register in
    branch (λ (s : Receiver). s.settings ≡ r.settings) (eqb (register g.check (take n a)) k) (λ _. refl) (λ _. refl)

resume-in : (g : Agreed) (a : List ℕ) (w : Working) → Fit g w → Fit g (record { state = step1_d1 g a w.state; area = w.area })
unfolding step1_d1
resume-in g a w f =
    branch (λ r. Fit g (record { state = r; area = w.area })) g.pre
    (λ _.
    record {
      agrees = ap agreed (settings-up g a w.state.held w.state) ∙ f.agrees;
      bounds = resume-held-in g a w.state.held w.state f.bounds.holds f.bounds;
      long = f.long;
    })
    (λ _.
    record { agrees = f.agrees; bounds = remember-in g 6 true w.state (omega arith, inl (omega arith)) (λ q. absurd (omega arith)) f.bounds; long = f.long })

first-in : (g : Agreed) (a : List ℕ) (w : Working) (x : ℕ) → Fit g w → w.state.refusal ≡ 0 → Fit g (step1_first_octet g a w x)
unfolding step1_first_octet
first-in g a w x f clean =
    branch (Fit g) (eqb x 0xFF)
    (λ _.
    record {
      agrees = f.agrees;
      bounds = remember-in g 5 w.state.resumed (let_go w.state) (omega arith, inl (omega arith)) (λ _. refl) (let-go-in g w.state f.bounds);
      long = f.long;
    })
    (λ _. branch (Fit g) (eqb x 0xD1) (λ _. resume-in g a w f) (λ _. code_in g w x f clean))

pub steps-in : (g : Agreed) (a : List ℕ) (w : Working) (x : ℕ) → Fit g w → Fit g (steps_1_to_4 g a w x)
unfolding steps_1_to_4
steps-in g a w x f =
    branch (Fit g) (not (eqb w.state.refusal 0)) (λ _. f)
    (λ e.
    let clean : w.state.refusal ≡ 0 = eqb-true w.state.refusal 0 (not-false (eqb w.state.refusal 0) e) in
    branch (Fit g) (not w.state.framed) (λ _. first-in g a w x f clean)
    (λ k. branch (Fit g) (ltb 0 w.state.left)
    (λ _. data-in g w x f (not-false w.state.framed k) clean)
    (λ _. code_in g w x f clean)))

-- ---- a flag

-- A report of a frame: no call is refused by it.
abbrev pub OfFrame : Answer → Type 0
OfFrame done = Unit {0}
OfFrame (octet x) = Unit {0}
OfFrame idle = Unit {0}
OfFrame quiet = Unit {0}
OfFrame (packet second n) = Unit {0}
OfFrame (held n replaced) = Unit {0}
OfFrame (refused n) = 5 ≤ n

pub record EndsWell (g : Agreed) (t : Ended) : Type 0 where
  pub agrees : agreed t.state.settings ≡ g
  pub bounds : Bounds g t.state
  pub out : t.state.framed ≡ false
  pub tells : OfFrame t.report

pub fresh_in : (g : Agreed) (t : Settings) (m : Mode) (map : ℕ) (second : Bool) (h : Held) → HeldOk g h → Bounds g (fresh t m map second h)
fresh_in g t m map second h k =
    record {
      deep = omega arith;
      holds = k;
      few = omega arith;
      two = omega arith;
      refusals = λ q. absurd (q refl);
      restart = λ q. absurd (omega arith);
      out = λ _. record { decoded-0 = refl; left-0 = refl; zeros-0 = refl; last-0 = refl; resumed-0 = refl; refusal-0 = refl };
      begun = λ q. false-true q;
    }

-- the state behind a frame that is delivered or refused: what is held is let go, or stays
pub by_end : (P : Receiver → Type 0) (r : Receiver)
    → (r.resumed ≡ true → P (out_of_frame r r.turn None))
    → (r.resumed ≡ false → P (out_of_frame r r.turn r.held)) → P (frame_over (cond r.resumed (let_go r) r))
by_end P r f h = branch (λ (s : Receiver). P (frame_over s)) r.resumed f h

module _ (g : Agreed) (r : Receiver) (ag : agreed r.settings ≡ g) (b : Bounds g r) where
  end-frame-in : (a : Answer) → OfFrame a → EndsWell g (step5_end a r)
  end-frame-in a t =
      by_end (λ (s : Receiver). EndsWell g (record { report = a; state = s })) r
      (λ _. record { agrees = ag; bounds = fresh_in g _ _ _ _ _ tt; out = refl; tells = t })
      (λ _. record { agrees = ag; bounds = fresh_in g _ _ _ _ _ b.holds; out = refl; tells = t })

  -- the register keeps to its width
  register-fits : (s : List ℕ) → register g.check s ≤ ones g.check
  register-fits s =
      let sound = subst (λ (h : Agreed). Sound h.check) ag (sound-check r.settings) in
      let below : register g.check s < 2 ^ width g.check = register-below g.check sound s in
      omega arith

  hold-in : (area : List ℕ) → EndsWell g (step5_hold g r area)
  hold-in area = record { agrees = ag; bounds = fresh_in g _ _ _ _ _ (b.deep, register-fits (take r.decoded area)); out = refl; tells = tt }

  without-phantom-in : (area : List ℕ) (n : ℕ) → EndsWell g (step5_without_phantom g r area n)
  unfolding step5_without_phantom
  without-phantom-in area n =
      branch (EndsWell g) (ltb n (least_frame g)) (λ _. end-frame-in (refused 13) (omega arith))
      (λ _. branch (EndsWell g) (good g.check (take n area)) (λ _. end-frame-in (packet r.turn (n - g.check.fcs_length)) tt)
      (λ _. end-frame-in (refused 14) (omega arith)))

  step5-in : (area : List ℕ) → EndsWell g (step5_flag g r area)
  unfolding step5_flag
  step5-in area =
      branch (EndsWell g) (not (eqb r.refusal 0))
      (λ e. end-frame-in (refused r.refusal) (b.refusals (eqb-false r.refusal 0 (not-true (eqb r.refusal 0) e))).0)
      (λ _. branch (EndsWell g) (is_no_block r.last) (λ _. end-frame-in (refused 9) (omega arith))
      (λ _. branch (EndsWell g) (ltb 0 r.left)
      (λ _. branch (EndsWell g) g.pre (λ _. hold-in area) (λ _. end-frame-in (refused 11) (omega arith)))
      (λ _. branch (EndsWell g) (is_d0 r.last) (λ _. end-frame-in (refused 12) (omega arith)) (λ _. without-phantom-in area (r.decoded - 1)))))

  flag-in : (area : List ℕ) → EndsWell g (at_flag g r area)
  unfolding at_flag
  flag-in area =
      branch (EndsWell g) r.framed (λ _. step5-in area) (λ e. record { agrees = ag; bounds = b; out = e; tells = tt })

-- ---- the call, at a flag and at any other octet

pub record AfterFlag (g : Agreed) (h : Receive) : Type 0 where
  pub ready : Ready g h.after
  pub out : h.after.state.framed ≡ false
  pub tells : OfFrame h.report

pub flag-ends : (g : Agreed) (e : ReceiverEnd) → Ready g e → AfterFlag g (cobs_receive e flag)
flag-ends g e z =
    let t = flag-in g e.state z.agrees z.bounds (work e).area in
    rw (receive-flag g e z)
    (record {
      ready = record { agrees = t.agrees; valid = z.valid; bounds = t.bounds; first = z.first; second = z.second };
      out = t.out;
      tells = t.tells;
    })

pub record AfterOctet (g : Agreed) (h : Receive) : Type 0 where
  pub ready : Ready g h.after
  pub silent : h.report ≡ quiet

pub other-passes : (g : Agreed) (e : ReceiverEnd) (x : ℕ) → (x ≡ flag → ⊥) → Ready g e → AfterOctet g (cobs_receive e x)
other-passes g e x other-x z =
    rw (receive_other g e z x other-x)
    (record { ready = put-back-ready g e z _ (steps-in g (aside e) (work e) (from_line x) (fit-work g e z)); silent = refl })

pub receive-ready : (g : Agreed) (e : ReceiverEnd) (x : ℕ) → Ready g e → Ready g (cobs_receive e x).after
receive-ready g e x z =
    decide (eqb x flag) (λ k. rw (eqb-true x flag k) (flag-ends g e z).ready) (λ k. (other-passes g e x (eqb-false x flag k) z).ready)
