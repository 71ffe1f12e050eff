-- The whole receiver by itself, whatever is read: on areas that are long enough no octet is refused, each leaves the state in bounds, all but
-- flags are Quiet, and after a flag the receiver is out of a frame.
use mathlib.Core.Path.{◌≡◌, refl, sym, ap, subst, ◌∙◌}
use mathlib.Core.Bool.{Bool, true, false, not, ◌&&◌, ◌||◌}
use mathlib.Core.List.{List, [], ◌∷◌}
use mathlib.Core.Logic.{inl}
use Prim.Native.Nat.{ℕ, ◌-◌, ◌≤◌}
use native.Mathlib.Omega.{arith}
use borrow.Author.Tests.{eqb-true, eqb-false, eq-eqb, not-true}
use lib.Dec.{ltb, eqb}
use lib.ListN.{length, take}
use Rattle.std.specs.Prelude.{None}
use Rattle.fcs.specs.CheckSequence.{good}
use Rattle.cobs.specs.CodeBlocks.{flag, from_line}
use Rattle.cobs.proofs.Tests.{branch, decide, and_left, and_right}
use Rattle.cobs.proofs.Exchange.{from-other}
use Rattle.link.specs.Agreed.{Agreed, agreed, valid, least_frame, most_decoded}
use Rattle.link.specs.Answers.{Answer, quiet, packet, refused}
use Rattle.link.specs.Receiver.{Held, Mode, kept_off, cobs, plain, escape_open, Receiver, Working, ReceiverEnd, Receive, Ended, out_of_frame, escape_over, is_off, is_plain, is_escaped, in_bounds, no_block_open, step5_end, step5_without_phantom, steps_1_to_4, plain_octet, begin_plain, at_plain_flag, begins_plain, work, aside, put_back, quietly, receive_plain, receive}
use Rattle.link.specs.ReceiverParts.{ReceiverReady}
use Rattle.link.proofs.Tests.{or_cases, true-false, not-below}
use Rattle.link.proofs.Agreed.{limit-at-least}
use Rattle.link.proofs.Write.{length-write}
use Rattle.link.proofs.Cobs.{cobs_receive, in-plain, begins, in-cobs}
use Rattle.link.proofs.ReceiverBounds.{HeldOk, Ready, Fit, bounds, counts, in_bounds_lem, by_end, OfFrame, fit-work, receive-flag, receive_other, flag-ends, other-passes}
use Rattle.link.proofs.ReceiverCases.{not_valid, too_short, out-of-bounds}
use Rattle.link.proofs.Remembers.{octet-so, octet-agrees, skips-octet, flag-agrees}
use Rattle.link.proofs.PlainCases.{PlainBounds, plain-bounds, plain-in-bounds, by-octet, by-begin, by-plain-flag}

-- ---- while plain PPP is read

-- in bounds, and the work area long enough
pub record PlainFit (g : Agreed) (w : Working) : Type 0 where
  pub agrees : agreed w.state.settings ≡ g
  pub bounds : PlainBounds g w.state
  pub long : most_decoded g ≤ length w.area

pub plain-octet-in : (g : Agreed) (w : Working) (x : ℕ) → PlainFit g w → PlainFit g (plain_octet g w x)
plain-octet-in g w x f =
    let b = f.bounds in
    by-octet g (PlainFit g) w x f
    (λ _.
    record {
      agrees = f.agrees;
      bounds =
          record {
            deep = b.deep;
            holds = b.holds;
            refusals = λ q. absurd (q refl);
            not-5 = λ q. omega arith;
            left-0 = b.left-0;
            zeros-0 = b.zeros-0;
            last-0 = refl;
            out = λ q. true-false q;
            escape = λ _. refl;
            reads = refl;
          };
      long = f.long;
    })
    (λ _ _.
    record {
      agrees = f.agrees;
      bounds =
          record {
            deep = b.deep;
            holds = b.holds;
            refusals = λ _. (omega arith, inl (omega arith));
            not-5 = λ q. omega arith;
            left-0 = refl;
            zeros-0 = refl;
            last-0 = refl;
            out = λ q. true-false q;
            escape = λ _. refl;
            reads = refl;
          };
      long = f.long;
    })
    (λ y _ room.
    record {
      agrees = f.agrees;
      bounds =
          record {
            deep = omega arith;
            holds = b.holds;
            refusals = λ q. absurd (q refl);
            not-5 = λ q. omega arith;
            left-0 = b.left-0;
            zeros-0 = b.zeros-0;
            last-0 = refl;
            out = λ q. true-false q;
            escape = λ _. refl;
            reads = refl;
          };
      long = omega (arith, f.long, length-write w.area w.state.decoded (y ∷ []) (omega (arith, f.long)));
    })

-- it begins out of a frame
pub begin-in : (g : Agreed) (w : Working) → valid g ≡ true → Fit g w → w.state.framed ≡ false → PlainFit g (begin_plain g w)
begin-in g w v f out =
    let o = f.bounds.out out in
    by-begin g (PlainFit g) w
    (λ full. absurd (omega (arith, o.decoded-0, limit-at-least g v)))
    (λ room.
    record {
      agrees = f.agrees;
      bounds =
          record {
            deep = omega arith;
            holds = tt;
            refusals = λ q. absurd (q refl);
            not-5 = λ q. omega arith;
            left-0 = o.left-0;
            zeros-0 = o.zeros-0;
            last-0 = refl;
            out = λ q. true-false q;
            escape = λ _. refl;
            reads = refl;
          };
      long = omega (arith, f.long, length-write w.area w.state.decoded (0xFF ∷ []) (omega (arith, f.long)));
    })

-- ---- its flags

over_plain : (m : Mode) → is_plain m ≡ true → is_plain (escape_over m) ≡ true
over_plain kept_off p = p
over_plain cobs p = p
over_plain plain p = refl
over_plain escape_open p = refl

over-not : (m : Mode) → is_escaped (escape_over m) ≡ false
over-not kept_off = refl
over-not cobs = refl
over-not plain = refl
over-not escape_open = refl

pub record PlainEnds (g : Agreed) (t : Ended) : Type 0 where
  pub agrees : agreed t.state.settings ≡ g
  pub bounds : PlainBounds g t.state
  pub out : t.state.framed ≡ false
  pub tells : OfFrame t.report

module _ (g : Agreed) (r : Receiver) (ag : agreed r.settings ≡ g) (b : PlainBounds g r) where
  out-in : (turn : Bool) (h : Held) → HeldOk g h → PlainBounds g (out_of_frame r turn h)
  out-in turn h k =
      record {
        deep = omega arith;
        holds = k;
        refusals = λ q. absurd (q refl);
        not-5 = λ q. omega arith;
        left-0 = refl;
        zeros-0 = refl;
        last-0 = refl;
        out = λ _. record { decoded-0 = refl; left-0 = refl; zeros-0 = refl; last-0 = refl; resumed-0 = refl; refusal-0 = refl };
        escape = λ q. true-false (sym q ∙ over-not r.mode);
        reads = over_plain r.mode b.reads;
      }

  end-in : (a : Answer) → OfFrame a → PlainEnds g (step5_end a r)
  end-in a t =
      by_end (λ (s : Receiver). PlainEnds g (record { report = a; state = s })) r
      (λ _. record { agrees = ag; bounds = out-in r.turn None tt; out = refl; tells = t })
      (λ _. record { agrees = ag; bounds = out-in r.turn r.held b.holds; out = refl; tells = t })

  whole_in : (area : List ℕ) (n : ℕ) → PlainEnds g (step5_without_phantom g r area n)
  unfolding step5_without_phantom
  whole_in area n =
      branch (PlainEnds g) (ltb n (least_frame g)) (λ _. end-in (refused 13) (omega arith))
      (λ _. branch (PlainEnds g) (good g.check (take n area)) (λ _. end-in (packet r.turn (n - g.check.fcs_length)) tt)
      (λ _. end-in (refused 14) (omega arith)))

  pub plain-flag-in : (area : List ℕ) → PlainEnds g (at_plain_flag g r area)
  plain-flag-in area =
      by-plain-flag g (PlainEnds g) r area
      (λ f. record { agrees = ag; bounds = b; out = f; tells = tt })
      (λ _ some. end-in (refused r.refusal) (b.refusals some).0)
      (λ _. end-in (refused 10) (omega arith))
      (λ _. end-in (refused 18) (omega arith))
      (λ _ _. whole_in area r.decoded)

-- ---- no call is refused, before or after

ready-from : (g : Agreed) (e : ReceiverEnd) → agreed e.state.settings ≡ g → valid g ≡ true → in_bounds g e.state ≡ true
    → most_decoded g ≤ length e.first → most_decoded g ≤ length e.second → ReceiverReady e
ready-from g e ag v b h k = record { valid = rw ag v; first = rw ag h; second = rw ag k; bounds = rw ag b }

pub ready_of : (e : ReceiverEnd) → ReceiverReady e → is_plain e.state.mode ≡ false → Ready (agreed e.state.settings) e
ready_of e a p = record { agrees = refl; valid = a.valid; bounds = bounds _ _ p a.bounds; first = a.first; second = a.second }

pub receiver-ready : (g : Agreed) (e : ReceiverEnd) → is_plain e.state.mode ≡ false → (e.state.refusal ≡ 5 → is_off e.state.mode ≡ true) → Ready g e → ReceiverReady e
receiver-ready g e p five z = ready-from g e z.agrees z.valid (in_bounds_lem g e.state p five z.bounds) z.first z.second

-- 5 is remembered only with plain reading off
pub five-off : (g : Agreed) (r : Receiver) → in_bounds g r ≡ true → r.refusal ≡ 5 → is_off r.mode ≡ true
five-off g r b q =
    let five = not (eqb r.refusal 5) || is_off r.mode in
    let block = not (is_plain r.mode) || no_block_open r in
    or_cases (not (eqb r.refusal 5)) (is_off r.mode)
    (and_left five block (and_left (five && block) (not (is_escaped r.mode) || r.framed) (counts g r b).mode))
    (λ k. absurd (eqb-false _ _ (not-true _ k) q)) (λ k. k)

-- a receiver that plain PPP is read by, its work area put back
put-back-fits : (g : Agreed) (e : ReceiverEnd) → valid g ≡ true → most_decoded g ≤ length e.first → most_decoded g ≤ length e.second
    → (w : Working) → PlainFit g w → ReceiverReady (put_back e w)
put-back-fits g e v h k w f =
    ready-from g (put_back e w) f.agrees v (plain-in-bounds g w.state f.bounds)
    (branch (λ a. most_decoded g ≤ length a) e.state.turn (λ _. h) (λ _. f.long))
    (branch (λ a. most_decoded g ≤ length a) e.state.turn (λ _. f.long) (λ _. k))

-- what a call that isn't refused comes to
pub record Passes (e : ReceiverEnd) (x : ℕ) (h : Receive) : Type 0 where
  pub ready : ReceiverReady h.after
  pub silent : (x ≡ flag → ⊥) → h.report ≡ quiet
  pub out : x ≡ flag → h.after.state.framed ≡ false
  pub tells : OfFrame h.report

module _ (e : ReceiverEnd) (x : ℕ) (a : ReceiverReady e) where
  abbrev g : Agreed
  g = agreed e.state.settings

  pub fit-plain : is_plain e.state.mode ≡ true → PlainFit g (work e)
  fit-plain p =
      record {
        agrees = refl;
        bounds = plain-bounds g e.state p a.bounds;
        long = branch (λ l. most_decoded g ≤ length l) e.state.turn (λ _. a.second) (λ _. a.first);
      }

  plain_passes : is_plain e.state.mode ≡ true → Passes e x (receive_plain g e x)
  plain_passes p =
      branch (Passes e x) (eqb x flag)
      (λ q.
      let t = plain-flag-in g e.state refl (fit-plain p).bounds (work e).area in
      record {
        ready = ready-from g _ t.agrees a.valid (plain-in-bounds g _ t.bounds) a.first a.second;
        silent = λ other. absurd (other (eqb-true x flag q));
        out = λ _. t.out;
        tells = t.tells;
      })
      (λ q.
      record {
        ready = put-back-fits g e a.valid a.first a.second _ (plain-octet-in g (work e) x (fit-plain p));
        silent = λ _. refl;
        out = λ is. absurd (eqb-false x flag q is);
        tells = tt;
      })

  module _ (p : is_plain e.state.mode ≡ false) where
    abbrev z : Ready g e
    z = ready_of e a p

    begin-passes : begins_plain e.state x ≡ true → Passes e x (quietly e (begin_plain g (work e)))
    begin-passes b =
        let framed-not = not-true e.state.framed (and_right (not (is_off e.state.mode)) (not e.state.framed) (and_left (not (is_off e.state.mode) && not e.state.framed) (eqb x 0xFF) b)) in
        let is : x ≡ 0xFF = eqb-true x 0xFF (and_right (not (is_off e.state.mode) && not e.state.framed) (eqb x 0xFF) b) in
        record {
          ready = put-back-fits g e a.valid a.first a.second _ (begin-in g (work e) a.valid (fit-work g e z) framed-not);
          silent = λ _. refl;
          out = λ q. absurd (omega arith);
          tells = tt;
        }

    -- an FF that begins a frame begins plain reading, unless that is off
    not-begun : begins_plain e.state x ≡ false → e.state.framed ≡ false → x ≡ 0xFF → is_off e.state.mode ≡ true
    not-begun b out is = decide (is_off e.state.mode) (λ o. o) (λ o. true-false (sym (rw (o, out, eq-eqb x 0xFF is)) ∙ b))

    cobs-passes : begins_plain e.state x ≡ false → Passes e x (cobs_receive e x)
    cobs-passes b =
        decide (eqb x flag)
        (λ q.
        let is = eqb-true x flag q in
        let t = flag-ends g e z in
        let k = flag-agrees g e.state (work e).area p in
        let m = ap (λ (h : Receive). h.after.state.mode) (receive-flag g e z) ∙ k.1 in
        subst (λ (y : ℕ). Passes e y (cobs_receive e y)) (sym is)
        (record {
          ready =
              receiver-ready g (cobs_receive e flag).after (ap is_plain m ∙ p) (λ five. absurd (omega (arith, (t.ready.bounds.out t.out).refusal-0))) t.ready;
          silent = λ other. absurd (other refl);
          out = λ _. t.out;
          tells = t.tells;
        }))
        (λ q.
        let other = eqb-false x flag q in
        let t = other-passes g e x other z in
        let is = receive_other g e z x other in
        let m = ap (λ (h : Receive). h.after.state.mode) is ∙ (octet-agrees g (aside e) (work e) (from_line x)).1 in
        record {
          ready = receiver-ready g (cobs_receive e x).after (ap is_plain m ∙ p) (λ five. ap is_off m ∙ off other (sym (ap (λ (h : Receive). h.after.state.refusal) is) ∙ five)) t.ready;
          silent = λ _. t.silent;
          out = λ k. absurd (other k);
          tells = subst OfFrame (sym t.silent) tt;
        })
      where
        off : (x ≡ flag → ⊥) → (steps_1_to_4 g (aside e) (work e) (from_line x)).state.refusal ≡ 5 → is_off e.state.mode ≡ true
        off other q =
            decide (eqb e.state.refusal 0)
            (λ c. (octet-so (is_off e.state.mode ≡ true) g (aside e) (work e) (eqb-true _ _ c) (from_line x) (λ out is. not-begun b out (from-other x 0xFF is (λ k. omega arith)))).restarts q)
            (λ c. five-off g e.state a.bounds (sym (ap (λ (v : Working). v.state.refusal) (skips-octet g (aside e) (work e) (from_line x) (eqb-false _ _ c))) ∙ q))

  pub passes : Passes e x (receive e x)
  passes =
      decide (is_plain e.state.mode)
      (λ p. rw (in-plain e x a p) (plain_passes p))
      (λ p. decide (begins_plain e.state x) (λ b. rw (begins e x a p b) (begin-passes p b)) (λ b. rw (in-cobs e x a p b) (cobs-passes p b)))

-- what holds of a refused call, and of every other, holds of the call
pub by-ready : (P : Receive → Type 0) (e : ReceiverEnd) (x : ℕ) → ((n : ℕ) → 2 ≤ n → n ≤ 3 → P (record { report = refused n; after = e })) → (ReceiverReady e → P (receive e x))
    → P (receive e x)
by-ready P e x refuse go =
    let g = agreed e.state.settings in
    let most = most_decoded g in
    decide (valid g)
    (λ v. decide (ltb (length e.first) most || ltb (length e.second) most) (λ s. rw (too_short e x v s) (refuse 2 (omega arith) (omega arith)))
    (λ s. decide (in_bounds g e.state)
    (λ b. let long = not-below (length e.first) most (length e.second) most s in go (record { valid = v; first = long.0; second = long.1; bounds = b }))
    (λ b. rw (out-of-bounds e x v s b) (refuse 3 (omega arith) (omega arith)))))
    (λ v. rw (not_valid e x v) (refuse 3 (omega arith) (omega arith)))
