-- A run in which COBS is read is a run of document 01's receiver: with plain reading off, and with it on as long as no frame begins FF.
use mathlib.Core.Path.{◌≡◌, refl, sym, ap, subst, ◌∙◌}
use mathlib.Core.Bool.{Bool, true, false, not, ◌&&◌}
use mathlib.Core.List.{List, [], ◌∷◌}
use Prim.Native.Nat.{ℕ}
use borrow.Author.Tests.{eqb-true, eqb-false}
use lib.Dec.{eqb}
use Rattle.cobs.specs.CodeBlocks.{flag, from_line}
use Rattle.cobs.proofs.Tests.{decide}
use Rattle.link.specs.Agreed.{Agreed, agreed}
use Rattle.link.specs.Receiver.{kept_off, ReceiverEnd, Receive, Working, is_off, is_plain, begins_plain, work, aside, receive}
use Rattle.link.specs.ReceiverParts.{ReceiverReady}
use Rattle.link.specs.Runs.{receives, received}
use Rattle.link.specs.Demands.{frame_began_ff}
use Rattle.link.proofs.Tests.{or_left, or_right, true-false}
use Rattle.link.proofs.Cobs.{cobs_receive, cobs_receives, cobs_received, in-cobs}
use Rattle.link.proofs.ReceiverBounds.{receive-flag, receive_other, flag-ends}
use Rattle.link.proofs.Remembers.{octet-so, octet-agrees, skips-octet, flag-agrees}
use Rattle.link.proofs.Whole.{ready_of, passes}
use Rattle.link.proofs.Stays.{flag-begins}

-- ---- one call

module _ (e : ReceiverEnd) (x : ℕ) (a : ReceiverReady e) (p : is_plain e.state.mode ≡ false) where
  abbrev g : Agreed
  g = agreed e.state.settings

  pub cobs-mode : (cobs_receive e x).after.state.mode ≡ e.state.mode
  cobs-mode =
      let z = ready_of e a p in
      decide (eqb x flag)
      (λ q. ap (λ (y : ℕ). (cobs_receive e y).after.state.mode) (eqb-true x flag q)
      ∙ (ap (λ (h : Receive). h.after.state.mode) (receive-flag g e z) ∙ (flag-agrees g e.state (work e).area p).1))
      (λ q. ap (λ (h : Receive). h.after.state.mode) (receive_other g e z x (eqb-false x flag q)) ∙ (octet-agrees g (aside e) (work e) (from_line x)).1)

  -- every octet but a flag is of a frame
  octet-framed : (x ≡ flag → ⊥) → (cobs_receive e x).after.state.framed ≡ true
  octet-framed other =
      let z = ready_of e a p in
      ap (λ (h : Receive). h.after.state.framed) (receive_other g e z x other)
      ∙ decide (eqb e.state.refusal 0)
      (λ c. (octet-so (Unit {0}) g (aside e) (work e) (eqb-true _ _ c) (from_line x) (λ _ _. tt)).framed)
      (λ c.
      ap (λ (w : Working). w.state.framed) (skips-octet g (aside e) (work e) (from_line x) (eqb-false _ _ c))
      ∙ decide e.state.framed (λ f. f) (λ f. absurd (eqb-false _ _ c (z.bounds.out f).refusal-0)))

  cobs-framed : not (cobs_receive e x).after.state.framed ≡ eqb x flag
  cobs-framed =
      decide (eqb x flag)
      (λ q. ap not (ap (λ (y : ℕ). (cobs_receive e y).after.state.framed) (eqb-true x flag q) ∙ (flag-ends g e (ready_of e a p)).out) ∙ sym q)
      (λ q. ap not (octet-framed (eqb-false x flag q)) ∙ sym q)

-- ---- a run

pub record AsCobs (e : ReceiverEnd) (xs : List ℕ) : Type 0 where
  pub calls : receives e xs ≡ cobs_receives e xs
  pub after : received e xs ≡ cobs_received e xs
  pub ready : ReceiverReady (received e xs)
  pub mode : (received e xs).state.mode ≡ e.state.mode

pub as-cobs : (xs : List ℕ) (e : ReceiverEnd) → ReceiverReady e → is_plain e.state.mode ≡ false
    → (is_off e.state.mode ≡ false → frame_began_ff (not e.state.framed) xs ≡ false) → AsCobs e xs
unfolding receives received cobs_receives cobs_received
as-cobs [] e a p h = record { calls = refl; after = refl; ready = a; mode = refl }
as-cobs (x ∷ xs) e a p h =
    let first = not e.state.framed && eqb x 0xFF in
    let none : begins_plain e.state x ≡ false =
    decide (is_off e.state.mode) (λ o. rw o) (λ o. rw o (or_left first (frame_began_ff (eqb x flag) xs) (h o))) in
    let is = in-cobs e x a p none in
    let m = cobs-mode e x a p in
    let k = as-cobs xs (cobs_receive e x).after (subst (λ (r : Receive). ReceiverReady r.after) is (passes e x a).ready) (ap is_plain m ∙ p)
    (λ o. ap (λ (b : Bool). frame_began_ff b xs) (cobs-framed e x a p) ∙ or_right first (frame_began_ff (eqb x flag) xs) (h (sym (ap is_off m) ∙ o))) in
    record {
      calls = ap (λ (r : Receive). r ∷ receives r.after xs) is ∙ ap (λ (hs : List Receive). cobs_receive e x ∷ hs) k.calls;
      after = ap (λ (r : Receive). received r.after xs) is ∙ k.after;
      ready = subst (λ (r : Receive). ReceiverReady (received r.after xs)) (sym is) k.ready;
      mode = ap (λ (r : Receive). (received r.after xs).state.mode) is ∙ (k.mode ∙ m);
    }

-- with plain reading off, up to and with a flag
pub off-flag : (xs : List ℕ) (e : ReceiverEnd) → ReceiverReady e → e.state.mode ≡ kept_off → receive (received e xs) flag ≡ cobs_receive (cobs_received e xs) flag
off-flag xs e a off =
    let c = as-cobs xs e a (ap is_plain off) (λ on. true-false (sym (ap is_off off) ∙ on)) in
    in-cobs (received e xs) flag c.ready (ap is_plain (c.mode ∙ off)) (flag-begins (received e xs).state) ∙ ap (λ (d : ReceiverEnd). cobs_receive d flag) c.after
