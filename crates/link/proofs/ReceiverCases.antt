-- The receiver's steps in some of their cases, from the tests that lead to them.
use mathlib.Core.Path.{◌≡◌}
use mathlib.Core.Bool.{Bool, true, false, ◌||◌}
use mathlib.Core.List.{List, [], ◌∷◌}
use Prim.Native.Nat.{ℕ, ◌+◌, ◌-◌, ◌≤◌, ◌<◌}
use native.Mathlib.Omega.{arith}
use borrow.Author.Tests.{le-ltb, ne_eqb}
use lib.Dec.{ltb}
use lib.ListN.{length}
use Rattle.cobs.specs.CodeBlocks.{flag}
use Rattle.cobs.proofs.Tests.{decide}
use Rattle.link.specs.Agreed.{Agreed, agreed, valid, most_decoded}
use Rattle.link.specs.Answers.{quiet, refused}
use Rattle.link.specs.Receiver.{Receiver, Working, ReceiverEnd, with_due, in_bounds, step3_write, step3_data, step5_end, step5_flag, plain_octet, receive_plain, receive}

pub inner-octet : (g : Agreed) (w : Working) (x : ℕ) → w.state.decoded < most_decoded g → (w.state.left ≡ 1 → ⊥)
    → step3_data g w x ≡ step3_write (x ∷ []) (record { state = with_due (w.state.left - 1) w.state.zeros w.state; area = w.area })
unfolding step3_data
inner-octet g w x h l = let t : w.state.decoded + 1 ≤ most_decoded g = omega arith in simp (le-ltb _ _ t, ne_eqb _ _ l)

pub remembered : (g : Agreed) (r : Receiver) (area : List ℕ) → (r.refusal ≡ 0 → ⊥) → step5_flag g r area ≡ step5_end (refused r.refusal) r
unfolding step5_flag
remembered g r area n = simp (ne_eqb _ _ n)

-- ---- the call

module _ (e : ReceiverEnd) (x : ℕ) where
  abbrev settled : Agreed
  settled = agreed e.state.settings

  abbrev pub short : Bool
  short = ltb (length e.first) (most_decoded settled) || ltb (length e.second) (most_decoded settled)

  pub not_valid : valid settled ≡ false → receive e x ≡ record { report = refused 3; after = e }
  unfolding receive
  not_valid v = simp v

  pub too_short : valid settled ≡ true → short ≡ true → receive e x ≡ record { report = refused 2; after = e }
  unfolding receive
  too_short v s = simp (v, s)

  module _ (v : valid settled ≡ true) (s : short ≡ false) where
    pub out-of-bounds : in_bounds settled e.state ≡ false → receive e x ≡ record { report = refused 3; after = e }
    unfolding receive
    out-of-bounds b = simp (v, s, b)

  -- a refusal is remembered in plain PPP
  pub plain-skipped : (x ≡ flag → ⊥) → (e.state.refusal ≡ 0 → ⊥) → receive_plain settled e x ≡ record { report = quiet; after = e }
  unfolding plain_octet
  plain-skipped h n = decide e.state.turn (λ t. simp (ne_eqb _ _ h, ne_eqb _ _ n, t)) (λ t. simp (ne_eqb _ _ h, ne_eqb _ _ n, t))
