-- A stretch of data octets: while a lane on the line has more than one left in its block, and nothing breaks it off, each call sends the next.
use mathlib.Core.Path.{◌≡◌, refl, sym, subst, ap, ◌∙◌}
use mathlib.Core.Bool.{false, not, ◌||◌}
use mathlib.Core.List.{List}
use mathlib.Core.Option.{none}
use Prim.Native.Nat.{ℕ, suc, ◌+◌, ◌-◌, ◌≤◌, ◌<◌}
use native.Mathlib.Omega.{arith}
use borrow.Author.Tests.{ne_eqb, not-false}
use lib.Dec.{ltb, eqb}
use lib.ListN.{length, get_or}
use Rattle.std.specs.Prelude.{Some}
use Rattle.cobs.specs.CodeBlocks.{flag, to_line}
use Rattle.cobs.proofs.Exchange.{no_flag}
use Rattle.cobs.proofs.Tests.{branch}
use Rattle.link.specs.Agreed.{agreed, largest_frame, most_decoded, valid}
use Rattle.link.specs.Answers.{octet}
use Rattle.link.specs.Sender.{Lane, low, high, Sender, SenderEnd, Step, Next, lane_area, lane_state, in_bounds, with_block, position_up, step5_data, out_answer, next, seen}
use Rattle.link.specs.SenderParts.{SenderReady}
use Rattle.link.specs.Runs.{after_next}
use Rattle.link.proofs.D as D
use Rattle.link.proofs.Tests.{not-below, none-short}
use Rattle.link.proofs.Progress.{ready_on}
use Rattle.link.proofs.sender.Bounds.{low-on, high-on, low-sends, high-sends}

-- ---- a call that is answered by an octet was not refused

ready-before : (e : SenderEnd) (x : ℕ) → octet x ≡ out_answer (next e).out → SenderReady e
unfolding next
ready-before e x =
    let s = e.state in
    let m = largest_frame (agreed s.settings) in
    let P : Step → Type 0 = λ st. octet x ≡ out_answer st.out → SenderReady e in
    branch P (not (valid (agreed s.settings))) (λ _ q. absurd (let z : ◌≡◌ {A = ℕ} 0 1 = cc in omega arith))
    (λ v. branch P (ltb (length e.low) m || ltb (length e.high) m) (λ _ q. absurd (let z : ◌≡◌ {A = ℕ} 0 1 = cc in omega arith))
    (λ k. branch P (not (in_bounds (agreed s.settings) s)) (λ _ q. absurd (let z : ◌≡◌ {A = ℕ} 0 1 = cc in omega arith))
    (λ i q.
    let long = not-below (length e.low) m (length e.high) m k in
    record { valid = not-false (valid (agreed s.settings)) v; low = long.0; high = long.1; bounds = not-false (in_bounds (agreed s.settings) s) i })))

-- and the state after it is in bounds again
pub octet-ready : (e : SenderEnd) (x : ℕ) (t : Sender) → record { answer = octet x; state = t } ≡ seen (next e) → SenderReady (record { state = t; low = e.low; high = e.high })
unfolding after_next
octet-ready e x t p =
    subst (λ (u : Sender). SenderReady (record { state = u; low = e.low; high = e.high })) (sym (ap (λ (h : Next). h.state) p))
    (ready_on (record { end = e; lanes = record { low = none; high = none } }) (ready-before e x (ap (λ (h : Next). h.answer) p)))

-- ---- the stretch

-- n octets of a lane's block are sent, and more are left
abbrev pub sent : ℕ → Lane → Sender → Sender
sent n l s = with_block (s.left - n) s.zeros (position_up n l s)

-- the lane is on the line and has more than n data octets left; a low one is alone
pub record Stretch (l : Lane) (n : ℕ) (e : SenderEnd) : Type 0 where
  pub ready : SenderReady e
  pub on : e.state.on ≡ Some l
  pub more : n ≤ e.state.left - 1
  pub alone : l ≡ low → e.state.high.length ≡ 0

module _ (n : ℕ) (e : SenderEnd) where
  abbrev s : Sender
  s = e.state

  data-sent : (l : Lane) (d a : List ℕ) → 1 < s.left → get_or d (lane_state l s).position 0 ≡ get_or a (lane_state l s).position 0
      → seen (step5_data l s d) ≡ record { answer = octet (to_line (get_or a (lane_state l s).position 0)); state = sent 1 l s }
  unfolding step5_data
  data-sent l d a m p = rw (p, ne_eqb s.left 1 (λ k. omega (arith, k)))

  pub first : (l : Lane) → Stretch l (suc n) e
      → record { answer = octet (to_line (get_or (lane_area l e) (lane_state l s).position 0)); state = sent 1 l s } ≡ seen (next e)
  first low h =
      let b = h.ready in
      let r = low-on s b.valid b.bounds e.low b.low h.on in
      let short = none-short _ _ _ (b.low, b.high) in
      sym (low-sends e b.valid short (record { data_left = omega (arith, h.more); bounds = λ _. b.bounds }, h.alone refl) h.on
      ∙ data-sent low _ e.low (omega (arith, h.more)) (D.before s.low.length e.low s.low.position (omega (arith, h.more, r.in_d))))
  first high h =
      let b = h.ready in
      let r = high-on s b.valid b.bounds e.high b.high h.on in
      let short = none-short _ _ _ (b.low, b.high) in
      sym (high-sends e b.valid short (record { data_left = omega (arith, h.more); bounds = λ _. b.bounds }) h.on
      ∙ data-sent high _ e.high (omega (arith, h.more)) (D.before s.high.length e.high s.high.position (omega (arith, h.more, r.in_d))))

  -- the place is inside the area
  pub inside : (l : Lane) → Stretch l (suc n) e → (lane_state l s).position < length (lane_area l e)
  inside low h = let r = low-on s h.ready.valid h.ready.bounds e.low h.ready.low h.on in omega (arith, h.more, r.in_d, r.short, r.long)
  inside high h = let r = high-on s h.ready.valid h.ready.bounds e.high h.ready.high h.on in omega (arith, h.more, r.in_d, r.short, r.long)

  pub rest : (l : Lane) → Stretch l (suc n) e → Stretch l n (record { state = sent 1 l s; low = e.low; high = e.high })
  rest l h =
      record {
        ready = octet-ready e _ _ (first l h);
        on = on_line l;
        more = omega (arith, h.more);
        alone = alone l h.alone;
      }
    where
      on_line : (k : Lane) → (sent 1 k s).on ≡ Some l
      on_line low = h.on
      on_line high = h.on

      alone : (k : Lane) → (k ≡ low → s.high.length ≡ 0) → k ≡ low → (sent 1 k s).high.length ≡ 0
      alone low f = f
      alone high f = f

-- none of them is a flag
pub plain : (x : ℕ) → eqb (to_line x) flag ≡ false
plain x = ne_eqb (to_line x) flag (no_flag x)

-- a block that is inside its lane's area
pub block-in-area : (l : Lane) (e : SenderEnd) → SenderReady e → e.state.on ≡ Some l → (lane_state l e.state).position + e.state.left ≤ most_decoded (agreed e.state.settings)
block-in-area low e b o = let r = low-on e.state b.valid b.bounds e.low b.low o in omega (arith, r.in_d, r.short)
block-in-area high e b o = let r = high-on e.state b.valid b.bounds e.high b.high o in omega (arith, r.in_d, r.short)
