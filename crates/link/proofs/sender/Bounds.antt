-- What follows where the tests of the sender's calls pass: what a lane on the line asks of the state and its area.
use mathlib.Core.Path.{◌≡◌, refl, sym, ap, subst, ◌∙◌}
use mathlib.Core.Bool.{Bool, true, false, not, ◌&&◌, ◌||◌}
use mathlib.Core.List.{List}
use Prim.Native.Nat.{ℕ, ◌+◌, ◌≤◌, ◌<◌}
use native.Mathlib.Omega.{arith}
use borrow.Author.Tests.{not-true, leb-true, le-ltb, lt-ltb, eqb-true, eqb-false}
use lib.Dec.{leb, ltb, eqb}
use lib.ListN.{length}
use Rattle.std.specs.Prelude.{Some, None}
use Rattle.cobs.proofs.Tests.{and_left, and_right}
use Rattle.link.specs.Agreed.{Agreed, agreed, largest_frame, valid}
use Rattle.link.specs.Sender.{LaneState, Sender, SenderEnd, Lane, low, high, OnLine, in_bounds, lane_ok, lane_state, lane_area, is_low, loaded, lane_d}
use Rattle.link.specs.Sender.{steps_3_to_6, step5_data, steps_1_to_6, next, seen}
use Rattle.link.specs.SenderParts.{LaneReady, DataDue, SendsOn}
use Rattle.link.proofs.Tests.{or_left, or_right, true-false, not-below}
use Rattle.link.proofs.SenderBounds.{LaneOk, LineOk, Bounds, bounds, in_bounds_lem, ok-lane, most}

-- a match on the lane that is on the line
pub on_line-is : (o : OnLine) (l k : Lane) → o ≡ Some l → l ≡ k → o ≡ Some k
on_line-is o l k e f = e ∙ ap Some f

-- a state in bounds
module _ (s : Sender) (v : valid (agreed s.settings) ≡ true) (h : in_bounds (agreed s.settings) s ≡ true) where
  abbrev g : Agreed
  g = agreed s.settings

  facts : Bounds g s
  facts = bounds g s h

  line : (o : OnLine) → s.on ≡ o → LineOk o s.low s.high s.left s.zeros s.suspended s.cut
  line o e = subst (λ (p : OnLine). LineOk p s.low s.high s.left s.zeros s.suspended s.cut) e facts.line

  ready : (q : LaneState) (area : List ℕ) → LaneOk g q → largest_frame g ≤ length area → q.position + (s.left + s.zeros) ≤ q.length + 1
      → LaneReady g q s.left s.zeros area
  ready q area ok l room = record { valid = v; short = most g q ok; long = l; few_zeros = facts.two; in_d = omega arith }

  -- with no lane on the line nothing is left, so either lane may be put on it
  pub free : (area other : List ℕ) → largest_frame g ≤ length area → largest_frame g ≤ length other → s.on ≡ None
      → LaneReady g s.low s.left s.zeros area × LaneReady g s.high s.left s.zeros other
  free area other l k e =
      let none = line None e in (
        ready s.low area facts.low l (omega (arith, none.0, none.1, facts.low.place)),
        ready s.high other facts.high k (omega (arith, none.0, none.1, facts.high.place)),
      )

  -- the block of the lane on the line is inside D
  pub low-on : (area : List ℕ) → largest_frame g ≤ length area → s.on ≡ Some low → LaneReady g s.low s.left s.zeros area
  low-on area l e = ready s.low area facts.low l (line (Some low) e).0.room

  pub high-on : (area : List ℕ) → largest_frame g ≤ length area → s.on ≡ Some high → LaneReady g s.high s.left s.zeros area
  high-on area l e = ready s.high area facts.high l (line (Some high) e).0.room

-- ---- the short way of next octet

-- a state with data left and its lane on the line is in bounds
module _ (s : Sender) where
  abbrev Line : OnLine → Type 0
  Line o = LineOk o s.low s.high s.left s.zeros s.suspended s.cut

  abbrev waits : Bool → Type 0
  waits u = u ≡ true → 0 < s.low.length

  pub low-due : (not (s.suspended || s.cut) && eqb s.high.length 0 && leb s.high.position 1) ≡ true → DataDue (agreed s.settings) s.low s
      → SendsOn low s × (s.high.length ≡ 0)
  low-due h d =
      let marks = not (s.suspended || s.cut) in
      let none = eqb s.high.length 0 in
      let m = not-true (s.suspended || s.cut) (and_left marks none (and_left (marks && none) _ h)) in
      let e = eqb-true s.high.length 0 (and_right marks none (and_left (marks && none) _ h)) in
      let p = leb-true s.high.position 1 (and_right (marks && none) _ h) in
      (record { data_left = d.data_left; bounds = in-order (or_left s.suspended s.cut m) (or_right s.suspended s.cut m) e p }, e)
    where
      in-order : s.suspended ≡ false → s.cut ≡ false → s.high.length ≡ 0 → s.high.position ≤ 1 → s.on ≡ Some low → in_bounds (agreed s.settings) s ≡ true
      in-order awake whole e p o =
          in_bounds_lem (agreed s.settings) s (record {
            low = record { size = λ n. (d.least, d.most); place = omega (arith, d.in_d) };
            high = record { size = λ n. absurd (n e); place = omega (arith, p) };
            few = d.few_data;
            two = d.few_zeros;
            even = λ z. absurd (omega (arith, z, d.data_left));
            line =
                subst Line (sym o)
                (record { loaded = omega (arith, d.least); room = omega (arith, d.in_d) }, awake, λ k. true-false (sym k ∙ whole));
            waits = λ k. true-false (sym k ∙ awake);
          })

  pub high-due : (not s.cut && not (s.suspended && eqb s.low.length 0)) ≡ true → lane_ok (agreed s.settings) s.low ≡ true
      → DataDue (agreed s.settings) s.high s → SendsOn high s
  high-due h q d =
      let whole = not-true s.cut (and_left (not s.cut) _ h) in
      record { data_left = d.data_left; bounds = in-order whole (held s.suspended (not-true _ (and_right (not s.cut) _ h))) }
    where
      held : (u : Bool) → (u && eqb s.low.length 0) ≡ false → waits u
      held true f k = let n = eqb-false s.low.length 0 f in omega (arith, n)
      held false f k = true-false (sym k)

      in-order : s.cut ≡ false → waits s.suspended → s.on ≡ Some high → in_bounds (agreed s.settings) s ≡ true
      in-order c w o =
          in_bounds_lem (agreed s.settings) s (record {
            low = ok-lane (agreed s.settings) s.low q;
            high = record { size = λ n. (d.least, d.most); place = omega (arith, d.in_d) };
            few = d.few_data;
            two = d.few_zeros;
            even = λ z. absurd (omega (arith, z, d.data_left));
            line = subst Line (sym o) (record { loaded = omega (arith, d.least); room = omega (arith, d.in_d) }, c);
            waits = w;
          })

-- then next octet sends the data octet
steps-send : (g : Agreed) (l : Lane) (s : Sender) (d : List ℕ) → (lane_state l s).position ≤ (lane_state l s).length → (is_low l && g.pre && loaded s.high) ≡ false
    → 0 < s.left → steps_3_to_6 g l s d ≡ step5_data l s d
unfolding steps_3_to_6
steps-send g l s d p f n = rw (le-ltb _ _ p, f, lt-ltb 0 _ n)

module _ (e : SenderEnd) (v : valid (agreed e.state.settings) ≡ true)
    (short : (ltb (length e.low) (largest_frame (agreed e.state.settings)) || ltb (length e.high) (largest_frame (agreed e.state.settings))) ≡ false) where
  long : (largest_frame (agreed e.state.settings) ≤ length e.low) × (largest_frame (agreed e.state.settings) ≤ length e.high)
  long = not-below (length e.low) _ (length e.high) _ short

  on_line : (l : Lane) → in_bounds (agreed e.state.settings) e.state ≡ true → e.state.on ≡ Some l → e.state.cut ≡ false
      → next e ≡ steps_3_to_6 (agreed e.state.settings) l e.state (lane_d (lane_state l e.state) (lane_area l e))
  unfolding next steps_1_to_6
  on_line l h o c = rw (v, short, h, c, o)

  sends : (l : Lane) → in_bounds (agreed e.state.settings) e.state ≡ true → 0 < e.state.left → e.state.on ≡ Some l → e.state.cut ≡ false
      → (is_low l && (agreed e.state.settings).pre && loaded e.state.high) ≡ false
      → (lane_state l e.state).position ≤ (lane_state l e.state).length → next e ≡ step5_data l e.state (lane_d (lane_state l e.state) (lane_area l e))
  sends l h n o c f p = on_line l h o c ∙ steps-send (agreed e.state.settings) l e.state _ p f n

  module _ (d : SendsOn low e.state × (e.state.high.length ≡ 0)) (o : e.state.on ≡ Some low) where
    pub low-ready : (0 < e.state.left) × LaneReady (agreed e.state.settings) e.state.low e.state.left e.state.zeros e.low
    low-ready = (d.0.data_left, low-on e.state v (d.0.bounds o) _ long.0 o)

    pub low-sends : seen (next e) ≡ seen (step5_data low e.state (lane_d e.state.low e.low))
    low-sends =
        let r = line e.state v (d.0.bounds o) (Some low) o in
        ap seen (sends low (d.0.bounds o) d.0.data_left o (whole e.state.cut r.2) (rw d.1 (alone (agreed e.state.settings).pre)) (omega (arith, r.0.room, d.0.data_left)))
      where
        whole : (c : Bool) → (c ≡ true → e.state.left ≡ 0) → c ≡ false
        whole true f = absurd (omega (arith, f refl, d.0.data_left))
        whole false f = refl

        alone : (b : Bool) → (b && false) ≡ false
        alone true = refl
        alone false = refl

  module _ (d : SendsOn high e.state) (o : e.state.on ≡ Some high) where
    pub high-ready : (0 < e.state.left) × LaneReady (agreed e.state.settings) e.state.high e.state.left e.state.zeros e.high
    high-ready = (d.data_left, high-on e.state v (d.bounds o) _ long.1 o)

    pub high-sends : seen (next e) ≡ seen (step5_data high e.state (lane_d e.state.high e.high))
    high-sends =
        let r = line e.state v (d.bounds o) (Some high) o in
        ap seen (sends high (d.bounds o) d.data_left o r.1 refl (omega (arith, r.0.room, d.data_left)))
