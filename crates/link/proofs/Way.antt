-- What next octet can do, one case for each kind of octet: proofs go by these, and not by the tests that chose them. Only this file
-- looks at the tests.
use mathlib.Core.Path.{◌≡◌, refl}
use mathlib.Core.Bool.{Bool, true, false, cond, not, ◌&&◌, ◌||◌}
use mathlib.Core.List.{List}
use Prim.Native.Nat.{ℕ, ◌+◌, ◌-◌, ◌≤◌, ◌<◌}
use native.Mathlib.Omega.{arith}
use borrow.Author.Tests.{ltb-true, ltb-false, eqb-true, eqb-false, not-true, not-false}
use lib.Dec.{ltb, eqb}
use lib.ListN.{length, drop, get_or}
use Rattle.std.specs.Prelude.{Some, None}
use Rattle.cobs.specs.CodeBlocks.{to_line, choice}
use Rattle.cobs.proofs.Tests.{branch, and_left, and_right}
use Rattle.link.specs.Agreed.{Settings, Agreed, agreed, largest_frame, valid}
use Rattle.link.specs.Sender.{Lane, low, high, OnLine, LaneState, Sender, SenderEnd, Step, closes, breaks_off, sends, sends_nothing, refuses, empty_lane, lane_state, loaded, lane_d, with_lane, with_block, with_line, with_marks, is_low, step1_cut_due, step4_break_off, step5_data, step6_code, steps_3_to_6, step2_no_lane, steps_1_to_6, in_bounds, next}
use Rattle.link.proofs.Tests.{false-true}

-- An octet of D, with n data octets left and z zeros due: the octet, and position, data left and zeros due behind it. The last data
-- octet of a block; one before it; the code of a block without data; the code of one with data.
pub data Advance (zxe : Bool) (d : List ℕ) (pos n z : ℕ) : ℕ → ℕ → ℕ → ℕ → Type 0 where
  last : n ≡ 1 → Advance zxe d pos n z (get_or d pos 0) (pos + (1 + z)) 0 0
  more : 0 < n → (n ≡ 1 → ⊥) → Advance zxe d pos n z (get_or d pos 0) (pos + 1) (n - 1) z
  covers : n ≡ 0 → (choice zxe (drop pos d)).nonzeros ≡ 0
      → Advance zxe d pos n z (choice zxe (drop pos d)).code (pos + (choice zxe (drop pos d)).zeros) n z
  opens : n ≡ 0 → ((choice zxe (drop pos d)).nonzeros ≡ 0 → ⊥)
      → Advance zxe d pos n z (choice zxe (drop pos d)).code pos (choice zxe (drop pos d)).nonzeros (choice zxe (drop pos d)).zeros

-- A closing flag; a flag that breaks off; 02 before one; an octet of D, where nothing urgent waits.
pub data Way (g : Agreed) (l : Lane) (s : Sender) (d : List ℕ) : Step → Type 0 where
  ends : (lane_state l s).length < (lane_state l s).position → Way g l s d (record { out = closes l; state = with_line None (with_lane l empty_lane s) })
  cuts : (lane_state l s).position ≤ (lane_state l s).length → l ≡ low → g.pre ≡ true → 0 < s.high.length → 0 < s.left
      → Way g l s d (record { out = breaks_off; state = with_line None (with_marks true s.cut (with_block 0 0 s)) })
  warns : (lane_state l s).position ≤ (lane_state l s).length → l ≡ low → g.pre ≡ true → 0 < s.high.length → s.left ≡ 0
      → Way g l s d (record { out = sends low 0x02; state = with_marks s.suspended true s })
  goes : (x pos n z : ℕ) → (lane_state l s).position ≤ (lane_state l s).length → Advance g.zxe d (lane_state l s).position s.left s.zeros x pos n z
      → (l ≡ low → g.pre ≡ true → s.high.length ≡ 0)
      → Way g l s d (record { out = sends l (to_line x); state = with_block n z (with_lane l (record { length = (lane_state l s).length; position = pos }) s) })

is-low : (l : Lane) → is_low l ≡ true → l ≡ low
is-low low e = refl
is-low high e = false-true e

none-urgent : (l : Lane) (pre : Bool) (n : ℕ) → (is_low l && pre && ltb 0 n) ≡ false → l ≡ low → pre ≡ true → n ≡ 0
none-urgent low true n p e q = omega (arith, ltb-false 0 n p)
none-urgent low false n p e q = false-true q
none-urgent high pre n p e q = absurd (let z : ◌≡◌ {A = ℕ} 0 1 = cc in omega arith)

module _ (g : Agreed) (s : Sender) (d : List ℕ) where
  way-data : (l : Lane) → (lane_state l s).position ≤ (lane_state l s).length → 0 < s.left → (l ≡ low → g.pre ≡ true → s.high.length ≡ 0) → Way g l s d (step5_data l s d)
  unfolding step5_data
  way-data low h f free =
      branch (λ t. Way g low s d (record { out = sends low (to_line (get_or d s.low.position 0)); state = t })) (eqb s.left 1)
      (λ e. goes _ _ _ _ h (last (eqb-true s.left 1 e)) free)
      (λ e. goes _ _ _ _ h (more f (eqb-false s.left 1 e)) free)
  way-data high h f free =
      branch (λ t. Way g high s d (record { out = sends high (to_line (get_or d s.high.position 0)); state = t })) (eqb s.left 1)
      (λ e. goes _ _ _ _ h (last (eqb-true s.left 1 e)) free)
      (λ e. goes _ _ _ _ h (more f (eqb-false s.left 1 e)) free)

  way-code : (l : Lane) → (lane_state l s).position ≤ (lane_state l s).length → s.left ≡ 0 → (l ≡ low → g.pre ≡ true → s.high.length ≡ 0)
      → Way g l s d (step6_code l s (choice g.zxe (drop (lane_state l s).position d)))
  unfolding step6_code
  way-code low h f free =
      let c = choice g.zxe (drop s.low.position d) in
      branch (λ t. Way g low s d (record { out = sends low (to_line c.code); state = t })) (eqb c.nonzeros 0)
      (λ e. goes _ _ _ _ h (covers f (eqb-true c.nonzeros 0 e)) free)
      (λ e. goes _ _ _ _ h (opens f (eqb-false c.nonzeros 0 e)) free)
  way-code high h f free =
      let c = choice g.zxe (drop s.high.position d) in
      branch (λ t. Way g high s d (record { out = sends high (to_line c.code); state = t })) (eqb c.nonzeros 0)
      (λ e. goes _ _ _ _ h (covers f (eqb-true c.nonzeros 0 e)) free)
      (λ e. goes _ _ _ _ h (opens f (eqb-false c.nonzeros 0 e)) free)

  pub way : (l : Lane) → Way g l s d (steps_3_to_6 g l s d)
  unfolding steps_3_to_6 step4_break_off
  way l =
      let q = lane_state l s in
      branch (Way g l s d) (ltb q.length q.position) (λ e. ends (ltb-true q.length q.position e))
      (λ e.
      let short : q.position ≤ q.length = ltb-false q.length q.position e in
      branch (Way g l s d) (is_low l && g.pre && loaded s.high)
      (λ p.
      let both : (is_low l && g.pre) ≡ true = and_left (is_low l && g.pre) (loaded s.high) p in
      let is : l ≡ low = is-low l (and_left (is_low l) g.pre both) in
      let pre : g.pre ≡ true = and_right (is_low l) g.pre both in
      let urgent : 0 < s.high.length = ltb-true 0 s.high.length (and_right (is_low l && g.pre) (loaded s.high) p) in
      branch (Way g l s d) (ltb 0 s.left) (λ f. cuts short is pre urgent (ltb-true 0 s.left f))
      (λ f. warns short is pre urgent (omega (arith, ltb-false 0 s.left f))))
      (λ p.
      let free : l ≡ low → g.pre ≡ true → s.high.length ≡ 0 = none-urgent l g.pre s.high.length p in
      branch (Way g l s d) (ltb 0 s.left) (λ f. way-data l short (ltb-true 0 s.left f) free)
      (λ f. way-code l short (omega (arith, ltb-false 0 s.left f)) free)))

-- ---- the first step that applies

-- a sender by its parts
abbrev pub sender : LaneState → LaneState → ℕ → ℕ → OnLine → Bool → Bool → Settings → Sender
sender ql qh n z o suspended cut t =
    record { low = ql; high = qh; left = n; zeros = z; on = o; suspended = suspended; cut = cut; settings = t }

module _ (g : Agreed) (ql qh : LaneState) (n z : ℕ) (t : Settings) (al ah : List ℕ) where
  -- By the lane on the line and the marks *suspended* and *cut due*: the cut; nothing; D1; a lane begins; a lane goes on.
  pub data Turn : OnLine → Bool → Bool → Step → Type 0 where
    cut-due : {o : OnLine} {u : Bool} → Turn o u true (step1_cut_due (sender ql qh n z o u true t))
    idles : {u : Bool} → qh.length ≡ 0 → ql.length ≡ 0 → Turn None u false (record { out = sends_nothing; state = sender ql qh n z None u false t })
    resumes-low : qh.length ≡ 0 → 0 < ql.length → Turn None true false (record { out = sends low 0xD1; state = sender ql qh n z (Some low) false false t })
    begins-high : {u : Bool} {st : Step} → 0 < qh.length → Way g high (sender ql qh n z (Some high) u false t) (lane_d qh ah) st
        → Turn None u false st
    begins-low : {st : Step} → qh.length ≡ 0 → 0 < ql.length → Way g low (sender ql qh n z (Some low) false false t) (lane_d ql al) st
        → Turn None false false st
    high-on : {u : Bool} {st : Step} → Way g high (sender ql qh n z (Some high) u false t) (lane_d qh ah) st → Turn (Some high) u false st
    low-on : {u : Bool} {st : Step} → Way g low (sender ql qh n z (Some low) u false t) (lane_d ql al) st → Turn (Some low) u false st

  low_turn : (u : Bool) → qh.length ≡ 0 → 0 < ql.length
      → Turn None u false
      (cond u (record { out = sends low 0xD1; state = sender ql qh n z (Some low) false false t })
      (steps_3_to_6 g low (sender ql qh n z (Some low) u false t) (lane_d ql al)))
  low_turn true e h = resumes-low e h
  low_turn false e h = begins-low e h (way g (sender ql qh n z (Some low) false false t) (lane_d ql al) low)

  pub turn : (o : OnLine) (u c : Bool) → Turn o u c (steps_1_to_6 g (record { state = sender ql qh n z o u c t; low = al; high = ah }) c o)
  unfolding steps_1_to_6 step2_no_lane
  turn o u true = cut-due
  turn (Some high) u false = high-on (way g (sender ql qh n z (Some high) u false t) (lane_d qh ah) high)
  turn (Some low) u false = low-on (way g (sender ql qh n z (Some low) u false t) (lane_d ql al) low)
  turn None u false =
      branch (Turn None u false) (loaded qh)
      (λ e. begins-high (ltb-true 0 qh.length e) (way g (sender ql qh n z (Some high) u false t) (lane_d qh ah) high))
      (λ e.
      let none-high : qh.length ≡ 0 = omega (arith, ltb-false 0 qh.length e) in
      branch (Turn None u false) (not (loaded ql)) (λ f. idles none-high (omega (arith, ltb-false 0 ql.length (not-true (loaded ql) f))))
      (λ f. low_turn u none-high (ltb-true 0 ql.length (not-false (loaded ql) f))))

-- no two of the lines are the same
pub line-free : {Q : Type 0} (l : Lane) → Some l ≡ None → Q
line-free l e = absurd (let z : ◌≡◌ {A = ℕ} 0 1 = cc in omega arith)

pub not-high : {Q : Type 0} → Some high ≡ Some low → Q
not-high e = absurd (let z : ◌≡◌ {A = ℕ} 0 1 = cc in omega arith)

-- what holds of a refused call and of every such step holds of next octet
pub by_next : (g : Agreed) (e : SenderEnd) → agreed e.state.settings ≡ g → (P : Step → Type 0) → ((n : ℕ) → P (record { out = refuses n; state = e.state }))
    → (let s = e.state in
    ((st : Step) → Turn g s.low s.high s.left s.zeros s.settings e.low e.high s.on s.suspended s.cut st → P st))
    → P (next e)
unfolding next
by_next g e ag P same f =
    let s = e.state in
    rw ag
    (branch P (not (valid g)) (λ _. same 3)
    (λ _. branch P (ltb (length e.low) (largest_frame g) || ltb (length e.high) (largest_frame g)) (λ _. same 2)
    (λ _. branch P (not (in_bounds g s)) (λ _. same 3)
    (λ _. f _ (turn g s.low s.high s.left s.zeros s.settings e.low e.high s.on s.suspended s.cut)))))
