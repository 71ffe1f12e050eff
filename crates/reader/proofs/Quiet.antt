-- Octets that are answered Quiet, many at once: those before a flag, in a refused frame and in a block, and in a plain frame those that are
-- copied as they are.
use mathlib.Core.Path.{◌≡◌, refl, sym, ap, subst, ◌∙◌}
use mathlib.Core.Bool.{Bool, true, false, not, ◌&&◌, ◌||◌}
use mathlib.Core.List.{List, [], ◌∷◌, map}
use Prim.Native.Nat.{ℕ, zero, suc, ◌+◌, ◌-◌, ◌≤◌, ◌<◌}
use native.Mathlib.Numerals.{add-one, one-add}
use native.Mathlib.Nat.{add_assoc}
use native.Mathlib.Omega.{arith}
use borrow.Author.Tests.{eqb-false, ltb-false, not-true, not-false}
use lib.Dec.{eqb, ltb}
use lib.ListN.{length, take, drop, set, length-map, length-take, length-drop}
use lib.Seq.{sets, sets-eq, take_all, drop-drop}
use Rattle.std.specs.List.{position, position_or_len}
use Rattle.std.specs.Option.{unwrap_or}
use Rattle.std.proofs.lemmas.List.Sums.{prefix_len-le-length}
use Rattle.cobs.specs.CodeBlocks.{flag, from_line}
use Rattle.cobs.proofs.Tests.{branch, and_left, and_right}
use Rattle.plain.specs.Maps.{escape, removed}
use Rattle.link.specs.Agreed.{agreed, largest_frame, most_decoded}
use Rattle.link.specs.declared.receiver.Receiver.{Receiver}
use Rattle.link.specs.declared.receiver.Mode.TheVariants.{Plain as plain}
use Rattle.link.specs.Receiver.{ReceiverEnd, Receive, is_plain, is_escaped, with_decoded, with_due, write, work, receive}
use Rattle.link.specs.ReceiverParts.{ReceiverReady}
use Rattle.link.proofs.PlainFrames.{mode-by}
use Rattle.link.proofs.Tests.{or_left, or_right}
use Rattle.link.proofs.Agreed.{decoded-at-most}
use Rattle.link.proofs.ReadOn.{deep, after-quiet, skips, after_data, decodes, data-more, no-data, data-area, after_plain, copies, plain_more, no_plain, plain-area}
use Rattle.reader.specs.Stretches.{is_flag, is_special, before_flag, before_special}
use Rattle.link.specs.Answers.{is_quiet}
use Rattle.reader.specs.Reading.{Reach, used_before, read_on}
use Rattle.reader.proofs.Steps.{from-quiet, begins}
use Rattle.reader.proofs.NothingLost.{is-quiet}

-- ---- the octets before the first that a test holds of

module _ (test : ℕ → Bool) where
  pub within : (l : List ℕ) → position_or_len test l ≤ length l
  within l = prefix_len-le-length _ l

  -- all, where there is none
  pub found_or_all : (l : List ℕ) → unwrap_or (position test l) (length l) ≡ position_or_len test l
  found_or_all l =
      branch (λ r. unwrap_or r (length l) ≡ position_or_len test l) (ltb (position_or_len test l) (length l)) (λ _. refl)
      (λ k. omega (arith, ltb-false _ _ k, within l))

  -- what holds of 0 where the first octet passes, and else of one more than the count of the others, holds of the count
  by-first : (P : ℕ → Type 0) (x : ℕ) (l : List ℕ) → (test x ≡ true → P 0) → (test x ≡ false → P (suc (position_or_len test l)))
      → P (position_or_len test (x ∷ l))
  by-first P x l f g = branch P (not (test x)) (λ n. subst P (sym (one-add _)) (g (not-true _ n))) (λ n. f (not-false _ n))

-- ---- reading on over them

-- after a Quiet answer
pub ready-after : (e : ReceiverEnd) (x : ℕ) (h : Receive) → h ≡ receive e x → is_quiet h.report ≡ true → ReceiverReady h.after
ready-after e x h p q =
    subst (λ (g : Receive). ReceiverReady g.after) (sym p) (after-quiet e x (ap (λ (g : Receive). g.report) (sym p) ∙ is-quiet h.report q))

-- of n octets of l, used are copied behind those decoded: there is room for them
pub record Fitting (e : ReceiverEnd) (l : List ℕ) (n used : ℕ) : Type 0 where
  pub most : used ≤ n
  pub within : used ≤ length l
  pub first : e.state.decoded + length (take used l) ≤ length e.first
  pub second : e.state.decoded + length (take used l) ≤ length e.second
  pub counted : e.state.decoded + used < 65536

pub fits : (e : ReceiverEnd) (l : List ℕ) (test : ℕ → Bool) (n used : ℕ) → ReceiverReady e → used ≡ position_or_len test (take n l) → n ≤ most_decoded (agreed e.state.settings) - e.state.decoded
    → Fitting e l n used
fits e l test n used a k d =
    let t = e.state.settings in
    let most : used ≤ n = omega (arith, k, within test (take n l), length-take n l) in
    let deepest : e.state.decoded ≤ most_decoded (agreed t) = deep e a in
    record {
      most = most;
      within = omega (arith, k, within test (take n l), length-take n l);
      first = omega (arith, length-take used l, a.first);
      second = omega (arith, length-take used l, a.second);
      counted = omega (arith, decoded-at-most t a.valid);
    }

-- n octets at once, in the loop
pub goes-far : (e f : ReceiverEnd) (xs : List ℕ) (i n : ℕ)
    → (let rest = take (length xs - i) (drop i xs) in read_on e rest ≡ used_before n (read_on f (drop n rest)))
    → used_before i (read_on e (drop i xs)) ≡ used_before (i + n) (read_on f (drop (i + n) xs))
goes-far e f xs i n p =
    let whole = take_all (length xs - i) (drop i xs) (omega (arith, length-drop i xs)) in
    ap (used_before i) (rw whole at p) ∙ rw (drop-drop n i xs, add_assoc)

one-behind : (n : ℕ) (r : Reach) → used_before 1 (used_before n r) ≡ used_before (suc n) r
one-behind n r =
    let e : 1 + (n + r.used) ≡ suc n + r.used = omega arith in
    ap (λ (m : ℕ). record { report = r.report; after = r.after; used = m }) e

-- a refusal is remembered
pub skips-on : (e : ReceiverEnd) → ReceiverReady e → (e.state.refusal ≡ 0 → ⊥) → (l : List ℕ)
    → read_on e l ≡ used_before (before_flag l) (read_on e (drop (before_flag l) l))
skips-on e a n [] = begins e []
skips-on e a n (x ∷ l) =
    by-first is_flag (λ k. read_on e (x ∷ l) ≡ used_before k (read_on e (drop k (x ∷ l)))) x l (λ _. begins e (x ∷ l))
    (λ t. from-quiet e x l _ (sym (skips e x a n (eqb-false x flag t))) refl ∙ ap (used_before 1) (skips-on e a n l) ∙ one-behind _ _)

-- k data octets, turned back and stored behind those decoded
abbrev pub stored : ℕ → List ℕ → ReceiverEnd → ReceiverEnd
stored k l e = after_data k (sets (work e).area e.state.decoded (map from_line (take k l))) e

none-stored : (e : ReceiverEnd) (l : List ℕ) → read_on e l ≡ used_before 0 (read_on (stored 0 l e) (drop 0 l))
none-stored e l = rw (no-data e) (begins e l)

stored_more : (k x : ℕ) (l : List ℕ) (e : ReceiverEnd)
    → stored k l (after_data 1 (set (work e).area e.state.decoded (from_line x)) e) ≡ stored (suc k) (x ∷ l) e
stored_more k x l e =
    let n = e.state.decoded in
    let one = set (work e).area n (from_line x) in
    let rest = map from_line (take k l) in
    let s = ap (λ (area : List ℕ). sets area (n + 1) rest) (data-area 1 one e) ∙ ap (λ (m : ℕ). sets one m rest) (add-one n) in
    ap (λ (area : List ℕ). after_data k area (after_data 1 one e)) s ∙ data-more k (sets one (suc n) rest) one e

-- n data octets are left before the last of their block, and there is room for them
pub stores-on : (n : ℕ) (l : List ℕ) (e : ReceiverEnd) → ReceiverReady e → e.state.refusal ≡ 0 → n < e.state.left → n ≤ most_decoded (agreed e.state.settings) - e.state.decoded
    → (let k = before_flag (take n l) in read_on e l ≡ used_before k (read_on (stored k l e) (drop k l)))
stores-on zero l e a c h d = none-stored e l
stores-on (suc n) [] e a c h d = none-stored e []
stores-on (suc n) (x ∷ l) e a c h d =
    by-first is_flag (λ k. read_on e (x ∷ l) ≡ used_before k (read_on (stored k (x ∷ l) e) (drop k (x ∷ l)))) x (take n l) (λ _. none-stored e (x ∷ l))
    (λ t.
    let p = decodes e x a c (omega arith) (omega arith) (eqb-false x flag t) in
    let k = before_flag (take n l) in
    let f = subst (λ (h : Receive). ReceiverReady h.after) p (after-quiet e x (ap (λ (h : Receive). h.report) p)) in
    from-quiet e x l _ (sym p) refl
    ∙ ap (used_before 1) (stores-on n l _ f c (omega arith) (omega arith))
    ∙ ap (λ (g : ReceiverEnd). used_before 1 (used_before k (read_on g (drop k l)))) (stored_more k x l e)
    ∙ one-behind _ _)

-- the same as the code does it: `used` octets are written into the work area, which is `area` afterwards
module _ (e : ReceiverEnd) (l : List ℕ) (n used : ℕ) (area : List ℕ) (a : ReceiverReady e) (c : e.state.refusal ≡ 0) (h : n < e.state.left)
    (d : n ≤ most_decoded (agreed e.state.settings) - e.state.decoded) (k : used ≡ before_flag (take n l)) where
  reads_on : area ≡ write (work e).area e.state.decoded (map from_line (take used l)) → e.state.decoded + length (take used l) ≤ length (work e).area
      → read_on e l ≡ used_before used (read_on (after_data used area e) (drop used l))
  reads_on w f =
      let m = e.state.decoded in
      let p : read_on e l ≡ used_before used (read_on (stored used l e) (drop used l)) = rw k (stores-on n l e a c h d) in
      p ∙ ap (λ (b : List ℕ). used_before used (read_on (after_data used b e) (drop used l))) (sets-eq (map from_line (take used l)) (work e).area m (rw length-map f) ∙ sym w)

  abbrev after : List ℕ → List ℕ → ReceiverEnd
  after first second =
      record { state = with_decoded (e.state.decoded + used) (with_due (e.state.left - used) e.state.zeros e.state); first = first; second = second }

  pub in-second : e.state.turn ≡ true → area ≡ write e.second e.state.decoded (map from_line (take used l))
      → read_on e l ≡ used_before used (read_on (after e.first area) (drop used l))
  in-second t w = simp t (simp t at (reads_on (simp t w) (simp t (fits e l is_flag n used a k d).second)))

  pub in-first : e.state.turn ≡ false → area ≡ write e.first e.state.decoded (map from_line (take used l))
      → read_on e l ≡ used_before used (read_on (after area e.second) (drop used l))
  in-first t w = simp t (simp t at (reads_on (simp t w) (simp t (fits e l is_flag n used a k d).first)))

-- ---- a plain frame

-- what the code has tested of it
pub record PlainFrame (r : Receiver) : Type 0 where
  pub reads : r.mode ≡ plain
  pub framed : r.framed ≡ true

pub plain-frame : (r : Receiver) (b : Bool) → b ≡ (is_plain r.mode && not (is_escaped r.mode)) → (not b || not r.framed) ≡ false → PlainFrame r
plain-frame r b p t =
    let m = r.mode in
    let yes : (is_plain m && not (is_escaped m)) ≡ true = sym p ∙ not-false b (or_left (not b) (not r.framed) t) in
    record {
      reads = mode-by m (and_left (is_plain m) (not (is_escaped m)) yes) (not-true (is_escaped m) (and_right (is_plain m) (not (is_escaped m)) yes));
      framed = not-false r.framed (or_right (not b) (not r.framed) t);
    }

-- k octets, stored behind those decoded
abbrev stored_plain : ℕ → List ℕ → ReceiverEnd → ReceiverEnd
stored_plain k l e = after_plain k (sets (work e).area e.state.decoded (take k l)) e

none-plain : (e : ReceiverEnd) (l : List ℕ) → read_on e l ≡ used_before 0 (read_on (stored_plain 0 l e) (drop 0 l))
none-plain e l = rw (no_plain e) (begins e l)

plain-stored-more : (k x : ℕ) (l : List ℕ) (e : ReceiverEnd)
    → stored_plain k l (after_plain 1 (set (work e).area e.state.decoded x) e) ≡ stored_plain (suc k) (x ∷ l) e
plain-stored-more k x l e =
    let n = e.state.decoded in
    let one = set (work e).area n x in
    let s = ap (λ (area : List ℕ). sets area (n + 1) (take k l)) (plain-area 1 one e) ∙ ap (λ (m : ℕ). sets one m (take k l)) (add-one n) in
    ap (λ (area : List ℕ). after_plain k area (after_plain 1 one e)) s ∙ plain_more k (sets one (suc n) (take k l)) one e

-- what an octet that is none of the special ones is not
module _ (map x : ℕ) (t : is_special map x ≡ false) where
  not_flag : x ≡ flag → ⊥
  not_flag = eqb-false x flag (or_left (eqb x flag) (eqb x escape) (or_left (eqb x flag || eqb x escape) (removed map x) t))

  not-escape : x ≡ escape → ⊥
  not-escape = eqb-false x escape (or_right (eqb x flag) (eqb x escape) (or_left (eqb x flag || eqb x escape) (removed map x) t))

  not-removed : removed map x ≡ false
  not-removed = or_right (eqb x flag || eqb x escape) (removed map x) t

-- in a plain frame, with no escape open and room for n octets
pub copies-on : (n : ℕ) (l : List ℕ) (e : ReceiverEnd) → ReceiverReady e → e.state.mode ≡ plain → e.state.refusal ≡ 0 → e.state.framed ≡ true
    → n ≤ largest_frame (agreed e.state.settings) - e.state.decoded
    → (let k = before_special e.state.map (take n l) in read_on e l ≡ used_before k (read_on (stored_plain k l e) (drop k l)))
copies-on zero l e a m c f d = none-plain e l
copies-on (suc n) [] e a m c f d = none-plain e []
copies-on (suc n) (x ∷ l) e a m c f d =
    by-first (is_special e.state.map) (λ k. read_on e (x ∷ l) ≡ used_before k (read_on (stored_plain k (x ∷ l) e) (drop k (x ∷ l)))) x (take n l) (λ _. none-plain e (x ∷ l))
    (λ t.
    let p = copies e x a m c f (omega arith) (not_flag e.state.map x t) (not-escape e.state.map x t) (not-removed e.state.map x t) in
    let k = before_special e.state.map (take n l) in
    let r = subst (λ (h : Receive). ReceiverReady h.after) p (after-quiet e x (ap (λ (h : Receive). h.report) p)) in
    from-quiet e x l _ (sym p) refl
    ∙ ap (used_before 1) (copies-on n l _ r m c f (omega arith))
    ∙ ap (λ (g : ReceiverEnd). used_before 1 (used_before k (read_on g (drop k l)))) (plain-stored-more k x l e)
    ∙ one-behind _ _)

-- the same as the code does it
module _ (e : ReceiverEnd) (l : List ℕ) (n used : ℕ) (area : List ℕ) (a : ReceiverReady e) (c : e.state.refusal ≡ 0) (f : PlainFrame e.state)
    (d : n ≤ largest_frame (agreed e.state.settings) - e.state.decoded) (k : used ≡ before_special e.state.map (take n l)) where
  plain-on : area ≡ write (work e).area e.state.decoded (take used l) → e.state.decoded + length (take used l) ≤ length (work e).area
      → read_on e l ≡ used_before used (read_on (after_plain used area e) (drop used l))
  plain-on w g =
      let p : read_on e l ≡ used_before used (read_on (stored_plain used l e) (drop used l)) = rw k (copies-on n l e a f.reads c f.framed d) in
      p ∙ ap (λ (b : List ℕ). used_before used (read_on (after_plain used b e) (drop used l))) (sets-eq (take used l) (work e).area e.state.decoded g ∙ sym w)

  abbrev behind : List ℕ → List ℕ → ReceiverEnd
  behind first second = record { state = with_decoded (e.state.decoded + used) e.state; first = first; second = second }

  room : Fitting e l n used
  room = fits e l (is_special e.state.map) n used a k (omega arith)

  pub plain_second : e.state.turn ≡ true → area ≡ write e.second e.state.decoded (take used l)
      → read_on e l ≡ used_before used (read_on (behind e.first area) (drop used l))
  plain_second t w = simp t (simp t at (plain-on (simp t w) (simp t room.second)))

  pub plain-first : e.state.turn ≡ false → area ≡ write e.first e.state.decoded (take used l)
      → read_on e l ≡ used_before used (read_on (behind area e.second) (drop used l))
  plain-first t w = simp t (simp t at (plain-on (simp t w) (simp t room.first)))
