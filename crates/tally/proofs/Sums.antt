-- Each count is the number of reports of its kind, and below the largest they add up.
use mathlib.Core.Bool.{Bool, true, false, ◌&&◌, ◌||◌}
use mathlib.Core.List.{List, [], ◌∷◌, sum}
use mathlib.Core.Logic.{◌⊎◌, ⊎_elim}
use mathlib.Core.Path.{◌≡◌, refl, sym, ◌∙◌}
use Prim.Native.Nat.{ℕ, zero, suc, ◌+◌, ◌-◌, ◌≤◌, ◌<◌, min}
use native.Mathlib.Nat.{le_of_suc-le-suc}
use native.Mathlib.Omega.{arith}
use borrow.Author.Tests.{ltb-true, ltb-false, leb-true, eqb-true, le-leb, lt-leb, lt-ltb, eq-eqb, ne_eqb}
use lib.Dec.{leb, ltb, eqb}
use lib.ListN.{length, get_or, set, length-set, get_or-replicate}
use lib.Seq.{get_or-set_same, get_or-set_other}
use Rattle.std.specs.Prelude.{if◌then◌else◌, Option, Some, None, is_some}
use Rattle.cobs.proofs.Tests.{branch, decide, and_left, and_right}
use Rattle.link.proofs.Tests.{true-false, false-true, or_cases}
use Rattle.link.specs.Answers.{Answer, done, octet, idle, quiet, packet, held, refused}
use Rattle.tally.specs.Counts.{Tally, places, largest_count, empty_tally, place, of_frame, count_at, raised, raised_at, note}
use Rattle.tally.specs.Sums.{total, is_counted, of_kind, FramesCounted, NamedRightly, Fits, LargestOf64Bits, EachCount, AddUp, FromEmpty}

-- ---- a report is counted at the place of its kind, and at no other

pub at_place : (p : ℕ) → p < places → (r : Answer) → of_kind p r ≡ true → place r ≡ Some p
at_place p h done e = false-true e
at_place p h (octet x) e = false-true e
at_place p h idle e = false-true e
at_place p h quiet e = false-true e
at_place p h (packet second n) e = rw (eqb-true p 0 e)
at_place p h (held n replaced) e = rw (eqb-true p (if replaced then 2 else 1) e)
at_place p h (refused n) e =
    or_cases (leb 3 p && leb p 12 && eqb n (p + 2) || eqb p 13 && eqb n 18) (eqb p 14 && eqb n 21) e
    (λ i. or_cases (leb 3 p && leb p 12 && eqb n (p + 2)) (eqb p 13 && eqb n 18) i
    (λ k.
    let both = and_left (leb 3 p && leb p 12) (eqb n (p + 2)) k in
    let l = leb-true 3 p (and_left (leb 3 p) (leb p 12) both) in
    let m = leb-true p 12 (and_right (leb 3 p) (leb p 12) both) in
    let is = eqb-true n (p + 2) (and_right (leb 3 p && leb p 12) (eqb n (p + 2)) k) in
    let here : 3 + (n - 5) ≡ p = omega arith in
    rw (le-leb 5 n (omega arith), le-leb n 14 (omega arith), here))
    (λ k. rw (eqb-true p 13 (and_left (eqb p 13) (eqb n 18) k), eqb-true n 18 (and_right (eqb p 13) (eqb n 18) k))))
    (λ k. rw (eqb-true p 14 (and_left (eqb p 14) (eqb n 21) k), eqb-true n 21 (and_right (eqb p 14) (eqb n 21) k)))

pub only-there : (p : ℕ) (r : Answer) → place r ≡ Some p → of_kind p r ≡ true
only-there p done e = cc
only-there p (octet x) e = cc
only-there p idle e = cc
only-there p quiet e = cc
only-there p (packet second n) e = eq-eqb p 0 (cc)
only-there p (held n replaced) e = eq-eqb p (if replaced then 2 else 1) (cc)
only-there p (refused n) e =
    branch (λ (o : Option ℕ). o ≡ Some p → of_kind p (refused n) ≡ true) (leb 5 n && leb n 14)
    (λ t q.
    let l = leb-true 5 n (and_left (leb 5 n) (leb n 14) t) in
    let u = leb-true n 14 (and_right (leb 5 n) (leb n 14) t) in
    let here : 3 + (n - 5) ≡ p = cc in
    rw (le-leb 3 p (omega arith), le-leb p 12 (omega arith), eq-eqb n (p + 2) (omega arith)))
    (λ _. branch (λ (o : Option ℕ). o ≡ Some p → of_kind p (refused n) ≡ true) (eqb n 18) (λ t q. let here : p ≡ 13 = cc in rw (here, t))
    (λ _. branch (λ (o : Option ℕ). o ≡ Some p → of_kind p (refused n) ≡ true) (eqb n 21) (λ t q. let here : p ≡ 14 = cc in rw (here, t)) (λ _ q. cc)))
    e

-- a report that is counted has a place, and that is one of the counts'
pub has-place : (r : Answer) → is_counted r ≡ is_some (place r)
has-place done = refl
has-place (octet x) = refl
has-place idle = refl
has-place quiet = refl
has-place (packet second n) = refl
has-place (held n replaced) = refl
has-place (refused n) =
    branch (λ (o : Option ℕ). of_frame n ≡ is_some o) (leb 5 n && leb n 14) (λ t. rw t)
    (λ t. branch (λ (o : Option ℕ). of_frame n ≡ is_some o) (eqb n 18) (λ u. rw (t, u))
    (λ u. branch (λ (o : Option ℕ). of_frame n ≡ is_some o) (eqb n 21) (λ v. rw (t, u, v)) (λ v. rw (t, u, v))))

pub place-within : (r : Answer) (p : ℕ) → place r ≡ Some p → p < places
place-within done p e = cc
place-within (octet x) p e = cc
place-within idle p e = cc
place-within quiet p e = cc
place-within (packet second n) p e = let here : p ≡ 0 = cc in omega arith
place-within (held n true) p e = let here : p ≡ 2 = cc in omega arith
place-within (held n false) p e = let here : p ≡ 1 = cc in omega arith
place-within (refused n) p e =
    branch (λ (o : Option ℕ). o ≡ Some p → p < places) (leb 5 n && leb n 14)
    (λ t q.
    let u = leb-true n 14 (and_right (leb 5 n) (leb n 14) t) in
    let here : 3 + (n - 5) ≡ p = cc in
    omega arith)
    (λ _. branch (λ (o : Option ℕ). o ≡ Some p → p < places) (eqb n 18) (λ _ q. let here : p ≡ 13 = cc in omega arith)
    (λ _. branch (λ (o : Option ℕ). o ≡ Some p → p < places) (eqb n 21) (λ _ q. let here : p ≡ 14 = cc in omega arith) (λ _ q. cc)))
    e

or-false : (b : Bool) → (b || false) ≡ b
or-false true = refl
or-false false = refl

pub named-rightly : NamedRightly
named-rightly p n =
    decide (leb 3 p && leb p 12)
    (λ k.
    let m = leb-true p 12 (and_right (leb 3 p) (leb p 12) k) in
    rw (k, ne_eqb p 13 (λ q. omega arith), ne_eqb p 14 (λ q. omega arith)) (or-false (eqb n (p + 2) || false) ∙ or-false (eqb n (p + 2))))
    (λ k. decide (eqb p 13) (λ i. rw (eqb-true p 13 i) (or-false (eqb n 18)))
    (λ i. decide (eqb p 14) (λ j. rw (eqb-true p 14 j)) (λ j. rw (k, i, j))))

pub of-frame : (n : ℕ) → 5 ≤ n → (n ≤ 14) ⊎ (n ≡ 18) ⊎ (n ≡ 21) → of_frame n ≡ true
of-frame n low = ⊎_elim (λ high. rw (le-leb 5 n low, le-leb n 14 high)) (⊎_elim (λ is. rw is) (λ is. rw is))

pub not-of-frame : (n : ℕ) → n < 5 → of_frame n ≡ false
not-of-frame n low = rw (lt-leb 5 n low, ne_eqb n 18 (λ q. omega arith), ne_eqb n 21 (λ q. omega arith))

pub frames-counted : FramesCounted
frames-counted = record { frames = of-frame; calls = not-of-frame }

-- ---- one report

none-raised : (t : Tally) (o : Option ℕ) → is_some o ≡ false → raised_at t o ≡ t
none-raised t None e = refl
none-raised t (Some p) e = true-false e

-- A report that is not counted raises no count. Quiet is one.
pub note-none : (t : Tally) (r : Answer) → is_counted r ≡ false → note t r ≡ t
unfolding note
note-none t r e = none-raised t (place r) (sym (has-place r) ∙ e)

pub note-quiet : (t : Tally) → note t quiet ≡ t
note-quiet t = note-none t quiet refl

pub raised_is : (n : ℕ) → n ≤ largest_count → raised n ≡ min largest_count (n + 1)
raised_is n h =
    branch (λ m. m ≡ min largest_count (n + 1)) (ltb n largest_count) (λ e. let l = ltb-true n largest_count e in omega arith) (λ e. let l = ltb-false n largest_count e in omega arith)

-- one more at a place is one more in all
sum-set : (l : List ℕ) (i : ℕ) → i < length l → sum ◌+◌ 0 (set l i (get_or l i 0 + 1)) ≡ sum ◌+◌ 0 l + 1
unfolding sum
sum-set [] i h = absurd (omega arith)
sum-set (x ∷ xs) zero h = omega arith
sum-set (x ∷ xs) (suc i) h = let e = sum-set xs i (le_of_suc-le-suc h) in omega arith

module _ (t : Tally) (fits : Fits t) where
  -- a place, if there is one, and whether it is p
  count-raised : (p : ℕ) → p < places → (o : Option ℕ) (b : Bool) → (b ≡ true → o ≡ Some p) → (o ≡ Some p → b ≡ true)
      → count_at (raised_at t o) p ≡ min largest_count (count_at t p + (if b then 1 else 0))
  count-raised p h None true f g = let e = f refl in cc
  count-raised p h None false f g = let m = fits.small p h in omega arith
  count-raised p h (Some q) true f g =
      let l = fits.fifteen in
      let e = f refl in
      let here : q ≡ p = cc in
      rw here (get_or-set_same t.counts p (raised (count_at t p)) 0 (omega arith) ∙ raised_is (count_at t p) (fits.small p h))
  count-raised p h (Some q) false f g =
      let m = fits.small p h in
      get_or-set_other t.counts q p _ 0 (λ e. false-true (g (rw e))) ∙ omega arith

  fits-raised : (o : Option ℕ) → length (raised_at t o).counts ≡ places
  fits-raised None = fits.fifteen
  fits-raised (Some p) = simp length-set fits.fifteen

  total-raised : (o : Option ℕ) → ((p : ℕ) → o ≡ Some p → (p < places) × (count_at t p < largest_count))
      → total (raised_at t o) ≡ total t + (if is_some o then 1 else 0)
  total-raised None low = omega arith
  total-raised (Some p) low =
      let l = fits.fifteen in
      let k = low p refl in
      simp (lt-ltb _ _ k.1) (sum-set t.counts p (omega arith))

  module _ (r : Answer) where
    -- each count
    count-note : (p : ℕ) → p < places → count_at (note t r) p ≡ min largest_count (count_at t p + (if of_kind p r then 1 else 0))
    unfolding note
    count-note p h = count-raised p h (place r) (of_kind p r) (at_place p h r) (only-there p r)

    fits-note : Fits (note t r)
    unfolding note
    fits-note = record { fifteen = fits-raised (place r); small = λ p h. omega (arith, count-note p h) }

    -- all counts
    total-note : ((p : ℕ) → place r ≡ Some p → count_at t p < largest_count) → total (note t r) ≡ total t + (if is_counted r then 1 else 0)
    unfolding note
    total-note low = rw (has-place r) (total-raised (place r) (λ p e. (place-within r p e, low p e)))

-- ---- the largest count

pub largest-of-64-bits : LargestOf64Bits
largest-of-64-bits = refl

-- ---- a list of reports

pub each-count : EachCount
each-count t fits [] p h = omega (arith, fits.small p h)
each-count t fits (r ∷ rs) p h = each-count (note t r) (fits-note t fits r) rs p h ∙ omega (arith, count-note t fits r p h)

pub add-up : AddUp
add-up t fits [] below = omega arith
add-up t fits (r ∷ rs) below =
    add-up (note t r) (fits-note t fits r) rs below
    ∙ omega (arith, total-note t fits r (λ p e. let h = place-within r p e in omega (arith, each-count t fits (r ∷ rs) p h, below p h)))

none_yet : (p : ℕ) → p < places → count_at empty_tally p ≡ 0
none_yet p h = get_or-replicate places p 0 0 h

fits-empty : Fits empty_tally
fits-empty = record { fifteen = refl; small = λ p h. omega (arith, none_yet p h) }

pub from_empty : FromEmpty
unfolding sum
from_empty =
    record {
      each = λ rs below p h. omega (arith, each-count empty_tally fits-empty rs p h, none_yet p h, below p h);
      together = λ rs below. add-up empty_tally fits-empty rs below ∙ omega arith;
    }
