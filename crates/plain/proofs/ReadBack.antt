-- What is sent reads back, and what is removed leaves no trace; and cases, computed.
use mathlib.Core.Path.{◌≡◌, refl, sym, ap, ◌∙◌}
use mathlib.Core.Bool.{Bool, true, false, not, ◌&&◌}
use mathlib.Core.Logic.{⊎_elim}
use mathlib.Core.List.Memᴰ
use mathlib.Core.List.{List, [], ◌∷◌, flat_map, Memᴰ}
use Prim.Native.Nat.{ℕ, ◌+◌, ◌*◌, ◌/◌, ◌%◌, ◌≤◌, ◌<◌}
use native.Mathlib.Omega.{arith}
use borrow.Author.Tests.{eqb-false, ltb-true, ltb-false, not-true}
use lib.Bits.{xor_add_and, and_high}
use lib.Dec.{ltb}
use Rattle.fcs.specs.Notation.{◌⊕◌}
use Rattle.cobs.specs.CodeBlocks.{flag}
use Rattle.cobs.proofs.Tests.{branch, decide, true-false, and_left, and_right}
use Rattle.plain.specs.Maps.{escape, removed, marked, marking, with_framing, some_from, lacks, marks_wrongly, refused_pair, marks_ok}
use Rattle.plain.specs.Stuffing.{Taken, Removed, Escape, Data, toggled, stuffed_octet, stuffed, line, send, taken}
use Rattle.plain.specs.ReadBack.{unstuffed, data_before, after, kept, SentReadsBack, RemovedLeaveNoTrace, StuffingCases}
use Rattle.plain.proofs.Some.{or_left, or_right, only-with, none_passes}
use Rattle.plain.proofs.Laws.{unstuffed-nil, unstuffed-cons, taken-plainly, taken-escape, taken-escaped, taken-removed, not-removed, stuffed-nil, stuffed-cons, unmarked-octet, marked-octet}

-- ---- an octet's other form

-- 20 more, or less where it has that bit
toggled-is : (x : ℕ) → toggled x + x / 0x20 % 2 * 0x20 * 2 ≡ x + 0x20
unfolding toggled ◌⊕◌
toggled-is x = rw (and_high x 1 5) at (xor_add_and x 0x20)

toggled-twice : (x : ℕ) → toggled (toggled x) ≡ x
toggled-twice x = let p = toggled-is x in let q = toggled-is (toggled x) in omega arith

-- ---- what is sent by a pair of maps that is not refused

module _ (map : ℕ) (marks : List ℕ) (has : lacks map marks ≡ false) (ok : marks_ok marks ≡ true) where
  -- 7D and 7E are sent escaped, and none wrongly is
  escape-marked : marked marks escape ≡ true
  unfolding marks_ok
  escape-marked = and_left _ _ (and_left _ _ ok)

  flag-marked : marked marks flag ≡ true
  unfolding marks_ok
  flag-marked = and_right (marked marks escape) _ (and_left _ _ ok)

  none-wrongly : marks_wrongly marks ≡ false
  unfolding marks_ok
  none-wrongly = not-true (marks_wrongly marks) (and_right (marked marks escape && marked marks flag) _ ok)

  not-5E : marked marks 0x5E ≡ false
  unfolding marks_wrongly
  not-5E = or_left _ _ none-wrongly

  not-20-to-3F : (x : ℕ) → 0x20 ≤ x → x < 0x40 → marked marks x ≡ false
  unfolding marks_wrongly
  not-20-to-3F = none_passes (marked marks) 0x20 0x20 (or_right (marked marks 0x5E) _ none-wrongly)

  -- what is sent as it is is neither removed, nor 7D, nor a flag
  module _ (x : ℕ) (e : marked marks x ≡ false) where
    unmarked-stays : removed map x ≡ false
    unfolding lacks
    unmarked-stays =
        decide (ltb x 0x20)
        (λ t.
        only-with (removed map x) (marked marks x)
        (none_passes (λ y. removed map y && not (marked marks y)) 0 0x20 has x (omega arith) (omega (arith, ltb-true x 0x20 t))) e)
        (λ t. not-removed map x (ltb-false x 0x20 t))

    unmarked-no-escape : x ≡ escape → ⊥
    unmarked-no-escape q = true-false (sym escape-marked ∙ ap (marked marks) (sym q) ∙ e)

    unmarked-no-flag : x ≡ flag → ⊥
    unmarked-no-flag q = true-false (sym flag-marked ∙ ap (marked marks) (sym q) ∙ e)

  -- and what is sent in its other form is then neither removed nor a flag
  module _ (x : ℕ) (e : marked marks x ≡ true) where
    marked-stays : removed map (toggled x) ≡ false
    marked-stays =
        decide (ltb (toggled x) 0x20)
        (λ t.
        let p = toggled-is x in
        let l = ltb-true (toggled x) 0x20 t in
        true-false (sym e ∙ not-20-to-3F x (omega arith) (omega arith)))
        (λ t. not-removed map (toggled x) (ltb-false (toggled x) 0x20 t))

    marked-no-flag : toggled x ≡ flag → ⊥
    marked-no-flag q =
        let p = toggled-is x in
        let i : x ≡ 0x5E = omega arith in
        true-false (sym e ∙ ap (marked marks) i ∙ not-5E)

  reads-back : (xs : List ℕ) → unstuffed map false (stuffed marks xs) ≡ record { octets = xs; escaped = false }
  reads-back [] = rw stuffed-nil (unstuffed-nil map false)
  reads-back (x ∷ xs) =
      decide (marked marks x)
      (λ e.
      rw (stuffed-cons, marked-octet marks x e, unstuffed-cons, taken-escape, unstuffed-cons, taken-escaped map (toggled x) (marked-stays x e), toggled-twice)
      (ap (data_before x) (reads-back xs)))
      (λ e.
      rw (stuffed-cons, unmarked-octet marks x e, unstuffed-cons, taken-plainly map x (unmarked-stays x e) (unmarked-no-escape x e))
      (ap (data_before x) (reads-back xs)))

  octet-flagless : (x : ℕ) → Memᴰ flag (stuffed_octet marks x) → ⊥
  octet-flagless x =
      decide (marked marks x)
      (λ e m.
      ⊎_elim (eqb-false flag escape refl) (λ n. marked-no-flag x e (sym (Memᴰ.eq_of_singleton n)))
      (Memᴰ.cases_cons (rw (marked-octet marks x e) at m)))
      (λ e m. unmarked-no-flag x e (sym (Memᴰ.eq_of_singleton (rw (unmarked-octet marks x e) at m))))

  flagless : (xs : List ℕ) → Memᴰ flag (stuffed marks xs) → ⊥
  flagless [] m = Memᴰ.not-nil (rw stuffed-nil at m)
  flagless (x ∷ xs) m = ⊎_elim (octet-flagless x) (flagless xs) (Memᴰ.append_cases (stuffed_octet marks x) (rw stuffed-cons at m))

pub sent-reads-back : SentReadsBack
sent-reads-back map marks xs has ok = record { same = reads-back map marks has ok xs; no_flag = flagless map marks has ok xs }

-- ---- what is removed

after_same : (map : ℕ) (b : Bool) (t : Taken) (xs ys : List ℕ) → ((c : Bool) → unstuffed map c xs ≡ unstuffed map c ys)
    → after map b t xs ≡ after map b t ys
after_same map b Removed xs ys h = h b
after_same map b Escape xs ys h = h true
after_same map b (Data y) xs ys h = ap (data_before y) (h false)

pub removed-leave-no-trace : RemovedLeaveNoTrace
unfolding kept
removed-leave-no-trace map b [] = refl
removed-leave-no-trace map b (x ∷ xs) =
    branch (λ (ys : List ℕ). unstuffed map b ys ≡ unstuffed map b (x ∷ xs)) (removed map x)
    (λ e. rw (unstuffed-cons, taken-removed map b x e) (removed-leave-no-trace map b xs))
    (λ e.
    unstuffed-cons map b x (kept map xs)
    ∙ after_same map b (taken map b x) (kept map xs) xs (λ c. removed-leave-no-trace map c xs)
    ∙ sym (unstuffed-cons map b x xs))

-- ---- computed

pub stuffing-cases : StuffingCases
unfolding ◌⊕◌ flat_map removed marked marking with_framing some_from lacks marks_wrongly refused_pair toggled stuffed_octet stuffed line send taken unstuffed
stuffing-cases = record {
  framed = refl;
  again = refl;
  alone = refl;
  controls = refl;
  escapes = refl;
  fits = refl;
  exactly = refl;
  fits_not = refl;
  within = refl;
  lacking = refl;
  lacking_last = refl;
  of_5e = refl;
  of20 = refl;
  of_3f = refl;
  allowed = refl;
}
