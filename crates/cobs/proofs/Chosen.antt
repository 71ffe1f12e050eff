-- What the sender's choice gives, at a rest of D.
use mathlib.Core.Path.{◌≡◌, ap, sym, ◌∙◌}
use mathlib.Core.Bool.{Bool, true, ◌&&◌}
use mathlib.Core.List.{List}
use Prim.Native.Nat.{ℕ, ◌+◌, ◌-◌, ◌≤◌, ◌<◌}
use native.Mathlib.Omega.{arith}
use borrow.Author.Tests.{leb-true, eqb-true, eqb-false}
use lib.Dec.{leb, eqb}
use lib.ListN.{length, drop, get_or, length-drop}
use lib.Seq.{get_or-drop}
use Rattle.cobs.specs.CodeBlocks.{Choice, with_phantom, leading_zeros, leading_nonzeros, choice, is_zero, is_nonzero}
use Rattle.cobs.proofs.Tests.{branch, and_left, and_right}
use Rattle.cobs.proofs.Leading.{EndsInZero, at_most, within, zeros-at, nonzeros-at, nonzeros-end, nonzeros-inside}
use Rattle.cobs.proofs.Phantom.{long, ends, ends-drop}
use Rattle.cobs.proofs.Table.{Row, plain_row, full-row, run_row, pair_row}

-- A block that stands at the head of a rest of D: its code is agreed, its data octets stand next and none is zero, then its zeros stand.
-- The data octets are not all of the rest, since the phantom is none of them.
pub record Stands (zxe : Bool) (rest : List ℕ) (c : Choice) : Type 0 where
  pub row : Row zxe c.code c.nonzeros c.zeros
  pub nonzero : (i : ℕ) → i < c.nonzeros → get_or rest i 0 ≡ 0 → ⊥
  pub zero : (i : ℕ) → c.nonzeros ≤ i → i < c.nonzeros + c.zeros → get_or rest i 0 ≡ 0
  pub inside : c.nonzeros + c.zeros ≤ length rest
  pub more : c.nonzeros < length rest

module _ (zxe : Bool) (rest : List ℕ) (some : 0 < length rest) (end : EndsInZero rest) where
  pub chosen : Stands zxe rest (choice zxe rest)
  unfolding choice
  chosen =
      let most : ℕ = 15 in
      let z = leading_zeros most rest in
      let k = leading_nonzeros 207 rest in
      let y = leading_zeros 2 (drop k rest) in
      let kin : k < length rest = nonzeros-inside 207 rest some end in
      let kmost : k ≤ 207 = at_most is_nonzero 207 rest in
      let run = leb 3 z in
      branch (Stands zxe rest) (zxe && run)
      (λ e.
      record {
        row = run_row z (and_left zxe run e) (omega (arith, leb-true _ z (and_right zxe run e))) (omega (arith, at_most is_zero most rest));
        nonzero = λ i h. absurd (omega arith);
        zero = λ i h l. zeros-at most rest i (omega arith);
        inside = omega (arith, within is_zero most rest);
        more = some;
      })
      (λ _. branch (Stands zxe rest) (eqb k 207)
      (λ e.
      let k-is : k ≡ 207 = eqb-true k 207 e in
      record {
        row = full-row;
        nonzero = λ i h. nonzeros-at 207 rest i (omega arith);
        zero = λ i h l. absurd (omega arith);
        inside = omega arith;
        more = omega arith;
      })
      (λ e.
      let less : k < 207 = (let n : k ≡ 207 → ⊥ = eqb-false k 207 e in omega arith) in
      let few = leb k 30 in
      let pair = eqb y 2 in
      branch (Stands zxe rest) (zxe && few && pair)
      (λ t.
      let on-few : (zxe && few) ≡ true = and_left (zxe && few) pair t in
      let two : y ≡ 2 = eqb-true y 2 (and_right (zxe && few) pair t) in
      record {
        row = pair_row k (and_left zxe few on-few) (omega (arith, leb-true k _ (and_right zxe few on-few)));
        nonzero = nonzeros-at 207 rest;
        zero = λ i h l. ap (λ (j : ℕ). get_or rest j 0) (omega arith) ∙ (sym (get_or-drop k rest (i - k) 0) ∙ zeros-at 2 (drop k rest) (i - k) (omega arith));
        inside = omega (arith, within is_zero 2 (drop k rest), length-drop k rest);
        more = kin;
      })
      (λ _.
      record {
        row = plain_row k less;
        nonzero = nonzeros-at 207 rest;
        zero = λ i h l. ap (λ (j : ℕ). get_or rest j 0) (omega arith) ∙ nonzeros-end 207 rest less kin;
        inside = omega arith;
        more = kin;
      })))

-- at a position of a frame's D
pub chosen_at : (zxe : Bool) (f : List ℕ) (pos : ℕ) → pos ≤ length f
    → Stands zxe (drop pos (with_phantom f)) (choice zxe (drop pos (with_phantom f)))
chosen_at zxe f pos h =
    chosen zxe (drop pos (with_phantom f)) (omega (arith, length-drop pos (with_phantom f), long f)) (ends-drop (with_phantom f) (ends f) pos)

-- no code that is chosen is FF
pub code_below : (zxe : Bool) (rest : List ℕ) → (choice zxe rest).code < 0xFF
unfolding choice
code_below zxe rest =
    let z = leading_zeros 15 rest in
    let k = leading_nonzeros 207 rest in
    let P : Choice → Type 0 = λ c. c.code < 0xFF in
    let two = eqb (leading_zeros 2 (drop k rest)) 2 in
    branch P (zxe && leb 3 z) (λ _. omega (arith, at_most is_zero 15 rest))
    (λ _. branch P (eqb k 207) (λ _. omega arith)
    (λ e. branch P (zxe && leb k 30 && two)
    (λ p. omega (arith, leb-true k 30 (and_right zxe (leb k 30) (and_left (zxe && leb k 30) two p))))
    (λ _. omega (arith, at_most is_nonzero 207 rest, eqb-false k 207 e))))
