-- A bit of an octet, and the mark that it is.
use mathlib.Core.Path.{◌≡◌, ap, ◌∙◌}
use mathlib.Core.List.{List}
use Prim.Native.Nat.{ℕ, ◌+◌, ◌-◌, ◌*◌, ◌/◌, ◌%◌, ◌^◌, ◌<◌}
use native.Mathlib.Nat.{zero-mul, one-mul}
use native.Mathlib.Omega.{arith}
use borrow.Author.Tests.{eqb-true, eqb-false}
use lib.Bits.{bit_or, and_high, or_add_and}
use lib.Dec.{eqb, lit<}
use lib.ListN.{get_or, set}
use lib.Pow.{pow-add, shl_exact}
use lib.Seq.{set-get_or}
use Rattle.cobs.proofs.Tests.{branch}
use Rattle.plain.specs.Maps.{marked, marking}

-- the code's `1 << k`
pub one_bit : (k : ℕ) → k < 8 → 1 * 2 ^ k % 0x100 ≡ 2 ^ k
one_bit k h = shl_exact 1 k 8 (lit< tt) (omega arith) ∙ one-mul (2 ^ k)

-- `n | 1 << k`: nothing changes where the bit is set, and else it is added
or-bit : (n k : ℕ) → bit_or n (2 ^ k) + n / 2 ^ k % 2 * 2 ^ k ≡ n + 2 ^ k
or-bit n k =
    let e : 2 ^ (1 + k) - 2 ^ k ≡ 2 ^ k = omega (arith, pow-add 2 1 k) in
    rw (← and_high n 1 k, e) (or_add_and n (2 ^ k))

bit-set : (n k : ℕ) → n / 2 ^ k % 2 ≡ 1 → bit_or n (2 ^ k) ≡ n
bit-set n k e = let p = rw (e, one-mul) at (or-bit n k) in omega arith

bit_added : (n k : ℕ) → (n / 2 ^ k % 2 ≡ 1 → ⊥) → bit_or n (2 ^ k) ≡ n + 2 ^ k
bit_added n k d =
    let e : n / 2 ^ k % 2 ≡ 0 = omega arith in
    let p = rw (e, zero-mul) at (or-bit n k) in
    omega arith

pub marked-one : (marks : List ℕ) (x : ℕ) → set marks (x / 8) (bit_or (get_or marks (x / 8) 0) (2 ^ (x % 8))) ≡ marking x marks
unfolding marked marking
marked-one marks x =
    let n = get_or marks (x / 8) 0 in
    let k = x % 8 in
    branch (λ (m : List ℕ). set marks (x / 8) (bit_or n (2 ^ k)) ≡ m) (eqb (n / 2 ^ k % 2) 1)
    (λ e. ap (set marks (x / 8)) (bit-set n k (eqb-true (n / 2 ^ k % 2) 1 e)) ∙ set-get_or marks (x / 8) 0)
    (λ e. ap (set marks (x / 8)) (bit_added n k (eqb-false (n / 2 ^ k % 2) 1 e)))
