-- The code table, row by row.
use mathlib.Core.Path.{◌≡◌, refl, ap, ◌∙◌}
use mathlib.Core.Bool.{Bool, true, false, not, ◌&&◌}
use Prim.Native.Nat.{ℕ, ◌+◌, ◌-◌, ◌≤◌, ◌<◌}
use native.Mathlib.Omega.{arith}
use borrow.Author.Rules.{rules}
use borrow.Author.Tests.{leb-true, eqb-true, le-leb, lt-leb, ne_eqb, not-false}
use lib.Dec.{leb, eqb}
use Rattle.std.specs.Prelude.{Ok, Err}
use Rattle.cobs.specs.CodeBlocks.{Meaning, NotAgreed, NoCode, in_row, in_range, code_table, meaning, zeros_in}
use Rattle.cobs.specs.Frames.{TheTable}
use Rattle.cobs.proofs.Tests.{branch, false-true, and_left, and_right}

-- a code and a range of codes
module _ (first last c : ℕ) where
  below : c < first → in_range first last c ≡ false
  unfolding in_range
  below h = rw (lt-leb first c h)

  past : first ≤ c → last < c → in_range first last c ≡ false
  unfolding in_range
  past h k = rw (le-leb first c h, lt-leb c last k)

  inside : first ≤ c → c ≤ last → in_range first last c ≡ true
  unfolding in_range
  inside h k = rw (le-leb first c h, le-leb c last k)

  between : in_range first last c ≡ true → (first ≤ c) × (c ≤ last)
  unfolding in_range
  between e = (leb-true first c (and_left (leb first c) (leb c last) e), leb-true c last (and_right (leb first c) (leb c last) e))

module _ (zxe : Bool) (c : ℕ) where
  -- 01-CF and D0, under either setting
  pub plain : 1 ≤ c → c ≤ 0xCF → meaning zxe c ≡ in_row (c - 1) 1
  unfolding meaning code_table
  plain h k = rw (below 0xD3 0xFE c (omega arith), inside 0x01 0xCF c h k)

  pub full : c ≡ 0xD0 → meaning zxe c ≡ in_row 207 0
  unfolding in_range meaning code_table
  full e = rw e

  -- D3-DF and E0-FE, where ZXE allows them
  pub run : zxe ≡ true → 0xD3 ≤ c → c ≤ 0xDF → meaning zxe c ≡ in_row 0 (c - 0xD0)
  unfolding meaning code_table
  run on h k =
      rw (on, inside 0xD3 0xFE c h (omega arith), past 0x01 0xCF c (omega arith) (omega arith), ne_eqb c 0xD0 (λ e. omega arith), inside 0xD3 0xDF c h k)

  pub pair : zxe ≡ true → 0xE0 ≤ c → c ≤ 0xFE → meaning zxe c ≡ in_row (c - 0xE0) 2
  unfolding meaning code_table
  pair on h k =
      rw (
        on,
        inside 0xD3 0xFE c (omega arith) k,
        past 0x01 0xCF c (omega arith) (omega arith),
        ne_eqb c 0xD0 (λ e. omega arith),
        past 0xD3 0xDF c (omega arith) (omega arith),
        inside 0xE0 0xFE c h k,
      )

  -- without it they are not agreed
  pub not-agreed : zxe ≡ false → 0xD3 ≤ c → c ≤ 0xFE → meaning zxe c ≡ Err NotAgreed
  unfolding meaning
  not-agreed off h k = rw (off, inside 0xD3 0xFE c h k)

  -- zero, D1 and D2, and FF are no codes
  pub unused : c ≡ 0 → meaning zxe c ≡ Err NoCode
  unfolding in_range meaning code_table
  unused e = rw e

  pub reserved : 0xD1 ≤ c → c ≤ 0xD2 → meaning zxe c ≡ Err NoCode
  unfolding meaning code_table
  reserved h k =
      rw (
        below 0xD3 0xFE c (omega arith),
        past 0x01 0xCF c (omega arith) (omega arith),
        ne_eqb c 0xD0 (λ e. omega arith),
        below 0xD3 0xDF c (omega arith),
        below 0xE0 0xFE c (omega arith),
      )

  pub above : 0xFF ≤ c → meaning zxe c ≡ Err NoCode
  unfolding meaning code_table
  above h =
      rw (
        past 0xD3 0xFE c (omega arith) h,
        past 0x01 0xCF c (omega arith) (omega arith),
        ne_eqb c 0xD0 (λ e. omega arith),
        past 0xD3 0xDF c (omega arith) (omega arith),
        past 0xE0 0xFE c (omega arith) h,
      )

-- an agreed code is in the table as it is under the setting
pub agreed-table : (zxe : Bool) (c n z : ℕ) → meaning zxe c ≡ in_row n z → code_table c ≡ in_row n z
unfolding meaning
agreed-table zxe c n z =
    branch (λ m. m ≡ in_row n z → code_table c ≡ in_row n z) (in_range 0xD3 0xFE c && not zxe)
    (λ e q. absurd (let w : ◌≡◌ {A = ℕ} 0 1 = cc in omega arith))
    (λ e q. q)

-- ---- the four rows as one view: a code that is agreed, its data octets and its zeros

pub data Row (zxe : Bool) : ℕ → ℕ → ℕ → Type 0 where
  plain_row : (k : ℕ) → k < 207 → Row zxe (k + 1) k 1
  full-row : Row zxe 0xD0 207 0
  run_row : (z : ℕ) → zxe ≡ true → 3 ≤ z → z ≤ 15 → Row zxe (0xD0 + z) 0 z
  pair_row : (k : ℕ) → zxe ≡ true → k ≤ 30 → Row zxe (0xE0 + k) k 2

pub row_read : {zxe : Bool} {c n z : ℕ} → Row zxe c n z → meaning zxe c ≡ in_row n z
row_read {zxe} (plain_row k h) = plain zxe (k + 1) (omega arith) (omega arith) ∙ ap (λ (n : ℕ). in_row n 1) (omega arith)
row_read {zxe} full-row = full zxe 0xD0 refl
row_read {zxe} (run_row z on h k) = run zxe (0xD0 + z) on (omega arith) (omega arith) ∙ ap (in_row 0) (omega arith)
row_read {zxe} (pair_row k on h) = pair zxe (0xE0 + k) on (omega arith) (omega arith) ∙ ap (λ (n : ℕ). in_row n 2) (omega arith)

nonzeros_in : Meaning → ℕ
nonzeros_in (Ok r) = r.nonzeros
nonzeros_in (Err _) = 0

row_at : {zxe : Bool} {c n z d m y : ℕ} → Row zxe c n z → d ≡ c → in_row n z ≡ in_row m y → Row zxe d m y
unfolding nonzeros_in
row_at r e q = let n = ap nonzeros_in q in let z = ap zeros_in q in rw (e, ← n, ← z) r

pub read-row : (zxe : Bool) (c n z : ℕ) → meaning zxe c ≡ in_row n z → Row zxe c n z
unfolding meaning code_table
read-row zxe c n z =
    branch Read (in_range 0xD3 0xFE c && not zxe) (λ e q. absurd (let w : ◌≡◌ {A = ℕ} 0 1 = cc in omega arith))
    (λ off. branch Read (in_range 0x01 0xCF c)
    (λ e q. let r = between 0x01 0xCF c e in row_at (plain_row (c - 1) (omega arith)) (omega arith) q)
    (λ _. branch Read (eqb c 0xD0) (λ e q. row_at full-row (eqb-true c 0xD0 e) q)
    (λ _. branch Read (in_range 0xD3 0xDF c)
    (λ e q.
    let r = between 0xD3 0xDF c e in
    row_at (run_row (c - 0xD0) (on off (omega arith) (omega arith)) (omega arith) (omega arith)) (omega arith) q)
    (λ _. branch Read (in_range 0xE0 0xFE c)
    (λ e q. let r = between 0xE0 0xFE c e in row_at (pair_row (c - 0xE0) (on off (omega arith) (omega arith)) (omega arith)) (omega arith) q)
    (λ _ q. absurd (let w : ◌≡◌ {A = ℕ} 0 1 = cc in omega arith))))))
  where
    Read : Meaning → Type 0
    Read m = m ≡ in_row n z → Row zxe c n z

    on : (in_range 0xD3 0xFE c && not zxe) ≡ false → 0xD3 ≤ c → c ≤ 0xFE → zxe ≡ true
    on off h k = not-false zxe (rw (inside 0xD3 0xFE c h k) at off)

-- a code that is agreed without ZXE is agreed with it
pub row-with : {c n z : ℕ} (zxe : Bool) → Row false c n z → Row zxe c n z
row-with zxe (plain_row k h) = plain_row k h
row-with zxe full-row = full-row
row-with zxe (run_row z on h k) = false-true on
row-with zxe (pair_row k on h) = false-true on

-- what follows of the three numbers
pub record Numbers (c n z : ℕ) : Type 0 where
  pub code-some : 0 < c
  pub code_below : c < 0xFF
  pub code-used : c ≡ 0xD1 → ⊥
  pub nonzeros-most : n ≤ 207
  pub zeros-most : z ≤ 15
  pub zeros-few : 0 < n → z ≤ 2
  pub covers : 0 < n + z
  pub full-zeros : c ≡ 0xD0 → z ≡ 0
  pub none-full : z ≡ 0 → (c ≡ 0xD0) × (n ≡ 207)

pub numbers : {zxe : Bool} {c n z : ℕ} → Row zxe c n z → Numbers c n z
numbers (plain_row k h) = search rules
numbers full-row = search rules
numbers (run_row z on h k) = search rules
numbers (pair_row k on h) = search rules

pub the-table : TheTable
the-table =
    record {
      plain = plain;
      full = λ zxe. full zxe 0xD0 refl;
      runs = λ c. run true c refl;
      pairs = λ c. pair true c refl;
      not_agreed = λ c. not-agreed false c refl;
      zero = λ zxe. unused zxe 0 refl;
      reserved = reserved;
      above = above;
    }
