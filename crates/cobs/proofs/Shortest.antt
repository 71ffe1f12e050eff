-- The sender's blocks are the shortest list, and without ZXE the only one (specs/Shortest.antt). What is chosen at a rest of D has the data
-- octets of any block that may stand there, and as many zeros or more; and zeros less at the head of a rest never make more octets.
use mathlib.Core.Path.{◌≡◌, refl, ap, sym, subst, ◌∙◌}
use mathlib.Core.Bool.{Bool, true, false, ◌&&◌}
use mathlib.Core.Logic.{⊎_elim}
use mathlib.Core.List.Memᴰ
use mathlib.Core.List.{List, [], ◌∷◌, ◌++◌, flat_map, Memᴰ}
use Prim.Native.Nat.{ℕ, zero, suc, ◌+◌, ◌-◌, ◌≤◌, ◌<◌}
use native.Mathlib.Omega.{arith}
use borrow.Author.Tests.{leb-true, leb-false, le-leb, eqb-true, eqb-false, eq-eqb, ltb-true, ltb-false}
use lib.Dec.{leb, eqb, ltb}
use lib.ListN.{length, drop, get_or, replicate, length-append, length-drop, length-replicate, get_or-replicate, get_or-append}
use lib.Seq.{take-append-le, take-append_seam, drop_at, drop-drop, get_or-drop, get_or-append-add}
use Rattle.cobs.specs.CodeBlocks.{with_phantom, in_range, code_table, meaning, to_line, Choice, leading, leading_zeros, leading_nonzeros, is_zero, is_nonzero, choice, Block, zeros_in, zeros_after, Allowed, AllAllowed, decoded_octets, line_octets, covered_by, block_at, blocks_from, blocks, uninterrupted}
use Rattle.cobs.specs.Shortest.{EncodedBy, Shortest, CoversMost, OneListWithoutZxe, ZxeNeverLonger, WorkedLengths, AnotherWithZxe}
use Rattle.cobs.proofs.Tests.{branch, decide, true-false, false-true, and_right}
use Rattle.cobs.proofs.Leading.{EndsInZero, at_most, zeros-at, nonzeros-at, zeros-counted, nonzeros-counted}
use Rattle.cobs.proofs.Phantom.{ends, ends-drop}
use Rattle.cobs.proofs.Table.{Row, plain_row, full-row, run_row, pair_row, row_read, read-row, row-with, agreed-table, numbers}
use Rattle.cobs.proofs.Chosen.{Stands, chosen}
use Rattle.cobs.proofs.Blocks.{nonzero-first, decoded-nil, decoded-cons, on-line-nil, line-length}
use Rattle.cobs.proofs.Frame.{data-long, blocks-none, blocks-next, frame-allowed, frame-decodes}

-- ---- zeros of a row

-- what the zeros of a row say of it
record Zeros (zxe : Bool) (n z : ℕ) : Type 0 where
  one : 1 ≤ z → n < 207
  two : 2 ≤ z → (zxe ≡ true) × (n ≤ 30)
  three : 3 ≤ z → n ≡ 0

zeros-say : {zxe : Bool} {c n z : ℕ} → Row zxe c n z → Zeros zxe n z
zeros-say (plain_row k h) = record { one = λ _. h; two = λ t. absurd (omega arith); three = λ t. absurd (omega arith) }
zeros-say full-row = record { one = λ t. absurd (omega arith); two = λ t. absurd (omega arith); three = λ t. absurd (omega arith) }
zeros-say (run_row z on h k) = record { one = λ t. omega arith; two = λ t. (on, omega arith); three = λ t. refl }
zeros-say (pair_row k on h) = record { one = λ t. omega arith; two = λ t. (on, h); three = λ t. absurd (omega arith) }

-- zeros alone: where so many are a row, so are fewer, but one at least
fewer-zeros : {zxe : Bool} {c z : ℕ} (m : ℕ) → Row zxe c 0 z → 1 ≤ m → m ≤ z → (d : ℕ) × Row zxe d 0 m
fewer-zeros {zxe} {c} {z} m r h k =
    decide (leb m 1) (λ e. let one : m ≡ 1 = (let t = leb-true m 1 e in omega arith) in (1, rw one (plain_row 0 (omega arith))))
    (λ e.
    let t = leb-false m 1 e in
    let on : zxe ≡ true = ((zeros-say r).two (omega arith)).0 in
    decide (leb m 2) (λ p. let two : m ≡ 2 = (let u = leb-true m 2 p in omega arith) in (0xE0, rw two (pair_row 0 on (omega arith))))
    (λ p. let u = leb-false m 2 p in (0xD0 + m, run_row m on (omega arith) (omega (arith, (numbers r).zeros-most)))))

-- ---- what is chosen, beside a block that may stand there

module _ (zxe : Bool) (rest : List ℕ) where
  -- its data octets are those that are counted
  data-counted : (c : Choice) → Stands zxe rest c → leading_nonzeros 207 rest ≡ c.nonzeros
  data-counted c f =
      let k = leading_nonzeros 207 rest in
      let least : c.nonzeros ≤ k = nonzeros-counted 207 c.nonzeros rest (numbers f.row).nonzeros-most (omega (arith, f.inside)) f.nonzero in
      let most : k ≤ 207 = at_most is_nonzero 207 rest in
      decide (ltb c.nonzeros k)
      (λ t.
      let more : c.nonzeros < k = ltb-true c.nonzeros k t in
      let zero : c.zeros ≡ 0 → ⊥ = (λ e. let all = ((numbers f.row).none-full e).1 in omega arith) in
      absurd (nonzeros-at 207 rest c.nonzeros more (f.zero c.nonzeros (omega arith) (omega arith))))
      (λ t. let no : k ≤ c.nonzeros = ltb-false c.nonzeros k t in omega arith)

  -- zeros at the head of the rest are counted as a run, up to its limit; two behind data octets as a pair
  module _ (n z : ℕ) (inside : n + z ≤ length rest) (zeros : (i : ℕ) → n ≤ i → i < n + z → get_or rest i 0 ≡ 0) where
    run-counted : (limit : ℕ) → z ≤ limit → n ≡ 0 → z ≤ leading_zeros limit rest
    run-counted limit most e = zeros-counted limit z rest most (omega arith) (λ i h. zeros i (omega arith) (omega arith))

    pair-counted : 2 ≤ z → leading_zeros 2 (drop n rest) ≡ 2
    pair-counted h =
        let least : 2 ≤ leading_zeros 2 (drop n rest) =
        zeros-counted 2 2 (drop n rest) (omega arith) (omega (arith, length-drop n rest)) (λ i k. get_or-drop n rest i 0 ∙ zeros (n + i) (omega arith) (omega arith)) in
        omega (arith, at_most is_zero 2 (drop n rest))

  -- What is chosen has the same data octets, and as many zeros or more.
  module _ (c : Choice) (f : Stands zxe rest c) where
    as-many-zeros : (c.nonzeros ≡ (choice zxe rest).nonzeros) × (c.zeros ≤ (choice zxe rest).zeros)
    unfolding choice
    as-many-zeros =
        let run = leading_zeros 15 rest in
        let k = leading_nonzeros 207 rest in
        let n = c.nonzeros in
        let z = c.zeros in
        let long = leb 3 run in
        let few = leb k 30 in
        let pair = eqb (leading_zeros 2 (drop k rest)) 2 in
        let same : k ≡ n = data-counted c f in
        let say = zeros-say f.row in
        let in-run : n ≡ 0 → z ≤ run = run-counted n z f.inside f.zero _ (omega (arith, (numbers f.row).zeros-most)) in
        branch AsMany (zxe && long)
        (λ t.
        let some : 0 < run = omega (arith, leb-true _ run (and_right zxe long t)) in
        let none : n ≡ 0 = (let no : 0 < n → ⊥ = (λ h. f.nonzero 0 h (zeros-at _ rest 0 some)) in omega arith) in
        (none, in-run none))
        (λ no_run. branch AsMany (eqb k 207)
        (λ t.
        let all : k ≡ 207 = eqb-true k 207 t in
        let no : 0 < z → ⊥ = (λ h. let less = say.one h in omega arith) in
        (sym same ∙ all, omega arith))
        (λ _. branch AsMany (zxe && few && pair)
        (λ _.
        let no : 2 < z → ⊥ =
        (λ h.
        let w = in-run (say.three h) in
        let is : long ≡ true = le-leb _ run (omega arith) in
        true-false (rw ((say.two (omega arith)).0, is) at no_run)) in
        (sym same, omega arith))
        (λ no-pair.
        let no : 1 < z → ⊥ =
        (λ h.
        let w = say.two h in
        let is : few ≡ true = le-leb k _ (omega (arith, w.1)) in
        let two : pair ≡ true = eq-eqb (leading_zeros 2 (drop k rest)) 2 (rw same (pair-counted n z f.inside f.zero h)) in
        true-false (rw (w.0, is, two) at no-pair)) in
        (sym same, omega arith))))
      where
        AsMany : Choice → Type 0
        AsMany b = (c.nonzeros ≡ b.nonzeros) × (c.zeros ≤ b.zeros)

-- ---- how many octets are sent of a rest of D

module _ (zxe : Bool) where
  sent : List ℕ → ℕ
  sent d = length (line_octets (blocks zxe d))

  sent-none : sent [] ≡ 0
  unfolding sent
  sent-none = rw (blocks-none zxe, on-line-nil)

  sent-next : (d : List ℕ) → 0 < length d → EndsInZero d → (let c = choice zxe d in sent d ≡ 1 + c.nonzeros + sent (drop (covered_by c) d))
  unfolding sent
  sent-next d h e =
      let c = choice zxe d in
      omega (
        arith,
        ap (λ (bs : List Block). length (line_octets bs)) (blocks-next zxe d h e),
        line-length (block_at d c) (blocks zxe (drop (covered_by c) d)),
        data-long zxe d c (chosen zxe d h e),
      )

  -- where only zeros are chosen
  sent-zeros : (d : List ℕ) → 0 < length d → EndsInZero d → (choice zxe d).nonzeros ≡ 0 → sent d ≡ 1 + sent (drop (choice zxe d).zeros d)
  sent-zeros d h e none =
      let same : covered_by (choice zxe d) ≡ (choice zxe d).zeros = omega arith in
      omega (arith, sent-next d h e, ap (λ (i : ℕ). sent (drop i d)) same)

  -- m zeros at the head, where a code says so many: only zeros are chosen, as many or more
  zeros-chosen : (d : List ℕ) (c m : ℕ) → Row zxe c 0 m → 0 < m → m ≤ length d → ((i : ℕ) → i < m → get_or d i 0 ≡ 0)
      → (0 ≡ (choice zxe d).nonzeros) × (m ≤ (choice zxe d).zeros)
  zeros-chosen d c m r h k zeros =
      as-many-zeros zxe d (record { code = c; nonzeros = 0; zeros = m })
      (record { row = r; nonzero = λ i j. absurd (omega arith); zero = λ i _ j. zeros i (omega arith); inside = omega arith; more = omega arith })

  -- Of what is left without zeros at the head no more octets are sent.
  zeros-less : (n : ℕ) (d : List ℕ) (j : ℕ) → length d ≤ n → EndsInZero d → j ≤ length d → ((i : ℕ) → i < j → get_or d i 0 ≡ 0)
      → sent (drop j d) ≤ sent d
  zeros-less zero d j l e h zeros = let none : j ≡ 0 = omega arith in rw none (omega arith)
  zeros-less (suc n) d j l e h zeros =
      decide (eqb j 0) (λ t. rw (eqb-true j 0 t) (omega arith))
      (λ some.
      let more = eqb-false j 0 some in
      let f = chosen zxe d (omega arith) e in
      let z = (choice zxe d).zeros in
      let first = zeros-chosen d 1 1 (plain_row 0 (omega arith)) (omega arith) (omega arith) (λ i t. zeros i (omega arith)) in
      let covered : 1 ≤ z = first.1 in
      let all : sent d ≡ 1 + sent (drop z d) = sent-zeros d (omega arith) e (sym first.0) in
      let less : (i : ℕ) → z ≤ i → i ≤ length d → ((m : ℕ) → z ≤ m → m < i → get_or d m 0 ≡ 0) → sent (drop i d) ≤ sent (drop z d) =
      (λ i past fit zero.
      let same : z + (i - z) ≡ i = omega arith in
      subst (λ (k : List ℕ). sent k ≤ sent (drop z d)) (drop-drop (i - z) z d ∙ ap (λ (k : ℕ). drop k d) same)
      (zeros-less n (drop z d) (i - z) (omega (arith, length-drop z d)) (ends-drop d e z) (omega (arith, length-drop z d))
      (λ m t. get_or-drop z d m 0 ∙ zero (z + m) (omega arith) (omega arith)))) in
      decide (leb z j) (λ t. omega (arith, less j (leb-true z j t) h (λ m _. zeros m)))
      (λ t.
      let before : j < z = leb-false z j t in
      let size = length-drop j d in
      let row = fewer-zeros (z - j) (rw (← first.0) at f.row) (omega arith) (omega arith) in
      let next =
      zeros-chosen (drop j d) row.0 (z - j) row.1 (omega arith) (omega (arith, f.inside))
      (λ i v. get_or-drop j d i 0 ∙ f.zero (j + i) (omega arith) (omega arith)) in
      let y = (choice zxe (drop j d)).zeros in
      let g = chosen zxe (drop j d) (omega (arith, f.inside)) (ends-drop d e j) in
      let there : sent (drop j d) ≡ 1 + sent (drop (j + y) d) =
      rw (← (drop-drop y j d)) (sent-zeros (drop j d) (omega (arith, f.inside)) (ends-drop d e j) (sym next.0)) in
      omega (
        arith,
        less (j + y) (omega (arith, next.1)) (omega (arith, g.inside))
            (λ m u v.
            ap (λ (k : ℕ). get_or d k 0) (omega arith)
            ∙ (sym (get_or-drop j d (m - j) 0) ∙ g.zero (m - j) (omega (arith, next.0)) (omega arith))),
      )))

  -- No block that may stand there is better than the chosen one.
  no-better : (d : List ℕ) (c : Choice) → EndsInZero d → Stands zxe d c → sent d ≤ 1 + c.nonzeros + sent (drop (covered_by c) d)
  no-better d c e f =
      let some : 0 < length d = omega (arith, f.more) in
      let b = choice zxe d in
      let g = chosen zxe d some e in
      let most = as-many-zeros zxe d c f in
      let k = covered_by c in
      let i : ℕ = covered_by b - k in
      let same : k + i ≡ covered_by b = omega (arith, most) in
      let less : sent (drop (covered_by b) d) ≤ sent (drop k d) =
      subst (λ (l : List ℕ). sent l ≤ sent (drop k d)) (drop-drop i k d ∙ ap (λ (m : ℕ). drop m d) same)
      (zeros-less (length d) (drop k d) i (omega (arith, length-drop k d)) (ends-drop d e k) (omega (arith, length-drop k d, g.inside))
      (λ m t. get_or-drop k d m 0 ∙ g.zero (k + m) (omega (arith, most)) (omega (arith, most)))) in
      omega (arith, sent-next d some e, most.0)

-- ---- any blocks

-- a block that is given, as one that is chosen
abbrev as-chosen : Block → Choice
as-chosen b = record { code = b.code; nonzeros = length b.data_octets; zeros = zeros_after b }

abbrev block_of : ℕ → List ℕ → Block
block_of c xs = record { code = c; data_octets = xs }

head-long : (xs : List ℕ) (z : ℕ) → length (xs ++ replicate z 0) ≡ length xs + z
head-long xs z = length-append xs (replicate z 0) ∙ ap (λ (k : ℕ). length xs + k) (length-replicate z 0)

-- octets that a row allows, at the head of a list that ends in zero
module _ (zxe : Bool) (c z : ℕ) (xs l : List ℕ) (r : Row zxe c (length xs) z) (nonzero : Memᴰ 0 xs → ⊥) where
  head-stands : EndsInZero (xs ++ replicate z 0 ++ l) → Stands zxe (xs ++ replicate z 0 ++ l) (record { code = c; nonzeros = length xs; zeros = z })
  head-stands e =
      let d = xs ++ replicate z 0 ++ l in
      let total : length d ≡ length xs + z + length l = omega (arith, length-append (xs ++ replicate z 0) l, head-long xs z) in
      let first : (i : ℕ) → i < length xs + z → get_or d i 0 ≡ get_or (xs ++ replicate z 0) i 0 =
      (λ i h. get_or-append (xs ++ replicate z 0) l 0 i (omega (arith, head-long xs z))) in
      let none : (i : ℕ) → i < length xs → get_or d i 0 ≡ 0 → ⊥ =
      (λ i h q. nonzero-first xs (replicate z 0) i nonzero h (sym (first i (omega arith)) ∙ q)) in
      record {
        row = r;
        nonzero = none;
        zero =
            λ i h k.
            first i k
            ∙ (ap (λ (j : ℕ). get_or (xs ++ replicate z 0) j 0) (omega arith)
            ∙ (get_or-append-add xs (replicate z 0) (i - length xs) 0 ∙ get_or-replicate z (i - length xs) 0 0 (omega arith)));
        inside = omega arith;
        more =
            decide (ltb (length xs) (length d)) (ltb-true (length xs) (length d))
            (λ t.
            let no : length d ≤ length xs = ltb-false (length xs) (length d) t in
            absurd (none (length d - 1) (omega (arith, (numbers r).covers)) e));
      }

-- What holds of no blocks, and of a block and blocks behind it of which it holds, holds of any allowed blocks and what they stand for.
module _
    (zxe : Bool) (P : List Block → List ℕ → Type 0) (none : P [] [])
    (next : (b : Block) (bs : List Block) (d : List ℕ) → EndsInZero d → Stands zxe d (as-chosen b) → block_at d (as-chosen b) ≡ b
    → P bs (drop (covered_by (as-chosen b)) d) → P (b ∷ bs) d)
  where
    by-decoded : (bs : List Block) → AllAllowed zxe bs → EndsInZero (decoded_octets bs) → P bs (decoded_octets bs)
    by-decoded [] all e = rw decoded-nil none
    by-decoded (b ∷ bs) all e =
        let a = all b (Memᴰ.head refl) in
        let xs = b.data_octets in
        let z = zeros_after b in
        let l = decoded_octets bs in
        let r = read-row zxe b.code (length xs) z a.row in
        let long = head-long xs z in
        let end : EndsInZero (xs ++ replicate z 0 ++ l) = rw (decoded-cons b bs) at e in
        let behind : drop (length xs + z) (xs ++ replicate z 0 ++ l) ≡ l = drop_at (xs ++ replicate z 0) l (length xs + z) long in
        let last : EndsInZero l = rw behind at (ends-drop (xs ++ replicate z 0 ++ l) end (length xs + z)) in
        rw (decoded-cons b bs)
        (next b bs (xs ++ replicate z 0 ++ l) end (head-stands zxe b.code z xs l r a.nonzero end)
        (ap (λ (k : List ℕ). block_of b.code k) (take-append-le (length xs) (xs ++ replicate z 0) l (omega (arith, long)) ∙ take-append_seam xs (replicate z 0)))
        (rw behind (by-decoded bs (λ x m. all x (Memᴰ.tail m)) last)))

-- what stands for D ends in zero, as D does
encoded-end : {zxe : Bool} {f : List ℕ} {bs : List Block} → EncodedBy zxe f bs → EndsInZero (decoded_octets bs)
encoded-end {f = f} s = rw s.decodes (ends f)

pub shortest : Shortest
unfolding uninterrupted sent
shortest zxe f bs s =
    rw (← s.decodes)
    (by-decoded zxe (λ bs d. sent zxe d ≤ length (line_octets bs)) (omega (arith, sent-none zxe))
    (λ b bs d e f _ ih. omega (arith, no-better zxe d (as-chosen b) e f, line-length b bs))
    bs s.allowed (encoded-end s))

-- no list begins with a block that covers more than the chosen one
First : Bool → List Block → List ℕ → Type 0
First zxe [] d = Unit {0}
First zxe (b ∷ bs) d = covered_by (as-chosen b) ≤ covered_by (choice zxe d)

pub covers-most : CoversMost
unfolding First
covers-most zxe f b bs s =
    rw (← s.decodes)
    (by-decoded zxe (First zxe) tt (λ b bs d e f _ _. omega (arith, as-many-zeros zxe d (as-chosen b) f)) (b ∷ bs) s.allowed (encoded-end s))

-- ---- without ZXE

-- a code is one more than its data octets,
code_is : {c n z : ℕ} → Row false c n z → c ≡ n + 1
code_is (plain_row k h) = refl
code_is full-row = refl
code_is (run_row z on h k) = false-true on
code_is (pair_row k on h) = false-true on

-- and says its zeros; so the chosen block is the only one that may stand there
forced : (d : List ℕ) (c : Choice) → EndsInZero d → Stands false d c → c ≡ choice false d
forced d c e f =
    let g = chosen false d (omega (arith, f.more)) e in
    let n : c.nonzeros ≡ (choice false d).nonzeros = (as-many-zeros false d c f).0 in
    let code : c.code ≡ (choice false d).code = omega (arith, code_is f.row, code_is g.row) in
    let zeros : c.zeros ≡ (choice false d).zeros =
    sym (ap zeros_in (agreed-table false _ _ _ (row_read f.row))) ∙ (ap (λ (k : ℕ). zeros_in (code_table k)) code ∙ ap zeros_in (agreed-table false _ _ _ (row_read g.row))) in
    rw (code, n, zeros)

pub one_list : OneListWithoutZxe
one_list f bs s =
    rw (← s.decodes)
    (by-decoded false (λ bs d. bs ≡ blocks false d) (sym (blocks-none false))
    (λ b bs d e f is ih.
    let next = blocks-next false d (omega (arith, f.more)) e in
    rw (← is, ih) (sym (rw (← (forced d (as-chosen b) e f)) at next)))
    bs s.allowed (encoded-end s))

-- ---- with ZXE

-- what is allowed without it is allowed with it
allowed-with : (b : Block) → Allowed false b → Allowed true b
allowed-with b a = record { row = row_read (row-with true (read-row false b.code _ _ a.row)); nonzero = a.nonzero }

pub zxe-never-longer : ZxeNeverLonger
unfolding uninterrupted
zxe-never-longer f =
    shortest true f (blocks false (with_phantom f))
    (record { allowed = λ b m. allowed-with b (frame-allowed false f b m); decodes = frame-decodes false f })

-- ---- computed

pub worked-lengths : WorkedLengths
unfolding leading choice blocks_from blocks to_line line_octets flat_map uninterrupted
worked-lengths =
    record {
      two_zeros = refl;
      four_zeros = refl;
      fifteen = refl;
      sixteen = refl;
      twenty_nine = refl;
      one_at_30 = refl;
      one_at_31 = refl;
      two_at_30 = refl;
      two_at_31 = refl;
      full = refl;
    }

pub another-with-zxe : AnotherWithZxe
unfolding in_range code_table meaning leading choice blocks_from blocks to_line decoded_octets line_octets flat_map uninterrupted
another-with-zxe =
    record {
      encodes =
          record {
            allowed =
                λ b m.
                ⊎_elim (λ e. rw e (record { row = refl; nonzero = λ k. ⊎_elim (λ q. absurd (omega arith)) Memᴰ.not-nil (Memᴰ.cases_cons k) }))
                (λ t. ⊎_elim (λ e. rw e (record { row = refl; nonzero = Memᴰ.not-nil })) (λ k. absurd (Memᴰ.not-nil k)) (Memᴰ.cases_cons t))
                (Memᴰ.cases_cons m);
            decodes = refl;
          };
      as_short = refl;
      differs = λ e. let first : ◌≡◌ {A = ℕ} 0x02 0xE1 = ap (λ (bs : List Block). get_or (line_octets bs) 0 0) e in omega arith;
    }
