-- Lists of blocks: what they decode to, what they are on the line, and that a list is read back from that.
use mathlib.Core.Path.{◌≡◌, refl, ap, sym, ◌∙◌}
use mathlib.Core.Bool.{Bool}
use mathlib.Core.Logic.{⊎_elim}
use mathlib.Core.List.Memᴰ
use mathlib.Core.List.{List, [], ◌∷◌, ◌++◌, map, map-append, flat_map, Memᴰ}
use mathlib.Core.Option.{some, some-injective}
use Prim.Native.Nat.{ℕ, zero, suc, ◌+◌, ◌≤◌, ◌<◌}
use native.Mathlib.Omega.{arith}
use borrow.Author.Tests.{le-leb}
use lib.ListN.{length, get_or, replicate, length-append, length-map}
use lib.Seq.{take-append_seam, drop-append_seam}
use Rattle.cobs.specs.CodeBlocks.{flag, to_line, from_line, Block, Allowed, AllAllowed, zeros_after, decoded_octets, line_octets, parse, read_blocks}
use Rattle.cobs.proofs.Table.{read-row, numbers}
use Rattle.cobs.proofs.Exchange.{no_flag, turned-back}

-- the octets of a list without a zero, at the head of another
pub nonzero-first : (xs ys : List ℕ) (i : ℕ) → (Memᴰ 0 xs → ⊥) → i < length xs → get_or (xs ++ ys) i 0 ≡ 0 → ⊥
nonzero-first [] ys i f h e = absurd (omega arith)
nonzero-first (x ∷ xs) ys zero f h e = f (Memᴰ.head (sym e))
nonzero-first (x ∷ xs) ys (suc i) f h e = nonzero-first xs ys i (λ m. f (Memᴰ.tail m)) (omega arith) e

-- ---- lists of blocks

pub decoded-nil : decoded_octets [] ≡ []
unfolding decoded_octets flat_map
decoded-nil = refl

pub decoded-cons : (b : Block) (bs : List Block) → decoded_octets (b ∷ bs) ≡ b.data_octets ++ replicate (zeros_after b) 0 ++ decoded_octets bs
unfolding decoded_octets flat_map
decoded-cons b bs = refl

pub on-line-nil : line_octets [] ≡ []
unfolding line_octets flat_map
on-line-nil = refl

pub on-line-cons : (b : Block) (bs : List Block) → line_octets (b ∷ bs) ≡ to_line b.code ∷ (map to_line b.data_octets ++ line_octets bs)
unfolding line_octets flat_map
on-line-cons b bs = refl

pub line-length : (b : Block) (bs : List Block) → length (line_octets (b ∷ bs)) ≡ 1 + length b.data_octets + length (line_octets bs)
line-length b bs = omega (arith, ap length (on-line-cons b bs), length-append (map to_line b.data_octets) (line_octets bs), length-map b.data_octets to_line)

-- no flag is among them
pub line-flagless : (bs : List Block) → Memᴰ flag (line_octets bs) → ⊥
unfolding line_octets flat_map
line-flagless [] m = Memᴰ.not-nil m
line-flagless (b ∷ bs) m =
    ⊎_elim (λ h. let w = Memᴰ.of_map to_line (b.code ∷ b.data_octets) h in no_flag w.0 w.2) (line-flagless bs)
    (Memᴰ.append_cases (map to_line (b.code ∷ b.data_octets)) m)

-- ---- reading them back

-- octets that are not zero are turned back
map_back : (l : List ℕ) → (Memᴰ 0 l → ⊥) → map from_line (map to_line l) ≡ l
map_back [] h = refl
map_back (x ∷ l) h = rw (turned-back x (λ e. h (Memᴰ.head (sym e))), map_back l (λ m. h (Memᴰ.tail m)))

-- the octets of blocks, not yet exchanged
turned : (zxe : Bool) (b : Block) (bs : List Block) → Allowed zxe b
    → map from_line (line_octets (b ∷ bs)) ≡ b.code ∷ (b.data_octets ++ map from_line (line_octets bs))
turned zxe b bs a =
    let k = (numbers (read-row zxe b.code _ _ a.row)).code-some in
    rw (
      on-line-cons b bs,
      turned-back b.code (λ e. omega arith),
      map-append from_line (map to_line b.data_octets) (line_octets bs),
      map_back b.data_octets a.nonzero,
    )

module _ (zxe : Bool) where
  parse-line : (n : ℕ) (bs : List Block) → AllAllowed zxe bs → length bs < n → parse zxe n (map from_line (line_octets bs)) ≡ some bs
  unfolding parse
  parse-line zero bs all h = absurd (omega arith)
  parse-line (suc n) [] all h = rw on-line-nil
  parse-line (suc n) (b ∷ bs) all h =
      let a = all b (Memᴰ.head refl) in
      let rest = map from_line (line_octets bs) in
      let ih : parse zxe n rest ≡ some bs = parse-line n bs (λ x m. all x (Memᴰ.tail m)) (omega arith) in
      rw (
        turned zxe b bs a,
        a.row,
        le-leb (length b.data_octets) (length (b.data_octets ++ rest)) (omega (arith, length-append b.data_octets rest)),
        drop-append_seam b.data_octets rest,
        ih,
        take-append_seam b.data_octets rest,
      )

  fewer : (bs : List Block) → length bs ≤ length (line_octets bs)
  fewer [] = omega arith
  fewer (b ∷ bs) = omega (arith, fewer bs, line-length b bs)

  -- every list of allowed blocks is read back from its octets
  pub reads-back : (bs : List Block) → AllAllowed zxe bs → read_blocks zxe (line_octets bs) ≡ some bs
  unfolding read_blocks
  reads-back bs all = parse-line (length (line_octets bs) + 1) bs all (omega (arith, fewer bs))

  -- so no two of them have the same
  pub one-reading : (bs cs : List Block) → AllAllowed zxe bs → AllAllowed zxe cs → line_octets bs ≡ line_octets cs → bs ≡ cs
  one-reading bs cs all also e = some-injective bs cs (sym (reads-back bs all) ∙ (ap (read_blocks zxe) e ∙ reads-back cs also))
