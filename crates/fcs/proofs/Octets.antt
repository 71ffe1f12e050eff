-- The octets of a list as a number, and fed as one.
use mathlib.Core.Path.{◌≡◌, refl, sym, ap, ap₂, ◌∙◌}
use mathlib.Core.List.{List, [], ◌∷◌, reverse}
use Prim.Native.Nat.{ℕ, zero, suc, ◌+◌, ◌-◌, ◌*◌, ◌/◌, ◌%◌, ◌^◌, ◌≤◌, ◌<◌}
use native.Mathlib.Nat.{le_of_eq, lt_of_lt_of_le, pow-suc, mod-eq_of_lt, div-div-eq-div-mul}
use native.Mathlib.Numerals.{add-one}
use native.Mathlib.Omega.{arith}
use lib.Bits.{bit_or, bit_xor, or_shifted}
use lib.Dec.{lit<}
use lib.ListN.{length, get_or, take, drop, length-drop, take-append-drop}
use lib.Pow.{pow_mono, pow-add}
use lib.Seq.{take_all, take-take, drop-cons, drop-drop}
use Rattle.std.specs.List.{fold}
use Rattle.std.proofs.lemmas.Grind.{reverse_onto}
use Rattle.std.proofs.lemmas.List.Sums.{fold-append}
use Rattle.std.specs.Int.{byte_at, bytes_low_first}
use Rattle.fcs.specs.Notation.{◌⊕◌}
use Rattle.fcs.specs.CheckSequence.{Check, bit_steps, feed, low_first}
use Rattle.fcs.proofs.Xor as xor
use Rattle.fcs.proofs.Laws.{feed-append, feed-number}

-- ---- the octets of a number, as `to_le_bytes` has them

octet-at : (i v : ℕ) → v / 256 ^ i % 256 ≡ byte_at i v
octet-at zero v = omega arith
octet-at (suc i) v = refl

octets-from : (i n v : ℕ) → low_first n (v / 256 ^ i) ≡ bytes_low_first i n v
unfolding low_first
octets-from i zero v = refl
octets-from i (suc n) v =
    let next : v / 256 ^ i / 256 ≡ v / 256 ^ suc i = div-div-eq-div-mul v (256 ^ i) 256 ∙ ap (λ (x : ℕ). v / x) (sym (pow-suc 256 i)) in
    rw (octet-at i v, next, octets-from (suc i) n v)

pub octets-of : (n v : ℕ) → low_first n v ≡ bytes_low_first 0 n v
octets-of n v = ap (low_first n) (omega arith) ∙ octets-from 0 n v

-- ---- the octets of a list as a number

-- the octets of a list from place i on are a number's: one in front of those from i + 1 on
pub in-front : (s : List ℕ) (i j n v : ℕ) → i < length s → j ≡ i + 1 → get_or s i 0 < 256
    → low_first n v ≡ take n (drop j s) → low_first (suc n) (get_or s i 0 + v * 256) ≡ take (suc n) (drop i s)
unfolding low_first
in-front s i j n v h next octet rest =
    let o = get_or s i 0 in
    let low : (o + v * 256) % 256 ≡ o = omega arith in
    let high : (o + v * 256) / 256 ≡ v = omega arith in
    rw (low, high, rest, next, add-one) (ap (take (suc n)) (sym (drop-cons s i 0 h)))

-- a short word, as the code has it: the octets, from the last one on, each shifted in below those before
abbrev pub shifted_in : ℕ → ℕ → ℕ
shifted_in w o = bit_or (w * 256 % 2 ^ 64) o

pub short-word : (s : List ℕ) → length s ≤ 8 → ((i : ℕ) → get_or s i 0 < 256) → (fold shifted_in 0 (reverse s) < 2 ^ (8 * length s)) × (low_first (length s) (fold shifted_in 0 (reverse s)) ≡ s)
unfolding low_first
short-word [] h octet = (lit< tt, refl)
short-word (o ∷ s) h octet =
    let w = fold shifted_in 0 (reverse s) in
    let (fits, octets) = short-word s (omega arith) (λ i. octet (suc i)) in
    let first : o < 256 = octet 0 in
    let room : w < 2 ^ 56 = lt_of_lt_of_le fits (pow_mono {j = 56} (omega arith)) in
    let kept : w * 256 % 2 ^ 64 ≡ w * 256 = mod-eq_of_lt (omega arith) in
    let more : shifted_in w o ≡ w * 256 + o = ap (λ (x : ℕ). bit_or x o) kept ∙ or_shifted w 8 o first in
    let all : fold shifted_in 0 (reverse (o ∷ s)) ≡ w * 256 + o =
    ap (fold shifted_in 0) (reverse_onto s o []) ∙ fold-append shifted_in 0 (reverse s) (o ∷ []) ∙ more in
    let bits : 2 ^ (8 * suc (length s)) ≡ 2 ^ (8 * length s) * 256 = ap (λ (x : ℕ). 2 ^ x) (omega arith) ∙ pow-add 2 (8 * length s) 8 in
    let low : (w * 256 + o) % 256 ≡ o = omega arith in
    let high : (w * 256 + o) / 256 ≡ w = omega arith in
    (rw (all, bits) (omega arith), rw (all, low, high, octets))

-- what a list has from place i on, as the code's `&octets[i..]` has it
pub from_place : (s : List ℕ) (i : ℕ) → take (length s - i) (drop i s) ≡ drop i s
from_place s i = take_all (length s - i) (drop i s) (le_of_eq (length-drop i s))

-- two words, one xor the other
pub xor-word : (a b : ℕ) → a < 2 ^ 64 → b < 2 ^ 64 → bit_xor a b < 2 ^ 64
unfolding ◌⊕◌
xor-word a b = xor.below 64

module _ (k : Check) where
  -- where octets of a list are a number's, they take the register a step for each of their bits
  pub feed-octets : (n r w : ℕ) (s : List ℕ) (i : ℕ) → w < 2 ^ (8 * n) → low_first n w ≡ take n (drop i s)
      → feed k (bit_steps k (8 * n) (r ⊕ w)) (drop (i + n) s) ≡ feed k r (drop i s)
  feed-octets n r w s i h e =
      ap (λ (x : ℕ). feed k x (drop (i + n) s)) (sym (feed-number k n r w h))
      ∙ ap₂ (λ (t u : List ℕ). feed k (feed k r t) u) e (sym (drop-drop n i s))
      ∙ sym (feed-append k r (take n (drop i s)) (drop n (drop i s)))
      ∙ ap (feed k r) (take-append-drop n (drop i s))

  -- the word in front of a list, fed, as `split_first_chunk` parts it
  pub feed-front : (r w : ℕ) (s word behind : List ℕ) → w < 2 ^ 64 → low_first 8 w ≡ take 8 word → word ≡ take 8 s → behind ≡ drop 8 s
      → feed k (bit_steps k 64 (r ⊕ w)) behind ≡ feed k r s
  feed-front r w s word behind fits octets front rest =
      rw rest (feed-octets 8 r w s 0 fits (octets ∙ ap (take 8) front ∙ take-take 8 8 s (omega arith)))
