-- Octets as hexadecimal capitals.
use mathlib.Core.Path.{◌≡◌, refl, sym, ◌∙◌}
use mathlib.Core.List.{List, [], ◌∷◌, flat_map}
use Prim.Native.Nat.{ℕ, suc, ◌+◌, ◌*◌, ◌/◌, ◌%◌, ◌<◌}
use native.Mathlib.Numerals.{add-one}
use native.Mathlib.Omega.{arith}
use lib.ListN.{length, get_or, drop, set}
use lib.Seq.{sets, sets-eq, drop-cons, drop-length}
use Rattle.std.proofs.lemmas.List.{append-nil}
use native.Mathlib.Nat.{zero-add}
use Rattle.lines.specs.Lines.{space, digit, hex_octets}

pub octets-none : hex_octets [] ≡ []
unfolding hex_octets flat_map
octets-none = refl

pub octets-more : (x : ℕ) (xs : List ℕ) → hex_octets (x ∷ xs) ≡ space ∷ digit (x / 16) ∷ digit (x % 16) ∷ hex_octets xs
unfolding hex_octets flat_map
octets-more x xs = refl

-- three octets of text for each
pub octets-length : (xs : List ℕ) → length (hex_octets xs) ≡ 3 * length xs
unfolding hex_octets flat_map
octets-length [] = refl
octets-length (x ∷ xs) = omega (arith, octets-length xs)

-- three octets stored one by one, `sets` of the library
sets-three : (xs a : List ℕ) (at x y z : ℕ)
    → sets a at (x ∷ y ∷ z ∷ xs) ≡ sets (set (set (set a at x) (at + 1) y) (at + 2) z) (at + 3) xs
sets-three xs a at x y z =
    let e : at + 1 ≡ suc at = omega arith in
    let f : at + 2 ≡ suc (suc at) = omega arith in
    let g : at + 3 ≡ suc (suc (suc at)) = omega arith in rw (e, f, g)

-- the next octet's three
pub next-stored : (page list : List ℕ) (at i : ℕ) → i < length list
    → (let x = get_or list i 0 in
    sets page at (hex_octets (drop i list))
    ≡ sets (set (set (set page at space) (at + 1) (digit (x / 16))) (at + 2) (digit (x % 16))) (at + 3) (hex_octets (drop (i + 1) list)))
next-stored page list at i h =
    rw (drop-cons list i 0 h, add-one i, octets-more)
    (sets-three (hex_octets (drop (suc i) list)) page at space (digit (get_or list i 0 / 16)) (digit (get_or list i 0 % 16)))

-- and all of them, over an area of their length
pub all-stored : (a xs : List ℕ) → length a ≡ length xs → sets a 0 xs ≡ xs
all-stored a xs e = sets-eq xs a 0 (omega arith) ∙ rw (zero-add (length xs), sym e, drop-length a, append-nil xs)
