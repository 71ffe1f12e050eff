-- The laws of the stuffing and of the maps: what the crates above may use, while the definitions stay shut there.
use mathlib.Core.Path.{◌≡◌, refl, ◌∙◌}
use mathlib.Core.Bool.{Bool, true, false, not, ◌&&◌, and-false}
use mathlib.Core.List.{List, [], ◌∷◌, ◌++◌, flat_map}
use Prim.Native.Nat.{ℕ, ◌+◌, ◌/◌, ◌%◌, ◌^◌, ◌≤◌, ◌<◌}
use native.Mathlib.Nat.{zero-div, one-mul, add-mul-div_right}
use native.Mathlib.Omega.{arith}
use borrow.Author.Tests.{eq-eqb, ne_eqb, eqb-true, eqb-false, le-ltb, lt-ltb}
use Rattle.std.specs.Prelude.{Ok}
use lib.Dec.{ltb, eqb}
use lib.ListN.{length, get_or, set, length-set}
use lib.Pow.{pow_pos}
use lib.Seq.{get_or-set_same, get_or-set_other}
use Rattle.std.specs.Prelude.{if◌then◌else◌}
use Rattle.cobs.specs.CodeBlocks.{flag}
use Rattle.cobs.proofs.Tests.{branch}
use Rattle.plain.specs.Area.{write}
use Rattle.plain.specs.Maps.{escape, removed, marked, marking, with_framing, lacks, marks_wrongly, refused_pair, marks_ok}
use Rattle.plain.specs.Stuffing.{Removed, Escape, Data, no_room, toggled, stuffed_octet, stuffed, line, send, taken}
use Rattle.plain.specs.ReadBack.{unstuffed, after, kept}
use Rattle.plain.proofs.Some.{or_left, or_right, some_same}

-- ---- octets one after another

pub unstuffed-nil : (map : ℕ) (b : Bool) → unstuffed map b [] ≡ record { octets = []; escaped = b }
unfolding unstuffed
unstuffed-nil map b = refl

pub unstuffed-cons : (map : ℕ) (b : Bool) (x : ℕ) (xs : List ℕ) → unstuffed map b (x ∷ xs) ≡ after map b (taken map b x) xs
unfolding unstuffed
unstuffed-cons map b x xs = refl

-- ---- what an octet says

pub taken-removed : (map : ℕ) (b : Bool) (x : ℕ) → removed map x ≡ true → taken map b x ≡ Removed
unfolding taken
taken-removed map b x e = rw e

not-among : (b t : Bool) (y z : ℕ) → (if b then Data y else if t then Escape else Data z) ≡ Removed → ⊥
not-among true t y z q = let n : ◌≡◌ {A = ℕ} 0 1 = cc in omega arith
not-among false true y z q = let n : ◌≡◌ {A = ℕ} 0 1 = cc in omega arith
not-among false false y z q = let n : ◌≡◌ {A = ℕ} 0 1 = cc in omega arith

pub taken-kept : (map : ℕ) (b : Bool) (x : ℕ) → removed map x ≡ false → (taken map b x ≡ Removed → ⊥)
unfolding taken
taken-kept map b x e q = not-among b (eqb x escape) (toggled x) x (rw e at q)

pub taken-plainly : (map x : ℕ) → removed map x ≡ false → (x ≡ escape → ⊥) → taken map false x ≡ Data x
unfolding taken
taken-plainly map x e n = rw (e, ne_eqb x escape n)

pub taken-escape : (map : ℕ) → taken map false escape ≡ Escape
unfolding taken removed
taken-escape map = refl

pub taken-escaped : (map x : ℕ) → removed map x ≡ false → taken map true x ≡ Data (toggled x)
unfolding taken
taken-escaped map x e = rw e

pub not-removed : (map x : ℕ) → 0x20 ≤ x → removed map x ≡ false
unfolding removed
not-removed map x h = rw (le-ltb x 0x20 h)

pub removes-nothing : (x : ℕ) → removed 0 x ≡ false
unfolding removed
removes-nothing x = rw (zero-div (2 ^ x), and-false (ltb x 0x20))

-- ---- what is removed

pub kept-nil : (map : ℕ) → kept map [] ≡ []
unfolding kept
kept-nil map = refl

pub kept-removed : (map x : ℕ) (xs : List ℕ) → removed map x ≡ true → kept map (x ∷ xs) ≡ kept map xs
unfolding kept
kept-removed map x xs e = rw e

pub kept-other : (map x : ℕ) (xs : List ℕ) → removed map x ≡ false → kept map (x ∷ xs) ≡ x ∷ kept map xs
unfolding kept
kept-other map x xs e = rw e

-- ---- what is written

pub line-is : (marks f : List ℕ) → line marks f ≡ stuffed marks f ++ (flag ∷ [])
unfolding line
line-is marks f = refl

pub stuffed-nil : (marks : List ℕ) → stuffed marks [] ≡ []
unfolding stuffed flat_map
stuffed-nil marks = refl

pub stuffed-cons : (marks : List ℕ) (x : ℕ) (xs : List ℕ) → stuffed marks (x ∷ xs) ≡ stuffed_octet marks x ++ stuffed marks xs
unfolding stuffed flat_map
stuffed-cons marks x xs = refl

pub unmarked-octet : (marks : List ℕ) (x : ℕ) → marked marks x ≡ false → stuffed_octet marks x ≡ x ∷ []
unfolding stuffed_octet
unmarked-octet marks x e = rw e

pub marked-octet : (marks : List ℕ) (x : ℕ) → marked marks x ≡ true → stuffed_octet marks x ≡ escape ∷ toggled x ∷ []
unfolding stuffed_octet
marked-octet marks x e = rw e

module _ (marks f area : List ℕ) where
  pub sends : length (line marks f) ≤ length area
      → send marks f area ≡ record { answer = Ok (length (line marks f)); area = write area 0 (line marks f) }
  unfolding send
  sends h = rw (le-ltb (length area) (length (line marks f)) h)

  pub too_short : length area < length (line marks f) → send marks f area ≡ record { answer = no_room; area = area }
  unfolding send
  too_short h = rw (lt-ltb (length area) (length (line marks f)) h)

-- ---- the maps

pub pair-lacks : (map : ℕ) (marks : List ℕ) → refused_pair map marks ≡ false → lacks map marks ≡ false
unfolding refused_pair
pair-lacks map marks e = or_left (lacks map marks) (marks_wrongly marks) e

pub pair-wrongly : (map : ℕ) (marks : List ℕ) → refused_pair map marks ≡ false → marks_wrongly marks ≡ false
unfolding refused_pair
pair-wrongly map marks e = or_right (lacks map marks) (marks_wrongly marks) e

-- What a mark more makes of the map. It changes nothing in its other octets,
set-elsewhere : (marks : List ℕ) (i v x : ℕ) → (x / 8 ≡ i → ⊥) → marked (set marks i v) x ≡ marked marks x
unfolding marked
set-elsewhere marks i v x d = rw (get_or-set_other marks i (x / 8) v 0 d)

marking-elsewhere : (marks : List ℕ) (y x : ℕ) → (x / 8 ≡ y / 8 → ⊥) → marked (marking y marks) x ≡ marked marks x
unfolding marking
marking-elsewhere marks y x d =
    branch (λ m. marked m x ≡ marked marks x) (marked marks y) (λ e. refl)
    (λ e. set-elsewhere marks (y / 8) (get_or marks (y / 8) 0 + 2 ^ (y % 8)) x d)

marking-length : (marks : List ℕ) (y : ℕ) → length (marking y marks) ≡ length marks
unfolding marking
marking-length marks y = branch (λ (m : List ℕ). length m ≡ length marks) (marked marks y) (λ e. refl)
    (λ e. length-set marks (y / 8) (get_or marks (y / 8) 0 + 2 ^ (y % 8)))

-- is there,
set_there : (marks : List ℕ) (y : ℕ) → y / 8 < length marks → marked marks y ≡ false
    → marked (set marks (y / 8) (get_or marks (y / 8) 0 + 2 ^ (y % 8))) y ≡ true
unfolding marked
set_there marks y h e =
    let n = get_or marks (y / 8) 0 in
    let p = 2 ^ (y % 8) in
    let more : (n + p) / p ≡ n / p + 1 = rw one-mul at (add-mul-div_right n 1 (pow_pos (y % 8))) in
    let even = eqb-false (n / p % 2) 1 e in
    rw (get_or-set_same marks (y / 8) (n + p) 0 h, more) (eq-eqb ((n / p + 1) % 2) 1 (omega arith))

marking-there : (marks : List ℕ) (y : ℕ) → y / 8 < length marks → marked (marking y marks) y ≡ true
unfolding marking
marking-there marks y h = branch (λ m. marked m y ≡ true) (marked marks y) (λ e. e) (λ e. set_there marks y h e)

-- and that of 7E leaves that of 7D
set-beside : (marks : List ℕ) → 15 < length marks → marked marks escape ≡ true → marked (set marks 15 (get_or marks 15 0 + 0x40)) escape ≡ true
unfolding marked
set-beside marks h e =
    let n = get_or marks 15 0 in
    let odd = eqb-true (n / 0x20 % 2) 1 e in
    rw (get_or-set_same marks 15 (n + 0x40) 0 h) (eq-eqb ((n + 0x40) / 0x20 % 2) 1 (omega arith))

marking-beside : (marks : List ℕ) → 15 < length marks → marked marks escape ≡ true → marked (marking flag marks) escape ≡ true
unfolding marking
marking-beside marks h t = branch (λ m. marked m escape ≡ true) (marked marks flag) (λ e. t) (λ e. set-beside marks h t)

-- with 7D and 7E
framing-elsewhere : (marks : List ℕ) (x : ℕ) → (x / 8 ≡ 15 → ⊥) → marked (with_framing marks) x ≡ marked marks x
unfolding with_framing
framing-elsewhere marks x d = marking-elsewhere (marking escape marks) flag x d ∙ marking-elsewhere marks escape x d

pub framing-lacks : (map : ℕ) (marks : List ℕ) → lacks map marks ≡ false → lacks map (with_framing marks) ≡ false
unfolding lacks
framing-lacks map marks e =
    some_same (λ x. removed map x && not (marked (with_framing marks) x)) (λ x. removed map x && not (marked marks x)) 0 0x20
    (λ x a b. rw (framing-elsewhere marks x (λ q. omega arith)))
    ∙ e

framing-wrongly : (marks : List ℕ) → marks_wrongly (with_framing marks) ≡ marks_wrongly marks
unfolding marks_wrongly
framing-wrongly marks =
    rw (
      framing-elsewhere marks 0x5E (λ q. omega arith),
      some_same (marked (with_framing marks)) (marked marks) 0x20 0x20 (λ x a b. framing-elsewhere marks x (λ q. omega arith)),
    )

framing-escape : (marks : List ℕ) → 16 ≤ length marks → marked (with_framing marks) escape ≡ true
unfolding with_framing
framing-escape marks h = marking-beside (marking escape marks) (rw marking-length h) (marking-there marks escape h)

framing-flag : (marks : List ℕ) → 16 ≤ length marks → marked (with_framing marks) flag ≡ true
unfolding with_framing
framing-flag marks h = marking-there (marking escape marks) flag (rw marking-length h)

pub framing-ok : (marks : List ℕ) → 16 ≤ length marks → marks_wrongly marks ≡ false → marks_ok (with_framing marks) ≡ true
unfolding marks_ok
framing-ok marks h e = rw (framing-escape marks h, framing-flag marks h, framing-wrongly marks, e)
