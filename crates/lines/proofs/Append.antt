-- Text appended to a page.
use mathlib.Core.Path.{◌≡◌, refl, sym, ap, ◌∙◌}
use mathlib.Core.List.{List, [], ◌++◌, append_assoc}
use Prim.Native.Nat.{ℕ, ◌+◌, ◌-◌, ◌≤◌, ◌<◌}
use native.Mathlib.Nat.{add-zero}
use native.Mathlib.Omega.{arith}
use borrow.Author.Tests.{le-leb, lt-leb, leb-true, leb-false}
use lib.Dec.{leb}
use lib.ListN.{length, take, drop, length-append, length-take}
use Rattle.cobs.proofs.Tests.{branch, decide}
use Rattle.link.specs.Receiver.{write}
use Rattle.link.proofs.Write.{length-write, take-write}
use Rattle.std.proofs.lemmas.List.{append-nil, drop-drop, take-append-drop}
use Rattle.std.proofs.lemmas.Slice.{drop-append-drop}
use borrow.Rule.Slice.PartMut.{put_mid}
use Rattle.lines.specs.Lines.{Page, append}

module _ (a : List ℕ) (f : ℕ) (xs : List ℕ) where
  -- where it fits, its octets are written,
  pub written : f + length xs ≤ length a → append (record { area = a; filled = f }) xs ≡ record { area = write a f xs; filled = f + length xs }
  unfolding append
  written h = rw (le-leb _ _ h)

  -- and where not, nothing changes
  pub no_room : length a < f + length xs → ◌≡◌ {A = Page} (record { area = a; filled = f }) (append (record { area = a; filled = f }) xs)
  unfolding append
  no_room h = rw (lt-leb _ _ h)

-- no text
pub append-none : (p : Page) → p ≡ append p []
append-none p =
    let a = p.area in
    let f = p.filled in
    decide (leb (f + 0) (length a))
    (λ e. sym (written a f [] (leb-true _ _ e) ∙ rw (add-zero f, append-nil (take f a), take-append-drop f a)))
    (λ e. no_room a f [] (leb-false _ _ e))

-- the part of an area where it fits, written as a whole
pub put-in : (a : List ℕ) (f k : ℕ) (xs ys : List ℕ) → ys ≡ xs → k ≡ length xs → f + k ≤ length a
    → ◌≡◌ {A = Page} (record { area = put_mid f (f + k - f) a ys; filled = f + k }) (append (record { area = a; filled = f }) xs)
put-in a f k xs ys e n h =
    let m : f + (f + length xs - f) ≡ f + length xs = omega arith in
    rw (e, n, drop-drop (f + length xs - f) f a, m, ← append_assoc (take f a) xs (drop (f + length xs) a)) (sym (written a f xs (omega arith)))

-- where text fits, so does behind it what fits with it
pub fits-behind : (p q : Page) (xs : List ℕ) (k : ℕ) → q ≡ append p xs → p.filled + length xs + k ≤ length p.area → q.filled + k ≤ length q.area
fits-behind p q xs k e h =
    let room : p.filled + length xs ≤ length p.area = omega arith in
    rw (e ∙ written p.area p.filled xs room, length-write p.area p.filled xs room) h

-- two texts after each other are one
pub append-append : (p : Page) (xs ys : List ℕ) → p.filled + length xs + length ys ≤ length p.area
    → append (append p xs) ys ≡ append p (xs ++ ys)
append-append p xs ys h =
    let a = p.area in
    let f = p.filled in
    let k : f + length xs ≤ length a = omega arith in
    let m : f + length (xs ++ ys) ≤ length a = rw (length-append xs ys) (omega arith) in
    let o : f + length xs + length ys ≤ length (write a f xs) = rw (length-write a f xs k) h in
    let e : f + length (xs ++ ys) ≡ f + length xs + length ys = omega (arith, length-append xs ys) in
    let begun : length (take f a ++ xs) ≡ f + length xs = simp (length-append, length-take) (omega arith) in
    let rest = drop-append-drop (f + length xs) a (take f a ++ xs) (f + length xs + length ys) (omega arith) begun in
    ap (λ q. append q ys) (written a f xs k)
    ∙ written (write a f xs) (f + length xs) ys o
    ∙ rw (take-write a f xs k, rest, append_assoc (take f a) xs ys, ← e) (sym (written a f (xs ++ ys) m))

-- what two calls after each other make of a page, and three
pub append-two : (p q r : Page) (xs ys : List ℕ) → q ≡ append p xs → r ≡ append q ys
    → p.filled + length xs + length ys ≤ length p.area → r ≡ append p (xs ++ ys)
append-two p q r xs ys d e h = e ∙ rw (d, append-append p xs ys h)

pub append-three : (p q r s : Page) (xs ys zs : List ℕ) → q ≡ append p xs → r ≡ append q ys → s ≡ append r zs
    → p.filled + length xs + length ys + length zs ≤ length p.area → s ≡ append p (xs ++ (ys ++ zs))
append-three p q r s xs ys zs d e f h =
    rw (← append_assoc xs ys zs)
    (append-two p r s (xs ++ ys) zs (append-two p q r xs ys d e (omega arith)) f (rw (length-append xs ys) (omega arith)))

-- For the programs that lend a page: it keeps its length, and what is filled stays within it.
module _ (p q : Page) (xs : List ℕ) (e : q ≡ append p xs) where
  pub page-length : length q.area ≡ length p.area
  unfolding append
  page-length =
      rw e
      (branch (λ (r : Page). length r.area ≡ length p.area) (leb (p.filled + length xs) (length p.area))
      (λ b. length-write p.area p.filled xs (leb-true _ _ b)) (λ b. refl))

  pub page-within : p.filled ≤ length p.area → q.filled ≤ length q.area
  unfolding append
  page-within h =
      rw e
      (branch (λ (r : Page). r.filled ≤ length r.area) (leb (p.filled + length xs) (length p.area))
      (λ b. rw (length-write p.area p.filled xs (leb-true _ _ b)) (leb-true _ _ b)) (λ b. h))
