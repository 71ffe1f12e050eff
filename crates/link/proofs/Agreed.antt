-- What follows from valid settings: the width is one of two, and the numbers are small. The check is sound and its FCS short, whatever the settings.
use mathlib.Core.Bool.{true}
use mathlib.Core.Path.{◌≡◌, refl}
use Prim.Native.Nat.{◌≤◌}
use native.Mathlib.Omega.{arith}
use borrow.Author.Tests.{leb-true}
use lib.Dec.{leb, eqb}
use Rattle.fcs.specs.CheckSequence.{Check, Sound}
use Rattle.fcs.proofs.Laws.{sound16, sound32}
use Rattle.cobs.proofs.Tests.{branch, and_left, and_right}
use Rattle.link.specs.Agreed.{Settings, Agreed, agreed, valid_width, valid_limit, valid, least_packet, largest_limit, largest_frame, most_decoded}

pub limit_is : (t : Settings) → (agreed t).limit ≡ t.limit
unfolding agreed
limit_is t = refl

-- ---- valid settings

pub valid-width : (g : Agreed) → valid g ≡ true → valid_width g ≡ true
unfolding valid
valid-width g v = and_left (valid_width g) (valid_limit g) v

pub valid-limit : (g : Agreed) → valid g ≡ true → valid_limit g ≡ true
unfolding valid
valid-limit g v = and_right (valid_width g) (valid_limit g) v

pub limit-at-most : (g : Agreed) → valid g ≡ true → g.limit ≤ largest_limit
limit-at-most g v = leb-true g.limit largest_limit (and_right (leb least_packet g.limit) (leb g.limit largest_limit) (valid-limit g v))

pub limit-at-least : (g : Agreed) → valid g ≡ true → least_packet ≤ g.limit
limit-at-least g v = leb-true least_packet g.limit (and_left (leb least_packet g.limit) (leb g.limit largest_limit) (valid-limit g v))

-- ---- the check

pub sound-check : (t : Settings) → Sound (agreed t).check
unfolding agreed
sound-check t = branch Sound (eqb t.width 32) (λ _. sound32) (λ _. sound16)

-- ---- the numbers

pub fcs-at-most : (t : Settings) → (agreed t).check.fcs_length ≤ 4
unfolding agreed
fcs-at-most t = branch (λ (k : Check). k.fcs_length ≤ 4) (eqb t.width 32) (λ _. omega arith) (λ _. omega arith)

pub frame-at-most : (t : Settings) → valid (agreed t) ≡ true → largest_frame (agreed t) ≤ 16388
frame-at-most t v = omega (arith, limit-at-most (agreed t) v, fcs-at-most t)

pub decoded-at-most : (t : Settings) → valid (agreed t) ≡ true → most_decoded (agreed t) ≤ 16389
decoded-at-most t v = omega (arith, frame-at-most t v)
