-- The receiver while COBS is read: document 01's own, which looks at neither mode nor map. And the whole receiver, which is that one wherever
-- COBS is read and no plain reading begins.
use mathlib.Core.Path.{◌≡◌, refl, sym}
use mathlib.Core.Bool.{true, false}
use mathlib.Core.List.{List, [], ◌∷◌}
use Prim.Native.Nat.{ℕ}
use Rattle.link.specs.Agreed.{Agreed, agreed, most_decoded}
use Rattle.link.specs.Receiver.{Mode, kept_off, cobs, plain, escape_open, ReceiverEnd, Receive, escape_over, is_off, is_plain, is_escaped, begins_plain, begin_plain, work, quietly, receive_cobs, receive_plain, receive}
use Rattle.link.specs.ReceiverParts.{ReceiverReady}
use Rattle.link.proofs.Tests.{none-short, true-false}

unfoldable pub cobs_receive : ReceiverEnd → ℕ → Receive
cobs_receive e x = receive_cobs (agreed e.state.settings) e x

unfoldable pub cobs_receives : ReceiverEnd → List ℕ → List Receive
cobs_receives e [] = []
cobs_receives e (x ∷ xs) = cobs_receive e x ∷ cobs_receives (cobs_receive e x).after xs

unfoldable pub cobs_received : ReceiverEnd → List ℕ → ReceiverEnd
cobs_received e [] = e
cobs_received e (x ∷ xs) = cobs_received (cobs_receive e x).after xs

-- ---- the mode

pub not-escaped : (m : Mode) → is_plain m ≡ false → is_escaped m ≡ false
not-escaped kept_off q = refl
not-escaped cobs q = refl
not-escaped plain q = refl
not-escaped escape_open q = true-false q

-- an escape is over only where one was open
pub over-same : (m : Mode) → is_escaped m ≡ false → escape_over m ≡ m
over-same kept_off q = refl
over-same cobs q = refl
over-same plain q = refl
over-same escape_open q = true-false q

pub off-is : (m : Mode) → is_off m ≡ true → m ≡ kept_off
off-is kept_off q = refl
off-is cobs q = true-false (sym q)
off-is plain q = true-false (sym q)
off-is escape_open q = true-false (sym q)

pub cobs-is : (m : Mode) → is_plain m ≡ false → is_off m ≡ false → m ≡ cobs
cobs-is kept_off p q = true-false q
cobs-is cobs p q = refl
cobs-is plain p q = true-false p
cobs-is escape_open p q = true-false p

-- ---- a call that isn't refused

module _ (e : ReceiverEnd) (x : ℕ) (a : ReceiverReady e) where
  abbrev g : Agreed
  g = agreed e.state.settings

  pub in-plain : is_plain e.state.mode ≡ true → receive e x ≡ receive_plain g e x
  unfolding receive
  in-plain p = rw (a.valid, none-short (most_decoded g) _ _ (a.first, a.second), a.bounds, p)

  pub begins : is_plain e.state.mode ≡ false → begins_plain e.state x ≡ true → receive e x ≡ quietly e (begin_plain g (work e))
  unfolding receive
  begins p b = rw (a.valid, none-short (most_decoded g) _ _ (a.first, a.second), a.bounds, p, b)

  pub in-cobs : is_plain e.state.mode ≡ false → begins_plain e.state x ≡ false → receive e x ≡ cobs_receive e x
  unfolding receive cobs_receive
  in-cobs p b = rw (a.valid, none-short (most_decoded g) _ _ (a.first, a.second), a.bounds, p, b)
