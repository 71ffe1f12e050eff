-- Octets written into an area.
use mathlib.Core.Path.{◌≡◌}
use mathlib.Core.List.{List, ◌++◌}
use Prim.Native.Nat.{ℕ, ◌+◌, ◌≤◌}
use native.Mathlib.Omega.{arith}
use lib.ListN.{length, take, drop, length-append, length-take, length-drop}
use lib.Seq.{take_at}
use Rattle.link.specs.Receiver.{write}

module _ (a : List ℕ) (n : ℕ) (xs : List ℕ) (fits : n + length xs ≤ length a) where
  pub length-write : length (write a n xs) ≡ length a
  length-write = simp (length-append, length-take, length-drop) (omega arith)

  pub take-write : take (n + length xs) (write a n xs) ≡ take n a ++ xs
  take-write =
      take_at (take n a ++ xs) (drop (n + length xs) a) (n + length xs) (simp (length-append, length-take) (omega arith))
