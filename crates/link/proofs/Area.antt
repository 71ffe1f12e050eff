-- What a store into an area makes of it, as `write` says it.
use mathlib.Core.Path.{◌≡◌}
use mathlib.Core.List.{List, [], ◌∷◌}
use Prim.Native.Nat.{ℕ, ◌<◌}
use native.Mathlib.Omega.{arith}
use lib.ListN.{length, set}
use lib.Seq.{sets-eq}
use Rattle.link.specs.Receiver.{write}

pub stored : (area : List ℕ) (at x : ℕ) → at < length area → set area at x ≡ write area at (x ∷ [])
stored area at x h = sets-eq (x ∷ []) area at (omega arith)
