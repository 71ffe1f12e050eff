-- What a private function of a crate above asks of its callers. The exported call asks nothing: it tests it, and refuses.
use Rattle.std.specs.Prelude.{true, ◌≡◌, ◌≤◌, List, ℕ, length}
use Rattle.link.specs.Agreed.{Settings, agreed, valid, most_decoded}
use Rattle.link.specs.Receiver.{ReceiverEnd, in_bounds}

-- the settings are valid, and an area is long enough for what is decoded with them
abbrev pub AreaReady : Settings → List ℕ → Type 0
AreaReady settings area = (valid (agreed settings) ≡ true) × (most_decoded (agreed settings) ≤ length area)

-- no call of the receiver is refused: the settings are valid, the areas are long enough, and the state is in bounds
pub record ReceiverReady (e : ReceiverEnd) : Type 0 where
  pub valid : valid (agreed e.state.settings) ≡ true
  pub first : most_decoded (agreed e.state.settings) ≤ length e.first
  pub second : most_decoded (agreed e.state.settings) ≤ length e.second
  pub bounds : in_bounds (agreed e.state.settings) e.state ≡ true
