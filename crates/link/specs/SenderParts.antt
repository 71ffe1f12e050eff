-- What private functions of the sender, and of crates above, ask of their callers. The exported calls ask nothing: they test it, and refuse.
use Rattle.std.specs.Prelude.{◌≡◌, true, List, ℕ, ◌+◌, ◌≤◌, ◌<◌, length, Some}
use Rattle.link.specs.Agreed.{Agreed, agreed, valid, least_frame, largest_frame}
use Rattle.link.specs.Sender.{Lane, LaneState, Sender, SenderEnd, in_bounds}

-- A lane that may be on the line, with valid settings: its area is long enough for a frame, and its block, with so much data left and zeros
-- due, is inside D.
pub record LaneReady (g : Agreed) (q : LaneState) (left zeros : ℕ) (area : List ℕ) : Type 0 where
  pub valid : valid g ≡ true
  pub short : q.length ≤ largest_frame g
  pub long : largest_frame g ≤ length area
  pub few_zeros : zeros ≤ 2
  pub in_d : q.position + left + zeros ≤ q.length + 1

-- What the short way of next octet has tested. A block with data left is inside the D of a frame of an allowed length.
pub record DataDue (g : Agreed) (q : LaneState) (s : Sender) : Type 0 where
  pub least : least_frame g ≤ q.length
  pub most : q.length ≤ largest_frame g
  pub data_left : 0 < s.left
  pub few_data : s.left ≤ 207
  pub few_zeros : s.zeros ≤ 2
  pub in_d : q.position + s.left + s.zeros ≤ q.length + 1

-- With the lane l on the line the state is in bounds, and data is left.
pub record SendsOn (l : Lane) (s : Sender) : Type 0 where
  pub data_left : 0 < s.left
  pub bounds : s.on ≡ Some l → in_bounds (agreed s.settings) s ≡ true

-- no call of next octet is refused: the settings are valid, the areas are long enough, and the state is in bounds
pub record SenderReady (e : SenderEnd) : Type 0 where
  pub valid : valid (agreed e.state.settings) ≡ true
  pub low : largest_frame (agreed e.state.settings) ≤ length e.low
  pub high : largest_frame (agreed e.state.settings) ≤ length e.high
  pub bounds : in_bounds (agreed e.state.settings) e.state ≡ true
