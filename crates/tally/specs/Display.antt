-- What is shown of a reported packet (document 01, "Display, tally, capture program").
use Rattle.std.specs.Prelude.{Bool, true, false, List, [], ◌≡◌, ℕ, ◌≤◌, ◌<◌, leb, length, take}
use Rattle.std.proofs.Math.Option.{some}
use Rattle.std.specs.Prelude.{if◌then◌else◌}
use Rattle.link.specs.Answers.{packet}
use Rattle.link.specs.Receiver.{ReceiverEnd, receive}
use Rattle.link.specs.Runs.{packet_in}

-- the first n octets of an area; of an area that has fewer, none
unfoldable pub front : ℕ → List ℕ → List ℕ
front n area = if leb n (length area) then take n area else []

-- a packet of n octets, in the area that took it
abbrev pub shown : Bool → ℕ → List ℕ → List ℕ → List ℕ
shown in_second n first second = front n (if in_second then second else first)

-- Of every call of the receiver that answers Packet: what is shown, from the areas as that call left them, is the packet that the report
-- stands for.
abbrev pub ShowsThePacket : Type 0
ShowsThePacket = (e : ReceiverEnd) (x : ℕ) (in_second : Bool) (n : ℕ)
    → (let h = receive e x in
    h.report ≡ packet in_second n → packet_in h ≡ some (shown in_second n h.after.first h.after.second))

-- A length that the area has shows so many of its first octets; one beyond it shows none, whichever area that is and whatever is in it.
pub record WithinTheArea : Type 0 where
  pub in_first : (n : ℕ) (first second : List ℕ) → n ≤ length first → shown false n first second ≡ take n first
  pub in_second : (n : ℕ) (first second : List ℕ) → n ≤ length second → shown true n first second ≡ take n second

pub record BeyondTheArea : Type 0 where
  pub in_first : (n : ℕ) (first second : List ℕ) → length first < n → shown false n first second ≡ []
  pub in_second : (n : ℕ) (first second : List ℕ) → length second < n → shown true n first second ≡ []
