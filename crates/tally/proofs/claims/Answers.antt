-- `tally::claims`.
use Rattle.std.proofs.Common.{refl}
use Rattle.tally.proofs.Packet.{shows-the-packet, within-the-area, beyond-the-area}
use Rattle.tally.proofs.Sums.{frames-counted, named-rightly, largest-of-64-bits, each-count, add-up, from_empty}
use Rattle.tally.proofs.claims.Goals as goal

pub returns : goal.returns
returns c = (shows-the-packet, within-the-area, beyond-the-area, frames-counted, named-rightly, largest-of-64-bits, each-count, add-up, from_empty, refl)
