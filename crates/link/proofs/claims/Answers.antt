-- `link::claims`: the theorems.
use Rattle.link.proofs.EachCall.{valid-first, areas-then-state, refused-changes-nothing, idle-changes-nothing, settings-stay, closed-is-empty, done-loads, receives-so}
use Rattle.link.proofs.Stays.{mode-stays}
use Rattle.link.proofs.Within.{within, five-if-off}
use Rattle.link.proofs.InBounds.{keep-bounds, never-out-of-bounds}
use Rattle.link.proofs.Demands.{sound-line, demand3}
use Rattle.link.proofs.AnyBlocks.{any-blocks}
use Rattle.link.proofs.Progress.{idle-if-empty, emptied}
use Rattle.link.proofs.Uninterrupted.{sent-uninterrupted, rest-uninterrupted}
use Rattle.link.proofs.Urgent.{urgent-first}
use Rattle.link.proofs.Delivery.{packet-uninterrupted, nothing-lost, delivery}
use Rattle.link.proofs.AreasAside.{areas-aside}
use Rattle.link.proofs.Restart.{restart}
use Rattle.link.proofs.Changed.{areas-changed}
use Rattle.link.proofs.PlainFrames.{frame-by-frame}
use Rattle.link.proofs.PlainPair.{plain-sends, pair-opens, removed-octets, plain-frames}
use Rattle.link.proofs.PlainExamples.{plain-cases}
use Rattle.link.proofs.Marked.{marked, at-work}
use Rattle.link.proofs.Examples.{other-bits, agreed-lengths, packet-lengths, each-example}
use Rattle.link.proofs.claims.Goals as goal

pub returns : goal.returns
returns c = record { valid_first = (valid-first, areas-then-state, refused-changes-nothing, idle-changes-nothing, settings-stay, mode-stays, five-if-off, closed-is-empty, done-loads, within, receives-so); keep_bounds = (keep-bounds, never-out-of-bounds); idle_if_empty = (idle-if-empty, sent-uninterrupted, rest-uninterrupted, packet-uninterrupted, emptied, urgent-first); sound_line = (λ t reading v. (sound-line t reading v, nothing-lost t reading v, delivery t reading v)); any_blocks = (any-blocks, demand3); areas_aside = (areas-aside, restart, areas-changed); plain_sends = (plain-sends, pair-opens, frame-by-frame, removed-octets, plain-frames, plain-cases); marked_cases = (marked, at-work); other_bits_ignored = (other-bits, agreed-lengths, packet-lengths, each-example) }
