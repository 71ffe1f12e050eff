-- Writing on: a sender's next octets go on the line, up to and with the first flag.
use Rattle.std.specs.Prelude.{List, [], ◌∷◌, ◌++◌, ℕ, zero, suc, ◌+◌, eqb, length, take, drop}
use Rattle.std.specs.Prelude.{if◌then◌else◌}
use Rattle.cobs.specs.CodeBlocks.{flag}
use Rattle.link.specs.Answers.{Answer, done, octet, idle, quiet, packet, held, refused}
use Rattle.link.specs.declared.sender.Sender.{Sender}
use Rattle.link.specs.Sender.{SenderEnd, next, seen}

-- the octets written, and the sender after them
pub record Wrote : Type 0 where
  pub octets : List ℕ
  pub state : Sender

abbrev pub writes_nothing : Sender → Wrote
writes_nothing s = record { octets = []; state = s }

-- an octet in front of the rest
abbrev pub octet_first : ℕ → Wrote → Wrote
octet_first x w = record { octets = x ∷ w.octets; state = w.state }

-- by the answer of a call that took the sender from s to t: the flag is the last octet, another is followed by the rest; any other answer
-- puts nothing on the line, and the call does not count
abbrev pub by_answer : Answer → Sender → Sender → Wrote → Wrote
by_answer (octet x) s t rest = octet_first x (if eqb x flag then writes_nothing t else rest)
by_answer done s t rest = writes_nothing s
by_answer idle s t rest = writes_nothing s
by_answer quiet s t rest = writes_nothing s
by_answer (packet in_second n) s t rest = writes_nothing s
by_answer (held n replaced) s t rest = writes_nothing s
by_answer (refused n) s t rest = writes_nothing s

-- with room for n octets
unfoldable pub write_on : ℕ → SenderEnd → Wrote
write_on zero e = writes_nothing e.state
write_on (suc n) e =
    let h = seen (next e) in
    by_answer h.answer e.state h.state (write_on n (record { state = h.state; low = e.low; high = e.high }))

-- a line, how many of its octets are filled, and the sender after them
pub record Filled : Type 0 where
  pub state : Sender
  pub line : List ℕ
  pub filled : ℕ

-- the octets at the line's start; what stood behind them stays
abbrev pub onto : List ℕ → Wrote → Filled
onto line w = record { state = w.state; line = w.octets ++ drop (length w.octets) line; filled = length w.octets }

-- the octets behind the first i of a line
abbrev pub from_place : ℕ → List ℕ → Wrote → Filled
from_place i line w = record { state = w.state; line = take i line ++ w.octets ++ drop (i + length w.octets) line; filled = i + length w.octets }
