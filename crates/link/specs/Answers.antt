-- What the calls answer, in document 01's numbers and values. Each call of the sender has an enum of its refusals (declared in src/sender.rt),
-- and the receiver's call an enum of its reports (src/receiver.rt). The values, and what document 01 calls them:
--   load              Ok(())                               Done
--                     Err(e)                               refusal 1 to 4, load_refusal e
--   next octet        Ok(Some(x))                          the octet x to send
--                     Ok(None)                             Idle
--                     Err(e)                               refusal 2 or 3, next_refusal e
--   receiver's call   Report::Quiet                        Quiet
--                     Report::Packet { second, length }    Packet: its area (second: whether it is the second), its length less the FCS
--                     Report::Held { count, replaced }     Held: the count of decoded octets, and whether it replaced an older held fragment
--                     Report::Refused(n)                   refusal n: 5 to 14, 18 or 21 of a frame, 2 or 3 of the call
use Rattle.std.specs.Prelude.{Bool, true, false, ℕ, Option, Some, None, Result, Ok, Err}
use Rattle.link.specs.Agreed.{OpenError, limit_refused, width_refused}
use Rattle.link.specs.declared.sender.LoadError.{LoadError}
use Rattle.link.specs.declared.sender.LoadError.TheVariants as load
use Rattle.link.specs.declared.sender.NextError.{NextError}
use Rattle.link.specs.declared.sender.NextError.TheVariants as next
use Rattle.link.specs.declared.receiver.Report.{Report}
use Rattle.link.specs.declared.receiver.Report.TheVariants.{Quiet, Packet, Held, Refused}

-- the number of the refusal of an opening
abbrev pub open_refusal : OpenError → ℕ
open_refusal limit_refused = 23
open_refusal width_refused = 3

-- an answer of any call
pub data Answer : Type 0 where
  done : Answer
  octet : ℕ → Answer
  idle : Answer
  quiet : Answer
  packet : Bool → ℕ → Answer
  held : ℕ → Bool → Answer
  refused : ℕ → Answer

-- the number of a refusal: of a load,
abbrev pub load_refusal : LoadError → ℕ
load_refusal load.PacketLength = 1
load_refusal load.AreaTooShort = 2
load_refusal load.OutOfBounds = 3
load_refusal load.LaneNotEmpty = 4

-- and of next octet
abbrev pub next_refusal : NextError → ℕ
next_refusal next.AreaTooShort = 2
next_refusal next.OutOfBounds = 3

-- the answer that each value is: of a load,
abbrev pub load_answer : Result (Unit {0}) LoadError → Answer
load_answer (Ok _) = done
load_answer (Err e) = refused (load_refusal e)

-- of next octet,
abbrev pub next_answer : Result (Option ℕ) NextError → Answer
next_answer (Ok (Some x)) = octet x
next_answer (Ok None) = idle
next_answer (Err e) = refused (next_refusal e)

-- of the receiver's call
abbrev pub report_answer : Report → Answer
report_answer Quiet = quiet
report_answer (Packet in_second length) = packet in_second length
report_answer (Held count replaced) = held count replaced
report_answer (Refused n) = refused n

-- whether an answer is Quiet: the call reports nothing
abbrev pub is_quiet : Answer → Bool
is_quiet done = false
is_quiet (octet x) = false
is_quiet idle = false
is_quiet quiet = true
is_quiet (packet in_second n) = false
is_quiet (held n replaced) = false
is_quiet (refused n) = false
