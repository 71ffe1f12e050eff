-- An answer as one number of 32 bits (include/kutarehopa.h): the kind in the highest octet, a mark in bit 16, a value in the low 16 bits.
use Rattle.std.specs.Prelude.{Bool, false, List, Result, Ok, Err, ◌≡◌, ℕ, ◌+◌, ◌*◌, ◌/◌, ◌%◌, ◌<◌, eqb}
use Rattle.std.specs.Prelude.{if◌then◌else◌}
use Rattle.link.specs.Answers.{Answer, done, octet, idle, quiet, packet, held, refused}
use Rattle.link.specs.Receiver.{ReceiverEnd, receive}
use Rattle.link.specs.declared.plain_sender.PlainSender.{PlainSender}
use Rattle.link.specs.declared.plain_sender.SendError.{SendError}
use Rattle.link.specs.declared.plain_sender.SendError.TheVariants.{PacketLength as wrong_length, NoRoom as no_room, OutOfBounds as out_of_bounds}
use Rattle.link.specs.PlainSender.{send_refusal, plain_send}
use Rattle.kutarehopa.specs.declared.answers.Kind.{Kind}
use Rattle.kutarehopa.specs.declared.answers.Kind.TheVariants as kinds

abbrev pub numbered : ℕ → Bool → ℕ → ℕ
numbered kind mark value = 0x1000000 * kind + (if mark then 0x10000 else 0) + value

-- the kinds as the code has them
abbrev pub kind_number : Kind → ℕ
kind_number kinds.Quiet = 0
kind_number kinds.Packet = 1
kind_number kinds.Held = 2
kind_number kinds.Refused = 3
kind_number kinds.Done = 4
kind_number kinds.Octet = 5
kind_number kinds.Idle = 6
kind_number kinds.Written = 7

-- the kinds, numbered from Quiet on,
abbrev pub kind : Answer → ℕ
kind quiet = 0
kind (packet in_second n) = 1
kind (held n replaced) = 2
kind (refused n) = 3
kind done = 4
kind (octet x) = 5
kind idle = 6

-- the mark: a packet is in the second area, or an older fragment was given up,
abbrev pub mark : Answer → Bool
mark quiet = false
mark (packet in_second n) = in_second
mark (held n replaced) = replaced
mark (refused n) = false
mark done = false
mark (octet x) = false
mark idle = false

-- and the value: a length, a count, a refusal or an octet
abbrev pub value : Answer → ℕ
value quiet = 0
value (packet in_second n) = n
value (held n replaced) = n
value (refused n) = n
value done = 0
value (octet x) = x
value idle = 0

abbrev pub number : Answer → ℕ
number a = numbered (kind a) (mark a) (value a)

-- A plain send has answers of its own: so many octets were written, which no other call answers, or a refusal as any.
abbrev pub Sent : Type 0
Sent = Result ℕ SendError

abbrev pub sent_kind : Sent → ℕ
sent_kind (Ok n) = 7
sent_kind (Err e) = 3

abbrev pub sent_value : Sent → ℕ
sent_value (Ok n) = n
sent_value (Err e) = send_refusal e

abbrev pub sent_number : Sent → ℕ
sent_number a = numbered (sent_kind a) false (sent_value a)

-- what the header's kuta_kind, kuta_mark and kuta_value take out of it
abbrev pub kind_of : ℕ → ℕ
kind_of a = a / 0x1000000

abbrev pub mark_of : ℕ → ℕ
mark_of a = a / 0x10000 % 2

abbrev pub value_of : ℕ → ℕ
value_of a = a % 0x10000

-- the answer with these three
abbrev pub answer_with : ℕ → Bool → ℕ → Answer
answer_with k m v =
    if eqb k 0 then quiet
    else if eqb k 1 then packet m v
    else if eqb k 2 then held v m
    else if eqb k 3 then refused v
    else if eqb k 4 then done
    else if eqb k 5 then octet v
    else idle

abbrev pub send_error_with : ℕ → SendError
send_error_with v = if eqb v 1 then wrong_length else if eqb v 2 then no_room else out_of_bounds

abbrev pub sent_with : ℕ → ℕ → Sent
sent_with k v = if eqb k 7 then Ok v else Err (send_error_with v)

-- A number with a value of 16 bits comes apart into its kind, its mark and its value, and these tell the answer.
pub record Apart (a : Answer) : Type 0 where
  pub kind : kind_of (number a) ≡ kind a
  pub mark : mark_of (number a) ≡ (if mark a then 1 else 0)
  pub value : value_of (number a) ≡ value a
  pub answer : answer_with (kind_of (number a)) (eqb (mark_of (number a)) 1) (value_of (number a)) ≡ a

-- So does that of a plain send's answer.
pub record SentApart (a : Sent) : Type 0 where
  pub kind : kind_of (sent_number a) ≡ sent_kind a
  pub mark : mark_of (sent_number a) ≡ 0
  pub value : value_of (sent_number a) ≡ sent_value a
  pub answer : sent_with (kind_of (sent_number a)) (value_of (sent_number a)) ≡ a

--   other_kinds: no other call's answer has the kind of what was written
pub record NumbersComeApart : Type 0 where
  pub answers : (a : Answer) → value a < 0x10000 → Apart a
  pub sends : (a : Sent) → sent_value a < 0x10000 → SentApart a
  pub other_kinds : (a : Answer) (n : ℕ) → kind a ≡ sent_kind (Ok n) → ⊥

-- Every report has such a value,
abbrev pub ReportsHaveNumbers : Type 0
ReportsHaveNumbers = (e : ReceiverEnd) (x : ℕ) → value (receive e x).report < 0x10000

-- and so has every answer of a plain send.
abbrev pub SendsHaveNumbers : Type 0
SendsHaveNumbers = (s : PlainSender) (p area : List ℕ) → sent_value (plain_send s p area).answer < 0x10000
