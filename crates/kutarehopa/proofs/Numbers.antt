-- The numbers of answers.
use mathlib.Core.Logic.{⊎_elim}
use mathlib.Core.List.{List, [], ◌∷◌}
use mathlib.Core.Path.{◌≡◌, refl}
use mathlib.Core.Bool.{Bool, true, false, not, ◌||◌}
use Prim.Native.Nat.{ℕ, ◌+◌, ◌*◌, ◌≤◌, ◌<◌}
use native.Mathlib.Omega.{arith}
use borrow.Author.Tests.{not-false}
use lib.Dec.{ltb, eqb}
use lib.ListN.{length, length-append}
use Rattle.std.specs.Prelude.{Ok, Err}
use Rattle.std.specs.Prelude.{if◌then◌else◌}
use Rattle.cobs.specs.CodeBlocks.{frame}
use Rattle.cobs.proofs.Tests.{branch, decide}
use Rattle.plain.specs.Maps.{marked, marks_ok}
use Rattle.plain.specs.Stuffing.{stuffed, line}
use Rattle.plain.proofs.Laws.{line-is, stuffed-nil, stuffed-cons, unmarked-octet, marked-octet}
use Rattle.link.specs.declared.Settings.{Settings}
use Rattle.link.specs.Answers.{Answer, done, octet, idle, quiet, packet, held, refused}
use Rattle.link.specs.Agreed.{agreed, least_packet, valid}
use Rattle.link.specs.Receiver.{receive}
use Rattle.link.specs.declared.plain_sender.SendError.TheVariants.{PacketLength as wrong_length, NoRoom as no_room, OutOfBounds as out_of_bounds}
use Rattle.link.specs.PlainSender.{plain_agreed, plain_line, PlainSent, send_with, plain_send}
use Rattle.link.specs.EachCall.{Within}
use Rattle.link.proofs.Tests.{not-below}
use Rattle.link.proofs.Agreed.{limit-at-most, frame-at-most, decoded-at-most}
use Rattle.link.proofs.Follow.{frame-long}
use Rattle.link.proofs.EachCall.{valid-first}
use Rattle.link.proofs.Within.{within, by-report}
use Rattle.kutarehopa.specs.Numbers.{numbered, kind, mark, value, number, Sent, sent_kind, sent_value, kind_of, mark_of, value_of, answer_with, sent_with, Apart, SentApart, NumbersComeApart, ReportsHaveNumbers, SendsHaveNumbers}

-- kind, mark and value of a number with a small value
module _ (k v : ℕ) (h : v < 0x10000) where
  kind-of : (m : Bool) → kind_of (numbered k m v) ≡ k
  kind-of true = omega arith
  kind-of false = omega arith

  mark-of : (m : Bool) → mark_of (numbered k m v) ≡ (if m then 1 else 0)
  mark-of true = omega arith
  mark-of false = omega arith

  value-of : (m : Bool) → value_of (numbered k m v) ≡ v
  value-of true = omega arith
  value-of false = omega arith

mark-back : (m : Bool) → eqb (if m then 1 else 0) 1 ≡ m
mark-back true = refl
mark-back false = refl

with-these : (a : Answer) → answer_with (kind a) (mark a) (value a) ≡ a
with-these quiet = refl
with-these (packet in_second n) = refl
with-these (held n replaced) = refl
with-these (refused n) = refl
with-these done = refl
with-these (octet x) = refl
with-these idle = refl

answer-apart : (a : Answer) → value a < 0x10000 → Apart a
answer-apart a h =
    let k = kind-of (kind a) (value a) h (mark a) in
    let m = mark-of (kind a) (value a) h (mark a) in
    let v = value-of (kind a) (value a) h (mark a) in
    record { kind = k; mark = m; value = v; answer = rw (k, m, v, mark-back (mark a)) (with-these a) }

sent-with-these : (a : Sent) → sent_with (sent_kind a) (sent_value a) ≡ a
sent-with-these (Ok n) = refl
sent-with-these (Err wrong_length) = refl
sent-with-these (Err no_room) = refl
sent-with-these (Err out_of_bounds) = refl

sent-apart : (a : Sent) → sent_value a < 0x10000 → SentApart a
sent-apart a h =
    let k = kind-of (sent_kind a) (sent_value a) h false in
    let v = value-of (sent_kind a) (sent_value a) h false in
    record { kind = k; mark = mark-of (sent_kind a) (sent_value a) h false; value = v; answer = rw (k, v) (sent-with-these a) }

other-kinds : (a : Answer) (n : ℕ) → kind a ≡ sent_kind (Ok n) → ⊥
other-kinds quiet n e = omega (arith, e)
other-kinds (packet in_second k) n e = omega (arith, e)
other-kinds (held k replaced) n e = omega (arith, e)
other-kinds (refused k) n e = omega (arith, e)
other-kinds done n e = omega (arith, e)
other-kinds (octet x) n e = omega (arith, e)
other-kinds idle n e = omega (arith, e)

pub numbers-come-apart : NumbersComeApart
numbers-come-apart = record { answers = answer-apart; sends = sent-apart; other_kinds = other-kinds }

-- the value of a report is within the limits of what was agreed
pub reports-have-numbers : ReportsHaveNumbers
reports-have-numbers e x =
    let settings = e.state.settings in
    decide (valid (agreed settings))
    (λ v. by-report (λ (a : Answer). Within (agreed settings) a (receive e x).after → value a < 0x10000) (λ w. omega arith)
    (λ in_second n w. omega (arith, w.1, limit-at-most (agreed settings) v))
    (λ n replaced w. omega (arith, w, decoded-at-most settings v))
    (λ n w. ⊎_elim (λ l. omega arith) (λ o. ⊎_elim (λ q. omega arith) (λ q. omega arith) o) w.1)
    e
    x
    (within e x))
    (λ n. rw (valid-first.receive e x n) (omega arith))

-- what is written for a packet has at most twice as many octets as its frame, and the flag
stuffed-at-most : (marks xs : List ℕ) → length (stuffed marks xs) ≤ 2 * length xs
stuffed-at-most marks [] = rw (stuffed-nil marks) (omega arith)
stuffed-at-most marks (x ∷ xs) =
    let more = stuffed-at-most marks xs in
    rw (stuffed-cons marks x xs, length-append)
    (decide (marked marks x) (λ k. rw (marked-octet marks x k) (omega arith)) (λ k. rw (unmarked-octet marks x k) (omega arith)))

line-at-most : (marks f : List ℕ) → length (line marks f) ≤ 2 * length f + 1
line-at-most marks f = rw (line-is marks f, length-append) (omega (arith, stuffed-at-most marks f))

pub sends-have-numbers : SendsHaveNumbers
unfolding agreed plain_send send_with
sends-have-numbers s p area =
    let g = plain_agreed s in
    let P : PlainSent → Type 0 = λ t. sent_value t.answer < 0x10000 in
    branch P (not (valid g)) (λ _. omega arith)
    (λ v. branch P (ltb (length area) (length (plain_line s p))) (λ _. omega arith)
    (λ k. branch P (not (marks_ok s.marks)) (λ _. omega arith)
    (λ _. branch P (ltb (length p) least_packet || ltb g.limit (length p)) (λ _. omega arith)
    (λ b.
    let frame-length = frame-long g p in
    let fits = not-below (length p) least_packet g.limit (length p) b in
    let settings : Settings = record { octet = 0; width = s.width; limit = s.limit } in
    omega (arith, line-at-most s.marks (frame g.check p), frame-at-most settings (not-false (valid g) v))))))

-- ---- which answer it is

-- A number of a refusal (1 to 14, 18, 19, 21, 23) is no other answer's: of those with a value only packets and fragments come before it.
module _ (n : ℕ) (small : n < 0x10000) where
  pub is-refused : (a : Answer) → ((in_second : Bool) (k : ℕ) → a ≡ packet in_second k → k < 0x10000) → ((k : ℕ) (replaced : Bool) → a ≡ held k replaced → k < 0x10000)
      → number a ≡ number (refused n) → a ≡ refused n
  is-refused quiet p h e = absurd (omega (arith, e))
  is-refused (packet true k) p h e = absurd (omega (arith, e, p true k refl))
  is-refused (packet false k) p h e = absurd (omega (arith, e, p false k refl))
  is-refused (held k true) p h e = absurd (omega (arith, e, h k true refl))
  is-refused (held k false) p h e = absurd (omega (arith, e, h k false refl))
  is-refused (refused k) p h e = let z : k ≡ n = omega (arith, e) in rw z
  is-refused done p h e = absurd (omega (arith, e))
  is-refused (octet x) p h e = absurd (omega (arith, e))
  is-refused idle p h e = absurd (omega (arith, e))

  -- of an answer whose value is small
  pub small-refused : (a : Answer) → value a < 0x10000 → number a ≡ number (refused n) → a ≡ refused n
  small-refused a v = is-refused a (λ b k e. rw e at v) (λ k b e. rw e at v)
