-- Which line each call of the receiver has.
use mathlib.Core.List.{List, []}
use mathlib.Core.Option.{some}
use mathlib.Core.Path.{◌≡◌, refl, sym, ap, subst, ◌∙◌}
use Prim.Native.Nat.{ℕ, ◌<◌}
use native.Mathlib.Omega.{arith}
use lib.ListN.{length, take, length-take}
use Rattle.link.specs.Agreed.{agreed}
use Rattle.link.specs.Answers.{Answer, done, octet, idle, quiet, packet, held, refused}
use Rattle.link.specs.Receiver.{ReceiverEnd, Receive, area_of, receive}
use Rattle.link.specs.Runs.{stands_for, packet_in}
use Rattle.link.specs.EachCall.{Within}
use Rattle.link.proofs.Within.{within}
use Rattle.link.proofs.EachCall.{refused-changes-nothing}
use Rattle.tally.specs.Display.{shown}
use Rattle.tally.proofs.Packet.{shows-the-packet}
use Rattle.tally.proofs.Sums.{of-frame, not-of-frame, note-none}
use Rattle.lines.specs.Lines.{packet_line}
use Rattle.lines.proofs.Reports.{of-packet, of-held, of-refusal}
use Rattle.transcript.specs.Transcript.{line_of}
use Rattle.transcript.specs.LinesOfReports.{LineOfCall, LinesOfReports, NoReport, RefusedCalls}

module _ (e : ReceiverEnd) (x : ℕ) where
  abbrev h : Receive
  h = receive e x

  -- ---- reports

  -- The line of a Packet report tells the octets that are shown, and they are the packet that it stands for. No other answer stands for one.
  of-packets : (a : Answer) → h.report ≡ a → (p : List ℕ) → stands_for a h.after ≡ some p → line_of h ≡ packet_line (length p) p
  unfolding line_of
  of-packets (packet in_second n) r p q =
      let area = area_of in_second h.after in
      let is : packet_in h ≡ some p = ap (λ (a : Answer). stands_for a h.after) r ∙ q in
      let seen : p ≡ shown in_second n h.after.first h.after.second = let k = sym is ∙ shows-the-packet e x in_second n r in cc in
      let fits = (subst (λ (a : Answer). Within (agreed e.state.settings) a h.after) r (within e x)).0 in
      let front : p ≡ take n area = cc in
      let long : length p ≡ n = rw front (omega (arith, fits, length-take n area)) in
      rw (r, long, seen) (of-packet in_second n _)
  of-packets (held n replaced) r p q = cc
  of-packets (refused n) r p q = cc
  of-packets quiet r p q = cc
  of-packets done r p q = cc
  of-packets (octet y) r p q = cc
  of-packets idle r p q = cc

  line-of-call : LineOfCall h
  unfolding line_of
  line-of-call =
      record {
        of_packet = of-packets h.report refl;
        of_held = λ n replaced r. rw r (of-held n replaced []);
        of_refusal = λ n r low high. rw (r, of-frame n low high) (of-refusal n []);
        of_quiet = λ r. rw r;
      }

  -- ---- refused calls

  refused-call : (n : ℕ) → h.report ≡ refused n → n < 5 → NoReport e h
  unfolding line_of
  refused-call n r l =
      record {
        line = rw (r, not-of-frame n l);
        counts = λ t. rw r (note-none t (refused n) (not-of-frame n l));
        after = refused-changes-nothing.receive e x n l r;
      }

pub lines-of-reports : LinesOfReports
lines-of-reports e x = line-of-call e x

pub refused-calls : RefusedCalls
refused-calls e x = refused-call e x
