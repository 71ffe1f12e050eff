-- Which line each call of the receiver has (document 01, "Display, tally, capture program"). Each is proved in proofs/LinesOfReports.antt.
use Rattle.std.specs.Prelude.{Bool, List, [], ◌⊎◌, ◌≡◌, ℕ, ◌≤◌, ◌<◌, length}
use Rattle.std.proofs.Math.Option.{some}
use Rattle.link.specs.Answers.{quiet, held, refused}
use Rattle.link.specs.Receiver.{ReceiverEnd, Receive, receive}
use Rattle.link.specs.Runs.{packet_in}
use Rattle.tally.specs.declared.Tally.{Tally}
use Rattle.tally.specs.Counts.{note}
use Rattle.lines.specs.Lines.{packet_line, held_line, refused_line}
use Rattle.transcript.specs.Transcript.{line_of}

-- The line of a call.
--   of_packet: where its report stands for the packet p, in the sense of the demands, P, the length of p, and the octets of p
--   of_held: H, the count, and whether an older fragment was replaced
--   of_refusal: R and the number, which is one of a frame, 5 to 14, 18 or 21
--   of_quiet: none
pub record LineOfCall (h : Receive) : Type 0 where
  pub of_packet : (p : List ℕ) → packet_in h ≡ some p → line_of h ≡ packet_line (length p) p
  pub of_held : (n : ℕ) (replaced : Bool) → h.report ≡ held n replaced → line_of h ≡ held_line n replaced
  pub of_refusal : (n : ℕ) → h.report ≡ refused n → 5 ≤ n → (n ≤ 14) ⊎ (n ≡ 18) ⊎ (n ≡ 21) → line_of h ≡ refused_line n
  pub of_quiet : h.report ≡ quiet → line_of h ≡ []

-- of every receiver, with any areas, and every octet
abbrev pub LinesOfReports : Type 0
LinesOfReports = (e : ReceiverEnd) (x : ℕ) → LineOfCall (receive e x)

-- A call that is refused itself, by 2 or 3, is no report: it has no line, no tally counts it, and the receiver and both areas are as before it.
pub record NoReport (e : ReceiverEnd) (h : Receive) : Type 0 where
  pub line : line_of h ≡ []
  pub counts : (t : Tally) → note t h.report ≡ t
  pub after : h.after ≡ e

-- so with any number below those of frames
abbrev pub RefusedCalls : Type 0
RefusedCalls = (e : ReceiverEnd) (x : ℕ) (n : ℕ) → (receive e x).report ≡ refused n → n < 5 → NoReport e (receive e x)
