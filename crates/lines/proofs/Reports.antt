-- The line of each kind of report, for the crates above.
use mathlib.Core.Bool.{Bool}
use mathlib.Core.List.{List}
use mathlib.Core.Path.{◌≡◌, refl}
use Prim.Native.Nat.{ℕ}
use Rattle.link.specs.Answers.{packet, held, refused}
use Rattle.lines.specs.Lines.{packet_line, held_line, refused_line, report_line}

pub of-packet : (in_second : Bool) (n : ℕ) (shown : List ℕ) → report_line (packet in_second n) shown ≡ packet_line n shown
unfolding report_line
of-packet in_second n shown = refl

pub of-held : (n : ℕ) (replaced : Bool) (shown : List ℕ) → report_line (held n replaced) shown ≡ held_line n replaced
unfolding report_line
of-held n replaced shown = refl

pub of-refusal : (n : ℕ) (shown : List ℕ) → report_line (refused n) shown ≡ refused_line n
unfolding report_line
of-refusal n shown = refl
