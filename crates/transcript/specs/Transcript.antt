-- What a stretch of a line comes to as text (document 01, "Display, tally, capture program").
use mathlib.Core.List.{List, [], ◌∷◌, flat_map}
use Rattle.std.specs.Prelude.{ℕ, ◌+◌, ◌*◌, ltb, length}
use Rattle.std.specs.Prelude.{if◌then◌else◌}
use Rattle.link.specs.Agreed.{agreed}
use Rattle.link.specs.declared.Settings.{Settings}
use Rattle.link.specs.Answers.{Answer, done, octet, idle, quiet, packet, held, refused}
use Rattle.link.specs.Receiver.{ReceiverEnd, Receive, receive}
use Rattle.tally.specs.Display.{shown}
use Rattle.tally.specs.Sums.{is_counted}
use Rattle.lines.specs.Lines.{Page, append, report_line}

-- ---- lines

-- what is shown of a report: the octets of a packet, and of any other report none
abbrev pub shown_of : Answer → List ℕ → List ℕ → List ℕ
shown_of (packet in_second n) first second = shown in_second n first second
shown_of (held n replaced) first second = []
shown_of (refused n) first second = []
shown_of quiet first second = []
shown_of done first second = []
shown_of (octet x) first second = []
shown_of idle first second = []

-- The line of an answer, from the areas. What is not counted has none: Quiet, and a refusal of the call itself (any number but 5 to 14, 18
-- and 21).
abbrev pub line_for : Answer → List ℕ → List ℕ → List ℕ
line_for a first second = if is_counted a then report_line a (shown_of a first second) else []

-- the line of a call of the receiver, from the areas as the call left them
unfoldable pub line_of : Receive → List ℕ
line_of h = line_for h.report h.after.first h.after.second

unfoldable pub lines_of : List Receive → List ℕ
lines_of = flat_map line_of

-- ---- a page of them

-- No line has more octets, whatever was agreed: 3 for each octet of the largest packet, and 10.
abbrev pub longest_line : Settings → ℕ
longest_line settings = 3 * (agreed settings).limit + 10

-- the receiver and its areas afterwards, the page, and how many octets were used
pub record Transcript : Type 0 where
  pub after : ReceiverEnd
  pub page : Page
  pub used : ℕ

-- what is printed behind n octets that were used already
abbrev pub printed_after : ℕ → Transcript → Transcript
printed_after n t = record { after = t.after; page = t.page; used = n + t.used }

-- The octets, one after another, each to the receiver as the call before left it, and the line of each call after those on the page, until
-- the octets are used up or the page has no room for the longest line.
unfoldable pub print_on : ReceiverEnd → List ℕ → Page → Transcript
print_on e [] p = record { after = e; page = p; used = 0 }
print_on e (x ∷ xs) p =
    if ltb (length p.area) (p.filled + longest_line e.state.settings) then record { after = e; page = p; used = 0 }
    else (let h = receive e x in printed_after 1 (print_on h.after xs (append p (line_of h))))

-- from the start of a page
abbrev pub print : ReceiverEnd → List ℕ → List ℕ → Transcript
print e xs page = print_on e xs (record { area = page; filled = 0 })
