-- Reading on: the octets of a stretch go to the receiver one after another, up to and with the first that is answered by anything but Quiet.
use Rattle.std.specs.Prelude.{List, [], ◌∷◌, ℕ, ◌+◌}
use Rattle.std.specs.Prelude.{if◌then◌else◌}
use Rattle.link.specs.Answers.{Answer, quiet, is_quiet}
use Rattle.link.specs.Receiver.{ReceiverEnd, Receive, receive}

-- the answer to the last octet used, the receiver and its areas after it, and how many octets were used
pub record Reach : Type 0 where
  pub report : Answer
  pub after : ReceiverEnd
  pub used : ℕ

-- reading stops with a call: its octet was used
abbrev pub stopped : Receive → Reach
stopped h = record { report = h.report; after = h.after; used = 1 }

-- n octets were used before
abbrev pub used_before : ℕ → Reach → Reach
used_before n r = record { report = r.report; after = r.after; used = n + r.used }

-- the octets, one after another, each to the receiver as the call before left it; a stretch that is used up is Quiet
unfoldable pub read_on : ReceiverEnd → List ℕ → Reach
read_on e [] = record { report = quiet; after = e; used = 0 }
read_on e (x ∷ xs) =
    let h = receive e x in
    if is_quiet h.report then used_before 1 (read_on h.after xs) else stopped h
