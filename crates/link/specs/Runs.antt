-- Runs of the two ends, and what is noted of each written octet (docs/DEMANDS.md; document 01, "Receiver", the paragraphs on demand 3).
use Rattle.std.specs.Prelude.{Bool, true, false, not, ◌&&◌, ◌||◌, List, [], ◌∷◌, map, ◌≡◌, ℕ, take}
use Rattle.std.proofs.Math.Option.{Option, none, some}
use Rattle.std.specs.Prelude.{if◌then◌else◌}
use Rattle.cobs.specs.CodeBlocks.{flag}
use Rattle.link.specs.Agreed.{Settings}
use Rattle.link.specs.Answers.{Answer, done, octet, idle, quiet, packet, held, refused, is_quiet}
use Rattle.link.specs.Sender.{Lane, low, high, SenderEnd, Load, Out, closes, breaks_off, sends, sends_nothing, refuses, Step, is_low, out_answer, lane_area, load, next}
use Rattle.link.specs.Sender as sender
use Rattle.link.specs.Receiver.{ReceiverEnd, Receive, area_of, receive}

-- ---- the sender's calls

-- a call of load, with any list as the packet, or of next octet
pub data SenderCall : Type 0 where
  loading : Lane → List ℕ → SenderCall
  next_octet : SenderCall

-- the packet that each lane holds, as it was loaded
pub record Lanes : Type 0 where
  pub low : Option (List ℕ)
  pub high : Option (List ℕ)

-- The sender with its areas, and beside it what no call looks at: the packets that its lanes hold.
pub record Station : Type 0 where
  pub end : SenderEnd
  pub lanes : Lanes

-- a fresh sender, with any areas
abbrev pub fresh_station : Settings → List ℕ → List ℕ → Station
fresh_station settings low_area high_area =
    record {
      end = record { state = sender.opened_sender settings; low = low_area; high = high_area };
      lanes = record { low = none; high = none };
    }

abbrev pub lane_packet : Lane → Lanes → Option (List ℕ)
lane_packet low b = b.low
lane_packet high b = b.high

abbrev pub with_packet : Lane → Option (List ℕ) → Lanes → Lanes
with_packet low m b = record { low = m; high = b.high }
with_packet high m b = record { low = b.low; high = m }

-- the lanes after a call of next octet: a closed packet leaves its lane
abbrev pub lanes_after : Out → Lanes → Lanes
lanes_after (closes l) b = with_packet l none b
lanes_after breaks_off b = b
lanes_after (sends l x) b = b
lanes_after sends_nothing b = b
lanes_after (refuses n) b = b

-- the lanes after a load: the packet enters its lane where the load is Done
abbrev pub is_done : Answer → Bool
is_done done = true
is_done (octet x) = false
is_done idle = false
is_done quiet = false
is_done (packet in_second n) = false
is_done (held n replaced) = false
is_done (refused n) = false

abbrev pub with_area : Lane → Load → SenderEnd → SenderEnd
with_area low t e = record { state = t.state; low = t.area; high = e.high }
with_area high t e = record { state = t.state; low = e.low; high = t.area }

abbrev pub loaded_by : Load → Lane → List ℕ → Station → Station
loaded_by t l p w =
    record {
      end = with_area l t w.end;
      lanes = if is_done t.answer then with_packet l (some p) w.lanes else w.lanes;
    }

-- the station after a call, which has the state and the areas as the call before left them
unfoldable pub after_load : Lane → List ℕ → Station → Station
after_load l p w = loaded_by (load l p w.end.state (lane_area l w.end)) l p w

abbrev pub after_step : Station → Step → Station
after_step w t = record { end = record { state = t.state; low = w.end.low; high = w.end.high }; lanes = lanes_after t.out w.lanes }

unfoldable pub after_next : Station → Station
after_next w = after_step w (next w.end)

-- the station after a list of calls
unfoldable pub run : Station → List SenderCall → Station
run w [] = w
run w (loading l p ∷ cs) = run (after_load l p w) cs
run w (next_octet ∷ cs) = run (after_next w) cs

-- what the calls of a list answer
unfoldable pub sender_answers : Station → List SenderCall → List Answer
sender_answers w [] = []
sender_answers w (loading l p ∷ cs) = (load l p w.end.state (lane_area l w.end)).answer ∷ sender_answers (after_load l p w) cs
sender_answers w (next_octet ∷ cs) = out_answer (next w.end).out ∷ sender_answers (after_next w) cs

abbrev pub same_lane : Lane → Lane → Bool
same_lane low l = is_low l
same_lane high l = not (is_low l)

-- the packets that a list of calls loads into a lane: those whose load is Done
unfoldable pub loaded_into : Lane → Station → List SenderCall → List (List ℕ)
loaded_into l w [] = []
loaded_into l w (loading k p ∷ cs) =
    if same_lane l k && is_done (load k p w.end.state (lane_area k w.end)).answer
    then p ∷ loaded_into l (after_load k p w) cs
    else loaded_into l (after_load k p w) cs
loaded_into l w (next_octet ∷ cs) = loaded_into l (after_next w) cs

-- ---- written octets

-- A written octet, one that a call of next octet answered: what the call did, the octet, the packet that its lane holds, and the low lane's
-- position at that call (whichever lane sent it).
pub record Written : Type 0 where
  pub out : Out
  pub octet : ℕ
  pub sent_for : Option (List ℕ)
  pub low_position : ℕ

-- what a call writes, before what the later calls write
abbrev pub writes : Out → Station → List Written → List Written
writes (closes l) w es =
    record { out = closes l; octet = flag; sent_for = lane_packet l w.lanes; low_position = w.end.state.low.position } ∷ es
writes breaks_off w es = record { out = breaks_off; octet = flag; sent_for = w.lanes.low; low_position = w.end.state.low.position } ∷ es
writes (sends l x) w es = record { out = sends l x; octet = x; sent_for = lane_packet l w.lanes; low_position = w.end.state.low.position } ∷ es
writes sends_nothing w es = es
writes (refuses n) w es = es

-- what a list of calls writes
unfoldable pub written : Station → List SenderCall → List Written
written w [] = []
written w (loading l p ∷ cs) = written (after_load l p w) cs
written w (next_octet ∷ cs) = writes (next w.end).out w (written (after_next w) cs)

abbrev pub written_octets : List Written → List ℕ
written_octets = map (λ (e : Written). e.octet)

-- whose octet it is: of the lane that is on the line at that call
abbrev pub is_of : Lane → Out → Bool
is_of l (closes k) = same_lane l k
is_of l breaks_off = is_low l
is_of l (sends k x) = same_lane l k
is_of l sends_nothing = false
is_of l (refuses n) = false

-- of each written octet, whether it is the lane's
abbrev pub sent_by : Lane → List Written → List Bool
sent_by l = map (λ (e : Written). is_of l e.out)

-- The items that stand at a true mark, and those at a false one.
abbrev pub at_true : {A : Type 0} → List Bool → List A → List A
at_true [] xs = []
at_true (b ∷ bs) [] = []
at_true (true ∷ bs) (x ∷ xs) = x ∷ at_true bs xs
at_true (false ∷ bs) (x ∷ xs) = at_true bs xs

abbrev pub at_false : {A : Type 0} → List Bool → List A → List A
at_false bs xs = at_true (map not bs) xs

-- ---- the receiver's calls, one for each octet

unfoldable pub receives : ReceiverEnd → List ℕ → List Receive
receives e [] = []
receives e (x ∷ xs) = receive e x ∷ receives (receive e x).after xs

-- the receiver after them
unfoldable pub received : ReceiverEnd → List ℕ → ReceiverEnd
received e [] = e
received e (x ∷ xs) = received (receive e x).after xs

-- the calls that are not answered Quiet: those that report, and those that are refused 2 or 3
unfoldable pub not_quiet : List Receive → List Receive
not_quiet [] = []
not_quiet (h ∷ hs) = if is_quiet h.report then not_quiet hs else h ∷ not_quiet hs

-- What a report means as a packet: the head of the area that it names, as the call left that area.
abbrev pub stands_for : Answer → ReceiverEnd → Option (List ℕ)
stands_for done e = none
stands_for (octet x) e = none
stands_for idle e = none
stands_for quiet e = none
stands_for (packet in_second n) e = some (take n (area_of in_second e))
stands_for (held n replaced) e = none
stands_for (refused n) e = none

abbrev pub packet_in : Receive → Option (List ℕ)
packet_in h = stands_for h.report h.after

abbrev pub refusal_of : Answer → Option ℕ
refusal_of done = none
refusal_of (octet x) = none
refusal_of idle = none
refusal_of quiet = none
refusal_of (packet in_second n) = none
refusal_of (held n replaced) = none
refusal_of (refused n) = some n

abbrev pub refusal_in : Receive → Option ℕ
refusal_in h = refusal_of h.report

-- the items that there are, in order
abbrev pub present : {A : Type 0} → List (Option A) → List A
present [] = []
present (none ∷ os) = present os
present (some x ∷ os) = x ∷ present os

-- all packets and all refusals that are reported
abbrev pub packets_in : List Receive → List (List ℕ)
packets_in hs = present (map packet_in hs)

abbrev pub refusals_in : List Receive → List ℕ
refusals_in hs = present (map refusal_in hs)

-- ---- a packet under way

-- A packet is begun by the first octet that its lane sends, D1 and 02 included, and over with its closing flag. Whether a lane's packet is
-- begun and not over, after an octet, where it was so before (b),
abbrev pub under_way_after : Lane → Bool → Out → Bool
under_way_after l b (closes k) = b && not (same_lane l k)
under_way_after l b breaks_off = b || is_low l
under_way_after l b (sends k x) = b || same_lane l k
under_way_after l b sends_nothing = b
under_way_after l b (refuses n) = b

-- and after a list of written octets
unfoldable pub under_way : Lane → Bool → List Written → Bool
under_way l b [] = b
under_way l b (e ∷ es) = under_way l (under_way_after l b e.out) es

-- ---- left aside

-- After the chosen flag, where the low packet is under way at it (b): what is reported at the flags that end that packet's frames, and at no
-- other octet,
abbrev pub ends_its_frame : Bool → Out → Bool
ends_its_frame b (closes low) = b
ends_its_frame b (closes high) = false
ends_its_frame b breaks_off = b
ends_its_frame b (sends l x) = false
ends_its_frame b sends_nothing = false
ends_its_frame b (refuses n) = false

-- up to and with its closing flag
abbrev pub aside_after : Bool → Out → Bool
aside_after b (closes low) = false
aside_after b (closes high) = b
aside_after b breaks_off = b
aside_after b (sends l x) = b
aside_after b sends_nothing = b
aside_after b (refuses n) = b

-- of each written octet, whether what is reported at it is left aside
unfoldable pub left_aside : Bool → List Written → List Bool
left_aside b [] = []
left_aside b (e ∷ es) = ends_its_frame b e.out ∷ left_aside (aside_after b e.out) es

-- ---- what the receiver is expected to answer to each written octet

-- an octet arrives: the call for it is answered neither 2 nor 3
pub record Arrives (a : Answer) : Type 0 where
  pub areas : a ≡ refused 2 → ⊥
  pub bounds : a ≡ refused 3 → ⊥

abbrev pub AllArrive : List Receive → Type 0
AllArrive [] = Unit {0}
AllArrive (h ∷ hs) = Arrives h.report × AllArrive hs

-- Quiet to each octet that is no flag; at a closing flag the packet; at a flag that breaks off Held, with the count of octets of D that were
-- covered, the low lane's position n. replaces: whether the receiver still holds a fragment from before, whose place this one takes.
abbrev pub ExpectedReport : Bool → Out → Option (List ℕ) → ℕ → Receive → Type 0
ExpectedReport replaces (closes l) none n h = ⊥
ExpectedReport replaces (closes l) (some p) n h = packet_in h ≡ some p
ExpectedReport replaces breaks_off m n h = h.report ≡ held n replaces
ExpectedReport replaces (sends l x) m n h = h.report ≡ quiet
ExpectedReport replaces sends_nothing m n h = ⊥
ExpectedReport replaces (refuses k) m n h = ⊥

-- only the first fragment can take an older one's place
abbrev pub replaces_after : Bool → Out → Bool
replaces_after b (closes l) = b
replaces_after b breaks_off = false
replaces_after b (sends l x) = b
replaces_after b sends_nothing = b
replaces_after b (refuses k) = b

-- so octet by octet
abbrev pub AllAsExpected : Bool → List Written → List Receive → Type 0
AllAsExpected b [] [] = Unit {0}
AllAsExpected b [] (h ∷ hs) = ⊥
AllAsExpected b (e ∷ es) [] = ⊥
AllAsExpected b (e ∷ es) (h ∷ hs) = ExpectedReport b e.out e.sent_for e.low_position h × AllAsExpected (replaces_after b e.out) es hs

-- ---- the same by lists

-- the packets that are closed, in closing order
abbrev pub closed_by : Out → Option (List ℕ) → Option (List ℕ)
closed_by (closes l) m = m
closed_by breaks_off m = none
closed_by (sends l x) m = none
closed_by sends_nothing m = none
closed_by (refuses k) m = none

abbrev pub closed_packets : List Written → List (List ℕ)
closed_packets es = present (map (λ (e : Written). closed_by e.out e.sent_for) es)
