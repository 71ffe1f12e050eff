-- What follows of the sender's calls by themselves (docs/DEMANDS.md): it is never idle with work to do, a frame goes out as its blocks, both
-- lanes get empty in time, and urgent packets go first.
use Rattle.std.specs.Prelude.{Bool, true, false, ◌&&◌, ◌||◌, ◌⊎◌, ◌≡◌, ℕ, ◌+◌, ◌/◌, ◌≤◌, ltb, eqb, length, take, drop, replicate, Some, None}
use mathlib.Core.List.{List, [], ◌∷◌, ◌++◌, map, Memᴰ}
use Rattle.std.specs.Prelude.{if◌then◌else◌}
use Rattle.cobs.specs.CodeBlocks.{frame, to_line, line_octets, blocks, uninterrupted}
use Rattle.link.specs.Agreed.{Settings, agreed, least_packet, largest_frame, valid}
use Rattle.link.specs.Answers.{done, idle}
use Rattle.link.specs.Sender.{Lane, low, high, Sender, SenderEnd, Out, closes, breaks_off, sends, sends_nothing, refuses, out_answer, lane_state, lane_area, lane_d, loaded, load, next}
use Rattle.link.specs.SenderParts.{SenderReady}
use Rattle.link.specs.Runs.{SenderCall, loading, next_octet, Station, fresh_station, after_load, after_next, run, loaded_into, Written, written, is_of, sent_by}

-- ---- never idle with work to do

pub record BothEmpty (s : Sender) : Type 0 where
  pub low : s.low.length ≡ 0
  pub high : s.high.length ≡ 0

-- of any state in bounds, with areas long enough: next octet answers Idle exactly if both lanes are empty
pub record IdleIfEmpty : Type 0 where
  pub only : (e : SenderEnd) → SenderReady e → out_answer (next e).out ≡ idle → BothEmpty e.state
  pub always : (e : SenderEnd) → SenderReady e → BothEmpty e.state → out_answer (next e).out ≡ idle

-- ---- the octets of a frame that nothing interrupts

-- The lane's frame is next, from its beginning: no lane is on the line, and where it is low's, high is empty and low not suspended.
pub record BeginsNext (l : Lane) (s : Sender) : Type 0 where
  pub free : s.on ≡ None
  pub start : (lane_state l s).position ≡ 0
  pub holds : loaded (lane_state l s) ≡ true
  pub high_empty : l ≡ low → s.high.length ≡ 0
  pub not_suspended : l ≡ low → s.suspended ≡ false

-- how many calls of a list are of next octet
unfoldable pub next_calls : List SenderCall → ℕ
next_calls [] = 0
next_calls (loading l p ∷ cs) = next_calls cs
next_calls (next_octet ∷ cs) = next_calls cs + 1

-- What n calls of next octet send: these octets, each for the lane, and then the flag that closes its frame, as far as n goes. What comes
-- behind the flag is not looked at.
abbrev pub SendsOf : Lane → List ℕ → ℕ → List Written → Type 0
SendsOf l octets n es = take (length octets + 1) (map (λ (e : Written). e.out) es) ≡ take n (map (sends l) octets ++ (closes l ∷ []))

-- From any state in bounds, with areas long enough, and for any list of calls: next octet sends of the frame what `cobs` calls uninterrupted.
-- Only a low frame can be broken off, with PRE; of that it is asked that none of the calls is a load into the high lane that is Done. (No list
-- of blocks has fewer octets: `Shortest` of `cobs`.)
abbrev pub SentUninterrupted : Type 0
SentUninterrupted =
    (l : Lane) (w : Station) → SenderReady w.end → BeginsNext l w.end.state → (calls : List SenderCall)
    → (let s = w.end.state in
    let g = agreed s.settings in
    (l ≡ low → g.pre ≡ true → loaded_into high (after_next w) calls ≡ [])
    → (let octets = uninterrupted g.zxe (take (lane_state l s).length (lane_area l w.end)) in
    SendsOf l octets (next_calls calls + 1) (written w (next_octet ∷ calls))))

-- What is still to be sent of a D, from a position on: n data octets of a block and, behind its z zeros, the blocks of the rest.
unfoldable pub still_to_send : Bool → List ℕ → (pos n z : ℕ) → List ℕ
still_to_send zxe d pos n z = map to_line (take n (drop pos d)) ++ line_octets (blocks zxe (drop (pos + (n + z)) d))

-- So from any place of a frame, with the lane on the line and no cut due; of one that was broken off too, behind its D1. Each rest of a D is
-- the D of a frame, so of these blocks `Shortest` holds as well.
abbrev pub RestUninterrupted : Type 0
RestUninterrupted =
    (l : Lane) (w : Station) → SenderReady w.end → w.end.state.on ≡ Some l → w.end.state.cut ≡ false → (calls : List SenderCall)
    → (let s = w.end.state in
    let g = agreed s.settings in
    let q = lane_state l s in
    (l ≡ low → g.pre ≡ true → (s.high.length ≡ 0) × (loaded_into high w calls ≡ []))
    → SendsOf l (still_to_send g.zxe (lane_d q (lane_area l w.end)) q.position s.left s.zeros) (next_calls calls) (written w calls))

-- So a packet, loaded into either lane of a fresh sender, with nothing loaded after it.
abbrev pub PacketUninterrupted : Type 0
PacketUninterrupted =
    (settings : Settings) → valid (agreed settings) ≡ true → (low_area high_area : List ℕ) → (let g = agreed settings in
    largest_frame g ≤ length low_area → largest_frame g ≤ length high_area → (l : Lane) (p : List ℕ) → least_packet ≤ length p → length p ≤ g.limit → (n : ℕ)
    → (let octets = uninterrupted g.zxe (frame g.check p) in
    SendsOf l octets n (written (fresh_station settings low_area high_area) (loading l p ∷ replicate n next_octet))))

-- ---- both lanes get empty

-- so many calls of next octet, at the most, for a frame of n octets: D with its codes, and the closing flag
abbrev pub calls_for : ℕ → ℕ
calls_for n = if eqb n 0 then 0 else n + 1 + n / 207 + 1

-- for both lanes; and where low is broken off, or may be, three more: 02, the flag and D1
abbrev pub calls_to_empty : Sender → ℕ
calls_to_empty s =
    calls_for s.high.length + calls_for s.low.length + (if loaded s.low && (loaded s.high || s.suspended || s.cut) then 3 else 0)

-- from any state in bounds, with areas long enough
abbrev pub Emptied : Type 0
Emptied = (w : Station) → SenderReady w.end → (n : ℕ) → calls_to_empty w.end.state ≤ n → BothEmpty (run w (replicate n next_octet)).end.state

-- ---- urgent goes first

-- after a break-off (b) there is no octet but the high lane's, until D1
abbrev pub broken_off_after : Bool → Out → Bool
broken_off_after b (closes l) = b
broken_off_after b breaks_off = true
broken_off_after b (sends low x) = false
broken_off_after b (sends high x) = b
broken_off_after b sends_nothing = b
broken_off_after b (refuses n) = b

abbrev pub OnlyHighUntilD1 : Bool → List Written → Type 0
OnlyHighUntilD1 b [] = Unit {0}
OnlyHighUntilD1 b (e ∷ es) =
    (b ≡ true → (is_of high e.out ≡ true) ⊎ (e.out ≡ sends low 0xD1)) × OnlyHighUntilD1 (broken_off_after b e.out) es

--   free: with no lane on the line and the high lane loaded, the next octet is the high lane's
--   at_once: with PRE, low on the line and not all of its D covered, a loaded high lane breaks it off at once: by the flag if data is left in its
--   block, else by 02
--   soon: with PRE, of three calls of next octet behind a high load that is Done one answers an octet of that packet, so that at most two
--   octets come before its first
--   whole: without PRE no packet is ever broken off
--   until: from a break-off until D1 only octets of the high lane are written
pub record UrgentFirst : Type 0 where
  pub free : (e : SenderEnd) → SenderReady e → e.state.on ≡ None → loaded e.state.high ≡ true → is_of high (next e).out ≡ true
  pub at_once : (e : SenderEnd) → SenderReady e → (agreed e.state.settings).pre ≡ true → e.state.on ≡ Some low → e.state.cut ≡ false
      → loaded e.state.high ≡ true → e.state.low.position ≤ e.state.low.length
      → (next e).out ≡ (if ltb 0 e.state.left then breaks_off else sends low 0x02)
  pub soon : (w : Station) → SenderReady w.end → (agreed w.end.state.settings).pre ≡ true → (p : List ℕ)
      → (load high p w.end.state w.end.high).answer ≡ done
      → Memᴰ true (sent_by high (written (after_load high p w) (replicate 3 next_octet)))
  pub whole : (settings : Settings) (low_area high_area : List ℕ) (calls : List SenderCall) → (agreed settings).pre ≡ false → (e : Written)
      → Memᴰ e (written (fresh_station settings low_area high_area) calls) → e.out ≡ breaks_off → ⊥
  pub until : (settings : Settings) (low_area high_area : List ℕ) (calls : List SenderCall)
      → OnlyHighUntilD1 false (written (fresh_station settings low_area high_area) calls)
