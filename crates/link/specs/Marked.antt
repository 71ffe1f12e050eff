-- The marked cases (document 01, "Marked frames and false friends"): one table, and what each case says of the steps.
use Rattle.std.specs.Prelude.{◌≡◌, Bool, true, false, ℕ, ◌+◌, length, replicate, None}
use mathlib.Core.List.{List, [], ◌∷◌, ◌++◌, map, Memᴰ}
use Rattle.std.proofs.Math.Option.{none, some}
use Rattle.cobs.specs.CodeBlocks.{flag, choice}
use Rattle.link.specs.Agreed.{Settings, agreed, largest_frame, most_decoded}
use Rattle.link.specs.Answers.{Answer, octet, packet, held, refused}
use Rattle.link.specs.Sender.{Lane, low, high, out_answer, next}
use Rattle.link.specs.Receiver.{ReceiverEnd, Receive, receive}
use Rattle.link.specs.Runs.{SenderCall, loading, next_octet, Station, fresh_station, run, after_next, Written, written, written_octets, at_true, at_false, receives, received, not_quiet, under_way, left_aside}
use Rattle.link.specs.Demands.{fresh_receiver, ReportAndPacket, report_and_packet}

-- Document 01's settings, with a settings octet: a check of 16 bits, and packets of up to 2,048 octets.
abbrev pub bits16 : ℕ → Settings
bits16 o = record { octet = o; width = 16; limit = 2048 }

-- sent: with these settings this packet is sent so, from either lane, and then the sender is idle
-- reported: with these settings these octets are reported so, Quiet left out
-- refused_ten: with these settings, whether the frame of these octets is refused 10
-- chosen: with ZXE, the code at this rest of D
pub data Case : Type 0 where
  sent : Settings → List ℕ → List ℕ → Case
  reported : Settings → List ℕ → List ReportAndPacket → Case
  refused_ten : Settings → List ℕ → Bool → Case
  chosen : List ℕ → ℕ → Case

-- areas of the smallest lengths: one for either lane of a sender, one for either area of a receiver
abbrev pub sender_area : Settings → List ℕ
sender_area settings = replicate (largest_frame (agreed settings)) 0

abbrev pub receiver_area : Settings → List ℕ
receiver_area settings = replicate (most_decoded (agreed settings)) 0

-- fresh ends with these areas, plain reading off
abbrev pub fresh_sender : Settings → Station
fresh_sender settings = fresh_station settings (sender_area settings) (sender_area settings)

abbrev pub fresh_end : Settings → ReceiverEnd
fresh_end settings = fresh_receiver settings None (receiver_area settings) (receiver_area settings)

-- a frame is refused 10, or is not
abbrev pub IsRefusedTen : Bool → Answer → Type 0
IsRefusedTen true a = a ≡ refused 10
IsRefusedTen false a = a ≡ refused 10 → ⊥

-- what a case says
abbrev pub Says : Case → Type 0
Says (sent settings p line) =
    (l : Lane) → written_octets (written (fresh_sender settings) (loading l p ∷ replicate (length line + 1) next_octet)) ≡ line
Says (reported settings line ts) = map report_and_packet (not_quiet (receives (fresh_end settings) line)) ≡ ts
Says (refused_ten settings line ten) = IsRefusedTen ten (receive (received (fresh_end settings) line) flag).report
Says (chosen rest code) = (choice true rest).code ≡ code

abbrev pub packet_of : Bool → List ℕ → ReportAndPacket
packet_of in_second p = record { report = packet in_second (length p); packet = some p }

abbrev pub held_of : ℕ → Bool → ReportAndPacket
held_of n replaced = record { report = held n replaced; packet = none }

abbrev pub refused_by : ℕ → ReportAndPacket
refused_by n = record { report = refused n; packet = none }

abbrev pub digits : List ℕ
digits = 0x31 ∷ 0x32 ∷ 0x33 ∷ 0x34 ∷ 0x35 ∷ 0x36 ∷ 0x37 ∷ 0x38 ∷ 0x39 ∷ []

abbrev capture : List ℕ
capture =
    (0x0C ∷ 0x31 ∷ 0x32 ∷ 0x33 ∷ 0x7E ∷ [])
    ++ (0x0C ∷ digits) ++ (0x6E ∷ 0x90 ∷ 0x7E ∷ [])
    ++ (0xD1 ∷ 0x09 ∷ 0x34 ∷ 0x35 ∷ 0x36 ∷ 0x37 ∷ 0x38 ∷ 0x39 ∷ 0x6E ∷ 0x90 ∷ 0x7E ∷ [])
    ++ (0xD3 ∷ 0x7E ∷ [])

-- the table, (a) to (i); the last two have two parts each
abbrev pub cases : List Case
cases =
    sent (bits16 0x03) (0x00 ∷ 0x00 ∷ []) (0xE0 ∷ 0x03 ∷ 0x47 ∷ 0x0F ∷ 0x7E ∷ [])
    ∷ sent (bits16 0x00) (0x00 ∷ 0x00 ∷ []) (0x01 ∷ 0x01 ∷ 0x03 ∷ 0x47 ∷ 0x0F ∷ 0x7E ∷ [])
    ∷ sent (bits16 0x03) (0x7E ∷ 0x7E ∷ []) (0x05 ∷ 0x00 ∷ 0x00 ∷ 0x6A ∷ 0xFF ∷ 0x7E ∷ [])
    ∷ sent (bits16 0x03) digits ((0x0C ∷ digits) ++ (0x6E ∷ 0x90 ∷ 0x7E ∷ []))
    ∷ reported (bits16 0x03) capture (held_of 3 false ∷ packet_of true digits ∷ packet_of false digits ∷ refused_by 13 ∷ [])
    ∷ reported (bits16 0x03) (0x7E ∷ 0x7E ∷ []) []
    ∷ reported (bits16 0x03) (0x05 ∷ 0x31 ∷ 0x7E ∷ 0x05 ∷ 0x32 ∷ 0x7E ∷ []) (held_of 1 false ∷ held_of 1 true ∷ [])
    ∷ refused_ten (bits16 0x03) (replicate 136 0xDF ++ (0xDB ∷ [])) false
    ∷ refused_ten (bits16 0x03) (replicate 136 0xDF ++ (0xDC ∷ [])) true
    ∷ chosen (replicate 206 0x31 ++ (0x00 ∷ [])) 0xCF
    ∷ chosen (replicate 207 0x31 ++ (0x00 ∷ [])) 0xD0
    ∷ []

-- every case of the table holds
abbrev pub MarkedCases : Type 0
MarkedCases = (c : Case) → Memᴰ c cases → Says c

-- ---- demand 3 at work

-- A run that demand 3 speaks of, so that a reader sees what it leaves aside. Noise left a fragment held. The low packet 31 32 33 has sent
-- two octets when the high packet 41 42 is loaded; the chosen flag is the one that breaks it off.
abbrev noise : List ℕ
noise = 0x05 ∷ 0x58 ∷ 0x7E ∷ 0x06 ∷ 0x59 ∷ []

abbrev before : List SenderCall
before = loading low (0x31 ∷ 0x32 ∷ 0x33 ∷ []) ∷ next_octet ∷ next_octet ∷ loading high (0x41 ∷ 0x42 ∷ []) ∷ []

-- After it 41 42 and the rest of 31 32 33 are sent. The low packet 51 52 53, begun then, is broken off for 43 44; and, straight after its D1, for
-- 45 46. Then it is sent to its end.
abbrev after : List SenderCall
after =
    replicate 13 next_octet
    ++ (loading low (0x51 ∷ 0x52 ∷ 0x53 ∷ []) ∷ next_octet ∷ next_octet ∷ loading high (0x43 ∷ 0x44 ∷ []) ∷ [])
    ++ replicate 8 next_octet
    ++ (loading high (0x45 ∷ 0x46 ∷ []) ∷ [])
    ++ replicate 15 next_octet

-- the sender at the flag; what is written after it; and the receiver's calls for that
abbrev at_flag : Station
at_flag = run (fresh_sender (bits16 0x03)) before

abbrev after_flag : List Written
after_flag = written (after_next at_flag) after

abbrev calls_after_flag : List Receive
calls_after_flag = receives (receive (received (fresh_end (bits16 0x03)) noise) flag).after (written_octets after_flag)

--   premise: the chosen octet is a flag
--   under_way: at it the low packet is under way
--   line: what is written after it
--   through: all packets that are begun after it come through, the fragments of 51 52 53 on their way; the fragment of the noise was let go
--   aside: what is reported at the closing flag of 31 32 33, whose rest is joined to that fragment
pub record AtWork : Type 0 where
  pub premise : out_answer (next at_flag.end).out ≡ octet flag
  pub under_way : under_way low false (written (fresh_sender (bits16 0x03)) (before ++ (next_octet ∷ []))) ≡ true
  pub line : written_octets after_flag
      ≡ (0x05 ∷ 0x41 ∷ 0x42 ∷ 0xEF ∷ 0x31 ∷ 0x7E ∷ [])
      ++ (0xD1 ∷ 0x05 ∷ 0x32 ∷ 0x33 ∷ 0xB4 ∷ 0x9C ∷ 0x7E ∷ [])
      ++ (0x06 ∷ 0x51 ∷ 0x7E ∷ [])
      ++ (0x05 ∷ 0x43 ∷ 0x44 ∷ 0x69 ∷ 0x67 ∷ 0x7E ∷ [])
      ++ (0xD1 ∷ 0x02 ∷ 0x7E ∷ [])
      ++ (0x05 ∷ 0x45 ∷ 0x46 ∷ 0xAB ∷ 0x10 ∷ 0x7E ∷ [])
      ++ (0xD1 ∷ 0x05 ∷ 0x52 ∷ 0x53 ∷ 0xAA ∷ 0x9F ∷ 0x7E ∷ [])
  pub through : map report_and_packet (not_quiet (at_false (left_aside true after_flag) calls_after_flag))
      ≡ packet_of false (0x41 ∷ 0x42 ∷ [])
      ∷ held_of 1 false
      ∷ packet_of false (0x43 ∷ 0x44 ∷ [])
      ∷ held_of 1 false
      ∷ packet_of false (0x45 ∷ 0x46 ∷ [])
      ∷ packet_of true (0x51 ∷ 0x52 ∷ 0x53 ∷ [])
      ∷ []
  pub aside : map report_and_packet (not_quiet (at_true (left_aside true after_flag) calls_after_flag)) ≡ refused_by 14 ∷ []
