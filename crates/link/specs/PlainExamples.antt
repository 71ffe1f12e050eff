-- Plain PPP, by example (document 02, slip 5): one more table of computed cases.
use Rattle.std.specs.Prelude.{Bool, true, false, ◌≡◌, ℕ, zero, suc, replicate, Some, Result, Ok, Err}
use mathlib.Core.List.{List, [], ◌∷◌, map, Memᴰ}
use Rattle.cobs.specs.CodeBlocks.{flag}
use Rattle.plain.specs.Maps.{marking, with_framing}
use Rattle.plain.specs.ReadBack.{kept}
use Rattle.link.specs.Agreed.{Settings, agreed}
use Rattle.link.specs.Answers.{Answer, refused}
use Rattle.link.specs.Receiver.{holds, no_block, block_d0, other_block, Mode, kept_off, cobs, plain, escape_open, Receiver, opened_receiver, in_bounds, with_held, with_decoded, with_due, with_mode, in_frame, receive}
use Rattle.link.specs.declared.plain_sender.PairError.TheVariants as pair
use Rattle.link.specs.PlainSender.{PairError, SendError, wrong_length, no_room, out_of_bounds, PlainSender, opened_plain_sender, open_pair, plain_line, plain_send}
use Rattle.link.specs.Runs.{receives, received, not_quiet}
use Rattle.link.specs.Demands.{fresh_receiver, frame_began_ff, ReportAndPacket, report_and_packet}
use Rattle.link.specs.Marked.{bits16, receiver_area, packet_of, held_of, refused_by}
use Rattle.link.specs.Examples.{agreeing}

-- hears: with these settings and this map a fresh receiver, plain reading on, reports these octets so, Quiet left out
-- in_bounds_r: whether this state is in bounds
-- ends: what this state, in this mode, reports at a flag
-- puts: with 16 bits, these marks and 7D and 7E, a packet is written so
-- sends: with 16 bits and limit 2,048 a packet is answered so in an area of so many octets
-- becomes: with these settings, plain reading on and an empty map, the state after these octets
-- sends_by: a plain sender of this width, limit and map answers a packet so in an area of so many octets
-- began: whether a frame in these octets began FF
-- keeps: what this map leaves of octets
-- pairs: a pair of these settings, this receiving map and these marks is opened so
pub data PlainCase : Type 0 where
  hears : Settings → ℕ → List ℕ → List ReportAndPacket → PlainCase
  in_bounds_r : Receiver → Bool → PlainCase
  ends : Receiver → Mode → Answer → PlainCase
  puts : List ℕ → List ℕ → List ℕ → PlainCase
  sends : List ℕ → ℕ → Result ℕ SendError → PlainCase
  pairs : Settings → ℕ → List ℕ → Result Receiver PairError → PlainCase
  becomes : Settings → List ℕ → Receiver → PlainCase
  sends_by : ℕ → ℕ → List ℕ → List ℕ → ℕ → Result ℕ SendError → PlainCase
  began : List ℕ → Bool → PlainCase
  keeps : ℕ → List ℕ → List ℕ → PlainCase

-- a map with these marks
abbrev pub marks_of : List ℕ → List ℕ
marks_of [] = replicate 32 0
marks_of (x ∷ xs) = marking x (marks_of xs)

-- all below n
abbrev pub up_to : ℕ → List ℕ
up_to zero = []
up_to (suc n) = n ∷ up_to n

abbrev framing : List ℕ → List ℕ
framing xs = with_framing (marks_of xs)

abbrev pub plain_sender : List ℕ → PlainSender
plain_sender xs = opened_plain_sender (bits16 0x00) (marks_of xs)

abbrev pub Shows : PlainCase → Type 0
Shows (hears settings receiving line ts) =
    map report_and_packet (not_quiet (receives (fresh_receiver settings (Some receiving) (receiver_area settings) (receiver_area settings)) line)) ≡ ts
Shows (in_bounds_r r ok) = in_bounds (agreed r.settings) r ≡ ok
Shows (ends r mode a) =
    (receive (record { state = with_mode mode r; first = receiver_area r.settings; second = receiver_area r.settings }) flag).report ≡ a
Shows (puts xs p line) = plain_line (plain_sender xs) p ≡ line
Shows (sends p n a) = (plain_send (plain_sender []) p (replicate n 0)).answer ≡ a
Shows (becomes settings line r) = (received (fresh_receiver settings (Some 0) (receiver_area settings) (receiver_area settings)) line).state ≡ r
Shows (sends_by width limit marks p n a) = (plain_send (record { width = width; limit = limit; marks = marks }) p (replicate n 0)).answer ≡ a
Shows (began noise b) = frame_began_ff true noise ≡ b
Shows (keeps receiving xs ys) = kept receiving xs ≡ ys
Shows (pairs settings receiving xs o) = (open_pair settings receiving (marks_of xs)).receiver ≡ o

abbrev opened_on : ℕ → Receiver
opened_on receiving = opened_receiver (bits16 0x03) (Some receiving)

abbrev pub cases : List PlainCase
cases =
    -- an LCP packet; its control octets unescaped where the map has them
    hears (bits16 0x03) 0 (0xFF ∷ 0x03 ∷ 0xC0 ∷ 0x21 ∷ 0x01 ∷ 0x01 ∷ 0x00 ∷ 0x04 ∷ 0xD1 ∷ 0xB5 ∷ 0x7E ∷ []) (packet_of false (0xFF ∷ 0x03 ∷ 0xC0 ∷ 0x21 ∷ 0x01 ∷ 0x01 ∷ 0x00 ∷ 0x04 ∷ []) ∷ [])
    ∷ hears (bits16 0x03) 0xFFFFFFFF (0xFF ∷ 0x03 ∷ 0xC0 ∷ 0x21 ∷ 0x01 ∷ 0x01 ∷ 0x00 ∷ 0x04 ∷ 0xD1 ∷ 0xB5 ∷ 0x7E ∷ []) (refused_by 14 ∷ [])
    -- 18: an escape that is open, with the frame's FF and without; 13 before
    ∷ hears (bits16 0x03) 0 (0xFF ∷ 0x7E ∷ 0x7D ∷ 0x7E ∷ []) (refused_by 13 ∷ refused_by 18 ∷ [])
    ∷ hears (bits16 0x03) 0 (0xFF ∷ 0x7D ∷ 0x7E ∷ []) (refused_by 18 ∷ [])
    -- removed octets begin no frame and end no escape; without the map they are data
    ∷ hears (bits16 0x03) 0x20000 (0xFF ∷ 0x7E ∷ 0x11 ∷ 0x11 ∷ 0x7E ∷ []) (refused_by 13 ∷ [])
    ∷ hears (bits16 0x03) 0 (0xFF ∷ 0x7E ∷ 0x11 ∷ 0x11 ∷ 0x7E ∷ []) (refused_by 13 ∷ refused_by 13 ∷ [])
    ∷ hears (bits16 0x03) 0x20000 (0xFF ∷ 0x7E ∷ 0x7D ∷ 0x11 ∷ 0x7E ∷ []) (refused_by 13 ∷ refused_by 18 ∷ [])
    ∷ hears (bits16 0x03) 0x20000 (0xFF ∷ 0x7E ∷ 0x7D ∷ 0x11 ∷ 0x5E ∷ 0x41 ∷ 0x1E ∷ 0x36 ∷ 0x7E ∷ []) (refused_by 13 ∷ packet_of false (0x7E ∷ 0x41 ∷ []) ∷ [])
    -- 7D behind 7D is 5D; 00 is data
    ∷ hears (bits16 0x03) 0 (0xFF ∷ 0x7E ∷ 0x7D ∷ 0x7D ∷ 0x41 ∷ 0x45 ∷ 0x3F ∷ 0x7E ∷ []) (refused_by 13 ∷ packet_of false (0x5D ∷ 0x41 ∷ []) ∷ [])
    ∷ hears (bits16 0x03) 0 (0xFF ∷ 0x7E ∷ 0x00 ∷ 0x41 ∷ 0xCA ∷ 0x5C ∷ 0x7E ∷ []) (refused_by 13 ∷ packet_of false (0x00 ∷ 0x41 ∷ []) ∷ [])
    -- 10: one octet more than the largest frame has; an escape counts only with its octet
    ∷ hears (agreeing 16 2) 0 (0xFF ∷ 0x41 ∷ 0x0A ∷ 0xA3 ∷ 0x7E ∷ []) (packet_of false (0xFF ∷ 0x41 ∷ []) ∷ [])
    ∷ hears (agreeing 16 2) 0 (0xFF ∷ 0x41 ∷ 0x41 ∷ 0x41 ∷ 0x41 ∷ 0x7E ∷ []) (refused_by 10 ∷ [])
    ∷ hears (agreeing 16 2) 0 (0xFF ∷ 0x41 ∷ 0x41 ∷ 0x41 ∷ 0x7D ∷ 0x7E ∷ []) (refused_by 18 ∷ [])
    ∷ hears (agreeing 16 2) 0 (0xFF ∷ 0x41 ∷ 0x41 ∷ 0x41 ∷ 0x7D ∷ 0x41 ∷ 0x7E ∷ []) (refused_by 10 ∷ [])
    ∷ hears (agreeing 16 2) 0 (0xFF ∷ 0x41 ∷ 0x41 ∷ 0x41 ∷ 0x41 ∷ 0x7D ∷ 0x7E ∷ []) (refused_by 10 ∷ [])
    -- what is held is let go at the FF
    ∷ hears (bits16 0x03) 0 (0x05 ∷ 0x31 ∷ 0x7E ∷ 0xFF ∷ 0x03 ∷ 0x7E ∷ []) (held_of 1 false ∷ refused_by 13 ∷ [])
    -- behind an FF frame COBS is read as plain PPP; D1 and FF are data there
    ∷ hears (bits16 0x03) 0 (0xFF ∷ 0x7E ∷ 0x0C ∷ 0x31 ∷ 0x32 ∷ 0x33 ∷ 0x34 ∷ 0x35 ∷ 0x36 ∷ 0x37 ∷ 0x38 ∷ 0x39 ∷ 0x6E ∷ 0x90 ∷ 0x7E ∷ []) (refused_by 13 ∷ refused_by 14 ∷ [])
    ∷ hears (bits16 0x03) 0 (0xFF ∷ 0x7E ∷ 0xD1 ∷ 0xFF ∷ 0xDC ∷ 0x46 ∷ 0x7E ∷ []) (refused_by 13 ∷ packet_of false (0xD1 ∷ 0xFF ∷ []) ∷ [])
    -- FF within a COBS frame, 7D DF, and 11 before FF begin no plain reading
    ∷ hears (bits16 0x03) 0 (0x02 ∷ 0xFF ∷ 0x7E ∷ []) (refused_by 13 ∷ [])
    ∷ hears (bits16 0x03) 0 (0x7D ∷ 0xDF ∷ 0x7E ∷ 0xD3 ∷ 0x7E ∷ []) (held_of 1 false ∷ refused_by 13 ∷ [])
    ∷ hears (bits16 0x03) 0x20000 (0x11 ∷ 0xFF ∷ 0x7E ∷ 0xD3 ∷ 0x7E ∷ []) (held_of 1 false ∷ refused_by 13 ∷ [])
    -- an octet below 20 behind an escape, where the map has it not
    ∷ hears (bits16 0x03) 0 (0xFF ∷ 0x7E ∷ 0x7D ∷ 0x03 ∷ 0x41 ∷ 0x91 ∷ 0x55 ∷ 0x7E ∷ []) (refused_by 13 ∷ packet_of false (0x23 ∷ 0x41 ∷ []) ∷ [])
    -- with plain reading on COBS is read as document 01 has it: 7, also for FF as a code; 8, 9, 14, a packet in two frames; 6; 11
    ∷ hears (bits16 0x03) 0 (0x01 ∷ 0xFF ∷ 0x7E ∷ 0xD2 ∷ 0x7E ∷ 0xD3 ∷ 0x7E ∷ []) (refused_by 7 ∷ refused_by 7 ∷ refused_by 13 ∷ [])
    ∷ hears (bits16 0x03) 0 (0x05 ∷ 0x31 ∷ 0x7E ∷ 0xD1 ∷ 0xFF ∷ 0x7E ∷ []) (held_of 1 false ∷ refused_by 7 ∷ [])
    ∷ hears (bits16 0x03) 0xFFFFFFFF (0xD1 ∷ 0x01 ∷ 0x7E ∷ 0x05 ∷ 0x31 ∷ 0x7E ∷ 0xD1 ∷ 0x7E ∷ []) (refused_by 8 ∷ held_of 1 false ∷ refused_by 9 ∷ [])
    ∷ hears (bits16 0x03) 0xFFFFFFFF (0x0C ∷ 0x31 ∷ 0x32 ∷ 0x33 ∷ 0x34 ∷ 0x35 ∷ 0x36 ∷ 0x37 ∷ 0x38 ∷ 0x39 ∷ 0x6E ∷ 0x91 ∷ 0x7E ∷ []) (refused_by 14 ∷ [])
    ∷ hears (bits16 0x03) 0 (0x0C ∷ 0x31 ∷ 0x32 ∷ 0x33 ∷ 0x7E ∷ 0xD1 ∷ 0x09 ∷ 0x34 ∷ 0x35 ∷ 0x36 ∷ 0x37 ∷ 0x38 ∷ 0x39 ∷ 0x6E ∷ 0x90 ∷ 0x7E ∷ []) (held_of 3 false ∷ packet_of false (0x31 ∷ 0x32 ∷ 0x33 ∷ 0x34 ∷ 0x35 ∷ 0x36 ∷ 0x37 ∷ 0x38 ∷ 0x39 ∷ []) ∷ [])
    ∷ hears (bits16 0x00) 0 (0xE0 ∷ 0x7E ∷ 0x05 ∷ 0x31 ∷ 0x7E ∷ []) (refused_by 6 ∷ refused_by 11 ∷ [])
    -- 3, in plain PPP: no block is open, in a frame or refused; a frame needs none
    ∷ in_bounds_r (with_mode plain (in_frame no_block false 0 (opened_on 0))) true
    ∷ in_bounds_r (with_mode plain (with_due 1 0 (in_frame no_block false 0 (opened_on 0)))) false
    ∷ in_bounds_r (with_mode plain (with_due 0 1 (in_frame no_block false 0 (opened_on 0)))) false
    ∷ in_bounds_r (with_mode plain (in_frame other_block false 0 (with_decoded 1 (opened_on 0)))) false
    ∷ in_bounds_r (with_mode plain (with_due 1 0 (in_frame no_block false 7 (opened_on 0)))) false
    ∷ in_bounds_r (with_mode plain (in_frame no_block true 21 (with_decoded 2051 (opened_on 0xFFFFFFFF)))) true
    ∷ in_bounds_r (with_mode plain (in_frame no_block false 0 (with_decoded 2052 (opened_on 0)))) false
    -- an escape is open only in a frame
    ∷ in_bounds_r (with_mode escape_open (in_frame no_block false 0 (opened_on 0))) true
    ∷ in_bounds_r (with_mode escape_open (opened_on 0)) false
    ∷ in_bounds_r (with_mode plain (opened_on 0)) true
    -- 5 is remembered with plain reading off only
    ∷ in_bounds_r (with_mode kept_off (in_frame no_block false 5 (opened_on 0))) true
    ∷ in_bounds_r (with_mode cobs (in_frame no_block false 5 (opened_on 0))) false
    ∷ in_bounds_r (with_mode plain (in_frame no_block false 5 (opened_on 0))) false
    -- in COBS a frame without a block is resumed
    ∷ in_bounds_r (with_mode cobs (in_frame no_block false 0 (opened_on 0))) false
    -- with any map, off too, and whatever is held
    ∷ in_bounds_r (with_mode kept_off (opened_on 1)) true
    ∷ in_bounds_r (with_mode plain (with_held (holds 1 0) (opened_on 0))) true
    ∷ in_bounds_r (with_mode escape_open (in_frame no_block false 5 (opened_on 0))) false
    ∷ in_bounds_r (with_mode plain (in_frame block_d0 false 0 (opened_on 0))) false
    -- handed in with no octet decoded: 13
    ∷ ends (in_frame no_block false 0 (opened_on 0)) plain (refused 13)
    ∷ ends (in_frame no_block true 0 (opened_on 0)) plain (refused 13)
    -- 10 within an escape ends it
    ∷ becomes (agreeing 16 2) (0xFF ∷ 0x41 ∷ 0x41 ∷ 0x41 ∷ 0x7D ∷ 0x41 ∷ []) (with_mode plain (in_frame no_block false 10 (with_decoded 4 (opened_receiver (agreeing 16 2) (Some 0)))))
    -- handed in with one octet more than the largest frame, at the flag: 10; and with an escape open, and a refusal remembered
    ∷ ends (in_frame no_block false 0 (with_decoded 2051 (opened_on 0))) plain (refused 10)
    ∷ ends (in_frame no_block false 0 (with_decoded 2051 (opened_on 0))) escape_open (refused 10)
    ∷ ends (in_frame no_block false 7 (with_decoded 2051 (opened_on 0))) escape_open (refused 7)
    ∷ ends (in_frame no_block false 0 (with_decoded 2050 (opened_on 0))) escape_open (refused 18)
    -- the sender: no map, and all control octets
    ∷ puts [] (0xFF ∷ 0x03 ∷ 0xC0 ∷ 0x21 ∷ 0x01 ∷ 0x01 ∷ 0x00 ∷ 0x04 ∷ []) (0xFF ∷ 0x03 ∷ 0xC0 ∷ 0x21 ∷ 0x01 ∷ 0x01 ∷ 0x00 ∷ 0x04 ∷ 0xD1 ∷ 0xB5 ∷ 0x7E ∷ [])
    ∷ puts (up_to 0x20) (0xFF ∷ 0x03 ∷ 0xC0 ∷ 0x21 ∷ 0x01 ∷ 0x01 ∷ 0x00 ∷ 0x04 ∷ []) (0xFF ∷ 0x7D ∷ 0x23 ∷ 0xC0 ∷ 0x21 ∷ 0x7D ∷ 0x21 ∷ 0x7D ∷ 0x21 ∷ 0x7D ∷ 0x20 ∷ 0x7D ∷ 0x24 ∷ 0xD1 ∷ 0xB5 ∷ 0x7E ∷ [])
    ∷ puts (0x5D ∷ []) (0x5D ∷ 0x7D ∷ 0x7E ∷ 0x5E ∷ []) (0x7D ∷ 0x7D ∷ 0x7D ∷ 0x5D ∷ 0x7D ∷ 0x5E ∷ 0x5E ∷ 0xCF ∷ 0x0C ∷ 0x7E ∷ [])
    ∷ puts (0xFF ∷ 0x91 ∷ []) (0xFF ∷ 0x91 ∷ []) (0x7D ∷ 0xDF ∷ 0x7D ∷ 0xB1 ∷ 0x87 ∷ 0x75 ∷ 0x7E ∷ [])
    -- 3, 2, 3 and 1, by its own width, limit and map
    ∷ sends_by 24 2048 (framing []) (0x41 ∷ 0x42 ∷ []) 0 (Err out_of_bounds)
    ∷ sends_by 16 1 (framing []) (0x41 ∷ 0x42 ∷ []) 0 (Err out_of_bounds)
    ∷ sends_by 16 2 (framing []) (0x41 ∷ 0x42 ∷ 0x43 ∷ []) 6 (Err wrong_length)
    ∷ sends_by 16 2 (marks_of (0x7D ∷ [])) (0x41 ∷ 0x42 ∷ []) 4 (Err no_room)
    ∷ sends_by 16 2 (marks_of (0x7D ∷ [])) (0x41 ∷ 0x42 ∷ []) 5 (Err out_of_bounds)
    ∷ sends_by 16 2 (framing (0x3F ∷ [])) (0x41 ∷ []) 9 (Err out_of_bounds)
    ∷ sends_by 32 2 (framing []) (0x41 ∷ 0x42 ∷ []) 7 (Ok 7)
    -- 2 and 1: a packet of one octet in areas of 3 and 4, one of two in areas of 4 and 5
    ∷ sends (0x41 ∷ []) 3 (Err no_room)
    ∷ sends (0x41 ∷ []) 4 (Err wrong_length)
    ∷ sends (0x41 ∷ 0x42 ∷ []) 4 (Err no_room)
    ∷ sends (0x41 ∷ 0x42 ∷ []) 5 (Ok 5)
    -- the pair: 23 before 3, 3 before 19
    ∷ pairs (agreeing 24 1) 0 (0x20 ∷ []) (Err pair.Limit)
    ∷ pairs (agreeing 24 2) 0 (0x20 ∷ []) (Err pair.Width)
    -- 19: a mark of the receiving map is lacking; 5E; 20 to 3F
    ∷ pairs (bits16 0x03) 1 ([]) (Err pair.Maps)
    ∷ pairs (bits16 0x03) 0x80000000 (up_to 0x1F) (Err pair.Maps)
    ∷ pairs (bits16 0x03) 0 (0x5E ∷ []) (Err pair.Maps)
    ∷ pairs (bits16 0x03) 0 (0x20 ∷ []) (Err pair.Maps)
    ∷ pairs (bits16 0x03) 0 (0x3F ∷ []) (Err pair.Maps)
    -- others may be marked
    ∷ pairs (bits16 0x03) 0x80000000 (up_to 0x20) (Ok (opened_receiver (bits16 0x03) (Some 0x80000000)))
    ∷ pairs (bits16 0x03) 0 (0x1F ∷ 0x40 ∷ 0x5D ∷ 0x5F ∷ 0xFF ∷ []) (Ok (opened_receiver (bits16 0x03) (Some 0)))
    -- frames that began FF: only where a frame begins
    ∷ began (0x00 ∷ 0xFF ∷ 0x7E ∷ 0x05 ∷ 0xFF ∷ []) false
    ∷ began (0x7E ∷ 0xFF ∷ []) true
    ∷ began (0x31 ∷ 0x7E ∷ 0x7E ∷ 0xFF ∷ []) true
    -- octets that are kept
    ∷ keeps 0x20000 (0x41 ∷ 0x11 ∷ 0x42 ∷ 0x7D ∷ 0x11 ∷ 0x13 ∷ 0x31 ∷ []) (0x41 ∷ 0x42 ∷ 0x7D ∷ 0x13 ∷ 0x31 ∷ [])
    ∷ []

-- every one holds
abbrev pub PlainCases : Type 0
PlainCases = (c : PlainCase) → Memᴰ c cases → Shows c
