-- The octets of a state, field by field: it is packed into the first of 64 octets that the caller has. Those listed here are written, each with
-- the value of its field; a sender's fields of later work have the one value that they can have as yet, and are not looked at. Numbers of two
-- octets or four have the low one first, and marks are 0 or 1.
--
--   receiver                               sender
--   0       1                              0       1
--   1       width                          1       width
--   2-3     limit                          2-3     limit
--   4       settings                       4       settings
--   5       mode: 0 off, 1 COBS, 2 plain,  5       lane on the line: 0 none, 1 low, 2 high
--           3 plain with an escape open    6       suspended
--   6-9     receiving map                  7       cut due
--   10      work area: 0 first, 1 second   8-9     low length
--   11-12   decoded                        10-11   low position
--   13      something held                 12-13   high length
--   14-15   held count, 0 if nothing is    14-15   high position
--   16-19   register                       16      data left
--   20      data left                      17      zeros due
--   21      zeros due                      18-37   0
--   22      last block: 0 none, 1 D0,
--           2 other                        plain sender
--   23      in a frame                     0       1
--   24      resumed                        1       width
--   25      remembered refusal             2-3     limit
--                                          4-35    sending map
use Rattle.std.specs.Prelude.{Bool, true, false, ◌&&◌, ◌||◌, List, [], ◌∷◌, ◌++◌, ℕ, zero, suc, ◌+◌, ◌*◌, ◌/◌, ◌%◌, leb, eqb, length, drop, get_or, replicate, Some, None, is_some}
use Rattle.std.specs.Prelude.{if◌then◌else◌}
use Rattle.link.specs.Agreed.{agreed}
use Rattle.link.specs.Receiver.{Held, holds, carried}
use Rattle.link.specs.declared.Settings.{Settings}
use Rattle.link.specs.declared.sender.Lane.TheVariants.{Low as low, High as high}
use Rattle.link.specs.Sender.{OnLine}
use Rattle.link.specs.declared.sender.Sender.{Sender}
use Rattle.link.specs.declared.receiver.LastBlock.{LastBlock}
use Rattle.link.specs.declared.receiver.LastBlock.TheVariants.{NoBlock as no_block, BlockD0 as block_d0, OtherBlock as other_block}
use Rattle.link.specs.declared.receiver.Mode.{Mode}
use Rattle.link.specs.declared.receiver.Mode.TheVariants.{Off as kept_off, Cobs as cobs, Plain as plain, Escaped as escape_open}
use Rattle.link.specs.declared.receiver.Receiver.{Receiver}
use Rattle.link.specs.declared.plain_sender.PlainSender.{PlainSender}

-- ---- fields

-- octet i, and the numbers of two octets and of four from i on
abbrev pub octet_at : List ℕ → ℕ → ℕ
octet_at m i = get_or m i 0

abbrev pub number_at : List ℕ → ℕ → ℕ
number_at m i = octet_at m i + 256 * octet_at m (i + 1)

abbrev pub long_at : List ℕ → ℕ → ℕ
long_at m i = octet_at m i + 256 * octet_at m (i + 1) + 65536 * octet_at m (i + 2) + 16777216 * octet_at m (i + 3)

abbrev pub mark_at : List ℕ → ℕ → Bool
mark_at m i = eqb (octet_at m i) 1

-- k octets from i on
unfoldable pub octets_from : List ℕ → ℕ → ℕ → List ℕ
octets_from m i zero = []
octets_from m i (suc k) = octet_at m i ∷ octets_from m (i + 1) k

-- and back
abbrev pub low_octet : ℕ → ℕ
low_octet n = n % 256

abbrev pub high_octet : ℕ → ℕ
high_octet n = n / 256

-- of four octets, behind the low one
abbrev pub second_octet : ℕ → ℕ
second_octet n = n / 256 % 256

abbrev pub third_octet : ℕ → ℕ
third_octet n = n / 65536 % 256

abbrev pub fourth_octet : ℕ → ℕ
fourth_octet n = n / 16777216

abbrev pub mark_octet : Bool → ℕ
mark_octet true = 1
mark_octet false = 0

-- the settings, of either end
abbrev pub settings_in : List ℕ → Settings
settings_in m = record { octet = octet_at m 4; width = octet_at m 1; limit = number_at m 2 }

-- ---- the receiver

abbrev pub last_block_of : ℕ → LastBlock
last_block_of n = if eqb n 0 then no_block else if eqb n 1 then block_d0 else other_block

abbrev pub last_block_octet : LastBlock → ℕ
last_block_octet no_block = 0
last_block_octet block_d0 = 1
last_block_octet other_block = 2

abbrev pub mode_of : ℕ → Mode
mode_of n = if eqb n 0 then kept_off else if eqb n 1 then cobs else if eqb n 2 then plain else escape_open

abbrev pub mode_octet : Mode → ℕ
mode_octet kept_off = 0
mode_octet cobs = 1
mode_octet plain = 2
mode_octet escape_open = 3

abbrev pub held_count : Held → ℕ
held_count None = 0
held_count (Some f) = f.count

abbrev pub held_octet : Held → ℕ
held_octet h = mark_octet (is_some h)

-- whether octets spell a receiver's state: where nothing is held, the register is at its start
unfoldable pub spell_receiver : List ℕ → Bool
spell_receiver m =
    eqb (octet_at m 0) 1 && leb (octet_at m 5) 3 && leb (octet_at m 10) 1 && leb (octet_at m 13) 1 && leb (octet_at m 22) 2 && leb (octet_at m 23) 1 && leb (octet_at m 24) 1
    && (mark_at m 13 || eqb (long_at m 16) (carried (agreed (settings_in m)) None))

-- the state that they spell,
unfoldable pub receiver_in : List ℕ → Receiver
receiver_in m =
    record {
      settings = settings_in m;
      mode = mode_of (octet_at m 5);
      map = long_at m 6;
      turn = mark_at m 10;
      decoded = number_at m 11;
      held = if mark_at m 13 then holds (number_at m 14) (long_at m 16) else None;
      left = octet_at m 20;
      zeros = octet_at m 21;
      last = last_block_of (octet_at m 22);
      framed = mark_at m 23;
      resumed = mark_at m 24;
      refusal = octet_at m 25;
    }

-- and the octets of a state, from the first on
unfoldable pub receiver_octets : Receiver → List ℕ
receiver_octets r =
    let k = carried (agreed r.settings) r.held in
    1 ∷ r.settings.width ∷ low_octet r.settings.limit ∷ high_octet r.settings.limit ∷ r.settings.octet
    ∷ mode_octet r.mode ∷ low_octet r.map ∷ second_octet r.map ∷ third_octet r.map ∷ fourth_octet r.map
    ∷ mark_octet r.turn ∷ low_octet r.decoded ∷ high_octet r.decoded
    ∷ held_octet r.held ∷ low_octet (held_count r.held) ∷ high_octet (held_count r.held) ∷ low_octet k ∷ second_octet k ∷ third_octet k ∷ fourth_octet k
    ∷ r.left ∷ r.zeros ∷ last_block_octet r.last ∷ mark_octet r.framed ∷ mark_octet r.resumed ∷ r.refusal ∷ []

-- ---- the sender

abbrev pub line_of : ℕ → OnLine
line_of n = if eqb n 0 then None else if eqb n 1 then Some low else Some high

abbrev pub line_octet : OnLine → ℕ
line_octet None = 0
line_octet (Some low) = 1
line_octet (Some high) = 2

unfoldable pub spell_sender : List ℕ → Bool
spell_sender m = eqb (octet_at m 0) 1 && leb (octet_at m 5) 2 && leb (octet_at m 6) 1 && leb (octet_at m 7) 1

unfoldable pub sender_in : List ℕ → Sender
sender_in m =
    record {
      settings = settings_in m;
      on = line_of (octet_at m 5);
      suspended = mark_at m 6;
      cut = mark_at m 7;
      low = record { length = number_at m 8; position = number_at m 10 };
      high = record { length = number_at m 12; position = number_at m 14 };
      left = octet_at m 16;
      zeros = octet_at m 17;
    }

unfoldable pub sender_octets : Sender → List ℕ
sender_octets s =
    1 ∷ s.settings.width ∷ low_octet s.settings.limit ∷ high_octet s.settings.limit ∷ s.settings.octet
    ∷ line_octet s.on ∷ mark_octet s.suspended ∷ mark_octet s.cut
    ∷ low_octet s.low.length ∷ high_octet s.low.length ∷ low_octet s.low.position ∷ high_octet s.low.position
    ∷ low_octet s.high.length ∷ high_octet s.high.length ∷ low_octet s.high.position ∷ high_octet s.high.position
    ∷ s.left ∷ s.zeros ∷ replicate 20 0

-- ---- the plain sender

unfoldable pub spell_plain_sender : List ℕ → Bool
spell_plain_sender m = eqb (octet_at m 0) 1

unfoldable pub plain_sender_in : List ℕ → PlainSender
plain_sender_in m = record { width = octet_at m 1; limit = number_at m 2; marks = octets_from m 4 32 }

unfoldable pub plain_sender_octets : PlainSender → List ℕ
plain_sender_octets s = 1 ∷ s.width ∷ low_octet s.limit ∷ high_octet s.limit ∷ s.marks

-- ---- in the caller's memory

-- The octets of a state over the first ones of a memory; those behind them stay.
abbrev pub over : List ℕ → List ℕ → List ℕ
over octets m = octets ++ drop (length octets) m
