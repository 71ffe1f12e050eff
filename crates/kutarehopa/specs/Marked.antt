-- Particular octets and numbers, computed: the layout, place by place, the kinds of answers, and what is no state.
use Rattle.std.specs.Prelude.{true, false, List, [], ◌∷◌, ◌++◌, ◌≡◌, ℕ, take, drop, replicate, Some, None, Ok, Err}
use Rattle.plain.specs.ReadBack.{framing, framing_and_controls, lcp}
use Rattle.link.specs.Marked.{bits16}
use Rattle.link.specs.Answers.{done, octet, idle, quiet, packet, held, refused}
use Rattle.link.specs.declared.sender.Lane.TheVariants.{Low as low, High as high}
use Rattle.link.specs.declared.receiver.LastBlock.TheVariants.{BlockD0 as block_d0, OtherBlock as other_block}
use Rattle.link.specs.declared.receiver.Mode.TheVariants.{Off as kept_off, Cobs as cobs, Plain as plain, Escaped as escape_open}
use Rattle.link.specs.Receiver.{holds, fresh}
use Rattle.link.specs.declared.plain_sender.SendError.TheVariants.{PacketLength as wrong_length}
use Rattle.kutarehopa.specs.Numbers.{number, sent_number}
use Rattle.kutarehopa.specs.Calls.{reading_of, open_receiver, open_sender, open_pair, plain_send_call}
use Rattle.kutarehopa.specs.Layout.{spell_receiver, receiver_in, receiver_octets, spell_sender, sender_octets, spell_plain_sender, plain_sender_octets}

-- 32 octets of marks, each another; and the octets of a plain sender behind octet 0
abbrev pub all_other : List ℕ
all_other =
    0x10 ∷ 0x11 ∷ 0x12 ∷ 0x13 ∷ 0x14 ∷ 0x15 ∷ 0x16 ∷ 0x17 ∷ 0x18 ∷ 0x19 ∷ 0x1A ∷ 0x1B ∷ 0x1C ∷ 0x1D ∷ 0x1E ∷ 0x1F ∷ 0x20 ∷ 0x21 ∷ 0x22 ∷ 0x23 ∷ 0x24
    ∷ 0x25 ∷ 0x26 ∷ 0x27 ∷ 0x28 ∷ 0x29 ∷ 0x2A ∷ 0x2B ∷ 0x2C ∷ 0x2D ∷ 0x2E ∷ 0x2F ∷ []

abbrev pub plain_sender_with : List ℕ → List ℕ
plain_sender_with marks = 16 ∷ 0 ∷ 8 ∷ (marks ++ replicate 28 0xAA)

pub record MarkedOctets : Type 0 where
  -- a receiver with another value in each field
  pub receiver : receiver_octets (record {
    settings = record { octet = 3; width = 16; limit = 0x0908 };
    mode = escape_open;
    map = 0x1D1C1B1A;
    turn = true;
    decoded = 0x0201;
    held = holds 0x0403 0x0F0E0D0C;
    left = 5;
    zeros = 6;
    last = other_block;
    framed = true;
    resumed = false;
    refusal = 7;
  })
      ≡ 1 ∷ 16 ∷ 8 ∷ 9 ∷ 3 ∷ 3 ∷ 0x1A ∷ 0x1B ∷ 0x1C ∷ 0x1D ∷ 1 ∷ 1 ∷ 2 ∷ 1 ∷ 3 ∷ 4 ∷ 0x0C ∷ 0x0D ∷ 0x0E ∷ 0x0F ∷ 5 ∷ 6 ∷ 2 ∷ 1 ∷ 0 ∷ 7 ∷ []
  pub another_receiver : receiver_octets (record {
    settings = record { octet = 0xFF; width = 32; limit = 16384 };
    mode = cobs;
    map = 0xFFFFFFFF;
    turn = false;
    decoded = 16389;
    held = None;
    left = 207;
    zeros = 2;
    last = block_d0;
    framed = false;
    resumed = true;
    refusal = 10;
  })
      ≡ 1 ∷ 32 ∷ 0 ∷ 0x40 ∷ 0xFF ∷ 1 ∷ 0xFF ∷ 0xFF ∷ 0xFF ∷ 0xFF ∷ 0 ∷ 5 ∷ 0x40 ∷ 0 ∷ 0 ∷ 0 ∷ 0xFF ∷ 0xFF ∷ 0xFF ∷ 0xFF ∷ 207 ∷ 2 ∷ 1 ∷ 0 ∷ 1 ∷ 10 ∷ []
  -- the mode and the map, in each mode
  pub mode_off : take 5 (drop 5 (receiver_octets (fresh (bits16 3) kept_off 0 false None))) ≡ 0 ∷ 0 ∷ 0 ∷ 0 ∷ 0 ∷ []
  pub mode_cobs : take 5 (drop 5 (receiver_octets (fresh (bits16 3) cobs 0x000A0000 false None))) ≡ 1 ∷ 0 ∷ 0 ∷ 0x0A ∷ 0 ∷ []
  pub mode_plain : take 5 (drop 5 (receiver_octets (fresh (bits16 3) plain 0x04030201 false None))) ≡ 2 ∷ 1 ∷ 2 ∷ 3 ∷ 4 ∷ []
  pub mode_escaped : take 5 (drop 5 (receiver_octets (fresh (bits16 3) escape_open 0x01020304 false None))) ≡ 3 ∷ 4 ∷ 3 ∷ 2 ∷ 1 ∷ []
  -- and such a sender
  pub sender : sender_octets (record {
    settings = record { octet = 3; width = 32; limit = 0x0C0B };
    on = Some high;
    suspended = true;
    cut = false;
    low = record { length = 0x0201; position = 0x0403 };
    high = record { length = 0x0605; position = 0x0807 };
    left = 9;
    zeros = 10;
  })
      ≡ 1 ∷ 32 ∷ 0x0B ∷ 0x0C ∷ 3 ∷ 2 ∷ 1 ∷ 0 ∷ 1 ∷ 2 ∷ 3 ∷ 4 ∷ 5 ∷ 6 ∷ 7 ∷ 8 ∷ 9 ∷ 10 ∷ replicate 20 0
  pub another_sender : sender_octets (record {
    settings = record { octet = 0; width = 16; limit = 2 };
    on = Some low;
    suspended = false;
    cut = true;
    low = record { length = 4; position = 5 };
    high = record { length = 0; position = 0 };
    left = 0;
    zeros = 0;
  })
      ≡ 1 ∷ 16 ∷ 2 ∷ 0 ∷ 0 ∷ 1 ∷ 0 ∷ 1 ∷ 4 ∷ 0 ∷ 5 ∷ 0 ∷ replicate 26 0
  -- a plain sender
  pub plain_sender : plain_sender_octets (record { width = 32; limit = 0x0302; marks = all_other }) ≡ 1 ∷ 32 ∷ 2 ∷ 3 ∷ all_other
  -- opened, in memory that held something else; and not
  pub opened_receiver : open_receiver (replicate 64 0xAA) (bits16 3) (reading_of 0 0x000A0000)
      ≡ record { answer = 0x04000000; state = 1 ∷ 16 ∷ 0 ∷ 8 ∷ 3 ∷ (replicate 11 0 ++ (0xFF ∷ 0xFF ∷ (replicate 8 0 ++ replicate 38 0xAA))) }
  pub opened_reading : open_receiver (replicate 64 0xAA) (bits16 3) (reading_of 2 0x000A0000)
      ≡ record {
        answer = 0x04000000;
        state = 1 ∷ 16 ∷ 0 ∷ 8 ∷ 3 ∷ 1 ∷ 0 ∷ 0 ∷ 0x0A ∷ (replicate 7 0 ++ (0xFF ∷ 0xFF ∷ (replicate 8 0 ++ replicate 38 0xAA)));
      }
  pub opened_sender : open_sender (replicate 64 0xAA) (record { octet = 2; width = 32; limit = 16384 })
      ≡ record { answer = 0x04000000; state = 1 ∷ 32 ∷ 0 ∷ 0x40 ∷ 2 ∷ (replicate 33 0 ++ replicate 26 0xAA) }
  pub opened_pair : open_pair (replicate 64 0xAA) (replicate 64 0xBB) (bits16 3) 0xFFFFFFFF (replicate 4 0xFF ++ replicate 28 0)
      ≡ record {
        answer = 0x04000000;
        sender = 1 ∷ plain_sender_with framing_and_controls;
        receiver = 1 ∷ 16 ∷ 0 ∷ 8 ∷ 3 ∷ 1 ∷ (replicate 4 0xFF ++ (replicate 6 0 ++ (0xFF ∷ 0xFF ∷ (replicate 8 0 ++ replicate 38 0xBB))));
      }
  pub refused_receiver : open_receiver (replicate 64 0xAA) (record { octet = 3; width = 24; limit = 2 }) (reading_of 1 0)
      ≡ record { answer = 0x03000003; state = replicate 64 0xAA }
  pub refused_sender : open_sender (replicate 64 0xAA) (record { octet = 3; width = 0; limit = 16385 })
      ≡ record { answer = 0x03000017; state = replicate 64 0xAA }
  pub refused_pair : open_pair (replicate 64 0xAA) (replicate 64 0xBB) (bits16 3) 0x00000001 (replicate 32 0)
      ≡ record { answer = 0x03000013; sender = replicate 64 0xAA; receiver = replicate 64 0xBB }
  pub refused_width : open_pair (replicate 64 0xAA) (replicate 64 0xBB) (record { octet = 3; width = 8; limit = 2 }) 0x00000001 (replicate 32 0)
      ≡ record { answer = 0x03000003; sender = replicate 64 0xAA; receiver = replicate 64 0xBB }
  pub refused_limit : open_pair (replicate 64 0xAA) (replicate 64 0xBB) (record { octet = 3; width = 8; limit = 1 }) 0x00000001 (replicate 32 0)
      ≡ record { answer = 0x03000017; sender = replicate 64 0xAA; receiver = replicate 64 0xBB }
  -- a plain send, from the octets of a sender
  pub plain_send : plain_send_call (1 ∷ plain_sender_with framing) (take 8 lcp) (replicate 12 0xAA) ≡ record { answer = 0x0700000B; area = lcp ++ (0x7E ∷ 0xAA ∷ []) }
  pub plain_short : plain_send_call (1 ∷ plain_sender_with framing) (take 8 lcp) (replicate 10 0xAA) ≡ record { answer = 0x03000002; area = replicate 10 0xAA }
  pub plain_map : plain_send_call (1 ∷ plain_sender_with (replicate 32 0)) (take 8 lcp) (replicate 11 0xAA) ≡ record { answer = 0x03000003; area = replicate 11 0xAA }
  -- and from octets that are none: 2 comes before 3, but behind 3 of a width that is none
  pub no_plain_short : plain_send_call (2 ∷ plain_sender_with framing) (take 8 lcp) (replicate 10 0xAA) ≡ record { answer = 0x03000002; area = replicate 10 0xAA }
  pub no_plain_sender : plain_send_call (2 ∷ plain_sender_with framing) (take 8 lcp) (replicate 11 0xAA) ≡ record { answer = 0x03000003; area = replicate 11 0xAA }
  pub no_plain_width : plain_send_call (replicate 64 0) (take 8 lcp) [] ≡ record { answer = 0x03000003; area = [] }
  -- memory of zeros is no state
  pub no_receiver : spell_receiver (replicate 64 0) ≡ false
  pub no_sender : spell_sender (replicate 64 0) ≡ false
  pub no_plain : spell_plain_sender (replicate 64 0) ≡ false
  -- nor is a receiver of a mode above 3
  pub last_mode : spell_receiver (1 ∷ 16 ∷ 0 ∷ 0 ∷ 0 ∷ 3 ∷ (replicate 10 0 ++ (0xFF ∷ 0xFF ∷ replicate 46 0))) ≡ true
  pub no_mode : spell_receiver (1 ∷ 16 ∷ 0 ∷ 0 ∷ 0 ∷ 4 ∷ (replicate 10 0 ++ (0xFF ∷ 0xFF ∷ replicate 46 0))) ≡ false
  -- where nothing is held the register is at its start, FFFF with 16 bits and FFFFFFFF with 32
  pub start : spell_receiver (1 ∷ 16 ∷ (replicate 14 0 ++ (0xFF ∷ 0xFF ∷ replicate 46 0))) ≡ true
  pub start32 : spell_receiver (1 ∷ 32 ∷ (replicate 14 0 ++ (replicate 4 0xFF ++ replicate 44 0))) ≡ true
  pub not_start : spell_receiver (1 ∷ 16 ∷ (replicate 14 0 ++ (0x34 ∷ 0x12 ∷ replicate 46 0))) ≡ false
  pub start_of_32 : spell_receiver (1 ∷ 16 ∷ (replicate 14 0 ++ (replicate 4 0xFF ++ replicate 44 0))) ≡ false
  pub start_of_16 : spell_receiver (1 ∷ 32 ∷ (replicate 14 0 ++ (0xFF ∷ 0xFF ∷ replicate 46 0))) ≡ false
  -- and where something is it may be any
  pub any_held : spell_receiver (1 ∷ 16 ∷ (replicate 11 0 ++ (1 ∷ 0 ∷ 0 ∷ 0x34 ∷ 0x12 ∷ replicate 46 0))) ≡ true
  -- where nothing is held the count is not looked at
  pub count_aside : (receiver_in (replicate 14 0 ++ 1 ∷ 1 ∷ replicate 48 0)).held ≡ None

pub record MarkedNumbers : Type 0 where
  pub quiet : number quiet ≡ 0
  pub packet : number (packet true 0x0708) ≡ 0x01010708
  pub held : number (held 0x0203 false) ≡ 0x02000203
  pub refused : number (refused 14) ≡ 0x0300000E
  pub done : number done ≡ 0x04000000
  pub octet : number (octet 0x7E) ≡ 0x0500007E
  pub idle : number idle ≡ 0x06000000
  pub written : sent_number (Ok 0x8009) ≡ 0x07008009
  pub refused_send : sent_number (Err wrong_length) ≡ 0x03000001
