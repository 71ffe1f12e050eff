-- Particular octets and numbers. This file opens definitions of the lower crates.
use mathlib.Core.List.{flat_map}
use mathlib.Core.Path.{refl}
use Rattle.fcs.specs.Notation.{◌⊕◌}
use Rattle.fcs.specs.CheckSequence.{bit_step, bit_steps, entry, octet_step, feed, register, low_first, fcs}
use Rattle.plain.specs.Maps.{removed, marked, marking, with_framing, some_from, lacks, marks_wrongly, refused_pair, marks_ok}
use Rattle.plain.specs.Stuffing.{toggled, stuffed_octet, stuffed, line}
use Rattle.link.specs.Agreed.{agreed, valid}
use Rattle.link.specs.PlainSender.{send_with, plain_send}
use Rattle.kutarehopa.specs.Calls.{open_receiver, open_sender, open_pair, plain_send_call}
use Rattle.kutarehopa.specs.Layout.{octets_from, spell_receiver, receiver_in, receiver_octets, spell_sender, sender_octets, spell_plain_sender, plain_sender_in, plain_sender_octets}
use Rattle.kutarehopa.specs.Marked.{MarkedOctets, MarkedNumbers}

pub marked-octets : MarkedOctets
unfolding agreed valid open_receiver open_sender open_pair spell_receiver receiver_in receiver_octets spell_sender sender_octets octets_from spell_plain_sender plain_sender_in plain_sender_octets plain_send_call plain_send send_with line stuffed stuffed_octet toggled flat_map removed marked marking with_framing some_from lacks marks_wrongly refused_pair marks_ok ◌⊕◌ bit_step bit_steps entry octet_step feed register low_first fcs
marked-octets =
    record {
      receiver = refl;
      another_receiver = refl;
      mode_off = refl;
      mode_cobs = refl;
      mode_plain = refl;
      mode_escaped = refl;
      sender = refl;
      another_sender = refl;
      plain_sender = refl;
      opened_receiver = refl;
      opened_reading = refl;
      opened_sender = refl;
      opened_pair = refl;
      refused_receiver = refl;
      refused_sender = refl;
      refused_pair = refl;
      refused_width = refl;
      refused_limit = refl;
      plain_send = refl;
      plain_short = refl;
      plain_map = refl;
      no_plain_short = refl;
      no_plain_sender = refl;
      no_plain_width = refl;
      no_receiver = refl;
      no_sender = refl;
      no_plain = refl;
      last_mode = refl;
      no_mode = refl;
      start = refl;
      start32 = refl;
      not_start = refl;
      start_of_32 = refl;
      start_of_16 = refl;
      any_held = refl;
      count_aside = refl;
    }

pub marked-numbers : MarkedNumbers
marked-numbers = record { quiet = refl; packet = refl; held = refl; refused = refl; done = refl; octet = refl; idle = refl; written = refl; refused_send = refl }
