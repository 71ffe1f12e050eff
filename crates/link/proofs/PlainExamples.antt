-- The computed cases of plain PPP.
use mathlib.Core.Path.{refl, sym, subst}
use mathlib.Core.List.Memᴰ
use mathlib.Core.List.{List, [], ◌∷◌, flat_map, Memᴰ}
use mathlib.Core.Logic.{⊎_elim}
use Rattle.fcs.specs.Notation.{◌⊕◌}
use Rattle.fcs.specs.CheckSequence.{bit_step, bit_steps, entry, octet_step, feed, register, low_first, fcs, good}
use Rattle.cobs.specs.CodeBlocks.{in_range, code_table, meaning, from_line}
use Rattle.plain.specs.Maps.{removed, marked, marking, with_framing, some_from, lacks, marks_wrongly, refused_pair, marks_ok}
use Rattle.plain.specs.Stuffing.{toggled, stuffed_octet, stuffed, line, send, taken}
use Rattle.link.specs.Agreed.{agreed, valid}
use Rattle.link.specs.Receiver.{step3_decode, step3_data, step2_by_meaning, step2_code, step1_resume_held, step1_d1, step1_first_octet, steps_1_to_4, step5_without_phantom, step5_flag, at_flag, plain_data, plain_taken, plain_octet, plain_flag, at_plain_flag, begin_plain, in_bounds, receive}
use Rattle.link.specs.PlainSender.{send_with, plain_send}
use Rattle.link.specs.Runs.{receives, received, not_quiet}
use Rattle.plain.specs.ReadBack.{kept}
use Rattle.link.specs.PlainExamples.{PlainCase, Shows, cases, PlainCases}

abbrev AllShown : List PlainCase → Type 0
AllShown [] = Unit {0}
AllShown (c ∷ cs) = Shows c × AllShown cs

all : AllShown cases
unfolding receives received not_quiet kept agreed valid step3_decode step3_data step2_by_meaning step2_code step1_resume_held step1_d1 step1_first_octet steps_1_to_4 step5_without_phantom step5_flag at_flag plain_data plain_taken plain_octet plain_flag at_plain_flag begin_plain in_bounds receive send_with plain_send in_range code_table meaning from_line removed marked marking with_framing some_from lacks marks_wrongly refused_pair marks_ok toggled stuffed_octet stuffed flat_map line send taken ◌⊕◌ bit_step bit_steps entry octet_step feed register low_first fcs good
all = (refl, (refl, (refl, (refl, (refl, (refl, (refl, (refl, (refl, (refl, (refl, (refl, (refl, (refl, (refl, (refl, (refl, (refl, (refl, (refl, (refl, (refl, (refl, (refl, (refl, (refl, (refl, (refl, (refl, (refl, (refl, (refl, (refl, (refl, (refl, (refl, (refl, (refl, (refl, (refl, (refl, (refl, (refl, (refl, (refl, (refl, (refl, (refl, (refl, (refl, (refl, (refl, (refl, (refl, (refl, (refl, (refl, (refl, (refl, (refl, (refl, (refl, (refl, (refl, (refl, (refl, (refl, (refl, (refl, (refl, (refl, (refl, (refl, (refl, (refl, (refl, (refl, (refl, (refl, (refl, (refl, tt)))))))))))))))))))))))))))))))))))))))))))))))))))))))))))))))))))))))))))))))))

each : (cs : List PlainCase) → AllShown cs → (c : PlainCase) → Memᴰ c cs → Shows c
each [] t c m = absurd (Memᴰ.not-nil m)
each (d ∷ cs) t c m = ⊎_elim (λ q. subst Shows (sym q) t.0) (each cs t.1 c) (Memᴰ.cases_cons m)

pub plain-cases : PlainCases
plain-cases = each cases all
