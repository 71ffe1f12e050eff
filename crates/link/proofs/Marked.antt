-- The marked cases, computed of the steps themselves with the real check sequence; (h) by a law, since its areas are long. This file alone
-- opens the lower crates' definitions.
use mathlib.Core.Path.{◌≡◌, refl, sym, ap, subst, ◌∙◌}
use mathlib.Core.Bool.{true, false, not}
use mathlib.Core.Logic.{⊎_elim}
use mathlib.Core.List.Memᴰ
use mathlib.Core.List.{List, [], ◌∷◌, ◌++◌, Memᴰ}
use Prim.Native.Nat.{ℕ, zero, suc, ◌+◌, ◌-◌, ◌*◌, ◌≤◌, ◌<◌}
use native.Mathlib.Omega.{arith}
use borrow.Author.Tests.{le-ltb, lt-ltb, eq-eqb, ne_eqb}
use lib.Dec.{ltb, eqb}
use lib.ListN.{length, take, drop, replicate, length-replicate}
use Rattle.std.specs.Prelude.{None}
use Rattle.fcs.specs.Notation.{◌⊕◌}
use Rattle.fcs.specs.CheckSequence.{bit_step, bit_steps, entry, octet_step, feed, register, low_first, fcs, good}
use Rattle.cobs.specs.CodeBlocks.{flag, in_range, code_table, meaning, to_line, from_line, leading, choice}
use Rattle.cobs.proofs.Tests.{branch, decide}
use Rattle.cobs.proofs.Exchange.{from-line}
use Rattle.cobs.proofs.Table.{run_row, row_read}
use Rattle.link.specs.Agreed.{Agreed, agreed, least_frame, most_decoded, Settings, valid}
use Rattle.link.specs.Answers.{refused}
use Rattle.link.specs.Sender.{put_frame, load, step4_break_off, step5_data, step6_code, steps_3_to_6, step2_no_lane, steps_1_to_6, next}
use Rattle.link.specs.Sender as sender
use Rattle.link.specs.Receiver.{Working, ReceiverEnd, Receive, Ended, is_no_block, is_d0, step3_decode, step3_data, step2_by_meaning, step2_code, step1_resume_held, step1_d1, step1_first_octet, steps_1_to_4, step5_without_phantom, step5_flag, at_flag, work, aside, put_back, flagged, receive}
use Rattle.link.specs.Receiver as receiver
use Rattle.link.specs.ReceiverParts.{ReceiverReady}
use Rattle.link.specs.Runs.{after_load, after_next, run, written, receives, not_quiet, received, under_way, left_aside}
use Rattle.link.specs.Marked.{bits16, Case, refused_ten, Says, receiver_area, cases, MarkedCases, AtWork, fresh_end}
use Rattle.link.specs.Examples.{agreeing, bits32}
use Rattle.link.proofs.Tests.{if-so, if-not, true-false}
use Rattle.link.proofs.ReceiverBounds.{Ready, receive-flag, receive_other, receive-ready}
use Rattle.link.proofs.Follow.{steps-code, code_is}
use Rattle.link.proofs.UnderWay.{lanes}
use Rattle.link.proofs.Cobs.{cobs_receive, cobs_received}
use Rattle.link.proofs.Whole.{ready_of}
use Rattle.link.proofs.AsCobs.{off-flag}
use Rattle.link.proofs.Demands.{fresh-ready}
use Rattle.link.proofs.AnyBlocks.{received-append}

abbrev AllHold : List Case → Type 0
AllHold [] = Unit {0}
AllHold (c ∷ cs) = Says c × AllHold cs

-- ---- (a) to (g) and (i): computed

a-to-g : AllHold (take 7 cases)
unfolding written receives not_quiet after_load after_next agreed valid put_frame load step4_break_off step5_data step6_code steps_3_to_6 step2_no_lane steps_1_to_6 next sender.in_bounds step3_decode step3_data step2_by_meaning step2_code step1_resume_held step1_d1 step1_first_octet steps_1_to_4 step5_without_phantom step5_flag at_flag receive receiver.in_bounds in_range code_table meaning to_line from_line leading choice ◌⊕◌ bit_step bit_steps entry octet_step feed register low_first fcs good
a-to-g = (lanes _ refl refl, (lanes _ refl refl, (lanes _ refl refl, (lanes _ refl refl, (refl, (refl, (refl, tt)))))))

i : AllHold (drop 9 cases)
unfolding leading choice
i = (refl, (refl, tt))

-- ---- (h): runs of zeros

-- n octets are decoded, and nothing is refused nor left
record Decoded (g : Agreed) (n : ℕ) (e : ReceiverEnd) : Type 0 where
  ready : Ready g e
  clean : e.state.refusal ≡ 0
  left-0 : e.state.left ≡ 0
  count : e.state.decoded ≡ n

module _ (g : Agreed) (zxe : g.zxe ≡ true) (n z : ℕ) (h : 3 ≤ z) (k : z ≤ 15) (e : ReceiverEnd) (d : Decoded g n e) where
  abbrev begun : Working
  begun = record { state = receiver.step2_begin_block (receiver.last_block (0xD0 + z)) 0 0 e.state; area = (work e).area }

  run_is : (cobs_receive e (0xD0 + z)).after ≡ put_back e (step3_decode g (replicate z 0) begun)
  unfolding step2_by_meaning
  run_is =
      ap (λ (r : Receive). r.after) (receive_other g e d.ready (0xD0 + z) (λ q. omega arith))
      ∙ ap (put_back e)
      (ap (steps_1_to_4 g (aside e) (work e)) (from-line (0xD0 + z) (λ q. omega arith))
      ∙ (steps-code g (aside e) (work e) (0xD0 + z) d.clean d.left-0 (λ q. omega arith) (λ q. omega arith)
      ∙ code_is g (work e) (0xD0 + z) 0 z (row_read (run_row z zxe h k))))

  size : length {A = ℕ} (replicate z 0) ≡ z
  size = length-replicate z 0

  run_on : n + z ≤ most_decoded g → Decoded g (n + z) (cobs_receive e (0xD0 + z)).after
  unfolding step3_decode
  run_on room =
      let ready = receive-ready g e (0xD0 + z) d.ready in
      let is : (cobs_receive e (0xD0 + z)).after ≡ put_back e (receiver.step3_write (replicate z 0) begun) =
      run_is ∙ ap (put_back e) (if-not _ _ _ (le-ltb (most_decoded g) (e.state.decoded + length {A = ℕ} (replicate z 0)) (omega (arith, size, d.count)))) in
      record {
        ready = ready;
        clean = rw is d.clean;
        left-0 = rw is refl;
        count = rw is (omega (arith, size, d.count));
      }

  run-over : most_decoded g < n + z → (cobs_receive e (0xD0 + z)).after.state.refusal ≡ 10
  unfolding step3_decode
  run-over over =
      ap (λ (r : ReceiverEnd). r.state.refusal)
      (run_is ∙ ap (put_back e) (if-so _ _ _ (lt-ltb (most_decoded g) (e.state.decoded + length {A = ℕ} (replicate z 0)) (omega (arith, size, d.count)))))

runs : (g : Agreed) → g.zxe ≡ true → (m n : ℕ) (e : ReceiverEnd) → n + 15 * m ≤ most_decoded g → Decoded g n e
    → Decoded g (n + 15 * m) (cobs_received e (replicate m 0xDF))
unfolding cobs_received
runs g zxe zero n e room d = subst (λ (k : ℕ). Decoded g k e) (omega arith) d
runs g zxe (suc m) n e room d =
    subst (λ (k : ℕ). Decoded g k (cobs_received (cobs_receive e 0xDF).after (replicate m 0xDF))) (omega arith)
    (runs g zxe m (n + 15) (cobs_receive e 0xDF).after (omega arith) (run_on g zxe n 15 (omega arith) (omega arith) e d (omega arith)))

then : (e : ReceiverEnd) (xs : List ℕ) (x : ℕ) → cobs_received e (xs ++ (x ∷ [])) ≡ (cobs_receive (cobs_received e xs) x).after
unfolding cobs_received
then e xs x = received-append e xs (x ∷ [])

-- at the flag the remembered refusal is reported; with none remembered it isn't 10
module _ (g : Agreed) (e : ReceiverEnd) (z : Ready g e) where
  told-refusal : (n : ℕ) → e.state.refusal ≡ suc n → (cobs_receive e flag).report ≡ refused (suc n)
  unfolding at_flag step5_flag
  told-refusal n q =
      let some : e.state.refusal ≡ 0 → ⊥ = (λ p. omega arith) in
      let framed : e.state.framed ≡ true = decide e.state.framed (λ f. f) (λ f. absurd (some (z.bounds.out f).refusal-0)) in
      ap (λ (r : Receive). r.report)
      (receive-flag g e z ∙ ap (flagged e) (if-so _ _ _ framed ∙ if-so _ _ _ (ap not (ne_eqb e.state.refusal 0 some))))
      ∙ ap refused q

  not-ten : e.state.refusal ≡ 0 → (cobs_receive e flag).report ≡ refused 10 → ⊥
  unfolding at_flag step5_flag step5_without_phantom
  not-ten clean =
      let r = e.state in
      let P : Ended → Type 0 = λ t. t.report ≡ refused 10 → ⊥ in
      rw (receive-flag g e z)
      (branch P r.framed
      (λ _. branch P (not (eqb r.refusal 0)) (λ q. true-false (sym q ∙ ap not (eq-eqb r.refusal 0 clean)))
      (λ _. branch P (is_no_block r.last) (λ _ q. let n : ◌≡◌ {A = ℕ} 9 10 = cc in omega arith)
      (λ _. branch P (ltb 0 r.left)
      (λ _. branch P g.pre (λ _ q. let n : ◌≡◌ {A = ℕ} 0 1 = cc in omega arith) (λ _ q. let n : ◌≡◌ {A = ℕ} 11 10 = cc in omega arith))
      (λ _. branch P (is_d0 r.last) (λ _ q. let n : ◌≡◌ {A = ℕ} 12 10 = cc in omega arith)
      (λ _. branch P (ltb (r.decoded - 1) (least_frame g)) (λ _ q. let n : ◌≡◌ {A = ℕ} 13 10 = cc in omega arith)
      (λ _. branch P (good g.check (take (r.decoded - 1) (work e).area)) (λ _ q. let n : ◌≡◌ {A = ℕ} 0 1 = cc in omega arith)
      (λ _ q. let n : ◌≡◌ {A = ℕ} 14 10 = cc in omega arith)))))))
      (λ _ q. let n : ◌≡◌ {A = ℕ} 0 1 = cc in omega arith))

-- m runs of 15 zeros, from a fresh receiver with ZXE, and z zeros more
module _ (m : ℕ) (t : Settings) (v : valid (agreed t) ≡ true) (zxe : (agreed t).zxe ≡ true) (room : 15 * m ≤ most_decoded (agreed t)) (z : ℕ) (least : 3 ≤ z)
    (most : z ≤ 15) where
  abbrev g : Agreed
  g = agreed t

  abbrev line : List ℕ
  line = replicate m 0xDF

  long-enough : most_decoded g ≤ length (receiver_area t)
  long-enough = omega (arith, length-replicate {A = ℕ} (most_decoded g) 0)

  fresh-off : ReceiverReady (fresh_end t)
  fresh-off = fresh-ready t None v (receiver_area t) (receiver_area t) long-enough long-enough

  many : Decoded g (15 * m) (cobs_received (fresh_end t) line)
  many =
      subst (λ (k : ℕ). Decoded g k (cobs_received (fresh_end t) line)) (omega arith)
      (runs g zxe m 0 (fresh_end t) (omega arith)
      (record { ready = ready_of _ fresh-off refl; clean = refl; left-0 = refl; count = refl }))

  within : 15 * m + z ≤ most_decoded g → Says (refused_ten t (line ++ ((0xD0 + z) ∷ [])) false)
  within h =
      let e = cobs_received (fresh_end t) line in
      let d = run_on g zxe (15 * m) z least most e many (omega arith) in
      rw (off-flag (line ++ ((0xD0 + z) ∷ [])) (fresh_end t) fresh-off refl, then (fresh_end t) line (0xD0 + z)) (not-ten g (cobs_receive e (0xD0 + z)).after d.ready d.clean)

  over : most_decoded g < 15 * m + z → Says (refused_ten t (line ++ ((0xD0 + z) ∷ [])) true)
  over h =
      let e = cobs_received (fresh_end t) line in
      rw (off-flag (line ++ ((0xD0 + z) ∷ [])) (fresh_end t) fresh-off refl, then (fresh_end t) line (0xD0 + z))
      (told-refusal g (cobs_receive e (0xD0 + z)).after (receive-ready g e (0xD0 + z) many.ready) 9
      (run-over g zxe (15 * m) z least most e many (omega arith)))

-- 2,051 octets, and more, with 16 bits; 137 times DF, for the examples
h-DB : Says (refused_ten (bits16 0x03) (replicate 136 0xDF ++ (0xDB ∷ [])) false)
unfolding agreed valid
h-DB = within 136 (bits16 0x03) refl refl (omega arith) 11 (omega arith) (omega arith) (omega arith)

h-DC : Says (refused_ten (bits16 0x03) (replicate 136 0xDF ++ (0xDC ∷ [])) true)
unfolding agreed valid
h-DC = over 136 (bits16 0x03) refl refl (omega arith) 12 (omega arith) (omega arith) (omega arith)

pub many-over : Says (refused_ten (bits16 0x03) (replicate 137 0xDF) true)
unfolding agreed valid
many-over = over 136 (bits16 0x03) refl refl (omega arith) 15 (omega arith) (omega arith) (omega arith)

-- 2,053 and one more with 32 bits, for the examples
pub most32 : Says (refused_ten (bits32 0x03) (replicate 136 0xDF ++ (0xDD ∷ [])) false)
unfolding agreed valid
most32 = within 136 (bits32 0x03) refl refl (omega arith) 13 (omega arith) (omega arith) (omega arith)

pub over32 : Says (refused_ten (bits32 0x03) (replicate 136 0xDF ++ (0xDE ∷ [])) true)
unfolding agreed valid
over32 = over 136 (bits32 0x03) refl refl (omega arith) 14 (omega arith) (omega arith) (omega arith)

-- limit 16,384: 16,387 octets with 16 bits, 16,389 with 32, and one more, for the examples
pub largest16 : Says (refused_ten (agreeing 16 16384) (replicate 1092 0xDF ++ (0xD7 ∷ [])) false)
unfolding agreed valid
largest16 = within 1092 (agreeing 16 16384) refl refl (omega arith) 7 (omega arith) (omega arith) (omega arith)

pub above16 : Says (refused_ten (agreeing 16 16384) (replicate 1092 0xDF ++ (0xD8 ∷ [])) true)
unfolding agreed valid
above16 = over 1092 (agreeing 16 16384) refl refl (omega arith) 8 (omega arith) (omega arith) (omega arith)

pub largest32 : Says (refused_ten (agreeing 32 16384) (replicate 1092 0xDF ++ (0xD9 ∷ [])) false)
unfolding agreed valid
largest32 = within 1092 (agreeing 32 16384) refl refl (omega arith) 9 (omega arith) (omega arith) (omega arith)

pub above32 : Says (refused_ten (agreeing 32 16384) (replicate 1092 0xDF ++ (0xDA ∷ [])) true)
unfolding agreed valid
above32 = over 1092 (agreeing 32 16384) refl refl (omega arith) 10 (omega arith) (omega arith) (omega arith)

-- ---- the table

join : (cs ds : List Case) → AllHold cs → AllHold ds → AllHold (cs ++ ds)
join [] ds h k = k
join (c ∷ cs) ds h k = (h.0, join cs ds h.1 k)

all : AllHold cases
all = join (take 7 cases) (drop 7 cases) a-to-g (h-DB, (h-DC, i))

each : (cs : List Case) → AllHold cs → (c : Case) → Memᴰ c cs → Says c
each [] t c m = absurd (Memᴰ.not-nil m)
each (d ∷ cs) t c m = ⊎_elim (λ q. subst Says (sym q) t.0) (each cs t.1 c) (Memᴰ.cases_cons m)

pub marked : MarkedCases
marked = each cases all

-- ---- demand 3 at work

pub at-work : AtWork
unfolding run received under_way left_aside written receives not_quiet after_load after_next agreed valid put_frame load step4_break_off step5_data step6_code steps_3_to_6 step2_no_lane steps_1_to_6 next sender.in_bounds step3_decode step3_data step2_by_meaning step2_code step1_resume_held step1_d1 step1_first_octet steps_1_to_4 step5_without_phantom step5_flag at_flag receive receiver.in_bounds in_range code_table meaning to_line from_line leading choice ◌⊕◌ bit_step bit_steps entry octet_step feed register low_first fcs good
at-work = record { premise = refl; under_way = refl; line = refl; through = refl; aside = refl }
