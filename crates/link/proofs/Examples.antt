-- Settings and refusals, by example, computed of the steps as the marked cases are; where areas are long by laws. With Marked.antt this file
-- opens the lower crates' definitions.
use mathlib.Core.Path.{◌≡◌, refl, sym, ap, subst, ◌∙◌}
use mathlib.Core.Bool.{true, false, cond, ◌&&◌, ◌||◌, and-false}
use mathlib.Core.Logic.{inr, ⊎_elim}
use mathlib.Core.List.Memᴰ
use mathlib.Core.List.{List, [], ◌∷◌, ◌++◌, Memᴰ}
use Prim.Native.Nat.{ℕ, ◌+◌, ◌*◌, ◌/◌, ◌%◌, ◌≤◌, ◌<◌}
use native.Mathlib.Omega.{arith}
use borrow.Author.Tests.{ne_eqb, le-ltb, le-leb, lt-leb, ltb-true, ltb-false}
use lib.Dec.{leb, ltb}
use lib.ListN.{length, length-replicate}
use Rattle.std.specs.Prelude.{None}
use Rattle.fcs.specs.Notation.{◌⊕◌}
use Rattle.fcs.specs.CheckSequence.{bit_step, bit_steps, entry, octet_step, feed, register, low_first, fcs, good}
use Rattle.cobs.specs.CodeBlocks.{flag, in_range, code_table, meaning, to_line, from_line, leading, choice}
use Rattle.cobs.proofs.Tests.{branch, decide}
use Rattle.link.specs.Agreed.{Settings, agreed, least_packet, largest_frame, most_decoded, valid_width, valid}
use Rattle.link.specs.Answers.{done, quiet, refused}
use Rattle.link.specs.Sender.{Lane, low, Sender, Load, opened_sender, lane_state, put_frame, load, step4_break_off, step5_data, step6_code, steps_3_to_6, step2_no_lane, steps_1_to_6, next}
use Rattle.link.specs.Sender as sender
use Rattle.link.specs.Demands.{fresh_receiver}
use Rattle.link.specs.Receiver.{kept_off, Receive, opened_receiver, step3_decode, step3_data, step2_by_meaning, step2_code, step1_resume_held, step1_d1, step1_first_octet, steps_1_to_4, step5_without_phantom, step5_flag, at_flag, receive}
use Rattle.link.specs.Receiver as receiver
use Rattle.link.specs.Runs.{after_load, after_next, run, sender_answers, written, receives, not_quiet, received}
use Rattle.link.specs.Examples.{OtherBitsIgnored, AgreedLengths, PacketLengths, Example, Tells, settings_examples, width_examples, limit_examples, largest_examples, agreeing, area, code_examples, call_examples, sender_bounds, receiver_bounds, empty_examples, frame_examples, held_examples, changed_examples, examples, Examples}
use Rattle.link.proofs.UnderWay.{lanes}
use Rattle.link.proofs.Sound.{sound-fresh}
use Rattle.link.proofs.SenderBounds as sent
use Rattle.link.proofs.ReceiverBounds as heard
use Rattle.link.proofs.Marked.{many-over, most32, over32, largest16, above16, largest32, above32}
use Rattle.link.proofs.EachCall.{areas-then-state, receives-so}

abbrev AllHold : List Example → Type 0
AllHold [] = Unit {0}
AllHold (x ∷ xs) = Tells x × AllHold xs

-- ---- the general sentences

even : (m n : ℕ) → (m + 2 * n) % 2 ≡ m % 2
even m n = omega arith

pub other-bits : OtherBitsIgnored
unfolding agreed
other-bits octet width limit n =
    let z : (octet + 4 * n) % 2 ≡ octet % 2 = omega arith in
    let half : (octet + 4 * n) / 2 ≡ octet / 2 + 2 * n = omega arith in
    let p : (octet / 2 + 2 * n) % 2 ≡ octet / 2 % 2 = even (octet / 2) n in
    rw (z, half, p)

in-range : (n : ℕ) → 2 ≤ n → n ≤ 16384 → (leb 2 n && leb n 16384) ≡ true
in-range n a b = rw (le-leb 2 n a, le-leb n 16384 b)

pub agreed-lengths : AgreedLengths
unfolding agreed valid
agreed-lengths =
    record {
      of16 = λ o n a b. record { taken = in-range n a b; least = refl; most = refl; least_frame = refl; largest_frame = refl; most_decoded = omega arith };
      of32 = λ o n a b. record { taken = in-range n a b; least = refl; most = refl; least_frame = refl; largest_frame = refl; most_decoded = omega arith };
      other_width = λ t a b. rw (ne_eqb t.width 16 a, ne_eqb t.width 32 b);
      below = λ t a. rw (lt-leb 2 t.limit a);
      above = λ t a. rw (lt-leb t.limit 16384 a) (and-false (leb 2 t.limit));
      in_range = λ t a b. in-range t.limit a b;
      wrong_width = λ t w. rw w;
      wrong_limit = λ t l. rw l (and-false (valid_width (agreed t)));
    }

-- a load into an empty lane
module _ (l : Lane) (p : List ℕ) (s : Sender) (area : List ℕ) (v : valid (agreed s.settings) ≡ true) (long : largest_frame (agreed s.settings) ≤ length area)
    (ok : sender.in_bounds (agreed s.settings) s ≡ true) (free : (lane_state l s).length ≡ 0) where
  by_length : (load l p s area).answer ≡ cond (ltb (length p) least_packet || ltb (agreed s.settings).limit (length p)) (refused 1) done
  unfolding load put_frame
  by_length =
      rw (v, le-ltb (length area) (largest_frame (agreed s.settings)) long, ok, le-ltb 0 (lane_state l s).length (omega arith))
      (branch (λ (t : Load). t.answer ≡ cond (ltb (length p) least_packet || ltb (agreed s.settings).limit (length p)) (refused 1) done)
      (ltb (length p) least_packet || ltb (agreed s.settings).limit (length p)) (λ e. rw e) (λ e. rw e))

  allowed : (n m : ℕ) → cond (ltb n least_packet || ltb m n) (refused 1) done ≡ cond (leb least_packet n && leb n m) done (refused 1)
  allowed n m =
      decide (ltb n least_packet) (λ e. rw (e, lt-leb least_packet n (ltb-true n least_packet e)))
      (λ e. decide (ltb m n) (λ f. rw (e, f, le-leb least_packet n (ltb-false n least_packet e), lt-leb n m (ltb-true m n f)))
      (λ f. rw (e, f, le-leb least_packet n (ltb-false n least_packet e), le-leb n m (ltb-false m n f))))

pub packet-lengths : PacketLengths
packet-lengths l p s area v long ok free = by_length l p s area v long ok free ∙ allowed l p s area v long ok free (length p) (agreed s.settings).limit

-- of areas and packets of any length, with valid settings
size : (n : ℕ) → length (area n) ≡ n
size n = length-replicate n 0

module _ (t : Settings) (v : valid (agreed t) ≡ true) where
  opened-ok : sender.in_bounds (agreed t) (opened_sender t) ≡ true
  opened-ok = sent.in_bounds_lem (agreed t) (opened_sender t) (sound-fresh t [] []).in-bounds

  taken : (n m : ℕ) → least_packet ≤ n → n ≤ (agreed t).limit → largest_frame (agreed t) ≤ m → (load low (area n) (opened_sender t) (area m)).answer ≡ done
  taken n m a b c =
      packet-lengths low (area n) (opened_sender t) (area m) v (rw (size m) c) opened-ok refl
      ∙ rw (size n, le-leb least_packet n a, le-leb n (agreed t).limit b)

  too_long : (n m : ℕ) → (agreed t).limit < n → largest_frame (agreed t) ≤ m → (load low (area n) (opened_sender t) (area m)).answer ≡ refused 1
  too_long n m b c =
      packet-lengths low (area n) (opened_sender t) (area m) v (rw (size m) c) opened-ok refl
      ∙ rw (size n, lt-leb n (agreed t).limit b, and-false (leb least_packet n))

  short-load : (p : List ℕ) (m : ℕ) → m < largest_frame (agreed t) → (load low p (opened_sender t) (area m)).answer ≡ refused 2
  short-load p m c = areas-then-state.load_short low p (opened_sender t) (area m) v (rw (size m) c)

  short-second : (m n : ℕ) → n < most_decoded (agreed t) → (receive (fresh_receiver t None (area m) (area n)) flag).report ≡ refused 2
  short-second m n c = areas-then-state.receive_short (fresh_receiver t None (area m) (area n)) flag v (inr (rw (size n) c))

  empty-frame : (m n : ℕ) → most_decoded (agreed t) ≤ m → most_decoded (agreed t) ≤ n → (receive (fresh_receiver t None (area m) (area n)) flag).report ≡ quiet
  empty-frame m n a b =
      ap (λ (h : Receive). h.report)
      (receives-so.empty (fresh_receiver t None (area m) (area n))
      (record {
        valid = v;
        first = rw (size m) a;
        second = rw (size n) b;
        bounds = heard.in_bounds_lem (agreed t) (opened_receiver t None) refl (λ _. refl) (heard.fresh_in (agreed t) t kept_off 0 false None tt);
      })
      refl)

-- ---- the table

settings-hold : AllHold settings_examples
unfolding run received sender_answers written receives not_quiet after_load after_next agreed valid put_frame load step4_break_off step5_data step6_code steps_3_to_6 step2_no_lane steps_1_to_6 next sender.in_bounds step3_decode step3_data step2_by_meaning step2_code step1_resume_held step1_d1 step1_first_octet steps_1_to_4 step5_without_phantom step5_flag at_flag receive receiver.in_bounds in_range code_table meaning to_line from_line leading choice ◌⊕◌ bit_step bit_steps entry octet_step feed register low_first fcs good
settings-hold = ((refl, refl), ((refl, refl), ((refl, refl), ((refl, refl), (lanes _ refl refl, (lanes _ refl refl, (refl, (refl, (refl, (refl, (refl, (refl, (refl, (refl, (refl, (refl, (refl, (refl, (refl, (refl, (refl, (refl, tt))))))))))))))))))))))

widths-hold : AllHold width_examples
unfolding run received sender_answers written receives not_quiet after_load after_next agreed valid put_frame load step4_break_off step5_data step6_code steps_3_to_6 step2_no_lane steps_1_to_6 next sender.in_bounds step3_decode step3_data step2_by_meaning step2_code step1_resume_held step1_d1 step1_first_octet steps_1_to_4 step5_without_phantom step5_flag at_flag receive receiver.in_bounds in_range code_table meaning to_line from_line leading choice ◌⊕◌ bit_step bit_steps entry octet_step feed register low_first fcs good
widths-hold = (lanes _ refl refl, (lanes _ refl refl, (lanes _ refl refl, (lanes _ refl refl, (refl, (refl, (refl, (refl, (refl, (refl, (most32, (over32, ((refl, refl), ((refl, refl), (refl, (refl, (refl, (refl, (refl, (refl, (refl, (refl, (refl, (refl, ((refl, refl), ((refl, refl), ((refl, refl), ((refl, refl), (refl, (refl, (refl, tt)))))))))))))))))))))))))))))))

limits-hold : AllHold limit_examples
unfolding run received sender_answers written receives not_quiet after_load after_next agreed valid put_frame load step4_break_off step5_data step6_code steps_3_to_6 step2_no_lane steps_1_to_6 next sender.in_bounds step3_decode step3_data step2_by_meaning step2_code step1_resume_held step1_d1 step1_first_octet steps_1_to_4 step5_without_phantom step5_flag at_flag receive receiver.in_bounds in_range code_table meaning to_line from_line leading choice ◌⊕◌ bit_step bit_steps entry octet_step feed register low_first fcs good
limits-hold = ((refl, refl), ((refl, refl), ((refl, refl), ((refl, refl), ((refl, refl), ((refl, refl), ((refl, refl), ((refl, refl), (refl, (refl, (refl, (refl, (refl, (refl, (refl, (refl, (refl, (refl, (lanes _ refl refl, (refl, (refl, (refl, (refl, (refl, (refl, (refl, (refl, (refl, (refl, (refl, (refl, (refl, (refl, (refl, (refl, tt)))))))))))))))))))))))))))))))))))

largest-hold : AllHold largest_examples
unfolding agreed valid
largest-hold =
    let t16 = agreeing 16 16384 in
    let t32 = agreeing 32 16384 in (
      taken t16 refl 16384 16386 (omega arith) (omega arith) (omega arith),
      (
        too_long t16 refl 16385 16386 (omega arith) (omega arith),
        (
          short-load t16 refl (area 2) 16385 (omega arith),
          (
            short-second t32 refl 16389 16388 (omega arith),
            (empty-frame t32 refl 16389 16389 (omega arith) (omega arith), (largest16, (above16, (largest32, (above32, tt))))),
          ),
        ),
      ),
    )

codes-hold : AllHold code_examples
unfolding run received sender_answers written receives not_quiet after_load after_next agreed valid put_frame load step4_break_off step5_data step6_code steps_3_to_6 step2_no_lane steps_1_to_6 next sender.in_bounds step3_decode step3_data step2_by_meaning step2_code step1_resume_held step1_d1 step1_first_octet steps_1_to_4 step5_without_phantom step5_flag at_flag receive receiver.in_bounds in_range code_table meaning to_line from_line leading choice ◌⊕◌ bit_step bit_steps entry octet_step feed register low_first fcs good
codes-hold = (refl, (refl, (refl, (refl, (refl, (refl, (refl, (refl, (refl, (refl, (refl, (refl, (refl, (refl, (refl, (refl, (refl, (refl, (refl, (refl, (refl, (refl, (refl, (refl, (refl, (refl, (refl, (refl, tt))))))))))))))))))))))))))))

calls-hold : AllHold call_examples
unfolding run received sender_answers written receives not_quiet after_load after_next agreed valid put_frame load step4_break_off step5_data step6_code steps_3_to_6 step2_no_lane steps_1_to_6 next sender.in_bounds step3_decode step3_data step2_by_meaning step2_code step1_resume_held step1_d1 step1_first_octet steps_1_to_4 step5_without_phantom step5_flag at_flag receive receiver.in_bounds in_range code_table meaning to_line from_line leading choice ◌⊕◌ bit_step bit_steps entry octet_step feed register low_first fcs good
calls-hold = (refl, (refl, (refl, (refl, (refl, (refl, (refl, (refl, (refl, (refl, (refl, (refl, (refl, (refl, (refl, (refl, (refl, (refl, (refl, (refl, tt))))))))))))))))))))

sender-bounds : AllHold sender_bounds
unfolding run received sender_answers written receives not_quiet after_load after_next agreed valid put_frame load step4_break_off step5_data step6_code steps_3_to_6 step2_no_lane steps_1_to_6 next sender.in_bounds step3_decode step3_data step2_by_meaning step2_code step1_resume_held step1_d1 step1_first_octet steps_1_to_4 step5_without_phantom step5_flag at_flag receive receiver.in_bounds in_range code_table meaning to_line from_line leading choice ◌⊕◌ bit_step bit_steps entry octet_step feed register low_first fcs good
sender-bounds = (refl, (refl, (refl, (refl, (refl, (refl, (refl, (refl, (refl, (refl, (refl, (refl, (refl, (refl, (refl, (refl, (refl, (refl, (refl, (refl, (refl, (refl, (refl, (refl, (refl, tt)))))))))))))))))))))))))

receiver-bounds : AllHold receiver_bounds
unfolding run received sender_answers written receives not_quiet after_load after_next agreed valid put_frame load step4_break_off step5_data step6_code steps_3_to_6 step2_no_lane steps_1_to_6 next sender.in_bounds step3_decode step3_data step2_by_meaning step2_code step1_resume_held step1_d1 step1_first_octet steps_1_to_4 step5_without_phantom step5_flag at_flag receive receiver.in_bounds in_range code_table meaning to_line from_line leading choice ◌⊕◌ bit_step bit_steps entry octet_step feed register low_first fcs good
receiver-bounds = (refl, (refl, (refl, (refl, (refl, (refl, (refl, (refl, (refl, (refl, (refl, (refl, (refl, (refl, (refl, (refl, (refl, (refl, (refl, (refl, (refl, (refl, (refl, (refl, (refl, (refl, (refl, (refl, (refl, (refl, (refl, (refl, (refl, (refl, (refl, (refl, (refl, (refl, tt))))))))))))))))))))))))))))))))))))))

empty_holds : AllHold empty_examples
unfolding run received sender_answers written receives not_quiet after_load after_next agreed valid put_frame load step4_break_off step5_data step6_code steps_3_to_6 step2_no_lane steps_1_to_6 next sender.in_bounds step3_decode step3_data step2_by_meaning step2_code step1_resume_held step1_d1 step1_first_octet steps_1_to_4 step5_without_phantom step5_flag at_flag receive receiver.in_bounds in_range code_table meaning to_line from_line leading choice ◌⊕◌ bit_step bit_steps entry octet_step feed register low_first fcs good
empty_holds = ((refl, refl), ((refl, refl), ((refl, refl), tt)))

frames-hold : AllHold frame_examples
unfolding run received sender_answers written receives not_quiet after_load after_next agreed valid put_frame load step4_break_off step5_data step6_code steps_3_to_6 step2_no_lane steps_1_to_6 next sender.in_bounds step3_decode step3_data step2_by_meaning step2_code step1_resume_held step1_d1 step1_first_octet steps_1_to_4 step5_without_phantom step5_flag at_flag receive receiver.in_bounds in_range code_table meaning to_line from_line leading choice ◌⊕◌ bit_step bit_steps entry octet_step feed register low_first fcs good
frames-hold = (refl, (refl, (refl, (refl, (many-over, (refl, (refl, (refl, (refl, (refl, (refl, (refl, (refl, ((refl, refl), ((refl, refl), ((refl, refl), ((refl, refl), ((refl, refl), ((refl, refl), ((refl, refl), ((refl, refl), tt)))))))))))))))))))))

held-holds : AllHold held_examples
unfolding run received sender_answers written receives not_quiet after_load after_next agreed valid put_frame load step4_break_off step5_data step6_code steps_3_to_6 step2_no_lane steps_1_to_6 next sender.in_bounds step3_decode step3_data step2_by_meaning step2_code step1_resume_held step1_d1 step1_first_octet steps_1_to_4 step5_without_phantom step5_flag at_flag receive receiver.in_bounds in_range code_table meaning to_line from_line leading choice ◌⊕◌ bit_step bit_steps entry octet_step feed register low_first fcs good
held-holds = (refl, (refl, (refl, (refl, (refl, (refl, (refl, (refl, (refl, (refl, (refl, (refl, (refl, (refl, (refl, (refl, (refl, (refl, (refl, (refl, (refl, (refl, tt))))))))))))))))))))))

changes-hold : AllHold changed_examples
unfolding run received sender_answers written receives not_quiet after_load after_next agreed valid put_frame load step4_break_off step5_data step6_code steps_3_to_6 step2_no_lane steps_1_to_6 next sender.in_bounds step3_decode step3_data step2_by_meaning step2_code step1_resume_held step1_d1 step1_first_octet steps_1_to_4 step5_without_phantom step5_flag at_flag receive receiver.in_bounds in_range code_table meaning to_line from_line leading choice ◌⊕◌ bit_step bit_steps entry octet_step feed register low_first fcs good
changes-hold = (refl, (refl, (refl, (refl, (refl, (refl, (refl, (refl, (refl, (refl, (refl, (refl, (refl, (refl, (refl, (refl, (refl, tt)))))))))))))))))

join : (xs ys : List Example) → AllHold xs → AllHold ys → AllHold (xs ++ ys)
join [] ys h k = k
join (x ∷ xs) ys h k = (h.0, join xs ys h.1 k)

all : AllHold examples
all =
    let f = frame_examples ++ (held_examples ++ changed_examples) in
    let e = empty_examples ++ f in
    let r = receiver_bounds ++ e in
    let b = sender_bounds ++ r in
    let c = call_examples ++ b in
    let d = code_examples ++ c in
    join settings_examples (width_examples ++ (limit_examples ++ (largest_examples ++ d))) settings-hold
    (join width_examples (limit_examples ++ (largest_examples ++ d)) widths-hold
    (join limit_examples (largest_examples ++ d) limits-hold
    (join largest_examples d largest-hold
    (join code_examples c codes-hold
    (join call_examples b calls-hold
    (join sender_bounds r sender-bounds
    (join receiver_bounds e receiver-bounds (join empty_examples f empty_holds (join frame_examples (held_examples ++ changed_examples) frames-hold (join held_examples changed_examples held-holds changes-hold))))))))))

each : (xs : List Example) → AllHold xs → (x : Example) → Memᴰ x xs → Tells x
each [] t x m = absurd (Memᴰ.not-nil m)
each (y ∷ xs) t x m = ⊎_elim (λ q. subst Tells (sym q) t.0) (each xs t.1 x) (Memᴰ.cases_cons m)

pub each-example : Examples
each-example = each examples all
