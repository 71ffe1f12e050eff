-- `fcs::check16::by_rest` meets its contract. A short word that is moved up takes a bit step for each of its own bits.
use mathlib.Core.Path.{◌≡◌, sym, ap, ◌∙◌}
use Prim.Native.Nat.{ℕ, ◌+◌, ◌-◌, ◌*◌, ◌%◌, ◌^◌, ◌≤◌, ◌<◌}
use native.Mathlib.Nat.{mod-lt}
use native.Mathlib.Omega.{arith}
use lib.Bits.{bit_xor}
use lib.Dec.{lit<}
use lib.ListN.{length}
use lib.Pow.{pow_mono, shl_exact}
use Rattle.fcs.specs.Notation.{◌⊕◌}
use Rattle.fcs.specs.CheckSequence.{check16, bit_steps, feed}
use Rattle.fcs.proofs.Xor as xor
use Rattle.fcs.proofs.Steps.{moved_up}
use Rattle.fcs.proofs.Laws.{feed-more, feed-done, feed-number, sound16}
use Rattle.fcs.proofs.Fold.{word_below}
use Rattle.fcs.proofs.check16.by_rest.Goals as goal

pub returns-in-empty : goal.returns-in-empty
returns-in-empty c = let a = c.args in
    sym (feed-done check16 a.start a.octets.now 0 (omega arith))

pub returns-in-len1 : goal.returns-in-len1
returns-in-len1 c = let a = c.args in
    let s = a.octets.now in
    c.octet_step.ensures ∙ sym (feed-more check16 a.start s 0 (omega arith) ∙ feed-done check16 _ s 1 (omega arith))

pub overflow_cast-result : goal.overflow_cast-result
overflow_cast-result c = let a = c.args in
    let moved = bit_xor a.start c.short_word.result * 2 ^ (64 - 8 * length a.octets.now) in
    let small : c.word_step.result < 65536 = rw c.word_step.ensures (word_below check16 sound16 (moved % 2 ^ 64) (mod-lt moved (lit< tt))) in
    omega arith

pub returns-in_default : goal.returns-in_default
unfolding ◌⊕◌
returns-in_default c = let a = c.args in
    let s = a.octets.now in
    let n = length s in
    let w = c.short_word in
    let t = bit_xor a.start w.result in
    let up = 64 - 8 * n in
    let all : 8 * n + up ≡ 64 = omega arith in
    let two : 2 ^ 16 ≤ 2 ^ (8 * n) = pow_mono {i = 16} (omega arith) in
    let small : t < 2 ^ (8 * n) = xor.below (8 * n) {a = a.start} {b = w.result} (omega arith) w.ensures.0 in
    c.word_step.ensures
    ∙ ap (bit_steps check16 64) (shl_exact (8 * n) up 64 small (omega arith))
    ∙ ap (λ (x : ℕ). bit_steps check16 x (t * 2 ^ up)) (sym all)
    ∙ moved_up check16 (8 * n) up t
    ∙ sym (feed-number check16 n a.start w.result w.ensures.0)
    ∙ ap (feed check16 a.start) w.ensures.1
