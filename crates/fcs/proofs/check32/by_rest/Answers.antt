-- `fcs::check32::by_rest` meets its contract. A short word takes a bit step for each of its own bits, by those of a word.
use mathlib.Core.Path.{◌≡◌, sym, ap, ◌∙◌}
use mathlib.Core.List.{List}
use Prim.Native.Nat.{ℕ, ◌-◌, ◌*◌, ◌^◌, ◌≤◌, ◌<◌}
use native.Mathlib.Omega.{arith}
use lib.Bits.{bit_xor}
use lib.ListN.{length}
use Rattle.fcs.specs.Notation.{◌⊕◌}
use Rattle.fcs.specs.CheckSequence.{check32, bit_steps, low_first, feed}
use Rattle.fcs.proofs.Laws.{feed-more, feed-done, feed-number, feed-below, sound32}
use Rattle.fcs.proofs.Linear.{down, up}
use Rattle.fcs.proofs.Fold.{moved_out}
use Rattle.fcs.proofs.check32.by_rest.Goals as goal

-- the code's step of a short word w of n octets, which are those of s
by-short-word : (r w v n : ℕ) (s : List ℕ) → n ≤ 8 → (w < 2 ^ (8 * n)) × (low_first n w ≡ s) → v ≡ bit_steps check32 64 (up (64 - 8 * n) (bit_xor r w)) → bit_xor v (down (8 * n) (bit_xor r w)) ≡ feed check32 r s
unfolding ◌⊕◌
by-short-word r w v n s h (fits, octets) e =
    rw e (moved_out check32 (8 * n) (bit_xor r w) (omega arith)) ∙ sym (feed-number check32 n r w fits) ∙ ap (feed check32 r) octets

pub returns-in-empty : goal.returns-in-empty
returns-in-empty c = let a = c.args in
    sym (feed-done check32 a.start a.octets.now 0 (omega arith))

pub returns-in-len1 : goal.returns-in-len1
returns-in-len1 c = let a = c.args in
    let s = a.octets.now in
    c.octet_step.ensures ∙ sym (feed-more check32 a.start s 0 (omega arith) ∙ feed-done check32 _ s 1 (omega arith))

pub overflow_cast-result-in_default : goal.overflow_cast-result-in_default
overflow_cast-result-in_default c = let a = c.args in
    let s = a.octets.now in
    let w = c.short_word in
    let e = by-short-word a.start w.result c.word_step.result (length s) s (omega arith) w.ensures c.word_step.ensures in
    let fits = feed-below check32 sound32 a.start s (omega arith) in
    omega arith

pub returns-in_default : goal.returns-in_default
returns-in_default c = let a = c.args in
    let s = a.octets.now in
    let w = c.short_word in
    by-short-word a.start w.result c.word_step.result (length s) s (omega arith) w.ensures c.word_step.ensures
