-- `fcs::words::word_at` meets its contract, an octet in front of the other from the last one on.
use mathlib.Core.Path.{◌≡◌, refl, ap, ◌∙◌}
use Prim.Native.Nat.{ℕ, ◌+◌, ◌*◌, ◌<◌}
use native.Mathlib.Omega.{arith}
use lib.ListN.{get_or}
use Rattle.fcs.specs.CheckSequence.{low_first}
use Rattle.fcs.proofs.Octets.{in-front}
use Rattle.fcs.proofs.words.word_at.Goals as goal

pub returns : goal.returns
unfolding low_first
returns c = let a = c.args in
    let s = a.octets.now in
    let i = a.i in
    let o : ℕ → ℕ = λ j. get_or s (i + j) 0 in
    let octet : (j : ℕ) → get_or s j 0 < 256 = λ j. omega (arith, c.type_inv.octets j) in
    let last : get_or s (i + 7) 0 ≡ get_or s (i + 7) 0 + 0 * 256 = omega arith in
    let word : c.from_le_bytes.result
    ≡ get_or s i 0 + (o 1 + (o 2 + (o 3 + (o 4 + (o 5 + (o 6 + o 7 * 256) * 256) * 256) * 256) * 256) * 256) * 256 = omega arith in
    rw word
    (in-front s i (i + 1) 7 _ (omega arith) refl (octet i)
    (in-front s (i + 1) (i + 2) 6 _ (omega arith) (omega arith) (octet (i + 1))
    (in-front s (i + 2) (i + 3) 5 _ (omega arith) (omega arith) (octet (i + 2))
    (in-front s (i + 3) (i + 4) 4 _ (omega arith) (omega arith) (octet (i + 3))
    (in-front s (i + 4) (i + 5) 3 _ (omega arith) (omega arith) (octet (i + 4))
    (in-front s (i + 5) (i + 6) 2 _ (omega arith) (omega arith) (octet (i + 5))
    (in-front s (i + 6) (i + 7) 1 _ (omega arith) (omega arith) (octet (i + 6))
    (ap (low_first 1) last ∙ in-front s (i + 7) (i + 8) 0 0 (omega arith) (omega arith) (octet (i + 7)) refl))))))))
