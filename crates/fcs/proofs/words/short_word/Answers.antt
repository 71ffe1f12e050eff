-- `fcs::words::short_word` meets its contract, by the fold that it is.
use mathlib.Core.Path.{◌≡◌}
use mathlib.Core.List.{reverse}
use native.Mathlib.Omega.{arith}
use Rattle.std.proofs.Common.{rules}
use Rattle.std.specs.List.{fold}
use Rattle.fcs.proofs.Octets.{shifted_in, short-word}
use Rattle.fcs.proofs.words.short_word.Goals as goal

pub returns : goal.returns
returns c = let s = c.args.octets.now in
    let folded : c.fold.result ≡ fold shifted_in 0 (reverse s) = search rules in
    rw folded (short-word s (omega arith) (λ i. omega (arith, c.type_inv.octets i)))
