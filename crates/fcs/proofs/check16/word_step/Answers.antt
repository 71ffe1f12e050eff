-- `fcs::check16::word_step` meets its contract: its shifts are 64 bit steps (Words16.antt).
use native.Mathlib.Omega.{arith}
use Rattle.fcs.specs.Notation.{◌⊕◌}
use Rattle.fcs.proofs.Linear.{gather}
use Rattle.fcs.proofs.Words16.{word, word-steps}
use Rattle.fcs.proofs.check16.word_step.Goals as goal

pub returns : goal.returns
unfolding word gather ◌⊕◌
returns c = word-steps c.args.t (omega arith)
