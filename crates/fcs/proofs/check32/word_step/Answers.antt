-- `fcs::check32::word_step` meets its contract: its shifts are 64 bit steps (Words32.antt).
use native.Mathlib.Omega.{arith}
use Rattle.fcs.specs.Notation.{◌⊕◌}
use Rattle.fcs.proofs.Linear.{gather}
use Rattle.fcs.proofs.Words32.{word, word-steps, word_fits}
use Rattle.fcs.proofs.check32.word_step.Goals as goal

pub overflow_cast-result : goal.overflow_cast-result
unfolding word gather ◌⊕◌
overflow_cast-result c = record { fits = word_fits c.args.t (omega arith) }

pub returns : goal.returns
unfolding word gather ◌⊕◌
returns c = word-steps c.args.t (omega arith)
