-- `fcs::check16::table16` meets its contract: the table follows the rule at every place, by one test that antt computes.
use Rattle.fcs.specs.Notation.{◌⊕◌}
use Rattle.fcs.specs.CheckSequence.{check16, bit_step, bit_steps, entry}
use Rattle.fcs.proofs.Same.{same}
use Rattle.fcs.proofs.Table.{tested}
use Rattle.fcs.proofs.check16.table16.Goals as goal

pub returns : goal.returns
unfolding ◌⊕◌ bit_step bit_steps entry same
returns c = tested check16 _ tt
