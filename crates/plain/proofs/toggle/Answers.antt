-- `plain::toggle`.
use mathlib.Core.Path.{refl}
use Rattle.fcs.specs.Notation.{◌⊕◌}
use Rattle.plain.specs.Stuffing.{toggled}
use Rattle.plain.proofs.toggle.Goals as goal

pub returns : goal.returns
unfolding toggled ◌⊕◌
returns c = refl
