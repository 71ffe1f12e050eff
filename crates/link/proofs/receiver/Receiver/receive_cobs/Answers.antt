-- `link::receiver::Receiver::receive_cobs`.
use Rattle.std.proofs.Common.{arith}
use Rattle.std.proofs.lemmas.Grind.{common_steps}
use Rattle.link.proofs.receiver.Receiver.receive_cobs.Goals as goal

-- D1 would be within a frame
pub steps_1_to_4-state-requires-clause-framed_value : goal.steps_1_to_4-state-requires-clause-framed_value
steps_1_to_4-state-requires-clause-framed_value c = grind (arith, common_steps)

pub steps_1_to_4-state-requires-else-self-3-clause-framed_value : goal.steps_1_to_4-state-requires-else-self-3-clause-framed_value
steps_1_to_4-state-requires-else-self-3-clause-framed_value c = grind (arith, common_steps)
