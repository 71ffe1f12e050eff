-- `fcs::check32::octet_step` meets its contract, by the table's rule.
use Rattle.fcs.specs.CheckSequence.{check32}
use Rattle.fcs.proofs.Table.{by-table}
use Rattle.fcs.proofs.check32.octet_step.Goals as goal

pub returns : goal.returns
returns c = by-table check32 c.table32-table.result c.table32-table.ensures c.args.r c.args.octet
