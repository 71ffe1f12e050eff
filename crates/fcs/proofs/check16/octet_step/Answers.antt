-- `fcs::check16::octet_step` meets its contract, by the table's rule.
use Rattle.fcs.specs.CheckSequence.{check16}
use Rattle.fcs.proofs.Table.{by-table}
use Rattle.fcs.proofs.check16.octet_step.Goals as goal

pub returns : goal.returns
returns c = by-table check16 c.table16-table.result c.table16-table.ensures c.args.r c.args.octet
