-- `cobs::claims`: the theorems.
use Rattle.cobs.proofs.Table.{the-table}
use Rattle.cobs.proofs.Blocks.{one-reading}
use Rattle.cobs.proofs.Frame.{whole-frames}
use Rattle.cobs.proofs.Shortest.{shortest, covers-most, one_list, zxe-never-longer, worked-lengths, another-with-zxe}
use Rattle.cobs.proofs.claims.Goals as goal

pub returns : goal.returns
returns c = record { whole_frames = (whole-frames, one-reading, the-table); shortest = (shortest, covers-most, one_list, zxe-never-longer, worked-lengths, another-with-zxe) }
