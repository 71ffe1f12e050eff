-- Lemmas by which the check proves calls, each set named at its call in src/lib.rt.
use lib.ListN.{length-set}
use Rattle.plain.proofs.Area.{stored}
use Rattle.plain.proofs.Bit.{one_bit, marked-one}
use Rattle.plain.proofs.Laws.{too_short}
use Rattle.plain.proofs.Stuffed.{stuffed-done, one-longer, two-longer, one-stored, two-stored, no-room, parts-fit, stores}

pub ruleset marking = (one_bit, marked-one)

pub ruleset stuffing = (stuffed-done, one-longer, two-longer, one-stored, two-stored, stored, length-set)

pub ruleset room = (no-room)

pub ruleset sending = (parts-fit, too_short, stores)
