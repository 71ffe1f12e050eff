-- `fcs::claims`: the theorems.
use Rattle.fcs.specs.CheckSequence.{Check, Sound, FramesEndGood}
use Rattle.fcs.proofs.Laws.{octet-step, sound16, sound32, good-end, good-frame, good-only, marked-fcs}
use Rattle.fcs.proofs.Bursts.{bursts-change, bursts-one-longer}
use Rattle.fcs.proofs.claims.Goals as goal

frames-end-good : (k : Check) → Sound k → FramesEndGood k
frames-end-good k sound = record { ends = good-end k sound; passes = good-frame k sound; only = good-only k sound }

pub returns : goal.returns
returns c = record { octet_is_eight_bits = (octet-step, λ k sound. (frames-end-good k sound, bursts-change k sound)); sound = (sound16, sound32, marked-fcs, bursts-one-longer) }
