-- `link::sender::Sender::steps_1_to_6`.
use Rattle.link.specs.Sender.{low, high}
use Rattle.link.proofs.sender.Bounds.{on_line-is, free, low-on, high-on}
use Rattle.link.proofs.sender.Sender.steps_1_to_6.Goals as goal

pub step2_no_lane-requires : goal.step2_no_lane-requires
step2_no_lane-requires c = free c.args.self c.requires.0 c.requires.1 _ _ c.requires.2 c.requires.3 c.in-None.is

pub steps_3_to_6-requires : goal.steps_3_to_6-requires
steps_3_to_6-requires c = let i = c.in-Some-Low in
    low-on c.args.self c.requires.0 c.requires.1 _ c.requires.2 (on_line-is _ _ low i.is (rw i.is at i.field-0-is))

pub steps_3_to_6-requires-in-Some-High : goal.steps_3_to_6-requires-in-Some-High
steps_3_to_6-requires-in-Some-High c = let i = c.in-Some-High in
    high-on c.args.self c.requires.0 c.requires.1 _ c.requires.3 (on_line-is _ _ high i.is (rw i.is at i.field-0-is))
