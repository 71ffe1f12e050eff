-- `link::sender::Sender::next_octet`.
use mathlib.Core.Path.{sym, ◌∙◌}
use Rattle.link.specs.Sender.{low, high}
use Rattle.link.proofs.sender.Bounds.{on_line-is, low-ready, low-sends, high-ready, high-sends}
use Rattle.link.proofs.sender.Sender.next_octet.Goals as goal

pub step5_data-sent-requires : goal.step5_data-sent-requires
step5_data-sent-requires c = let i = c.in-Some-Low in
    low-ready (record { state = c.args.self.now; low = c.args.low.now; high = c.args.high.now }) (sym c.valid.ensures ∙ c.if-not-valid.false) (rw c.largest_frame-most.ensures at c.if-low-most.false)
    (c.low_sends_on.ensures c.if-low_sends_on.true) (on_line-is _ _ low i.is (rw i.is at i.field-0-is))

pub step5_data-sent-requires-in-Some-High : goal.step5_data-sent-requires-in-Some-High
step5_data-sent-requires-in-Some-High c = let i = c.in-Some-High in
    high-ready (record { state = c.args.self.now; low = c.args.low.now; high = c.args.high.now }) (sym c.valid.ensures ∙ c.if-not-valid.false) (rw c.largest_frame-most.ensures at c.if-low-most.false)
    (c.high_sends_on.ensures c.if-high_sends_on.true) (on_line-is _ _ high i.is (rw i.is at i.field-0-is))

pub returns-in-Some-Low : goal.returns-in-Some-Low
returns-in-Some-Low c = let i = c.in-Some-Low in
    c.step5_data-sent.ensures ∙ sym (low-sends (record { state = c.args.self.now; low = c.args.low.now; high = c.args.high.now }) (sym c.valid.ensures ∙ c.if-not-valid.false) (rw c.largest_frame-most.ensures at c.if-low-most.false)
    (c.low_sends_on.ensures c.if-low_sends_on.true) (on_line-is _ _ low i.is (rw i.is at i.field-0-is)))

pub returns-in-Some-High : goal.returns-in-Some-High
returns-in-Some-High c = let i = c.in-Some-High in
    c.step5_data-sent-in-Some-High.ensures ∙ sym (high-sends (record { state = c.args.self.now; low = c.args.low.now; high = c.args.high.now }) (sym c.valid.ensures ∙ c.if-not-valid.false) (rw c.largest_frame-most.ensures at c.if-low-most.false)
    (c.high_sends_on.ensures c.if-high_sends_on.true) (on_line-is _ _ high i.is (rw i.is at i.field-0-is)))
