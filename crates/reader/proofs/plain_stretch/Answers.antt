-- `reader::plain_stretch`. In a plain frame the octets counted are the ones copied.
use native.Mathlib.Omega.{arith}
use lib.ListN.{length-take}
use Rattle.reader.specs.Stretches.{is_special}
use Rattle.reader.proofs.Quiet.{fits, plain-frame, plain_second, plain-first}
use Rattle.reader.proofs.plain_stretch.Goals as goal

pub overflow_cast-state : goal.overflow_cast-state
overflow_cast-state c =
    let k = fits _ c.args.octets.now (is_special c.args.state.now.map) c.min.result _ c.requires.receiver_ready c.before_special-used.ensures (omega arith) in omega arith

pub overflow_add-state : goal.overflow_add-state
overflow_add-state c =
    let k = fits _ c.args.octets.now (is_special c.args.state.now.map) c.min.result _ c.requires.receiver_ready c.before_special-used.ensures (omega arith) in omega arith

pub slice_bounds-data-end : goal.slice_bounds-data-end
slice_bounds-data-end c =
    let k = fits _ c.args.octets.now (is_special c.args.state.now.map) c.min.result _ c.requires.receiver_ready c.before_special-used.ensures (omega arith) in omega (arith, length-take c.before_special-used.result c.args.octets.now)

pub copy-requires : goal.copy-requires
copy-requires c = (fits _ c.args.octets.now (is_special c.args.state.now.map) c.min.result _ c.requires.receiver_ready c.before_special-used.ensures (omega arith)).second

pub copy-requires-else-state : goal.copy-requires-else-state
copy-requires-else-state c = (fits _ c.args.octets.now (is_special c.args.state.now.map) c.min.result _ c.requires.receiver_ready c.before_special-used.ensures (omega arith)).first

pub returns-then-state : goal.returns-then-state
returns-then-state c =
    let k = fits _ c.args.octets.now (is_special c.args.state.now.map) c.min.result _ c.requires.receiver_ready c.before_special-used.ensures (omega arith) in
    let f = plain-frame c.args.state.now _ c.reads_plain.ensures c.if-reads_plain-state.false in
    record {
      octets_value = plain_second _ _ c.min.result _ _ c.requires.receiver_ready c.requires.refusal_value f (omega arith) c.before_special-used.ensures c.if-state.true c.copy.ensures;
      used_in_bounds = omega arith;
    }

pub returns-else-state : goal.returns-else-state
returns-else-state c =
    let k = fits _ c.args.octets.now (is_special c.args.state.now.map) c.min.result _ c.requires.receiver_ready c.before_special-used.ensures (omega arith) in
    let f = plain-frame c.args.state.now _ c.reads_plain.ensures c.if-reads_plain-state.false in
    record {
      octets_value = plain-first _ _ c.min.result _ _ c.requires.receiver_ready c.requires.refusal_value f (omega arith) c.before_special-used.ensures c.if-state.false c.copy-else-state.ensures;
      used_in_bounds = omega arith;
    }
