-- `reader::stretch`. In a refused frame the octets before the flag are skipped; in a block those counted are the ones copied.
use native.Mathlib.Omega.{arith}
use lib.ListN.{length-take}
use Rattle.link.proofs.ReadOn.{deep}
use Rattle.reader.specs.Stretches.{is_flag}
use Rattle.reader.proofs.Quiet.{within, fits, skips-on, in-second, in-first}
use Rattle.reader.proofs.stretch.Goals as goal

pub returns-then-state-ne0 : goal.returns-then-state-ne0
returns-then-state-ne0 c = let l = c.args.octets.now in
    record { octets_value = rw c.before_flag.ensures (skips-on _ c.requires c.if-state-ne0.true l); used_in_bounds = omega (arith, c.before_flag.ensures, within is_flag l) }

pub overflow_sub-room : goal.overflow_sub-room
overflow_sub-room c = omega (arith, deep _ c.requires)

pub overflow_cast-state-2 : goal.overflow_cast-state-2
overflow_cast-state-2 c = let k = fits _ c.args.octets.now is_flag c.min-most.result _ c.requires c.before_flag-used.ensures (omega arith) in omega arith

pub overflow_add-state : goal.overflow_add-state
overflow_add-state c = let k = fits _ c.args.octets.now is_flag c.min-most.result _ c.requires c.before_flag-used.ensures (omega arith) in omega arith

pub overflow_cast-state-3 : goal.overflow_cast-state-3
overflow_cast-state-3 c = let k = fits _ c.args.octets.now is_flag c.min-most.result _ c.requires c.before_flag-used.ensures (omega arith) in omega arith

pub overflow_sub-state-2 : goal.overflow_sub-state-2
overflow_sub-state-2 c = let k = fits _ c.args.octets.now is_flag c.min-most.result _ c.requires c.before_flag-used.ensures (omega arith) in omega arith

pub slice_bounds-data-end : goal.slice_bounds-data-end
slice_bounds-data-end c = let k = fits _ c.args.octets.now is_flag c.min-most.result _ c.requires c.before_flag-used.ensures (omega arith) in omega (arith, length-take c.before_flag-used.result c.args.octets.now)

pub copy_data-requires : goal.copy_data-requires
copy_data-requires c = (fits _ c.args.octets.now is_flag c.min-most.result _ c.requires c.before_flag-used.ensures (omega arith)).second

pub copy_data-requires-else-state : goal.copy_data-requires-else-state
copy_data-requires-else-state c = (fits _ c.args.octets.now is_flag c.min-most.result _ c.requires c.before_flag-used.ensures (omega arith)).first

pub returns-then-state : goal.returns-then-state
returns-then-state c = let k = fits _ c.args.octets.now is_flag c.min-most.result _ c.requires c.before_flag-used.ensures (omega arith) in
    record {
      octets_value = in-second _ _ c.min-most.result _ _ c.requires c.if-state-ne0.false (omega arith) (omega arith) c.before_flag-used.ensures c.if-state.true c.copy_data.ensures;
      used_in_bounds = omega arith;
    }

pub returns-else-state : goal.returns-else-state
returns-else-state c = let k = fits _ c.args.octets.now is_flag c.min-most.result _ c.requires c.before_flag-used.ensures (omega arith) in
    record {
      octets_value = in-first _ _ c.min-most.result _ _ c.requires c.if-state-ne0.false (omega arith) (omega arith) c.before_flag-used.ensures c.if-state.false c.copy_data-else-state.ensures;
      used_in_bounds = omega arith;
    }
