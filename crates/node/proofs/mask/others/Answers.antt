-- `node::mask::others` meets its contract.
use mathlib.Core.Path.{refl}
use native.Mathlib.Omega.{arith}
use Rattle.node_state.proofs.Masks.{one_bit, up_below, up_le}
use Rattle.node.proofs.mask.others.Goals as goal

pub overflow_shl-result : goal.overflow_shl-result
overflow_shl-result c = up_below 8 c.args.mask c.args.i (omega (arith, c.well_formed)) c.requires

pub overflow_sub-result : goal.overflow_sub-result
overflow_sub-result c =
    rw (one_bit 8 c.args.i (up_below 8 c.args.mask c.args.i (omega (arith, c.well_formed)) c.requires)) (up_le c.args.mask c.args.i c.requires)

pub returns : goal.returns
returns c = rw (one_bit 8 c.args.i (up_below 8 c.args.mask c.args.i (omega (arith, c.well_formed)) c.requires)) refl
