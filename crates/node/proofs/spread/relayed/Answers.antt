-- `node::spread::relayed` meets its contract.
use mathlib.Core.Path.{refl}
use native.Mathlib.Omega.{arith}
use lib.Count.{ones-le}
use Rattle.node_state.specs.Record.{tallied}
use Rattle.node.proofs.spread.relayed.Goals as goal

pub overflow_cast-next : goal.overflow_cast-next
overflow_cast-next c = omega (arith, ones-le 8 c.args.mask c.ranges.mask.fits)

pub overflow_add-next : goal.overflow_add-next
overflow_add-next c = omega (arith, ones-le 8 c.args.mask c.ranges.mask.fits, c.requires)

pub returns : goal.returns
unfolding tallied
returns c = refl
