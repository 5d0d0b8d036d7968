-- `options::pair::read_tag` meets its contract.
use native.Mathlib.Omega.{arith}
use Rattle.options.proofs.Fits.{locator_fits}
use Rattle.options.proofs.pair.read_tag.Goals as goal

pub overflow_add-result : goal.overflow_add-result
overflow_add-result c =
    omega (arith, c.requires, c.well_formed, locator_fits c.args.s.now _ c.args.at _ _ c.read_in.ensures c.in_ok-l.was)
