-- `options::locators::read_in` meets its contract.
use native.Mathlib.Omega.{arith}
use Rattle.options.proofs.Fits.{locator_fits}
use Rattle.options.proofs.locators.read_in.Goals as goal

pub overflow_add-from : goal.overflow_add-from
overflow_add-from c =
    omega (arith, c.requires, c.well_formed, locator_fits c.args.s.now _ c.args.from _ _ c.read_in.ensures c.in_ok-l.was)

pub read_more-requires : goal.read_more-requires
read_more-requires c =
    let size = locator_fits c.args.s.now _ c.args.from _ _ c.read_in.ensures c.in_ok-l.was in
    record { fits = c.requires.fits; within = omega (arith, c.requires, size) }
