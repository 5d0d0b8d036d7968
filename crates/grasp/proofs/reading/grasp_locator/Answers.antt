-- `grasp::reading::grasp_locator` meets its contract.
use native.Mathlib.Omega.{arith}
use Rattle.options.proofs.Fits.{locator_within}
use Rattle.grasp.specs.Reading.{locator_end, locator_end_from, locator_after, locator_from}
use Rattle.grasp.proofs.reading.grasp_locator.Goals as goal

pub overflow_add-result : goal.overflow_add-result
overflow_add-result c =
    omega (
      arith,
      c.well_formed,
      c.ranges,
      locator_within c.args.bytes.now _ c.args.at _ _ c.read_at.ensures c.in-Ok.is,
    )

pub returns-in-Err : goal.returns-in-Err
unfolding locator_end locator_end_from locator_after locator_from
returns-in-Err c = record {
  value = rw (← c.read_at.ensures, c.in-Err.is);
  fields_after = rw (← c.read_at.ensures, c.in-Err.is);
}

pub returns-in-Ok : goal.returns-in-Ok
unfolding locator_end locator_end_from locator_after locator_from
returns-in-Ok c = record {
  value = rw (← c.read_at.ensures, c.in-Ok.is);
  fields_after = rw (← c.read_at.ensures, c.in-Ok.is) c.numbers_of.ensures;
}
