-- `forms::rows::fill_locator` meets its contract.
use native.Mathlib.Omega.{arith}
use Rattle.options.proofs.Fits.{locator_within}
use Rattle.forms.specs.Rows.{locator_next, locator_next_from, locator_stored, locator_stored_from}
use Rattle.forms.proofs.rows.fill_locator.Goals as goal

pub overflow_add-result : goal.overflow_add-result
overflow_add-result c =
    omega (arith, c.well_formed, c.ranges, locator_within c.args.s.now _ c.args.at _ _ c.read_at.ensures c.in-Ok.is)

pub returns-in-Err : goal.returns-in-Err
unfolding locator_next locator_next_from locator_stored locator_stored_from
returns-in-Err c = record { value = rw (← c.read_at.ensures, c.in-Err.is); list_after = rw (← c.read_at.ensures, c.in-Err.is) }

pub returns-in-Ok : goal.returns-in-Ok
unfolding locator_next locator_next_from locator_stored locator_stored_from
returns-in-Ok c =
    record {
      value = rw (← c.read_at.ensures, c.in-Ok.is);
      list_after = rw (
        c.put_numbers.ensures,
        ← c.read_at.ensures,
        c.in-Ok.is,
        ← c.numbers_of-n.ensures,
      );
    }
