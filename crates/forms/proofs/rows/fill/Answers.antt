-- `forms::rows::fill` meets its contract.
use Rattle.forms.specs.Rows.{rows_end, end_by, rows_filled, filled_by}
use Rattle.forms.proofs.rows.fill.Goals as goal

pub returns-in-Nothing : goal.returns-in-Nothing
unfolding rows_end end_by rows_filled filled_by
returns-in-Nothing c = record { value = rw (← c.rows_in-rows.ensures, c.in-Nothing.is); list_after = rw (← c.rows_in-rows.ensures, c.in-Nothing.is) }

pub returns-in-Locators : goal.returns-in-Locators
unfolding rows_end end_by rows_filled filled_by
returns-in-Locators c =
    record {
      value = rw (← c.rows_in-rows.ensures, c.in-Locators.is) c.fill_locators.ensures.value;
      list_after = rw (← c.rows_in-rows.ensures, c.in-Locators.is) c.fill_locators.ensures.list_after;
    }

pub returns-in-Pairs : goal.returns-in-Pairs
unfolding rows_end end_by rows_filled filled_by
returns-in-Pairs c =
    record {
      value = rw (← c.rows_in-rows.ensures, c.in-Pairs.is) c.fill_pairs.ensures.value;
      list_after = rw (← c.rows_in-rows.ensures, c.in-Pairs.is) c.fill_pairs.ensures.list_after;
    }
