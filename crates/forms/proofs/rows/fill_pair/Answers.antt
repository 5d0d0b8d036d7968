-- `forms::rows::fill_pair` meets its contract.
use native.Mathlib.Omega.{arith}
use Rattle.options.proofs.Fits.{pair_within}
use lib.ListN.{length-set}
use Rattle.forms.specs.Rows.{pair_cells, pair_next, pair_next_from, pair_stored, pair_stored_from}
use Rattle.forms.proofs.rows.fill_pair.Goals as goal

pub put_numbers-requires : goal.put_numbers-requires
put_numbers-requires c = simp length-set (omega arith)

pub overflow_add-result : goal.overflow_add-result
overflow_add-result c =
    omega (arith, c.well_formed, c.ranges, pair_within c.args.s.now _ c.args.at _ _ c.read_at.ensures c.in-Ok.is)

pub returns-in-Err : goal.returns-in-Err
unfolding pair_next pair_next_from pair_stored pair_stored_from pair_cells
returns-in-Err c = record { value = rw (← c.read_at.ensures, c.in-Err.is); list_after = rw (← c.read_at.ensures, c.in-Err.is) }

pub returns-in-Ok : goal.returns-in-Ok
unfolding pair_next pair_next_from pair_stored pair_stored_from pair_cells
returns-in-Ok c =
    record {
      value = rw (← c.read_at.ensures, c.in-Ok.is);
      list_after = rw (
        c.put_numbers.ensures,
        ← c.read_at.ensures,
        c.in-Ok.is,
        ← c.numbers_of-n.ensures,
      );
    }
