-- `encode::objective::put_objective_row` meets its contract.
use Rattle.options.specs.Text.{held}
use Rattle.rfc8990.specs.Encoding.{encode_obj}
use Rattle.description.specs.Meaning.{obj_of}
use Rattle.encode.proofs.Puts.{then}
use native.Mathlib.Omega.{arith}
use Rattle.description.proofs.Items.{more_le}
use Rattle.encode.proofs.objective.put_objective_row.Goals as goal

pub overflow_add-more : goal.overflow_add-more
overflow_add-more c = omega (
  arith,
  c.one_more-more.ensures,
  more_le (held c.args.source.now c.args.o.value),
)

pub returns : goal.returns
unfolding encode_obj obj_of
returns c =
    rw (← c.one_more-more.ensures) (then (then (then
    (then c.head-a.ensures c.part_string-b.ensures)
    c.head-c.ensures) c.head-d.ensures) c.part.ensures)
