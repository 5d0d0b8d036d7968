-- `encode::locator::put_locator_row` meets its contract.
use Rattle.rfc8990.specs.Encoding.{encode_loc}
use Rattle.description.specs.Meaning.{locator_row_loc}
use Rattle.base.specs.Pick.{pick}
use borrow.Author.Tests.{eq-eqb, ne_eqb}
use Rattle.encode.proofs.Puts.{then}
use Rattle.encode.proofs.locator.put_locator_row.Goals as goal

pub returns-then-kind-eq103 : goal.returns-then-kind-eq103
unfolding encode_loc locator_row_loc pick
returns-then-kind-eq103 c = rw (eq-eqb _ _ c.if-kind-eq103.true) c.put_fixed.ensures

pub returns-then-kind-eq104 : goal.returns-then-kind-eq104
unfolding encode_loc locator_row_loc pick
returns-then-kind-eq104 c = rw (ne_eqb _ _ c.if-kind-eq103.false, eq-eqb _ _ c.if-kind-eq104.true)
    c.put_fixed-then-kind-eq104.ensures

pub returns-then-kind-eq105 : goal.returns-then-kind-eq105
unfolding encode_loc locator_row_loc pick
returns-then-kind-eq105 c = rw (
  ne_eqb _ _ c.if-kind-eq103.false,
  ne_eqb _ _ c.if-kind-eq104.false,
  eq-eqb _ _ c.if-kind-eq105.true,
) c.put_fixed-then-kind-eq105.ensures

pub returns : goal.returns
unfolding encode_loc locator_row_loc pick
returns c =
    rw (
      ne_eqb _ _ c.if-kind-eq103.false,
      ne_eqb _ _ c.if-kind-eq104.false,
      ne_eqb _ _ c.if-kind-eq105.false,
    ) (then (then c.put_reached-a.ensures c.put_or_null-b.ensures)
    c.put_or_null.ensures)
