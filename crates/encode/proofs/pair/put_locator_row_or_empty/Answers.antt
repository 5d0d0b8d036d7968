-- `encode::pair::put_locator_row_or_empty` meets its contract.
use Rattle.rfc8990.specs.Encoding.{loc_or_empty}
use Rattle.description.specs.Meaning.{loc_or_none}
use Rattle.base.specs.Pick.{pick}
use borrow.Author.Tests.{eq-eqb, ne_eqb}
use Rattle.encode.proofs.pair.put_locator_row_or_empty.Goals as goal

pub returns-then-kind-eq0 : goal.returns-then-kind-eq0
unfolding loc_or_empty loc_or_none pick
returns-then-kind-eq0 c = rw (eq-eqb _ _ c.if-kind-eq0.true) c.head.ensures

pub returns : goal.returns
unfolding loc_or_empty loc_or_none pick
returns c = rw (ne_eqb _ _ c.if-kind-eq0.false) c.put_locator_row.ensures
