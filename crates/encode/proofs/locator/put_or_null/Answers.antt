-- `encode::locator::put_or_null` meets its contract.
use Rattle.rfc8990.specs.Message.{or_null}
use Rattle.rfc8990.specs.Encoding.{number_or_null}
use Rattle.base.specs.Pick.{pick}
use borrow.Author.Tests.{eq-eqb, ne_eqb}
use Rattle.encode.proofs.locator.put_or_null.Goals as goal

pub returns-then-n-null : goal.returns-then-n-null
unfolding number_or_null or_null pick
returns-then-n-null c = rw (eq-eqb _ _ c.if-n-null.true) c.byte.ensures

pub returns : goal.returns
unfolding number_or_null or_null pick
returns c = rw (ne_eqb _ _ c.if-n-null.false) c.head.ensures
