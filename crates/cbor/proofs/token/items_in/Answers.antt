-- `cbor::token::items_in` meets its contract.
use Rattle.base.proofs.Tests.{tests}
use Rattle.base.specs.Pick.{pick}
use Rattle.cbor.specs.Token.{items_in}
use Rattle.cbor.proofs.token.items_in.Goals as goal

pub returns-then-t-eq4 : goal.returns-then-t-eq4
unfolding items_in pick
returns-then-t-eq4 c = search tests

pub returns : goal.returns
unfolding items_in pick
returns c = search tests
