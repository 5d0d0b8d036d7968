-- `description::rows::locator_row_at` meets its contract.
use Rattle.description.proofs.Numbers.{no_locator_row, locator_row_is}
use Rattle.description.proofs.rows.locator_row_at.Goals as goal

pub returns-then-list-k : goal.returns-then-list-k
returns-then-list-k c = no_locator_row _ _ c.if-list-k.true

pub returns : goal.returns
returns c = locator_row_is _ _ c.number-kind.ensures c.number-at.ensures
    c.number-len.ensures c.number-protocol.ensures c.number-port.ensures
