-- `description::rows::objective_row_at` meets its contract.
use Rattle.description.proofs.Numbers.{no_entry, objective_row_is}
use Rattle.description.proofs.rows.objective_row_at.Goals as goal

pub returns-then-list-k : goal.returns-then-list-k
returns-then-list-k c = no_entry _ _ c.if-list-k.true

pub returns : goal.returns
returns c = objective_row_is _ _ c.number-at.ensures c.number-len.ensures
    c.number-flags.ensures c.number-count.ensures c.number-value_at.ensures c.number-value_len.ensures
