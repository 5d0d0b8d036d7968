-- `description::judge::ok_rows` meets its contract.
use borrow.Author.Rules.{rules}
use Rattle.description.specs.Judge.{ok_rows}
use Rattle.description.proofs.judge.ok_rows.Goals as goal

pub returns : goal.returns
unfolding ok_rows
returns c = c.ok_each.ensures _ (λ i r h. search rules)
