-- `description::judge::ok_pairs` meets its contract.
use borrow.Author.Rules.{rules}
use Rattle.description.specs.Judge.{ok_pairs}
use Rattle.description.proofs.judge.ok_pairs.Goals as goal

pub returns : goal.returns
unfolding ok_pairs
returns c = c.ok_each.ensures _ (λ i r h. search rules)
