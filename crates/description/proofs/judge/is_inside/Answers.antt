-- `description::judge::is_inside` meets its contract.
use Rattle.description.specs.Judge.{inside}
use Rattle.description.proofs.judge.is_inside.Goals as goal

pub returns : goal.returns
unfolding inside
returns c = rw c.covered.ensures
