-- `description::counts::one_more` meets its contract.
use Rattle.description.proofs.Items.{more_none, more_one}
use Rattle.description.proofs.counts.one_more.Goals as goal

pub returns-then-covered-eq0 : goal.returns-then-covered-eq0
returns-then-covered-eq0 c = more_none _ _ c.covered.ensures c.if-covered-eq0.true

pub returns : goal.returns
returns c = more_one _ _ c.covered.ensures c.if-covered-eq0.false
