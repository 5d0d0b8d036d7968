-- `forms::block::put_targets` meets its contract.
use Rattle.forms.specs.Block.{targets_block}
use Rattle.forms.proofs.block.put_targets.Goals as goal

pub returns-in-Locators : goal.returns-in-Locators
unfolding targets_block
returns-in-Locators c = rw c.in-Locators.is c.put_series.ensures

pub returns-in-Divert : goal.returns-in-Divert
unfolding targets_block
returns-in-Divert c = rw c.in-Divert.is c.put_series-in-Divert.ensures
