-- `forms::describe::is_divert` meets its contract.
use Rattle.forms.specs.Describe.{is_divert}
use Rattle.forms.proofs.describe.is_divert.Goals as goal

pub returns-in-Locators : goal.returns-in-Locators
unfolding is_divert
returns-in-Locators c =
    rw c.in-Locators.is

pub returns-in-Divert : goal.returns-in-Divert
unfolding is_divert
returns-in-Divert c =
    rw c.in-Divert.is
