-- `forms::describe::exchange` meets its contract.
use Rattle.message.specs.Shape.{exchange_of}
use Rattle.forms.specs.Describe.{description_of}
use Rattle.base.specs.Pick.{pick}
use borrow.Author.Tests.{eq-eqb, ne_eqb}
use Rattle.forms.proofs.describe.exchange.Goals as goal

pub returns-then-kind-eq3 : goal.returns-then-kind-eq3
unfolding exchange_of description_of pick
returns-then-kind-eq3 c =
    rw (eq-eqb _ _ c.if-kind-eq3.true, ← c.given_of-objective.ensures)

pub returns-then-kind-eq4 : goal.returns-then-kind-eq4
unfolding exchange_of description_of pick
returns-then-kind-eq4 c =
    rw (ne_eqb _ _ c.if-kind-eq3.false, eq-eqb _ _ c.if-kind-eq4.true, ← c.given_of-objective.ensures)

pub returns-then-kind-eq5 : goal.returns-then-kind-eq5
unfolding exchange_of description_of pick
returns-then-kind-eq5 c =
    rw (
      ne_eqb _ _ c.if-kind-eq3.false,
      ne_eqb _ _ c.if-kind-eq4.false,
      eq-eqb _ _ c.if-kind-eq5.true,
      ← c.given_of-objective.ensures,
    )

pub returns : goal.returns
unfolding exchange_of description_of pick
returns c =
    rw (ne_eqb _ _ c.if-kind-eq3.false, ne_eqb _ _ c.if-kind-eq4.false, ne_eqb _ _ c.if-kind-eq5.false, ← c.given_of-objective.ensures)
