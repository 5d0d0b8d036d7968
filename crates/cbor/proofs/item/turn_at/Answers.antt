-- `cbor::item::turn_at` meets its contract.
use mathlib.Core.Path.{ap, ◌∙◌, subst}
use Rattle.base.proofs.Parts.{rest_is}
use Rattle.cbor.specs.Item.{StepRead, step_at}
use Rattle.cbor.specs.Turn.{TurnIs}
use Rattle.cbor.proofs.Turn.{turn_common}
use Rattle.cbor.proofs.item.turn_at.Goals as goal

pub returns-in-Some : goal.returns-in-Some
returns-in-Some c = turn_common c.args.left _ c.in-Some.turn c.in-Some.ensures

pub returns-in-None : goal.returns-in-None
returns-in-None c =
    let args = c.args in
    subst (λ (step : StepRead). TurnIs step c.turn_of.result) (c.step_at.ensures ∙ ap (step_at args.left) (rest_is args.at args.s.now))
    c.turn_of.ensures
