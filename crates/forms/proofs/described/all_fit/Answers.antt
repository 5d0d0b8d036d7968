-- `forms::described::all_fit` meets its contract.
use Rattle.std.proofs.Common.{refl, ◌∙◌, rules, tests}
use Rattle.std.proofs.lemmas.Iterator.{YieldsList-from_range}
use Rattle.std.proofs.lemmas.Iterator.Search.{all_from_yields_List}
use Rattle.description.proofs.Judging.{all_listed}
use Rattle.forms.specs.Described.{field_fits, all_fit}
use Rattle.forms.proofs.described.all_fit.Goals as goal

pub returns : goal.returns
unfolding all_fit
returns c =
    let fits = field_fits c.args.fields.now c.args.mask in
    all_from_yields_List fits _ _ _ c.all.ensures.ran (YieldsList-from_range 0 19 19 refl refl) (λ x b q k. search (rules, tests))
    ∙ all_listed fits 19 0
