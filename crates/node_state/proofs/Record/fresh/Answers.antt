-- `node_state::Record::fresh` meets its contract.
use mathlib.Core.Path.{refl, sym, ◌∙◌}
use Rattle.base.specs.Pick.{pick}
use native.Mathlib.Omega.{arith}
use Rattle.node_state.specs.Record.{fresh}
use Rattle.node_state.proofs.Masks.{links_fit, fit_small}
use Rattle.node_state.proofs.Record.fresh.Goals as goal

pub returns-then-are_bad : goal.returns-then-are_bad
unfolding fresh pick
returns-then-are_bad c = rw (sym c.are_bad.ensures ∙ c.if-are_bad.true) refl

pub overflow_cast-result : goal.overflow_cast-result
overflow_cast-result c =
    omega (arith, (links_fit c.args.interfaces c.args.mask (sym c.are_bad.ensures ∙ c.if-are_bad.false)).most)

pub overflow_cast-result-2 : goal.overflow_cast-result-2
overflow_cast-result-2 c = omega (
  arith,
  fit_small c.args.interfaces c.args.mask
      (links_fit c.args.interfaces c.args.mask (sym c.are_bad.ensures ∙ c.if-are_bad.false)),
)

pub returns : goal.returns
unfolding fresh pick
returns c = rw (sym c.are_bad.ensures ∙ c.if-are_bad.false) refl
