-- `node_state::Record::is_bad` meets its contract.
use mathlib.Core.Path.{refl, sym, ◌∙◌}
use Rattle.node_state.specs.Record.{record_bad}
use Rattle.node_state.proofs.Record.is_bad.Goals as goal

pub returns-then-are_bad : goal.returns-then-are_bad
unfolding record_bad
returns-then-are_bad c = rw (sym c.are_bad.ensures ∙ c.if-are_bad.true) refl

pub returns : goal.returns
unfolding record_bad
returns c = rw (sym c.are_bad.ensures ∙ c.if-are_bad.false) refl
