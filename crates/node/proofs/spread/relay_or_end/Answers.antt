-- `node::spread::relay_or_end` meets its contract.
use mathlib.Core.Path.{refl, sym, ap, ◌∙◌}
use mathlib.Core.Bool.{not}
use native.Mathlib.Omega.{arith}
use Rattle.node_state.specs.Record.{others}
use Rattle.node.specs.Call.{call_of}
use Rattle.node_state.proofs.TableRows.{row_gone, row_there}
use Rattle.node.proofs.Outcomes.{last_outcome, nowhere_outcome, norow_outcome, relay_outcome}
use Rattle.node.proofs.spread.relay_or_end.Goals as goal

pub returns-then-s-le1 : goal.returns-then-s-le1
returns-then-s-le1 c =
    λ names. let args = c.args in
    last_outcome args.node args.table.now (call_of args.node.clock args.interface names args.message.now args.out.now) args.s _
    c.quiet.ensures (omega (arith, c.if-s-le1.true))

pub returns-then-mask-eq0 : goal.returns-then-mask-eq0
unfolding others
returns-then-mask-eq0 c =
    λ names. let args = c.args in
    nowhere_outcome args.node args.table.now (call_of args.node.clock args.interface names args.message.now args.out.now) args.s
    c.if-s-le1.false _ c.quiet-then-mask-eq0.ensures (sym c.others-mask.ensures ∙ c.if-mask-eq0.true)

pub returns-then-is_none : goal.returns-then-is_none
unfolding others
returns-then-is_none c =
    λ names.
    let args = c.args in
    norow_outcome args.node args.table.now (call_of args.node.clock args.interface names args.message.now args.out.now) args.s
    c.if-s-le1.false (λ e. c.if-mask-eq0.false (c.others-mask.ensures ∙ e)) _ _ _ (refl, c.fill_lowest.ensures.table_after)
    c.requires.ready.sized _ c.quiet-then-is_none.ensures
    (row_gone _ c.fill_lowest.result c.fill_lowest.ensures.value (c.is_none.ensures ∙ ap not c.if-is_none.true))

pub returns : goal.returns
unfolding others
returns c =
    λ names.
    let args = c.args in
    relay_outcome args.node args.table.now (call_of args.node.clock args.interface names args.message.now args.out.now) args.s
    c.if-s-le1.false (λ e. c.if-mask-eq0.false (c.others-mask.ensures ∙ e)) _ _ _
    (refl, c.fill_lowest.ensures.table_after) c.requires.key _ _
    (rw (← c.others-mask.ensures, ← c.put_onward-length.ensures.value) c.relayed.ensures) c.put_onward-length.ensures.out_after
    (row_there _ c.fill_lowest.result c.fill_lowest.ensures.value (c.is_none.ensures ∙ ap not c.if-is_none.false))
