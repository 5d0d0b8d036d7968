-- `node_state::links::are_bad` meets its contract.
use mathlib.Core.Path.{refl}
use borrow.Author.Tests.{lt-ltb, le-ltb, eq-eqb, ne_eqb}
use Rattle.node_state.specs.Record.{links_bad}
use Rattle.node_state.proofs.Masks.{one_bit}
use native.Mathlib.Omega.{arith}
use Rattle.node_state.proofs.links.are_bad.Goals as goal

pub returns-then-interfaces-eq0 : goal.returns-then-interfaces-eq0
unfolding links_bad
returns-then-interfaces-eq0 c = rw (eq-eqb _ 0 c.if-interfaces-eq0.true) refl

pub returns-then-interfaces-gt-MOST_INTERFACES : goal.returns-then-interfaces-gt-MOST_INTERFACES
unfolding links_bad
returns-then-interfaces-gt-MOST_INTERFACES c = rw (ne_eqb _ 0 c.if-interfaces-eq0.false, lt-ltb 8 _ c.if-interfaces-gt-MOST_INTERFACES.true) refl

pub returns : goal.returns
unfolding links_bad
returns c =
    let few = c.if-interfaces-gt-MOST_INTERFACES.false in
    rw (ne_eqb _ 0 c.if-interfaces-eq0.false, le-ltb 8 _ few, one_bit 64 c.args.interfaces (omega (arith, few))) refl
