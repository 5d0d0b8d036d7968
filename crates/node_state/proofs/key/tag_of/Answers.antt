-- `node_state::key::tag_of` meets its contract.
use mathlib.Core.Path.{refl}
use borrow.Author.Tests.{eq-eqb, ne_eqb}
use Rattle.base.specs.Pick.{pick}
use Rattle.node_state.specs.Key.{tag_of}
use Rattle.node_state.proofs.key.tag_of.Goals as goal

pub returns-then-len-eq4 : goal.returns-then-len-eq4
unfolding tag_of pick
returns-then-len-eq4 c = rw (c.if-flood.true, eq-eqb _ 4 c.if-len-eq4.true) refl

pub returns-then-flood : goal.returns-then-flood
unfolding tag_of pick
returns-then-flood c = rw (c.if-flood.true, ne_eqb _ 4 c.if-len-eq4.false) refl

pub returns-then-len-eq4-2 : goal.returns-then-len-eq4-2
unfolding tag_of pick
returns-then-len-eq4-2 c = rw (c.if-flood.false, eq-eqb _ 4 c.if-len-eq4-2.true) refl

pub returns : goal.returns
unfolding tag_of pick
returns c = rw (c.if-flood.false, ne_eqb _ 4 c.if-len-eq4-2.false) refl
