-- `node_state::table::life_of` meets its contract.
use mathlib.Core.Path.{refl, sym}
use borrow.Author.Tests.{lt-ltb, le-ltb}
use Rattle.base.specs.Pick.{pick}
use Rattle.node_state.specs.Table.{row_life}
use Rattle.node_state.proofs.table.life_of.Goals as goal

pub returns-then-tag_of-lt3 : goal.returns-then-tag_of-lt3
unfolding row_life pick
returns-then-tag_of-lt3 c = rw (sym c.tag_of.ensures, lt-ltb _ 3 c.if-tag_of-lt3.true) refl

pub returns : goal.returns
unfolding row_life pick
returns c = rw (sym c.tag_of.ensures, le-ltb _ 3 c.if-tag_of-lt3.false) refl
