-- `node_state::table::is_keyed` meets its contract.
use mathlib.Core.Path.{refl, sym}
use borrow.Author.Tests.{lt-leb, le-leb, lt-ltb, le-ltb, eq-eqb, ne_eqb}
use Rattle.base.specs.Pick.{pick}
use Rattle.node_state.specs.Table.{cell, row_keyed, initiator_fits}
use Rattle.node_state.proofs.TableRows.{cell_first}
use Rattle.node_state.proofs.table.is_keyed.Goals as goal

pub returns-then-tag-lt1 : goal.returns-then-tag-lt1
unfolding row_keyed initiator_fits cell pick
returns-then-tag-lt1 c = rw (cell_first _ _, sym c.tag_of-tag.ensures, lt-leb 1 _ c.if-tag-lt1.true) refl

pub returns-then-tag-gt4 : goal.returns-then-tag-gt4
unfolding row_keyed initiator_fits cell pick
returns-then-tag-gt4 c = rw (cell_first _ _, sym c.tag_of-tag.ensures, le-leb 1 _ c.if-tag-lt1.false, lt-leb _ 4 c.if-tag-gt4.true) refl

pub returns-then-tag-eq0 : goal.returns-then-tag-eq0
unfolding row_keyed initiator_fits cell pick
returns-then-tag-eq0 c = rw (
  cell_first _ _,
  sym c.tag_of-tag.ensures,
  le-leb 1 _ c.if-tag-lt1.false,
  le-leb _ 4 c.if-tag-gt4.false,
  eq-eqb _ 0 c.if-tag-eq0.true,
) refl

pub returns-then-table-at-ge4294967296 : goal.returns-then-table-at-ge4294967296
unfolding row_keyed initiator_fits cell pick
returns-then-table-at-ge4294967296 c = rw (
  cell_first _ _,
  sym c.tag_of-tag.ensures,
  le-leb 1 _ c.if-tag-lt1.false,
  le-leb _ 4 c.if-tag-gt4.false,
  ne_eqb _ 0 c.if-tag-eq0.false,
  le-ltb _ 4294967296 c.if-table-at-ge4294967296.true,
) refl

pub returns : goal.returns
unfolding row_keyed initiator_fits cell pick
returns c = rw (
  cell_first _ _,
  sym c.tag_of-tag.ensures,
  le-leb 1 _ c.if-tag-lt1.false,
  le-leb _ 4 c.if-tag-gt4.false,
  ne_eqb _ 0 c.if-tag-eq0.false,
  lt-ltb _ 4294967296 c.if-table-at-ge4294967296.false,
) refl
