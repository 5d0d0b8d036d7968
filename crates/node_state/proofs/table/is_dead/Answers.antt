-- `node_state::table::is_dead` meets its contract.
use mathlib.Core.Path.{refl, sym}
use Rattle.node_state.specs.Table.{cell, row_dead}
use Rattle.node_state.proofs.TableRows.{cell_first, later_lives}
use Rattle.node_state.proofs.table.is_dead.Goals as goal

pub returns-then-clock-admitted : goal.returns-then-clock-admitted
unfolding row_dead cell
returns-then-clock-admitted c = later_lives _ _ _ c.if-clock-admitted.true

pub returns : goal.returns
unfolding row_dead cell
returns c = rw (cell_first _ _, sym c.life_of.ensures) refl
