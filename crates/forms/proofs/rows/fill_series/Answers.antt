-- `forms::rows::fill_series` meets its contract. The loop's invariant: what is left of the rows is the whole.
use native.Mathlib.Omega.{arith}
use borrow.Author.Tests.{lt-ltb, le-ltb}
use Rattle.base.specs.Pick.{pick}
use Rattle.description.proofs.Judging.{row_within}
use Rattle.forms.specs.Rows.{series_end, series_filled}
use Rattle.forms.proofs.Turns.{begun, turn, filled}
use Rattle.forms.proofs.rows.fill_series.Goals as goal

pub returns-then-room-many-clause-value : goal.returns-then-room-many-clause-value
unfolding series_end pick
returns-then-room-many-clause-value g c = rw (lt-ltb _ _ c.if-room-many.true)

pub returns-then-room-many-clause-list_after : goal.returns-then-room-many-clause-list_after
unfolding series_filled pick
returns-then-room-many-clause-list_after g c next row h = rw (lt-ltb _ _ c.if-room-many.true)

pub loop-i-init : goal.loop-i-init
loop-i-init g c next row h = begun next row _ _ _

pub fill_row-at-requires : goal.fill_row-at-requires
fill_row-at-requires g c = c.requires.callable _ _ _ (rw c.loop-i.auto.list (row_within _ _ _ c.requires.size (omega arith)))

pub loop-i-preserved : goal.loop-i-preserved
loop-i-preserved g c next row h =
    turn next row _ _ _ _ _ _ _ _ (c.loop-i.invariant next row h) c.loop-i-test.true (h _ _ _ _ _ c.fill_row-at.ensures)

pub returns-clause-value : goal.returns-clause-value
unfolding series_end pick
returns-clause-value g c = rw (le-ltb _ _ c.if-room-many.false)

pub returns-clause-list_after : goal.returns-clause-list_after
unfolding series_filled pick
returns-clause-list_after g c next row h =
    rw (le-ltb _ _ c.if-room-many.false) (filled next row _ _ _ _ _ (c.loop-i.invariant next row h) c.loop-i-test.false)
