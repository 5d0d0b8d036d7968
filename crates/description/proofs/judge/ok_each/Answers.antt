-- `description::judge::ok_each` meets its contract. The loop's invariant: the rows from here on decide what all do.
use mathlib.Core.Path.{sym, ◌∙◌}
use Rattle.description.proofs.Judging.{all_step, all_stop, all_end, each_start, each_bad, row_within}
use Rattle.description.proofs.judge.ok_each.Goals as goal

pub returns-then-list-size-ne0 : goal.returns-then-list-size-ne0
returns-then-list-size-ne0 g c p e = each_bad _ p _ c.if-list-size-ne0.true

pub loop-i-init : goal.loop-i-init
loop-i-init g c p e = each_start _ p _ c.if-list-size-ne0.false

pub ok-requires : goal.ok-requires
ok-requires g c = c.requires.callable _ (row_within _ _ _ c.requires.size c.loop-i-test.true)

pub returns-then-not-ok : goal.returns-then-not-ok
returns-then-not-ok g c p e =
    sym (all_stop p _ _ c.loop-i-test.true (sym (e _ _ c.ok.ensures) ∙ c.if-not-ok.true)) ∙ c.loop-i.invariant p e

pub loop-i-preserved : goal.loop-i-preserved
loop-i-preserved g c p e =
    sym (all_step p _ _ (sym (e _ _ c.ok.ensures) ∙ c.if-not-ok.false)) ∙ c.loop-i.invariant p e

pub returns : goal.returns
returns g c p e = sym (all_end p _ _ c.loop-i-test.false) ∙ c.loop-i.invariant p e
