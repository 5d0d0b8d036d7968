-- `names::is_named` meets its contract. The loop's invariant: the name is one of those from here on exactly if it is
-- one of all.
use mathlib.Core.Bool.{false}
use mathlib.Core.Path.{◌≡◌, refl, sym, ◌∙◌}
use Prim.Native.Nat.{◌-◌}
use native.Mathlib.Nat.{sub-zero}
use native.Mathlib.Omega.{arith}
use borrow.Author.Tests.{lt-ltb, le-ltb}
use Rattle.base.specs.Pick.{pick}
use Rattle.names.specs.Names.{is_named, named_from}
use Rattle.names.proofs.Walks.{named_here, named_next}
use Rattle.names.proofs.is_named.Goals as goal

pub returns-then-a-gt-MOST_NAMES : goal.returns-then-a-gt-MOST_NAMES
unfolding is_named pick
returns-then-a-gt-MOST_NAMES c = rw (sym c.token_at-a.ensures.is, lt-ltb 16 _ c.if-a-gt-MOST_NAMES.true) refl

pub loop-init : goal.loop-init
loop-init c = rw sub-zero

pub returns-then-are_same : goal.returns-then-are_same
unfolding is_named pick
returns-then-are_same c =
    rw (
      sym c.token_at-a.ensures.is,
      le-ltb 16 _ c.if-a-gt-MOST_NAMES.false,
      sym c.loop.invariant ∙ named_here c.args.s.now c.loop.at
          _ c.loop.counter _ c.token_at-t.ensures.is c.loop-test.true
          c.args.name.now (sym c.are_same.ensures ∙ c.if-are_same.true),
    ) refl

pub loop-preserved : goal.loop-preserved
loop-preserved c =
    sym (named_next c.args.s.now c.loop.at _ c.loop.counter _
    c.token_at-t.ensures.is c.args.name.now
    (sym c.are_same.ensures ∙ c.if-are_same.false)) ∙ c.loop.invariant

pub returns : goal.returns
unfolding is_named named_from pick
returns c =
    let done : c.token_at-a.result.arg - c.loop.counter ≡ 0 = omega arith in
    let none : named_from c.args.s.now c.args.name.now (c.token_at-a.result.arg - c.loop.counter) c.loop.at ≡ false = rw done refl in
    rw (sym c.token_at-a.ensures.is, le-ltb 16 _ c.if-a-gt-MOST_NAMES.false, sym c.loop.invariant ∙ none) refl
