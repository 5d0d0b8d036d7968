-- `names::is_bad_array` meets its contract. The loop's invariant: the names from here on are good exactly if all are.
use mathlib.Core.Bool.{true}
use mathlib.Core.Path.{◌≡◌, refl, sym, ◌∙◌}
use Prim.Native.Nat.{◌-◌}
use native.Mathlib.Nat.{sub-zero}
use native.Mathlib.Omega.{arith}
use borrow.Author.Tests.{eq-eqb, ne_eqb, lt-ltb, le-ltb}
use Rattle.names.specs.Names.{array_bad, good_names}
use Rattle.names.proofs.Walks.{good_stop, good_next}
use Rattle.names.proofs.is_bad_array.Goals as goal

pub returns-then-a-ne4 : goal.returns-then-a-ne4
unfolding array_bad
returns-then-a-ne4 c = rw (sym c.token_at-a.ensures.is, ne_eqb _ 4 c.if-a-ne4.true) refl

pub returns-then-a-gt-MOST_NAMES : goal.returns-then-a-gt-MOST_NAMES
unfolding array_bad
returns-then-a-gt-MOST_NAMES c = rw (sym c.token_at-a.ensures.is, eq-eqb _ 4 c.if-a-ne4.false, lt-ltb 16 _ c.if-a-gt-MOST_NAMES.true) refl

pub loop-init : goal.loop-init
loop-init c = rw sub-zero

pub returns-then-not-is_good : goal.returns-then-not-is_good
unfolding array_bad
returns-then-not-is_good c =
    rw (
      sym c.token_at-a.ensures.is,
      eq-eqb _ 4 c.if-a-ne4.false,
      le-ltb 16 _ c.if-a-gt-MOST_NAMES.false,
      sym c.loop.invariant ∙ good_stop c.args.s.now c.loop.at
          _ c.loop.counter _ c.token_at-t.ensures.is c.loop-test.true
          (sym c.is_good.ensures ∙ c.if-not-is_good.true),
    ) refl

pub loop-preserved : goal.loop-preserved
loop-preserved c =
    sym (good_next c.args.s.now c.loop.at _ c.loop.counter _
    c.token_at-t.ensures.is (sym c.is_good.ensures ∙ c.if-not-is_good.false)) ∙ c.loop.invariant

pub returns : goal.returns
unfolding array_bad good_names
returns c =
    let done : c.token_at-a.result.arg - c.loop.counter ≡ 0 = omega arith in
    let all : good_names c.args.s.now (c.token_at-a.result.arg - c.loop.counter) c.loop.at ≡ true =
    rw done refl in
    rw (
      sym c.token_at-a.ensures.is,
      eq-eqb _ 4 c.if-a-ne4.false,
      le-ltb 16 _ c.if-a-gt-MOST_NAMES.false,
      sym c.loop.invariant ∙ all,
    ) refl
