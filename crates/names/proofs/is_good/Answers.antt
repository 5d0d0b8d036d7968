-- `names::is_good` meets its contract.
use mathlib.Core.Path.{refl}
use native.Mathlib.Omega.{arith}
use borrow.Author.Tests.{eq-eqb, ne_eqb, lt-leb, le-leb}
use Rattle.names.specs.Names.{good_name}
use Rattle.names.proofs.is_good.Goals as goal

pub returns-then-t-ne3 : goal.returns-then-t-ne3
unfolding good_name
returns-then-t-ne3 c = rw (ne_eqb _ 3 c.if-t-ne3.true) refl

pub returns-then-t-gt-MOST_NAME : goal.returns-then-t-gt-MOST_NAME
unfolding good_name
returns-then-t-gt-MOST_NAME c =
    rw (eq-eqb _ 3 c.if-t-ne3.false, lt-leb c.args.t.arg 64 (omega (arith, c.if-t-gt-MOST_NAME.true))) refl

pub returns : goal.returns
unfolding good_name
returns c = rw (eq-eqb _ 3 c.if-t-ne3.false, le-leb _ 64 c.if-t-gt-MOST_NAME.false) c.is_utf8.ensures
