-- `text::line::with_number` meets its contract.
use Rattle.base.specs.Pick.{pick}
use Rattle.text.specs.Line.{with_text, numbered, decimal}
use borrow.Author.Tests.{lt-ltb, le-ltb}
use native.Mathlib.Numerals.{add-one, add-two, add-three}
use Rattle.text.proofs.line.with_number.Goals as goal

pub returns-then-n-lt10 : goal.returns-then-n-lt10
unfolding with_text numbered decimal pick
returns-then-n-lt10 c = rw (lt-ltb _ _ c.if-n-lt10.true, add-one)

pub returns-then-n-lt100 : goal.returns-then-n-lt100
unfolding with_text numbered decimal pick
returns-then-n-lt100 c = rw (le-ltb _ _ c.if-n-lt10.false, lt-ltb _ _ c.if-n-lt100.true, add-one, add-two)

pub returns : goal.returns
unfolding with_text numbered decimal pick
returns c = rw (le-ltb _ _ c.if-n-lt10.false, le-ltb _ _ c.if-n-lt100.false, add-one, add-two, add-three)
