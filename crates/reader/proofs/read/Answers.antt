-- `reader::read` meets its contract: a message is what was read of its parts, and a refusal by the parts comes after
-- the walk's.
use mathlib.Core.Path.{sym}
use mathlib.Core.Logic.{inl, inr}
use Rattle.reader.proofs.Refused.{size_given}
use Rattle.reader.proofs.Answers.{read_whole, read_over, read_refused}
use Rattle.reader.proofs.read.Goals as goal

pub returns-then-s-eq0 : goal.returns-then-s-eq0
returns-then-s-eq0 c = sym (size_given _ (inl c.if-s-eq0.true))

pub returns-then-s-gt-MOST_BYTES : goal.returns-then-s-gt-MOST_BYTES
returns-then-s-gt-MOST_BYTES c = sym (size_given _ (inr c.if-s-gt-MOST_BYTES.true))

pub returns-then-m-s : goal.returns-then-m-s
returns-then-m-s c =
    read_whole _ _ c.if-s-gt-MOST_BYTES.false c.examine.ensures _ _
    c.in-Ok.is c.if-m-s.true

pub returns-else-m-s : goal.returns-else-m-s
returns-else-m-s c =
    read_over _ _ c.if-s-gt-MOST_BYTES.false c.examine.ensures _ _
    c.in-Ok.is c.if-m-s.false

pub returns-in-Err : goal.returns-in-Err
returns-in-Err c =
    read_refused _ _ _ _
    (record { some = c.if-s-eq0.false; most = c.if-s-gt-MOST_BYTES.false })
    c.examine.ensures c.in-Err.is c.walk.ensures
