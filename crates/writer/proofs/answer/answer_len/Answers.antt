-- `writer::answer::answer_len` meets its contract.
use native.Mathlib.Omega.{arith}
use Rattle.writer.proofs.Lengths.{head_few, string_few, answer_length}
use Rattle.writer.proofs.answer.answer_len.Goals as goal

pub overflow_add-result : goal.overflow_add-result
overflow_add-result c = omega (
  arith,
  head_few _ _ c.head_len-a.ensures,
  head_few _ _ c.head_len-c.ensures,
  head_few _ _ c.head_len-e.ensures,
  string_few _ _ c.string_len-d.ensures,
  string_few _ _ c.string_len-b.ensures,
)

pub overflow_add-result-2 : goal.overflow_add-result-2
overflow_add-result-2 c = omega (
  arith,
  head_few _ _ c.head_len-a.ensures,
  head_few _ _ c.head_len-c.ensures,
  head_few _ _ c.head_len-e.ensures,
  string_few _ _ c.string_len-d.ensures,
  string_few _ _ c.string_len-b.ensures,
)

pub overflow_add-result-3 : goal.overflow_add-result-3
overflow_add-result-3 c = omega (
  arith,
  head_few _ _ c.head_len-a.ensures,
  head_few _ _ c.head_len-c.ensures,
  head_few _ _ c.head_len-e.ensures,
  string_few _ _ c.string_len-d.ensures,
  string_few _ _ c.string_len-b.ensures,
)

pub overflow_add-result-4 : goal.overflow_add-result-4
overflow_add-result-4 c = omega (
  arith,
  head_few _ _ c.head_len-a.ensures,
  head_few _ _ c.head_len-c.ensures,
  head_few _ _ c.head_len-e.ensures,
  string_few _ _ c.string_len-d.ensures,
  string_few _ _ c.string_len-b.ensures,
)

pub overflow_add-result-5 : goal.overflow_add-result-5
overflow_add-result-5 c = omega (
  arith,
  head_few _ _ c.head_len-a.ensures,
  head_few _ _ c.head_len-c.ensures,
  head_few _ _ c.head_len-e.ensures,
  string_few _ _ c.string_len-d.ensures,
  string_few _ _ c.string_len-b.ensures,
)

pub returns : goal.returns
returns c =
    answer_length _ _ _ _ _ _ _ _ _ _ c.head_len-a.ensures c.string_len-b.ensures
    c.head_len-c.ensures c.string_len-d.ensures c.head_len-e.ensures
