-- `encode::message` meets its contract.
use native.Mathlib.Omega.{arith}
use Rattle.base.proofs.Clauses.{value_out}
use Rattle.encode.proofs.Puts.{front_in, front_over}
use Rattle.encode.proofs.message.Goals as goal

pub returns-then-out-end : goal.returns-then-out-end
returns-then-out-end c = value_out (front_over c.put_message-end.ensures c.if-out-end.true (c.fill.ensures.after (λ y e. e)))

pub returns : goal.returns
returns c = value_out (front_in c.put_message-end.ensures (omega (arith, c.put_message-end.ensures.same)))
