-- What `grasp_step` answers and leaves.
use Rattle.std.specs.Prelude.{ℕ, List, ltb, Ok, Err}
use Rattle.base.specs.Pick.{pick}
use Rattle.refusal.specs.Refusal.{answer_number}
use Rattle.negotiation.specs.declared.Side.TheVariants.{Us}
use Rattle.negotiation.specs.declared.State.{State}
use Rattle.negotiation.specs.declared.State.TheVariants.{Closed}
use Rattle.negotiation.specs.Step.{Stepped, step}
use Rattle.host.specs.States.{side_of, state_of, state_numbers}

-- a refusal leaves the numbers as they were
unfoldable pub numbers_from : Stepped → List ℕ → List ℕ
numbers_from (Err refusal) f = f
numbers_from (Ok state) f = state_numbers state

-- a step by the side of this number; a number that is no side is refused as by a closed state, by 20 where not by 1 to
-- 11
unfoldable pub step_by : State → List ℕ → ℕ → Stepped
step_by state message side = pick (ltb 1 side) (step Closed message Us) (step state message (side_of side))

-- what `grasp_step` answers: 0 for a step that is taken, or the number of the refusal
unfoldable pub step_number : List ℕ → List ℕ → ℕ → ℕ
step_number f message side = answer_number (step_by (state_of f) message side)

-- the state's numbers that it leaves
unfoldable pub state_after : List ℕ → List ℕ → ℕ → List ℕ
state_after f message side = numbers_from (step_by (state_of f) message side) f
