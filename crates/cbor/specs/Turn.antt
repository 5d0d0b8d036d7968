-- What the private functions of the walk's turn answer, held against `step_at` of `Item`.
use Rattle.std.specs.Prelude.{ℕ, ◌^◌, ◌≤◌, List, Bool, Result, Option, Ok, Err, Some, None, ◌≡◌, ◌⊎◌}
use Rattle.refusal.specs.declared.Refused.{Refused}
use Rattle.cbor.specs.declared.item.Step.TheVariants as Step
use Rattle.cbor.specs.declared.item.Turn.{Turn}
use Rattle.cbor.specs.Item.{StepRead, step_at, items_of}

-- m is how many items they are, or both are at least 2^63, which is more than any slice has bytes
unfoldable pub Counts : ℕ → Bool → ℕ → Type 0
Counts n pairs m = (m ≡ items_of n pairs) ⊎ ((2 ^ 63 ≤ m) × (2 ^ 63 ≤ items_of n pairs))

-- a step with its items counted
abbrev pub TurnIs : StepRead → Result Turn Refused → Type 0
TurnIs step (Ok (Turn.Passed len)) = step ≡ Ok (Step.Passed len)
TurnIs step (Ok (Turn.Opened len m)) =
    (n : ℕ) × (pairs : Bool) × (step ≡ Ok (Step.Opened len n pairs)) × Counts n pairs m
TurnIs step (Err why) = step ≡ Err why

-- what is said of a common head is what `step_at` gives
abbrev pub CommonIs : ℕ → List ℕ → Option Turn → Type 0
CommonIs left s (Some (Turn.Passed len)) = step_at left s ≡ Ok (Step.Passed len)
CommonIs left s (Some (Turn.Opened len n)) =
    (m : ℕ) × (pairs : Bool) × (step_at left s ≡ Ok (Step.Opened len m pairs)) × (n ≡ items_of m pairs)
CommonIs left s None = Unit {0}
