-- A negotiation step on numbers that are no state, or by a number that is no side (rules 11.9). For readers: the
-- statement at the end stands alone.
-- Assumes nothing.
use Prim.Native.Nat.{ℕ, ◌≤◌}
use mathlib.Core.Path.{◌≡◌, refl}
use mathlib.Core.List.{List}
use native.Mathlib.Omega.{arith}
use lib.Dec.{ltb}
use lib.ListN.{get_or}
use borrow.Author.Tests.{ltb-false, eqb-true}
use Rattle.base.proofs.Picks.{pick-case}
use Rattle.message.specs.Opening.{most_number}
use Rattle.reader.specs.Read.{read_of}
use Rattle.negotiation.specs.declared.Side.TheVariants.{Us}
use Rattle.negotiation.specs.declared.State.{State}
use Rattle.negotiation.specs.declared.State.TheVariants.{Closed}
use Rattle.std.specs.Prelude.{Err}
use Rattle.refusal.specs.Refusal.{number_of}
use Rattle.negotiation.specs.Step.{Stepped}
use Rattle.host.specs.States.{side_of, state_of}
use Rattle.grasp.specs.Negotiating.{numbers_from, step_by, step_number, state_after}
use Rattle.grasp_laws.specs.HostSteps.{NotOurs, no_step}
use Rattle.grasp_laws.proofs.Stepping.{closed_step}

-- numbers within their bounds are a state and a side
ours : {f : List ℕ} {side : ℕ} → get_or f 0 0 ≤ 2 → get_or f 1 0 ≤ most_number → get_or f 2 0 ≤ 255 → get_or f 3 0 ≤ 1 → side ≤ 1 → NotOurs f side → ⊥
ours p s c t l (NotOurs.phase h) = omega arith
ours p s c t l (NotOurs.session h) = omega arith
ours p s c t l (NotOurs.count h) = omega arith
ours p s c t l (NotOurs.turn h) = omega arith
ours p s c t l (NotOurs.side h) = omega arith

-- where the side is one, the numbers say a closed state
closed : (f : List ℕ) (side : ℕ) → NotOurs f side → side ≤ 1 → state_of f ≡ Closed
unfolding state_of
closed f side h l =
    pick-case Shut _ (λ _. refl)
    (λ s. pick-case Shut _ (λ _. refl)
    (λ c. pick-case Shut _ (λ _. refl)
    (λ t.
    let none : get_or f 0 0 ≤ 2 → ⊥ =
    λ p. ours p (ltb-false most_number (get_or f 1 0) s) (ltb-false 255 (get_or f 2 0) c) (ltb-false 1 (get_or f 3 0) t) l h in
    pick-case Shut _ (λ e. absurd (none (omega (arith, eqb-true (get_or f 0 0) 0 e))))
    (λ _. pick-case Shut _ (λ e. absurd (none (omega (arith, eqb-true (get_or f 0 0) 1 e)))) (λ _. refl)))))
  where
    Shut : State → Type 0
    Shut s = s ≡ Closed

-- the step is a closed state's
closed_by : (f message : List ℕ) (side : ℕ) → NotOurs f side → step_by (state_of f) message side ≡ Err (no_step (read_of message))
unfolding step_by
closed_by f message side h =
    pick-case (λ (x : Stepped). x ≡ Err (no_step (read_of message))) (ltb 1 side) (λ _. closed_step message Us)
    (λ e. rw (closed f side h (ltb-false 1 side e)) (closed_step message (side_of side)))

-- for readers

-- It is refused, by the message's own number or else by 20, and the numbers stay.
pub not_ours : (f message : List ℕ) (side : ℕ) → NotOurs f side
    → (step_number f message side ≡ number_of (no_step (read_of message))) × (state_after f message side ≡ f)
unfolding step_number state_after numbers_from
not_ours f message side h = rw (closed_by f message side h) (refl, refl)
