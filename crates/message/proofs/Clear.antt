-- A refusal where a place is noted: what holds of both cases.
-- Assumes nothing.
use mathlib.Core.Path.{◌≡◌, refl}
use Prim.Native.Nat.{ℕ}
use Rattle.std.specs.Prelude.{Some, None, Result}
use Rattle.refusal.specs.declared.Refusal.{Refusal}
use Rattle.refusal.specs.declared.Refused.{Refused}
use Rattle.refusal.specs.Refusal.{refused}
use Rattle.options.specs.Text.{Noted}
use Rattle.message.specs.declared.Examined.{Examined}
use Rattle.message.specs.Examined.{clear}

-- what holds of both
pub clear_case : (P : Result Examined Refused → Type 0) (noted : Noted) {refusal : Refusal} {rest : Result Examined Refused}
    → P rest → ((place : ℕ) → P (refused refusal place)) → P (clear noted refusal rest)
unfolding clear
clear_case P None h g = h
clear_case P (Some place) h g = g place

-- each where it is
pub clear_told : (P : Result Examined Refused → Type 0) (noted : Noted) {refusal : Refusal} {rest : Result Examined Refused}
    → (noted ≡ None → P rest) → ((place : ℕ) → (noted ≡ None → ⊥) → P (refused refusal place)) → P (clear noted refusal rest)
unfolding clear
clear_told P None h g = h refl
clear_told P (Some place) h g = g place (λ z. cc)
