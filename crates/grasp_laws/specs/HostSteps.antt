-- A list of calls of `grasp_step` on one negotiation state, each given the four numbers as the one before it left them
-- (rules 13.9); and numbers that are no state and no side (rules 11.9).
use Rattle.std.specs.Prelude.{Ok, Err}
use Rattle.reader.specs.Read.{Reading}
use Rattle.std.specs.Prelude.{ℕ, ◌^◌, ◌≤◌, ◌<◌, List, [], ◌∷◌, eqb, get_or}
use Rattle.base.specs.Pick.{pick}
use Rattle.refusal.specs.declared.Refusal.{Refusal}
use Rattle.refusal.specs.declared.Refusal.TheVariants.{NotAllowed}
use Rattle.grasp.specs.Negotiating.{step_number, state_after}

-- a message's bytes, and any number for the side that sent it
pub record HostSent : Type 0 where
  pub side : ℕ
  pub bytes : List ℕ

-- the messages that are accepted, in their order: those whose call answered 0
unfoldable pub host_accepted : List ℕ → List HostSent → List (List ℕ)
host_accepted f [] = []
host_accepted f (m ∷ ms) =
    let rest = host_accepted (state_after f m.bytes m.side) ms in
    pick (eqb (step_number f m.bytes m.side) 0) (m.bytes ∷ rest) rest

-- a phase, a session, a count or a turn that isn't one of ours, or a side that isn't
pub data NotOurs (f : List ℕ) (side : ℕ) : Type 0 where
  phase : 2 < get_or f 0 0 → NotOurs f side
  session : 2 ^ 32 ≤ get_or f 1 0 → NotOurs f side
  count : 255 < get_or f 2 0 → NotOurs f side
  turn : 1 < get_or f 3 0 → NotOurs f side
  side : 1 < side → NotOurs f side

-- 20 after 1 to 11: the message's own refusal, else 20
unfoldable pub no_step : Reading → Refusal
no_step (Err refusal) = refusal
no_step (Ok m) = NotAllowed
