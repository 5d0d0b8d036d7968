-- What C keeps and sees of a list of steps: the four numbers say the state that the node's list leaves, and the same
-- messages are accepted. A step by no side is refused, and leaves the numbers.
-- Assumes nothing.
use Rattle.reader.specs.Read.{Reading}
use Prim.Native.Nat.{ℕ}
use mathlib.Core.Path.{◌≡◌, refl, ap, ◌∙◌}
use mathlib.Core.Bool.{Bool, true, false}
use mathlib.Core.List.{List, [], ◌∷◌}
use native.Mathlib.Omega.{arith}
use lib.Dec.{eqb, ltb}
use borrow.Author.Tests.{ne_eqb}
use Rattle.base.specs.Pick.{pick}
use Rattle.base.specs.BigEndian.{Bytes}
use Rattle.base.specs.Lists.{Every}
use Rattle.std.specs.Prelude.{Ok, Err}
use Rattle.refusal.specs.declared.Refusal.{Refusal}
use Rattle.refusal.specs.Refusal.{number_of, answer_number}
use Rattle.refusal.proofs.Refusals.{some_number}
use Rattle.reader.specs.Read.{read_of}
use Rattle.negotiation.specs.declared.Side.{Side}
use Rattle.negotiation.specs.declared.Side.TheVariants.{Us}
use Rattle.negotiation.specs.declared.State.{State}
use Rattle.negotiation.specs.declared.State.TheVariants.{Closed}
use Rattle.negotiation.specs.Step.{Stepped, state_step, reading_step, step}
use Rattle.negotiation.specs.Turns.{Sent, after, steps_of, is_moved, accepted_of}
use Rattle.host.specs.States.{side_of, state_of, state_numbers}
use Rattle.host.proofs.Fits.{state_fits}
use Rattle.host.proofs.HandedBack.{state_back, step_fits}
use Rattle.grasp.specs.Negotiating.{numbers_from, step_by, step_number, state_after}
use Rattle.grasp_laws.specs.HostSteps.{HostSent, host_accepted, no_step}

-- a refusal has another number than 0
refused_some : (refusal : Refusal) → number_of refusal ≡ 0 → ⊥
refused_some refusal z = let some = some_number refusal in omega arith

-- ---- one step

-- a closed state refuses every message
pub closed_step : (message : List ℕ) (sender : Side) → step Closed message sender ≡ Err (no_step (read_of message))
unfolding step reading_step state_step no_step
closed_step message sender = by (read_of message)
  where
    by : (r : Reading) → reading_step Closed r sender ≡ Err (no_step r)
    by (Err refusal) = refl
    by (Ok m) = refl

-- what C's step adds to the accepted messages
adds : List ℕ → List ℕ → List HostSent → Stepped → List (List ℕ)
adds f bytes ms x = pick (eqb (answer_number x) 0) (bytes ∷ host_accepted (numbers_from x f) ms) (host_accepted (numbers_from x f) ms)

-- the node's list: steps by a side
abbrev sent_of : HostSent → Sent
sent_of m = record { sender = side_of m.side; bytes = m.bytes }

pub by_sides : List HostSent → List Sent
by_sides [] = []
by_sides (m ∷ ms) = pick (ltb 1 m.side) (by_sides ms) (sent_of m ∷ by_sides ms)

-- C sees of a list what is accepted in the node's
abbrev Same : List ℕ → List HostSent → Type 0
Same f ms = host_accepted f ms ≡ accepted_of (steps_of (state_of f) (by_sides ms))

module _ (f : List ℕ) (m : HostSent) (ms : List HostSent) (bytes : Bytes m.bytes) (rest : (g : List ℕ) → Same g ms) where
  by_none : adds f m.bytes ms (step Closed m.bytes Us) ≡ accepted_of (steps_of (state_of f) (by_sides ms))
  unfolding adds numbers_from pick
  by_none =
      let e = closed_step m.bytes Us in
      rw (e, ne_eqb (number_of (no_step (read_of m.bytes))) 0 (refused_some (no_step (read_of m.bytes)))) (rest f)

  by_side : (x : Stepped) → step (state_of f) m.bytes (side_of m.side) ≡ x
      → adds f m.bytes ms x ≡ accepted_of (record { bytes = m.bytes; answer = x } ∷ steps_of (after (state_of f) x) (by_sides ms))
  unfolding adds numbers_from accepted_of is_moved after pick
  by_side (Err refusal) e = rw (ne_eqb (number_of refusal) 0 (refused_some refusal)) (rest f)
  by_side (Ok next) e =
      let back = state_back next (step_fits (state_of f) m.bytes (side_of m.side) next (state_fits f) e) in
      ap (λ (l : List (List ℕ)). m.bytes ∷ l)
      (rest (state_numbers next) ∙ ap (λ (s : State). accepted_of (steps_of s (by_sides ms))) back)

  one_step : (b : Bool)
      → adds f m.bytes ms (pick b (step Closed m.bytes Us) (step (state_of f) m.bytes (side_of m.side)))
      ≡ accepted_of (steps_of (state_of f) (pick b (by_sides ms) (sent_of m ∷ by_sides ms)))
  unfolding steps_of pick
  one_step true = by_none
  one_step false = by_side (step (state_of f) m.bytes (side_of m.side)) refl

pub accepted_alike : (ms : List HostSent) → Every (λ m. Bytes m.bytes) ms → (f : List ℕ) → Same f ms
unfolding host_accepted step_number state_after step_by by_sides steps_of accepted_of adds
accepted_alike [] h f = refl
accepted_alike (m ∷ ms) h f = one_step f m ms h.0 (accepted_alike ms h.1) (ltb 1 m.side)
