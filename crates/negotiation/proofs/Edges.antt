-- One session from its Request to its End, computed, with what is refused on the way; and a state handed in with a
-- count of 0.
-- Assumes nothing.
use mathlib.Core.Path.{◌≡◌, refl}
use mathlib.Core.List.{List, [], ◌∷◌}
use Prim.Native.Nat.{ℕ}
use Rattle.base.specs.Pick.{pick}
use Rattle.base.specs.BigEndian.{big_endian}
use Rattle.cbor.specs.Head.{width_of, least_of, initial_of, arg_of, judged, head_from, head_by, head_of, head_at}
use Rattle.cbor.specs.Item.{opens, step_of, step_from, step_at, items_of, next, run, enough, first_item}
use Rattle.cbor.specs.Token.{nothing_at, token_of, token_from, token_at, items_in, up_to}
use Rattle.utf8.specs.Utf8.{tails_of, least_tail, greatest_tail, goes_on, is_utf8}
use Rattle.options.specs.Text.{bad_text}
use Rattle.options.specs.Objective.{long_name, objective_from, objective_in, objective_named}
use Rattle.options.specs.Outcome.{reason_in, outcome_in}
use Rattle.message.specs.Shape.{exchange_of, exchanged, exchange_at, wait_at, ended, end_at}
use Rattle.message.specs.Examined.{by_kind, clear, judged_shape, examined}
use Rattle.reader.specs.Read.{framed, read_placed, placeless, read_of}
use Rattle.negotiation.specs.declared.Side.TheVariants.{Us, Them}
use Rattle.negotiation.specs.declared.State.TheVariants.{Fresh, Open, Closed}
use Rattle.std.specs.Prelude.{Ok, Err}
use Rattle.refusal.specs.declared.Refusal.TheVariants as R
use Rattle.negotiation.specs.declared.Side.{Side}
use Rattle.negotiation.specs.Step.{Stepped, not_allowed, move_of, fresh_step, lower_step, turn_step, state_step, reading_step, step}
use Rattle.negotiation.specs.Turns.{Sent, StepTaken, after, steps_of, is_moved, accepted_of, is_kind, negotiated}

-- session 7: kind 3 or 5 with the objective "EX1", flags 1 and a count; an End with accept; a Wait of 1,000 ms
abbrev pub exchange : ℕ → ℕ → List ℕ
exchange kind count = 0x83 ∷ kind ∷ 0x07 ∷ 0x83 ∷ 0x63 ∷ 0x45 ∷ 0x58 ∷ 0x31 ∷ 0x01 ∷ count ∷ []

abbrev pub ending : List ℕ
ending = 0x83 ∷ 0x06 ∷ 0x07 ∷ 0x81 ∷ 0x18 ∷ 0x65 ∷ []

abbrev pub waiting : List ℕ
waiting = 0x83 ∷ 0x07 ∷ 0x07 ∷ 0x19 ∷ 0x03 ∷ 0xe8 ∷ []

abbrev pub from : Side → List ℕ → Sent
from sender bytes = record { sender = sender; bytes = bytes }

-- we ask with 3; they answer with 2 and we with 1; then only Wait and End are left
abbrev pub messages : List Sent
messages =
    from Us (exchange 3 0) ∷ from Us ending ∷ from Us (exchange 3 3) ∷ from Us (exchange 5 2) ∷ from Them (exchange 5 3) ∷ from Them (exchange 5 2)
    ∷ from Them (exchange 5 1) ∷ from Us (exchange 3 3) ∷ from Us (exchange 5 1) ∷ from Them waiting ∷ from Them (exchange 5 0) ∷ from Us ending
    ∷ from Them ending
    ∷ from Us (exchange 3 3) ∷ from Us [] ∷ []

abbrev pub answers_of : List StepTaken → List Stepped
answers_of [] = []
answers_of (x ∷ xs) = x.answer ∷ answers_of xs

-- for readers

-- What each message is answered: the Request opened the state at 3, and two Negotiates are accepted.
pub session :
    (answers_of (steps_of Fresh messages)
    ≡ not_allowed ∷ not_allowed ∷ Ok (Open 7 3 Them) ∷ not_allowed ∷ not_allowed ∷ Ok (Open 7 2 Us)
    ∷ not_allowed ∷ not_allowed ∷ Ok (Open 7 1 Them) ∷ Ok (Open 7 1 Them) ∷ not_allowed ∷ not_allowed ∷ Ok Closed
    ∷ not_allowed ∷ Err R.BadSize ∷ [])
    × (negotiated (accepted_of (steps_of Fresh messages)) ≡ 2)
    × (step (Open 7 0 Us) ending Us ≡ not_allowed)
unfolding pick big_endian width_of least_of initial_of arg_of judged head_from head_by head_of head_at opens step_of step_from step_at items_of next run enough
    first_item
    nothing_at token_of token_from token_at items_in up_to tails_of least_tail greatest_tail goes_on is_utf8 bad_text long_name objective_from objective_in
    objective_named
    exchange_of exchanged exchange_at wait_at reason_in outcome_in ended end_at by_kind judged_shape clear examined framed read_placed placeless read_of move_of
    fresh_step lower_step turn_step state_step reading_step step after steps_of is_moved accepted_of is_kind negotiated
session = (refl, refl, refl)
