-- The state of a negotiation as a host keeps it: four numbers, its phase (0 fresh, 1 open, 2 closed), session, count
-- and turn.
use Rattle.std.specs.Prelude.{ℕ, List, [], ◌∷◌, get_or, ltb, eqb}
use Rattle.base.specs.Pick.{pick}
use Rattle.message.specs.Opening.{most_number}
use Rattle.negotiation.specs.declared.Side.{Side}
use Rattle.negotiation.specs.declared.Side.TheVariants.{Us, Them}
use Rattle.negotiation.specs.declared.State.{State}
use Rattle.negotiation.specs.declared.State.TheVariants.{Fresh, Open, Closed}

-- 0 is our side, and any other number theirs
unfoldable pub side_of : ℕ → Side
side_of n = pick (eqb n 0) Us Them

-- a side's number
abbrev pub side_number : Side → ℕ
side_number Us = 0
side_number Them = 1

-- what the numbers say; a session, count, turn or phase that isn't one of ours closes the state, so that every message
-- is refused, by 20 where not by 1 to 11
unfoldable pub state_of : List ℕ → State
state_of f =
    pick (ltb most_number (get_or f 1 0)) Closed
    (pick (ltb 255 (get_or f 2 0)) Closed
    (pick (ltb 1 (get_or f 3 0)) Closed
    (pick (eqb (get_or f 0 0) 0) Fresh
    (pick (eqb (get_or f 0 0) 1) (Open (get_or f 1 0) (get_or f 2 0) (side_of (get_or f 3 0))) Closed))))

-- a fresh state and a closed one have no other numbers than 0
unfoldable pub state_numbers : State → List ℕ
state_numbers Fresh = 0 ∷ 0 ∷ 0 ∷ 0 ∷ []
state_numbers (Open session count turn) = 1 ∷ session ∷ count ∷ side_number turn ∷ []
state_numbers Closed = 2 ∷ 0 ∷ 0 ∷ 0 ∷ []
