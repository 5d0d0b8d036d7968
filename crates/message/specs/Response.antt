-- Response (RFC 8990, section 2.8.5): session, initiator, ttl, then locators or a divert, then an optional objective.
use Rattle.std.specs.Prelude.{ℕ, ◌+◌, ◌-◌, List, Ok, Err, Some, None, ltb, eqb}
use Rattle.base.specs.Pick.{pick, unless}
use Rattle.options.specs.declared.objective.Objective.{Objective}
use Rattle.options.specs.Text.{Noted, first_of}
use Rattle.options.specs.Part.{Read, departs, part}
use Rattle.options.specs.Locators.{LocatorsRead, locators_at}
use Rattle.options.specs.Divert.{DivertRead, divert_at}
use Rattle.options.specs.Objective.{objective_at}
use Rattle.message.specs.declared.Targets.{Targets}
use Rattle.message.specs.Fields.{Extra}
use Rattle.message.specs.declared.Message.{Message}
use Rattle.message.specs.declared.Message.TheVariants as M
use Rattle.message.specs.declared.opening.Opening.{Opening}
use Rattle.message.specs.Opening.{WithNext, objective_levels, opening_at}

-- the Response with this opening
abbrev pub response_of : Opening → Targets → Extra → Message
response_of o targets extra = M.Response o.session o.initiator o.ttl targets extra

module _ (s : List ℕ) (opening : Opening) where
  -- an objective after the locators or the divert, the last of `left` items
  unfoldable pub rest_of : Targets → ℕ → ℕ → Noted → Read Objective → Read Message
  rest_of targets left at bad (Err e) = Err e
  rest_of targets left at bad (Ok o) =
      unless (eqb left 1) (departs (at + o.size))
      (part (response_of opening targets (Some o.value)) (at + o.size) (first_of bad o.bad) o.long)

  -- what follows the locators or the divert: nothing, or one objective
  unfoldable pub rest_at : Targets → ℕ → ℕ → Noted → Read Message
  rest_at targets left at bad =
      pick (eqb left 0) (part (response_of opening targets None) at bad None)
      (rest_of targets left at bad (objective_at objective_levels s at))

  -- locators that were read from `at` on, of n items
  unfoldable pub located_of : ℕ → ℕ → LocatorsRead → Read Message
  located_of n at (Err e) = Err e
  located_of n at (Ok l) =
      rest_at (Targets.Locators l.first (record { at = at; many = n - l.left })) l.left (at + l.end) l.bad

  -- locators from `at` on, in n items
  unfoldable pub located_at : ℕ → ℕ → Read Message
  located_at n at = located_of n at (locators_at s at (n - 1))

  -- a divert that was read at `at`, or else locators
  unfoldable pub targets_of : ℕ → ℕ → DivertRead → Read Message
  targets_of n at (Err e) = Err e
  targets_of n at (Ok None) = located_at n at
  targets_of n at (Ok (Some d)) =
      rest_at (Targets.Divert d.value.first (record { at = d.value.at; many = d.value.many })) (n - 1)
      (at + d.size) d.bad

  -- what follows the ttl, n items from `at` on
  unfoldable pub targets_at : ℕ → ℕ → Read Message
  targets_at n at = targets_of n at (divert_at s at)

-- a Response, by what was read of its opening
unfoldable pub response_by : List ℕ → ℕ → WithNext Opening → Read Message
response_by s n (Err e) = Err e
response_by s n (Ok (opening, next)) = targets_at s opening (n - 4) next

-- kind 2: a message s of n items in all, its session at `at`
unfoldable pub response_at : List ℕ → ℕ → ℕ → Read Message
response_at s n at = pick (ltb n 5) (departs 0) (response_by s n (opening_at s at))
