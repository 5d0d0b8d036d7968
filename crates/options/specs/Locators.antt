-- Locators one after the other: a Response's, or those of its divert. What is read of the bytes s, which stand at
-- `base` of the message.
use Rattle.std.specs.Prelude.{ℕ, zero, suc, ◌+◌, List, Bool, false, Result, Ok, Err, drop, eqb}
use Rattle.base.specs.Pick.{pick}
use Rattle.cbor.specs.Token.{token_at, items_in}
use Rattle.options.specs.declared.locator.Locator.{Locator}
use Rattle.options.specs.declared.locators.Locators.{Locators}
use Rattle.options.specs.declared.Departure.{Departure}
use Rattle.options.specs.Text.{Noted, first_of}
use Rattle.options.specs.Part.{Read}
use Rattle.options.specs.Locator.{locator_in}

-- what is read of some: the first, where they end, how many items are left, and the first bad text
abbrev pub LocatorsRead : Type 0
LocatorsRead = Result Locators Departure

-- some that were read
abbrev pub ran : Locator → ℕ → ℕ → Noted → LocatorsRead
ran first end left bad = Ok (record { first = first; end = end; left = left; bad = bad })

-- s begins with an array that a text leads
unfoldable pub text_led : List ℕ → Bool
text_led s =
    let a = token_at s 0 in
    let x = token_at s a.next in
    pick (eqb (items_in a) 0) false (eqb x.major 3)

-- what follows a locator that was read
unfoldable pub locator_then : (ℕ → Noted → LocatorsRead) → ℕ → Noted → Read Locator → LocatorsRead
locator_then go at bad (Err e) = Err e
locator_then go at bad (Ok l) = go (at + l.size) (first_of bad l.bad)

module _ (base : ℕ) (s : List ℕ) where
  -- those after the first, n at most, up to an array that a text leads, which is an objective: where they end, how many
  -- of the n items are left, and the first bad text
  unfoldable pub locators_from : Locator → ℕ → ℕ → Noted → LocatorsRead
  locators_from first zero at bad = ran first at 0 bad
  locators_from first (suc n) at bad =
      let rest = locator_then (locators_from first n) at bad (locator_in (base + at) (drop at s)) in
      pick (text_led (drop at s)) (ran first at (suc n) bad) rest

  -- by the first, at `from`
  unfoldable pub locators_led : ℕ → ℕ → Read Locator → LocatorsRead
  locators_led from more (Err e) = Err e
  locators_led from more (Ok l) = locators_from l.value more (from + l.size) l.bad

  -- the locator at `from`, and those after it, `more` at most
  unfoldable pub locators_in : ℕ → ℕ → LocatorsRead
  locators_in from more = locators_led from more (locator_in (base + from) (drop from s))

-- those at a place of the message s
abbrev pub locators_at : List ℕ → ℕ → ℕ → LocatorsRead
locators_at s at more = locators_in at (drop at s) 0 more
