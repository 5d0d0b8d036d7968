-- Divert options (RFC 8990, section 2.9.2): what is read of the bytes s that begin at the own head and stand at `base`
-- of the message.
use Rattle.std.specs.Prelude.{ℕ, ◌+◌, ◌-◌, List, Result, Ok, Err, Option, Some, None, drop, ltb, eqb}
use Rattle.base.specs.Pick.{pick, unless}
use Rattle.cbor.specs.Token.{token_at, items_in, up_to}
use Rattle.options.specs.declared.locator.Locator.{Locator}
use Rattle.options.specs.declared.Departure.{Departure}
use Rattle.options.specs.declared.Part.{Part}
use Rattle.options.specs.declared.divert.Divert.{Divert}
use Rattle.options.specs.Text.{Noted}
use Rattle.options.specs.Part.{departs}
use Rattle.options.specs.Locators.{LocatorsRead, locators_in}

-- what is read: none where 100 leads nothing
abbrev pub DivertRead : Type 0
DivertRead = Result (Option (Part Divert)) Departure

-- no divert
abbrev pub no_divert : DivertRead
no_divert = Ok None

-- a divert that was read: its first locator, the place where that stands, how many there are; its size and its first
-- bad text
abbrev pub diverted : Locator → ℕ → ℕ → ℕ → Noted → DivertRead
diverted first at many size bad =
    Ok (Some (record { value = record { first = first; at = at; many = many }; size = size; bad = bad; long = None }))

module _ (base : ℕ) (s : List ℕ) where
  -- by its locators, so many, read from `from` on; where a text leads one of them, that text departs
  unfoldable pub divert_of : ℕ → ℕ → LocatorsRead → DivertRead
  divert_of many from (Err e) = Err e
  divert_of many from (Ok l) =
      pick (eqb l.left 0) (diverted l.first (base + from) many l.end l.bad) (departs (base + (token_at s l.end).next))

  -- its locators, so many, from `from` on
  unfoldable pub divert_led : ℕ → ℕ → DivertRead
  divert_led many from = divert_of many from (locators_in base s from (many - 1))

  -- an array of two items or more, the first 100
  unfoldable pub divert_in : DivertRead
  divert_in =
      let a = token_at s 0 in
      let k = token_at s a.next in
      pick (eqb (items_in a) 0) no_divert
      (unless (eqb (up_to 100 k) 100) no_divert
      (pick (ltb a.arg 2) (departs base)
      (divert_led (a.arg - 1) k.next)))

-- the divert at a place of the message s
abbrev pub divert_at : List ℕ → ℕ → DivertRead
divert_at s at = divert_in at (drop at s)
