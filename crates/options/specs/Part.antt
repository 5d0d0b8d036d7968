-- What a reader answers: a part that was read, or the place of the first departure from its shape.
use Rattle.std.specs.Prelude.{ℕ, Option, Some, None, Result, Ok, Err}
use Rattle.refusal.specs.declared.Refusal.TheVariants as R
use Rattle.refusal.specs.declared.Refused.{Refused}
use Rattle.options.specs.Text.{Noted}
use Rattle.options.specs.declared.Departure.{Departure}
use Rattle.options.specs.declared.Part.{Part}

-- the refusal that a departure from a shape is
abbrev pub misshapen : Departure → Refused
misshapen d = record { refusal = R.BadShape; place = d.place }

-- what is read of an A
abbrev pub Read : Type 0 → Type 0
Read A = Result (Part A) Departure

-- a departure at this place
abbrev pub departs : {A : Type 0} → ℕ → Result A Departure
departs place = Err (record { place = place })

-- a part of so many bytes, with the places of its first bad text and its first long name
abbrev pub part : {A : Type 0} → A → ℕ → Noted → Noted → Read A
part value size bad long = Ok (record { value = value; size = size; bad = bad; long = long })

-- what follows a value that has to be there, else a departure at this place
unfoldable pub needed : {A B : Type 0} → Option A → ℕ → (A → Result B Departure) → Result B Departure
needed None place rest = departs place
needed (Some value) place rest = rest value
