-- Refusals (rules 3.1): their numbers, and a refusal with its place.
use Rattle.std.specs.Prelude.{ℕ, ◌≡◌, Result, Ok, Err}
use Rattle.refusal.specs.declared.Refusal.{Refusal}
use Rattle.refusal.specs.declared.Refusal.TheVariants as R
use Rattle.refusal.specs.declared.Refused.{Refused}

-- the refusal's number
abbrev pub number_of : Refusal → ℕ
number_of R.BadSize = 1
number_of R.Cut = 2
number_of R.Reserved = 3
number_of R.Indefinite = 4
number_of R.LongHead = 5
number_of R.TooDeep = 6
number_of R.BytesAfter = 7
number_of R.UnknownKind = 8
number_of R.BadShape = 9
number_of R.LongName = 10
number_of R.BadText = 11
number_of R.BadRecord = 12
number_of R.BadLink = 13
number_of R.EarlyClock = 14
number_of R.BadTable = 15
number_of R.BadNames = 16
number_of R.CallOutput = 17
number_of R.NoSuchMessage = 18
number_of R.WriteOutput = 19
number_of R.NotAllowed = 20

-- the table of rules 3.1, row by row
pub data Numbered : Refusal → ℕ → Type 0 where
  bad_size : Numbered R.BadSize 1
  cut : Numbered R.Cut 2
  reserved : Numbered R.Reserved 3
  indefinite : Numbered R.Indefinite 4
  long_head : Numbered R.LongHead 5
  too_deep : Numbered R.TooDeep 6
  bytes_after : Numbered R.BytesAfter 7
  unknown_kind : Numbered R.UnknownKind 8
  bad_shape : Numbered R.BadShape 9
  long_name : Numbered R.LongName 10
  bad_text : Numbered R.BadText 11
  bad_record : Numbered R.BadRecord 12
  bad_link : Numbered R.BadLink 13
  early_clock : Numbered R.EarlyClock 14
  bad_table : Numbered R.BadTable 15
  bad_names : Numbered R.BadNames 16
  call_output : Numbered R.CallOutput 17
  no_such_message : Numbered R.NoSuchMessage 18
  write_output : Numbered R.WriteOutput 19
  not_allowed : Numbered R.NotAllowed 20

-- what C is answered: 0, or the number of the refusal
abbrev pub answer_number : {A : Type 0} → Result A Refusal → ℕ
answer_number (Ok x) = 0
answer_number (Err refusal) = number_of refusal

-- refused so, at this place
abbrev pub refused : {A : Type 0} → Refusal → ℕ → Result A Refused
refused refusal place = Err (record { refusal = refusal; place = place })

-- an answer is the refusal of this number
abbrev pub RefusedAs : {A : Type 0} → Result A Refusal → ℕ → Type 0
RefusedAs answer n = (refusal : Refusal) × (answer ≡ Err refusal) × (number_of refusal ≡ n)
