-- The rows of a message, as a caller hands them to the writer: in a list that is lent and filled, as many numbers from
-- its front as `rows::fill` answers.
use Rattle.std.specs.Prelude.{ℕ, ◌*◌, ◌/◌, List, take}
use Rattle.message.specs.declared.Message.{Message}
use Rattle.rfc8990.specs.Limits.{most_bytes}
use Rattle.description.specs.Meaning.{pair_row}
use Rattle.forms.specs.Rows.{rows_end, rows_filled}

-- those numbers
abbrev pub rows_lent : List ℕ → Message → List ℕ → List ℕ
rows_lent s m list = take (rows_end m list) (rows_filled s m list)

-- as many numbers as the rows of any message may be: 12 for a pair (5 for a locator), which has six bytes at least, in
-- a message of 2,048
abbrev pub most_numbers : ℕ
most_numbers = pair_row * (most_bytes / 6)
