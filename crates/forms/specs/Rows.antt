-- The list of a message that was read: its locators or pairs as rows of numbers, as the writer takes them.
use Rattle.std.specs.Prelude.{ℕ, zero, suc, ◌+◌, ◌*◌, ◌/◌, List, length, set, ltb}
use Rattle.std.proofs.lemmas.List.Edits.{sets}
use Rattle.std.specs.Prelude.{Ok, Err}
use Rattle.options.specs.Part.{Read}
use Rattle.options.specs.declared.locator.Locator.{Locator}
use Rattle.options.specs.declared.pair.Pair.{Pair}
use Rattle.base.specs.Pick.{pick}
use Rattle.options.specs.declared.objective.Objective.{Objective}
use Rattle.options.specs.Pair.{PairTag}
use Rattle.options.specs.Locator.{locator_at, locator_numbers}
use Rattle.options.specs.Pair.{pair_at, pair_numbers}
use Rattle.message.specs.declared.Series.{Series}
use Rattle.message.specs.declared.Targets.{Targets}
use Rattle.message.specs.declared.Message.{Message}
use Rattle.message.specs.declared.Message.TheVariants as M
use Rattle.description.specs.Meaning.{locator_row, pair_row}
use Rattle.forms.specs.declared.rows.Rows.{Rows}

-- n elements from `at` on, each with the place after it and its row, in the rows from i on
unfoldable pub rows_from : (ℕ → ℕ) → (ℕ → ℕ → List ℕ → List ℕ) → ℕ → ℕ → ℕ → List ℕ → List ℕ
rows_from next row zero i at list = list
rows_from next row (suc n) i at list = rows_from next row n (i + 1) (next at) (row at i list)

-- how many numbers a series is, in rows of so many, or one more than the list has where it is too short
unfoldable pub series_end : ℕ → Series → List ℕ → ℕ
series_end size series list = pick (ltb (length list / size) series.many) (length list + 1) (size * series.many)

-- the list with the rows of a series in front; one that is too short stays as it is
unfoldable pub series_filled : ℕ → (ℕ → ℕ) → (ℕ → ℕ → List ℕ → List ℕ) → Series → List ℕ → List ℕ
series_filled size next row series list =
    pick (ltb (length list / size) series.many) list (rows_from next row series.many 0 series.at list)

-- ---- locators
-- the place after a locator that was read
unfoldable pub locator_next_from : ℕ → Read Locator → ℕ
locator_next_from at (Err e) = at
locator_next_from at (Ok l) = at + l.size

-- the list with the numbers of a locator that was read in row i
unfoldable pub locator_stored_from : ℕ → List ℕ → Read Locator → List ℕ
locator_stored_from i list (Err e) = list
locator_stored_from i list (Ok l) = sets list (locator_row * i) (locator_numbers l.value)

-- the place after the locator at `at`
unfoldable pub locator_next : List ℕ → ℕ → ℕ
locator_next s at = locator_next_from at (locator_at s at)

-- the list with the numbers of the locator at `at` in row i
unfoldable pub locator_stored : List ℕ → ℕ → ℕ → List ℕ → List ℕ
locator_stored s at i list = locator_stored_from i list (locator_at s at)

-- ---- pairs
-- the place of the count's head is 0 in a row
unfoldable pub pair_cells : Objective → PairTag → List ℕ
pair_cells o tag = set (pair_numbers o tag) 4 0

-- the place after a pair that was read
unfoldable pub pair_next_from : ℕ → Read Pair → ℕ
pair_next_from at (Err e) = at
pair_next_from at (Ok r) = at + r.size

-- the list with the numbers of a pair that was read in row i
unfoldable pub pair_stored_from : ℕ → List ℕ → Read Pair → List ℕ
pair_stored_from i list (Err e) = list
pair_stored_from i list (Ok r) = sets list (pair_row * i) (pair_cells r.value.objective r.value.tag)

-- the place after the pair at `at`
unfoldable pub pair_next : List ℕ → ℕ → ℕ
pair_next s at = pair_next_from at (pair_at s at)

-- the list with the numbers of the pair at `at` in row i
unfoldable pub pair_stored : List ℕ → ℕ → ℕ → List ℕ → List ℕ
pair_stored s at i list = pair_stored_from i list (pair_at s at)

-- ---- by the message
-- a Response's locators, or its divert's
unfoldable pub target_rows : Targets → Rows
target_rows (Targets.Locators first series) = Rows.Locators series
target_rows (Targets.Divert first series) = Rows.Locators series

-- what the message's list has
unfoldable pub rows_in : Message → Rows
rows_in M.Noop = Rows.Nothing
rows_in (M.Discovery session initiator o) = Rows.Nothing
rows_in (M.Response session initiator ttl targets extra) = target_rows targets
rows_in (M.RequestNegotiation session o) = Rows.Nothing
rows_in (M.RequestSynchronization session o) = Rows.Nothing
rows_in (M.Negotiate session o) = Rows.Nothing
rows_in (M.End session outcome) = Rows.Nothing
rows_in (M.Wait session time) = Rows.Nothing
rows_in (M.Synch session o) = Rows.Nothing
rows_in (M.Flood session initiator ttl first pairs) = Rows.Pairs pairs
rows_in (M.Invalid session item) = Rows.Nothing

-- how many numbers so many rows are: five to a locator, twelve to a pair
unfoldable pub row_numbers : Rows → ℕ
row_numbers Rows.Nothing = 0
row_numbers (Rows.Locators series) = locator_row * series.many
row_numbers (Rows.Pairs series) = pair_row * series.many

-- how many numbers so many rows are, or one more than the list has
unfoldable pub end_by : List ℕ → Rows → ℕ
end_by list Rows.Nothing = 0
end_by list (Rows.Locators series) = series_end locator_row series list
end_by list (Rows.Pairs series) = series_end pair_row series list

-- the list with them
unfoldable pub filled_by : List ℕ → List ℕ → Rows → List ℕ
filled_by s list Rows.Nothing = list
filled_by s list (Rows.Locators series) = series_filled locator_row (locator_next s) (locator_stored s) series list
filled_by s list (Rows.Pairs series) = series_filled pair_row (pair_next s) (pair_stored s) series list

-- what `fill` answers: how many numbers the message's rows are, or one more than the list has
unfoldable pub rows_end : Message → List ℕ → ℕ
rows_end m list = end_by list (rows_in m)

-- the list that it leaves: with the rows in front, or as it was
unfoldable pub rows_filled : List ℕ → Message → List ℕ → List ℕ
rows_filled s m list = filled_by s list (rows_in m)
