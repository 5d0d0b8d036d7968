-- What the exported readers answer and leave.
use Rattle.std.specs.Prelude.{ℕ, ◌+◌, List, Ok, Err}
use Rattle.refusal.specs.Refusal.{number_of}
use Rattle.options.specs.Part.{Read}
use Rattle.options.specs.declared.locator.Locator.{Locator}
use Rattle.options.specs.declared.pair.Pair.{Pair}
use Rattle.options.specs.Locator.{locator_at, locator_numbers}
use Rattle.options.specs.Pair.{pair_at, pair_numbers}
use Rattle.reader.specs.Read.{Reading, read_of}
use Rattle.forms.specs.Block.{block_of}

-- 0 for a message, or the number of the refusal
unfoldable pub number_from : Reading → ℕ
number_from (Err refusal) = number_of refusal
number_from (Ok m) = 0

-- the message's block, or what was there
unfoldable pub block_from : Reading → List ℕ → List ℕ
block_from (Err refusal) fields = fields
block_from (Ok m) fields = block_of m

-- what `grasp_read` answers
unfoldable pub read_number : List ℕ → ℕ
read_number s = number_from (read_of s)

-- the block that it leaves
unfoldable pub read_block : List ℕ → List ℕ → List ℕ
read_block s fields = block_from (read_of s) fields

-- the place after a locator, 0 where none is there
unfoldable pub locator_end_from : ℕ → Read Locator → ℕ
locator_end_from at (Err e) = 0
locator_end_from at (Ok l) = at + l.size

-- the locator's numbers, or what was there
unfoldable pub locator_from : Read Locator → List ℕ → List ℕ
locator_from (Err e) fields = fields
locator_from (Ok l) fields = locator_numbers l.value

-- what `grasp_locator` answers
unfoldable pub locator_end : List ℕ → ℕ → ℕ
locator_end s at = locator_end_from at (locator_at s at)

-- the numbers that it leaves
unfoldable pub locator_after : List ℕ → ℕ → List ℕ → List ℕ
locator_after s at fields = locator_from (locator_at s at) fields

-- the place after a pair, 0 where none is there
unfoldable pub pair_end_from : ℕ → Read Pair → ℕ
pair_end_from at (Err e) = 0
pair_end_from at (Ok r) = at + r.size

-- the pair's numbers, or what was there
unfoldable pub pair_from : Read Pair → List ℕ → List ℕ
pair_from (Err e) fields = fields
pair_from (Ok r) fields = pair_numbers r.value.objective r.value.tag

-- what `grasp_pair` answers
unfoldable pub pair_end : List ℕ → ℕ → ℕ
pair_end s at = pair_end_from at (pair_at s at)

-- the numbers that it leaves
unfoldable pub pair_after : List ℕ → ℕ → List ℕ → List ℕ
pair_after s at fields = pair_from (pair_at s at) fields
