-- What `grasp_write` answers and leaves: what the writer gives for the description that a block says.
use Rattle.std.specs.Prelude.{ℕ, List, length}
use Rattle.std.specs.Result.{result_unwrap_or}
use Rattle.refusal.specs.Refusal.{answer_number}
use Rattle.writer.specs.Write.{write_answer, write_out}
use Rattle.std.specs.Prelude.{Option, Some, None}
use Rattle.description.specs.declared.Description.{Description}
use Rattle.forms.specs.Described.{described_by}

-- the number by what a block says: 18 where it says nothing that could be written, and then nothing changes
unfoldable pub number_by : List ℕ → List ℕ → List ℕ → Option Description → ℕ
number_by source list out None = 18
number_by source list out (Some d) = answer_number (write_answer source list d out)

-- the output that is left
unfoldable pub bytes_by : List ℕ → List ℕ → List ℕ → Option Description → List ℕ
bytes_by source list out None = out
bytes_by source list out (Some d) = write_out source list d out

-- and the length: on a refusal the one before
unfoldable pub length_by : List ℕ → List ℕ → List ℕ → ℕ → Option Description → ℕ
length_by source list out before None = before
length_by source list out before (Some d) = result_unwrap_or (write_answer source list d out) before

-- what `grasp_write` answers: a refusal's number, or 0
unfoldable pub write_number : List ℕ → List ℕ → List ℕ → List ℕ → ℕ
write_number source list fields out = number_by source list out (described_by fields (length list))

-- the output that it leaves
unfoldable pub write_bytes : List ℕ → List ℕ → List ℕ → List ℕ → List ℕ
write_bytes source list fields out = bytes_by source list out (described_by fields (length list))

-- and the length
unfoldable pub write_length : List ℕ → List ℕ → List ℕ → List ℕ → ℕ → ℕ
write_length source list fields out before = length_by source list out before (described_by fields (length list))
