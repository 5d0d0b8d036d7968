-- The node call on a table of bytes: its answer as numbers, and the table's bytes and the output after it.
use Rattle.std.specs.Prelude.{ℕ, Bool, true, false, List, [], ◌∷◌, length, eqb, Result, Ok, Err}
use Rattle.std.specs.Result.{result_unwrap_or}
use Rattle.base.specs.Pick.{pick}
use Rattle.refusal.specs.declared.Refusal.{Refusal}
use Rattle.refusal.specs.Refusal.{number_of, answer_number}
use Rattle.node_state.specs.declared.Record.{Record}
use Rattle.node.specs.declared.Verdict.{Verdict}
use Rattle.node.specs.declared.Verdict.TheVariants.{Own, Answer, Duplicate, Last, Nowhere, NoRow, Relay, Noop, Hand}
use Rattle.node.specs.declared.Given.{Given}
use Rattle.node.specs.Call.{Call, After, node_call}
use Rattle.host.specs.Table.{table_bytes, loaded, saved}

-- the verdicts from 1, in the order of rules 9.2, then NOOP and HAND
abbrev pub verdict_number : Verdict → ℕ
verdict_number Own = 1
verdict_number Answer = 2
verdict_number Duplicate = 3
verdict_number Last = 4
verdict_number Nowhere = 5
verdict_number NoRow = 6
verdict_number Relay = 7
verdict_number Noop = 8
verdict_number Hand = 9

-- 1 where the message is handed up
unfoldable pub up_number : Bool → ℕ
up_number true = 1
up_number false = 0

-- the table that the bytes hold; of another length, one that is refused with 15 in its turn
unfoldable pub table_in : List ℕ → List ℕ
table_in bytes = pick (eqb (length bytes) table_bytes) (loaded bytes) (0 ∷ [])

-- an answer's four numbers
unfoldable pub answer_numbers : Given → List ℕ
answer_numbers g = verdict_number g.verdict ∷ up_number g.handed_up ∷ g.mask ∷ g.length ∷ []

-- what a call leaves: the number of the refusal, the record in a form that a host keeps it in, the table, the output,
-- and the answer
pub record Left (R : Type 0) : Type 0 where
  pub refusal : ℕ
  pub node : R
  pub table : List ℕ
  pub output : List ℕ
  pub answer : List ℕ

-- what is left, part by part
abbrev pub left_of : {R : Type 0} → ℕ → R → List ℕ → List ℕ → List ℕ → Left R
left_of refusal node table output answer =
    record { refusal = refusal; node = node; table = table; output = output; answer = answer }

-- what is left where a call on a record gives another, or is refused
abbrev pub left_by : Record → Result Record Refusal → List ℕ → List ℕ → List ℕ → Left Record
left_by r k table output answer = left_of (answer_number k) (result_unwrap_or k r) table output answer

-- by what the node call answered and left; a refusal leaves all as it was
unfoldable pub left_after : Record → List ℕ → Call → List ℕ → After → Result Given Refusal → Left Record
left_after r bytes c answer after (Ok given) =
    left_of 0 after.node (saved after.table) after.output (answer_numbers given)
left_after r bytes c answer after (Err refusal) = left_of (number_of refusal) r bytes c.output answer

-- the node call on a table of bytes
unfoldable pub call_left : Record → List ℕ → Call → List ℕ → Left Record
call_left r bytes c answer =
    let after = node_call r (table_in bytes) c in
    left_after r bytes c answer after after.answer
