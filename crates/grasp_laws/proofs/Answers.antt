-- What C is answered by a node call that isn't refused: 0, the numbers of the node's reply, and the node's output. For
-- readers: each statement at the end stands alone.
-- Assumes nothing.
use Prim.Native.Nat.{ℕ}
use mathlib.Core.Path.{◌≡◌, refl}
use mathlib.Core.Bool.{Bool}
use mathlib.Core.List.{List, [], ◌∷◌}
use lib.ListN.{length}
use borrow.Author.Tests.{eq-eqb}
use Rattle.base.specs.Pick.{pick}
use Rattle.node_state.specs.declared.Record.{Record}
use Rattle.node.specs.declared.Verdict.{Verdict}
use Rattle.std.specs.Prelude.{Ok}
use Rattle.node.specs.Call.{Call, verdict_given, node_call}
use Rattle.host.specs.Records.{node_of}
use Rattle.host.specs.Table.{table_bytes, loaded}
use Rattle.host.specs.Call.{verdict_number, up_number, table_in, answer_numbers, left_after, call_left}
use Rattle.grasp.specs.Call.{host_call}

-- for readers

-- Where the node replies with a verdict, `grasp_record_call` answers 0, and the answer's numbers are the verdict's, 1 or
-- 0 for handed up or not, the mask and the length; the output is the node's.
pub record_call_answers : (r : Record) (bytes : List ℕ) (c : Call) (answer : List ℕ) (v : Verdict) (up : Bool) (mask len : ℕ) → length bytes ≡ table_bytes
    → (node_call r (loaded bytes) c).answer ≡ Ok (verdict_given v up mask len)
    → ((call_left r bytes c answer).refusal ≡ 0) × ((call_left r bytes c answer).answer ≡ verdict_number v ∷ up_number up ∷ mask ∷ len ∷ [])
    × ((call_left r bytes c answer).output ≡ (node_call r (loaded bytes) c).output)
unfolding call_left left_after table_in answer_numbers pick
record_call_answers r bytes c answer v up mask len sized e = rw (eq-eqb (length bytes) table_bytes sized, e) (refl, refl, refl)

-- So does `grasp_node_call`, on the record that the numbers say.
pub node_call_answers : (address f bytes : List ℕ) (c : Call) (answer : List ℕ) (v : Verdict) (up : Bool) (mask len : ℕ) → length bytes ≡ table_bytes
    → (node_call (node_of address f) (loaded bytes) c).answer ≡ Ok (verdict_given v up mask len)
    → ((host_call address f bytes c answer).refusal ≡ 0) × ((host_call address f bytes c answer).answer ≡ verdict_number v ∷ up_number up ∷ mask ∷ len ∷ [])
    × ((host_call address f bytes c answer).output ≡ (node_call (node_of address f) (loaded bytes) c).output)
unfolding host_call
node_call_answers address f bytes c answer = record_call_answers (node_of address f) bytes c answer
