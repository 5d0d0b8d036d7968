-- What `grasp_node_call` answers and leaves, where the host keeps the record as its address and six numbers.
use Rattle.std.specs.Prelude.{ℕ, List, eqb}
use Rattle.base.specs.Pick.{pick}
use Rattle.node.specs.Call.{Call}
use Rattle.host.specs.Records.{node_of, node_numbers}
use Rattle.host.specs.Call.{Left, left_of, call_left}

-- what the call answers and leaves; on a refusal the record's numbers are as they were
unfoldable pub host_call : List ℕ → List ℕ → List ℕ → Call → List ℕ → Left (List ℕ)
host_call address numbers bytes c answer =
    let k = call_left (node_of address numbers) bytes c answer in
    left_of k.refusal (pick (eqb k.refusal 0) (node_numbers k.node) numbers) k.table k.output k.answer
