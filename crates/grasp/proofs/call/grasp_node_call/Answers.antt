-- `grasp::call::grasp_node_call` meets its contract.
use Rattle.node.specs.Call.{call_of}
use Rattle.grasp.proofs.Calls.{host_left}
use Rattle.grasp.proofs.call.grasp_node_call.Goals as goal

pub returns : goal.returns
returns c =
    let args = c.args in
    host_left args.address.now args.numbers.now args.bytes.now
    (call_of args.clock args.interface args.names.now args.message.now args.out.now) args.answer.now _ _ _ _ _ _ _
    c.node_of-node.ensures c.call_into-kept.ensures c.put.ensures.value c.put.ensures.numbers_after
