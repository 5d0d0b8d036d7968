-- `grasp::in_place::grasp_record_call` meets its contract.
use Rattle.node.specs.Call.{call_of}
use Rattle.grasp.proofs.Calls.{left_in_place}
use Rattle.grasp.proofs.in_place.grasp_record_call.Goals as goal

pub returns : goal.returns
returns c =
    let args = c.args in
    left_in_place args.node.now args.bytes.now (call_of args.clock args.interface args.names.now args.message.now args.out.now) args.answer.now _ _ _ _ _ _
    c.call_into.ensures c.put.ensures
