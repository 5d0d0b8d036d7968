-- `host::call::call_into` meets its contract.
use Rattle.std.proofs.Common.{◌≡◌, rules, Err}
use Rattle.node.specs.Call.{call_of}
use Rattle.host.proofs.Calls.{other_refused, never_other, call_refused, call_given}
use Rattle.host.proofs.call.call_into.Goals as goal

pub returns-in_err-called : goal.returns-in_err-called
returns-in_err-called c =
    let args = c.args in
    let same : c.from_residual.result ≡ Err c.in_err-called.field-0.0 = search rules in
    other_refused args.node args.bytes.now (call_of args.clock args.interface args.names.now args.message.now args.out.now) args.answer.now _ _ _
    c.if-bytes-ne-BYTES.true c.node_call.ensures c.in_err-called.was same

pub returns-then-bytes-ne-BYTES : goal.returns-then-bytes-ne-BYTES
returns-then-bytes-ne-BYTES c =
    let args = c.args in
    absurd (never_other args.node args.bytes.now (call_of args.clock args.interface args.names.now args.message.now args.out.now) args.answer.now _ _ _
    c.node_call.ensures c.in_ok-called.was)

pub returns-in_err-called-2 : goal.returns-in_err-called-2
returns-in_err-called-2 c =
    let args = c.args in
    let same : c.from_residual-in_err-called-2.result ≡ Err c.in_err-called-2.field-0.0 = search rules in
    call_refused args.node args.bytes.now (call_of args.clock args.interface args.names.now args.message.now args.out.now) args.answer.now _ _ _
    c.if-bytes-ne-BYTES.false c.load.ensures c.node_call-2.ensures c.in_err-called-2.was same

pub returns : goal.returns
returns c =
    let args = c.args in
    call_given args.node args.bytes.now (call_of args.clock args.interface args.names.now args.message.now args.out.now) args.answer.now _ _ _
    c.if-bytes-ne-BYTES.false c.load.ensures c.node_call-2.ensures c.in_ok-called-2.was c.save.ensures c.numbers_of.ensures
