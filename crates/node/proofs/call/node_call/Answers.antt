-- `node::call::node_call` meets its contract.
use lib.ListN.{length}
use Rattle.std.proofs.Common.{◌≡◌, rules, Err, sym, ap, ◌∙◌}
use native.Mathlib.Omega.{arith}
use Rattle.refusal.specs.Refusal.{answer_number}
use Rattle.node.specs.Call.{call_of}
use Rattle.node.proofs.Outcomes.{passed, arrival_small, barred_outcome, refused_outcome, taken_outcome}
use Rattle.node.proofs.call.node_call.Goals as goal

pub returns-in_err-barred_by : goal.returns-in_err-barred_by
returns-in_err-barred_by c =
    let args = c.args in
    let same : c.from_residual.result ≡ Err c.in_err-barred_by.field-0.0 = search rules in
    barred_outcome args.node args.table.now (call_of args.clock args.interface args.names.now args.message.now args.out.now)
    c.barred_by.ensures c.in_err-barred_by.was same

pub overflow_cast-interface : goal.overflow_cast-interface
overflow_cast-interface c =
    let args = c.args in
    let p = passed args.node args.table.now args.clock args.interface args.names.now (length args.out.now)
    (ap answer_number (sym c.barred_by.ensures ∙ c.in_ok-barred_by.was)) in omega (arith, arrival_small args.node args.interface p.good p.arrives)

pub take-requires : goal.take-requires
take-requires c =
    let args = c.args in record {
      passed = passed args.node args.table.now args.clock args.interface args.names.now (length args.out.now)
          (ap answer_number (sym c.barred_by.ensures ∙ c.in_ok-barred_by.was));
      read = record { is = _; read = sym c.read.ensures ∙ c.in_ok-read.was; plays = sym c.role_of-role.ensures };
    }

pub returns-in_err-read : goal.returns-in_err-read
returns-in_err-read c =
    let args = c.args in
    let same : c.from_residual-in_err-read.result ≡ Err c.in_err-read.field-0.0 = search rules in
    refused_outcome args.node args.table.now (call_of args.clock args.interface args.names.now args.message.now args.out.now)
    c.barred_by.ensures c.in_ok-barred_by.was _ (sym c.read.ensures ∙ c.in_err-read.was) same

pub returns : goal.returns
returns c =
    let args = c.args in
    taken_outcome args.node args.table.now (call_of args.clock args.interface args.names.now args.message.now args.out.now)
    c.barred_by.ensures c.in_ok-barred_by.was _ _ _ _
    (sym c.read.ensures ∙ c.in_ok-read.was)
    (rw (← c.role_of-role.ensures) c.take.ensures)
