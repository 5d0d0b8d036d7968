-- `forms::block::fill` meets its contract.
use Rattle.forms.specs.Block.{block_of}
use Rattle.forms.proofs.block.fill.Goals as goal

pub returns-in-Noop : goal.returns-in-Noop
unfolding block_of
returns-in-Noop c = rw c.in-Noop.is c.put_front.ensures

pub returns-in-Discovery : goal.returns-in-Discovery
unfolding block_of
returns-in-Discovery c = rw c.in-Discovery.is c.discovery.ensures

pub returns-in-Response : goal.returns-in-Response
unfolding block_of
returns-in-Response c = rw c.in-Response.is c.response.ensures

pub returns-in-RequestNegotiation : goal.returns-in-RequestNegotiation
unfolding block_of
returns-in-RequestNegotiation c = rw c.in-RequestNegotiation.is c.exchange.ensures

pub returns-in-RequestSynchronization : goal.returns-in-RequestSynchronization
unfolding block_of
returns-in-RequestSynchronization c = rw c.in-RequestSynchronization.is c.exchange-in-RequestSynchronization.ensures

pub returns-in-Negotiate : goal.returns-in-Negotiate
unfolding block_of
returns-in-Negotiate c = rw c.in-Negotiate.is c.exchange-in-Negotiate.ensures

pub returns-in-End : goal.returns-in-End
unfolding block_of
returns-in-End c = rw c.in-End.is c.end.ensures

pub returns-in-Wait : goal.returns-in-Wait
unfolding block_of
returns-in-Wait c = rw c.in-Wait.is c.put_front-in-Wait.ensures

pub returns-in-Synch : goal.returns-in-Synch
unfolding block_of
returns-in-Synch c = rw c.in-Synch.is c.exchange-in-Synch.ensures

pub returns-in-Flood : goal.returns-in-Flood
unfolding block_of
returns-in-Flood c = rw (
  c.in-Flood.is,
  ← c.put_front-in-Flood.ensures,
  ← c.put_objective.ensures,
) c.put_series.ensures

pub returns-in-Invalid : goal.returns-in-Invalid
unfolding block_of
returns-in-Invalid c = rw c.in-Invalid.is c.invalid.ensures
