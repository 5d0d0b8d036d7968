-- `description::judge::ok_parts` meets its contract.
use Rattle.description.specs.Judge.{ok_parts}
use Rattle.description.proofs.judge.ok_parts.Goals as goal

pub returns-in-Noop : goal.returns-in-Noop
unfolding ok_parts
returns-in-Noop c = rw c.in-Noop.is

pub returns-in-Discovery : goal.returns-in-Discovery
unfolding ok_parts
returns-in-Discovery c = rw c.in-Discovery.is c.ok_discovery.ensures

pub returns-in-Response : goal.returns-in-Response
unfolding ok_parts
returns-in-Response c = rw c.in-Response.is c.ok_response.ensures

pub returns-in-RequestNegotiation : goal.returns-in-RequestNegotiation
unfolding ok_parts
returns-in-RequestNegotiation c = rw c.in-RequestNegotiation.is c.ok_given.ensures

pub returns-in-RequestSynchronization : goal.returns-in-RequestSynchronization
unfolding ok_parts
returns-in-RequestSynchronization c = rw c.in-RequestSynchronization.is c.ok_given-in-RequestSynchronization.ensures

pub returns-in-Negotiate : goal.returns-in-Negotiate
unfolding ok_parts
returns-in-Negotiate c = rw c.in-Negotiate.is c.ok_given-in-Negotiate.ensures

pub returns-in-End : goal.returns-in-End
unfolding ok_parts
returns-in-End c = rw c.in-End.is c.ok_outcome.ensures

pub returns-in-Wait : goal.returns-in-Wait
unfolding ok_parts
returns-in-Wait c = rw c.in-Wait.is

pub returns-in-Synch : goal.returns-in-Synch
unfolding ok_parts
returns-in-Synch c = rw c.in-Synch.is c.ok_given-in-Synch.ensures

pub returns-in-Flood : goal.returns-in-Flood
unfolding ok_parts
returns-in-Flood c = rw c.in-Flood.is c.ok_flood.ensures

pub returns-in-Invalid : goal.returns-in-Invalid
unfolding ok_parts
returns-in-Invalid c = rw c.in-Invalid.is c.ok_item.ensures
