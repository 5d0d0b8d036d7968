-- `encode::kinds::put_message` meets its contract.
use Rattle.rfc8990.specs.Encoding.{encode_msg}
use Rattle.description.specs.Meaning.{msg_of}
use Rattle.encode.proofs.kinds.put_message.Goals as goal

pub returns-in-Noop : goal.returns-in-Noop
unfolding msg_of
returns-in-Noop c = rw c.in-Noop.is c.put_noop.ensures

pub returns-in-Discovery : goal.returns-in-Discovery
unfolding msg_of
returns-in-Discovery c = rw c.in-Discovery.is c.put_discovery.ensures

pub returns-in-Response : goal.returns-in-Response
unfolding msg_of
returns-in-Response c = rw c.in-Response.is c.put_response.ensures

pub returns-in-RequestNegotiation : goal.returns-in-RequestNegotiation
unfolding msg_of encode_msg
returns-in-RequestNegotiation c = rw c.in-RequestNegotiation.is c.put_exchange.ensures

pub returns-in-RequestSynchronization : goal.returns-in-RequestSynchronization
unfolding msg_of encode_msg
returns-in-RequestSynchronization c = rw c.in-RequestSynchronization.is c.put_exchange-in-RequestSynchronization.ensures

pub returns-in-Negotiate : goal.returns-in-Negotiate
unfolding msg_of encode_msg
returns-in-Negotiate c = rw c.in-Negotiate.is c.put_exchange-in-Negotiate.ensures

pub returns-in-End : goal.returns-in-End
unfolding msg_of
returns-in-End c = rw c.in-End.is c.put_end.ensures

pub returns-in-Wait : goal.returns-in-Wait
unfolding msg_of
returns-in-Wait c = rw c.in-Wait.is c.put_wait.ensures

pub returns-in-Synch : goal.returns-in-Synch
unfolding msg_of encode_msg
returns-in-Synch c = rw c.in-Synch.is c.put_exchange-in-Synch.ensures

pub returns-in-Flood : goal.returns-in-Flood
unfolding msg_of
returns-in-Flood c = rw c.in-Flood.is c.put_flood.ensures

pub returns-in-Invalid : goal.returns-in-Invalid
unfolding msg_of
returns-in-Invalid c = rw c.in-Invalid.is c.put_invalid.ensures
