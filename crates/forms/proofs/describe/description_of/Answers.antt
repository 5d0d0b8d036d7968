-- `forms::describe::description_of` meets its contract.
use Rattle.base.specs.Pick.{pick}
use Rattle.message.specs.Shape.{exchange_of}
use Rattle.forms.specs.Describe.{description_of}
use Rattle.forms.proofs.describe.description_of.Goals as goal

pub returns-in-Noop : goal.returns-in-Noop
unfolding description_of
returns-in-Noop c =
    rw c.in-Noop.is

pub returns-in-Discovery : goal.returns-in-Discovery
unfolding description_of
returns-in-Discovery c =
    rw (c.in-Discovery.is, ← c.given_of.ensures)

pub returns-in-Response : goal.returns-in-Response
unfolding description_of
returns-in-Response c = rw c.in-Response.is c.response_of.ensures

pub returns-in-RequestNegotiation : goal.returns-in-RequestNegotiation
unfolding exchange_of description_of pick
returns-in-RequestNegotiation c = rw c.in-RequestNegotiation.is c.exchange.ensures

pub returns-in-RequestSynchronization : goal.returns-in-RequestSynchronization
unfolding exchange_of description_of pick
returns-in-RequestSynchronization c = rw c.in-RequestSynchronization.is c.exchange-in-RequestSynchronization.ensures

pub returns-in-Negotiate : goal.returns-in-Negotiate
unfolding exchange_of description_of pick
returns-in-Negotiate c = rw c.in-Negotiate.is c.exchange-in-Negotiate.ensures

pub returns-in-End : goal.returns-in-End
unfolding description_of
returns-in-End c =
    rw c.in-End.is

pub returns-in-Wait : goal.returns-in-Wait
unfolding description_of
returns-in-Wait c =
    rw c.in-Wait.is

pub returns-in-Synch : goal.returns-in-Synch
unfolding exchange_of description_of pick
returns-in-Synch c = rw c.in-Synch.is c.exchange-in-Synch.ensures

pub returns-in-Flood : goal.returns-in-Flood
unfolding description_of
returns-in-Flood c =
    rw c.in-Flood.is

pub returns-in-Invalid : goal.returns-in-Invalid
unfolding description_of
returns-in-Invalid c =
    rw c.in-Invalid.is
