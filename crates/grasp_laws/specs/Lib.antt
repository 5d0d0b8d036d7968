-- Demand 3 for C: `HostCalls`, a list of calls on one node; `HostSteps`, a list of negotiation steps; `HostDemand`, the
-- demand as one statement. `Gathered`: what a host does with a message that it read and writes again.
pub mod HostCalls
pub mod HostSteps
pub mod HostDemand
pub mod Gathered
