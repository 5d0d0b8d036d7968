-- Demand 3 for what C keeps and sees (rules 13.3 to 13.9): for every list of calls on one node from a fresh record and
-- a table of 2,048 zeros, and for every list of steps on one negotiation state of four zeros.
use Rattle.std.specs.Prelude.{ℕ, ◌^◌, ◌<◌, List, ◌≢◌, ◌≡◌, replicate}
use Rattle.base.specs.BigEndian.{Bytes}
use Rattle.base.specs.Lists.{Every}
use Rattle.refusal.specs.Refusal.{answer_number}
use Rattle.node_state.specs.declared.Record.{Record}
use Rattle.node_state.specs.Record.{blank, fresh}
use Rattle.negotiation.specs.Turns.{BoundedIn}
use Rattle.host.specs.Records.{numbers_after, fresh_over}
use Rattle.grasp_laws.specs.HostCalls.{HostEvent, EventFits, in_place_form, as_numbers, HostList}
use Rattle.grasp_laws.specs.HostSteps.{HostSent, host_accepted}

-- a refused fresh record leaves what was there before; then that was all zeros, as a host clears it, and every call is
-- refused
pub record Demand3InC : Type 0 where
  -- the record in place, which `grasp_record_fresh` filled
  pub in_place : (before : Record) (address : List ℕ) (port ttl interfaces mask : ℕ) (events : List HostEvent)
      → (answer_number (fresh address port ttl interfaces mask) ≢ 0 → before ≡ blank) → Every EventFits events
      → HostList in_place_form (fresh_over before address port ttl interfaces mask).node (replicate 2048 0) events
  -- the record as six numbers, which `grasp_fresh` filled; port and ttl have the widths of C's types
  pub numbers : (before address : List ℕ) (port ttl interfaces mask : ℕ) (events : List HostEvent)
      → (answer_number (fresh address port ttl interfaces mask) ≢ 0 → before ≡ replicate 6 0) → Every EventFits events
      → port < 2 ^ 16 → ttl < 2 ^ 32
      → HostList (as_numbers address) (numbers_after (fresh address port ttl interfaces mask) before) (replicate 2048 0)
      events
  -- once a Request opened the state at count c, at most c - 1 Negotiates are accepted
  pub negotiation : (messages : List HostSent) → Every (λ m. Bytes m.bytes) messages
      → BoundedIn (host_accepted (replicate 4 0) messages)
