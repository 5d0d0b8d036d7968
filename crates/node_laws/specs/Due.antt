-- The verdict that is due on a message (rules 9), and what comes of a node call (rules 8.5, 8.6).
use Rattle.std.specs.Prelude.{Ok}
use Rattle.std.specs.Prelude.{ℕ, ◌<◌, Bool, true, false, ◌≢◌, ◌⊎◌, ◌≡◌}
use mathlib.Core.List.{List, Memᴰ}
use Rattle.options.specs.Text.{held}
use Rattle.base.specs.Bits.{has_bit}
use Rattle.options.specs.declared.Span.{Span}
use Rattle.options.specs.declared.objective.Objective.{Objective}
use Rattle.options.specs.declared.pair.Pair.{Pair}
use Rattle.message.specs.declared.Message.{Message}
use Rattle.message.specs.declared.Message.TheVariants as M
use Rattle.message.specs.declared.Series.{Series}
use Rattle.std.specs.Prelude.{Err}
use Rattle.refusal.specs.declared.Refusal.{Refusal}
use Rattle.reader.specs.Read.{read_of}
use Rattle.node_laws.specs.OwnNames.{OwnNames}
use Rattle.node_state.specs.declared.Record.{Record}
use Rattle.node.specs.declared.Verdict.{Verdict}
use Rattle.node.specs.declared.Verdict.TheVariants.{Own, Answer, Duplicate, Last, Nowhere, NoRow, Relay, Noop, Hand}
use Rattle.node_state.specs.declared.key.Key.{Key}
use Rattle.node_state.specs.Record.{clocked}
use Rattle.node_state.specs.Table.{freed}
use Rattle.node_state.specs.Key.{key_of}
use Rattle.node.specs.Role.{spread_of}
use Rattle.node.specs.Call.{Call, After, bars, bar, refuse, quiet, answered, relayed}
use Rattle.node_laws.specs.RelayRows.{Live, HasKey}

-- ---- the conditions

-- the initiator is our address
abbrev pub OwnInitiator : Record → Call → Span → Type 0
OwnInitiator r c initiator = held c.message initiator ≡ r.address

-- the name equals one of our own names byte for byte
abbrev pub Named : Call → Objective → Type 0
Named c o = (own : OwnNames c.names) × Memᴰ (held c.message o.name) own.names

-- a live row has the key
abbrev pub Known : List ℕ → ℕ → Key → Type 0
Known t now k = (i : ℕ) × (i < 64) × Live now t i × HasKey t i k

-- the count is 0 or 1
abbrev pub Spent : Objective → Type 0
Spent o = (o.count ≡ 0) ⊎ (o.count ≡ 1)

-- no other link is up
abbrev pub Alone : Record → Call → Type 0
Alone r c = (j : ℕ) → j ≢ c.interface → has_bit r.links j ≡ false

-- every row lives, so that none is free once the dead ones are freed
abbrev pub Full : List ℕ → ℕ → Type 0
Full t now = (i : ℕ) → i < 64 → Live now t i

-- ---- the verdicts

-- verdicts in their order, each with its condition and whether the message is handed up
pub data Rules : Type 1 where
  when : Type 0 → Verdict → Bool → Rules → Rules
  otherwise : Verdict → Bool → Rules

-- the first that applies: its condition holds, and none before it does
unfoldable pub First : Rules → Verdict → Bool → Type 0
First (when P v up rules) w up' = (P × (v ≡ w) × (up ≡ up')) ⊎ ((P → ⊥) × First rules w up')
First (otherwise v up) w up' = (v ≡ w) × (up ≡ up')

module _ (r : Record) (t : List ℕ) (c : Call) where
  -- a Discovery's, which is never handed up (rules 9.2)
  abbrev pub discovery_rules : ℕ → Span → Objective → Rules
  discovery_rules session initiator o =
      when (OwnInitiator r c initiator) Own false
      (when (Named c o) Answer false
      (when (Known t c.clock (key_of false session (held c.message initiator))) Duplicate false
      (when (Spent o) Last false
      (when (Alone r c) Nowhere false
      (when (Full t c.clock) NoRow false
      (otherwise Relay false))))))

  -- a Flood's; the count that matters is the first objective's (rules 9.3)
  abbrev pub flood_rules : ℕ → Span → Objective → Rules
  flood_rules session initiator first =
      when (OwnInitiator r c initiator) Own false
      (when (Known t c.clock (key_of true session (held c.message initiator))) Duplicate false
      (when (Spent first) Last true
      (when (Alone r c) Nowhere true
      (when (Full t c.clock) NoRow true
      (otherwise Relay true)))))

  -- by the kind: NOOP, HAND, and the two lists (rules 9.1)
  abbrev pub rules_on : Message → Rules
  rules_on M.Noop = otherwise Noop false
  rules_on (M.Discovery session initiator objective) = discovery_rules session initiator objective
  rules_on (M.Response session initiator ttl targets extra) = otherwise Hand true
  rules_on (M.RequestNegotiation session objective) = otherwise Hand true
  rules_on (M.RequestSynchronization session objective) = otherwise Hand true
  rules_on (M.Negotiate session objective) = otherwise Hand true
  rules_on (M.End session outcome) = otherwise Hand true
  rules_on (M.Wait session time) = otherwise Hand true
  rules_on (M.Synch session objective) = otherwise Hand true
  rules_on (M.Flood session initiator ttl first pairs) = flood_rules session initiator first.objective
  rules_on (M.Invalid session item) = otherwise Hand true

  -- the verdict that is due on a message, and whether it is handed up
  abbrev pub Due : Message → Verdict → Bool → Type 0
  Due m v up = First (rules_on m) v up

  -- ---- what comes of a node call

  -- what a verdict does, once the clock is taken and the dead rows are freed: RELAY and ANSWER send, and the others
  -- send nothing
  pub data Does : Message → Verdict → Bool → After → Type 0 where
    sends_nothing : {m : Message} {v : Verdict} {up : Bool} → v ≢ Answer → v ≢ Relay
        → Does m v up (quiet v up (clocked r c.clock) (freed c.clock t) c)
    answers : {session : ℕ} {i : Span} {o : Objective}
        → Does (M.Discovery session i o) Answer false
        (answered (clocked r c.clock) (freed c.clock t) c (spread_of false session i o))
    relays_discovery : {session : ℕ} {i : Span} {o : Objective}
        → Does (M.Discovery session i o) Relay false
        (relayed (clocked r c.clock) (freed c.clock t) c (spread_of false session i o))
    relays_flood : {session ttl : ℕ} {i : Span} {first : Pair} {pairs : Series}
        → Does (M.Flood session i ttl first pairs) Relay true
        (relayed (clocked r c.clock) (freed c.clock t) c (spread_of true session i first.objective))

  -- refused by 12 to 17; else by the reading; else given the verdict that is due
  pub data Comes : After → Type 0 where
    barred_by : (refusal : Refusal) → bars r t c ≡ Err refusal → Comes (refuse refusal r t c)
    unread : (refusal : Refusal) → bar r t c ≡ 0 → read_of c.message ≡ Err refusal → Comes (refuse refusal r t c)
    given : (m : Message) (v : Verdict) (up : Bool) {a : After} → bar r t c ≡ 0 → read_of c.message ≡ Ok m
        → Due m v up → Does m v up a → Comes a
