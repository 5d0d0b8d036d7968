-- Bytes at the edges (rules 12): the node and the node calls there (the messages are those of `writer`).
use Rattle.std.specs.Prelude.{ℕ, ◌+◌, List, [], ◌∷◌, map, replicate}
use Rattle.options.specs.declared.objective.Objective.{Objective}
use Rattle.options.specs.Text.{span_of}
use Rattle.rfc8990.specs.Limits.{most_bytes}
use Rattle.writer.specs.Edges.{home}
use Rattle.node_state.specs.declared.Record.{Record}
use Rattle.node_state.specs.Record.{fresh_or_blank}
use Rattle.node_state.specs.Table.{fresh_table}
use Rattle.node.specs.Call.{call_of, After}
use Rattle.node_laws.specs.History.{Event, call, steps}

-- an objective: where its name of 3 bytes stands, its flags, its count, where the count stands, and no value after it
abbrev pub objective : ℕ → ℕ → ℕ → ℕ → Objective
objective at flags count place =
    record { name = span_of at 3; flags = flags; count = count; count_at = place; value = span_of (place + 1) 0 }

-- the node's record after some calls: 3 interfaces all up, port 7017, ttl 60,000
abbrev pub node : ℕ → ℕ → Record
node clock tally =
    record { address = home; port = 7017; ttl = 60000; interfaces = 3; links = 7; clock = clock; tally = tally }

-- a message on interface 0, with no own names and an output of 2,048 zeros
abbrev pub arrives : ℕ → List ℕ → Event
arrives clock message = call (call_of clock 0 (0x80 ∷ []) message (replicate most_bytes 0))

-- a table with row 0 filled, and the others free
abbrev pub one_row : ℕ → ℕ → ℕ → ℕ → List ℕ
one_row first second third clock = first ∷ second ∷ third ∷ clock ∷ replicate 252 0

-- what came of each node call of a list from a fresh node
abbrev pub outcomes : List Event → List After
outcomes events = map (λ x. x.after) (steps (fresh_or_blank home 7017 60000 3 7) fresh_table events)
