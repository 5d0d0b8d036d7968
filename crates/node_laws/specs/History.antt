-- A list of node calls and link settings on one node, each given the record and the table as those before it left them,
-- its relays, and what demand 3 says of it (rules 13.3 to 13.8).
use Rattle.std.specs.Prelude.{ℕ, Bool, true, false, List, [], ◌∷◌, Result, Ok, Err}
use Rattle.refusal.specs.declared.Refusal.{Refusal}
use Rattle.base.specs.Pick.{pick}
use Rattle.node_state.specs.declared.Record.{Record}
use Rattle.node.specs.declared.Verdict.{Verdict}
use Rattle.node.specs.declared.Verdict.TheVariants.{Own, Answer, Duplicate, Last, Nowhere, NoRow, Relay, Noop, Hand}
use Rattle.node.specs.declared.Given.{Given}
use Rattle.node_state.specs.Record.{links_set}
use Rattle.node.specs.Call.{Call, After, node_call}
use Rattle.node_laws.specs.Relays.{Seen, seen_of, Demanded}

-- ---- the list

-- a node call, or a setting of the links
pub data Event : Type 0 where
  call : Call → Event
  links : ℕ → Event

-- a node call of the list: the record and the table it was given, its other arguments, and what came of it
pub record Step : Type 0 where
  pub node : Record
  pub table : List ℕ
  pub call : Call
  pub after : After

-- the node calls of a list
unfoldable pub steps : Record → List ℕ → List Event → List Step
steps r t [] = []
steps r t (call c ∷ es) =
    record { node = r; table = t; call = c; after = node_call r t c }
    ∷ steps (node_call r t c).node (node_call r t c).table es
steps r t (links mask ∷ es) = steps (links_set r mask) t es

-- the record after the list
unfoldable pub finally : Record → List ℕ → List Event → Record
finally r t [] = r
finally r t (call c ∷ es) = finally (node_call r t c).node (node_call r t c).table es
finally r t (links mask ∷ es) = finally (links_set r mask) t es

-- ---- what an answer says

-- the verdict is RELAY
unfoldable pub is_relay : Verdict → Bool
is_relay Own = false
is_relay Answer = false
is_relay Duplicate = false
is_relay Last = false
is_relay Nowhere = false
is_relay NoRow = false
is_relay Relay = true
is_relay Noop = false
is_relay Hand = false

-- the answer is RELAY
unfoldable pub says_relay : Result Given Refusal → Bool
says_relay (Err refusal) = false
says_relay (Ok given) = is_relay given.verdict

-- the outgoing mask, none where the call is refused
unfoldable pub mask_of : Result Given Refusal → ℕ
mask_of (Err refusal) = 0
mask_of (Ok given) = given.mask

-- how many bytes are written
unfoldable pub length_of : Result Given Refusal → ℕ
length_of (Err refusal) = 0
length_of (Ok given) = given.length

-- ---- the relays

-- a node call as a relay is seen: by its arguments, and the answer and the output after it
abbrev pub seen : Step → Seen
seen x = seen_of x.call (mask_of x.after.answer) (length_of x.after.answer) x.after.output

-- a relay is a node call of the list answered RELAY (rules 13.5)
unfoldable pub relays_of : List Step → List Seen
relays_of [] = []
relays_of (x ∷ xs) = pick (says_relay x.after.answer) (seen x ∷ relays_of xs) (relays_of xs)

-- demand 3's sentences about a list from a record and a table
abbrev pub WholeList : Record → List ℕ → List Event → Type 0
WholeList r t events = Demanded r.interfaces (relays_of (steps r t events)) (finally r t events).tally
