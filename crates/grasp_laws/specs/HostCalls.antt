-- A list of calls that C makes on one node, settings of links and node calls, each given the record and the table as
-- those before it left them; its relays as C sees them, and what demand 3 says of it (rules 13.3 to 13.8, 11.5, 11.6).
use Rattle.std.specs.Prelude.{ℕ, ◌^◌, ◌<◌, Bool, ◌&&◌, List, [], ◌∷◌, ◌≢◌, length, get_or, eqb}
use Rattle.base.specs.Pick.{pick}
use Rattle.base.specs.BigEndian.{Bytes}
use Rattle.node_state.specs.declared.Record.{Record}
use Rattle.node_state.specs.Record.{set_links, links_set}
use Rattle.node.specs.Call.{Call}
use Rattle.node_laws.specs.Relays.{Seen, seen_of, Demanded}
use Rattle.host.specs.Records.{node_of, numbers_after}
use Rattle.host.specs.Call.{Left, call_left}
use Rattle.grasp.specs.Call.{host_call}

-- ---- the two forms of a record

-- what is called on a record of the form R, and what C reads of it
pub record Form (R : Type 0) : Type 0 where
  -- the record after a setting of links
  pub set : R → ℕ → R
  -- what a node call answers and leaves, with these bytes for the table, and these numbers in the answer before it
  pub called : R → List ℕ → Call → List ℕ → Left R
  pub interfaces : R → ℕ
  pub tally : R → ℕ

-- a record in place: `grasp_record_set_links`, `grasp_record_call`
abbrev pub in_place_form : Form Record
in_place_form =
    record {
      set = links_set;
      called = call_left;
      interfaces = λ r. r.interfaces;
      tally = λ r. r.tally;
    }

-- six numbers beside an address, of which 2 is the interfaces and 5 the tally: `grasp_set_links`, `grasp_node_call`
abbrev pub as_numbers : List ℕ → Form (List ℕ)
as_numbers address =
    record {
      set = λ f mask. numbers_after (set_links (node_of address f) mask) f;
      called = host_call address;
      interfaces = λ f. get_or f 2 0;
      tally = λ f. get_or f 5 0;
    }

-- ---- the list

-- what C calls, with all arguments but the record and the table
pub data HostEvent : Type 0 where
  -- a setting of links
  sets : ℕ → HostEvent
  -- a node call on the kept table, with the answer's old numbers
  calls : Call → List ℕ → HostEvent
  -- a node call that is lent bytes of another length in the table's place, other ones or a part of the table: it leaves
  -- these as they were (`host HandedBack.other_back`)
  strays : List ℕ → Call → List ℕ → HostEvent

-- what C's types say of a node call: its clock has 64 bits, and its message is made of bytes
pub record CallFits (c : Call) : Type 0 where
  pub clock : c.clock < 2 ^ 64
  pub message : Bytes c.message

-- … and of the list's calls; what is lent in the table's place has another length
abbrev pub EventFits : HostEvent → Type 0
EventFits (sets mask) = Unit {0}
EventFits (calls c answer) = CallFits c
EventFits (strays bytes c answer) = length bytes ≢ 2048

-- a node call as C sees it: what it was given, the number that it answered, and the output and the answer after it
pub record HostStep : Type 0 where
  pub call : Call
  pub refusal : ℕ
  pub output : List ℕ
  pub answer : List ℕ

-- by what it answered and left
abbrev pub step_left : {R : Type 0} → Call → Left R → HostStep
step_left c k = record { call = c; refusal = k.refusal; output = k.output; answer = k.answer }

module _ {R : Type 0} (form : Form R) where
  -- the node calls of a list, from a record and a table
  unfoldable pub host_steps : R → List ℕ → List HostEvent → List HostStep
  host_steps r table [] = []
  host_steps r table (sets mask ∷ es) = host_steps (form.set r mask) table es
  host_steps r table (calls c answer ∷ es) =
      let k = form.called r table c answer in
      step_left c k ∷ host_steps k.node k.table es
  host_steps r table (strays bytes c answer ∷ es) =
      let k = form.called r bytes c answer in
      step_left c k ∷ host_steps k.node table es

  -- the record after the list
  unfoldable pub host_finally : R → List ℕ → List HostEvent → R
  host_finally r table [] = r
  host_finally r table (sets mask ∷ es) = host_finally (form.set r mask) table es
  host_finally r table (calls c answer ∷ es) =
      let k = form.called r table c answer in
      host_finally k.node k.table es
  host_finally r table (strays bytes c answer ∷ es) = host_finally (form.called r bytes c answer).node table es

-- ---- the relays

-- the call answered 0, and the answer's verdict, number 0, is 7: GRASP_VERDICT_RELAY
abbrev pub is_host_relay : HostStep → Bool
is_host_relay x = eqb x.refusal 0 && eqb (get_or x.answer 0 0) 7

-- mask and length are the answer's numbers 2 and 3
abbrev pub host_seen : HostStep → Seen
host_seen x = seen_of x.call (get_or x.answer 2 0) (get_or x.answer 3 0) x.output

-- the relays of a list, in their order
unfoldable pub host_relays : List HostStep → List Seen
host_relays [] = []
host_relays (x ∷ xs) = pick (is_host_relay x) (host_seen x ∷ host_relays xs) (host_relays xs)

-- demand 3's sentences about a list from a record and a table
abbrev pub HostList : {R : Type 0} → Form R → R → List ℕ → List HostEvent → Type 0
HostList form r table events =
    Demanded (form.interfaces r) (host_relays (host_steps form r table events))
    (form.tally (host_finally form r table events))
