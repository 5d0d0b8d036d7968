-- What C keeps and sees of a list of calls: the record in place and the table's bytes are those of the node's list, and
-- so are the relays; a record as numbers is seen as one in place.
-- Assumes nothing.
use Prim.Native.Nat.{ℕ}
use mathlib.Core.Path.{◌≡◌, refl, sym, ap, ◌∙◌}
use mathlib.Core.List.{List, [], ◌∷◌}
use native.Mathlib.Omega.{arith}
use lib.Dec.{eqb}
use borrow.Author.Tests.{ne_eqb, eqb-false}
use Rattle.base.specs.Pick.{pick}
use Rattle.base.specs.Lists.{Every}
use Rattle.refusal.specs.Refusal.{number_of}
use Rattle.refusal.proofs.Refusals.{some_number}
use Rattle.base.proofs.Picks.{pick-case, both}
use Rattle.node_state.specs.declared.Record.{Record}
use Rattle.std.specs.Prelude.{Result, Ok, Err}
use Rattle.refusal.specs.declared.Refusal.{Refusal}
use Rattle.std.specs.Result.{result_unwrap_or}
use Rattle.node_state.specs.Record.{linked, set_links, links_set}
use Rattle.node.specs.declared.Verdict.{Verdict}
use Rattle.node.specs.declared.Verdict.TheVariants.{Own, Answer, Duplicate, Last, Nowhere, NoRow, Relay, Noop, Hand}
use Rattle.node.specs.declared.Given.{Given}
use Rattle.node.specs.Call.{Call, After, node_call}
use Rattle.node_laws.specs.Relays.{Seen, seen_of}
use Rattle.node_laws.specs.History.{Event, call, links, steps, finally, is_relay, says_relay, mask_of, length_of, seen, relays_of}
use Rattle.host.specs.Records.{node_of, node_numbers}
use Rattle.host.specs.Table.{saved}
use Rattle.host.specs.Call.{verdict_number, answer_numbers, Left, left_of, left_after, call_left}
use Rattle.host.specs.Widths.{RecordFits, TableFits}
use Rattle.host.proofs.HandedBack.{record_back, linked_record_fits, call_table_fits, saved_in, put_back, left_back, left_still, left_fits, other_back}
use Rattle.grasp.specs.Call.{host_call}
use Rattle.grasp_laws.specs.HostCalls.{in_place_form, as_numbers, HostEvent, sets, calls, strays, EventFits, HostStep, step_left, host_steps, host_finally}
use Rattle.grasp_laws.specs.HostCalls.{is_host_relay, host_seen, host_relays}

-- ---- one node call

-- the number 7 is RELAY's alone
relay_number : (v : Verdict) → eqb (verdict_number v) 7 ≡ is_relay v
unfolding is_relay
relay_number Own = refl
relay_number Answer = refl
relay_number Duplicate = refl
relay_number Last = refl
relay_number Nowhere = refl
relay_number NoRow = refl
relay_number Relay = refl
relay_number Noop = refl
relay_number Hand = refl

-- a call of which C sees this, in front of later relays
in_front : Call → Left Record → List Seen → List Seen
in_front c k rest = pick (is_host_relay (step_left c k)) (host_seen (step_left c k) ∷ rest) rest

-- by its answer; r, bytes and answer are as before it
module _ (r : Record) (bytes answer : List ℕ) (c : Call) (n : After) (rest : List Seen) where
  by_answer : (x : Result Given Refusal)
      → in_front c (left_after r bytes c answer n x) rest ≡ pick (says_relay x) (seen_of c (mask_of x) (length_of x) n.output ∷ rest) rest
  unfolding in_front left_after answer_numbers says_relay mask_of length_of pick
  by_answer (Err refusal) =
      let some : number_of refusal ≡ 0 → ⊥ = λ z. let k = some_number refusal in omega arith in
      rw (ne_eqb (number_of refusal) 0 some) refl
  by_answer (Ok given) = rw (relay_number given.verdict) refl

-- ---- a list, the record in place

-- the node's list
pub events_of : List HostEvent → List Event
events_of [] = []
events_of (sets mask ∷ es) = links mask ∷ events_of es
events_of (calls c answer ∷ es) = call c ∷ events_of es
events_of (strays bytes c answer ∷ es) = events_of es

module _ (r : Record) (t : List ℕ) (c : Call) (answer : List ℕ) (fits : TableFits t) (rest : List Seen) where
  relay_alike : in_front c (call_left r (saved t) c answer) rest
      ≡ pick (says_relay (node_call r t c).answer)
      (seen (record { node = r; table = t; call = c; after = node_call r t c }) ∷ rest) rest
  unfolding call_left
  relay_alike = rw (saved_in t fits) (by_answer r (saved t) answer c (node_call r t c) rest (node_call r t c).answer)

-- a call that is lent other bytes is no relay
stray_alike : (r : Record) (bytes : List ℕ) (c : Call) (answer : List ℕ) (rest : List Seen) → EventFits (strays bytes c answer)
    → in_front c (call_left r bytes c answer) rest ≡ rest
unfolding in_front pick
stray_alike r bytes c answer rest other =
    let (number, least, most, same) = other_back r bytes c answer other in
    rw (same, ne_eqb number 0 (λ e. omega arith)) refl

-- C's list is seen as the node's, and leaves the same record
pub record Alike (r : Record) (t : List ℕ) (es : List HostEvent) : Type 0 where
  pub relays : host_relays (host_steps in_place_form r (saved t) es) ≡ relays_of (steps r t (events_of es))
  pub final : host_finally in_place_form r (saved t) es ≡ finally r t (events_of es)

pub alike : (es : List HostEvent) (r : Record) (t : List ℕ) → TableFits t → Every EventFits es → Alike r t es
unfolding host_steps host_finally host_relays steps finally relays_of events_of in_front
alike [] r t fits h = record { relays = refl; final = refl }
alike (sets mask ∷ es) r t fits h = let rest = alike es (links_set r mask) t fits h.1 in record { relays = rest.relays; final = rest.final }
alike (calls c answer ∷ es) r t fits h =
    let k = call_left r (saved t) c answer in
    let n = node_call r t c in
    let (number, node, table) = left_back r t c answer fits in
    let rest = alike es n.node n.table (call_table_fits r t c h.0.clock h.0.message fits) h.1 in
    let later : host_relays (host_steps in_place_form k.node k.table es) ≡ relays_of (steps n.node n.table (events_of es)) =
    rw (node, table) rest.relays in
    record {
      relays = ap (λ (l : List Seen). in_front c k l) later ∙ relay_alike r t c answer fits (relays_of (steps n.node n.table (events_of es)));
      final = rw (node, table) rest.final;
    }
alike (strays bytes c answer ∷ es) r t fits h =
    let same = ap (λ (k : Left Record). k.node) (other_back r bytes c answer h.0).3 in
    let rest = alike es r t fits h.1 in
    record { relays = stray_alike r bytes c answer _ h.0 ∙ rw same rest.relays; final = rw same rest.final }

-- ---- a record as numbers

-- a setting of links keeps the address
links_address : (r : Record) (mask : ℕ) → (links_set r mask).address ≡ r.address
unfolding set_links linked
links_address r mask = both Same _ refl (both Same _ refl refl)
  where
    Same : Result Record Refusal → Type 0
    Same k = (result_unwrap_or k r).address ≡ r.address

module _ (address : List ℕ) where
  -- a record that its address and its numbers say
  pub record Kept (r : Record) : Type 0 where
    pub fits : RecordFits r
    pub at : r.address ≡ address

  kept_back : (r : Record) → Kept r → node_of address (node_numbers r) ≡ r
  kept_back r kept = rw (← kept.at) (record_back r kept.fits)

  set_alike : (r : Record) (mask : ℕ) → Kept r → (as_numbers address).set (node_numbers r) mask ≡ node_numbers (links_set r mask)
  set_alike r mask kept = rw (kept_back r kept) (put_back r (set_links r mask))

  call_alike : (r : Record) (bytes : List ℕ) (c : Call) (answer : List ℕ) → Kept r
      → host_call address (node_numbers r) bytes c answer
      ≡ (let k = call_left r bytes c answer in left_of k.refusal (node_numbers k.node) k.table k.output k.answer)
  unfolding host_call
  call_alike r bytes c answer kept =
      let k = call_left r bytes c answer in
      let same : pick (eqb k.refusal 0) (node_numbers k.node) (node_numbers r) ≡ node_numbers k.node =
      pick-case (λ (l : List ℕ). l ≡ node_numbers k.node) (eqb k.refusal 0) (λ _. refl)
      (λ e. ap node_numbers (sym (left_still r bytes c answer (eqb-false k.refusal 0 e)))) in
      rw (kept_back r kept, same) refl

  kept_links : (r : Record) (mask : ℕ) → Kept r → Kept (links_set r mask)
  kept_links r mask kept = record { fits = linked_record_fits r mask kept.fits; at = links_address r mask ∙ kept.at }

  kept_call : (r : Record) (bytes : List ℕ) (c : Call) (answer : List ℕ) → Kept r → Kept (call_left r bytes c answer).node
  kept_call r bytes c answer kept = let (fits, same) = left_fits r bytes c answer kept.fits in record { fits = fits; at = same ∙ kept.at }

  -- C sees of the numbers what it sees of the record in place, and the numbers stay those of that record
  pub record SameInPlace (r : Record) (table : List ℕ) (es : List HostEvent) : Type 0 where
    pub steps : host_steps (as_numbers address) (node_numbers r) table es ≡ host_steps in_place_form r table es
    pub final : host_finally (as_numbers address) (node_numbers r) table es ≡ node_numbers (host_finally in_place_form r table es)

  pub numbers_alike : (es : List HostEvent) (r : Record) (table : List ℕ) → Kept r → SameInPlace r table es
  unfolding host_steps host_finally
  numbers_alike [] r table kept = record { steps = refl; final = refl }
  numbers_alike (sets mask ∷ es) r table kept =
      let rest = numbers_alike es (links_set r mask) table (kept_links r mask kept) in
      record { steps = rw (set_alike r mask kept) rest.steps; final = rw (set_alike r mask kept) rest.final }
  numbers_alike (calls c answer ∷ es) r table kept =
      let k = call_left r table c answer in
      let rest = numbers_alike es k.node k.table (kept_call r table c answer kept) in
      record {
        steps = rw (call_alike r table c answer kept) (ap (λ (l : List HostStep). step_left c k ∷ l) rest.steps);
        final = rw (call_alike r table c answer kept) rest.final;
      }
  numbers_alike (strays bytes c answer ∷ es) r table kept =
      let k = call_left r bytes c answer in
      let rest = numbers_alike es k.node table (kept_call r bytes c answer kept) in
      record {
        steps = rw (call_alike r bytes c answer kept) (ap (λ (l : List HostStep). step_left c k ∷ l) rest.steps);
        final = rw (call_alike r bytes c answer kept) rest.final;
      }
