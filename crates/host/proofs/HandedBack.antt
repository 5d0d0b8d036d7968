-- What a call hands back to C is what the next call takes: no number is lost between them. For readers: each statement
-- at the end stands alone.
-- Assumes nothing.
use Prim.Native.Nat.{ℕ, ◌*◌, ◌^◌, ◌≤◌, ◌<◌}
use mathlib.Core.Path.{◌≡◌, refl, sym, ap, ◌∙◌}
use mathlib.Core.List.{List, [], ◌∷◌}
use native.Mathlib.Nat.{le_trans}
use native.Mathlib.Omega.{arith}
use lib.Pow.{pow_mono}
use lib.Dec.{leb, lit≤}
use lib.ListN.{length, drop}
use borrow.Author.Tests.{lt-leb, le-ltb, leb-false, ne_eqb}
use Rattle.std.specs.Prelude.{Result, Ok, Err, ⊤}
use Rattle.base.specs.Pick.{pick}
use Rattle.base.specs.BigEndian.{Bytes}
use Rattle.refusal.specs.Refusal.{number_of, answer_number}
use Rattle.refusal.proofs.Refusals.{some_number}
use Rattle.base.proofs.Picks.{pick-case, both}
use Rattle.base.proofs.Parts.{bytes_drop, bytes_take}
use Rattle.options.specs.Text.{held}
use Rattle.message.specs.Opening.{most_number}
use Rattle.message.specs.declared.Message.{Message}
use Rattle.reader.specs.Read.{read_of}
use Rattle.negotiation.specs.declared.Side.{Side}
use Rattle.negotiation.specs.declared.Side.TheVariants.{Us, Them}
use Rattle.negotiation.specs.declared.State.{State}
use Rattle.negotiation.specs.declared.State.TheVariants.{Fresh, Open, Closed}
use Rattle.negotiation.specs.Step.{step}
use Rattle.negotiation.specs.Allowed.{Allowed}
use Rattle.negotiation.proofs.Accepted.{moved_exactly, session_most, count_most}
use Rattle.node_state.specs.declared.Record.{Record}
use Rattle.refusal.specs.declared.Refusal.{Refusal}
use Rattle.std.specs.Result.{result_unwrap_or}
use Rattle.node_state.specs.Record.{links_bad, record_bad, blank, fresh, fresh_or_blank, linked, set_links, links_set, clocked, tallied}
use Rattle.node_state.specs.Table.{table_bad, freed}
use Rattle.node_state.proofs.TableRows.{table_sized}
use Rattle.node_state.proofs.Masks.{links_fit, fit_small, record_links}
use Rattle.node.specs.declared.Given.{Given}
use Rattle.node.specs.Role.{key_in}
use Rattle.node.specs.Call.{Call, After, barred, bars, bar, refuse, called, node_call}
use Rattle.node.proofs.Spreads.{role_spreading}
use Rattle.host.specs.Records.{node_of, node_numbers, numbers_after}
use Rattle.host.specs.Table.{table_bytes, saved}
use Rattle.host.specs.States.{side_of, state_of, state_numbers}
use Rattle.host.specs.Call.{table_in, left_of, left_after, call_left}
use Rattle.host.specs.Widths.{RecordFits, TableFits, StateFits}
use Rattle.host.proofs.Numbers.{length_saved, saved_loads}
use Rattle.host.proofs.Calls.{call_still, table_in_lem}
use Rattle.host.proofs.Fits.{put_fits, free_fits, key_fits, call_leaves, blank_fits, KeptFits, counted_fits}

-- bytes that were saved hold their table
pub saved_in : (t : List ℕ) → TableFits t → table_in (saved t) ≡ t
saved_in t fits = table_in_lem (saved t) (length_saved t ∙ ap (λ (n : ℕ). 8 * n) fits.sized) ∙ saved_loads t fits

-- a list that is no table bars a call, by 12 to 15
other_barred : (r : Record) (c : Call) → (12 ≤ bar r (0 ∷ []) c) × (bar r (0 ∷ []) c ≤ 15)
unfolding barred
other_barred r c =
    both Bars _ (lit≤ tt, lit≤ tt)
    (both Bars _ (lit≤ tt, lit≤ tt)
    (both Bars _ (lit≤ tt, lit≤ tt)
    (pick-case Bars (table_bad c.clock (0 ∷ [])) (λ _. (lit≤ tt, lit≤ tt)) (λ good. absurd (omega (arith, table_sized c.clock (0 ∷ []) good))))))
  where
    Bars : Result ⊤ Refusal → Type 0
    Bars a = (12 ≤ answer_number a) × (answer_number a ≤ 15)

-- a node call leaves the address
call_address : (r : Record) (t : List ℕ) (c : Call) → (node_call r t c).node.address ≡ r.address
unfolding clocked tallied
call_address r t c = call_leaves r t c (λ r' _. r'.address ≡ r.address) refl (λ _ _. refl) refl

-- for readers

-- A record's numbers say that record.
pub record_back : (r : Record) → RecordFits r → node_of r.address (node_numbers r) ≡ r
unfolding node_of node_numbers pick
record_back r f =
    rw (
      lt-leb (2 ^ 16) r.port f.port,
      lt-leb (2 ^ 32) r.ttl f.ttl,
      lt-leb (2 ^ 8) r.interfaces f.interfaces,
      lt-leb (2 ^ 8) r.links f.links,
    ) refl

-- A state's numbers say that state.
pub state_back : (s : State) → StateFits s → state_of (state_numbers s) ≡ s
unfolding state_of state_numbers side_of pick
state_back Fresh f = refl
state_back (Open session count Us) f = rw (le-ltb most_number session (omega (arith, f.0)), le-ltb 255 count (omega (arith, f.1))) refl
state_back (Open session count Them) f = rw (le-ltb most_number session (omega (arith, f.0)), le-ltb 255 count (omega (arith, f.1))) refl
state_back Closed f = refl

-- The record that a fresh one, a setting of links and a node call give fits.
pub fresh_record_fits : (address : List ℕ) (port ttl interfaces mask : ℕ) → port < 2 ^ 16 → ttl < 2 ^ 32
    → RecordFits (fresh_or_blank address port ttl interfaces mask)
unfolding fresh
fresh_record_fits address port ttl interfaces mask p l =
    pick-case (KeptFits blank) (links_bad interfaces mask) (λ _. blank_fits)
    (λ good.
    let f = links_fit interfaces mask good in
    record { port = p; ttl = l; interfaces = omega (arith, f.most); links = fit_small interfaces mask f })

pub linked_record_fits : (r : Record) (mask : ℕ) → RecordFits r → RecordFits (links_set r mask)
unfolding set_links linked
linked_record_fits r mask f =
    pick-case (KeptFits r) (record_bad r) (λ _. f)
    (λ good. pick-case (KeptFits r) (leb (2 ^ r.interfaces) mask) (λ _. f)
    (λ low.
    let small : mask < 2 ^ 8 = le_trans (leb-false (2 ^ r.interfaces) mask low) (pow_mono (record_links r good).most) in
    record { port = f.port; ttl = f.ttl; interfaces = f.interfaces; links = small }))

pub call_record_fits : (r : Record) (t : List ℕ) (c : Call) → RecordFits r → RecordFits (node_call r t c).node
unfolding clocked tallied
call_record_fits r t c f = call_leaves r t c (λ r' _. RecordFits r') (counted_fits _ _ f) (λ _ _. counted_fits _ _ f) f

-- A table of 256 numbers of 64 bits stays one, by a node call whose clock has 64 bits and whose message is made of
-- bytes, as C's are.
pub call_table_fits : (r : Record) (t : List ℕ) (c : Call) → c.clock < 2 ^ 64 → Bytes c.message → TableFits t → TableFits (node_call r t c).table
unfolding freed key_in
call_table_fits r t c clock bytes w =
    let freed-fits = free_fits c.clock t 64 w in
    call_leaves r t c (λ _ t'. TableFits t') freed-fits
    (λ s role. put_fits _ _ _ _
    (key_fits s.flood s.session (held c.message s.initiator) (role_spreading c.message s role).session
    (bytes_take s.initiator.len (drop s.initiator.at c.message) (bytes_drop s.initiator.at c.message bytes)))
    clock freed-fits) w

-- A state that a step leads to fits, where the one before it did.
pub step_fits : (s : State) (message : List ℕ) (sender : Side) (next : State) → StateFits s → step s message sender ≡ Ok next → StateFits next
step_fits s message sender next fits moved = let (m, read, allowed) = (moved_exactly s message sender next).0 moved in go read allowed fits
  where
    go : {m : Message} {s next : State} → read_of message ≡ Ok m → Allowed sender m s next → StateFits s → StateFits next
    go read (Allowed.request n c least) f = (omega (arith, session_most message _ _ read n.of_session), omega (arith, count_most message _ _ read c))
    go read (Allowed.negotiate n c least lower) f = (f.0, omega (arith, f.1))
    go read (Allowed.wait n some) f = f
    go read (Allowed.end n some) f = tt

-- A record's numbers with an answer put over them are those of the record that is left.
pub put_back : (r : Record) (k : Result Record Refusal) → numbers_after k (node_numbers r) ≡ node_numbers (result_unwrap_or k r)
unfolding numbers_after
put_back r (Ok node) = refl
put_back r (Err refusal) = refl

-- A node call on the bytes of a table leaves what the node call on the table leaves: the number of the refusal, the
-- record, and the table's bytes.
pub left_back : (r : Record) (t : List ℕ) (c : Call) (answer : List ℕ) → TableFits t
    → ((call_left r (saved t) c answer).refusal ≡ answer_number (node_call r t c).answer)
    × ((call_left r (saved t) c answer).node ≡ (node_call r t c).node)
    × ((call_left r (saved t) c answer).table ≡ saved (node_call r t c).table)
unfolding call_left left_after
left_back r t c answer fits = rw (saved_in t fits) (by n.answer refl)
  where
    n : After
    n = node_call r t c

    by : (x : Result Given Refusal) → n.answer ≡ x
        → ((left_after r (saved t) c answer n x).refusal ≡ answer_number n.answer) × ((left_after r (saved t) c answer n x).node ≡ n.node)
        × ((left_after r (saved t) c answer n x).table ≡ saved n.table)
    by (Ok given) e = (ap answer_number (sym e), refl, refl)
    by (Err refusal) e =
        let some = some_number refusal in
        let number = ap answer_number e in
        let still = call_still r t c (λ none. omega arith) in
        (ap answer_number (sym e), sym still.0, ap saved (sym still.1))

-- A node call that is refused leaves the record, whatever bytes it is lent for the table.
pub left_still : (r : Record) (bytes : List ℕ) (c : Call) (answer : List ℕ) → ((call_left r bytes c answer).refusal ≡ 0 → ⊥)
    → (call_left r bytes c answer).node ≡ r
unfolding call_left left_after
left_still r bytes c answer = by (node_call r (table_in bytes) c).answer
  where
    by : (x : Result Given Refusal) → ((left_after r bytes c answer (node_call r (table_in bytes) c) x).refusal ≡ 0 → ⊥)
        → (left_after r bytes c answer (node_call r (table_in bytes) c) x).node ≡ r
    by (Ok given) ne = absurd (ne refl)
    by (Err refusal) ne = refl

-- The record that a node call leaves fits where the one before it did, and has its address.
pub left_fits : (r : Record) (bytes : List ℕ) (c : Call) (answer : List ℕ) → RecordFits r
    → RecordFits (call_left r bytes c answer).node × ((call_left r bytes c answer).node.address ≡ r.address)
unfolding call_left left_after
left_fits r bytes c answer fits = by (node_call r (table_in bytes) c).answer
  where
    by : (x : Result Given Refusal)
        → RecordFits (left_after r bytes c answer (node_call r (table_in bytes) c) x).node
        × ((left_after r bytes c answer (node_call r (table_in bytes) c) x).node.address ≡ r.address)
    by (Ok given) = (call_record_fits r (table_in bytes) c fits, call_address r (table_in bytes) c)
    by (Err refusal) = (fits, refl)

-- A node call that is lent bytes of another length for the table is refused, by 12 to 15, and leaves all as it was.
pub other_back : (r : Record) (bytes : List ℕ) (c : Call) (answer : List ℕ) → (length bytes ≡ table_bytes → ⊥)
    → (number : ℕ) × (12 ≤ number) × (number ≤ 15) × (call_left r bytes c answer ≡ left_of number r bytes c.output answer)
unfolding call_left left_after table_in pick node_call called refuse
other_back r bytes c answer other = rw (ne_eqb (length bytes) table_bytes other) (by (bars r (0 ∷ []) c) (other_barred r c))
  where
    by : (a : Result ⊤ Refusal) → (12 ≤ answer_number a) × (answer_number a ≤ 15)
        → (number : ℕ) × (12 ≤ number) × (number ≤ 15)
        × (left_after r bytes c answer (called r (0 ∷ []) c a) (called r (0 ∷ []) c a).answer ≡ left_of number r bytes c.output answer)
    by (Ok free) (least, most) = absurd (omega arith)
    by (Err refusal) (least, most) = (number_of refusal, least, most, refl)
