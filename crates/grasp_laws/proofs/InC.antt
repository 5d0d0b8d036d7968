-- Demand 3 for what C keeps and sees. For readers: each statement at the end stands alone.
-- Assumes nothing.
use Prim.Native.Nat.{ℕ, zero, suc, ◌^◌, ◌<◌}
use mathlib.Core.Path.{◌≡◌, refl, sym, ap, subst}
use mathlib.Core.List.{List}
use mathlib.Core.Logic.{◌≢◌}
use native.Mathlib.Omega.{arith}
use lib.Dec.{lit<}
use lib.ListN.{length, replicate, length-replicate}
use Rattle.base.specs.BigEndian.{Bytes}
use Rattle.base.specs.Lists.{Every}
use Rattle.base.specs.Pick.{pick}
use Rattle.base.proofs.Picks.{pick-case, both}
use Rattle.node_state.specs.declared.Record.{Record}
use Rattle.std.specs.Prelude.{Result}
use Rattle.refusal.specs.declared.Refusal.{Refusal}
use Rattle.std.specs.Result.{result_unwrap_or}
use Rattle.refusal.specs.Refusal.{answer_number}
use Rattle.node_state.specs.Record.{links_bad, begun, blank, fresh}
use Rattle.node_laws.proofs.Whole.{whole}
use Rattle.negotiation.specs.Turns.{BoundedIn}
use Rattle.negotiation.proofs.Turns.{negotiation_bounded}
use Rattle.host.specs.Records.{node_numbers, numbers_after, put_over, fresh_over}
use Rattle.host.specs.Table.{loaded}
use Rattle.host.specs.Widths.{RecordFits}
use Rattle.host.specs.States.{state_of}
use Rattle.host.proofs.Numbers.{loaded_saves}
use Rattle.host.proofs.Fits.{loaded_fits}
use Rattle.host.proofs.HandedBack.{fresh_record_fits}
use Rattle.grasp_laws.specs.HostCalls.{HostEvent, EventFits, in_place_form, as_numbers, HostList}
use Rattle.grasp_laws.specs.HostDemand.{Demand3InC}
use Rattle.grasp_laws.proofs.Keeping.{events_of, alike, Kept, numbers_alike}
use Rattle.grasp_laws.proofs.Stepping.{by_sides, accepted_alike}

-- ---- a fresh record, and bytes that are all 0

zero_bytes : (n : ℕ) → Bytes (replicate n 0)
zero_bytes zero i = lit< tt
zero_bytes (suc n) zero = lit< tt
zero_bytes (suc n) (suc i) = zero_bytes n i

module _ (address : List ℕ) (port ttl interfaces mask : ℕ) where
  over_tally : (before : Record) → (answer_number (fresh address port ttl interfaces mask) ≢ 0 → before ≡ blank)
      → (fresh_over before address port ttl interfaces mask).node.tally ≡ 0
  unfolding put_over fresh pick
  over_tally before =
      both (λ (k : Result Record Refusal). (answer_number k ≢ 0 → before ≡ blank) → (put_over before k).node.tally ≡ 0)
      (links_bad interfaces mask) (λ zeros. ap (λ (r : Record). r.tally) (zeros (λ e. omega arith))) (λ _. refl)

  -- the numbers are those of a record that has tallied nothing
  record Begins (numbers : List ℕ) : Type 0 where
    node : Record
    kept : Kept address node
    none : node.tally ≡ 0
    are : numbers ≡ node_numbers node

  begins : (before : List ℕ) → (answer_number (fresh address port ttl interfaces mask) ≢ 0 → before ≡ replicate 6 0) → port < 2 ^ 16 → ttl < 2 ^ 32
      → Begins (numbers_after (fresh address port ttl interfaces mask) before)
  unfolding fresh numbers_after node_numbers pick
  begins before zeros p l =
      pick-case
      (λ (k : Result Record Refusal). (answer_number k ≢ 0 → before ≡ replicate 6 0) → RecordFits (result_unwrap_or k blank) → Begins (numbers_after k before))
      (links_bad interfaces mask)
      (λ _ zeros _. record {
        node = begun address 0 0 0 0;
        kept = record { fits = record { port = lit< tt; ttl = lit< tt; interfaces = lit< tt; links = lit< tt }; at = refl };
        none = refl;
        are = zeros (λ e. omega arith);
      })
      (λ _ _ fits. record { node = begun address port ttl interfaces mask; kept = record { fits = fits; at = refl }; none = refl; are = refl })
      zeros (fresh_record_fits address port ttl interfaces mask p l)

-- for readers

-- Demand 3 for one list, from any table of 2,048 bytes and a record in place that has tallied nothing.
pub in_place_whole : (r : Record) (table : List ℕ) (events : List HostEvent) → r.tally ≡ 0 → length table ≡ 2048 → Bytes table → Every EventFits events
    → HostList in_place_form r table events
in_place_whole r table events none sized bytes h =
    let same = alike events r (loaded table) (loaded_fits table bytes) h in
    rw (← loaded_saves table sized bytes, same.relays, same.final) (whole r (loaded table) (events_of events) none)

-- The same for a record as numbers, which are those of a record with C's widths and this address.
pub numbers_whole : (address : List ℕ) (r : Record) (table : List ℕ) (events : List HostEvent) → RecordFits r → r.address ≡ address → r.tally ≡ 0
    → length table ≡ 2048 → Bytes table → Every EventFits events
    → HostList (as_numbers address) (node_numbers r) table events
unfolding node_numbers
numbers_whole address r table events fits at none sized bytes h =
    let same = numbers_alike address events r table (record { fits = fits; at = at }) in
    rw (same.steps, same.final) (in_place_whole r table events none sized bytes h)

-- Demand 3, entire, for what C keeps and sees.
pub demand3_in_c : Demand3InC
unfolding state_of pick
demand3_in_c = record {
  in_place = λ before address port ttl interfaces mask events zeros h.
      in_place_whole (fresh_over before address port ttl interfaces mask).node (replicate 2048 0) events
      (over_tally address port ttl interfaces mask before zeros) (length-replicate {A = ℕ} 2048 0) (zero_bytes 2048) h;
  numbers = λ before address port ttl interfaces mask events zeros h p l.
      let b = begins address port ttl interfaces mask before zeros p l in
      rw b.are
      (numbers_whole address b.node (replicate 2048 0) events b.kept.fits b.kept.at b.none (length-replicate {A = ℕ} 2048 0) (zero_bytes 2048) h);
  negotiation = λ messages h. subst BoundedIn (sym (accepted_alike messages h (replicate 4 0))) (negotiation_bounded (by_sides messages));
}
