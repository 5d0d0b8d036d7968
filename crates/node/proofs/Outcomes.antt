-- The outcome of a node call by the way that its code takes.
-- Assumes nothing.
use mathlib.Core.Path.{◌≡◌, refl, ap, ◌∙◌}
use mathlib.Core.Bool.{true, false, not, ◌&&◌}
use mathlib.Core.List.{List}
use Prim.Native.Nat.{ℕ, ◌^◌, ◌≤◌, ◌<◌}
use native.Mathlib.Decide.{ℕ_discrete}
use native.Mathlib.Omega.{arith}
use lib.Count.{ones}
use lib.Dec.{leb}
use lib.ListN.{length}
use borrow.Author.Tests.{eq-eqb, ne_eqb, lt-ltb, le-ltb, le-leb, lt-leb, ltb-false, leb-false, not-false}
use Rattle.options.specs.Text.{held}
use Rattle.base.specs.Pick.{pick}
use Rattle.base.specs.Bits.{has_bit}
use Rattle.base.proofs.Picks.{pick-case}
use Rattle.base.proofs.Bools.{or_left, or_right}
use Rattle.message.specs.declared.Message.{Message}
use Rattle.rfc8990.specs.Limits.{most_bytes}
use Rattle.reader.specs.Read.{read_of}
use Rattle.base.specs.Bytes.{same_bytes}
use Rattle.names.specs.Names.{is_named}
use Rattle.std.specs.Prelude.{Result, Ok, Err, ⊤}
use Rattle.refusal.specs.declared.Refusal.{Refusal}
use Rattle.node_state.specs.declared.Record.{Record}
use Rattle.node.specs.declared.CallAnswer.{CallAnswer}
use Rattle.node.specs.declared.Verdict.TheVariants.{Own, Answer, Duplicate, Last, Nowhere, NoRow, Relay}
use Rattle.node.specs.declared.role.Spread.{Spread}
use Rattle.node_state.specs.declared.key.Key.{Key}
use Rattle.node_state.specs.Record.{record_bad, arrival_bad, others, clocked, tallied}
use Rattle.node_state.specs.Table.{where_sized, freed, lowest_free, filled, is_known}
use Rattle.node.specs.Role.{role_of, key_in}
use Rattle.cbor.specs.Put.{written}
use Rattle.std.specs.Result.{result_unwrap_or}
use Rattle.refusal.specs.Refusal.{answer_number}
use Rattle.writer.specs.Lower.{onward}
use Rattle.node.specs.Call.{Call, After, after_of, after_given, barred, bars, bar, gives, refuse, quiet, response}
use Rattle.node.specs.Call.{later_verdict, verdict_on, answered, relayed, carried_out, taken, received, called, node_call}
use Rattle.node.specs.Passed.{Passed, Ready}
use Rattle.node_state.proofs.Masks.{record_links, record_tally}
use Rattle.node_state.proofs.TableRows.{of_sized, of_other, length_free, table_sized}

-- ---- what was written

pub sent_length : {answer : Result ℕ Refusal} {after : List ℕ} (w : Result ℕ Refusal) (after' bytes out : List ℕ) → w ≡ answer → after' ≡ after
    → (answer ≡ Ok (length bytes)) × (after ≡ written bytes out) → {n : ℕ} → n ≡ result_unwrap_or w 0
    → (n ≡ length bytes) × (after' ≡ written bytes out)
sent_length w after' bytes out is left given e = (e ∙ ap (λ (a : Result ℕ Refusal). result_unwrap_or a 0) (is ∙ given.0), left ∙ given.1)

-- ---- a Discovery or a Flood

-- what filling gave, in a table of 256 numbers
found_sized : (t : List ℕ) (k : Key) (clock : ℕ) {row : ℕ} {t' : List ℕ} → length t ≡ 256
    → (row ≡ where_sized t (lowest_free t) 64) × (t' ≡ where_sized t (filled t k clock) t)
    → (row ≡ lowest_free t) × (t' ≡ filled t k clock)
found_sized t k clock sized found = (found.0 ∙ of_sized t (lowest_free t) 64 sized, found.1 ∙ of_sized t (filled t k clock) t sized)

-- a row was found in no table of another length
found_room : (t : List ℕ) (row : ℕ) → row ≡ where_sized t (lowest_free t) 64 → row < 64 → length t ≡ 256
found_room t row e room =
    elim (ℕ_discrete (length t) 256) [ yes sized ↦ sized | no other ↦ let none : row ≡ 64 = e ∙ of_other t (lowest_free t) 64 other in absurd (omega arith) ]

module _ (r : Record) (t : List ℕ) (c : Call) (s : Spread) where
  pub own_outcome : (b : CallAnswer) → b ≡ gives Own false 0 0 r → same_bytes (held c.message s.initiator) r.address ≡ true
      → after_given b t c.output ≡ carried_out r t c s (verdict_on r t c s)
  unfolding verdict_on carried_out quiet pick
  own_outcome b e own = rw (own, e) refl

  module _ (not_own : same_bytes (held c.message s.initiator) r.address ≡ false) where
    pub answer_outcome : (b : CallAnswer) (out : List ℕ) → b ≡ gives Answer false (2 ^ c.interface) (length (response r c.message s)) r
        → out ≡ written (response r c.message s) c.output → (not s.flood && is_named c.names (held c.message s.objective.name)) ≡ true
        → after_given b t out ≡ carried_out r t c s (verdict_on r t c s)
    unfolding verdict_on carried_out answered pick
    answer_outcome b out e f ours = rw (not_own, ours, e, f) refl

    module _ (not_named : (not s.flood && is_named c.names (held c.message s.objective.name)) ≡ false) where
      pub duplicate_outcome : (b : CallAnswer) → b ≡ gives Duplicate false 0 0 r → is_known (key_in c.message s) t ≡ true
          → after_given b t c.output ≡ carried_out r t c s (verdict_on r t c s)
      unfolding verdict_on carried_out quiet pick
      duplicate_outcome b e known = rw (not_own, not_named, known, e) refl

      pub later_outcome : (a : After) → is_known (key_in c.message s) t ≡ false → a ≡ carried_out r t c s (later_verdict r t c s)
          → a ≡ carried_out r t c s (verdict_on r t c s)
      unfolding verdict_on pick
      later_outcome a unknown e = rw (not_own, not_named, unknown) e

  pub last_outcome : (b : CallAnswer) → b ≡ gives Last s.flood 0 0 r → s.objective.count ≤ 1
      → after_given b t c.output ≡ carried_out r t c s (later_verdict r t c s)
  unfolding later_verdict carried_out quiet pick
  last_outcome b e few = rw (le-leb s.objective.count 1 few, e) refl

  module _ (counts : 1 < s.objective.count) where
    pub nowhere_outcome : (b : CallAnswer) → b ≡ gives Nowhere s.flood 0 0 r → others r c.interface ≡ 0
        → after_given b t c.output ≡ carried_out r t c s (later_verdict r t c s)
    unfolding later_verdict carried_out quiet pick
    nowhere_outcome b e none = rw (lt-leb s.objective.count 1 counts, eq-eqb (others r c.interface) 0 none, e) refl

    module _ (some : others r c.interface ≡ 0 → ⊥) where
      module _ (k : Key) (row : ℕ) (t' : List ℕ) (found : (row ≡ where_sized t (lowest_free t) 64) × (t' ≡ where_sized t (filled t k r.clock) t)) where
        pub norow_outcome : length t ≡ 256 → (b : CallAnswer) → b ≡ gives NoRow s.flood 0 0 r → 64 ≤ row
            → after_given b t' c.output ≡ carried_out r t c s (later_verdict r t c s)
        unfolding later_verdict carried_out quiet filled pick
        norow_outcome sized b e full =
            let (lowest, left) = found_sized t k r.clock sized found in
            let none : 64 ≤ lowest_free t = rw lowest at full in
            rw (
              lt-leb s.objective.count 1 counts,
              ne_eqb (others r c.interface) 0 some,
              left,
              le-leb 64 (lowest_free t) none,
              le-ltb (lowest_free t) 64 none,
              e,
            ) refl

        pub relay_outcome : k ≡ key_in c.message s → (b : CallAnswer) (out : List ℕ)
            → b ≡ gives Relay s.flood (others r c.interface) (length (onward c.message s.objective)) (tallied r (ones (others r c.interface)))
            → out ≡ written (onward c.message s.objective) c.output → row < 64 → after_given b t' out ≡ carried_out r t c s (later_verdict r t c s)
        unfolding later_verdict carried_out relayed filled pick
        relay_outcome keyed b out e g room =
            let (lowest, left) = found_sized t k r.clock (found_room t row found.0 room) found in
            let free : lowest_free t < 64 = rw lowest at room in
            rw (
              lt-leb s.objective.count 1 counts,
              ne_eqb (others r c.interface) 0 some,
              left,
              keyed,
              lt-leb 64 (lowest_free t) free,
              lt-ltb (lowest_free t) 64 free,
              e,
              g,
            ) refl

-- ---- the whole call

-- nothing bars the call
pub passed : (r : Record) (t : List ℕ) (clock i : ℕ) (names : List ℕ) (room : ℕ) → answer_number (barred r t clock i names room) ≡ 0
    → Passed r t clock i room
unfolding barred
passed r t clock i names room =
    let P : Result ⊤ Refusal → Type 0 = λ a. answer_number a ≡ 0 → Passed r t clock i room in
    pick-case P _ (λ _ e. absurd (omega arith))
    (λ good. pick-case P _ (λ _ e. absurd (omega arith))
    (λ arrives. pick-case P _ (λ _ e. absurd (omega arith))
    (λ later. pick-case P _ (λ _ e. absurd (omega arith))
    (λ table. pick-case P _ (λ _ e. absurd (omega arith))
    (λ named. pick-case P _ (λ _ e. absurd (omega arith))
    (λ fits e. record {
      good = good;
      arrives = arrives;
      later = ltb-false clock r.clock later;
      table = table;
      fits = ltb-false room most_bytes fits;
    }))))))

-- what holds of a call that nothing bars, and of one that is barred
pub call_case : (P : After → Type 0) (r : Record) (t : List ℕ) (c : Call) → (bar r t c ≡ 0 → P (received r t c (read_of c.message)))
    → ((refusal : Refusal) → bars r t c ≡ Err refusal → P (refuse refusal r t c)) → P (node_call r t c)
unfolding node_call called
call_case P r t c f g = by (bars r t c) refl
  where
    by : (a : Result ⊤ Refusal) → bars r t c ≡ a → P (called r t c a)
    by (Ok free) e = f (ap answer_number e)
    by (Err refusal) e = g refusal e

-- the arriving interface is one of eight, and its link is up
pub arrival_small : (r : Record) (i : ℕ) → record_bad r ≡ false → arrival_bad r i ≡ false → i < 8
unfolding arrival_bad
arrival_small r i good e = omega (arith, leb-false r.interfaces i (or_left (leb r.interfaces i) (not (has_bit r.links i)) e), (record_links r good).most)

pub arrival_up : (r : Record) (i : ℕ) → arrival_bad r i ≡ false → has_bit r.links i ≡ true
unfolding arrival_bad
arrival_up r i e = not-false (has_bit r.links i) (or_right (leb r.interfaces i) (not (has_bit r.links i)) e)

-- so the verdicts have what they rest on
pub readied : (r : Record) (t : List ℕ) (clock i room : ℕ) → Passed r t clock i room → Ready (clocked r clock) (freed clock t) i room
unfolding clocked freed
readied r t clock i room p =
    record {
      sized = length_free clock t 64 ∙ table_sized clock t p.table;
      up = arrival_up r i p.arrives;
      tally = record_tally r p.good;
      fits = p.fits;
    }

-- and the table is freed
pub passed_freed : {r : Record} {t t' : List ℕ} {clock i room : ℕ} → Passed r t clock i room → t' ≡ where_sized t (freed clock t) t → t' ≡ freed clock t
passed_freed {t = t} {clock = clock} p e = e ∙ of_sized t (freed clock t) t (table_sized clock t p.table)

module _ (r : Record) (t : List ℕ) (c : Call) where
  pub barred_outcome : {refusal : Refusal} {b : Result ⊤ Refusal} {a : Result CallAnswer Refusal} → b ≡ bars r t c → b ≡ Err refusal → a ≡ Err refusal
      → after_of r a t c.output ≡ node_call r t c
  unfolding node_call called refuse after_of
  barred_outcome is e same = rw (same, ← is, e) refl

  module _ {b : Result ⊤ Refusal} {free : ⊤} (is : b ≡ bars r t c) (none : b ≡ Ok free) where
    pub refused_outcome : (refusal : Refusal) {a : Result CallAnswer Refusal} → read_of c.message ≡ Err refusal → a ≡ Err refusal
        → after_of r a t c.output ≡ node_call r t c
    unfolding node_call called received refuse after_of
    refused_outcome refusal read same = rw (same, ← is, none, read) refl

    pub taken_outcome : (m : Message) (b : CallAnswer) (t' out : List ℕ) → read_of c.message ≡ Ok m
        → after_given b t' out ≡ taken (clocked r c.clock) (freed c.clock t) c (role_of m) → after_of r (Ok b) t' out ≡ node_call r t c
    unfolding node_call called received after_of
    taken_outcome m b t' out read e = rw (← is, none, read) e
