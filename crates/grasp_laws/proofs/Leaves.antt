-- A refused call of C leaves what it was lent as it was: block, length, output, record, table, answer, state. For readers:
-- each statement at the end stands alone.
-- Assumes nothing.
use Rattle.reader.specs.Read.{Reading}
use Prim.Native.Nat.{ℕ, ◌-◌}
use mathlib.Core.Path.{◌≡◌, refl}
use mathlib.Core.Logic.{◌≢◌}
use mathlib.Core.List.{List}
use native.Mathlib.Omega.{arith}
use lib.ListN.{length}
use borrow.Author.Tests.{ne_eqb}
use Rattle.std.specs.Prelude.{Ok, Err}
use Rattle.options.specs.Part.{Read}
use Rattle.options.specs.declared.locator.Locator.{Locator}
use Rattle.options.specs.declared.pair.Pair.{Pair}
use Rattle.base.specs.Pick.{pick}
use Rattle.options.specs.Locator.{locator_at}
use Rattle.options.specs.Pair.{pair_at}
use Rattle.options.proofs.Fits.{LocatorOk, locator_within, PairOk, pair_within}
use Rattle.reader.specs.Read.{read_of}
use Rattle.description.specs.declared.Description.{Description}
use Rattle.std.specs.Prelude.{Option, Some, None}
use Rattle.forms.specs.Described.{described_by}
use Rattle.std.specs.Prelude.{Result, Ok, Err}
use Rattle.refusal.specs.declared.Refusal.{Refusal}
use Rattle.writer.specs.Write.{write_answer, write_out}
use Rattle.writer_laws.proofs.Leaves as W
use Rattle.node_state.specs.declared.Record.{Record}
use Rattle.std.specs.Prelude.{Result, Ok, Err}
use Rattle.refusal.specs.declared.Refusal.{Refusal}
use Rattle.std.specs.Result.{result_unwrap_or}
use Rattle.refusal.specs.Refusal.{answer_number}
use Rattle.node_state.specs.Record.{fresh, set_links}
use Rattle.node.specs.declared.Given.{Given}
use Rattle.node.specs.Call.{Call, node_call}
use Rattle.negotiation.specs.Step.{Stepped}
use Rattle.host.specs.Records.{node_of, numbers_after, put_over, fresh_over, links_over}
use Rattle.host.specs.States.{state_of}
use Rattle.host.specs.Call.{table_in, left_after, call_left}
use Rattle.grasp.specs.Reading.{number_from, block_from, read_number, read_block, locator_end_from, locator_from, locator_end, locator_after}
use Rattle.grasp.specs.Reading.{pair_end_from, pair_from, pair_end, pair_after}
use Rattle.grasp.specs.Writing.{number_by, bytes_by, length_by, write_number, write_bytes, write_length}
use Rattle.grasp.specs.Call.{host_call}
use Rattle.grasp.specs.Negotiating.{numbers_from, step_by, step_number, state_after}

-- numbers of a record that isn't kept
numbers_leave : (k : Result Record Refusal) (f : List ℕ) → answer_number k ≢ 0 → numbers_after k f ≡ f
unfolding numbers_after
numbers_leave (Ok node) f ne = absurd (ne refl)
numbers_leave (Err refusal) f ne = refl

-- and a record in place
over_leaves : (r : Record) (k : Result Record Refusal) → (put_over r k).refusal ≢ 0 → (put_over r k).node ≡ r
unfolding put_over
over_leaves r (Ok node) ne = absurd (ne refl)
over_leaves r (Err refusal) ne = refl

-- for readers

-- `grasp_read` that is refused leaves the block.
pub read_leaves : (s fields : List ℕ) → read_number s ≢ 0 → read_block s fields ≡ fields
unfolding read_number read_block number_from block_from
read_leaves s fields = by (read_of s)
  where
    by : (r : Reading) → number_from r ≢ 0 → block_from r fields ≡ fields
    by (Err refusal) ne = refl
    by (Ok m) ne = absurd (ne refl)

-- `grasp_locator` that answers 0 leaves the block.
pub locator_leaves : (s : List ℕ) (at : ℕ) (fields : List ℕ) → locator_end s at ≡ 0 → locator_after s at fields ≡ fields
unfolding locator_end locator_after locator_end_from locator_from
locator_leaves s at fields = by (locator_at s at) (locator_within s at at _ _ refl refl)
  where
    by : (x : Read Locator) → LocatorOk (length s - at) x → locator_end_from at x ≡ 0 → locator_from x fields ≡ fields
    by (Err d) ok e = refl
    by (Ok l) ok e = absurd (omega (arith, ok.0))

-- `grasp_pair` that answers 0 leaves the block.
pub pair_leaves : (s : List ℕ) (at : ℕ) (fields : List ℕ) → pair_end s at ≡ 0 → pair_after s at fields ≡ fields
unfolding pair_end pair_after pair_end_from pair_from
pair_leaves s at fields = by (pair_at s at) (pair_within s at at _ _ refl refl)
  where
    by : (x : Read Pair) → PairOk at (length s - at) x → pair_end_from at x ≡ 0 → pair_from x fields ≡ fields
    by (Err d) ok e = refl
    by (Ok r) ok e = absurd (omega (arith, ok.1))

-- `grasp_write` that is refused leaves the output and the length.
pub write_leaves : (source list fields out : List ℕ) (before : ℕ) → write_number source list fields out ≢ 0
    → (write_bytes source list fields out ≡ out) × (write_length source list fields out before ≡ before)
unfolding write_number write_bytes write_length number_by bytes_by length_by
write_leaves source list fields out before = by (described_by fields (length list))
  where
    go : (d : Description) (w : Result ℕ Refusal) → write_answer source list d out ≡ w → answer_number w ≢ 0
        → (write_out source list d out ≡ out) × (result_unwrap_or w before ≡ before)
    go d (Err refusal) e ne = (W.write_leaves source list d out e, refl)
    go d (Ok n) e ne = absurd (ne refl)

    by : (d : Option Description) → number_by source list out d ≢ 0 → (bytes_by source list out d ≡ out) × (length_by source list out before d ≡ before)
    by None ne = (refl, refl)
    by (Some d) ne = go d (write_answer source list d out) refl ne

-- `grasp_fresh` and `grasp_set_links` that are refused leave the numbers.
pub fresh_leaves : (address : List ℕ) (port ttl interfaces links : ℕ) (f : List ℕ) → answer_number (fresh address port ttl interfaces links) ≢ 0
    → numbers_after (fresh address port ttl interfaces links) f ≡ f
fresh_leaves address port ttl interfaces links f = numbers_leave (fresh address port ttl interfaces links) f

pub links_leaves : (address f : List ℕ) (links : ℕ) → answer_number (set_links (node_of address f) links) ≢ 0
    → numbers_after (set_links (node_of address f) links) f ≡ f
links_leaves address f links = numbers_leave (set_links (node_of address f) links) f

-- `grasp_record_fresh` and `grasp_record_set_links` that are refused leave the record.
pub record_fresh_leaves : (r : Record) (address : List ℕ) (port ttl interfaces links : ℕ)
    → (fresh_over r address port ttl interfaces links).refusal ≢ 0 → (fresh_over r address port ttl interfaces links).node ≡ r
record_fresh_leaves r address port ttl interfaces links = over_leaves r (fresh address port ttl interfaces links)

pub record_links_leaves : (r : Record) (links : ℕ) → (links_over r links).refusal ≢ 0 → (links_over r links).node ≡ r
record_links_leaves r links = over_leaves r (set_links r links)

-- `grasp_record_call` that is refused leaves the record, the table, the output and the answer.
pub record_call_leaves : (r : Record) (bytes : List ℕ) (c : Call) (answer : List ℕ) → (call_left r bytes c answer).refusal ≢ 0
    → ((call_left r bytes c answer).node ≡ r) × ((call_left r bytes c answer).table ≡ bytes) × ((call_left r bytes c answer).output ≡ c.output)
    × ((call_left r bytes c answer).answer ≡ answer)
unfolding call_left left_after
record_call_leaves r bytes c answer = by (node_call r (table_in bytes) c).answer
  where
    by : (x : Result Given Refusal)
        → (let k = left_after r bytes c answer (node_call r (table_in bytes) c) x in
        k.refusal ≢ 0 → (k.node ≡ r) × (k.table ≡ bytes) × (k.output ≡ c.output) × (k.answer ≡ answer))
    by (Ok given) ne = absurd (ne refl)
    by (Err refusal) ne = (refl, refl, refl, refl)

-- `grasp_node_call` that is refused leaves the numbers, the table, the output and the answer.
pub node_call_leaves : (address f bytes : List ℕ) (c : Call) (answer : List ℕ) → (host_call address f bytes c answer).refusal ≢ 0
    → ((host_call address f bytes c answer).node ≡ f) × ((host_call address f bytes c answer).table ≡ bytes)
    × ((host_call address f bytes c answer).output ≡ c.output) × ((host_call address f bytes c answer).answer ≡ answer)
unfolding host_call pick
node_call_leaves address f bytes c answer ne =
    let k = call_left (node_of address f) bytes c answer in
    let (_, table, output, same) = record_call_leaves (node_of address f) bytes c answer ne in
    (rw (ne_eqb k.refusal 0 ne) refl, table, output, same)

-- `grasp_step` that is refused leaves the state.
pub step_leaves : (f message : List ℕ) (side : ℕ) → step_number f message side ≢ 0 → state_after f message side ≡ f
unfolding step_number state_after numbers_from
step_leaves f message side = by (step_by (state_of f) message side)
  where
    by : (x : Stepped) → answer_number x ≢ 0 → numbers_from x f ≡ f
    by (Err refusal) ne = refl
    by (Ok state) ne = absurd (ne refl)
