-- Records, tables and states whose numbers have their widths: which they are, and what a node call leaves of them.
-- Assumes nothing.
use Rattle.std.specs.Prelude.{Ok, Err}
use Rattle.reader.specs.Read.{Reading}
use Prim.Native.Nat.{ℕ, zero, suc, ◌+◌, ◌*◌, ◌^◌, ◌<◌}
use mathlib.Core.Path.{◌≡◌, refl, ◌∙◌}
use mathlib.Core.Bool.{Bool, true, false}
use mathlib.Core.List.{List, [], ◌∷◌}
use native.Mathlib.Omega.{arith}
use lib.Count.{ones}
use lib.ListN.{length, get_or, set, drop, length-set}
use borrow.Author.Tests.{ltb-false}
use Rattle.base.specs.BigEndian.{Bytes, big_endian}
use Rattle.base.specs.Lists.{Every}
use Rattle.base.proofs.Picks.{pick-case, both}
use Rattle.base.proofs.Digits.{big_endian_lt}
use Rattle.base.proofs.Parts.{bytes_drop}
use Rattle.message.specs.Opening.{most_number}
use Rattle.reader.specs.Read.{read_of}
use Rattle.node_state.specs.declared.Record.{Record}
use Rattle.refusal.specs.declared.Refusal.{Refusal}
use Rattle.std.specs.Result.{result_unwrap_or}
use Rattle.std.specs.Prelude.{Result}
use Rattle.node_state.specs.declared.key.Key.{Key}
use Rattle.node_state.specs.Record.{blank, clocked, tallied, others}
use Rattle.node_state.specs.Table.{table_numbers, put_row, free_rows, freed, lowest_free}
use Rattle.node_state.specs.Key.{no_key, key_of}
use Rattle.node_state.proofs.Keys.{tag_range}
use Rattle.node.specs.declared.Verdict.{Verdict}
use Rattle.node.specs.declared.Verdict.TheVariants.{Own, Answer, Duplicate, Last, Nowhere, NoRow, Relay, Noop, Hand}
use Rattle.node.specs.declared.role.Spread.{Spread}
use Rattle.node.specs.declared.role.Role.{Role}
use Rattle.node.specs.Role.{role_of, RoleIn, key_in}
use Rattle.node.proofs.Outcomes.{call_case}
use Rattle.node.specs.Call.{Call, After, refuse, quiet, verdict_on, answered, relayed, carried_out, taken, received, node_call}
use Rattle.host.specs.Table.{numbers_in, loaded}
use Rattle.host.specs.States.{state_of}
use Rattle.host.specs.Widths.{RecordFits, TableFits, StateFits}
use Rattle.host.proofs.Numbers.{length_numbers}

-- ---- numbers of 64 bits in a table

abbrev Wide : List ℕ → Type 0
Wide t = Every (λ x. x < 2 ^ 64) t

set_wide : (t : List ℕ) (i v : ℕ) → v < 2 ^ 64 → Wide t → Wide (set t i v)
set_wide [] i v h w = tt
set_wide (x ∷ t) zero v h w = (h, w.1)
set_wide (x ∷ t) (suc i) v h w = (w.0, set_wide t i v h w.1)

set_fits : (t : List ℕ) (i v : ℕ) → v < 2 ^ 64 → TableFits t → TableFits (set t i v)
set_fits t i v h w = record { sized = length-set t i v ∙ w.sized; wide = set_wide t i v h w.wide }

-- a key of three numbers of 64 bits
pub record KeyFits (k : Key) : Type 0 where
  pub first : k.first < 2 ^ 64
  pub second : k.second < 2 ^ 64
  pub third : k.third < 2 ^ 64

pub put_fits : (t : List ℕ) (i : ℕ) (k : Key) (clock : ℕ) → KeyFits k → clock < 2 ^ 64 → TableFits t → TableFits (put_row t i k clock)
unfolding put_row
put_fits t i k clock f h w =
    let t₁ = set t (4 * i) k.first in
    let t₂ = set t₁ (4 * i + 1) k.second in
    let t₃ = set t₂ (4 * i + 2) k.third in
    set_fits t₃ (4 * i + 3) clock h
    (set_fits t₂ (4 * i + 2) k.third f.third (set_fits t₁ (4 * i + 1) k.second f.second (set_fits t (4 * i) k.first f.first w)))

pub free_fits : (now : ℕ) (t : List ℕ) (n : ℕ) → TableFits t → TableFits (free_rows now t n)
unfolding free_rows
free_fits now t zero w = w
free_fits now t (suc n) w =
    let rest = free_fits now t n w in
    both TableFits _ (put_fits (free_rows now t n) n no_key 0 (record { first = omega arith; second = omega arith; third = omega arith }) (omega arith) rest)
    rest

pub key_fits : (flood : Bool) (session : ℕ) (initiator : List ℕ) → session < 2 ^ 32 → Bytes initiator → KeyFits (key_of flood session initiator)
unfolding key_of
key_fits flood session initiator small bytes =
    let tag = tag_range flood (length initiator) in
    let four : big_endian initiator 4 < 2 ^ 32 = big_endian_lt 4 initiator (λ i _. bytes i) in
    both KeyFits _ (record { first = omega arith; second = omega arith; third = omega arith })
    (record {
      first = omega arith;
      second = big_endian_lt 8 initiator (λ i _. bytes i);
      third = big_endian_lt 8 (drop 8 initiator) (λ i _. bytes_drop 8 initiator bytes i);
    })

-- ---- a node call

module _ (r : Record) (t : List ℕ) (c : Call) where
  abbrev node : Record
  node = clocked r c.clock

  abbrev table : List ℕ
  table = freed c.clock t

  -- what holds of each way that a call can go
  module _ (P : After → Type 0) (refuses : (refusal : Refusal) → P (refuse refusal r t c)) (silent : (v : Verdict) (up : Bool) → P (quiet v up node table c))
      (answers : (s : Spread) → P (answered node table c s)) (relays : (s : Spread) → RoleIn c.message (Role.Spreads s) → P (relayed node table c s)) where
    carried_goes : (s : Spread) (v : Verdict) → RoleIn c.message (Role.Spreads s) → P (carried_out node table c s v)
    unfolding carried_out
    carried_goes s Own role = silent Own false
    carried_goes s Answer role = answers s
    carried_goes s Duplicate role = silent Duplicate false
    carried_goes s Last role = silent Last s.flood
    carried_goes s Nowhere role = silent Nowhere s.flood
    carried_goes s NoRow role = silent NoRow s.flood
    carried_goes s Relay role = relays s role
    carried_goes s Noop role = silent Noop false
    carried_goes s Hand role = silent Hand true

    taken_goes : (role : Role) → RoleIn c.message role → P (taken node table c role)
    unfolding taken
    taken_goes Role.Noop role = silent Noop false
    taken_goes Role.Upward role = silent Hand true
    taken_goes (Role.Spreads s) role = carried_goes s (verdict_on node table c s) role

    received_goes : (reading : Reading) → read_of c.message ≡ reading → P (received r t c reading)
    unfolding received
    received_goes (Err refusal) e = refuses (refusal)
    received_goes (Ok m) e = taken_goes (role_of m) (record { is = m; read = e; plays = refl })

    pub call_goes : P (node_call r t c)
    call_goes = call_case P r t c (λ _. received_goes (read_of c.message) refl) (λ refusal _. refuses refusal)

  -- of the record and the table that it leaves, as of those that it was given, of those at its clock, and of those that
  -- a relay leaves
  pub call_leaves : (P : Record → List ℕ → Type 0) → P node table
      → ((s : Spread) → RoleIn c.message (Role.Spreads s)
      → P (tallied node (ones (others node c.interface))) (put_row table (lowest_free table) (key_in c.message s) c.clock))
      → P r t → P (node_call r t c).node (node_call r t c).table
  unfolding refuse quiet answered relayed clocked
  call_leaves P took relays given = call_goes (λ a. P a.node a.table) (λ _. given) (λ _ _. took) (λ _. took) relays

-- ---- what numbers say

pub blank_fits : RecordFits blank
blank_fits = record { port = omega arith; ttl = omega arith; interfaces = omega arith; links = omega arith }

-- the record that is left
abbrev pub KeptFits : Record → Result Record Refusal → Type 0
KeptFits r k = RecordFits (result_unwrap_or k r)

-- clock and tally have any width here
pub counted_fits : {r : Record} (clock tally : ℕ) → RecordFits r
    → RecordFits (record { address = r.address; port = r.port; ttl = r.ttl; interfaces = r.interfaces; links = r.links; clock = clock; tally = tally })
counted_fits clock tally f = record { port = f.port; ttl = f.ttl; interfaces = f.interfaces; links = f.links }

pub state_fits : (f : List ℕ) → StateFits (state_of f)
unfolding state_of
state_fits f =
    pick-case StateFits _ (λ _. tt)
    (λ session. pick-case StateFits _ (λ _. tt)
    (λ count. both StateFits _ tt (both StateFits _ tt
    (both StateFits _ (omega (arith, ltb-false most_number (get_or f 1 0) session), omega (arith, ltb-false 255 (get_or f 2 0) count)) tt))))

numbers_wide : (n : ℕ) (b : List ℕ) → Bytes b → Wide (numbers_in n b)
unfolding numbers_in
numbers_wide zero b h = tt
numbers_wide (suc n) b h = (big_endian_lt 8 b (λ i _. h i), numbers_wide n (drop 8 b) (bytes_drop 8 b h))

pub loaded_fits : (b : List ℕ) → Bytes b → TableFits (loaded b)
unfolding loaded
loaded_fits b h = record { sized = length_numbers table_numbers b; wide = numbers_wide table_numbers b h }
