-- A node call is barred with 12 to 17 exactly as rules 8.3 says.
-- Assumes nothing.
use mathlib.Core.Path.{◌≡◌, refl, ap, subst}
use mathlib.Core.Logic.{◌⊎◌, inl, inr, ◌↔◌}
use mathlib.Core.Bool.{Bool, true, false, not, ◌||◌}
use mathlib.Core.List.{List}
use Prim.Native.Nat.{ℕ, ◌^◌, ◌<◌}
use native.Mathlib.Nat.{le_trans}
use lib.Dec.{ltb, leb}
use lib.ListN.{length}
use lib.Pow.{pow_mono}
use borrow.Author.Tests.{ltb-true, leb-true, eqb-true, lt-ltb, le-leb, eq-eqb, not-true}
use Rattle.base.specs.Pick.{pick}
use Rattle.base.specs.Bits.{has_bit}
use Rattle.base.proofs.Picks.{pick-case}
use Rattle.base.proofs.Bools.{true_or_false, not_both}
use Rattle.names.specs.Names.{names_bad}
use Rattle.node_laws.proofs.OwnNames.{names_exactly, names_refused}
use Rattle.node_state.specs.declared.Record.{Record}
use Rattle.node_state.specs.Record.{links_bad, record_bad, arrival_bad}
use Rattle.node_state.specs.Table.{table_bad}
use Rattle.std.specs.Prelude.{Result, ⊤}
use Rattle.refusal.specs.declared.Refusal.{Refusal}
use Rattle.refusal.specs.Refusal.{answer_number}
use Rattle.node.specs.Call.{Call, barred, bar}
use Rattle.node_state.proofs.Masks.{up_le}
use Rattle.node_laws.specs.Bars.{HighLink, BadRecord, no_interface, many_interfaces, high_link, high_tally, BadArrival, Earlier, GoodTable}
use Rattle.node_laws.specs.Bars.{ShortOutput, Barred, bad_record, bad_arrival, bad_clock, bad_table, bad_names, short_output, nothing}
use Rattle.node_laws.proofs.Links.{high_bit}
use Rattle.node_laws.proofs.Lives.{fails, failing}
use Rattle.node_laws.proofs.RelayRows.{table_good}

-- ---- tests

below_test : (a b : ℕ) → ltb a b ≡ true ↔ a < b
below_test a b = (ltb-true a b, lt-ltb a b)

-- one of two
either_test : {a b : Bool} {P Q : Type 0} → a ≡ true ↔ P → b ≡ true ↔ Q → (a || b) ≡ true ↔ (P ⊎ Q)
either_test {a = true} d e = (λ _. inl (d.0 refl), λ _. refl)
either_test {a = false} d e = (λ t. inr (e.0 t), λ h. elim h [ inl p ↦ absurd (fails d refl p) | inr q ↦ e.1 q ])

pub mask_test : (n mask : ℕ) → leb (2 ^ n) mask ≡ true ↔ HighLink n mask
mask_test n mask = (
  λ e. high_bit n mask (leb-true (2 ^ n) mask e),
  λ (j, l, up). le-leb (2 ^ n) mask (le_trans (pow_mono l) (up_le mask j up)),
)

pub record_test : (r : Record) → record_bad r ≡ true ↔ BadRecord r
unfolding record_bad links_bad
record_test r =
    let n = r.interfaces in
    let tests = either_test (either_test (either_test (eqb-true n 0, eq-eqb n 0) (below_test 8 n)) (mask_test n r.links)) (below_test (2 ^ 63) r.tally) in
    (λ e. there (tests.0 e), λ b. tests.1 (back b))
  where
    Ways : Type 0
    Ways = (((r.interfaces ≡ 0) ⊎ (8 < r.interfaces)) ⊎ HighLink r.interfaces r.links) ⊎ (2 ^ 63 < r.tally)

    there : Ways → BadRecord r
    there (inl (inl (inl e))) = no_interface e
    there (inl (inl (inr l))) = many_interfaces l
    there (inl (inr h)) = high_link h
    there (inr l) = high_tally l

    back : BadRecord r → Ways
    back (no_interface e) = inl (inl (inl e))
    back (many_interfaces l) = inl (inl (inr l))
    back (high_link h) = inl (inr h)
    back (high_tally l) = inr l

arrival_test : (r : Record) (c : Call) → arrival_bad r c.interface ≡ true ↔ BadArrival r c
unfolding arrival_bad
arrival_test r c =
    either_test (leb-true r.interfaces c.interface, le-leb r.interfaces c.interface) (not-true (has_bit r.links c.interface), ap not)

module _ (r : Record) (t : List ℕ) (c : Call) where
  clock_test : ltb c.clock r.clock ≡ true ↔ Earlier r c
  clock_test = below_test c.clock r.clock

  table_test : table_bad c.clock t ≡ true ↔ (GoodTable t c.clock → ⊥)
  table_test =
      let (there, back) = table_good c.clock t in (
        λ e good. not_both (table_bad c.clock t) e (back good),
        λ none. elim (true_or_false (table_bad c.clock t)) [ inl e ↦ e | inr e ↦ absurd (none (there e)) ],
      )

  room_test : ltb (length c.output) 2048 ≡ true ↔ ShortOutput c
  room_test = below_test (length c.output) 2048

  barred_so : Barred r t c (bar r t c)
  unfolding barred
  barred_so =
      pick-case B (record_bad r) (λ e. bad_record ((record_test r).0 e))
      (λ e. let a = fails (record_test r) e in pick-case B (arrival_bad r c.interface) (λ e. bad_arrival a ((arrival_test r c).0 e))
      (λ e. let b = fails (arrival_test r c) e in pick-case B (ltb c.clock r.clock) (λ e. bad_clock a b (clock_test.0 e))
      (λ e. let d = fails clock_test e in pick-case B (table_bad c.clock t) (λ e. bad_table a b d (table_test.0 e))
      (λ e. let g = (table_good c.clock t).0 e in pick-case B (names_bad c.names) (λ e. bad_names a b d g ((names_refused c.names).0 e))
      (λ e. let n = (names_exactly c.names).0 e in pick-case B (ltb (length c.output) 2048) (λ e. short_output a b d g n (room_test.0 e))
      (λ e. nothing a b d g n (fails room_test e)))))))
    where
      B : Result ⊤ Refusal → Type 0
      B a = Barred r t c (answer_number a)

  bars_is : {n : ℕ} → Barred r t c n → bar r t c ≡ n
  unfolding barred pick
  bars_is (bad_record p) = rw ((record_test r).1 p) refl
  bars_is (bad_arrival a p) = rw (failing (record_test r) a, (arrival_test r c).1 p) refl
  bars_is (bad_clock a b p) = rw (failing (record_test r) a, failing (arrival_test r c) b, clock_test.1 p) refl
  bars_is (bad_table a b d p) = rw (failing (record_test r) a, failing (arrival_test r c) b, failing clock_test d, table_test.1 p) refl
  bars_is (bad_names a b d g p) =
      rw (failing (record_test r) a, failing (arrival_test r c) b, failing clock_test d, (table_good c.clock t).1 g, (names_refused c.names).1 p) refl
  bars_is (short_output a b d g n p) =
      rw (
        failing (record_test r) a,
        failing (arrival_test r c) b,
        failing clock_test d,
        (table_good c.clock t).1 g,
        (names_exactly c.names).1 n,
        room_test.1 p,
      ) refl
  bars_is (nothing a b d g n s) =
      rw (
        failing (record_test r) a,
        failing (arrival_test r c) b,
        failing clock_test d,
        (table_good c.clock t).1 g,
        (names_exactly c.names).1 n,
        failing room_test s,
      ) refl

-- for readers

-- A node call is barred with a number exactly if that row of rules 8.3 applies and none before it does, and with 0
-- exactly if none does.
pub barred_exactly : (r : Record) (t : List ℕ) (c : Call) (n : ℕ) → bar r t c ≡ n ↔ Barred r t c n
barred_exactly r t c n = (λ e. subst (Barred r t c) e (barred_so r t c), bars_is r t c)
