-- A message that was read in C and is written in C is the same bytes. For readers: each statement at the end stands
-- alone.
-- Assumes nothing.
use Rattle.refusal.proofs.Refusals.{some_number}
use Rattle.std.specs.Prelude.{Ok, Err}
use Rattle.reader.specs.Read.{Reading}
use mathlib.Core.Path.{◌≡◌, refl, sym, ap, ap₂, ◌∙◌}
use mathlib.Core.Logic.{◌≢◌}
use mathlib.Core.List.{List, [], ◌∷◌, ◌++◌}
use mathlib.Core.Option.{Option}
use Prim.Native.Nat.{ℕ, ◌*◌, ◌≤◌, ◌<◌}
use native.Mathlib.Omega.{arith}
use lib.ListN.{length, take, get_or, set, replicate, length-replicate}
use lib.Seq.{sets}
use borrow.Author.Tests.{eq-eqb, ne_eqb}
use Rattle.std.specs.Prelude.{Some, None}
use Rattle.options.specs.declared.pair.Pair as P
use Rattle.options.specs.Part.{Read}
use Rattle.options.specs.declared.locator.Locator.{Locator}
use Rattle.base.specs.Pick.{pick}
use Rattle.base.specs.BigEndian.{Bytes}
use Rattle.cbor.specs.Tree.{Item, Items}
use Rattle.options.specs.declared.Span.{Span}
use Rattle.options.specs.declared.outcome.Outcome.{Outcome}
use Rattle.options.specs.declared.objective.Objective.{Objective}
use Rattle.options.specs.Locator.{locator_numbers}
use Rattle.options.specs.Pair.{pair_numbers}
use Rattle.rfc8990.specs.Message.{Loc, Obj, Pair, Tgts, Msg}
use Rattle.rfc8990.specs.Cddl.{Value, Number, ObjectiveItem, OptionalItems, TgtsItems, MessageItem}
use Rattle.message.specs.declared.Series.{Series}
use Rattle.message.specs.declared.Targets.{Targets}
use Rattle.message.specs.Fields.{Extra}
use Rattle.message.specs.declared.Message.{Message}
use Rattle.message.specs.declared.Message.TheVariants as M
use Rattle.message_laws.specs.Holds.{ObjectiveHolds, InTurn, LocatorReads, PairReads, SeriesHolds, TargetsHold, ExtraHolds, MessageHolds}
use Rattle.reader.specs.Read.{read_of}
use Rattle.reader.proofs.Exact.{accepted_exactly, accepted_holds}
use Rattle.reader.proofs.Refused.{refused_exactly}
use Rattle.description.specs.Meaning.{locator_row, pair_row}
use Rattle.forms.specs.declared.rows.Rows.{Rows}
use Rattle.std.specs.Prelude.{Some}
use Rattle.forms.specs.Block as B
use Rattle.forms.specs.Describe.{given_of, given_extra, description_of}
use Rattle.forms.specs.Described.{described_by}
use Rattle.forms.specs.Rows as R
use Rattle.forms.specs.BlockFor.{GivenFits, ExtraFits, DescriptionFits, cleared}
use Rattle.forms.proofs.Cleared.{cleared_described}
use Rattle.writer_laws.specs.Lent.{most_numbers}
use Rattle.writer_laws.proofs.Filled.{joined, Chain, joined_length, rows_many, lent}
use Rattle.writer_laws.proofs.Locators.{locator_five}
use Rattle.writer_laws.proofs.Pairs.{pair_twelve}
use Rattle.writer_laws.proofs.Room.{rows_fit}
use Rattle.writer_laws.proofs.Again.{described_written}
use Rattle.grasp.specs.Reading as G
use Rattle.grasp.specs.Writing as W
use Rattle.grasp_laws.specs.Gathered.{locator_rows, pair_rows, rows_gathered, WritesAgain}

-- ---- the widths of what was read
objective_fits : {s : List ℕ} {o : Objective} {obj : Obj Value} {x : Item} → ObjectiveHolds s o obj → ObjectiveItem x obj → GivenFits (given_of o)
unfolding given_of
objective_fits h (ObjectiveItem.bare flags count) = (omega (arith, h.flags), omega (arith, h.count))
objective_fits h (ObjectiveItem.valued flags count) = (omega (arith, h.flags), omega (arith, h.count))

extra_fits : {s : List ℕ} {extra : Extra} {obj : Option (Obj Value)} {xs : Items} → ExtraHolds s extra obj → OptionalItems xs obj
    → ExtraFits (given_extra extra)
unfolding given_extra
extra_fits ExtraHolds.without OptionalItems.without = tt
extra_fits (ExtraHolds.with_one h) (OptionalItems.with_one i) = objective_fits h i

targets_extra : {s : List ℕ} {extra : Extra} {tgts : Tgts} {obj : Option (Obj Value)} {xs : Items} → ExtraHolds s extra obj → TgtsItems xs tgts obj
    → ExtraFits (given_extra extra)
targets_extra h (TgtsItems.locators is i) = extra_fits h i
targets_extra h (TgtsItems.divert is i) = extra_fits h i

number_fits : {x : Item} {n : ℕ} → Number x n → n < 4294967296
number_fits (Number.number h) = omega arith

message_fits : {s : List ℕ} {m : Message} {msg : Msg Value} {x : Item} → MessageHolds s m msg → MessageItem x msg → DescriptionFits (description_of m)
unfolding description_of
message_fits MessageHolds.noop MessageItem.noop = tt
message_fits (MessageHolds.discovery i o) (MessageItem.discovery n from x) = (number_fits n, objective_fits o x)
message_fits (MessageHolds.response i tgts extra) (MessageItem.response n from t xs) = (number_fits n, number_fits t, targets_extra extra xs)
message_fits (MessageHolds.request_negotiation o) (MessageItem.request_negotiation n x) = (number_fits n, objective_fits o x)
message_fits (MessageHolds.request_synchronization o) (MessageItem.request_synchronization n x) = (number_fits n, objective_fits o x)
message_fits (MessageHolds.negotiate o) (MessageItem.negotiate n x) = (number_fits n, objective_fits o x)
message_fits (MessageHolds.end e) (MessageItem.end n x) = number_fits n
message_fits MessageHolds.wait (MessageItem.wait n t) = (number_fits n, number_fits t)
message_fits (MessageHolds.synch o) (MessageItem.synch n x) = (number_fits n, objective_fits o x)
message_fits (MessageHolds.flood i ps p) (MessageItem.flood n from t xs) = (number_fits n, number_fits t)
message_fits (MessageHolds.invalid v) (MessageItem.invalid n) = number_fits n
message_fits (MessageHolds.invalid v) (MessageItem.invalid_with n) = number_fits n

-- ---- what a block tells of a message's list
-- no list; or locators or pairs, so many from a place on
abbrev Listed : List ℕ → Rows → Type 0
Listed f Rows.Nothing = get_or f 13 0 ≡ 0
Listed f (Rows.Locators series) = (get_or f 13 0 ≢ 0) × (get_or f 13 0 ≢ 3) × (get_or f 14 0 ≡ series.at) × (get_or f 15 0 ≡ series.many)
Listed f (Rows.Pairs series) = (get_or f 13 0 ≡ 3) × (get_or f 14 0 ≡ series.at) × (get_or f 15 0 ≡ series.many)

targets_listed : (session : ℕ) (i : Span) (ttl : ℕ) (targets : Targets) (extra : Extra)
    → Listed (B.response_block session i ttl targets extra) (R.target_rows targets)
unfolding R.target_rows B.response_block B.targets_block B.with_extra B.with_objective B.front_block B.with_series sets
targets_listed session i ttl (Targets.Locators first series) None = (λ e. omega arith, λ e. omega arith, refl, refl)
targets_listed session i ttl (Targets.Locators first series) (Some o) = (λ e. omega arith, λ e. omega arith, refl, refl)
targets_listed session i ttl (Targets.Divert first series) None = (λ e. omega arith, λ e. omega arith, refl, refl)
targets_listed session i ttl (Targets.Divert first series) (Some o) = (λ e. omega arith, λ e. omega arith, refl, refl)

outcome_listed : (session : ℕ) (outcome : Outcome) → Listed (B.end_block session outcome) Rows.Nothing
unfolding B.end_block B.outcome_block B.with_span B.front_block sets
outcome_listed session Outcome.Accept = refl
outcome_listed session Outcome.Decline = refl
outcome_listed session (Outcome.Reason reason) = refl

listed : (m : Message) → Listed (B.block_of m) (R.rows_in m)
unfolding R.rows_in B.block_of B.discovery_block B.exchange_block B.with_objective B.front_block B.with_series B.invalid_block B.with_span sets
listed M.Noop = refl
listed (M.Discovery session i o) = refl
listed (M.Response session i ttl targets extra) = targets_listed session i ttl targets extra
listed (M.RequestNegotiation session o) = refl
listed (M.RequestSynchronization session o) = refl
listed (M.Negotiate session o) = refl
listed (M.End session outcome) = outcome_listed session outcome
listed (M.Wait session time) = refl
listed (M.Synch session o) = refl
listed (M.Flood session i ttl first pairs) = (refl, refl, refl)
listed (M.Invalid session item) = refl

-- ---- the rows that a host gathers are those that `rows::fill` fills
-- what a chain of rows tells isn't asked here
abbrev Untold : {X : Type 0} → List ℕ → X → Type 0
Untold ns x = Unit {0}

module _ (s : List ℕ) where
  -- the rows of what is read in turn, stored and gathered
  record Gathers {X : Type 0} (size : ℕ) (next : ℕ → ℕ) (row : ℕ → ℕ → List ℕ → List ℕ) (gather : ℕ → ℕ → List ℕ → List ℕ) (at : ℕ) (xs : List X) : Type 0 where
    rows : List (List ℕ)
    chain : Chain size next row Untold at rows xs
    same : (block : List ℕ) → gather (length xs) at block ≡ joined rows

  locators_gathered : {at : ℕ} {ls : List Loc} → InTurn (LocatorReads s) at ls
      → Gathers locator_row (R.locator_next s) (R.locator_stored s) (λ n at block. locator_rows s n at block) at ls
  unfolding locator_rows joined R.locator_next R.locator_next_from R.locator_stored R.locator_stored_from G.locator_after G.locator_from G.locator_end
      G.locator_end_from
  locators_gathered InTurn.done = record { rows = []; chain = Chain.end; same = λ _. refl }
  locators_gathered {at} (InTurn.more {next = next} {xs = ls} r rest) =
      let h = locators_gathered rest in
      let numbers = locator_numbers r.locator in
      record {
        rows = numbers ∷ h.rows;
        chain = Chain.step {rows = h.rows} (locator_five r.locator) (λ i list. ap (R.locator_stored_from i list) r.read) (λ _. tt)
            (ap (R.locator_next_from at) r.read ∙ sym r.after) h.chain;
        same = λ block.
            let after : G.locator_after s at block ≡ numbers = ap (λ (x : Read Locator). G.locator_from x block) r.read in
            let end : G.locator_end s at ≡ next = ap (G.locator_end_from at) r.read ∙ sym r.after in
            ap₂ (λ (b : List ℕ) (k : ℕ). b ++ locator_rows s (length ls) k b) after end ∙ ap (λ (l : List ℕ). numbers ++ l) (h.same numbers);
      }

  pairs_gathered : {at : ℕ} {ps : List (Pair Value)} → InTurn (PairReads s) at ps
      → Gathers pair_row (R.pair_next s) (R.pair_stored s) (λ n at block. pair_rows s n at block) at ps
  unfolding pair_rows joined R.pair_next R.pair_next_from R.pair_stored R.pair_stored_from R.pair_cells G.pair_after G.pair_from G.pair_end G.pair_end_from
  pairs_gathered InTurn.done = record { rows = []; chain = Chain.end; same = λ _. refl }
  pairs_gathered {at} (InTurn.more {next = next} {xs = ps} r rest) =
      let h = pairs_gathered rest in
      let numbers = pair_numbers r.objective r.tag in
      record {
        rows = set numbers 4 0 ∷ h.rows;
        chain = Chain.step {rows = h.rows} (pair_twelve r.objective r.tag) (λ i list. ap (R.pair_stored_from i list) r.read) (λ _. tt)
            (ap (R.pair_next_from at) r.read ∙ sym r.after) h.chain;
        same = λ block.
            let after : G.pair_after s at block ≡ numbers = ap (λ (x : Read P.Pair). G.pair_from x block) r.read in
            let end : G.pair_end s at ≡ next = ap (G.pair_end_from at) r.read ∙ sym r.after in
            ap₂ (λ (b : List ℕ) (k : ℕ). set b 4 0 ++ pair_rows s (length ps) k b) after end ∙ ap (λ (l : List ℕ). set numbers 4 0 ++ l) (h.same numbers);
      }

  -- a series: what is gathered is what is lent, and so many numbers
  module _ {X : Type 0} {size : ℕ} {next : ℕ → ℕ} {row : ℕ → ℕ → List ℕ → List ℕ} {gather : ℕ → ℕ → List ℕ → List ℕ} where
    series_gathered : {series : Series} {xs : List X} → series.many ≡ length xs → Gathers size next row gather series.at xs
        → (list : List ℕ) → R.series_end size series list ≤ length list → (block : List ℕ)
        → (gather series.many series.at block ≡ take (R.series_end size series list) (R.series_filled size next row series list))
        × (length (gather series.many series.at block) ≡ size * series.many)
    series_gathered {series} {xs} many h list room block =
        let is : gather series.many series.at block ≡ joined h.rows = ap (λ (n : ℕ). gather n series.at block) many ∙ h.same block in
        let n : length h.rows ≡ series.many = rows_many h.chain ∙ sym many in (
          is ∙ sym (lent h.chain list many room),
          ap length is ∙ joined_length h.chain ∙ ap (λ (k : ℕ). size * k) n,
        )

  -- what is held of a message's list
  abbrev RowsHold : Rows → Type 0
  RowsHold Rows.Nothing = Unit {0}
  RowsHold (Rows.Locators series) = (ls : List Loc) × SeriesHolds (LocatorReads s) series ls
  RowsHold (Rows.Pairs series) = (ps : List (Pair Value)) × SeriesHolds (PairReads s) series ps

  targets_held : {targets : Targets} {tgts : Tgts} → TargetsHold s targets tgts → RowsHold (R.target_rows targets)
  unfolding R.target_rows
  targets_held (TargetsHold.locators {loc = loc} {ls} h _) = (loc ∷ ls, h)
  targets_held (TargetsHold.divert {loc = loc} {ls} h _) = (loc ∷ ls, h)

  rows_held : {m : Message} {msg : Msg Value} → MessageHolds s m msg → RowsHold (R.rows_in m)
  unfolding R.rows_in
  rows_held MessageHolds.noop = tt
  rows_held (MessageHolds.discovery i o) = tt
  rows_held (MessageHolds.response i tgts extra) = targets_held tgts
  rows_held (MessageHolds.request_negotiation o) = tt
  rows_held (MessageHolds.request_synchronization o) = tt
  rows_held (MessageHolds.negotiate o) = tt
  rows_held (MessageHolds.end e) = tt
  rows_held MessageHolds.wait = tt
  rows_held (MessageHolds.synch o) = tt
  rows_held (MessageHolds.flood {pair = pair} {ps} i h p) = (pair ∷ ps, h)
  rows_held (MessageHolds.invalid v) = tt

  -- so what a host gathers by a block that tells of the list is what is lent
  gathered : (f list locator pair : List ℕ) (rows : Rows) → Listed f rows → RowsHold rows → R.end_by list rows ≤ length list
      → (rows_gathered s f locator pair ≡ take (R.end_by list rows) (R.filled_by s list rows)) × (length (rows_gathered s f locator pair) ≡ R.row_numbers rows)
  unfolding rows_gathered pick R.end_by R.filled_by R.row_numbers
  gathered f list locator pair Rows.Nothing sort h room = rw (eq-eqb (get_or f 13 0) 0 sort) (refl, refl)
  gathered f list locator pair (Rows.Locators series) (some, sort, at, many) (ls, h) room =
      rw (ne_eqb (get_or f 13 0) 0 some, ne_eqb (get_or f 13 0) 3 sort, at, many) (series_gathered h.many (locators_gathered h.each) list room locator)
  gathered f list locator pair (Rows.Pairs series) (sort, at, many) (ps, h) room =
      rw (sort, at, many) (series_gathered h.many (pairs_gathered h.each) list room pair)

-- ---- what a call leaves
-- where `grasp_read` answers 0 a message was read
read_some : (s : List ℕ) → G.read_number s ≡ 0 → (m : Message) × (read_of s ≡ Ok m)
unfolding G.read_number G.number_from
read_some s = by (read_of s) refl
  where
    by : (r : Reading) → read_of s ≡ r → G.number_from r ≡ 0 → (m : Message) × (read_of s ≡ Ok m)
    by (Err refusal) q e = absurd (omega (arith, some_number refusal))
    by (Ok m) q e = (m, q)

-- and it leaves the message's block
read_block_lem : (s fields : List ℕ) (m : Message) → read_of s ≡ Ok m → G.read_block s fields ≡ B.block_of m
unfolding G.read_block G.block_from
read_block_lem s fields m q = ap (λ (r : Reading). G.block_from r fields) q

-- for readers

-- The block of a message that was read, with the reader's places cleared, is taken as that message's description, beside
-- a list of its rows.
pub read_taken : (s : List ℕ) (m : Message) → Bytes s → read_of s ≡ Ok m
    → described_by (cleared (B.block_of m)) (R.row_numbers (R.rows_in m)) ≡ Some (description_of m)
read_taken s m b q =
    let a = (accepted_exactly s b).0 (m, q) in
    cleared_described m (message_fits (accepted_holds s m q a) a.message.is)

-- A message that `grasp_read` took is written by `grasp_write` as the same bytes: from the block that was filled, with
-- the reader's places cleared, the rows that a host gathers by `grasp_locator` or `grasp_pair`, whatever its blocks hold
-- at first, and those bytes as the source, into an output with room for them.
pub read_then_written : (s fields locator pair out : List ℕ) (before : ℕ) → Bytes s → G.read_number s ≡ 0 → length s ≤ length out
    → WritesAgain s (rows_gathered s (G.read_block s fields) locator pair) (cleared (G.read_block s fields)) out before
unfolding W.write_number W.number_by W.write_length W.length_by W.write_bytes W.bytes_by R.rows_end R.rows_filled
read_then_written s fields locator pair out before b zero few =
    let (m, q) = read_some s zero in
    let a = (accepted_exactly s b).0 (m, q) in
    let list : List ℕ = replicate most_numbers 0 in
    let room : R.rows_end m list ≤ length list = rows_fit s list m q (omega (arith, length-replicate {A = ℕ} most_numbers 0)) in
    let (same, long) = gathered s (B.block_of m) list locator pair (R.rows_in m) (listed m) (rows_held s (accepted_holds s m q a)) room in
    let (length-is, bytes-are) = described_written s list out m b q room few in
    let says = ap (described_by (cleared (B.block_of m))) long ∙ read_taken s m b q in
    rw (read_block_lem s fields m q)
    (record {
      answers = rw (says, same, length-is);
      stores = rw (says, same, length-is);
      puts = rw (says, same, bytes-are);
    })
