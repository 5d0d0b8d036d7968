-- The block of a message that was read, cleared of what is the reader's. For readers: each statement at the end stands
-- alone.
-- Assumes nothing.
use mathlib.Core.Path.{◌≡◌, refl, ap, ◌∙◌}
use lib.ListN.{length, take, drop, get_or}
use Prim.Native.Nat.{ℕ}
use native.Mathlib.Nat.{mul-div_cancel_left}
use lib.Dec.{lit<}
use Rattle.std.specs.Prelude.{Some, None}
use Rattle.base.specs.Pick.{pick}
use Rattle.options.specs.declared.Span.{Span}
use Rattle.options.specs.declared.outcome.Outcome.{Outcome}
use Rattle.message.specs.declared.Targets.{Targets}
use Rattle.message.specs.Fields.{Extra}
use Rattle.message.specs.declared.Message.{Message}
use Rattle.message.specs.declared.Message.TheVariants as M
use Rattle.message.specs.Fields.{objective_of}
use Rattle.description.specs.declared.Description.TheVariants as D
use Rattle.std.specs.Prelude.{Some}
use Rattle.forms.specs.Block.{front_block, with_objective, discovery_block, exchange_block, with_extra, with_series, targets_block, response_block}
use Rattle.forms.specs.Block.{with_span, outcome_block, end_block, invalid_block, block_of}
use Rattle.forms.specs.Describe.{given_of, given_extra, is_divert, description_of}
use Rattle.forms.specs.Rows.{target_rows, rows_in, row_numbers}
use Rattle.forms.specs.Described.{described_by}
use Rattle.forms.specs.BlockFor.{block_for, DescriptionFits, cleared, objective_read, first_at}
use Rattle.forms.proofs.Taken.{described_exactly, block_long}

-- a Response's
response_cleared : (session : ℕ) (i : Span) (ttl : ℕ) (targets : Targets) (extra : Extra)
    → cleared (response_block session i ttl targets extra)
    ≡ block_for (D.Response session i ttl (is_divert targets) (given_extra extra)) (row_numbers (target_rows targets))
unfolding cleared pick response_block targets_block with_extra with_objective front_block with_series block_for is_divert given_extra
    given_of target_rows row_numbers
response_cleared session i ttl (Targets.Locators first series) None = rw (mul-div_cancel_left series.many {n = 5} (lit< tt))
response_cleared session i ttl (Targets.Locators first series) (Some o) = rw (mul-div_cancel_left series.many {n = 5} (lit< tt))
response_cleared session i ttl (Targets.Divert first series) None = rw (mul-div_cancel_left series.many {n = 5} (lit< tt))
response_cleared session i ttl (Targets.Divert first series) (Some o) = rw (mul-div_cancel_left series.many {n = 5} (lit< tt))

-- an End's
end_cleared : (session : ℕ) (outcome : Outcome) → cleared (end_block session outcome) ≡ block_for (D.End session outcome) 0
unfolding cleared pick end_block outcome_block with_span front_block block_for
end_cleared session Outcome.Accept = refl
end_cleared session Outcome.Decline = refl
end_cleared session (Outcome.Reason reason) = refl

-- an Invalid's
invalid_cleared : (session : ℕ) (item : Span) → cleared (invalid_block session item) ≡ block_for (D.Invalid session item) 0
unfolding cleared pick invalid_block with_span front_block block_for
invalid_cleared session item = refl

-- what the reader fills beside it in a Response
response_objective : (session : ℕ) (i : Span) (ttl : ℕ) (targets : Targets) (extra : Extra)
    → take 8 (drop 5 (response_block session i ttl targets extra)) ≡ objective_read extra
unfolding response_block targets_block with_extra with_objective front_block with_series
response_objective session i ttl (Targets.Locators first series) None = refl
response_objective session i ttl (Targets.Locators first series) (Some o) = refl
response_objective session i ttl (Targets.Divert first series) None = refl
response_objective session i ttl (Targets.Divert first series) (Some o) = refl

response_first : (session : ℕ) (i : Span) (ttl : ℕ) (targets : Targets) (extra : Extra)
    → get_or (response_block session i ttl targets extra) 14 0 ≡ first_at (target_rows targets)
unfolding response_block targets_block with_extra with_objective front_block with_series target_rows
response_first session i ttl (Targets.Locators first series) None = refl
response_first session i ttl (Targets.Locators first series) (Some o) = refl
response_first session i ttl (Targets.Divert first series) None = refl
response_first session i ttl (Targets.Divert first series) (Some o) = refl

-- and in an End
end_bare : (session : ℕ) (outcome : Outcome)
    → (take 8 (drop 5 (end_block session outcome)) ≡ objective_read None) × (get_or (end_block session outcome) 14 0 ≡ 0)
unfolding end_block outcome_block with_span front_block
end_bare session Outcome.Accept = (refl, refl)
end_bare session Outcome.Decline = (refl, refl)
end_bare session (Outcome.Reason reason) = (refl, refl)

-- for readers

-- The block of a message that was read, once the reader's places are cleared, is the block of that message's
-- description, beside a list of its rows.
pub cleared_block : (m : Message) → cleared (block_of m) ≡ block_for (description_of m) (row_numbers (rows_in m))
unfolding cleared pick block_of discovery_block exchange_block with_objective front_block with_series block_for description_of given_of rows_in row_numbers
cleared_block M.Noop = refl
cleared_block (M.Discovery session i o) = refl
cleared_block (M.Response session i ttl targets extra) = response_cleared session i ttl targets extra
cleared_block (M.RequestNegotiation session o) = refl
cleared_block (M.RequestSynchronization session o) = refl
cleared_block (M.Negotiate session o) = refl
cleared_block (M.End session outcome) = end_cleared session outcome
cleared_block (M.Wait session time) = refl
cleared_block (M.Synch session o) = refl
cleared_block (M.Flood session i ttl first pairs) = rw (mul-div_cancel_left pairs.many {n = 12} (lit< tt))
cleared_block (M.Invalid session item) = invalid_cleared session item

-- So it is taken as that description, whose numbers have the widths of their types.
pub cleared_described : (m : Message) → DescriptionFits (description_of m)
    → described_by (cleared (block_of m)) (row_numbers (rows_in m)) ≡ Some (description_of m)
cleared_described m fits =
    let numbers = row_numbers (rows_in m) in
    let is = cleared_block m in
    (described_exactly (cleared (block_of m)) numbers (description_of m) (ap length is ∙ block_long (description_of m) numbers)).1 (is, fits)

-- What is cleared is the message's objective, of a Flood its first pair's, with the place of its count's head,
pub objective_places_lem : (m : Message) → take 8 (drop 5 (block_of m)) ≡ objective_read (objective_of m)
unfolding block_of discovery_block exchange_block invalid_block with_objective front_block with_series with_span objective_of
objective_places_lem M.Noop = refl
objective_places_lem (M.Discovery session i o) = refl
objective_places_lem (M.Response session i ttl targets extra) = response_objective session i ttl targets extra
objective_places_lem (M.RequestNegotiation session o) = refl
objective_places_lem (M.RequestSynchronization session o) = refl
objective_places_lem (M.Negotiate session o) = refl
objective_places_lem (M.End session outcome) = (end_bare session outcome).0
objective_places_lem (M.Wait session time) = refl
objective_places_lem (M.Synch session o) = refl
objective_places_lem (M.Flood session i ttl first pairs) = refl
objective_places_lem (M.Invalid session item) = refl

-- and the place of the first locator or pair. So these statements say every number of a block that was read.
pub first_place : (m : Message) → get_or (block_of m) 14 0 ≡ first_at (rows_in m)
unfolding block_of discovery_block exchange_block invalid_block with_objective front_block with_series with_span rows_in
first_place M.Noop = refl
first_place (M.Discovery session i o) = refl
first_place (M.Response session i ttl targets extra) = response_first session i ttl targets extra
first_place (M.RequestNegotiation session o) = refl
first_place (M.RequestSynchronization session o) = refl
first_place (M.Negotiate session o) = refl
first_place (M.End session outcome) = (end_bare session outcome).1
first_place (M.Wait session time) = refl
first_place (M.Synch session o) = refl
first_place (M.Flood session i ttl first pairs) = refl
first_place (M.Invalid session item) = refl
