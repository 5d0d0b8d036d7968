-- How long a list must be for the rows of any message: a locator and a pair have six bytes at least, and a message has
-- 2,048 at most.
-- Assumes nothing.
use Rattle.std.specs.Prelude.{Ok}
use mathlib.Core.Path.{◌≡◌}
use mathlib.Core.List.{List}
use Prim.Native.Nat.{ℕ, ◌+◌, ◌*◌, ◌/◌, ◌≤◌}
use native.Mathlib.Nat.{le_trans, mul-le-mul_left, mul-div-le}
use native.Mathlib.Omega.{arith}
use lib.Dec.{ltb}
use lib.ListN.{length}
use borrow.Author.Tests.{le-ltb}
use Rattle.base.specs.Pick.{pick}
use Rattle.message.specs.declared.Message.{Message}
use Rattle.message.specs.declared.Message.TheVariants as M
use Rattle.message.specs.declared.Series.{Series}
use Rattle.message.specs.declared.Targets.{Targets}
use Rattle.rfc8990.specs.Limits.{most_bytes}
use Rattle.reader.specs.Read.{read_of}
use Rattle.message.proofs.Parts.{Six, MessageParts}
use Rattle.reader.proofs.ReadParts.{read_parts}
use Rattle.description.specs.Meaning.{locator_row, pair_row}
use Rattle.forms.specs.Rows as R
use Rattle.writer_laws.specs.Lent.{most_numbers}

-- ---- rows
-- the test of room is passed
fits : (list : List ℕ) (size many : ℕ) → many ≤ length list / size → pick (ltb (length list / size) many) (length list + 1) (size * many) ≤ length list
unfolding pick
fits list size many h = rw (le-ltb (length list / size) many h) (le_trans (mul-le-mul_left size h) (mul-div-le (length list) size))

module _ (s : List ℕ) (few : length s ≤ most_bytes) (list : List ℕ) (long : most_numbers ≤ length list) where
  -- of locators, which have six bytes at least, in five numbers
  locators_fit : (series : Series) → Six s series → R.series_end locator_row series list ≤ length list
  unfolding R.series_end
  locators_fit series six = fits list 5 series.many (omega arith)

  -- of pairs, which have six too, in twelve
  pairs_fit : (series : Series) → Six s series → R.series_end pair_row series list ≤ length list
  unfolding R.series_end
  pairs_fit series six = fits list 12 series.many (omega arith)

  -- of a message
  message_fit : (m : Message) → MessageParts s m → R.rows_end m list ≤ length list
  unfolding R.rows_end R.rows_in R.end_by R.target_rows
  message_fit M.Noop h = omega arith
  message_fit (M.Discovery session i o) h = omega arith
  message_fit (M.Response session i ttl (Targets.Locators first series) extra) h = locators_fit series h.1
  message_fit (M.Response session i ttl (Targets.Divert first series) extra) h = locators_fit series h.1
  message_fit (M.RequestNegotiation session o) h = omega arith
  message_fit (M.RequestSynchronization session o) h = omega arith
  message_fit (M.Negotiate session o) h = omega arith
  message_fit (M.End session outcome) h = omega arith
  message_fit (M.Wait session time) h = omega arith
  message_fit (M.Synch session o) h = omega arith
  message_fit (M.Flood session i ttl first series) h = pairs_fit series h.2
  message_fit (M.Invalid session item) h = omega arith

-- for readers

-- A list of so many numbers has room for the rows of every message.
pub rows_fit : (s list : List ℕ) (m : Message) → read_of s ≡ Ok m → most_numbers ≤ length list → R.rows_end m list ≤ length list
rows_fit s list m q long =
    let (few, parts) = read_parts s m q in
    message_fit s few list long m parts
