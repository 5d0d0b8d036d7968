-- What is written for a description of a source of bytes is made of bytes.
-- Assumes nothing.
use mathlib.Core.Bool.{true, false}
use mathlib.Core.List.{List, [], ◌∷◌, ◌++◌, flat_map}
use mathlib.Core.Option.{Option, none, some}
use Prim.Native.Nat.{ℕ, ◌+◌, ◌*◌, ◌/◌, ◌<◌}
use native.Mathlib.Omega.{arith}
use lib.Dec.{eqb, lit<}
use lib.ListN.{length}
use Rattle.options.specs.Text.{held}
use Rattle.base.specs.BigEndian.{Bytes, bytes_of}
use Rattle.base.specs.Lists.{Every}
use Rattle.base.proofs.Picks.{both}
use Rattle.cbor.specs.Put.{head}
use Rattle.cbor.specs.Tree.{info_of, shortest, head_bytes}
use Rattle.options.specs.declared.Span.{Span}
use Rattle.rfc8990.specs.Message.{or_null}
use Rattle.description.specs.declared.rows.ObjectiveRow.{ObjectiveRow}
use Rattle.description.specs.declared.rows.LocatorRow.{LocatorRow}
use Rattle.std.specs.declared.option.Option as S
use Rattle.std.specs.declared.option.Option.TheVariants.{Some, None}
use Rattle.description.specs.declared.GivenObjective.{GivenObjective}
use Rattle.options.specs.declared.outcome.Outcome.{Outcome}
use Rattle.options.specs.declared.outcome.Outcome.TheVariants as E
use Rattle.description.specs.declared.Description.{Description}
use Rattle.description.specs.declared.Description.TheVariants as D
use Rattle.rfc8990.specs.Encoding.{string, number_or_null, reached, fixed, encode_loc, encode_obj, maybe_obj, loc_or_empty}
use Rattle.rfc8990.specs.Encoding.{encode_pair, encode_targets, encode_outc, preamble, exchange, encode_msg}
use Rattle.description.specs.Meaning.{locator_row, pair_row, objective_row, objective_row_of, obj_of, locator_row_loc, locator_row_at}
use Rattle.description.specs.Meaning.{objective_row_at, row_loc, locs_of, targets_of, extra_of, loc_or_none, row_pair, pairs_of, end_of, msg_of}
use Rattle.message_laws.proofs.Bytes.{bytes_append, bytes_more, bytes_none, bytes_of_lem}
use Rattle.writer_laws.proofs.Script.{info_least}
use Rattle.writer_laws.proofs.Judged.{bytes_held, up_to_exactly}

record AllBytes (s : List ℕ) : Type 0 where
  are : Bytes s

-- one list after the other
then : {a b : List ℕ} → AllBytes a → AllBytes b → AllBytes (a ++ b)
then {a} {b} p q = record { are = bytes_append a b p.are q.are }

-- none
no_bytes : AllBytes []
no_bytes = record { are = bytes_none }

-- the shortest head
head_bytes_lem : (major n : ℕ) → major < 7 → AllBytes (head major n)
unfolding head head_bytes
head_bytes_lem major n h =
    record { are = bytes_more (major * 32 + info_of (shortest n) n) (bytes_of (shortest n) n) (omega (arith, info_least n)) (bytes_of_lem (shortest n) n) }

-- an array's
array_bytes : (n : ℕ) → AllBytes (head 4 n)
array_bytes n = head_bytes_lem 4 n (lit< tt)

-- a number's
number_bytes : (n : ℕ) → AllBytes (head 0 n)
number_bytes n = head_bytes_lem 0 n (lit< tt)

-- a number or null
or_null_bytes : (n : Option ℕ) → AllBytes (number_or_null n)
unfolding number_or_null
or_null_bytes none = record { are = bytes_more 0xf6 [] (lit< tt) bytes_none }
or_null_bytes (some n) = number_bytes n

-- each of a list
all_bytes : {A : Type 0} (encode : A → List ℕ) (xs : List A) → Every (λ x. AllBytes (encode x)) xs → AllBytes (flat_map encode xs)
unfolding flat_map
all_bytes encode [] h = no_bytes
all_bytes encode (x ∷ xs) h = then h.0 (all_bytes encode xs h.1)

-- a message's first items
preamble_bytes : (n kind session : ℕ) → AllBytes (preamble n kind session)
unfolding preamble
preamble_bytes n kind session = then (then (array_bytes n) (number_bytes kind)) (number_bytes session)

module _ (source : List ℕ) (b : Bytes source) where
  -- strings of the source
  string_bytes : (major : ℕ) (s : Span) → major < 7 → AllBytes (string major (held source s))
  unfolding string
  string_bytes major s h = then (head_bytes_lem major (length (held source s)) h) (record { are = bytes_held source s b })

  -- a text
  text_bytes_lem : (s : Span) → AllBytes (string 3 (held source s))
  text_bytes_lem s = string_bytes 3 s (lit< tt)

  -- an address
  address_bytes : (s : Span) → AllBytes (string 2 (held source s))
  address_bytes s = string_bytes 2 s (lit< tt)

  -- a locator with a protocol and a port
  fixed_bytes : (kind major : ℕ) (s : Span) (p q : ℕ) → major < 7 → AllBytes (fixed kind major (held source s) p q)
  unfolding fixed reached
  fixed_bytes kind major s p q h = then (then (then (then (array_bytes 4) (number_bytes kind)) (string_bytes major s h)) (number_bytes p)) (number_bytes q)

  -- a described locator
  locator_bytes : (p : LocatorRow) → AllBytes (encode_loc (locator_row_loc source p))
  unfolding locator_row_loc encode_loc reached
  locator_bytes p =
      both (λ l. AllBytes (encode_loc l)) (eqb p.kind 103) (fixed_bytes 103 2 p.content p.protocol p.port (lit< tt))
      (both (λ l. AllBytes (encode_loc l)) (eqb p.kind 104) (fixed_bytes 104 2 p.content p.protocol p.port (lit< tt))
      (both (λ l. AllBytes (encode_loc l)) (eqb p.kind 105) (fixed_bytes 105 3 p.content p.protocol p.port (lit< tt))
      (then (then (then (then (array_bytes 4) (number_bytes 106)) (text_bytes_lem p.content)) (or_null_bytes (or_null 0 p.protocol)))
      (or_null_bytes (or_null 65536 p.port)))))

  -- a described objective
  objective_bytes : (o : ObjectiveRow) → AllBytes (encode_obj (obj_of source o))
  unfolding obj_of encode_obj
  objective_bytes o =
      then (then (then (then (array_bytes _) (text_bytes_lem o.name)) (number_bytes o.flags)) (number_bytes o.count))
      (record { are = bytes_held source o.value b })

  -- the locators of a list
  rows_bytes : (list : List ℕ) → AllBytes (flat_map encode_loc (locs_of source list))
  unfolding locs_of row_loc
  rows_bytes list =
      all_bytes encode_loc (locs_of source list)
      ((up_to_exactly (λ l. AllBytes (encode_loc l)) (row_loc source list) (length list / locator_row)).1
      (λ i l. locator_bytes (locator_row_at list (locator_row * i))))

  -- a pair's locator or none
  tag_bytes : (p : LocatorRow) → AllBytes (loc_or_empty (loc_or_none source p))
  unfolding loc_or_none loc_or_empty
  tag_bytes p = both (λ l. AllBytes (loc_or_empty l)) (eqb p.kind 0) (array_bytes 0) (locator_bytes p)

  -- a described pair
  pair_bytes : (list : List ℕ) (i : ℕ) → AllBytes (encode_pair (row_pair source list i))
  unfolding row_pair encode_pair
  pair_bytes list i =
      then (then (array_bytes 2) (objective_bytes (objective_row_at list (pair_row * i)))) (tag_bytes (locator_row_at list (pair_row * i + objective_row)))

  -- an objective that may be left out
  extra_bytes : (o : S.Option GivenObjective) → AllBytes (maybe_obj (extra_of source o))
  unfolding extra_of maybe_obj
  extra_bytes None = no_bytes
  extra_bytes (Some o) = objective_bytes (objective_row_of o)

  -- kinds 3, 4, 5 and 8
  exchange_bytes : (kind session : ℕ) (o : ObjectiveRow) → AllBytes (exchange kind session (obj_of source o))
  unfolding exchange
  exchange_bytes kind session o = then (preamble_bytes 3 kind session) (objective_bytes o)

  -- how a negotiation ends
  outc_bytes : (e : Outcome) → AllBytes (encode_outc (end_of source e))
  unfolding end_of encode_outc
  outc_bytes E.Accept = then (array_bytes 1) (number_bytes 101)
  outc_bytes E.Decline = then (array_bytes 1) (number_bytes 102)
  outc_bytes (E.Reason t) = then (then (array_bytes 2) (number_bytes 102)) (text_bytes_lem t)

  -- a described message
  message_bytes : (list : List ℕ) (d : Description) → AllBytes (encode_msg (msg_of source list d))
  unfolding msg_of encode_msg pairs_of targets_of encode_targets
  message_bytes list D.Noop = then (array_bytes 1) (number_bytes 0)
  message_bytes list (D.Discovery s i o) = then (then (preamble_bytes 4 1 s) (address_bytes i)) (objective_bytes (objective_row_of o))
  message_bytes list (D.Response s i t false o) =
      then (then (then (then (preamble_bytes _ 2 s) (address_bytes i)) (number_bytes t)) (rows_bytes list)) (extra_bytes o)
  message_bytes list (D.Response s i t true o) =
      then (then (then (then (preamble_bytes _ 2 s) (address_bytes i)) (number_bytes t)) (then (then (array_bytes _) (number_bytes 100)) (rows_bytes list)))
      (extra_bytes o)
  message_bytes list (D.RequestNegotiation s o) = exchange_bytes 3 s (objective_row_of o)
  message_bytes list (D.RequestSynchronization s o) = exchange_bytes 4 s (objective_row_of o)
  message_bytes list (D.Negotiate s o) = exchange_bytes 5 s (objective_row_of o)
  message_bytes list (D.End s e) = then (preamble_bytes 3 6 s) (outc_bytes e)
  message_bytes list (D.Wait s t) = then (preamble_bytes 3 7 s) (number_bytes t)
  message_bytes list (D.Synch s o) = exchange_bytes 8 s (objective_row_of o)
  message_bytes list (D.Flood s i t) =
      then (then (then (preamble_bytes _ 9 s) (address_bytes i)) (number_bytes t))
      (all_bytes encode_pair (pairs_of source list)
      ((up_to_exactly (λ p. AllBytes (encode_pair p)) (row_pair source list) (length list / pair_row)).1 (λ i l. pair_bytes list i)))
  message_bytes list (D.Invalid s v) = then (preamble_bytes _ 99 s) (record { are = bytes_held source v b })

  -- What is written for a source of bytes is made of bytes.
  pub draft_bytes : (list : List ℕ) (d : Description) → Bytes (encode_msg (msg_of source list d))
  draft_bytes list d = (message_bytes list d).are
