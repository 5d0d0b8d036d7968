-- A message's encoding with shortest heads, kind by kind of the CDDL (RFC 8990, section 4). What stands for a value is
-- the bytes of one item, or no bytes where there is none: no item has none.
use Rattle.std.specs.Prelude.{ℕ, ◌+◌, length}
use mathlib.Core.List.{List, [], ◌∷◌, ◌++◌, flat_map}
use Rattle.std.proofs.Math.Option.{Option, none, some}
use Rattle.cbor.specs.Put.{head}
use Rattle.rfc8990.specs.Message.{Loc, Obj, Pair, Tgts, Outc, Msg}

-- a byte or text string
unfoldable pub string : ℕ → List ℕ → List ℕ
string major bs = head major (length bs) ++ bs

-- a number, or null
unfoldable pub number_or_null : Option ℕ → List ℕ
number_or_null none = 0xf6 ∷ []
number_or_null (some n) = head 0 n

-- ---- locator-option
-- an option of four items, led by its number and a string
unfoldable pub reached : ℕ → ℕ → List ℕ → List ℕ
reached kind major bs = head 4 4 ++ head 0 kind ++ string major bs

-- with a protocol and a port that are never null
unfoldable pub fixed : ℕ → ℕ → List ℕ → ℕ → ℕ → List ℕ
fixed kind major bs p q = reached kind major bs ++ head 0 p ++ head 0 q

-- each kind of locator
unfoldable pub encode_loc : Loc → List ℕ
encode_loc (Loc.v6 a p q) = fixed 103 2 a p q
encode_loc (Loc.v4 a p q) = fixed 104 2 a p q
encode_loc (Loc.domain t p q) = fixed 105 3 t p q
encode_loc (Loc.uri t p q) = reached 106 3 t ++ number_or_null p ++ number_or_null q

-- ---- objective
-- how many items a value is
unfoldable pub one_more : List ℕ → ℕ
one_more [] = 0
one_more (x ∷ xs) = 1

-- an objective, with its value or without
unfoldable pub encode_obj : Obj (List ℕ) → List ℕ
encode_obj o =
    head 4 (3 + one_more o.value) ++ string 3 o.name ++ head 0 o.flags ++ head 0 o.count ++ o.value

-- an objective that may be left out
unfoldable pub maybe_obj : Option (Obj (List ℕ)) → List ℕ
maybe_obj none = []
maybe_obj (some o) = encode_obj o

-- how many items what may be left out is
unfoldable pub how_many : {A : Type 0} → Option A → ℕ
how_many none = 0
how_many (some x) = 1

-- a locator, or an empty array
unfoldable pub loc_or_empty : Option Loc → List ℕ
loc_or_empty none = head 4 0
loc_or_empty (some l) = encode_loc l

-- a Flood's pair: an objective with a locator or an empty array
unfoldable pub encode_pair : Pair (List ℕ) → List ℕ
encode_pair p = head 4 2 ++ encode_obj p.0 ++ loc_or_empty p.1

-- ---- the messages
-- how many items a Response's locators are, or its one divert
unfoldable pub target_items : Tgts → ℕ
target_items (Tgts.locators ls) = length ls
target_items (Tgts.divert ls) = 1

-- the locators one after the other, or the divert that holds them
unfoldable pub encode_targets : Tgts → List ℕ
encode_targets (Tgts.locators ls) = flat_map encode_loc ls
encode_targets (Tgts.divert ls) = head 4 (1 + length ls) ++ head 0 100 ++ flat_map encode_loc ls

-- accept-option, decline-option
unfoldable pub encode_outc : Outc → List ℕ
encode_outc Outc.accept = head 4 1 ++ head 0 101
encode_outc Outc.decline = head 4 1 ++ head 0 102
encode_outc (Outc.reason t) = head 4 2 ++ head 0 102 ++ string 3 t

-- an array of n items, the kind and the session
unfoldable pub preamble : ℕ → ℕ → ℕ → List ℕ
preamble n kind session = head 4 n ++ head 0 kind ++ head 0 session

-- kinds 3, 4, 5 and 8
unfoldable pub exchange : ℕ → ℕ → Obj (List ℕ) → List ℕ
exchange kind session o = preamble 3 kind session ++ encode_obj o

-- a message: the array of its items
unfoldable pub encode_msg : Msg (List ℕ) → List ℕ
encode_msg Msg.noop = head 4 1 ++ head 0 0
encode_msg (Msg.discovery s i o) = preamble 4 1 s ++ string 2 i ++ encode_obj o
encode_msg (Msg.response s i t x o) =
    preamble (4 + (target_items x + how_many o)) 2 s ++ string 2 i ++ head 0 t ++ encode_targets x ++ maybe_obj o
encode_msg (Msg.request_negotiation s o) = exchange 3 s o
encode_msg (Msg.request_synchronization s o) = exchange 4 s o
encode_msg (Msg.negotiate s o) = exchange 5 s o
encode_msg (Msg.end s e) = preamble 3 6 s ++ encode_outc e
encode_msg (Msg.wait s t) = preamble 3 7 s ++ head 0 t
encode_msg (Msg.synch s o) = exchange 8 s o
encode_msg (Msg.flood s i t ps) = preamble (4 + length ps) 9 s ++ string 2 i ++ head 0 t ++ flat_map encode_pair ps
encode_msg (Msg.invalid s v) = preamble (2 + one_more v) 99 s ++ v
