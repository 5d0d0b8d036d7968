-- The limits on bytes and on texts (rules 2): a message has at most 2,048 bytes, named texts are UTF-8, and names have
-- at most 64 bytes.
use Rattle.std.specs.Prelude.{ℕ, ◌≤◌, length}
use mathlib.Core.List.{List, [], ◌∷◌, ◌++◌, map, flat_map}
use Rattle.std.proofs.Math.Option.{Option, none, some}
use Rattle.base.specs.Lists.{Every}
pub use Rattle.utf8.specs.Utf8.{Utf8}
use Rattle.rfc8990.specs.Message.{Loc, Obj, Pair, Tgts, Outc, Msg}
use Rattle.rfc8990.specs.Cddl.{Value}

-- house limit (rules 2.1): how many bytes a message has at most
abbrev pub most_bytes : ℕ
most_bytes = 2048

-- house limit (rules 2.2): how many bytes an objective's name has at most
abbrev pub most_name : ℕ
most_name = 64

-- a name within the house limit
abbrev pub Short : List ℕ → Type 0
Short name = length name ≤ most_name

-- the texts of a locator: a domain name, or a URI
unfoldable pub loc_texts : Loc → List (List ℕ)
loc_texts (Loc.v6 address protocol port) = []
loc_texts (Loc.v4 address protocol port) = []
loc_texts (Loc.domain name protocol port) = name ∷ []
loc_texts (Loc.uri uri protocol port) = uri ∷ []

-- of a locator that may be left out
unfoldable pub tag_texts : Option Loc → List (List ℕ)
tag_texts none = []
tag_texts (some l) = loc_texts l

-- of a pair
unfoldable pub pair_texts : Pair Value → List (List ℕ)
pair_texts p = p.0.name ∷ tag_texts p.1

-- the name of a pair's objective
abbrev pub pair_name : Pair Value → List ℕ
pair_name p = p.0.name

-- of an objective that may be left out
unfoldable pub optional_names : Option (Obj Value) → List (List ℕ)
optional_names none = []
optional_names (some obj) = obj.name ∷ []

-- the texts of a Response's locators, or its divert's
unfoldable pub tgts_texts : Tgts → List (List ℕ)
tgts_texts (Tgts.locators ls) = flat_map loc_texts ls
tgts_texts (Tgts.divert ls) = flat_map loc_texts ls

-- of a reason
unfoldable pub outc_texts : Outc → List (List ℕ)
outc_texts Outc.accept = []
outc_texts Outc.decline = []
outc_texts (Outc.reason t) = t ∷ []

-- the names of a message's objectives, in its order
unfoldable pub names_of : Msg Value → List (List ℕ)
names_of Msg.noop = []
names_of (Msg.discovery session initiator obj) = obj.name ∷ []
names_of (Msg.response session initiator ttl tgts obj) = optional_names obj
names_of (Msg.request_negotiation session obj) = obj.name ∷ []
names_of (Msg.request_synchronization session obj) = obj.name ∷ []
names_of (Msg.negotiate session obj) = obj.name ∷ []
names_of (Msg.end session e) = []
names_of (Msg.wait session time) = []
names_of (Msg.synch session obj) = obj.name ∷ []
names_of (Msg.flood session initiator ttl ps) = map pair_name ps
names_of (Msg.invalid session item) = []

-- a message's named texts (rules 2.8), in its order: objectives' names, domain names, URIs and reasons
unfoldable pub texts_of : Msg Value → List (List ℕ)
texts_of Msg.noop = []
texts_of (Msg.discovery session initiator obj) = obj.name ∷ []
texts_of (Msg.response session initiator ttl tgts obj) = tgts_texts tgts ++ optional_names obj
texts_of (Msg.request_negotiation session obj) = obj.name ∷ []
texts_of (Msg.request_synchronization session obj) = obj.name ∷ []
texts_of (Msg.negotiate session obj) = obj.name ∷ []
texts_of (Msg.end session e) = outc_texts e
texts_of (Msg.wait session time) = []
texts_of (Msg.synch session obj) = obj.name ∷ []
texts_of (Msg.flood session initiator ttl ps) = flat_map pair_texts ps
texts_of (Msg.invalid session item) = []

-- 11 isn't due
abbrev pub TextsGood : Msg Value → Type 0
TextsGood msg = Every Utf8 (texts_of msg)

-- 10 isn't due
abbrev pub NamesGood : Msg Value → Type 0
NamesGood msg = Every Short (names_of msg)
