-- What the answers of the readers describe, by the message's bytes.
use Rattle.options.specs.Text.{Noted}
use Rattle.std.specs.Prelude.{Some, None}
use Rattle.std.specs.Prelude.{ℕ, suc, ◌+◌, ◌-◌, ◌≤◌, List, ◌++◌, ◌≡◌, ◌↔◌, length, drop}
use Rattle.std.proofs.Math.Option.{Option, none, some}
use Rattle.base.specs.Lists.{Every}
use Rattle.cbor.specs.Item.{left_under}
use Rattle.cbor.specs.Tree.{Item, Items, Right, head_bytes, encode, encodes, depth, Good, Goods}
use Rattle.options.specs.declared.Span.{Span}
use Rattle.options.specs.declared.locator.Locator.{Locator}
use Rattle.options.specs.declared.locator.Locator.TheVariants as L
use Rattle.options.specs.declared.objective.Objective.{Objective}
use Rattle.options.specs.Pair.{PairTag}
use Rattle.options.specs.Text.{span_of}
use Rattle.options.specs.Locator.{null_protocol, null_port}
use Rattle.rfc8990.specs.Message.{Loc, or_null, Obj, Pair}
use Rattle.rfc8990.specs.Cddl.{uint, bytes, text, LocatorItem, ObjectiveItem, PairItem, Value}
use Rattle.rfc8990.specs.Limits.{Utf8, Short, loc_texts, pair_texts}

-- the item x stands in the bytes s from p to e
pub record Stands (s : List ℕ) (p e : ℕ) (x : Item) : Type 0 where
  pub good : Good x
  pub is : drop p s ≡ encode x ++ drop e s
  pub end : e ≡ p + length (encode x)

-- the items xs stand in the bytes s from p to e, one after the other; no items may stand at any place up to the end
pub record StandAll (s : List ℕ) (p e : ℕ) (xs : Items) : Type 0 where
  pub good : Goods xs
  pub is : drop p s ≡ encodes xs ++ drop e s
  pub end : e ≡ p + length (encodes xs)
  pub within : e ≤ length s

-- the head of an array of n items stands at p, its first item at q
pub record ArrayHead (s : List ℕ) (p q n : ℕ) : Type 0 where
  pub width : ℕ
  pub right : Right 4 width n
  pub is : drop p s ≡ head_bytes 4 width n ++ drop q s
  pub end : q ≡ p + length (head_bytes 4 width n)

-- a span of the content that stands right before p
abbrev pub Before : ℕ → List ℕ → Span → Type 0
Before p content span = span ≡ span_of (p - length content) (length content)

-- the locator that an answer describes, by the items of its kind and of its address, domain name or URI, which ends at
-- p; a URI's protocol 0 and port 65,536 stand for null
pub data Addressed (p : ℕ) : Item → Item → Locator → Loc → Type 0 where
  v6 : {k b at protocol port : ℕ} {a : List ℕ} → Before p a (span_of at 16)
      → Addressed p (uint k 103) (bytes b a) (L.V6 at protocol port) (Loc.v6 a protocol port)
  v4 : {k b at protocol port : ℕ} {a : List ℕ} → Before p a (span_of at 4)
      → Addressed p (uint k 104) (bytes b a) (L.V4 at protocol port) (Loc.v4 a protocol port)
  domain : {k b protocol port : ℕ} {name : Span} {a : List ℕ} → Before p a name
      → Addressed p (uint k 105) (text b a) (L.Domain name protocol port) (Loc.domain a protocol port)
  uri : {k b protocol port : ℕ} {uri : Span} {a : List ℕ} {protocol' port' : Option ℕ} → Before p a uri
      → or_null null_protocol protocol ≡ protocol' → or_null null_port port ≡ port'
      → Addressed p (uint k 106) (text b a) (L.Uri uri protocol port) (Loc.uri a protocol' port')

-- the locator that an answer describes, read of the item that begins at p: each part stands right after the one before
-- it
pub record LocatorIs (s : List ℕ) (p : ℕ) (l : Locator) (loc : Loc) : Type 0 where
  -- where the kind, the address and the protocol stand
  pub kind_at : ℕ
  pub address_at : ℕ
  pub protocol_at : ℕ
  pub kind : Item
  pub address : Item
  pub opened : ArrayHead s p kind_at 4
  pub kind_item : Stands s kind_at address_at kind
  pub address_item : Stands s address_at protocol_at address
  pub is : Addressed protocol_at kind address l loc

-- the tag that an answer describes, read of the item that begins at p
pub data TagIs (s : List ℕ) (p : ℕ) : PairTag → Option Loc → Type 0 where
  empty : TagIs s p None none
  at : {l : Locator} {loc : Loc} → LocatorIs s p l loc → TagIs s p (Some l) (some loc)

-- the item that a span holds: none where it has no bytes
pub data ValueIs (s : List ℕ) (span : Span) : Value → Type 0 where
  absent : span.len ≡ 0 → ValueIs s span none
  present : {x : Item} → Stands s span.at (span.at + span.len) x → ValueIs s span (some x)

-- how many items an objective's array has
abbrev pub items_with : Value → ℕ
items_with none = 3
items_with (some x) = 4

-- the objective that an answer describes, read of the item from p to e: each part stands right after the one before it
pub record ObjectiveIs (s : List ℕ) (p e : ℕ) (o : Objective) (obj : Obj Value) : Type 0 where
  -- the widths of the heads of the name, the flags and the count
  pub name_width : ℕ
  pub flags_width : ℕ
  pub count_width : ℕ
  -- where the name's item and the flags stand
  pub name_at : ℕ
  pub flags_at : ℕ
  pub opened : ArrayHead s p name_at (items_with obj.value)
  pub name_item : Stands s name_at flags_at (text name_width obj.name)
  pub name : Before flags_at obj.name o.name
  pub flags_item : Stands s flags_at o.count_at (uint flags_width obj.flags)
  pub flags : o.flags ≡ obj.flags
  pub count_item : Stands s o.count_at o.value.at (uint count_width obj.count)
  pub count : o.count ≡ obj.count
  pub value : ValueIs s o.value obj.value
  pub ends : e ≡ o.value.at + o.value.len

-- the pair that an answer describes, read of the item that begins at p: each part stands right after the one before it
pub record PairIs (s : List ℕ) (p : ℕ) (o : Objective) (t : PairTag) (pair : Pair Value) : Type 0 where
  -- where the objective begins, after the array's head, and where it ends
  pub at : ℕ
  pub mid : ℕ
  pub opened : ArrayHead s p at 2
  pub objective : ObjectiveIs s at mid o pair.0
  pub tag : TagIs s mid t pair.1

-- ---- what is read of a part
-- the locator l, read from p to e with a bad text at `bad`, if any: the item that stands there, and the locator
-- that it is
pub record LocatorStands (s : List ℕ) (p e : ℕ) (l : Locator) (bad : Noted) : Type 0 where
  pub item : Item
  pub loc : Loc
  pub stands : Stands s p e item
  pub is : LocatorItem item loc
  pub described : LocatorIs s p l loc
  pub texts : bad ≡ None ↔ Every Utf8 (loc_texts loc)

-- the objective o, read from p to e with a name that is a bad text at `bad` or too long at `long`: the item that stands
-- there, and the objective that it is; so many levels are open around its value, its own among them
pub record ObjectiveStands (levels : ℕ) (s : List ℕ) (p e : ℕ) (o : Objective) (bad long : Noted) : Type 0 where
  pub item : Item
  pub obj : Obj Value
  pub stands : Stands s p e item
  pub shallow : depth item ≤ suc (left_under levels)
  pub is : ObjectiveItem item obj
  pub described : ObjectiveIs s p e o obj
  pub texts : bad ≡ None ↔ Utf8 obj.name
  pub names : long ≡ None ↔ Short obj.name

-- the pair of o and t, read from p to e with a bad text at `bad` or a name too long at `long`: the item that stands
-- there, and the pair that it is; the message's level is open around it
pub record PairStands (s : List ℕ) (p e : ℕ) (o : Objective) (t : PairTag) (bad long : Noted) : Type 0 where
  pub item : Item
  pub pair : Pair Value
  pub stands : Stands s p e item
  pub shallow : depth item ≤ left_under 1
  pub is : PairItem item pair
  pub described : PairIs s p o t pair
  pub texts : bad ≡ None ↔ Every Utf8 (pair_texts pair)
  pub names : long ≡ None ↔ Short pair.0.name
