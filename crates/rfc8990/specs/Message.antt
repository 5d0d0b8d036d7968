-- The messages of RFC 8990 (section 4) as data. What stands for an objective's value, and for Invalid's item, is a
-- parameter: one of CBOR's items or none in the grammar, the bytes of one in an encoding.
use Rattle.std.specs.Prelude.{ℕ, List, map, eqb}
use Rattle.std.proofs.Math.Option
use Rattle.std.proofs.Math.Option.{Option, none, some}
use Rattle.base.specs.Pick.{pick}

-- locator-option
pub data Loc : Type 0 where
  v6 : (address : List ℕ) (protocol port : ℕ) → Loc
  v4 : (address : List ℕ) (protocol port : ℕ) → Loc
  domain : (name : List ℕ) (protocol port : ℕ) → Loc
  uri : (uri : List ℕ) (protocol port : Option ℕ) → Loc

-- a URI's protocol or port, where one number stands for null
unfoldable pub or_null : ℕ → ℕ → Option ℕ
or_null null n = pick (eqb n null) none (some n)

-- objective
pub record Obj (A : Type 0) : Type 0 where
  pub name : List ℕ
  pub flags : ℕ
  pub count : ℕ
  pub value : A

-- an objective, with a locator or none
abbrev pub Pair : Type 0 → Type 0
Pair A = Obj A × Option Loc

-- a Response's locators, or its divert's
pub data Tgts : Type 0 where
  locators : List Loc → Tgts
  divert : List Loc → Tgts

-- accept-option, decline-option
pub data Outc : Type 0 where
  accept : Outc
  decline : Outc
  reason : List ℕ → Outc

-- grasp-message: one case for each kind
pub data Msg (A : Type 0) : Type 0 where
  noop : Msg A
  discovery : (session : ℕ) (initiator : List ℕ) → Obj A → Msg A
  response : (session : ℕ) (initiator : List ℕ) (ttl : ℕ) → Tgts → Option (Obj A) → Msg A
  request_negotiation : (session : ℕ) → Obj A → Msg A
  request_synchronization : (session : ℕ) → Obj A → Msg A
  negotiate : (session : ℕ) → Obj A → Msg A
  end : (session : ℕ) → Outc → Msg A
  wait : (session time : ℕ) → Msg A
  synch : (session : ℕ) → Obj A → Msg A
  flood : (session : ℕ) (initiator : List ℕ) (ttl : ℕ) → List (Pair A) → Msg A
  invalid : (session : ℕ) → A → Msg A

-- ---- each value replaced, and all else the same
unfoldable pub valued_obj : {A B : Type 0} → (A → B) → Obj A → Obj B
valued_obj f o = record { name = o.name; flags = o.flags; count = o.count; value = f o.value }

-- in a pair
unfoldable pub valued_pair : {A B : Type 0} → (A → B) → Pair A → Pair B
valued_pair f p = (valued_obj f p.0, p.1)

-- in a message
unfoldable pub valued : {A B : Type 0} → (A → B) → Msg A → Msg B
valued f Msg.noop = Msg.noop
valued f (Msg.discovery s i o) = Msg.discovery s i (valued_obj f o)
valued f (Msg.response s i t tgts o) = Msg.response s i t tgts (Option.map (valued_obj f) o)
valued f (Msg.request_negotiation s o) = Msg.request_negotiation s (valued_obj f o)
valued f (Msg.request_synchronization s o) = Msg.request_synchronization s (valued_obj f o)
valued f (Msg.negotiate s o) = Msg.negotiate s (valued_obj f o)
valued f (Msg.end s e) = Msg.end s e
valued f (Msg.wait s t) = Msg.wait s t
valued f (Msg.synch s o) = Msg.synch s (valued_obj f o)
valued f (Msg.flood s i t ps) = Msg.flood s i t (map (valued_pair f) ps)
valued f (Msg.invalid s v) = Msg.invalid s (f v)
