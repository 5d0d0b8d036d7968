-- The first whole item, held against RFC 8949. For readers: each statement stands alone.
-- Assumes nothing.
use Rattle.std.specs.Prelude.{Ok}
use Rattle.refusal.specs.declared.Refusal.{Refusal}
use Rattle.refusal.specs.declared.Refusal.TheVariants as R
use Rattle.refusal.specs.Refusal.{number_of, refused}
use Rattle.cbor.specs.Item.{ItemRead}
use mathlib.Core.Path.{◌≡◌, sym, ap, ◌∙◌, subst}
use mathlib.Core.Logic.{◌↔◌, ◌≢◌}
use mathlib.Core.List.{List, [], ◌++◌}
use Prim.Native.Nat.{ℕ, ◌≤◌}
use Rattle.base.specs.BigEndian.{Bytes}
use Rattle.cbor.specs.Item.{left_under, first_item}
use Rattle.cbor.specs.Tree.{ItemIs}
use Rattle.cbor.specs.Fault.{FirstFault}
use Rattle.cbor.proofs.Accepts.{item_found}
use Rattle.cbor.proofs.Exact.{item_exact}
use Rattle.cbor.proofs.Unique.{unique}
use Rattle.cbor.proofs.Followed.{Stays, item_stays}
use Rattle.cbor.proofs.Refuses.{refusal_sound, refusal_complete}

-- for readers

-- An item is accepted exactly if the bytes up to its end are the encoding of one without fault, of no more levels than
-- may open.
pub accepted_exactly : (levels : ℕ) (s : List ℕ) (e : ℕ) → Bytes s → first_item levels s ≡ Ok e ↔ ItemIs (left_under levels) s e
accepted_exactly levels s e b = (item_exact levels s e b, item_found levels s e)

-- It is the encoding of no other.
pub accepted_once : {left e : ℕ} {s : List ℕ} (i j : ItemIs left s e) → i.item ≡ j.item
accepted_once i j = unique i.item j.item [] [] i.good j.good (ap (λ (t : List ℕ). t ++ []) (sym i.bytes ∙ j.bytes))

-- What follows an item changes nothing.
pub accepted_followed : (levels : ℕ) (s t : List ℕ) (e : ℕ) → first_item levels s ≡ Ok e → first_item levels (s ++ t) ≡ Ok e
accepted_followed levels s t e q = subst (λ (x : ItemRead). Stays x (first_item levels (s ++ t))) q (item_stays levels s t)

-- A refusal is given exactly where an unfinished item, all of whose heads are good, is followed by a head at fault: the
-- leftmost.
pub refused_exactly : (levels : ℕ) (s : List ℕ) (refusal : Refusal) (place : ℕ) → Bytes s
    → first_item levels s ≡ refused refusal place ↔ FirstFault (left_under levels) s refusal place
refused_exactly levels s refusal place b = (refusal_sound levels s refusal place b, refusal_complete levels s refusal place)

-- A refusal but `Cut` stays, whatever bytes are appended.
pub refused_followed : (levels : ℕ) (s t : List ℕ) (refusal : Refusal) (place : ℕ) → refusal ≢ R.Cut → first_item levels s ≡ refused refusal place
    → first_item levels (s ++ t) ≡ refused refusal place
refused_followed levels s t refusal place other q = (subst (λ (x : ItemRead). Stays x (first_item levels (s ++ t))) q (item_stays levels s t)).2 other

-- No refusal but 2 to 6 is given: the definition's turns never run out.
pub refused_numbers : (levels : ℕ) (s : List ℕ) (refusal : Refusal) (place : ℕ) → first_item levels s ≡ refused refusal place
    → (2 ≤ number_of refusal) × (number_of refusal ≤ 6)
refused_numbers levels s refusal place q =
    let h = subst (λ (x : ItemRead). Stays x (first_item levels (s ++ []))) q (item_stays levels s []) in
    (h.0, h.1)
