-- A node's own names held against rules 8.4 (refusal 16), and a name held against them. For readers: each statement
-- stands alone.
-- Assumes nothing.
use mathlib.Core.Path.{◌≡◌, ap, subst}
use mathlib.Core.Logic.{inl, inr, ◌↔◌}
use mathlib.Core.List.{List, Memᴰ}
use mathlib.Core.Bool.{true, false}
use Prim.Native.Nat.{ℕ, suc}
use Rattle.base.proofs.Bools.{true_or_false, not_both}
use Rattle.cbor.specs.Tree.{Item, depth}
use Rattle.message_laws.proofs.Whole.{stands, only_one}
use Rattle.names.specs.Names.{names_bad, is_named}
use Rattle.base.specs.Bytes.{same_bytes}
use Rattle.node_laws.specs.OwnNames.{TextArray, OwnNames}
use Rattle.node_laws.proofs.NameTexts.{texts_flat, texts_one, same_sound, same_complete}
use Rattle.node_laws.proofs.NamesJudged.{names_own, names_good, named_member, member_named}

-- an array of texts is one list of texts at most, and has one level
array_one : {x : Item} {names names' : List (List ℕ)} → TextArray x names → TextArray x names' → names ≡ names'
array_one (TextArray.array a) (TextArray.array b) = texts_one a b

array_level : {x : Item} {names : List (List ℕ)} → TextArray x names → depth x ≡ 1
unfolding depth
array_level (TextArray.array a) = ap suc (texts_flat a)

-- for readers

-- A list of numbers is found good exactly if it is own names, and so is made of bytes.
pub names_exactly : (s : List ℕ) → (names_bad s ≡ false) ↔ OwnNames s
names_exactly s = (names_own, names_good)

-- So 16 is due exactly if they aren't.
pub names_refused : (s : List ℕ) → (names_bad s ≡ true) ↔ (OwnNames s → ⊥)
names_refused s = (
  λ e o. not_both (names_bad s) e (names_good o),
  λ other. elim (true_or_false (names_bad s)) [ inl e ↦ e | inr e ↦ absurd (other (names_own e)) ],
)

-- Own names are one list of names only.
pub names_once : (s : List ℕ) (a b : OwnNames s) → a.names ≡ b.names
names_once s a b =
    let same = only_one b.one (stands a.one) in
    array_one (subst (λ (x : Item). TextArray x a.names) same a.are) b.are

-- Their array has one level, so that refusal 6 is never due.
pub names_level : (s : List ℕ) (o : OwnNames s) → depth o.one.item ≡ 1
names_level s o = array_level o.are

-- A name is found among own names exactly if it is one of them.
pub named_exactly : (s name : List ℕ) (o : OwnNames s) → (is_named s name ≡ true) ↔ Memᴰ name o.names
named_exactly s name o = (named_member name o, member_named name o)

-- Two lists of bytes are found the same exactly if they are.
pub same_exactly : (a b : List ℕ) → (same_bytes a b ≡ true) ↔ (a ≡ b)
same_exactly a b = (same_sound a b, same_complete a b)
