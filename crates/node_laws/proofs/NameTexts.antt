-- Texts that stand one after the other, held against the tokens that are read of them.
-- Assumes nothing.
use mathlib.Core.Path.{◌≡◌, refl, sym, ap, ap₂, ◌∙◌, subst}
use mathlib.Core.Logic.{inl, inr}
use mathlib.Core.List.{List, [], ◌∷◌, Memᴰ}
use mathlib.Core.Bool.{Bool, true, ◌&&◌, false≢true}
use mathlib.Core.Bool as B
use Prim.Native.Nat.{ℕ, zero, suc, ◌-◌, ◌≤◌, max}
use native.Mathlib.Omega.{arith}
use lib.ListN.{length}
use lib.Dec.{leb, eqb}
use borrow.Author.Tests.{eqb-true, leb-true, le-leb, eq-eqb}
use Rattle.options.specs.Text.{content_in}
use Rattle.base.specs.Lists.{Every}
use Rattle.base.proofs.Bools.{and_left, and_right, and_true, or_true}
use Rattle.cbor.specs.declared.token.Token.{Token}
use Rattle.cbor.specs.Token.{token_at}
use Rattle.cbor.specs.Tree.{Items, count, depth, depths}
use Rattle.utf8.specs.Utf8.{is_utf8}
use Rattle.utf8.proofs.Utf8Exact.{utf8_exactly}
use Rattle.rfc8990.specs.Cddl.{text}
use Rattle.rfc8990.specs.Limits.{Utf8, Short}
use Rattle.message_laws.specs.Stands.{Stands, StandAll}
use Rattle.message_laws.proofs.Bridge.{split, join, none, small_heading, text_token}
use Rattle.message_laws.proofs.Pieces.{text_at}
use Rattle.message_laws.proofs.Bytes.{bytes_utf8}
use Rattle.rfc8990.specs.Limits.{most_name}
use Rattle.names.specs.Names.{good_name, good_names, named_from}
use Rattle.base.specs.Bytes.{same_bytes}
use Rattle.node_laws.specs.OwnNames.{TextItems}

-- as many texts as items
pub texts_counted : {xs : Items} {names : List (List ℕ)} → TextItems xs names → count xs ≡ length names
unfolding count
texts_counted TextItems.empty = refl
texts_counted (TextItems.more a) = ap suc (texts_counted a)

-- texts have no levels
pub texts_flat : {xs : Items} {names : List (List ℕ)} → TextItems xs names → depths xs ≡ 0
unfolding depth
texts_flat TextItems.empty = refl
texts_flat (TextItems.more a) = ap (max 0) (texts_flat a)

-- items are one list of texts at most
pub texts_one : {xs : Items} {names names' : List (List ℕ)} → TextItems xs names → TextItems xs names' → names ≡ names'
texts_one TextItems.empty TextItems.empty = refl
texts_one (TextItems.more {content = content} a) (TextItems.more b) = ap (λ (l : List (List ℕ)). content ∷ l) (texts_one a b)

-- ---- what is read stands there
-- good names, and where they end
pub record NamesHere (s : List ℕ) (p n : ℕ) : Type 0 where
  pub end : ℕ
  pub items : Items
  pub names : List (List ℕ)
  pub stand : StandAll s p end items
  pub are : TextItems items names
  pub many : n ≡ count items
  pub utf8 : Every Utf8 names
  pub short : Every Short names

-- a good name, and then others
name_sound : {s : List ℕ} {p n : ℕ} (t : Token) → t ≡ token_at s p → good_name s t ≡ true → (t.next ≤ length s → NamesHere s t.next n) → NamesHere s p (suc n)
unfolding good_name count
name_sound {s} {p} {n} t is good others =
    let kind = eqb t.major 3 in
    let fits = leb t.arg most_name in
    let tested = is_utf8 (content_in s t) in
    let front = and_left (kind && fits) tested good in
    let utf8 = (utf8_exactly (content_in s t)).0 (and_right (kind && fits) tested good) in
    let text : t.major ≡ 3 = eqb-true t.major 3 (and_left kind fits front) in
    let few : t.arg ≤ most_name = leb-true t.arg most_name (and_right kind fits front) in
    let h = small_heading s p t is (omega arith) (omega arith) in
    let (item, long) = text_at h true text (bytes_utf8 utf8) in
    let rest = others h.within in
    record {
      end = rest.end;
      items = Items.more _ rest.items;
      names = content_in s t ∷ rest.names;
      stand = join item.stands rest.stand;
      are = TextItems.more rest.are;
      many = ap suc rest.many;
      utf8 = (utf8, rest.utf8);
      short = (omega (arith, long), rest.short);
    }

pub names_sound : {s : List ℕ} (n p : ℕ) → p ≤ length s → good_names s n p ≡ true → NamesHere s p n
unfolding good_names count
names_sound zero p low good = record { end = p; items = Items.done; names = []; stand = none low; are = TextItems.empty; many = refl; utf8 = tt; short = tt }
names_sound {s} (suc n) p low good =
    let t = token_at s p in
    name_sound t refl (and_left (good_name s t) (good_names s n t.next) good)
    (λ within. names_sound n t.next within (and_right (good_name s t) (good_names s n t.next) good))

-- ---- what stands there is read
-- a text's token
record TextRead (s : List ℕ) (p e : ℕ) (bs : List ℕ) : Type 0 where
  pub major : (token_at s p).major ≡ 3
  pub arg : (token_at s p).arg ≡ length bs
  pub next : (token_at s p).next ≡ e
  pub content : content_in s (token_at s p) ≡ bs

text_read : {s : List ℕ} {p e w : ℕ} {bs : List ℕ} → Stands s p e (text w bs) → TextRead s p e bs
text_read {e = e} {bs = bs} a =
    let t = text_token a in
    let size : e - t.body ≡ length bs = omega (arith, t.end) in
    record {
      major = ap (λ (x : Token). x.major) t.token;
      arg = ap (λ (x : Token). x.arg) t.token;
      next = ap (λ (x : Token). x.next) t.token;
      content = rw (t.token, size) t.content;
    }

name_complete : {s : List ℕ} {p e : ℕ} {name : List ℕ} → TextRead s p e name → Utf8 name → Short name → good_name s (token_at s p) ≡ true
unfolding good_name
name_complete {s} {p} t utf8 short =
    let w = token_at s p in
    and_true (eqb w.major 3 && leb w.arg most_name) (is_utf8 (content_in s w))
    (and_true (eqb w.major 3) (leb w.arg most_name) (eq-eqb w.major 3 t.major) (le-leb w.arg most_name (omega (arith, t.arg))))
    (ap is_utf8 t.content ∙ (utf8_exactly _).1 utf8)

pub names_complete : {s : List ℕ} {p e : ℕ} {xs : Items} {names : List (List ℕ)} → TextItems xs names → StandAll s p e xs → Every Utf8 names → Every Short names
    → good_names s (count xs) p ≡ true
unfolding good_names count
names_complete TextItems.empty stand utf8 short = refl
names_complete {s} {p} (TextItems.more {xs = xs} are) stand utf8 short =
    let c = split stand in
    let t = text_read c.first in
    and_true (good_name s (token_at s p)) (good_names s (count xs) (token_at s p).next) (name_complete t utf8.0 short.0)
    (rw t.next (names_complete {p = (split stand).mid} are c.rest utf8.1 short.1))

-- ---- a name among them
-- byte for byte
pub same_sound : (a b : List ℕ) → same_bytes a b ≡ true → a ≡ b
unfolding same_bytes
same_sound [] [] e = refl
same_sound [] (y ∷ ys) e = cc
same_sound (x ∷ xs) [] e = cc
same_sound (x ∷ xs) (y ∷ ys) e =
    ap₂ (λ (z : ℕ) (zs : List ℕ). z ∷ zs) (eqb-true x y (and_left (eqb x y) (same_bytes xs ys) e)) (same_sound xs ys (and_right (eqb x y) (same_bytes xs ys) e))

same_self : (a : List ℕ) → same_bytes a a ≡ true
unfolding same_bytes
same_self [] = refl
same_self (x ∷ xs) = and_true (eqb x x) (same_bytes xs xs) (eq-eqb x x refl) (same_self xs)

pub same_complete : (a b : List ℕ) → a ≡ b → same_bytes a b ≡ true
same_complete a b e = subst (λ (l : List ℕ). same_bytes a l ≡ true) e (same_self a)

pub named_sound : {s : List ℕ} {p e : ℕ} {xs : Items} {names : List (List ℕ)} (name : List ℕ) → TextItems xs names → StandAll s p e xs
    → named_from s name (count xs) p ≡ true → Memᴰ name names
unfolding named_from count
named_sound name TextItems.empty stand own = absurd (false≢true own)
named_sound {s} {p} name (TextItems.more {xs = xs} are) stand own =
    let c = split stand in
    let t = text_read c.first in
    elim (or_true (same_bytes (content_in s (token_at s p)) name) (named_from s name (count xs) (token_at s p).next) own) [
      | inl here ↦ Memᴰ.head (sym (sym t.content ∙ same_sound (content_in s (token_at s p)) name here))
      | inr later ↦ Memᴰ.tail (named_sound {p = (split stand).mid} name are c.rest (rw t.next at later))
    ]

pub named_complete : {s : List ℕ} {p e : ℕ} {xs : Items} {names : List (List ℕ)} (name : List ℕ) → TextItems xs names → StandAll s p e xs
    → Memᴰ name names → named_from s name (count xs) p ≡ true
unfolding named_from count
named_complete {s = s} {p = p} {e = e} name TextItems.empty stand r = elim r [ ]
named_complete {s} {p} name (TextItems.more {xs = xs} are) stand (Memᴰ.head e) =
    let t = text_read (split stand).first in
    rw (same_complete (content_in s (token_at s p)) name (t.content ∙ sym e)) refl
named_complete {s} {p} name (TextItems.more {xs = xs} are) stand (Memᴰ.tail m) =
    let c = split stand in
    let later : named_from s name (count xs) (token_at s p).next ≡ true =
    rw (text_read c.first).next (named_complete {p = (split stand).mid} name are c.rest m) in
    rw later (B.or-true (same_bytes (content_in s (token_at s p)) name))
