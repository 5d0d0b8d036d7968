-- Own names held against the answer on them, both ways: the frame and the array's head around the texts.
-- Assumes nothing.
use Rattle.std.specs.Prelude.{Ok, Err}
use Rattle.cbor.specs.Item.{ItemRead}
use mathlib.Core.Path.{◌≡◌, refl, sym, ap, ◌∙◌, subst}
use mathlib.Core.List.{List, Memᴰ}
use mathlib.Core.Bool.{true, false, not, ◌||◌, true≢false}
use Prim.Native.Nat.{ℕ, ◌≤◌}
use native.Mathlib.Omega.{arith}
use lib.ListN.{length, drop}
use lib.Dec.{ltb, eqb}
use borrow.Author.Tests.{eqb-true, ltb-false, not-false, eq-eqb, ne_eqb, le-ltb}
use Rattle.base.specs.Pick.{pick}
use Rattle.base.proofs.Picks.{pick-case, past}
use Rattle.base.proofs.Bools.{or_left, or_right}
use Rattle.cbor.specs.Item.{most_levels, first_item}
use Rattle.cbor.specs.Token.{token_at}
use Rattle.cbor.specs.Tree.{Item, Items, count, depth, encode}
use Rattle.cbor.proofs.Accepts.{item_accepts}
use Rattle.message_laws.specs.Stands.{Stands}
use Rattle.message_laws.proofs.Bridge.{last, small_heading, advances, whole_stands}
use Rattle.message_laws.proofs.Pieces.{array_at}
use Rattle.message_laws.proofs.Whole.{stands}
use Rattle.message_laws.proofs.Heads.{ArrayPassed, array_passed}
use Rattle.reader.proofs.Placed.{walked}
use Rattle.rfc8990.specs.Limits.{most_bytes}
use Rattle.names.specs.Names.{most_names, good_names, array_bad, framed_bad, names_bad, named_from, is_named}
use Rattle.node_laws.specs.OwnNames.{TextItems, TextArray, OwnNames}
use Rattle.node_laws.proofs.NameTexts.{texts_counted, texts_flat, names_sound, names_complete, named_sound, named_complete}

-- ---- own names are found good
-- the array's token, and its texts
record TextsRead (s : List ℕ) (names : List (List ℕ)) : Type 0 where
  items : Items
  are : TextItems items names
  array : ArrayPassed s 0 (length s) items Items.done

texts_read : {s : List ℕ} {x : Item} {names : List (List ℕ)} → Stands s 0 (length s) x → TextArray x names → TextsRead s names
texts_read stand (TextArray.array are) = record { items = _; are = are; array = array_passed (last stand) }

module _ {s : List ℕ} (o : OwnNames s) where
  read : TextsRead s o.names
  read = texts_read (stands o.one) o.are

  few_read : (token_at s 0).arg ≤ most_names
  few_read = omega (arith, read.array.arg, texts_counted read.are, o.few)

  array_good : array_bad s ≡ false
  unfolding array_bad
  array_good =
      let a = token_at s 0 in
      let all : good_names s a.arg a.next ≡ true = rw read.array.arg (names_complete read.are read.array.items o.utf8 o.short) in
      rw (eq-eqb a.major 4 read.array.major, le-ltb most_names a.arg few_read, all) refl

  pub names_good : names_bad s ≡ false
  unfolding names_bad framed_bad pick
  names_good =
      rw (
        ne_eqb (length s) 0 (λ z. omega (arith, advances (stands o.one))),
        le-ltb most_bytes (length s) o.one.most,
        walked o.one,
        eq-eqb (length s) (length s) refl,
        array_good,
      ) refl

-- ---- what is found good is own names
framed_good : (s : List ℕ) (r : ItemRead) → framed_bad s r ≡ false → (r ≡ Ok (length s)) × (array_bad s ≡ false)
unfolding framed_bad
framed_good s (Err why) = λ q. absurd (true≢false q)
framed_good s (Ok end) =
    pick-case (λ r. r ≡ false → (◌≡◌ {A = ItemRead} (Ok end) (Ok (length s))) × (array_bad s ≡ false)) (eqb end (length s))
    (λ e q. (ap Ok (eqb-true end (length s) e), q)) (λ e q. absurd (true≢false q))

-- the walk took the whole, and the array is good
array_own : {s : List ℕ} → length s ≤ most_bytes → first_item 0 s ≡ Ok (length s) → array_bad s ≡ false → OwnNames s
unfolding array_bad depth
array_own {s} most all good =
    let a = token_at s 0 in
    let kind = eqb a.major 4 in
    let over = ltb most_names a.arg in
    let named = good_names s a.arg a.next in
    let front = or_left (not kind || over) (not named) good in
    let four : a.major ≡ 4 = eqb-true a.major 4 (not-false kind (or_left (not kind) over front)) in
    let few : a.arg ≤ most_names = ltb-false most_names a.arg (or_right (not kind) over front) in
    let h = small_heading s 0 a refl (omega arith) (omega arith) in
    let n = names_sound a.arg a.next h.within (not-false named (or_right (not kind || over) (not named) good)) in
    let stand = array_at h four n.many n.stand in
    let x = Item.array h.width n.items in
    let shallow : depth x ≤ most_levels = omega (arith, texts_flat n.are) in
    let ends : Ok (length (encode x)) ≡ Ok (length s) =
    sym (ap (first_item 0) stand.is ∙ item_accepts 0 x (drop n.end s) stand.good shallow) ∙ all in
    let long : length (encode x) ≡ length s = cc in
    record {
      one = record {
        item = x;
        bytes = whole_stands (subst (λ (k : ℕ). Stands s 0 k x) (omega (arith, stand.end)) stand);
        most = most;
        good = stand.good;
        shallow = shallow;
      };
      names = n.names;
      are = TextArray.array n.are;
      few = omega (arith, n.many, texts_counted n.are);
      utf8 = n.utf8;
      short = n.short;
    }

pub names_own : {s : List ℕ} → names_bad s ≡ false → OwnNames s
unfolding names_bad
names_own {s} q =
    let (some, q₁) = past (eqb (length s) 0) q true≢false in
    let (most, q₂) = past (ltb most_bytes (length s)) q₁ true≢false in
    let (all, good) = framed_good s (first_item 0 s) q₂ in
    array_own (ltb-false most_bytes (length s) most) all good

-- ---- a name among them
module _ {s : List ℕ} (name : List ℕ) (o : OwnNames s) where
  named_read : is_named s name ≡ named_from s name (count (read o).items) (token_at s 0).next
  unfolding is_named pick
  named_read = rw (le-ltb most_names (token_at s 0).arg (few_read o), ← (read o).array.arg) refl

  pub named_member : is_named s name ≡ true → Memᴰ name o.names
  named_member e = named_sound name (read o).are (read o).array.items (sym named_read ∙ e)

  pub member_named : Memᴰ name o.names → is_named s name ≡ true
  member_named m = named_read ∙ named_complete name (read o).are (read o).array.items m
