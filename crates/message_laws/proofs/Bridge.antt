-- Tokens and items: `split` and `join`, items that stand one after the other; what token is read of an item that stands
-- in the bytes; and `token_heading`, which head stands where a token was read.
-- Assumes nothing.
use Rattle.std.specs.Prelude.{Ok, Err}
use Rattle.cbor.specs.Head.{HeadRead, a_head}
use mathlib.Core.Path.{◌≡◌, refl, sym, ap, ap₂, ◌∙◌, subst}
use mathlib.Core.Logic.{◌⊎◌, inl, inr}
use mathlib.Core.List.{List, ◌++◌, append_assoc, append-nil}
use mathlib.Core.Bool.{Bool, true, false, cond}
use Prim.Native.Nat.{ℕ, ◌+◌, ◌-◌, ◌^◌, ◌≤◌, ◌<◌}
use native.Mathlib.Nat.{zero-add, add-zero, add_assoc}
use native.Mathlib.Omega.{arith}
use lib.ListN.{length, take, drop, length-append, length-drop, take-append-drop}
use lib.Seq.{drop-drop, drop-length, drop-append_seam, take_at, length-take-le}
use lib.Dec.{ltb, leb, lit<, lit≤}
use borrow.Author.Tests.{lt-ltb, le-ltb, le-leb, ltb-true, ltb-false, leb-true}
use Rattle.base.specs.Pick.{pick}
use Rattle.base.specs.BigEndian.{Bytes}
use Rattle.base.proofs.Picks.{pick-case, both}
use Rattle.base.proofs.Parts.{bytes_drop}
use Rattle.cbor.specs.declared.token.Token.{Token}
use Rattle.cbor.specs.Head.{head_at}
use Rattle.cbor.specs.Tree.{Item, Items, head_bytes, Right, HeadIs, count, encode, encodes, Good}
use Rattle.cbor.specs.Token.{nothing_at, token_of, token_from, token_at}
use Rattle.cbor.proofs.HeadExact.{head_read, length_head, head_is, small_is}
use Rattle.cbor.proofs.Unique.{unique}
use Rattle.message_laws.specs.Stands.{Stands, StandAll, ArrayHead}

-- ---- items one after the other
-- the bytes h stand at p: then the rest begins after them
after : (s : List ℕ) (p : ℕ) (h r : List ℕ) → drop p s ≡ h ++ r → drop (p + length h) s ≡ r
after s p h r e = sym (drop-drop (length h) p s) ∙ ap (drop (length h)) e ∙ drop-append_seam h r

-- the first item, and the others from where it ends
pub record Split (s : List ℕ) (p e : ℕ) (x : Item) (xs : Items) : Type 0 where
  pub mid : ℕ
  pub first : Stands s p mid x
  pub rest : StandAll s mid e xs

pub split : {s : List ℕ} {p e : ℕ} {x : Item} {xs : Items} → StandAll s p e (Items.more x xs) → Split s p e x xs
unfolding encode
split {s} {p} {e} {x} {xs} a =
    let joined : drop p s ≡ encode x ++ (encodes xs ++ drop e s) = a.is ∙ append_assoc (encode x) (encodes xs) (drop e s) in
    let next = after s p (encode x) (encodes xs ++ drop e s) joined in
    let sum : e ≡ p + length (encode x) + length (encodes xs) = omega (arith, a.end, length-append (encode x) (encodes xs)) in
    record {
      mid = p + length (encode x);
      first = record { good = a.good.0; is = joined ∙ ap (λ (t : List ℕ). encode x ++ t) (sym next); end = refl };
      rest = record { good = a.good.1; is = next; end = sum; within = a.within };
    }

-- an item, and others from where it ends
pub join : {s : List ℕ} {p m e : ℕ} {x : Item} {xs : Items} → Stands s p m x → StandAll s m e xs → StandAll s p e (Items.more x xs)
unfolding encode
join {s} {p} {m} {e} {x} {xs} a b =
    record {
      good = (a.good, b.good);
      is = a.is ∙ ap (λ (t : List ℕ). encode x ++ t) b.is ∙ sym (append_assoc (encode x) (encodes xs) (drop e s));
      end = omega (arith, a.end, b.end, length-append (encode x) (encodes xs));
      within = b.within;
    }

-- an item has bytes
pub advances : {s : List ℕ} {p e : ℕ} {x : Item} → Stands s p e x → p < e
unfolding encode head_bytes
advances {x = x} a = omega (arith, a.end, some x)
  where
    some : (x : Item) → 1 ≤ length (encode x)
    some (Item.number t w n) = omega arith
    some (Item.string t w bs) = omega arith
    some (Item.array w xs) = omega arith
    some (Item.map w xs) = omega arith
    some (Item.tagged w n x) = omega arith
    some (Item.simple w n) = omega arith

-- so it ends within the bytes that it stands in
pub stands_within : {s : List ℕ} {p e : ℕ} {x : Item} → Stands s p e x → e ≤ length s
stands_within {s} {p} {e} {x} a = omega (arith, advances a, a.end, ap length a.is, length-append (encode x) (drop e s), length-drop p s, length-drop e s)

-- no items, anywhere
pub none : {s : List ℕ} {e : ℕ} → e ≤ length s → StandAll s e e Items.done
unfolding encode
none h = record { good = tt; is = refl; end = omega arith; within = h }

-- no items have no bytes
pub none_end : {s : List ℕ} {p e : ℕ} → StandAll s p e Items.done → e ≡ p
unfolding encode
none_end {p = p} a = a.end ∙ add-zero p

-- the last item, and the last that is left
pub last : {s : List ℕ} {p e : ℕ} {x : Item} → Stands s p e x → StandAll s p e (Items.more x Items.done)
last a = join a (none (stands_within a))

-- and back
pub only : {s : List ℕ} {p e : ℕ} {x : Item} → StandAll s p e (Items.more x Items.done) → Stands s p e x
only {s} {p} {e} {x} a =
    let c = split a in
    subst (λ (k : ℕ). Stands s p k x) (sym (none_end c.rest)) c.first

-- one item stands at a place
pub stands_once : {s : List ℕ} {p e e' : ℕ} {x y : Item} → Stands s p e x → Stands s p e' y → x ≡ y
stands_once {s} {e = e} {e'} {x} {y} a b = unique x y (drop e s) (drop e' s) a.good b.good (sym a.is ∙ b.is)

-- an item stands in its own encoding
pub stands_whole : {s : List ℕ} {x : Item} → Good x → encode x ≡ s → Stands s 0 (length s) x
stands_whole {s} {x} g e =
    record {
      good = g;
      is = sym e ∙ sym (append-nil (encode x)) ∙ ap (λ (t : List ℕ). encode x ++ t) (sym (drop-length s));
      end = ap length (sym e) ∙ sym (zero-add (length (encode x)));
    }

-- and what stands in all the bytes is encoded as they are
pub whole_stands : {s : List ℕ} {x : Item} → Stands s 0 (length s) x → encode x ≡ s
whole_stands {s} {x} a = sym (append-nil (encode x)) ∙ ap (λ (t : List ℕ). encode x ++ t) (sym (drop-length s)) ∙ sym a.is

-- ---- a part of the message from `base` on, and the message
pub lift : {m : List ℕ} (base : ℕ) {p e : ℕ} {x : Item} → Stands (drop base m) p e x → Stands m (base + p) (base + e) x
lift {m} base {p} {e} {x} a =
    record {
      good = a.good;
      is = sym (drop-drop p base m) ∙ a.is ∙ ap (λ (r : List ℕ). encode x ++ r) (drop-drop e base m);
      end = omega (arith, a.end);
    }

-- the item that the part begins with
pub lift_first : {m : List ℕ} {base e : ℕ} {x : Item} → Stands (drop base m) 0 e x → Stands m base (base + e) x
lift_first {m} {base} {e} {x} a = subst (λ (k : ℕ). Stands m k (base + e) x) (add-zero base) (lift base a)

-- and back: between two places, of a size, and what the part begins with
sink : (m : List ℕ) (base p e : ℕ) {x : Item} → Stands m (base + p) (base + e) x → Stands (drop base m) p e x
sink m base p e {x} a =
    record {
      good = a.good;
      is = drop-drop p base m ∙ a.is ∙ ap (λ (r : List ℕ). encode x ++ r) (sym (drop-drop e base m));
      end = omega (arith, a.end);
    }

pub sink_sized : (m : List ℕ) (base p n : ℕ) {x : Item} → Stands m (base + p) (base + p + n) x → Stands (drop base m) p (p + n) x
sink_sized m base p n {x} a = sink m base p (p + n) (subst (λ (k : ℕ). Stands m (base + p) k x) (add_assoc base p n) a)

pub sink_first : {m : List ℕ} {base e : ℕ} {x : Item} → Stands m base e x → Stands (drop base m) 0 (e - base) x
sink_first {m} {base} {e} {x} a =
    let sum : e ≡ base + (e - base) = omega (arith, a.end) in
    sink m base 0 (e - base) (subst (λ (k : ℕ). Stands m (base + 0) k x) sum (subst (λ (k : ℕ). Stands m k e x) (sym (add-zero base)) a))

-- ---- a head that stands in the bytes, as a token
module _ (s : List ℕ) (p : ℕ) (major width arg : ℕ) (r : List ℕ) (right : Right major width arg) (is : drop p s ≡ head_bytes major width arg ++ r) where
  headed : token_at s p ≡ token_of p (length (drop p s)) major arg (1 + width)
  unfolding token_at token_from
  headed =
      ap (token_from p (length (drop p s)))
      (ap head_at is ∙ head_read major width arg r right ∙ ap (a_head major arg) (length_head major width arg))

  leaf_token : (major < 2) ⊎ (4 ≤ major) → token_at s p ≡ record { at = p; major = major; arg = arg; body = p + (1 + width); next = p + (1 + width) }
  unfolding token_of pick
  leaf_token (inl h) = headed ∙ rw (le-ltb 1 major (omega arith))
  leaf_token (inr h) = headed ∙ rw (lt-ltb 1 major (omega arith), le-ltb major 4 h)

  string_token : 2 ≤ major → major < 4 → arg ≤ length r
      → token_at s p ≡ record { at = p; major = major; arg = arg; body = p + (1 + width); next = p + (1 + width) + arg }
  unfolding token_of pick
  string_token lo hi fits =
      let long : length (drop p s) ≡ (1 + width) + length r =
      ap length is ∙ length-append (head_bytes major width arg) r ∙ ap (λ (n : ℕ). n + length r) (length_head major width arg) in
      headed ∙ rw (lt-ltb 1 major (omega arith), lt-ltb major 4 hi, le-leb arg (length (drop p s) - (1 + width)) (omega arith))

-- ---- an item that stands in the bytes, as a token
-- an unsigned number
pub number_token : {s : List ℕ} {p e w n : ℕ} → Stands s p e (Item.number false w n) → token_at s p ≡ record { at = p; major = 0; arg = n; body = e; next = e }
unfolding encode
number_token {s} {p} {e} {w} {n} a =
    let end : p + (1 + w) ≡ e = sym (a.end ∙ ap (λ (k : ℕ). p + k) (length_head 0 w n)) in
    rw end at (leaf_token s p 0 w n (drop e s) a.good a.is (inl (lit< tt)))

-- null
pub null_token : {s : List ℕ} {p e : ℕ} → Stands s p e (Item.simple 0 22)
    → (token_at s p ≡ record { at = p; major = 7; arg = 22; body = p + 1; next = p + 1 }) × (e ≡ p + 1)
unfolding encode
null_token {s} {p} {e} a = (leaf_token s p 7 0 22 (drop e s) a.good a.is (inr (lit≤ tt)), a.end ∙ ap (λ (k : ℕ). p + k) (length_head 7 0 22))

-- the major types of strings
pub string_major : (t : Bool) → (2 ≤ cond t 3 2) × (cond t 3 2 < 4)
string_major true = (lit≤ tt, lit< tt)
string_major false = (lit≤ tt, lit< tt)

-- a string: where its content begins
pub record Stringed (s : List ℕ) (p e major : ℕ) (bs : List ℕ) : Type 0 where
  pub body : ℕ
  pub token : token_at s p ≡ record { at = p; major = major; arg = length bs; body = body; next = e }
  pub end : e ≡ body + length bs
  pub content : take (length bs) (drop body s) ≡ bs

pub text_token : {s : List ℕ} {p e : ℕ} {t : Bool} {w : ℕ} {bs : List ℕ} → Stands s p e (Item.string t w bs) → Stringed s p e (cond t 3 2) bs
unfolding encode
text_token {s} {p} {e} {t} {w} {bs} a =
    let h : List ℕ = head_bytes (cond t 3 2) w (length bs) in
    let joined : drop p s ≡ h ++ (bs ++ drop e s) = a.is ∙ append_assoc h bs (drop e s) in
    let sum : p + (1 + w) + length bs ≡ e = omega (arith, a.end, length-append h bs, length_head (cond t 3 2) w (length bs)) in
    let fits : length bs ≤ length (bs ++ drop e s) = omega (arith, length-append bs (drop e s)) in
    let rest : drop (p + (1 + w)) s ≡ bs ++ drop e s = rw (length_head (cond t 3 2) w (length bs)) at (after s p h (bs ++ drop e s) joined) in
    let (low, high) = string_major t in
    record {
      body = p + (1 + w);
      token = rw sum at (string_token s p (cond t 3 2) w (length bs) (bs ++ drop e s) a.good.0 joined low high fits);
      end = sym sum;
      content = ap (take (length bs)) rest ∙ take_at bs (drop e s) (length bs) refl;
    }

-- an array: its head, and where its items begin
pub record Arrayed (s : List ℕ) (p e : ℕ) (xs : Items) : Type 0 where
  pub body : ℕ
  pub head : ArrayHead s p body (count xs)
  pub token : token_at s p ≡ record { at = p; major = 4; arg = count xs; body = body; next = body }
  pub items : StandAll s body e xs

pub array_token : {s : List ℕ} {p e w : ℕ} {xs : Items} → Stands s p e (Item.array w xs) → Arrayed s p e xs
unfolding encode
array_token {s} {p} {e} {w} {xs} a =
    let h = head_bytes 4 w (count xs) in
    let joined : drop p s ≡ h ++ (encodes xs ++ drop e s) = a.is ∙ append_assoc h (encodes xs) (drop e s) in
    let rest : drop (p + (1 + w)) s ≡ encodes xs ++ drop e s = rw (length_head 4 w (count xs)) at (after s p h (encodes xs ++ drop e s) joined) in
    record {
      body = p + (1 + w);
      head =
          record {
            width = w;
            right = a.good.0;
            is = joined ∙ ap (λ (r : List ℕ). h ++ r) (sym rest);
            end = ap (λ (k : ℕ). p + k) (sym (length_head 4 w (count xs)));
          };
      token = leaf_token s p 4 w (count xs) (encodes xs ++ drop e s) a.good.0 joined (inr (lit≤ tt));
      items =
          record {
            good = a.good.1;
            is = rest;
            end = omega (arith, a.end, length-append h (encodes xs), length_head 4 w (count xs));
            within = stands_within a;
          };
    }

-- ---- a token, as a head that stands in the bytes
pub record Heading (s : List ℕ) (p : ℕ) (w : Token) : Type 0 where
  pub width : ℕ
  pub right : Right w.major width w.arg
  pub body : w.body ≡ p + (1 + width)
  pub head : drop p s ≡ head_bytes w.major width w.arg ++ drop w.body s
  pub leaf : (w.major < 2) ⊎ (4 ≤ w.major) → w.next ≡ w.body
  pub string : 2 ≤ w.major → w.major < 4 → w.next ≡ w.body + w.arg
  pub within : w.next ≤ length s

not_leaf : {m : ℕ} → (m < 2) ⊎ (4 ≤ m) → 1 < m → m < 4 → ⊥
not_leaf (inl h) lo hi = omega arith
not_leaf (inr h) lo hi = omega arith

module _ (s : List ℕ) (p major arg len : ℕ) (i : HeadIs (drop p s) major arg len) where
  size : len ≡ 1 + i.width
  size = sym (length-take-le len (drop p s) i.within) ∙ ap length i.bytes ∙ length_head major i.width arg

  heading : (next : ℕ) → next ≤ length s → ((major < 2) ⊎ (4 ≤ major) → next ≡ p + len) → (2 ≤ major → major < 4 → next ≡ p + len + arg)
      → Heading s p (record { at = p; major = major; arg = arg; body = p + len; next = next })
  heading next within leaf string =
      record {
        width = i.width;
        right = i.right;
        body = ap (λ (k : ℕ). p + k) size;
        head = sym (take-append-drop len (drop p s)) ∙ ap₂ (λ (h r : List ℕ). h ++ r) i.bytes (drop-drop len p s);
        leaf = leaf;
        string = string;
        within = within;
      }

  token_of_lem : (w : Token) → w ≡ token_of p (length (drop p s)) major arg len → w.major < 8 → Heading s p w
  unfolding token_of nothing_at
  token_of_lem w =
      pick-case by (ltb 1 major)
      (λ e. pick-case by (ltb major 4)
      (λ f. pick-case by (leb arg (length (drop p s) - len))
      (λ g q h. subst (Heading s p) (sym q)
      (heading (p + len + arg) (omega (arith, size, i.within, length-drop p s, leb-true arg (length (drop p s) - len) g))
      (λ either. absurd (not_leaf either (ltb-true 1 major e) (ltb-true major 4 f))) (λ _ _. refl)))
      (λ g q h. absurd (omega (arith, h, ap (λ (v : Token). v.major) q))))
      (λ f. leaf (λ lo hi. omega (arith, ltb-false major 4 f))))
      (λ e. leaf (λ lo hi. omega (arith, ltb-false 1 major e)))
    where
      by : Token → Type 0
      by v = w ≡ v → w.major < 8 → Heading s p w

      leaf : (2 ≤ major → major < 4 → ⊥) → by (record { at = p; major = major; arg = arg; body = p + len; next = p + len })
      leaf other q h =
          subst (Heading s p) (sym q) (heading (p + len) (omega (arith, size, i.within, length-drop p s)) (λ _. refl) (λ lo hi. absurd (other lo hi)))

-- a token has the numbers of its head
token_numbers : (p room major arg len : ℕ) (w : Token) → w ≡ token_of p room major arg len → w.major < 8 → (major ≡ w.major) × (arg ≡ w.arg)
unfolding token_of nothing_at
token_numbers p room major arg len w = both by (ltb 1 major)
    (both by (ltb major 4) (both by (leb arg (room - len)) same (λ q h. absurd (omega (arith, h, ap (λ (v : Token). v.major) q)))) same) same
  where
    by : Token → Type 0
    by v = w ≡ v → w.major < 8 → (major ≡ w.major) × (arg ≡ w.arg)

    same : {next : ℕ} → by (record { at = p; major = major; arg = arg; body = p + len; next = next })
    same q h = (sym (ap (λ (v : Token). v.major) q), sym (ap (λ (v : Token). v.arg) q))

-- so it is of the major type of a head that stands there
pub headed_major : (s : List ℕ) (p major width arg : ℕ) (r : List ℕ) → Right major width arg → drop p s ≡ head_bytes major width arg ++ r
    → (token_at s p).major < 8 → major ≡ (token_at s p).major
headed_major s p major width arg r right is h =
    (token_numbers p (length (drop p s)) major arg (1 + width) (token_at s p) (headed s p major width arg r right is) h).0

-- one that was read has its head there, where a head that is read is without fault
read_heading : (s : List ℕ) (p : ℕ) (w : Token)
    → ((major arg len : ℕ) → head_at (drop p s) ≡ a_head major arg len → major ≡ w.major → arg ≡ w.arg → HeadIs (drop p s) major arg len)
    → w ≡ token_at s p → w.major < 8 → Heading s p w
unfolding token_at token_from nothing_at
read_heading s p w is = go (head_at (drop p s)) refl
  where
    go : (x : HeadRead) → head_at (drop p s) ≡ x → w ≡ token_from p (length (drop p s)) x → w.major < 8 → Heading s p w
    go (Err why) e q h = absurd (omega (arith, h, ap (λ (v : Token). v.major) q))
    go (Ok head) e q h =
        let (same, same') = token_numbers p (length (drop p s)) head.major head.arg head.len w q h in
        token_of_lem s p head.major head.arg head.len (is head.major head.arg head.len e same same') w q h

-- so of bytes,
pub token_heading : (s : List ℕ) (p : ℕ) (w : Token) → Bytes s → w ≡ token_at s p → w.major < 8 → Heading s p w
token_heading s p w b = read_heading s p w (λ major arg len e _ _. head_is (drop p s) (bytes_drop p s b) e)

-- and of any numbers where the argument is below 256
pub small_heading : (s : List ℕ) (p : ℕ) (w : Token) → w ≡ token_at s p → w.major < 8 → w.arg < 2 ^ 8 → Heading s p w
small_heading s p w e major arg =
    read_heading s p w (λ major' arg' len q same same'. small_is (drop p s) q (omega arith) (omega arith)) e major
