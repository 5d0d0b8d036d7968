-- The four kinds of locators have one shape: a kind, an address, a protocol and a port. What the readers of these parts
-- answer, and which items they are.
-- Assumes nothing.
use mathlib.Core.Path.{◌≡◌, refl, sym, ap, ap₂, ◌∙◌, subst}
use mathlib.Core.Logic.{◌↔◌}
use mathlib.Core.List.{List, [], ◌∷◌}
use mathlib.Core.Bool.{Bool, true, false, cond, ◌&&◌}
use mathlib.Core.Option as O
use Rattle.std.specs.Prelude.{Option, Some, None}
use Prim.Native.Nat.{ℕ, ◌+◌, ◌-◌, ◌^◌, ◌≤◌, ◌<◌}
use native.Mathlib.Omega.{arith}
use lib.ListN.{length}
use lib.Dec.{leb, eqb, lit≤}
use borrow.Author.Tests.{le-leb, leb-true, eqb-true, eqb-false, eq-eqb, ne_eqb}
use Rattle.base.specs.Pick.{pick}
use Rattle.base.specs.BigEndian.{Bytes}
use Rattle.base.specs.Lists.{Every}
use Rattle.base.proofs.Bools.{and_left, and_right}
use Rattle.base.proofs.Picks.{pick-case}
use Rattle.cbor.specs.declared.token.Token.{Token}
use Rattle.cbor.specs.Tree.{Item}
use Rattle.cbor.specs.Token.{token_at}
use Rattle.cbor.proofs.Tokens.{token_is}
use Rattle.options.specs.Text.{span_of, bad_text}
use Rattle.options.specs.Locator.{is_null, address_fits, null_protocol, null_port, protocol_of, port_of, locator_of, text_of}
use Rattle.rfc8990.specs.Message.{Loc, or_null}
use Rattle.rfc8990.specs.Cddl.{uint, null, array, Protocol, Port, OrNull, LocatorItem}
use Rattle.rfc8990.specs.Limits.{Utf8, loc_texts}
use Rattle.message_laws.specs.Stands.{Stands, Addressed}
use Rattle.message_laws.proofs.Bridge.{Heading, token_heading, small_heading, number_token, null_token}
use Rattle.message_laws.proofs.Pieces.{Is, number_at, null_at}
use Rattle.message_laws.proofs.Texts.{bad_text_lem}

-- ---- the shape
-- the address of a kind, as a text or as bytes
pub data Address : ℕ → Bool → List ℕ → Type 0 where
  v6 : {a : List ℕ} → length a ≡ 16 → Address 103 false a
  v4 : {a : List ℕ} → length a ≡ 4 → Address 104 false a
  domain : {a : List ℕ} → Address 105 true a
  uri : {a : List ℕ} → Address 106 true a

-- the protocol or port of a kind; a URI's may be null, for which the answer has the number `for_null`
pub data OfKind (P : Item → ℕ → Type 0) (for_null kind : ℕ) : Item → ℕ → Type 0 where
  given : {x : Item} {n : ℕ} → P x n → OfKind P for_null kind x n
  missing : kind ≡ 106 → OfKind P for_null kind null for_null

-- what the four kinds share
pub data Shape : Item → Type 0 where
  shape : {w k u kind : ℕ} {t : Bool} {a : List ℕ} {x y : Item} {pn qn : ℕ} → Address kind t a → OfKind Protocol 0 kind x pn → OfKind Port 65536 kind y qn
      → Shape (array w (uint k kind ∷ Item.string t u a ∷ x ∷ y ∷ []))

of_uri : {P : Item → ℕ → Type 0} (for_null : ℕ) {x : Item} {n : O.Option ℕ} → OrNull P x n → (k : ℕ) × OfKind P for_null 106 x k
of_uri for_null OrNull.is_null = (for_null, OfKind.missing refl)
of_uri for_null (OrNull.is i) = (_, OfKind.given i)

-- every locator has this shape
pub shape_of : {x : Item} {loc : Loc} → LocatorItem x loc → Shape x
shape_of (LocatorItem.v6 long i j) = Shape.shape (Address.v6 long) (OfKind.given i) (OfKind.given j)
shape_of (LocatorItem.v4 long i j) = Shape.shape (Address.v4 long) (OfKind.given i) (OfKind.given j)
shape_of (LocatorItem.domain i j) = Shape.shape Address.domain (OfKind.given i) (OfKind.given j)
shape_of (LocatorItem.uri i j) = Shape.shape Address.uri (of_uri 0 i).1 (of_uri 65536 j).1

plain : {P : Item → ℕ → Type 0} {for_null kind n : ℕ} {x : Item} → (kind ≡ 106 → ⊥) → OfKind P for_null kind x n → P x n
plain no-uri (OfKind.given i) = i
plain no-uri (OfKind.missing e) = absurd (no-uri e)

uri_protocol : {kind n : ℕ} {x : Item} → OfKind Protocol 0 kind x n → OrNull Protocol x (or_null 0 n)
unfolding or_null pick
uri_protocol (OfKind.given Protocol.tcp) = OrNull.is Protocol.tcp
uri_protocol (OfKind.given Protocol.udp) = OrNull.is Protocol.udp
uri_protocol (OfKind.missing e) = OrNull.is_null

uri_port : {kind n : ℕ} {x : Item} → OfKind Port 65536 kind x n → OrNull Port x (or_null 65536 n)
unfolding or_null pick
uri_port {n = n} (OfKind.given (Port.port h)) = rw (ne_eqb n 65536 (omega arith)) (OrNull.is (Port.port h))
uri_port (OfKind.missing e) = OrNull.is_null

-- the locator with such an address, protocol and port
unfoldable pub loc_with : {kind : ℕ} {t : Bool} {a : List ℕ} → Address kind t a → ℕ → ℕ → Loc
loc_with (Address.v6 {a} long) pn qn = Loc.v6 a pn qn
loc_with (Address.v4 {a} long) pn qn = Loc.v4 a pn qn
loc_with (Address.domain {a}) pn qn = Loc.domain a pn qn
loc_with (Address.uri {a}) pn qn = Loc.uri a (or_null null_protocol pn) (or_null null_port qn)

-- its item
pub shape_item : {w k u kind pn qn : ℕ} {t : Bool} {a : List ℕ} {x y : Item} (address : Address kind t a) → OfKind Protocol 0 kind x pn
    → OfKind Port 65536 kind y qn
    → LocatorItem (array w (uint k kind ∷ Item.string t u a ∷ x ∷ y ∷ [])) (loc_with address pn qn)
unfolding loc_with
shape_item (Address.v6 long) i j = LocatorItem.v6 long (plain (λ e. omega arith) i) (plain (λ e. omega arith) j)
shape_item (Address.v4 long) i j = LocatorItem.v4 long (plain (λ e. omega arith) i) (plain (λ e. omega arith) j)
shape_item Address.domain i j = LocatorItem.domain (plain (λ e. omega arith) i) (plain (λ e. omega arith) j)
shape_item Address.uri i j = LocatorItem.uri (uri_protocol i) (uri_port j)

-- the answer with such an address, which stands at `at`, right before p
pub shape_addressed : (at len p pn qn : ℕ) {k u kind : ℕ} {t : Bool} {a : List ℕ} → at ≡ p - length a → len ≡ length a → (address : Address kind t a)
    → Addressed p (uint k kind) (Item.string t u a) (locator_of kind at len pn qn) (loc_with address pn qn)
unfolding loc_with locator_of pick
shape_addressed at len p pn qn place size (Address.v6 long) = Addressed.v6 (ap₂ span_of place (sym long))
shape_addressed at len p pn qn place size (Address.v4 long) = Addressed.v4 (ap₂ span_of place (sym long))
shape_addressed at len p pn qn place size Address.domain = Addressed.domain (ap₂ span_of place size)
shape_addressed at len p pn qn place size Address.uri = Addressed.uri (ap₂ span_of place size) refl refl

-- its bad text, which an address of bytes never is
one_text : (text : List ℕ) (place : ℕ) → (place ≡ 0 → ⊥) → bad_text text place ≡ None ↔ Every Utf8 (text ∷ [])
one_text text place far = let (there, back) = bad_text_lem text place far in (λ z. (there z, tt), λ h. back h.0)

pub shape_texts : (pn qn place : ℕ) {kind : ℕ} {t : Bool} {text : List ℕ} → (place ≡ 0 → ⊥) → (address : Address kind t text)
    → text_of kind text place ≡ None ↔ Every Utf8 (loc_texts (loc_with address pn qn))
unfolding loc_texts loc_with text_of pick
shape_texts pn qn place far (Address.v6 long) = (λ _. tt, λ _. refl)
shape_texts pn qn place far (Address.v4 long) = (λ _. tt, λ _. refl)
shape_texts pn qn place {text = text} far Address.domain = one_text text place far
shape_texts pn qn place {text = text} far Address.uri = one_text text place far

-- ---- what was read stands there
-- a protocol or port stands from p to e
abbrev pub Here : (s : List ℕ) (p e : ℕ) (P : Item → ℕ → Type 0) (for_null kind n : ℕ) → Type 0
Here s p e P for_null kind n = Is s p e (λ x. OfKind P for_null kind x n)

number_of : {s : List ℕ} {p : ℕ} {w : Token} → Heading s p w → (P : Item → ℕ → Type 0) (for_null kind n : ℕ) → eqb w.major 0 ≡ true → w.arg ≡ n
    → ((k : ℕ) → P (uint k n) n) → Here s p w.next P for_null kind n
number_of {s} {p} {w} h P for_null kind n e same made =
    let i = number_at h (eqb-true w.major 0 e) in
    record {
      item = uint i.width n;
      stands = subst (λ (v : ℕ). Stands s p w.next (uint i.width v)) same i.stands;
      is = OfKind.given (made i.width);
    }

module _ (s : List ℕ) (p : ℕ) (w : Token) (read : w ≡ token_at s p) where
  null_here : is_null w ≡ true → Stands s p w.next null
  unfolding is_null
  null_here q =
      let e = and_left (eqb w.major 7 && eqb w.arg 22) (eqb (w.body - w.at) 1) q in
      let one = and_right (eqb w.major 7 && eqb w.arg 22) (eqb (w.body - w.at) 1) q in
      let major : w.major ≡ 7 = eqb-true w.major 7 (and_left (eqb w.major 7) (eqb w.arg 22) e) in
      let arg : w.arg ≡ 22 = eqb-true w.arg 22 (and_right (eqb w.major 7) (eqb w.arg 22) e) in
      let h = small_heading s p w read (omega arith) (omega arith) in
      null_at h major arg (omega (arith, (token_is s p w read).here, eqb-true (w.body - w.at) 1 one, h.body))

  null_of : (P : Item → ℕ → Type 0) (for_null kind : ℕ) → eqb kind 106 ≡ true → is_null w ≡ true → Here s p w.next P for_null kind for_null
  null_of P for_null kind e z = record { item = null; stands = null_here z; is = OfKind.missing (eqb-true kind 106 e) }

  -- a protocol that was read
  pub protocol_here : (kind n : ℕ) → protocol_of kind w ≡ Some n → Here s p w.next Protocol 0 kind n
  unfolding protocol_of
  protocol_here kind n =
      pick-case by (eqb w.major 0)
      (λ e. pick-case by (eqb w.arg 6)
      (λ f. some (number_of (small e (omega (arith, eqb-true w.arg 6 f))) Protocol 0 kind 6 e (eqb-true w.arg 6 f) (λ k. Protocol.tcp)))
      (λ _. pick-case by (eqb w.arg 17)
      (λ f. some (number_of (small e (omega (arith, eqb-true w.arg 17 f))) Protocol 0 kind 17 e (eqb-true w.arg 17 f) (λ k. Protocol.udp)))
      (λ _. nothing)))
      (λ _. pick-case by (eqb kind 106) (λ e. pick-case by (is_null w) (λ z. some (null_of Protocol 0 kind e z)) (λ _. nothing)) (λ _. nothing))
    where
      by : Option ℕ → Type 0
      by o = o ≡ Some n → Here s p w.next Protocol 0 kind n

      some : {m : ℕ} → Here s p w.next Protocol 0 kind m → by (Some m)
      some {m} h q = let same : m ≡ n = cc in subst (Here s p w.next Protocol 0 kind) same h

      nothing : by None
      nothing q = absurd (cc)

      small : eqb w.major 0 ≡ true → w.arg < 2 ^ 8 → Heading s p w
      small e low = small_heading s p w read (omega (arith, eqb-true w.major 0 e)) low

  -- a port that was read
  pub port_here : Bytes s → (kind n : ℕ) → port_of kind w ≡ Some n → Here s p w.next Port 65536 kind n
  unfolding port_of
  port_here bytes kind n =
      pick-case by (eqb w.major 0)
      (λ e. pick-case by (leb w.arg 65535) (λ f. some (number_of (token_heading s p w bytes read (omega (arith, eqb-true w.major 0 e))) Port 65536 kind
      w.arg e refl (λ k. Port.port (leb-true w.arg 65535 f)))) (λ _. nothing))
      (λ _. pick-case by (eqb kind 106) (λ e. pick-case by (is_null w) (λ z. some (null_of Port 65536 kind e z)) (λ _. nothing)) (λ _. nothing))
    where
      by : Option ℕ → Type 0
      by o = o ≡ Some n → Here s p w.next Port 65536 kind n

      some : {m : ℕ} → Here s p w.next Port 65536 kind m → by (Some m)
      some {m} h q = let same : m ≡ n = cc in subst (Here s p w.next Port 65536 kind) same h

      nothing : by None
      nothing q = absurd (cc)

-- an address that fits its kind
pub record AddressIs (kind : ℕ) (w : Token) : Type 0 where
  pub text : Bool
  pub major : w.major ≡ cond text 3 2
  pub is : (a : List ℕ) → length a ≡ w.arg → Address kind text a

-- the four kinds
by_kind : (P : ℕ → Type 0) (kind : ℕ) → 103 ≤ kind → kind ≤ 106 → P 103 → P 104 → P 105 → P 106 → P kind
by_kind P kind lo hi p₃ p₄ p₅ p₆ = go (eqb kind 103) (eqb kind 104) (eqb kind 105) refl refl refl
  where
    go : (t u v : Bool) → eqb kind 103 ≡ t → eqb kind 104 ≡ u → eqb kind 105 ≡ v → P kind
    go true u v e₃ e₄ e₅ = rw (eqb-true kind 103 e₃) p₃
    go false true v e₃ e₄ e₅ = rw (eqb-true kind 104 e₄) p₄
    go false false true e₃ e₄ e₅ = rw (eqb-true kind 105 e₅) p₅
    go false false false e₃ e₄ e₅ =
        let e : kind ≡ 106 = omega (arith, eqb-false kind 103 e₃, eqb-false kind 104 e₄, eqb-false kind 105 e₅) in
        rw e p₆

-- an address that was read
pub address_here : (w : Token) (kind : ℕ) → 103 ≤ kind → kind ≤ 106 → address_fits kind w ≡ true → AddressIs kind w
unfolding address_fits pick
address_here w kind lo hi =
    by_kind (λ k. address_fits k w ≡ true → AddressIs k w) kind lo hi
    (λ q. record { text = false; major = two 16 q; is = λ a long. Address.v6 (long ∙ sized 16 q) })
    (λ q. record { text = false; major = two 4 q; is = λ a long. Address.v4 (long ∙ sized 4 q) })
    (λ e. record { text = true; major = eqb-true w.major 3 e; is = λ a _. Address.domain })
    (λ e. record { text = true; major = eqb-true w.major 3 e; is = λ a _. Address.uri })
  where
    two : (n : ℕ) → (eqb w.major 2 && eqb w.arg n) ≡ true → w.major ≡ 2
    two n q = eqb-true w.major 2 (and_left (eqb w.major 2) (eqb w.arg n) q)

    sized : (n : ℕ) → (eqb w.major 2 && eqb w.arg n) ≡ true → w.arg ≡ n
    sized n q = eqb-true w.arg n (and_right (eqb w.major 2) (eqb w.arg n) q)

-- ---- what stands there is read
is_null_token : (p : ℕ) → is_null (record { at = p; major = 7; arg = 22; body = p + 1; next = p + 1 }) ≡ true
unfolding is_null
is_null_token p = eq-eqb (p + 1 - p) 1 (omega arith)

-- a token's number, and where the next one stands
abbrev Reads : (Token → Option ℕ) → List ℕ → ℕ → ℕ → ℕ → Type 0
Reads f s p e n = (f (token_at s p) ≡ Some n) × ((token_at s p).next ≡ e)

module _ {s : List ℕ} {p e : ℕ} where
  number_reads : (f : Token → Option ℕ) (n : ℕ) {w k : ℕ} → Stands s p e (uint w k) → f (record { at = p; major = 0; arg = k; body = e; next = e }) ≡ Some n
      → Reads f s p e n
  number_reads f n a same = (ap f (number_token a) ∙ same, ap (λ (v : Token). v.next) (number_token a))

  null_reads : (f : Token → Option ℕ) (n : ℕ) → Stands s p e null → f (record { at = p; major = 7; arg = 22; body = p + 1; next = p + 1 }) ≡ Some n
      → Reads f s p e n
  null_reads f n a same = let (token, end) = null_token a in (ap f token ∙ same, ap (λ (v : Token). v.next) token ∙ sym end)

  -- a protocol that stands there
  pub protocol_reads : {kind n : ℕ} {x : Item} → OfKind Protocol 0 kind x n → Stands s p e x → Reads (protocol_of kind) s p e n
  unfolding protocol_of pick
  protocol_reads {kind} (OfKind.given Protocol.tcp) a = number_reads (protocol_of kind) 6 a refl
  protocol_reads {kind} (OfKind.given Protocol.udp) a = number_reads (protocol_of kind) 17 a refl
  protocol_reads {kind} (OfKind.missing is-uri) a = null_reads (protocol_of kind) 0 a (rw (eq-eqb kind 106 is-uri, is_null_token p))

  -- a port that stands there
  pub port_reads : {kind n : ℕ} {x : Item} → OfKind Port 65536 kind x n → Stands s p e x → Reads (port_of kind) s p e n
  unfolding port_of pick
  port_reads {kind} {n} (OfKind.given (Port.port h)) a = number_reads (port_of kind) n a (rw (le-leb n 65535 h))
  port_reads {kind} (OfKind.missing is-uri) a = null_reads (port_of kind) 65536 a (rw (eq-eqb kind 106 is-uri, is_null_token p))

-- an address that stands there
pub address_reads : {kind : ℕ} {t : Bool} {a : List ℕ} → Address kind t a → (w : Token) → w.major ≡ cond t 3 2 → w.arg ≡ length a
    → (103 ≤ kind) × (kind ≤ 106) × (address_fits kind w ≡ true)
unfolding address_fits pick
address_reads (Address.v6 long) w major arg = (lit≤ tt, lit≤ tt, rw (eq-eqb _ _ major) (eq-eqb w.arg 16 (arg ∙ long)))
address_reads (Address.v4 long) w major arg = (lit≤ tt, lit≤ tt, rw (eq-eqb _ _ major) (eq-eqb w.arg 4 (arg ∙ long)))
address_reads Address.domain w major arg = (lit≤ tt, lit≤ tt, eq-eqb _ _ major)
address_reads Address.uri w major arg = (lit≤ tt, lit≤ tt, eq-eqb _ _ major)
