-- A locator that is read stands in the message as an item that the CDDL calls this locator (`locator_sound`), and every
-- such item is read, wherever it stands, and as this locator (`locator_read`): it is read exactly there
-- (`locator_exactly`).
-- Assumes nothing.
use mathlib.Core.Path.{◌≡◌, refl, sym, ap, subst}
use mathlib.Core.Logic.{◌↔◌}
use mathlib.Core.List.{List}
use mathlib.Core.Bool.{Bool, true, cond}
use Prim.Native.Nat.{ℕ, ◌+◌, ◌-◌, ◌≤◌}
use native.Mathlib.Nat.{add-sub_cancel_left}
use native.Mathlib.Omega.{arith}
use lib.ListN.{length, drop}
use lib.Dec.{ltb, eqb}
use borrow.Author.Tests.{le-ltb, ltb-false, eqb-true, eqb-false, eq-eqb, ne_eqb}
use Rattle.options.specs.Text.{Noted}
use Rattle.std.specs.Prelude.{None}
use Rattle.std.specs.Prelude.{Some, Ok, Err}
use Rattle.options.specs.declared.Part.{Part}
use Rattle.options.proofs.Needed.{needed_case}
use Rattle.options.specs.Part.{Read, part, needed}
use Rattle.base.specs.Pick.{pick}
use Rattle.base.specs.BigEndian.{Bytes}
use Rattle.base.proofs.Picks.{pick-case}
use Rattle.base.proofs.Parts.{bytes_drop}
use Rattle.cbor.specs.declared.token.Token.{Token}
use Rattle.cbor.specs.Tree.{Item, count}
use Rattle.cbor.specs.Token.{token_at, items_in, up_to}
use Rattle.cbor.proofs.Tokens.{token_is, is_array}
use Rattle.options.specs.declared.locator.Locator.{Locator}
use Rattle.options.specs.Text.{content_in}
use Rattle.options.specs.Locator.{address_fits, protocol_of, port_of, locator_of, text_of, locator_in, locator_reached, locator_at}
use Rattle.rfc8990.specs.Message.{Loc}
use Rattle.rfc8990.specs.Cddl.{uint, LocatorItem}
use Rattle.message_laws.specs.Stands.{Stands, ArrayHead, LocatorIs, LocatorStands}
use Rattle.message_laws.proofs.Bridge.{split, join, last, only, lift, lift_first, sink_first, advances}
use Rattle.message_laws.proofs.Bridge.{string_major, token_heading, number_token, text_token, array_token}
use Rattle.message_laws.proofs.Pieces.{array_items, number_is, number_here, content_bytes, text_size, text_at, array_head, array_at, lift_head}
use Rattle.message_laws.proofs.One.{locator_one}
use Rattle.message_laws.proofs.LocatorParts.{Address, AddressIs, Shape, shape_of, loc_with, shape_item, shape_addressed, shape_texts}
use Rattle.message_laws.proofs.LocatorParts.{protocol_here, port_here, address_here, protocol_reads, port_reads, address_reads}

-- the locator that an answer describes, by what stands in the part of the message that begins with it
located : {m : List ℕ} {base q r e : ℕ} (body : ℕ) {k u kind : ℕ} {t : Bool} {a : List ℕ} (pn qn : ℕ) (address : Address kind t a)
    → ArrayHead (drop base m) 0 q 4 → Stands (drop base m) q r (uint k kind)
    → Stands (drop base m) r e (Item.string t u a) → e ≡ body + length a
    → LocatorIs m base (locator_of kind (base + body) (e - body) pn qn) (loc_with address pn qn)
located {base = base} {q} {r} {e} body pn qn address opened lead string end =
    record {
      kind_at = base + q;
      address_at = base + r;
      protocol_at = base + e;
      kind = _;
      address = _;
      opened = lift_head opened;
      kind_item = lift base lead;
      address_item = lift base string;
      is = shape_addressed (base + body) (e - body) (base + e) pn qn (omega arith) (omega arith) address;
    }

-- ---- sound
abbrev Sound : List ℕ → ℕ → Read Locator → Type 0
Sound m base (Err e) = Unit {0}
Sound m base (Ok l) = LocatorStands m base (base + l.size) l.value l.bad

sound : (m : List ℕ) (base : ℕ) → Bytes m → Sound m base (locator_at m base)
unfolding locator_in locator_reached count
sound m base by =
    pick-case P (eqb (items_in a) 0) (λ _. tt)
    (λ t₁. pick-case P (ltb kind 103) (λ _. tt)
    (λ t₂. pick-case P (ltb 106 kind) (λ _. tt)
    (λ t₃. pick-case P (eqb a.arg 4)
    (λ t₄. pick-case P (address_fits kind b)
    (λ t₅. needed_case P (protocol_of kind p) tt
    (λ pn t₆. needed_case P (port_of kind q) tt
    (λ qn t₇. got (is_array a (eqb-false (items_in a) 0 t₁)) (eqb-true a.arg 4 t₄)
    (address_here b kind (ltb-false kind 103 t₂) (ltb-false 106 kind t₃) t₅) pn qn t₆ t₇)))
    (λ _. tt))
    (λ _. tt))))
  where
    s : List ℕ
    s = drop base m

    a : Token
    a = token_at s 0

    k : Token
    k = token_at s a.next

    b : Token
    b = token_at s k.next

    p : Token
    p = token_at s b.next

    q : Token
    q = token_at s p.next

    kind : ℕ
    kind = up_to 106 k

    P : Read Locator → Type 0
    P = Sound m base

    bytes : Bytes s
    bytes = bytes_drop base m by

    got : a.major ≡ 4 → a.arg ≡ 4 → AddressIs kind b → (pn qn : ℕ) → protocol_of kind p ≡ Some pn → port_of kind q ≡ Some qn
        → P (part (locator_of kind (base + b.body) (b.next - b.body) pn qn) q.next (text_of kind (content_in s b) (base + b.at)) None)
    got array four fits pn qn some-protocol some-port =
        let ha = token_heading s 0 a bytes refl (omega arith) in
        let hb = token_heading s k.next b bytes refl (omega (arith, fits.major, string_major fits.text)) in
        let (string, long) = text_at hb fits.text fits.major (content_bytes s b bytes) in
        let protocol = protocol_here s b.next p refl kind pn some-protocol in
        let port = port_here s p.next q refl bytes kind qn some-port in
        let address = fits.is (content_in s b) long in
        let (_, hi, _) = address_reads address b fits.major (sym long) in
        let lead = number_here 106 k bytes refl hi in
        let far : base + b.at ≡ 0 → ⊥ = (λ z. omega (arith, (token_is s k.next b refl).here, advances lead.stands)) in
        record {
          item = _;
          loc = _;
          stands = lift_first (array_at ha array four (join lead.stands (join string.stands (join protocol.stands (last port.stands)))));
          is = shape_item address protocol.is port.is;
          described =
              located b.body pn qn address (subst (ArrayHead s 0 a.next) four (array_head ha array)) lead.stands
              string.stands
              (omega (arith, text_size hb fits.text fits.major, long, (token_is s k.next b refl).start));
          texts = shape_texts pn qn (base + b.at) far address;
        }

-- what is read stands there
pub locator_sound : (m : List ℕ) (base : ℕ) (l : Part Locator) → Bytes m → locator_at m base ≡ Ok l
    → LocatorStands m base (base + l.size) l.value l.bad
locator_sound m base l by q = subst (Sound m base) q (sound m base by)

-- ---- read
-- the reader's tests, over plain tokens
accept : (base : ℕ) (s : List ℕ) (a k b p q : Token) (kind pn qn : ℕ) → a ≡ token_at s 0 → k ≡ token_at s a.next → b ≡ token_at s k.next
    → p ≡ token_at s b.next → q ≡ token_at s p.next → up_to 106 k ≡ kind → protocol_of kind p ≡ Some pn → port_of kind q ≡ Some qn
    → (items_in a ≡ 0 → ⊥) → 103 ≤ kind → kind ≤ 106 → a.arg ≡ 4 → address_fits kind b ≡ true
    → locator_in base s ≡ part (locator_of kind (base + b.body) (b.next - b.body) pn qn) q.next (text_of kind (content_in s b) (base + b.at)) None
unfolding locator_in locator_reached needed pick
accept base s a k b p q kind pn qn ea ek eb ep eq e₁ e₂ e₃ t₁ t₂ t₃ t₄ t₅ =
    rw (← ea, ← ek, ← eb, ← ep, ← eq, e₁, ne_eqb _ _ t₁, le-ltb _ _ t₂, le-ltb _ _ t₃, eq-eqb _ _ t₄, t₅, e₂, e₃)

reads : {m : List ℕ} {base e : ℕ} {x : Item} → Stands m base e x → Shape x
    → (l : Locator) × (bad : Noted) × (loc : Loc) × (locator_at m base ≡ part l (e - base) bad None) × LocatorItem x loc × LocatorIs m base l loc
unfolding count
reads {m} {base} {e} st (Shape.shape {kind = kind} {t} {a} {pn = pn} {qn} address protocol port) =
    let s : List ℕ = drop base m in
    let top = array_token (sink_first st) in
    let c₁ = split top.items in
    let c₂ = split c₁.rest in
    let c₃ = split c₂.rest in
    let string = text_token c₂.first in
    let b : Token = record { at = c₁.mid; major = cond t 3 2; arg = length a; body = string.body; next = c₂.mid } in
    let (lo, hi, fits) = address_reads address b refl refl in
    let (is-protocol, p-next) = protocol_reads protocol c₃.first in
    let (is-port, q-next) = port_reads port (only c₃.rest) in
    let read =
    accept base s _ _ b (token_at s c₂.mid) (token_at s c₃.mid) kind pn qn (sym top.token) (sym (number_token c₁.first)) (sym string.token) refl
    (ap (token_at s) (sym p-next)) (number_is 106 _ refl hi) is-protocol is-port (array_items _ 3 refl refl) lo hi refl fits in (
      locator_of kind (base + b.body) (b.next - b.body) pn qn,
      text_of kind (content_in s b) (base + b.at),
      loc_with address pn qn,
      rw q-next at read,
      shape_item address protocol port,
      located b.body pn qn address top.head c₁.first c₂.first string.end,
    )

-- an item that is a locator is read, and as the locator that it is
pub locator_read : {m : List ℕ} {base e : ℕ} {x : Item} {loc : Loc} → Stands m base e x → LocatorItem x loc
    → (l : Locator) × (bad : Noted) × (locator_at m base ≡ part l (e - base) bad None) × LocatorIs m base l loc
locator_read {m} {base} st is =
    let (l, bad, _, read, i, described) = reads st (shape_of is) in
    (l, bad, read, subst (LocatorIs m base l) (locator_one i is) described)

-- for readers

-- A locator is read exactly where an item that is one stands, up to its end.
pub locator_exactly : (m : List ℕ) (base size : ℕ) → Bytes m
    → ((l : Locator) × (bad : Noted) × (locator_at m base ≡ part l size bad None))
    ↔ ((x : Item) × (loc : Loc) × Stands m base (base + size) x × LocatorItem x loc)
locator_exactly m base size by = (
  λ (l, bad, q). let i = locator_sound m base _ by q in (i.item, i.loc, i.stands, i.is),
  λ (x, loc, st, is). let (l, bad, read, _) = locator_read st is in (l, bad, rw (add-sub_cancel_left base size) at read),
)
