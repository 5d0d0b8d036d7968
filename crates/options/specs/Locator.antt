-- Locator options (RFC 8990, section 2.9.5): what is read of the bytes s that begin at the own head and stand at `base`
-- of the message. An array is judged by its first item, then by its number of items, then by its other items from left
-- to right.
use Rattle.std.specs.Prelude.{ℕ, ◌+◌, ◌-◌, List, [], ◌∷◌, Bool, ◌&&◌, Option, Some, None, drop, ltb, leb}
use Rattle.std.specs.Prelude.{eqb}
use Rattle.base.specs.Pick.{pick, unless}
use Rattle.cbor.specs.declared.token.Token.{Token}
use Rattle.cbor.specs.Token.{token_at, items_in, up_to}
use Rattle.options.specs.declared.locator.Locator.{Locator}
use Rattle.options.specs.declared.locator.Locator.TheVariants as L
use Rattle.options.specs.Text.{Noted, span_of, content_in, bad_text}
use Rattle.options.specs.Part.{Read, departs, part, needed}

-- null: simple value 22, which has a head of one byte (a float has a longer one)
unfoldable pub is_null : Token → Bool
is_null t = eqb t.major 7 && eqb t.arg 22 && eqb (t.body - t.at) 1

-- 16 bytes for 103, 4 for 104, a text for 105 and 106
unfoldable pub address_fits : ℕ → Token → Bool
address_fits kind t =
    pick (leb 105 kind) (eqb t.major 3) (eqb t.major 2 && pick (eqb kind 103) (eqb t.arg 16) (eqb t.arg 4))

-- what a locator has for a protocol that is null
abbrev pub null_protocol : ℕ
null_protocol = 0

-- the greatest port
abbrev pub most_port : ℕ
most_port = 65535

-- what a locator has for a port that is null
abbrev pub null_port : ℕ
null_port = 65536

-- 6 or 17, and null, which 106 may have
unfoldable pub protocol_of : ℕ → Token → Option ℕ
protocol_of kind t =
    pick (eqb t.major 0)
    (pick (eqb t.arg 6) (Some 6) (pick (eqb t.arg 17) (Some 17) None))
    (pick (eqb kind 106) (pick (is_null t) (Some null_protocol) None) None)

-- up to 65,535, and null, which 106 may have
unfoldable pub port_of : ℕ → Token → Option ℕ
port_of kind t =
    pick (eqb t.major 0)
    (pick (leb t.arg most_port) (Some t.arg) None)
    (pick (eqb kind 106) (pick (is_null t) (Some null_port) None) None)

-- the locator of a kind, by where its address or text stands
unfoldable pub locator_of : ℕ → ℕ → ℕ → ℕ → ℕ → Locator
locator_of kind at len protocol port =
    pick (eqb kind 103) (L.V6 at protocol port)
    (pick (eqb kind 104) (L.V4 at protocol port)
    (pick (eqb kind 105) (L.Domain (span_of at len) protocol port)
    (L.Uri (span_of at len) protocol port)))

-- where the text of a domain name or a URI is bad
unfoldable pub text_of : ℕ → List ℕ → ℕ → Noted
text_of kind text place = pick (ltb kind 105) None (bad_text text place)

-- what a locator of this kind reaches, from `at` on: address, protocol and port
unfoldable pub locator_reached : ℕ → List ℕ → ℕ → ℕ → Read Locator
locator_reached base s kind at =
    let b = token_at s at in
    let p = token_at s b.next in
    let q = token_at s p.next in
    unless (address_fits kind b) (departs (base + b.at))
    (needed (protocol_of kind p) (base + p.at)
    (λ protocol. needed (port_of kind q) (base + q.at)
    (λ port. part (locator_of kind (base + b.body) (b.next - b.body) protocol port) q.next
    (text_of kind (content_in s b) (base + b.at)) None)))

-- a locator: an array of four items, the first a kind
unfoldable pub locator_in : ℕ → List ℕ → Read Locator
locator_in base s =
    let a = token_at s 0 in
    let k = token_at s a.next in
    let kind = up_to 106 k in
    pick (eqb (items_in a) 0) (departs base)
    (pick (ltb kind 103) (departs (base + k.at))
    (pick (ltb 106 kind) (departs (base + k.at))
    (unless (eqb a.arg 4) (departs base)
    (locator_reached base s kind k.next))))

-- the locator at a place of the message s
abbrev pub locator_at : List ℕ → ℕ → Read Locator
locator_at s at = locator_in at (drop at s)

-- a locator's five numbers
unfoldable pub locator_numbers : Locator → List ℕ
locator_numbers (L.V6 at protocol port) = 103 ∷ at ∷ 16 ∷ protocol ∷ port ∷ []
locator_numbers (L.V4 at protocol port) = 104 ∷ at ∷ 4 ∷ protocol ∷ port ∷ []
locator_numbers (L.Domain name protocol port) = 105 ∷ name.at ∷ name.len ∷ protocol ∷ port ∷ []
locator_numbers (L.Uri uri protocol port) = 106 ∷ uri.at ∷ uri.len ∷ protocol ∷ port ∷ []
