-- What several kinds begin with (RFC 8990, section 2.8): a session, an initiator and a ttl.
use Rattle.std.specs.Prelude.{ℕ, List, Bool, ◌&&◌, ◌||◌, Result, Ok, ltb, eqb}
use Rattle.base.specs.Pick.{pick, unless}
use Rattle.cbor.specs.declared.token.Token.{Token}
use Rattle.cbor.specs.Token.{token_at, up_to}
use Rattle.options.specs.Text.{content_of}
use Rattle.options.specs.declared.Span.{Span}
use Rattle.options.specs.declared.Departure.{Departure}
use Rattle.options.specs.Part.{departs}
use Rattle.message.specs.declared.opening.Opening.{Opening}

-- the greatest session, ttl and waiting time
abbrev pub most_number : ℕ
most_number = 4294967295

-- how many levels are open around the value of an objective that stands in the message: the message's and the
-- objective's own
abbrev pub objective_levels : ℕ
objective_levels = 2

-- a byte string of 4 or 16 bytes
unfoldable pub is_initiator : Token → Bool
is_initiator t = eqb t.major 2 && (eqb t.arg 4 || eqb t.arg 16)

-- what is read of something, with the place of the item after it
abbrev pub WithNext : Type 0 → Type 0
WithNext A = Result (A × ℕ) Departure

-- a session, ttl or waiting time at `at`
unfoldable pub number_read : List ℕ → ℕ → WithNext ℕ
number_read s at =
    let t = token_at s at in
    pick (ltb most_number (up_to most_number t)) (departs t.at) (Ok (up_to most_number t, t.next))

-- an initiator at `at`
unfoldable pub initiator_read : List ℕ → ℕ → WithNext Span
initiator_read s at =
    let t = token_at s at in
    unless (is_initiator t) (departs t.at) (Ok (content_of t, t.next))

-- session, initiator and ttl, the session at `at`
unfoldable pub opening_at : List ℕ → ℕ → WithNext Opening
opening_at s at =
    let i = token_at s at in
    let j = token_at s i.next in
    let t = token_at s j.next in
    pick (ltb most_number (up_to most_number i)) (departs i.at)
    (unless (is_initiator j) (departs j.at)
    (pick (ltb most_number (up_to most_number t)) (departs t.at)
    (Ok (record { session = up_to most_number i; initiator = content_of j; ttl = up_to most_number t }, t.next))))
