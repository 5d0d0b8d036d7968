-- Named texts, and places that are noted.
use Rattle.std.specs.Prelude.{ℕ, ◌-◌, List, Option, Some, None, take, drop}
use Rattle.base.specs.Pick.{pick}
use Rattle.std.specs.Option.{option_or}
use Rattle.cbor.specs.declared.token.Token.{Token}
use Rattle.utf8.specs.Utf8.{is_utf8}
use Rattle.options.specs.declared.Span.{Span}

-- the span of so many bytes from a place on
abbrev pub span_of : ℕ → ℕ → Span
span_of at len = record { at = at; len = len }

-- the bytes that a span holds
abbrev pub held : List ℕ → Span → List ℕ
held s span = take span.len (drop span.at s)

-- where a string's bytes stand
abbrev pub content_of : Token → Span
content_of t = span_of t.body (t.next - t.body)

-- the bytes of a string
abbrev pub content_in : List ℕ → Token → List ℕ
content_in s t = held s (content_of t)

-- a place that is noted, or none
abbrev pub Noted : Type 0
Noted = Option ℕ

-- `place` where a text isn't UTF-8
unfoldable pub bad_text : List ℕ → ℕ → Noted
bad_text text place = pick (is_utf8 text) None (Some place)

-- the first of two
abbrev pub first_of : Noted → Noted → Noted
first_of a b = option_or a b
