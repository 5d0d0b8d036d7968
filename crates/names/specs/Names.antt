-- A node's own names (refusal 16, rules 8.4): one CBOR array that passes refusals 1 to 7, with 0 to 16 items, each a
-- UTF-8 text of at most 64 bytes.
use Rattle.cbor.specs.Item.{ItemRead}
use Rattle.std.specs.Prelude.{ℕ, zero, suc, Bool, true, false, not, ◌&&◌, ◌||◌, List, length, ltb, leb, eqb}
use Rattle.base.specs.Pick.{pick}
use Rattle.base.specs.Bytes.{same_bytes}
use Rattle.cbor.specs.declared.token.Token.{Token}
use Rattle.cbor.specs.Item.{first_item, framed_by}
use Rattle.cbor.specs.Token.{token_at}
use Rattle.utf8.specs.Utf8.{is_utf8}
use Rattle.options.specs.Text.{content_in}
use Rattle.rfc8990.specs.Limits.{most_name}
use Rattle.rfc8990.specs.Limits.{most_bytes}

-- house limit (rules 8.4): how many own names a node has at most
abbrev pub most_names : ℕ
most_names = 16

-- a UTF-8 text of at most 64 bytes
unfoldable pub good_name : List ℕ → Token → Bool
good_name s t = eqb t.major 3 && leb t.arg most_name && is_utf8 (content_in s t)

-- n good names from `at` on
unfoldable pub good_names : List ℕ → ℕ → ℕ → Bool
good_names s zero at = true
good_names s (suc n) at = good_name s (token_at s at) && good_names s n (token_at s at).next

-- not an array of 0 to 16 good names
unfoldable pub array_bad : List ℕ → Bool
array_bad s =
    let a = token_at s 0 in
    not (eqb a.major 4) || ltb most_names a.arg || not (good_names s a.arg a.next)

-- bad by the walk, or else by the array
unfoldable pub framed_bad : List ℕ → ItemRead → Bool
framed_bad s r = framed_by (λ refusal place. true) (array_bad s) (length s) r

-- refusal 16 is due
unfoldable pub names_bad : List ℕ → Bool
names_bad s = pick (eqb (length s) 0) true (pick (ltb most_bytes (length s)) true (framed_bad s (first_item 0 s)))

-- one of n names from `at` on is `name`
unfoldable pub named_from : List ℕ → List ℕ → ℕ → ℕ → Bool
named_from s name zero at = false
named_from s name (suc n) at =
    same_bytes (content_in s (token_at s at)) name || named_from s name n (token_at s at).next

-- one of the names s is `name`
unfoldable pub is_named : List ℕ → List ℕ → Bool
is_named s name =
    let a = token_at s 0 in
    pick (ltb most_names a.arg) false (named_from s name a.arg a.next)
