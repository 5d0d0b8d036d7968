-- What is known of a message that was read, of any list of numbers: how long it is, and what is known of its parts; and
-- of a refusal, that its number is at most 11.
-- Assumes nothing.
use Rattle.cbor.specs.Item.{ItemRead}
use mathlib.Core.Path.{◌≡◌, refl, subst}
use mathlib.Core.List.{List}
use Prim.Native.Nat.{ℕ, ◌≤◌}
use native.Mathlib.Omega.{arith}
use lib.ListN.{length}
use lib.Dec.{lit≤}
use borrow.Author.Tests.{ltb-false}
use Rattle.std.specs.Prelude.{Result, Ok, Err}
use Rattle.refusal.specs.declared.Refused.{Refused}
use Rattle.refusal.specs.declared.Refusal.{Refusal}
use Rattle.refusal.specs.declared.Refusal.TheVariants as R
use Rattle.refusal.specs.Refusal.{number_of}
use Rattle.message.specs.declared.Examined.{Examined}
use Rattle.base.proofs.Picks.{pick-case, both}
use Rattle.cbor.specs.Item.{first_item}
use Rattle.cbor.proofs.ItemLaws.{refused_numbers}
use Rattle.rfc8990.specs.Limits.{most_bytes}
use Rattle.message.specs.declared.Message.{Message}
use Rattle.message.specs.Examined.{examined}
use Rattle.message.proofs.Parts.{MessageParts, ExaminedParts, examined_parts}
use Rattle.reader.specs.Read.{Reading, framed, read_placed, placeless, read_of}

module _ (s : List ℕ) where
  abbrev PlacedParts : Result Examined Refused → Type 0
  PlacedParts (Err why) = number_of why.refusal ≤ 11
  PlacedParts (Ok m) = (length s ≤ most_bytes) × MessageParts s m.message

  abbrev ReadingParts : Reading → Type 0
  ReadingParts (Err refusal) = number_of refusal ≤ 11
  ReadingParts (Ok m) = (length s ≤ most_bytes) × MessageParts s m

  module _ (few : length s ≤ most_bytes) where
    with_size : (x : Result Examined Refused) → ExaminedParts s x → PlacedParts x
    with_size (Err e) h = h
    with_size (Ok m) h = (few, h)

    framed_parts : (x : ItemRead) → first_item 0 s ≡ x → PlacedParts (framed s x)
    unfolding framed
    framed_parts (Err why) e = omega (arith, (refused_numbers 0 s why.refusal why.place e).1)
    framed_parts (Ok end) e = both PlacedParts _ (with_size (examined s) (examined_parts s)) (lit≤ tt)

  reading_parts : ReadingParts (read_of s)
  unfolding read_of read_placed placeless
  reading_parts =
      by (read_placed s)
      (both PlacedParts _ (lit≤ tt) (pick-case PlacedParts _ (λ _. lit≤ tt) (λ e. framed_parts (ltb-false most_bytes (length s) e) (first_item 0 s) refl)))
    where
      by : (x : Result Examined Refused) → PlacedParts x → ReadingParts (placeless x)
      by (Err why) h = h
      by (Ok m) h = h

pub read_parts : (s : List ℕ) (m : Message) → read_of s ≡ Ok m → (length s ≤ most_bytes) × MessageParts s m
read_parts s m e = subst (ReadingParts s) e (reading_parts s)

-- No reading is refused with a number over 11.
pub read_number : (s : List ℕ) {refusal : Refusal} → read_of s ≡ Err refusal → number_of refusal ≤ 11
read_number s e = subst (ReadingParts s) e (reading_parts s)
