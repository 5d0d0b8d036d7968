-- The rows of locators that were read: their numbers are stored, and tell the locators that stand in the message.
-- Assumes nothing.
use mathlib.Core.Path.{◌≡◌, refl, ap, ◌∙◌}
use mathlib.Core.List.{List, [], ◌∷◌, ◌++◌}
use Prim.Native.Nat.{ℕ, ◌+◌, ◌*◌, ◌-◌}
use native.Mathlib.Nat.{add_assoc}
use native.Mathlib.Omega.{arith}
use lib.Dec.{lit≤}
use lib.ListN.{length}
use lib.Seq.{sets, get_or-append-add}
use Rattle.options.specs.Text.{Noted}
use Rattle.std.specs.Prelude.{None}
use Rattle.options.specs.Part.{part}
use Rattle.base.specs.Pick.{pick}
use Rattle.cbor.specs.Tree.{Item, Items}
use Rattle.options.specs.declared.locator.Locator.{Locator}
use Rattle.options.specs.declared.locator.Locator.TheVariants as L
use Rattle.options.specs.Locator.{locator_at, locator_numbers}
use Rattle.options.proofs.Fits.{locator_within}
use Rattle.rfc8990.specs.Message.{Loc}
use Rattle.rfc8990.specs.Cddl.{LocatorItems}
use Rattle.message_laws.specs.Stands.{Stands, StandAll, Addressed, LocatorIs}
use Rattle.message_laws.proofs.Bridge.{split}
use Rattle.message_laws.proofs.Locator.{locator_read}
use Rattle.description.specs.Meaning.{locator_row, locator_row_loc, locator_row_at}
use Rattle.forms.specs.Rows.{locator_next_from, locator_stored_from, locator_next, locator_stored}
use Rattle.writer_laws.specs.Says.{LocatorRowSays}
use Rattle.writer_laws.proofs.Filled.{Tells, Chain}
use Rattle.writer_laws.proofs.Spans.{string_cuts}

-- ---- a row
-- a locator's numbers are so many
pub locator_five : (l : Locator) → length (locator_numbers l) ≡ locator_row
unfolding locator_numbers
locator_five (L.V6 at protocol port) = refl
locator_five (L.V4 at protocol port) = refl
locator_five (L.Domain name protocol port) = refl
locator_five (L.Uri uri protocol port) = refl

-- the numbers behind others
pub locator_row_shift : (a b : List ℕ) (k : ℕ) → locator_row_at (a ++ b) (length a + k) ≡ locator_row_at b k
unfolding locator_row_at
locator_row_shift a b k = simp (add_assoc, get_or-append-add)

-- ---- what it tells
-- the first row tells a locator
abbrev pub LocatorTold : List ℕ → List ℕ → Loc → Type 0
LocatorTold s = Tells locator_row_at (locator_row_loc s) (LocatorRowSays s)

-- by its items
addressed_told : {m : List ℕ} {q p : ℕ} {kind address : Item} {l : Locator} {loc : Loc} → Stands m q p address → Addressed p kind address l loc
    → (rest : List ℕ)
    → LocatorTold m (locator_numbers l ++ rest) loc
unfolding locator_numbers locator_row_at locator_row_loc pick
addressed_told st (Addressed.v6 h) rest = let c = string_cuts st h in (rw c.is, record { least = lit≤ tt; most = lit≤ tt; content = c.inside })
addressed_told st (Addressed.v4 h) rest = let c = string_cuts st h in (rw c.is, record { least = lit≤ tt; most = lit≤ tt; content = c.inside })
addressed_told st (Addressed.domain h) rest = let c = string_cuts st h in (rw c.is, record { least = lit≤ tt; most = lit≤ tt; content = c.inside })
addressed_told st (Addressed.uri h x y) rest = let c = string_cuts st h in (rw (c.is, x, y), record { least = lit≤ tt; most = lit≤ tt; content = c.inside })

-- a locator that was read, by the row of its numbers
pub locator_told : {m : List ℕ} {p : ℕ} {l : Locator} {loc : Loc} → LocatorIs m p l loc → (rest : List ℕ) → LocatorTold m (locator_numbers l ++ rest) loc
locator_told i = addressed_told i.address_item i.is

-- ---- the rows of all
module _ (s : List ℕ) where
  -- rows of locators
  abbrev pub Locators : ℕ → List (List ℕ) → List Loc → Type 0
  Locators = Chain locator_row (locator_next s) (locator_stored s) (LocatorTold s)

  -- one row
  locator_row_lem : (p : ℕ) {l : Locator} {size : ℕ} {bad : Noted} (i : ℕ) (list : List ℕ) → locator_at s p ≡ part l size bad None
      → locator_stored s p i list ≡ sets list (locator_row * i) (locator_numbers l)
  unfolding locator_stored locator_stored_from
  locator_row_lem p i list e = ap (locator_stored_from i list) e

  -- and what comes after it
  locator_next_lem : (p : ℕ) {e : ℕ} {l : Locator} {bad : Noted} → locator_at s p ≡ part l (e - p) bad None → locator_next s p ≡ e
  unfolding locator_next locator_next_from
  locator_next_lem p {e} {l} {bad} q = ap (locator_next_from p) q ∙ omega (arith, (locator_within s p p _ (part l (e - p) bad None) refl q).0)

  -- the locators that stand in a message
  pub locators_rows : {p e : ℕ} {xs : Items} {ls : List Loc} → StandAll s p e xs → LocatorItems xs ls → (rows : List (List ℕ)) × Locators p rows ls
  locators_rows a LocatorItems.empty = ([], Chain.end)
  locators_rows {p} a (LocatorItems.more i is) =
      let c = split a in
      let (l, bad, read, described) = locator_read c.first i in
      let (rows, more) = locators_rows {p = (split a).mid} c.rest is in
      (locator_numbers l ∷ rows, Chain.step (locator_five l) (λ i list. locator_row_lem p i list read) (locator_told described) (locator_next_lem p read) more)
