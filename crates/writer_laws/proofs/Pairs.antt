-- The rows of pairs that were read: their numbers are stored, and tell the pairs that stand in the message.
-- Assumes nothing.
use mathlib.Core.Path.{◌≡◌, refl, sym, ap, ap₂, ◌∙◌, subst}
use mathlib.Core.Logic.{◌⊎◌, inl, inr}
use mathlib.Core.List.{List, [], ◌∷◌, ◌++◌, map}
use mathlib.Core.Option.{Option, none, some}
use Prim.Native.Nat.{ℕ, ◌+◌, ◌*◌, ◌-◌, ◌≤◌}
use native.Mathlib.Nat.{add_assoc}
use native.Mathlib.Omega.{arith}
use borrow.Author.Tests.{ne_eqb}
use lib.ListN.{length, get_or}
use lib.Seq.{sets, get_or-append-add}
use Rattle.options.specs.Text.{Noted}
use Rattle.std.specs.Prelude.{Some, None}
use Rattle.options.specs.Pair.{paired}
use Rattle.base.specs.Pick.{pick}
use Rattle.cbor.specs.Item.{left_under}
use Rattle.cbor.specs.Tree.{Items, depth, depths}
use Rattle.options.specs.declared.locator.Locator.TheVariants as L
use Rattle.options.specs.declared.objective.Objective.{Objective}
use Rattle.options.specs.Pair.{PairTag}
use Rattle.options.specs.Locator.{locator_numbers}
use Rattle.options.specs.Pair.{pair_at, five, tag_numbers, pair_numbers}
use Rattle.options.proofs.Fits.{pair_within}
use Rattle.rfc8990.specs.Message.{Loc, Obj, Pair, valued_pair}
use Rattle.rfc8990.specs.Cddl.{Value, PairItems}
use Rattle.message_laws.specs.Stands.{StandAll, TagIs, PairIs}
use Rattle.message_laws.proofs.Bridge.{split}
use Rattle.message_laws.proofs.Pair.{pair_read}
use Rattle.description.specs.declared.rows.ObjectiveRow.{ObjectiveRow}
use Rattle.description.specs.declared.rows.LocatorRow.{LocatorRow}
use Rattle.description.specs.Meaning.{pair_row, objective_row, objective_row_of, obj_of, objective_row_at, locator_row_loc, locator_row_at, loc_or_none}
use Rattle.forms.specs.Describe.{given_of}
use Rattle.forms.specs.Rows as R
use Rattle.writer_laws.specs.Plain.{value_bytes}
use Rattle.writer_laws.specs.Says.{ObjectiveRowSays, LocatorRowSays, Blank}
use Rattle.writer_laws.proofs.Filled.{Tells, Chain}
use Rattle.writer_laws.proofs.Spans.{objective_gives}
use Rattle.writer_laws.proofs.Locators.{locator_told}

-- ---- a row
-- a tag has five numbers
tag_five : (tag : PairTag) → five (tag_numbers tag) ≡ tag_numbers tag
unfolding tag_numbers locator_numbers
tag_five None = refl
tag_five (Some (L.V6 at protocol port)) = refl
tag_five (Some (L.V4 at protocol port)) = refl
tag_five (Some (L.Domain name protocol port)) = refl
tag_five (Some (L.Uri uri protocol port)) = refl

-- a pair's row has so many numbers
pub pair_twelve : (o : Objective) (tag : PairTag) → length (R.pair_cells o tag) ≡ pair_row
unfolding R.pair_cells pair_numbers
pair_twelve o tag = refl

-- what a row is: the place of the count's head, the objective and the locator
pub record Row : Type 0 where
  pub count_at : ℕ
  pub entry : ObjectiveRow
  pub locator : LocatorRow

unfoldable pub row_at : List ℕ → ℕ → Row
row_at list k = record { count_at = get_or list (k + 4) 0; entry = objective_row_at list k; locator = locator_row_at list (k + objective_row) }

-- the numbers behind others
pub row_shift : (a b : List ℕ) (k : ℕ) → row_at (a ++ b) (length a + k) ≡ row_at b k
unfolding row_at objective_row_at locator_row_at
row_shift a b k = simp (add_assoc, get_or-append-add)

-- ---- what it tells
-- the first row of five numbers tells a pair's locator or none, by five zeros
abbrev TagTold : List ℕ → List ℕ → Option Loc → Type 0
TagTold s = Tells locator_row_at (loc_or_none s) (λ p. Blank p ⊎ LocatorRowSays s p)

-- none
tag_empty : (m rest : List ℕ) → TagTold m (tag_numbers None ++ rest) none
unfolding tag_numbers locator_row_at loc_or_none pick
tag_empty m rest = (refl, inl (record { kind = refl; at = refl; len = refl; protocol = refl; port = refl }))

-- a locator of a known kind isn't none
known : {m : List ℕ} {p : LocatorRow} → LocatorRowSays m p → loc_or_none m p ≡ some (locator_row_loc m p)
unfolding loc_or_none pick
known {p = p} says = rw (ne_eqb p.kind 0 (λ e. omega (arith, says.least)))

-- a tag that was read
tag_told : {m : List ℕ} {p : ℕ} {tag : PairTag} {loc : Option Loc} → TagIs m p tag loc → (rest : List ℕ) → TagTold m (tag_numbers tag ++ rest) loc
unfolding tag_numbers
tag_told TagIs.empty rest = tag_empty _ rest
tag_told (TagIs.at i) rest = let (is, says) = locator_told i rest in (known says ∙ ap some is, inr says)

-- ---- the rows of all
-- what a row tells, and that it is in order
abbrev pub pair_of : List ℕ → Row → Pair (List ℕ)
pair_of s r = (obj_of s r.entry, loc_or_none s r.locator)

pub record InOrder (s : List ℕ) (r : Row) : Type 0 where
  pub count_at : r.count_at ≡ 0
  pub objective : ObjectiveRowSays s r.entry
  pub locator : Blank r.locator ⊎ LocatorRowSays s r.locator

module _ (s : List ℕ) where
  -- the first row tells a pair
  abbrev PairTold : List ℕ → Pair (List ℕ) → Type 0
  PairTold = Tells row_at (pair_of s) (InOrder s)

  -- rows of pairs
  abbrev pub Pairs : ℕ → List (List ℕ) → List (Pair (List ℕ)) → Type 0
  Pairs = Chain pair_row (R.pair_next s) (R.pair_stored s) PairTold

  -- one row
  pair_row_lem : (p : ℕ) {o : Objective} {tag : PairTag} {size : ℕ} {bad long : Noted} (i : ℕ) (list : List ℕ) → pair_at s p ≡ paired o tag size bad long
      → R.pair_stored s p i list ≡ sets list (pair_row * i) (R.pair_cells o tag)
  unfolding R.pair_stored R.pair_stored_from
  pair_row_lem p i list e = ap (R.pair_stored_from i list) e

  -- and what comes after it
  pair_next_lem : (p : ℕ) {e : ℕ} {o : Objective} {tag : PairTag} {bad long : Noted} → pair_at s p ≡ paired o tag (e - p) bad long → R.pair_next s p ≡ e
  unfolding R.pair_next R.pair_next_from
  pair_next_lem p {e} {o} {tag} {bad} {long} q = ap (R.pair_next_from p) q ∙ omega (arith, (pair_within s p p _ (paired o tag (e - p) bad long) refl q).1)

  -- what the numbers of a pair that was read tell
  pair_told : {p : ℕ} {o : Objective} {tag : PairTag} {pair : Pair Value} → PairIs s p o tag pair → (rest : List ℕ)
      → PairTold (R.pair_cells o tag ++ rest) (valued_pair value_bytes pair)
  unfolding R.pair_cells pair_numbers row_at objective_row_at locator_row_at objective_row_of given_of valued_pair
  pair_told {tag = tag} {pair} i rest =
      let gives = objective_gives i.objective in
      let (is, says) = subst (λ (ns : List ℕ). TagTold s (ns ++ rest) pair.1) (sym (tag_five tag)) (tag_told i.tag rest) in
      (ap₂ (λ (x : Obj (List ℕ)) (y : Option Loc). (x, y)) gives.is is, record { count_at = refl; objective = gives.says; locator = says })

  -- the pairs that stand in a message
  pub pairs_rows : {p e : ℕ} {xs : Items} {ps : List (Pair Value)} → depths xs ≤ left_under 1 → StandAll s p e xs → PairItems xs ps
      → (rows : List (List ℕ)) × Pairs p rows (map (valued_pair value_bytes) ps)
  unfolding depth
  pairs_rows d a PairItems.empty = ([], Chain.end)
  pairs_rows {p} d a (PairItems.more i is) =
      let c = split a in
      let (o, tag, bad, long, read, described) = pair_read c.first (omega (arith, d)) i in
      let (rows, more) = pairs_rows {p = (split a).mid} (omega (arith, d)) c.rest is in
      let step = Chain.step {rows = rows} (pair_twelve o tag) (λ i list. pair_row_lem p i list read) (pair_told described) (pair_next_lem p read) more in
      (R.pair_cells o tag ∷ rows, step)
