-- The description and the rows of a message that was read say the message: by its kinds.
-- Assumes nothing.
use mathlib.Core.Path.{◌≡◌, refl, sym, ap, ap₂, ◌∙◌, subst}
use mathlib.Core.List.{List, [], ◌∷◌, ◌++◌, map, append_assoc, append-nil}
use mathlib.Core.Option
use mathlib.Core.Option.{Option, some}
use Prim.Native.Nat.{ℕ, ◌*◌, ◌≤◌}
use native.Mathlib.Omega.{arith}
use lib.Dec.{lit<}
use lib.ListN.{length, take}
use Rattle.cbor.specs.Item.{most_levels, left_under}
use Rattle.cbor.specs.Tree.{Item, head_bytes, count, encode, depth, depths}
use Rattle.rfc8990.specs.Message.{Loc, Obj, Pair, Tgts, Outc, Msg, valued_obj, valued_pair, valued}
use Rattle.rfc8990.specs.Cddl.{uint, text, array, LocatorItems, Value, PairItems, OutcItem, MessageItem}
use Rattle.message_laws.proofs.Levels.{pairs_deep}
use Rattle.message.specs.declared.Series.{Series}
use Rattle.message.specs.declared.Targets.{Targets}
use Rattle.message.specs.Fields.{Extra}
use Rattle.options.specs.declared.outcome.Outcome.{Outcome}
use Rattle.message.specs.declared.Message.{Message}
use Rattle.message_laws.specs.Describes.{SeriesIs, TargetsIs, ExtraIs, OutcomeIs, Describes}
use Rattle.message_laws.proofs.Described.{locators_count, pairs_count}
use Rattle.description.specs.Meaning.{locator_row, pair_row, locator_row_loc, locator_row_at, row_loc, locs_of, targets_of, extra_of, row_pair}
use Rattle.description.specs.Meaning.{pairs_of, end_of, msg_of}
use Rattle.forms.specs.Describe as D
use Rattle.forms.specs.Rows as R
use Rattle.writer_laws.specs.Plain.{value_bytes, plain}
use Rattle.writer_laws.specs.Says.{LocatorRowSays, PairSays, Rows, ExtraSays, OutcomeSays, Says}
use Rattle.writer_laws.proofs.Encodes.{pairs_many}
use Rattle.writer_laws.specs.Lent.{rows_lent}
use Rattle.writer_laws.proofs.Filled.{joined, lent, told_rows}
use Rattle.writer_laws.proofs.Spans.{string_cuts, value_cuts, end_cuts, objective_gives}
use Rattle.writer_laws.proofs.Locators.{locator_row_shift, Locators, locators_rows}
use Rattle.writer_laws.proofs.Pairs.{row_at, row_shift, pair_of, InOrder, Pairs, pairs_rows}

module _ (s : List ℕ) where
  -- a list of locators
  record LocatorsTold (list : List ℕ) (ls : List Loc) : Type 0 where
    says : Rows list locator_row (λ k. LocatorRowSays s (locator_row_at list (locator_row * k)))
    are : locs_of s list ≡ ls

  locators_told : {at : ℕ} {rows : List (List ℕ)} {ls : List Loc} → Locators s at rows ls → LocatorsTold (joined rows) ls
  unfolding locs_of row_loc
  locators_told chain =
      let (says, are) = told_rows locator_row_at (locator_row_loc s) (LocatorRowSays s) locator_row_shift (lit< tt) chain in
      record { says = says; are = are }

  -- a list of pairs
  record Paired (list : List ℕ) (ps : List (Pair (List ℕ))) : Type 0 where
    says : Rows list pair_row (PairSays s list)
    are : pairs_of s list ≡ ps

  paired_rows : {at : ℕ} {rows : List (List ℕ)} {ps : List (Pair (List ℕ))} → Pairs s at rows ps → Paired (joined rows) ps
  unfolding pairs_of row_pair row_at
  paired_rows chain =
      let (says, are) = told_rows row_at (pair_of s) (InOrder s) row_shift (lit< tt) chain in
      record {
        says = record {
          whole = says.whole;
          each = λ i h. let r = says.each i h in record { count_at = r.count_at; objective = r.objective; locator = r.locator };
        };
        are = are;
      }

  -- ---- a list that is lent
  -- of a series of locators
  locators_lent : {e : ℕ} {series : Series} {ls : List Loc} (list : List ℕ) → SeriesIs s series e (λ xs. LocatorItems xs ls)
      → R.series_end locator_row series list ≤ length list
      → LocatorsTold (take (R.series_end locator_row series list) (R.series_filled locator_row (R.locator_next s) (R.locator_stored s) series list)) ls
  locators_lent {ls = ls} list i room =
      let (rows, chain) = locators_rows s i.stand i.are in
      subst (λ (l : List ℕ). LocatorsTold l ls) (sym (lent chain list (i.many ∙ locators_count i.are) room)) (locators_told chain)

  -- of a series of pairs
  pairs_lent : {e : ℕ} {series : Series} {ps : List (Pair Value)} (list : List ℕ) (i : SeriesIs s series e (λ xs. PairItems xs ps))
      → depths i.items ≤ left_under 1
      → R.series_end pair_row series list ≤ length list → Paired
      (take (R.series_end pair_row series list) (R.series_filled pair_row (R.pair_next s) (R.pair_stored s) series list)) (map (valued_pair value_bytes) ps)
  pairs_lent {ps = ps} list i d room =
      let (rows, chain) = pairs_rows s d i.stand i.are in
      subst (λ (l : List ℕ). Paired l (map (valued_pair value_bytes) ps)) (sym (lent chain list (i.many ∙ pairs_count i.are ∙ pairs_many ps) room))
      (paired_rows chain)

  -- ---- the parts of a description
  -- a Response's locators
  tgts_lent : {p e : ℕ} {targets : Targets} {tgts : Tgts} (list : List ℕ) → TargetsIs s p e targets tgts → R.end_by list (R.target_rows targets) ≤ length list
      → (ls : List Loc) × LocatorsTold (take (R.end_by list (R.target_rows targets)) (R.filled_by s list (R.target_rows targets))) ls
      × ((l : List ℕ) → locs_of s l ≡ ls → targets_of s l (D.is_divert targets) ≡ tgts)
  unfolding R.end_by R.filled_by R.target_rows D.is_divert targets_of
  tgts_lent list (TargetsIs.locators {loc = loc} {ls} at i _) room = (loc ∷ ls, locators_lent list i room, λ l e. ap Tgts.locators e)
  tgts_lent list (TargetsIs.divert {loc = loc} {ls} head lead i _) room = (loc ∷ ls, locators_lent list i room, λ l e. ap Tgts.divert e)

  -- an objective that may be left out
  extra_says : {p : ℕ} {extra : Extra} {obj : Option (Obj Value)} → ExtraIs s p extra obj
      → ExtraSays s (D.given_extra extra) × (extra_of s (D.given_extra extra) ≡ Option.map (valued_obj value_bytes) obj)
  unfolding D.given_extra extra_of
  extra_says (ExtraIs.without e) = (tt, refl)
  extra_says (ExtraIs.with_one o) = let gives = objective_gives o in (gives.says, ap some gives.is)

  -- how a negotiation ends; a reason is the end of the message
  outc_says : {outcome : Outcome} {outc : Outc} {x : Item} (before : List ℕ) → OutcomeIs s outcome outc → OutcItem x outc → before ++ encode x ≡ s
      → OutcomeSays s outcome × (end_of s outcome ≡ outc)
  unfolding end_of encode count
  outc_says before OutcomeIs.accept i e = (tt, refl)
  outc_says before OutcomeIs.decline i e = (tt, refl)
  outc_says before (OutcomeIs.reason q) (OutcItem.reason {w} {k} {t} {content}) e =
      let front : List ℕ = before ++ (head_bytes 4 w 2 ++ (head_bytes 0 k 102 ++ head_bytes 3 t (length content))) in
      let whole : front ++ content ≡ before ++ encode (array w (uint k 102 ∷ text t content ∷ [])) = simp (append_assoc, append-nil) in
      let c = end_cuts front content (whole ∙ e) q in
      (c.inside, ap Outc.reason c.is)

  -- a Response by its parts
  response_is : {session ttl : ℕ} {i i' : List ℕ} {t t' : Tgts} {o o' : Option (Obj (List ℕ))} → i ≡ i' → t ≡ t' → o ≡ o'
      → Msg.response session i ttl t o ≡ Msg.response session i' ttl t' o'
  response_is a b c = cc

  -- ---- the kinds
  -- The description of what was read, with the rows in a list that has room for them, says the message that stands in
  -- the bytes.
  pub kind_says : (list : List ℕ) {m : Message} {msg : Msg Value} {x : Item} → Describes s m msg → MessageItem x msg → depth x ≤ most_levels → encode x ≡ s
      → R.rows_end m list ≤ length list → Says s (rows_lent s m list) (D.description_of m) (plain msg)
  unfolding R.rows_end R.rows_filled R.rows_in R.end_by R.filled_by D.description_of msg_of plain valued encode count depth
  kind_says list Describes.noop i d e room = record { parts = refl; is = refl }
  kind_says list (Describes.discovery {session} k n from o) i d e room =
      let c = string_cuts from.stands from.held in
      let gives = objective_gives o in
      record { parts = (refl, c.inside, gives.says); is = ap₂ (Msg.discovery session) c.is gives.is }
  kind_says list (Describes.response {session} {ttl} k n from t tgts extra) i d e room =
      let c = string_cuts from.stands from.held in
      let (ls, rows, targets) = tgts_lent list tgts room in
      let (says, is) = extra_says extra in
      record { parts = (c.inside, rows.says, says); is = response_is c.is (targets _ rows.are) is }
  kind_says list (Describes.request_negotiation {session} k n o) i d e room =
      record { parts = (refl, (objective_gives o).says); is = ap (Msg.request_negotiation session) (objective_gives o).is }
  kind_says list (Describes.request_synchronization {session} k n o) i d e room =
      record { parts = (refl, (objective_gives o).says); is = ap (Msg.request_synchronization session) (objective_gives o).is }
  kind_says list (Describes.negotiate {session} k n o) i d e room =
      record { parts = (refl, (objective_gives o).says); is = ap (Msg.negotiate session) (objective_gives o).is }
  kind_says list (Describes.end {session} outcome) (MessageItem.end {w} {k} {s = y} {x} i outc) d e room =
      let before : List ℕ = head_bytes 4 w 3 ++ (encode (uint k 6) ++ encode y) in
      let whole : before ++ encode x ≡ encode (array w (uint k 6 ∷ y ∷ x ∷ [])) = simp (append_assoc, append-nil) in
      let (says, is) = outc_says before outcome outc (whole ∙ e) in
      record { parts = (refl, says); is = ap (Msg.end session) is }
  kind_says list Describes.wait i d e room = record { parts = refl; is = refl }
  kind_says list (Describes.synch {session} k n o) i d e room =
      record { parts = (refl, (objective_gives o).says); is = ap (Msg.synch session) (objective_gives o).is }
  kind_says list (Describes.flood {session} {ttl} k n from t series pair) (MessageItem.flood sy sz sv pairs) d e room =
      let c = string_cuts from.stands from.held in
      let rows = pairs_lent list series (omega (arith, d, pairs_deep pairs series.are)) room in
      record { parts = (c.inside, rows.says); is = ap₂ (λ (i : List ℕ) (ps : List (Pair (List ℕ))). Msg.flood session i ttl ps) c.is rows.are }
  kind_says list (Describes.invalid {session} k n v end) i d e room =
      record { parts = (refl, (value_cuts v).inside); is = ap (Msg.invalid session) (value_cuts v).is }
