-- The kinds without objectives and locators: Noop, Wait, Invalid, End.
-- Assumes nothing.
use mathlib.Core.Path.{refl, sym, subst}
use mathlib.Core.List.{List, [], ◌∷◌}
use mathlib.Core.Option.{none, some}
use Prim.Native.Nat.{ℕ, ◌≤◌}
use native.Mathlib.Omega.{arith}
use borrow.Author.Tests.{ltb-false, eqb-true, eqb-false, ne_eqb}
use Rattle.options.specs.Part.{Read}
use Rattle.options.specs.declared.outcome.Outcome.{Outcome}
use Rattle.base.proofs.Picks.{pick-case}
use Rattle.cbor.specs.Token.{token_at, size_at, up_to}
use Rattle.cbor.specs.Tree.{Item, Items, count, depth}
use Rattle.rfc8990.specs.Message.{Outc, Msg}
use Rattle.rfc8990.specs.Cddl.{list, Number, OutcItem, MessageItem}
use Rattle.rfc8990.specs.Limits.{texts_of, names_of}
use Rattle.message_laws.specs.Stands.{StandAll, ValueIs}
use Rattle.message_laws.proofs.Bridge.{join, none as no_items, last, only, stands_within}
use Rattle.message_laws.proofs.Sizes.{sized_item, item_sized}
use Rattle.message.specs.Opening.{most_number}
use Rattle.message.specs.Shape.{noop_at, wait_at, invalid_at, ended, end_at}
use Rattle.message_laws.specs.Describes.{Describes}
use Rattle.message_laws.proofs.Noted.{clean}
use Rattle.message_laws.proofs.Outcome.{OutcomeSound, outcome_sound, outcome_read}
use Rattle.message_laws.proofs.Whole.{part_levels, IfGood, ShapeOk, past_case, held_case, Reads, taken, skipped, Kinded, built}
use Rattle.message_laws.proofs.Heads.{NumberHere, number_at_most, number_passed}

-- ---- 0, Noop
-- what is read is a Noop
pub noop_sound : {s : List ℕ} {n at : ℕ} → Kinded s 0 n at → ShapeOk s (noop_at n at)
unfolding noop_at count texts_of names_of
noop_sound {n = n} k =
    held_case _
    (λ one. built k _ Items.done Msg.noop (eqb-true n 1 one) (no_items (stands_within k.is.stands)) (λ w v. MessageItem.noop) (λ _. Describes.noop)
    (clean tt) (clean tt))

-- a Noop is read
pub noop_complete : (at : ℕ) → Reads (noop_at 1 at)
unfolding noop_at
noop_complete at = taken _ refl Reads.reads

-- ---- 7, Wait
-- what is read is a Wait
pub wait_sound : {s : List ℕ} {n at : ℕ} → Kinded s 7 n at → ShapeOk s (wait_at s n at)
unfolding wait_at count texts_of names_of
wait_sound {n = n} k =
    held_case _
    (λ three. past_case _
    (λ e. past_case _
    (λ e'.
    let i = number_at_most k.bytes e in
    let t = number_at_most k.bytes e' in
    built k _ _ (Msg.wait _ _) (eqb-true n 3 three) (join i.is.stands (last t.is.stands))
    (λ w v. MessageItem.wait (Number.number i.low) (Number.number t.low)) (λ _. Describes.wait) (clean tt) (clean tt))))

-- a Wait is read
pub wait_complete : {s : List ℕ} {at e session time : ℕ} {x y : Item} → StandAll s at e (list (x ∷ y ∷ [])) → Number x session → Number y time
    → Reads (wait_at s 3 at)
unfolding wait_at
wait_complete a i j =
    let (e, b) = number_passed a i in
    let (e', c) = number_passed b j in
    taken _ refl (skipped _ e (skipped _ e' Reads.reads))

-- ---- 99, Invalid
-- what is read is an Invalid
pub invalid_sound : {s : List ℕ} {n at : ℕ} → Kinded s 99 n at → ShapeOk s (invalid_at s n at)
unfolding invalid_at count texts_of names_of
invalid_sound {s} {n} {at} k =
    past_case _
    (λ lo. past_case _
    (λ hi. past_case _
    (λ e.
    let i = number_at_most k.bytes e in
    let p : ℕ = (token_at s at).next in
    let few : 2 ≤ n = ltb-false n 2 lo in
    let most : n ≤ 3 = ltb-false 3 n hi in
    pick-case (ShapeOk s) _
    (λ two. built k _ _ (Msg.invalid _ none) (eqb-true n 2 two) (last i.is.stands) (λ w v. MessageItem.invalid (Number.number i.low))
    (λ full. Describes.invalid k.is i.is (ValueIs.absent refl) (omega arith)) (clean tt) (clean tt))
    (λ more. past_case _
    (λ some-len.
    let (item, there, _) = sized_item 1 s p k.bytes (eqb-false (size_at 1 s p) 0 some-len) in
    built k _ _ (Msg.invalid _ (some item)) (omega (arith, eqb-false n 2 more)) (join i.is.stands (last there))
    (λ w v. MessageItem.invalid_with (Number.number i.low)) (λ full. Describes.invalid k.is i.is (ValueIs.present there) full)
    (clean tt) (clean tt))))))

-- an Invalid without an item is read
pub invalid_complete : {s : List ℕ} {at e session : ℕ} {x : Item} → StandAll s at e (list (x ∷ [])) → Number x session → Reads (invalid_at s 2 at)
unfolding invalid_at
invalid_complete a i = let (e, b) = number_passed a i in skipped _ refl (skipped _ refl (skipped _ e (taken _ refl Reads.reads)))

-- an Invalid with an item is read
pub invalid_with_complete : {s : List ℕ} {at e session : ℕ} {x y : Item} → StandAll s at e (list (x ∷ y ∷ [])) → Number x session → depth y ≤ part_levels
    → Reads (invalid_at s 3 at)
unfolding invalid_at
invalid_with_complete {s} {at} {e} {y = y} a i d =
    let (t, b) = number_passed a i in
    let p : ℕ = (token_at s at).next in
    skipped _ refl (skipped _ refl (skipped _ t (skipped _ refl (skipped _ (ne_eqb (size_at 1 s p) 0 (item_sized 1 (only b) d).1) Reads.reads))))

-- ---- 6, End
-- what is read is an End
pub end_sound : {s : List ℕ} {n at : ℕ} → Kinded s 6 n at → ShapeOk s (end_at s n at)
unfolding end_at ended count texts_of names_of
end_sound {s} {n} {at} k =
    held_case _
    (λ three. past_case _
    (λ e. by (subst (λ (n : ℕ). Kinded s 6 n at) (eqb-true n 3 three) k) (number_at_most k.bytes e) _ (outcome_sound s (token_at s at).next k.bytes)))
  where
    by : {p session : ℕ} → Kinded s 6 3 at → NumberHere s at p session → (x : Read Outcome) → OutcomeSound s p x → ShapeOk s (ended session p x)
    by k i _ OutcomeSound.refused = IfGood.bad
    by {session = session} k i _ (OutcomeSound.got x) =
        built k _ _ (Msg.end session x.outc) refl (join i.is.stands (last x.stands)) (λ w v. MessageItem.end (Number.number i.low) x.is)
        (λ full. Describes.end (x.described full)) x.texts (clean tt)

-- an End is read
pub end_complete : {s : List ℕ} {at e session : ℕ} {x y : Item} {outc : Outc} → StandAll s at e (list (x ∷ y ∷ [])) → Number x session → OutcItem y outc
    → Reads (end_at s 3 at)
unfolding end_at ended
end_complete {s} {at} a i j =
    let (e, b) = number_passed a i in
    let (o, bad, same) = outcome_read (only b) j in
    taken _ refl (skipped _ e (subst (λ (r : Read Outcome). Reads (ended (up_to most_number (token_at s at)) (token_at s at).next r)) (sym same) Reads.reads))
