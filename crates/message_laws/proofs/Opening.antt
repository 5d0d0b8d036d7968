-- What Response and Flood begin with: a session, an initiator and a ttl.
-- Assumes nothing.
use mathlib.Core.Path.{◌≡◌}
use mathlib.Core.List.{List}
use Prim.Native.Nat.{ℕ}
use Rattle.std.specs.Prelude.{Ok}
use Rattle.options.specs.Part.{departs}
use Rattle.message.specs.Opening.{WithNext}
use Rattle.base.specs.Pick.{pick}
use Rattle.base.specs.BigEndian.{Bytes}
use Rattle.base.proofs.Picks.{pick-case}
use Rattle.cbor.specs.Token.{token_at, up_to}
use Rattle.cbor.specs.Tree.{Item, Items}
use Rattle.rfc8990.specs.Cddl.{Number, Initiator}
use Rattle.message_laws.specs.Stands.{StandAll}
use Rattle.options.specs.Text.{content_of}
use Rattle.message.specs.declared.opening.Opening.{Opening}
use Rattle.message.specs.Opening.{most_number, opening_at}
use Rattle.message_laws.proofs.Heads.{NumberHere, InitiatorHere, number_at_most, initiator_at, number_passed, initiator_passed}

-- the three stand one after the other
pub record OpeningHere (s : List ℕ) (at next : ℕ) (o : Opening) : Type 0 where
  pub mid : ℕ
  pub before : ℕ
  pub session : NumberHere s at mid o.session
  pub initiator : InitiatorHere s mid before o.initiator
  pub ttl : NumberHere s before next o.ttl

-- the answer
pub data OpeningOk (s : List ℕ) (at : ℕ) : WithNext Opening → Type 0 where
  bad : {place : ℕ} → OpeningOk s at (departs place)
  got : {o : Opening} {next : ℕ} → OpeningHere s at next o → OpeningOk s at (Ok (o, next))

-- what is read stands there
pub opening_sound : {s : List ℕ} {at : ℕ} → Bytes s → OpeningOk s at (opening_at s at)
unfolding opening_at
opening_sound {s} {at} b =
    pick-case (OpeningOk s at) _ (λ _. OpeningOk.bad)
    (λ e.
    let i = number_at_most b e in
    pick-case (OpeningOk s at) _
    (λ e'.
    let j = initiator_at b e' in
    pick-case (OpeningOk s at) _ (λ _. OpeningOk.bad)
    (λ e''. OpeningOk.got (record { mid = _; before = _; session = i; initiator = j; ttl = number_at_most b e'' })))
    (λ _. OpeningOk.bad))

-- what stands there is read, and the items after it follow
pub opening_complete : {s : List ℕ} {at e session ttl : ℕ} {x y z : Item} {xs : Items} {from : List ℕ}
    → StandAll s at e (Items.more x (Items.more y (Items.more z xs)))
    → Number x session → Initiator y from → Number z ttl → (o : Opening) × (next : ℕ) × (opening_at s at ≡ Ok (o, next)) × StandAll s next e xs
unfolding opening_at pick
opening_complete {s} {at} a i j k =
    let (e, b) = number_passed a i in
    let (e', c) = initiator_passed b j in
    let (e'', d) = number_passed c k in
    let t = token_at s (token_at s (token_at s at).next).next in (
      record { session = up_to most_number (token_at s at); initiator = content_of (token_at s (token_at s at).next); ttl = up_to most_number t },
      t.next,
      rw (e, e', e''),
      d,
    )
