-- The keys of rows: what a key's numbers are, how long its row lives, and that equal numbers are equal keys.
-- Assumes nothing.
use mathlib.Core.Path.{◌≡◌, refl, sym, ap, ◌∙◌}
use mathlib.Core.Bool.{Bool, true, false}
use mathlib.Core.Logic.{◌⊎◌, inl, inr}
use mathlib.Core.List.{List}
use Prim.Native.Nat.{ℕ, ◌+◌, ◌*◌, ◌/◌, ◌^◌, ◌≤◌, ◌<◌}
use native.Mathlib.Omega.{arith}
use lib.Dec.{ltb, eqb}
use lib.ListN.{length, drop}
use lib.Pow.{high}
use borrow.Author.Tests.{eq-eqb, ne_eqb}
use Rattle.base.specs.Pick.{pick}
use Rattle.base.specs.BigEndian.{big_endian}
use Rattle.base.proofs.Picks.{both}
use Rattle.node_state.specs.declared.key.Key.{Key}
use Rattle.node_state.specs.Table.{tag_in, row_life}
use Rattle.node_state.specs.Key.{no_key, tag_of, key_of, key_for}

-- ---- tags

pub tag_range : (flood : Bool) (len : ℕ) → (1 ≤ tag_of flood len) × (tag_of flood len ≤ 4)
unfolding tag_of pick
tag_range true len = both (λ (g : ℕ). (1 ≤ g) × (g ≤ 4)) (eqb len 4) (omega arith) (omega arith)
tag_range false len = both (λ (g : ℕ). (1 ≤ g) × (g ≤ 4)) (eqb len 4) (omega arith) (omega arith)

-- a flag is told by the one of two numbers that it chooses
pub flag_same : (a b : ℕ) → (a ≡ b → ⊥) → (f g : Bool) → pick f a b ≡ pick g a b → f ≡ g
unfolding pick
flag_same a b n true true e = refl
flag_same a b n true false e = absurd (n e)
flag_same a b n false true e = absurd (n (sym e))
flag_same a b n false false e = refl

-- ---- a key by its numbers

module _ (flood : Bool) (session : ℕ) (initiator : List ℕ) where
  -- the initiators of messages have one
  pub key_sized : (length initiator ≡ 4) ⊎ (length initiator ≡ 16) → key_for flood session initiator ≡ key_of flood session initiator
  unfolding key_for pick
  key_sized (inl e) = rw (eq-eqb (length initiator) 4 e) refl
  key_sized (inr e) = rw e refl

  pub key_none : (length initiator ≡ 4 → ⊥) → (length initiator ≡ 16 → ⊥) → no_key ≡ key_for flood session initiator
  unfolding key_for pick
  key_none four sixteen = rw (ne_eqb (length initiator) 4 four, ne_eqb (length initiator) 16 sixteen) refl

  module _ (tag second : ℕ) (tagged : tag ≡ tag_of flood (length initiator)) where
    pub key_short : length initiator ≡ 4 → second ≡ big_endian initiator 4
        → record { first = session + 4294967296 * tag; second = second; third = 0 } ≡ key_for flood session initiator
    unfolding key_of pick
    key_short four e = rw (key_sized (inl four), tagged, e, four) refl

    pub key_long : (third : ℕ) → length initiator ≡ 16 → second ≡ big_endian initiator 8 → third ≡ big_endian (drop 8 initiator) 8
        → record { first = session + 4294967296 * tag; second = second; third = third } ≡ key_for flood session initiator
    unfolding key_of pick
    key_long third sixteen e f = rw (key_sized (inr sixteen), tagged, e, f, sixteen) refl

-- ---- how long its row lives

-- the tag in a first number
pub tag_read : (session tag : ℕ) → session < 2 ^ 32 → tag_in (session + 2 ^ 32 * tag) ≡ tag
unfolding tag_in
tag_read session tag h =
    let e : session + 2 ^ 32 * tag ≡ tag * 2 ^ 32 + session = omega arith in
    ap (λ (n : ℕ). n / 2 ^ 32) e ∙ high tag 32 h

life_tagged : (session tag : ℕ) → session < 2 ^ 32 → row_life (session + 2 ^ 32 * tag) ≡ pick (ltb tag 3) 60000 120000
unfolding row_life
life_tagged session tag h = ap (λ (n : ℕ). pick (ltb n 3) 60000 120000) (tag_read session tag h)

life_of : (flood : Bool) (len session : ℕ) → session < 2 ^ 32 → row_life (session + 2 ^ 32 * tag_of flood len) ≡ pick flood 120000 60000
unfolding tag_of pick
life_of true len session h = both (λ (tag : ℕ). row_life (session + 2 ^ 32 * tag) ≡ 120000) (eqb len 4) (life_tagged session 3 h) (life_tagged session 4 h)
life_of false len session h = both (λ (tag : ℕ). row_life (session + 2 ^ 32 * tag) ≡ 60000) (eqb len 4) (life_tagged session 1 h) (life_tagged session 2 h)

key_first : (flood : Bool) (session : ℕ) (initiator : List ℕ) → (key_of flood session initiator).first ≡ session + 2 ^ 32 * tag_of flood (length initiator)
unfolding key_of
key_first flood session initiator = both (λ (k : Key). k.first ≡ session + 2 ^ 32 * tag_of flood (length initiator)) (eqb (length initiator) 4) refl refl

pub key_life : (flood : Bool) (session : ℕ) (initiator : List ℕ) → session < 2 ^ 32 → row_life (key_of flood session initiator).first ≡ pick flood 120000 60000
key_life flood session initiator h = rw (key_first flood session initiator) (life_of flood (length initiator) session h)

-- it is no free row's
pub key_used : (flood : Bool) (session : ℕ) (initiator : List ℕ) → 0 < (key_of flood session initiator).first
key_used flood session initiator = let t = tag_range flood (length initiator) in rw (key_first flood session initiator) (omega arith)
