-- A Discovery or a Flood that was read: its parts lie in the message, its session is a number of 32 bits, and its count
-- is the one that a relay lowers.
-- Assumes nothing.
use mathlib.Core.Path.{◌≡◌, subst}
use mathlib.Core.Bool.{Bool, true, false}
use mathlib.Core.List.{List}
use Prim.Native.Nat.{ℕ, ◌^◌, ◌≤◌, ◌<◌}
use native.Mathlib.Omega.{arith}
use lib.ListN.{length}
use Rattle.options.specs.declared.Span.{Span}
use Rattle.options.specs.declared.objective.Objective.{Objective}
use Rattle.options.specs.declared.pair.Pair.{Pair}
use Rattle.options.proofs.Fits.{ObjectiveParts}
use Rattle.message.specs.declared.Message.{Message}
use Rattle.message.specs.declared.Message.TheVariants as M
use Rattle.message.specs.declared.Series.{Series}
use Rattle.rfc8990.specs.Limits.{most_bytes}
use Rattle.message.proofs.Parts.{Opened, MessageParts}
use Rattle.reader.proofs.ReadParts.{read_parts}
use Rattle.writer.specs.Lower.{Lowers}
use Rattle.node.specs.declared.role.Spread.{Spread}
use Rattle.node.specs.declared.role.Role.{Role}
use Rattle.node.specs.Role.{spread_of, role_of, RoleIn, Within}

-- what the message says of it
pub record Spreading (message : List ℕ) (m : Message) (s : Spread) : Type 0 where
  pub within : Within message s
  pub session : s.session < 2 ^ 32
  pub lowers : Lowers m s.objective

-- its parts lie where reading says
spread_in : {message : List ℕ} {session : ℕ} {i : Span} {o : Objective} (flood : Bool) {m : Message} → Lowers m o → Opened message session i
    → ObjectiveParts (length message) o
    → Spreading message m (spread_of flood session i o)
spread_in flood low h parts =
    record { within = record { initiator = h.within; bytes = h.bytes; name = parts.name }; session = omega (arith, h.session); lowers = low }

-- a message that spreads: a Discovery, or a Flood by its first objective
pub data SpreadBy : Message → Spread → Type 0 where
  discovery : {session : ℕ} {i : Span} {o : Objective} → SpreadBy (M.Discovery session i o) (spread_of false session i o)
  flood : {session ttl : ℕ} {i : Span} {first : Pair} {pairs : Series}
      → SpreadBy (M.Flood session i ttl first pairs) (spread_of true session i first.objective)

pub spread_by : (m : Message) (s : Spread) → role_of m ≡ Role.Spreads s → SpreadBy m s
unfolding role_of
spread_by (M.Discovery session i o) s e = let same : spread_of false session i o ≡ s = cc in subst (SpreadBy (M.Discovery session i o)) same SpreadBy.discovery
spread_by (M.Flood session i ttl first pairs) s e =
    let same : spread_of true session i first.objective ≡ s = cc in
    subst (SpreadBy (M.Flood session i ttl first pairs)) same SpreadBy.flood
spread_by M.Noop s e = absurd (let z : ◌≡◌ {A = ℕ} 0 1 = cc in omega arith)
spread_by (M.Response session i ttl targets extra) s e = absurd (let z : ◌≡◌ {A = ℕ} 0 1 = cc in omega arith)
spread_by (M.RequestNegotiation session o) s e = absurd (let z : ◌≡◌ {A = ℕ} 0 1 = cc in omega arith)
spread_by (M.RequestSynchronization session o) s e = absurd (let z : ◌≡◌ {A = ℕ} 0 1 = cc in omega arith)
spread_by (M.Negotiate session o) s e = absurd (let z : ◌≡◌ {A = ℕ} 0 1 = cc in omega arith)
spread_by (M.End session outcome) s e = absurd (let z : ◌≡◌ {A = ℕ} 0 1 = cc in omega arith)
spread_by (M.Wait session time) s e = absurd (let z : ◌≡◌ {A = ℕ} 0 1 = cc in omega arith)
spread_by (M.Synch session o) s e = absurd (let z : ◌≡◌ {A = ℕ} 0 1 = cc in omega arith)
spread_by (M.Invalid session item) s e = absurd (let z : ◌≡◌ {A = ℕ} 0 1 = cc in omega arith)

spreading : {message : List ℕ} {m : Message} {s : Spread} → SpreadBy m s → MessageParts message m → Spreading message m s
spreading SpreadBy.discovery h = spread_in false Lowers.discovery h.0 h.1
spreading SpreadBy.flood h = spread_in true Lowers.flood h.0 h.1

pub role_spreading : (message : List ℕ) (s : Spread) → (r : RoleIn message (Role.Spreads s)) → Spreading message r.is s
role_spreading message s r = spreading (spread_by r.is s r.plays) (read_parts message r.is r.read).1

-- a message that was read has at most 2,048 bytes
pub read_most : (message : List ℕ) (role : Role) → RoleIn message role → length message ≤ most_bytes
read_most message role r = (read_parts message r.is r.read).0
