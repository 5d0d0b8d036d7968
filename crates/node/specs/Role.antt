-- What a node looks at in a message (rules 9), and the key of its row (rules 7.9).
use Rattle.std.specs.Prelude.{Ok}
use Rattle.std.specs.Prelude.{ℕ, ◌+◌, ◌≤◌, Bool, true, false, List, ◌⊎◌, ◌≡◌, length}
use Rattle.options.specs.Text.{held}
use Rattle.options.specs.declared.Span.{Span}
use Rattle.options.specs.declared.objective.Objective.{Objective}
use Rattle.message.specs.declared.Message.{Message}
use Rattle.message.specs.declared.Message.TheVariants as M
use Rattle.reader.specs.Read.{read_of}
use Rattle.node.specs.declared.role.Spread.{Spread}
use Rattle.node.specs.declared.role.Role.{Role}
use Rattle.node_state.specs.declared.key.Key.{Key}
use Rattle.node_state.specs.Key.{key_of}

-- what is looked at in a Discovery or a Flood
abbrev pub spread_of : Bool → ℕ → Span → Objective → Spread
spread_of flood session initiator objective =
    record { flood = flood; session = session; initiator = initiator; objective = objective }

-- a Discovery spreads, and so does a Flood, whose first objective counts; a Noop is for none, and all others are for
-- the host
unfoldable pub role_of : Message → Role
role_of M.Noop = Role.Noop
role_of (M.Discovery session initiator objective) = Role.Spreads (spread_of false session initiator objective)
role_of (M.Response session initiator ttl targets extra) = Role.Upward
role_of (M.RequestNegotiation session objective) = Role.Upward
role_of (M.RequestSynchronization session objective) = Role.Upward
role_of (M.Negotiate session objective) = Role.Upward
role_of (M.End session outcome) = Role.Upward
role_of (M.Wait session time) = Role.Upward
role_of (M.Synch session objective) = Role.Upward
role_of (M.Flood session initiator ttl first pairs) = Role.Spreads (spread_of true session initiator first.objective)
role_of (M.Invalid session item) = Role.Upward

-- the message is read, and this is its role
pub record RoleIn (message : List ℕ) (role : Role) : Type 0 where
  pub is : Message
  pub read : read_of message ≡ Ok is
  pub plays : role_of is ≡ role

-- the initiator, of 4 or 16 bytes, and the name lie in the message
pub record Within (message : List ℕ) (s : Spread) : Type 0 where
  pub initiator : s.initiator.at + s.initiator.len ≤ length message
  pub bytes : (s.initiator.len ≡ 4) ⊎ (s.initiator.len ≡ 16)
  pub name : s.objective.name.at + s.objective.name.len ≤ length message

-- the key of s, which was read of the message
unfoldable pub key_in : List ℕ → Spread → Key
key_in message s = key_of s.flood s.session (held message s.initiator)
