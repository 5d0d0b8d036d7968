-- What is read of a Discovery or a Flood that is relayed, and of the message that goes out.
-- Assumes nothing.
use Rattle.std.specs.Prelude.{Ok}
use Rattle.reader.specs.Read.{Reading}
use mathlib.Core.Path.{◌≡◌, refl, ap, ◌∙◌}
use mathlib.Core.List.{List}
use Prim.Native.Nat.{ℕ, ◌-◌}
use Rattle.options.specs.Text.{held}
use Rattle.base.specs.Pick.{pick}
use Rattle.options.specs.declared.objective.Objective.{Objective}
use Rattle.message.specs.declared.Message.{Message}
use Rattle.message.specs.Fields.{session_of, initiator_of, objective_of, count_in}
use Rattle.writer.specs.Lower.{Lowers}
use Rattle.writer_laws.proofs.Relay.{lowered_reads}
use Rattle.node.specs.declared.role.Spread.{Spread}
use Rattle.node.specs.declared.role.Role.{Role}
use Rattle.node.specs.Role.{RoleIn}
use Rattle.writer.specs.Lower.{onward}
use Rattle.node_laws.specs.Relays.{Told, number_in, told_reading, told}
use Rattle.node.proofs.Spreads.{SpreadBy, spread_by, role_spreading}

-- what is told of it
abbrev pub spread_told : List ℕ → Spread → Told
spread_told message s =
    record { kind = pick s.flood 9 1; session = s.session; initiator = held message s.initiator; count = s.objective.count }

-- by the message that was read
told_by : (message : List ℕ) {m : Message} {s : Spread} → SpreadBy m s → told_reading message (Ok m) ≡ spread_told message s
unfolding told_reading number_in count_in session_of initiator_of objective_of pick
told_by message SpreadBy.discovery = refl
told_by message SpreadBy.flood = refl

pub told_spread : (message : List ℕ) (s : Spread) → RoleIn message (Role.Spreads s) → told message ≡ spread_told message s
unfolding told
told_spread message s r = ap (told_reading message) r.read ∙ told_by message (spread_by r.is s r.plays)

-- the count that a relay lowers
count_of : (m : Message) (o : Objective) → Lowers m o → count_in (objective_of m) ≡ o.count
unfolding count_in objective_of
count_of m o Lowers.discovery = refl
count_of m o Lowers.flood = refl

-- the message that goes out has it one lower
pub onward_count : (message : List ℕ) (s : Spread) → RoleIn message (Role.Spreads s) → (told (onward message s.objective)).count ≡ s.objective.count - 1
unfolding told told_reading
onward_count message s r =
    let (m', read, relays) = lowered_reads message r.is s.objective r.read (role_spreading message s r).lowers in
    ap (λ (x : Reading). (told_reading (onward message s.objective) x).count) read ∙ count_of m' relays.objective relays.lowers ∙ relays.lower
