-- What was read: a session has 32 bits, and a count is at most 255.
-- Assumes nothing.
use Rattle.std.specs.Prelude.{Ok}
use mathlib.Core.Path.{◌≡◌}
use mathlib.Core.List.{List}
use Prim.Native.Nat.{ℕ, ◌≤◌}
use Rattle.std.specs.Prelude.{Some, None}
use Rattle.message.specs.declared.Message.{Message}
use Rattle.message.specs.declared.Message.TheVariants as M
use Rattle.message.specs.Opening.{most_number}
use Rattle.reader.specs.Read.{read_of}
use Rattle.message.proofs.Parts.{SmallCount, MessageParts}
use Rattle.reader.proofs.ReadParts.{read_parts}
use Rattle.message.specs.Fields.{Session}
use Rattle.message.specs.Fields.{session_of, objective_of}

abbrev pub SmallSession : Session → Type 0
SmallSession None = Unit {0}
SmallSession (Some session) = session ≤ most_number

-- a session of 32 bits and a count of at most 255, where the message has them
abbrev pub Small : Message → Type 0
Small m = SmallSession (session_of m) × SmallCount (objective_of m)

parts_small : (s : List ℕ) (m : Message) → MessageParts s m → Small m
unfolding session_of objective_of
parts_small s M.Noop h = (tt, tt)
parts_small s (M.Discovery session i o) h = (h.0.session, h.1.limit)
parts_small s (M.Response session i ttl targets extra) h = (h.0.session, h.2)
parts_small s (M.RequestNegotiation session o) h = (h.0, h.1.limit)
parts_small s (M.RequestSynchronization session o) h = (h.0, h.1.limit)
parts_small s (M.Negotiate session o) h = (h.0, h.1.limit)
parts_small s (M.End session outcome) h = (h, tt)
parts_small s (M.Wait session time) h = (h, tt)
parts_small s (M.Synch session o) h = (h.0, h.1.limit)
parts_small s (M.Flood session i ttl first pairs) h = (h.0.session, h.1.limit)
parts_small s (M.Invalid session item) h = (h, tt)

-- No message is read with a session of more than 32 bits or a count over 255.
pub reading_small : (s : List ℕ) {m : Message} → read_of s ≡ Ok m → Small m
reading_small s {m} e = parts_small s m (read_parts s m e).1
