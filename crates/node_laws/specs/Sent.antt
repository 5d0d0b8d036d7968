-- What RELAY and ANSWER do (rules 9.6 to 9.8), once the clock is taken and the dead rows are freed.
use Rattle.std.specs.Prelude.{ℕ, ◌^◌, ◌<◌, true, false, List, ◌≢◌, ◌↔◌, ◌≡◌, length}
use Rattle.std.specs.Int.Count.{ones}
use Rattle.base.specs.Bits.{has_bit}
use Rattle.options.specs.declared.Span.{Span}
use Rattle.node_state.specs.declared.Record.{Record}
use Rattle.node.specs.declared.Verdict.TheVariants.{Answer}
use Rattle.std.specs.Prelude.{Ok}
use Rattle.node.specs.declared.role.Spread.{Spread}
use Rattle.node_state.specs.Record.{clocked, tallied}
use Rattle.node_state.specs.Table.{cell, freed}
use Rattle.node.specs.Role.{key_in}
use Rattle.options.specs.Text.{held}
use Rattle.cbor.specs.Put.{written}
use Rattle.writer.specs.Write.{answer_of}
use Rattle.writer.specs.Lower.{onward}
use Rattle.node.specs.Call.{Call, After, verdict_given}
use Rattle.node_laws.specs.RelayRows.{Free, HasKey, SameRow}

-- RELAY of s, which was read of the message, with the reply's mask and length, and what is after the call
pub record Relayed (r : Record) (t : List ℕ) (c : Call) (s : Spread) (mask len : ℕ) (a : After) : Type 0 where
  -- it fills the lowest free row, and no other
  pub row : ℕ
  pub room : row < 64
  pub free : Free (freed c.clock t) row
  pub lowest : (k : ℕ) → k < row → Free (freed c.clock t) k → ⊥
  pub key : HasKey a.table row (key_in c.message s)
  pub admitted : cell a.table row 3 ≡ c.clock
  pub no_other : (i : ℕ) → i ≢ row → SameRow a.table (freed c.clock t) i
  pub sized : length a.table ≡ 256
  -- its mask has the links up, less the arriving one
  pub links : (j : ℕ) → has_bit mask j ≡ true ↔ ((has_bit r.links j ≡ true) × (j ≢ c.interface))
  -- the copies are the ones in that mask
  pub node : a.node ≡ tallied (clocked r c.clock) (ones mask)
  -- the message with its count one lower is in front of the output
  pub long : len ≡ length (onward c.message s.objective)
  pub output : a.output ≡ written (onward c.message s.objective) c.output

-- ANSWER to a Discovery, which was read of the message, and what is after the call
pub record Answered (r : Record) (t : List ℕ) (c : Call) (session : ℕ) (initiator : Span) (a : After) : Type 0 where
  -- a Response with the node's own locator is in front of the output
  pub bytes : List ℕ
  pub is : bytes ≡ answer_of session (held c.message initiator) r.ttl r.address r.port
  pub output : a.output ≡ written bytes c.output
  -- it goes back by the arriving interface alone, and the Discovery isn't handed up
  pub reply : a.answer ≡ Ok (verdict_given Answer false (2 ^ c.interface) (length bytes))
  -- no row is filled, and nothing is tallied
  pub table : a.table ≡ freed c.clock t
  pub node : a.node ≡ clocked r c.clock
