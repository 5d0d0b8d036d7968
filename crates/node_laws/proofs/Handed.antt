-- Which messages are never handed up (rules 9.4).
-- Assumes nothing.
use mathlib.Core.Path.{◌≡◌, refl, sym, ◌∙◌}
use mathlib.Core.Logic.{inl, inr}
use mathlib.Core.Bool.{Bool, false}
use mathlib.Core.List.{List}
use Prim.Native.Nat.{ℕ, ◌≤◌}
use native.Mathlib.Omega.{arith}
use Rattle.message.specs.declared.Message.{Message}
use Rattle.message.specs.declared.Message.TheVariants as M
use Rattle.reader.specs.Read.{read_of}
use Rattle.message.specs.Fields.{kind_of}
use Rattle.node_state.specs.declared.Record.{Record}
use Rattle.node.specs.declared.Verdict.{Verdict}
use Rattle.std.specs.Prelude.{Ok}
use Rattle.node.specs.Call.{Call, verdict_given, node_call}
use Rattle.node_laws.specs.Due.{Rules, when, otherwise, First, rules_on}
use Rattle.node_laws.proofs.Verdict.{verdict_exactly}

-- rules that hand nothing up
abbrev Keep : Rules → Type 0
Keep (when P v up rules) = (up ≡ false) × Keep rules
Keep (otherwise v up) = up ≡ false

-- the first of them hands nothing up
first_kept : (rules : Rules) (v : Verdict) (up : Bool) → Keep rules → First rules v up → up ≡ false
unfolding First
first_kept (when P w f rules) v up (down, keep) (inl (p, same, is)) = sym is ∙ down
first_kept (when P w f rules) v up (down, keep) (inr (not, first)) = first_kept rules v up keep first
first_kept (otherwise w f) v up down (same, is) = sym is ∙ down

-- so do those on a Noop and on a Discovery
kept : (r : Record) (t : List ℕ) (c : Call) (m : Message) → kind_of m ≤ 1 → Keep (rules_on r t c m)
kept r t c M.Noop low = refl
kept r t c (M.Discovery session i o) low = (refl, (refl, (refl, (refl, (refl, (refl, refl))))))
kept r t c (M.Response session i ttl targets extra) low = absurd (omega arith)
kept r t c (M.RequestNegotiation session o) low = absurd (omega arith)
kept r t c (M.RequestSynchronization session o) low = absurd (omega arith)
kept r t c (M.Negotiate session o) low = absurd (omega arith)
kept r t c (M.End session outcome) low = absurd (omega arith)
kept r t c (M.Wait session time) low = absurd (omega arith)
kept r t c (M.Synch session o) low = absurd (omega arith)
kept r t c (M.Flood session i ttl first pairs) low = absurd (omega arith)
kept r t c (M.Invalid session item) low = absurd (omega arith)

-- for readers

-- A Noop (kind 0) or Discovery (kind 1) is never handed up.
pub never_handed : (r : Record) (t : List ℕ) (c : Call) (m : Message) (v : Verdict) (up : Bool) (mask len : ℕ)
    → read_of c.message ≡ Ok m → kind_of m ≤ 1
    → (node_call r t c).answer ≡ Ok (verdict_given v up mask len) → up ≡ false
never_handed r t c m v up mask len read low said =
    let (passes, is, read', due) = (verdict_exactly r t c v up).0 (mask, len, said) in
    let same : is ≡ m = cc in
    first_kept (rules_on r t c is) v up (kept r t c is (rw same low)) due
