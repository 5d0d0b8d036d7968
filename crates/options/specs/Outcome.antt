-- Accept and decline options (RFC 8990, sections 2.9.3 and 2.9.4): what is read of the bytes s that begin at the own
-- head and stand at `base` of the message.
use Rattle.std.specs.Prelude.{ℕ, ◌+◌, ◌-◌, List, None, drop, ltb, eqb}
use Rattle.base.specs.Pick.{pick, unless}
use Rattle.cbor.specs.Token.{token_at, items_in, up_to}
use Rattle.options.specs.declared.outcome.Outcome.{Outcome}
use Rattle.options.specs.Text.{span_of, content_in, bad_text}
use Rattle.options.specs.Part.{Read, departs, part}

-- a decline's reason, a text at `at`
unfoldable pub reason_in : ℕ → List ℕ → ℕ → Read Outcome
reason_in base s at =
    let t = token_at s at in
    unless (eqb t.major 3) (departs (base + t.at))
    (part (Outcome.Reason (span_of (base + t.body) (t.next - t.body))) t.next
    (bad_text (content_in s t) (base + t.at)) None)

-- accept: 101 alone; decline: 102, and a reason or none
unfoldable pub outcome_in : ℕ → List ℕ → Read Outcome
outcome_in base s =
    let a = token_at s 0 in
    let k = token_at s a.next in
    let lead = up_to 102 k in
    pick (eqb (items_in a) 0) (departs base)
    (pick (ltb lead 101) (departs (base + k.at))
    (pick (ltb 102 lead) (departs (base + k.at))
    (pick (eqb lead 101) (pick (eqb a.arg 1) (part Outcome.Accept k.next None None) (departs base))
    (pick (eqb a.arg 1) (part Outcome.Decline k.next None None)
    (pick (eqb a.arg 2) (reason_in base s k.next) (departs base))))))

-- the accept or decline at a place of the message s
abbrev pub outcome_at : List ℕ → ℕ → Read Outcome
outcome_at s at = outcome_in at (drop at s)
