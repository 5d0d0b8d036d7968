-- Objective options (RFC 8990, section 2.10.1): what is read of the bytes s that begin at the own head and stand at
-- `base` of the message.
use Rattle.std.specs.Prelude.{ℕ, ◌+◌, ◌-◌, List, Some, None, drop, ltb, eqb}
use Rattle.base.specs.Pick.{pick, unless}
use Rattle.cbor.specs.declared.token.Token.{Token}
use Rattle.cbor.specs.Token.{token_at, size_at, items_in, up_to}
use Rattle.rfc8990.specs.Limits.{most_name}
use Rattle.options.specs.declared.objective.Objective.{Objective}
use Rattle.options.specs.Text.{Noted, span_of, content_in, bad_text}
use Rattle.options.specs.Part.{Read, departs, part}

-- `place` where a name is longer than that
unfoldable pub long_name : Token → ℕ → Noted
long_name t place = pick (ltb most_name t.arg) (Some place) None

-- the objective whose name and count these tokens head, with a value of so many bytes after the count
unfoldable pub objective_from : ℕ → Token → ℕ → Token → ℕ → ℕ → Objective
objective_from base n flags c count len =
    record {
      name = span_of (base + n.body) (n.next - n.body);
      flags = flags;
      count = count;
      count_at = base + c.at;
      value = span_of (base + c.next) len;
    }

-- an objective of so many items, from its name on: flags, count and, in four items, a value, around which so many
-- levels are open, the objective's own among them
unfoldable pub objective_named : ℕ → ℕ → List ℕ → ℕ → Token → Read Objective
objective_named levels base s items n =
    let f = token_at s n.next in
    let c = token_at s f.next in
    let len = size_at levels s c.next in
    let bad = bad_text (content_in s n) (base + n.at) in
    let long = long_name n (base + n.at) in
    pick (ltb 15 (up_to 15 f)) (departs (base + f.at))
    (pick (ltb 255 (up_to 255 c)) (departs (base + c.at))
    (pick (eqb items 3) (part (objective_from base n (up_to 15 f) c (up_to 255 c) 0) c.next bad long)
    (pick (eqb len 0) (departs (base + c.next))
    (part (objective_from base n (up_to 15 f) c (up_to 255 c) len) (c.next + len) bad long))))

-- an objective: an array of three or four items, the first a name
unfoldable pub objective_in : ℕ → ℕ → List ℕ → Read Objective
objective_in levels base s =
    let a = token_at s 0 in
    let n = token_at s a.next in
    pick (eqb (items_in a) 0) (departs base)
    (unless (eqb n.major 3) (departs (base + n.at))
    (pick (ltb a.arg 3) (departs base)
    (pick (ltb 4 a.arg) (departs base)
    (objective_named levels base s a.arg n))))

-- the objective at a place of the message s
abbrev pub objective_at : ℕ → List ℕ → ℕ → Read Objective
objective_at levels s at = objective_in levels at (drop at s)
