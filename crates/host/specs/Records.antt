-- A node's record as a host keeps it: beside its address a record's numbers are its port, ttl, interfaces, links, clock
-- and tally.
use Rattle.std.specs.Prelude.{ℕ, ◌^◌, List, [], ◌∷◌, get_or, leb, Result, Ok, Err}
use Rattle.base.specs.Pick.{pick}
use Rattle.refusal.specs.declared.Refusal.{Refusal}
use Rattle.refusal.specs.Refusal.{number_of}
use Rattle.node_state.specs.declared.Record.{Record}
use Rattle.node_state.specs.Record.{blank, fresh, set_links}

-- the record that the numbers say; where one is too wide for a record, a blank one, which is refused by 12
unfoldable pub node_of : List ℕ → List ℕ → Record
node_of address f =
    pick (leb (2 ^ 16) (get_or f 0 0)) blank
    (pick (leb (2 ^ 32) (get_or f 1 0)) blank
    (pick (leb (2 ^ 8) (get_or f 2 0)) blank
    (pick (leb (2 ^ 8) (get_or f 3 0)) blank
    (record {
      address = address;
      port = get_or f 0 0;
      ttl = get_or f 1 0;
      interfaces = get_or f 2 0;
      links = get_or f 3 0;
      clock = get_or f 4 0;
      tally = get_or f 5 0;
    }))))

-- a record's numbers
unfoldable pub node_numbers : Record → List ℕ
node_numbers r = r.port ∷ r.ttl ∷ r.interfaces ∷ r.links ∷ r.clock ∷ r.tally ∷ []

-- the numbers that are left: those of the record that is given; a refusal leaves them as they were
unfoldable pub numbers_after : Result Record Refusal → List ℕ → List ℕ
numbers_after (Ok node) f = node_numbers node
numbers_after (Err refusal) f = f

-- what C is answered where it keeps the record itself: 0, or the number of the refusal; and the record that is left
pub record RecordAnswer : Type 0 where
  pub refusal : ℕ
  pub node : Record

-- a number beside a record
abbrev pub keeps : ℕ → Record → RecordAnswer
keeps n r = record { refusal = n; node = r }

-- the record that is given in the place of another; a refusal leaves that one
unfoldable pub put_over : Record → Result Record Refusal → RecordAnswer
put_over r (Ok node) = keeps 0 node
put_over r (Err refusal) = keeps (number_of refusal) r

-- a fresh record in the place of another
abbrev pub fresh_over : Record → List ℕ → ℕ → ℕ → ℕ → ℕ → RecordAnswer
fresh_over r address port ttl interfaces links = put_over r (fresh address port ttl interfaces links)

-- a record with other links in the place of the one that had the old ones
abbrev pub links_over : Record → ℕ → RecordAnswer
links_over r mask = put_over r (set_links r mask)
