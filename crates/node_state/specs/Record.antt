-- The node's record (rules 6), and masks of links, whose bit i is set when interface i is up.
use Rattle.std.specs.Prelude.{ℕ, ◌+◌, ◌-◌, ◌^◌, Bool, not, ◌||◌, List, replicate, ltb, leb, eqb, Result, Ok, Err}
use Rattle.base.specs.Pick.{pick}
use Rattle.base.specs.Bits.{has_bit}
use Rattle.refusal.specs.declared.Refusal.{Refusal}
use Rattle.std.specs.Result.{result_unwrap_or}
use Rattle.refusal.specs.declared.Refusal.TheVariants.{BadRecord, BadLink}
use Rattle.node_state.specs.declared.Record.{Record}

-- house limit (rules 6.2): how many interfaces a node has at most
abbrev pub most_interfaces : ℕ
most_interfaces = 8

-- house limit (rules 6.2): the greatest tally of a record that isn't refused
abbrev pub most_tally : ℕ
most_tally = 2 ^ 63

-- the interfaces aren't 1 to 8, or a bit is set at or above their number
unfoldable pub links_bad : ℕ → ℕ → Bool
links_bad interfaces mask = eqb interfaces 0 || ltb most_interfaces interfaces || leb (2 ^ interfaces) mask

-- refusal 12 is due (rules 6.2): bad links, or a tally above the limit
unfoldable pub record_bad : Record → Bool
record_bad r = links_bad r.interfaces r.links || ltb most_tally r.tally

-- a record at clock 0 with no copies tallied
abbrev pub begun : List ℕ → ℕ → ℕ → ℕ → ℕ → Record
begun address port ttl interfaces mask =
    record { address = address; port = port; ttl = ttl; interfaces = interfaces; links = mask; clock = 0; tally = 0 }

-- all zeros
abbrev pub blank : Record
blank = begun (replicate 16 0) 0 0 0 0

-- asking for a fresh record (rules 6.3): 12, or the record
unfoldable pub fresh : List ℕ → ℕ → ℕ → ℕ → ℕ → Result Record Refusal
fresh address port ttl interfaces mask =
    pick (links_bad interfaces mask) (Err BadRecord) (Ok (begun address port ttl interfaces mask))

-- the record that asking for a fresh one gives: a blank one where it is refused
abbrev pub fresh_or_blank : List ℕ → ℕ → ℕ → ℕ → ℕ → Record
fresh_or_blank address port ttl interfaces mask = result_unwrap_or (fresh address port ttl interfaces mask) blank

-- the record with another mask
unfoldable pub linked : Record → ℕ → Record
linked r mask =
    record {
      address = r.address;
      port = r.port;
      ttl = r.ttl;
      interfaces = r.interfaces;
      links = mask;
      clock = r.clock;
      tally = r.tally;
    }

-- setting links: 12, then 13
unfoldable pub set_links : Record → ℕ → Result Record Refusal
set_links r mask =
    pick (record_bad r) (Err BadRecord) (pick (leb (2 ^ r.interfaces) mask) (Err BadLink) (Ok (linked r mask)))

-- the record after a setting of links: a refusal leaves it as it was
abbrev pub links_set : Record → ℕ → Record
links_set r mask = result_unwrap_or (set_links r mask) r

-- 13 of the node call: the arriving interface isn't below the count, or isn't in the mask of links: its link is down
unfoldable pub arrival_bad : Record → ℕ → Bool
arrival_bad r i = leb r.interfaces i || not (has_bit r.links i)

-- the links up, less that of interface i, which is up
unfoldable pub others : Record → ℕ → ℕ
others r i = r.links - 2 ^ i

-- the record with the clock taken
unfoldable pub clocked : Record → ℕ → Record
clocked r now =
    record {
      address = r.address;
      port = r.port;
      ttl = r.ttl;
      interfaces = r.interfaces;
      links = r.links;
      clock = now;
      tally = r.tally;
    }

-- the record with so many copies tallied
unfoldable pub tallied : Record → ℕ → Record
tallied r copies =
    record {
      address = r.address;
      port = r.port;
      ttl = r.ttl;
      interfaces = r.interfaces;
      links = r.links;
      clock = r.clock;
      tally = r.tally + copies;
    }
