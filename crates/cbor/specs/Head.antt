-- The head of an item (RFC 8949, section 3): the major type stands in the first byte's upper three bits, the additional
-- information in its lower five; the argument is that information below 24, else the 1, 2, 4 or 8 bytes that follow. A
-- refusal has a place, counted from the head's first byte: that of `Cut` is where the bytes end, that of the others the
-- head's own, 0.
use Rattle.std.specs.Prelude.{ℕ, ◌+◌, ◌/◌, ◌%◌, ◌^◌, List, [], ◌∷◌, Result, Ok, Err, length, ltb, leb, eqb}
use Rattle.base.specs.Pick.{pick}
use Rattle.base.specs.BigEndian.{big_endian}
use Rattle.refusal.specs.declared.Refusal.{Refusal}
use Rattle.refusal.specs.declared.Refusal.TheVariants as R
use Rattle.refusal.specs.declared.Refused.{Refused}
use Rattle.refusal.specs.Refusal.{refused}
use Rattle.cbor.specs.declared.head.Initial.{Initial}
use Rattle.cbor.specs.declared.head.Head.{Head}

-- what a first byte says, or the refusal
abbrev pub InitialRead : Type 0
InitialRead = Result Initial Refusal

-- what is read of a head: the head, or the refusal with its place
abbrev pub HeadRead : Type 0
HeadRead = Result Head Refused

-- a head of len bytes
abbrev pub a_head : ℕ → ℕ → ℕ → HeadRead
a_head major arg len = Ok (record { major = major; arg = arg; len = len })

-- how many bytes of argument follow the first byte, by additional information below 28
unfoldable pub width_of : ℕ → ℕ
width_of info = pick (ltb info 24) 0 (pick (eqb info 24) 1 (pick (eqb info 25) 2 (pick (eqb info 26) 4 8)))

-- the least argument that needs this many bytes
unfoldable pub least_of : ℕ → ℕ
least_of width =
    pick (eqb width 0) 0 (pick (eqb width 1) 24 (pick (eqb width 2) (2 ^ 8) (pick (eqb width 4) (2 ^ 16) (2 ^ 32))))

-- the first byte by itself: additional information 31 is indefinite, 28 to 30 are reserved
unfoldable pub initial_of : ℕ → InitialRead
initial_of first =
    pick (eqb (first % 32) 31) (Err R.Indefinite)
    (pick (leb 28 (first % 32)) (Err R.Reserved)
    (Ok (record { major = first / 32; width = width_of (first % 32) })))

-- the argument: s is what follows the first byte
unfoldable pub arg_of : ℕ → ℕ → List ℕ → ℕ
arg_of first width s = pick (eqb width 0) (first % 32) (big_endian s width)

-- a whole head: a simple value below 32 in two bytes is reserved, and a head of major types 0 to 6 may not be longer
-- than its argument needs
unfoldable pub judged : ℕ → ℕ → ℕ → HeadRead
judged major arg width =
    pick (eqb major 7)
    (pick (eqb width 1) (pick (ltb arg 32) (refused R.Reserved 0) (a_head major arg (1 + width)))
    (a_head major arg (1 + width)))
    (pick (ltb arg (least_of width)) (refused R.LongHead 0) (a_head major arg (1 + width)))

-- the head with this first byte and so many bytes of argument, with s after the first byte: cut where the bytes
-- end inside it
unfoldable pub head_from : ℕ → ℕ → ℕ → List ℕ → HeadRead
head_from first major width s =
    pick (ltb (length s) width) (refused R.Cut (length s + 1)) (judged major (arg_of first width s) width)

-- the head whose first byte says so much
unfoldable pub head_by : ℕ → List ℕ → InitialRead → HeadRead
head_by first s (Err refusal) = refused refusal 0
head_by first s (Ok begun) = head_from first begun.major begun.width s

-- the head with this first byte, and s after it
unfoldable pub head_of : ℕ → List ℕ → HeadRead
head_of first s = head_by first s (initial_of first)

-- the head at the start of s, or its refusal
unfoldable pub head_at : List ℕ → HeadRead
head_at [] = refused R.Cut 0
head_at (first ∷ s) = head_of first s
