-- The first whole item at the start of some bytes. The heads are read from left to right. A stack has, for each array,
-- map and tag that is open, how many items it still lacks, the innermost first; under them all stands the one item that
-- is looked for.
use Rattle.std.specs.Prelude.{ℕ, zero, suc, ◌+◌, ◌-◌, ◌*◌, List, [], ◌∷◌, Bool, true, false}
use Rattle.std.specs.Prelude.{Result, Ok, Err, length, drop, leb, eqb}
use Rattle.base.specs.Pick.{pick}
use Rattle.refusal.specs.declared.Refusal.{Refusal}
use Rattle.refusal.specs.declared.Refusal.TheVariants as R
use Rattle.refusal.specs.declared.Refused.{Refused}
use Rattle.refusal.specs.Refusal.{refused}
use Rattle.cbor.specs.declared.item.Step.{Step}
use Rattle.cbor.specs.declared.item.Step.TheVariants.{Passed, Opened}
use Rattle.cbor.specs.Head.{HeadRead, head_at}

-- what is read of a head with its string: a step, or the refusal with its place
abbrev pub StepRead : Type 0
StepRead = Result Step Refused

-- what is read of an item: where it ends, or the refusal with its place
abbrev pub ItemRead : Type 0
ItemRead = Result ℕ Refused

-- house limit (rules 2.3): how many levels of arrays, maps and tags an item has at most
abbrev pub most_levels : ℕ
most_levels = 8

-- how many levels may open under so many
abbrev pub left_under : ℕ → ℕ
left_under levels = most_levels - levels

-- the head of an array, a map or a tag: what it opens
unfoldable pub opens : ℕ → ℕ → ℕ → Step
opens major arg len =
    pick (eqb major 4) (Opened len arg false) (pick (eqb major 5) (Opened len arg true) (Opened len 1 false))

-- a head where so many levels may open, with so many bytes from its first one on: too deep where none may, cut
-- for a string whose bytes end early
unfoldable pub step_of : ℕ → ℕ → ℕ → ℕ → ℕ → StepRead
step_of left room major arg len =
    pick (eqb major 7) (Ok (Passed len))
    (pick (leb 4 major) (pick (eqb left 0) (refused R.TooDeep 0) (Ok (opens major arg len)))
    (pick (leb 2 major) (pick (leb arg (room - len)) (Ok (Passed (len + arg))) (refused R.Cut room))
    (Ok (Passed len))))

-- the step that a head is, once it is read
unfoldable pub step_from : ℕ → ℕ → HeadRead → StepRead
step_from left room (Err why) = Err why
step_from left room (Ok head) = step_of left room head.major head.arg head.len

-- the head at the start of s
unfoldable pub step_at : ℕ → List ℕ → StepRead
step_at left s = step_from left (length s) (head_at s)

-- n items, or n pairs of items
unfoldable pub items_of : ℕ → Bool → ℕ
items_of n pairs = pick pairs (2 * n) n

-- where the walk goes on, at a position and with the bytes from there
unfoldable pub next : (ℕ → List ℕ → List ℕ → ItemRead) → ℕ → List ℕ → List ℕ → StepRead → ItemRead
next go at s stack (Err why) = refused why.refusal (at + why.place)
next go at s stack (Ok (Passed len)) = go (at + len) (drop len s) stack
next go at s stack (Ok (Opened len n pairs)) = go (at + len) (drop len s) (items_of n pairs ∷ stack)

-- The walk, in so many turns at most; a refusal that no head has stands for turns that run out (`refused_numbers` of
-- proofs/ItemLaws: they never do).
unfoldable pub run : ℕ → ℕ → ℕ → List ℕ → List ℕ → ItemRead
run most zero at s stack = refused R.NotAllowed 0
run most (suc turns) at s [] = Ok at
run most (suc turns) at s (zero ∷ stack) = run most turns at s stack
run most (suc turns) at s (suc n ∷ stack) = next (run most turns) at s (n ∷ stack) (step_at (most - length stack) s)

-- a turn passes a byte, and may open a level, or closes a level: so many turns are enough
unfoldable pub enough : List ℕ → List ℕ → ℕ
enough s stack = suc (2 * length s + length stack)

-- the first whole item at the start of s, under so many open levels: where it ends, or its refusal
unfoldable pub first_item : ℕ → List ℕ → ItemRead
first_item levels s = run (left_under levels) (enough s (1 ∷ [])) 0 s (1 ∷ [])

-- So many bytes, by their first item: the answer to its refusal, to bytes that follow the item, or the one that is due
-- where it fills them.
abbrev pub framed_by : {A : Type 0} → (Refusal → ℕ → A) → A → ℕ → ItemRead → A
framed_by answer due size (Err why) = answer why.refusal why.place
framed_by answer due size (Ok end) = pick (eqb end size) due (answer R.BytesAfter end)
