-- What a host does in C with a message that it read and writes again: it gathers the rows of the message's list by the
-- loops of `include/grasp.h`, and gets the message's own bytes.
use Rattle.std.specs.Prelude.{ℕ, zero, suc, List, [], ◌++◌, ◌≡◌, length, drop, get_or, set, eqb}
use Rattle.base.specs.Pick.{pick}
use Rattle.grasp.specs.Reading.{locator_end, locator_after, pair_end, pair_after}
use Rattle.grasp.specs.Writing.{write_number, write_bytes, write_length}

-- the blocks of n locators from a place on, one after the other; each is read into the one block that the host has for
-- them, whatever it holds at first
unfoldable pub locator_rows : List ℕ → ℕ → ℕ → List ℕ → List ℕ
locator_rows s zero at block = []
locator_rows s (suc n) at block =
    locator_after s at block ++ locator_rows s n (locator_end s at) (locator_after s at block)

-- and of n pairs, each with 0 for the place of its count's head (4)
unfoldable pub pair_rows : List ℕ → ℕ → ℕ → List ℕ → List ℕ
pair_rows s zero at block = []
pair_rows s (suc n) at block = set (pair_after s at block) 4 0 ++ pair_rows s n (pair_end s at) (pair_after s at block)

-- the rows of the message whose block is f: pairs (13 is 3) or locators, as many as 15 says, from 14 on; or no list
unfoldable pub rows_gathered : List ℕ → List ℕ → List ℕ → List ℕ → List ℕ
rows_gathered s f locator pair =
    pick (eqb (get_or f 13 0) 0) []
    (pick (eqb (get_or f 13 0) 3) (pair_rows s (get_or f 15 0) (get_or f 14 0) pair)
    (locator_rows s (get_or f 15 0) (get_or f 14 0) locator))

-- `grasp_write` answers 0, stores the length of s, and puts s at the front of the output, whose other bytes stay
pub record WritesAgain (s list fields out : List ℕ) (before : ℕ) : Type 0 where
  pub answers : write_number s list fields out ≡ 0
  pub stores : write_length s list fields out before ≡ length s
  pub puts : write_bytes s list fields out ≡ s ++ drop (length s) out
