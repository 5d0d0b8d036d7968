-- The choice by a test. It isn't the library's `cond`, which unfolds by itself: of `pick` a proof goes by the test's
-- two cases without naming the test.
use Rattle.std.specs.Prelude.{Bool, true, false}

-- x where the test holds, else y
unfoldable pub pick {ℓ} : {A : Type ℓ} → Bool → A → A → A
pick true x y = x
pick false x y = y

-- `else` where the test fails, so that a chain of tests reads from top to bottom
abbrev pub unless : {A : Type 0} → Bool → A → A → A
unless test else rest = pick test rest else
