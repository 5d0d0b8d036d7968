-- What two answers that are one have.
-- Assumes nothing.
use mathlib.Core.Path.{◌≡◌, ap}
use Prim.Native.Nat.{ℕ}
use Rattle.options.specs.Text.{Noted}
use Rattle.std.specs.Prelude.{Result, Ok}
use Rattle.options.specs.declared.Departure.{Departure}
use Rattle.options.specs.declared.Part.{Part}
use Rattle.options.specs.declared.objective.Objective.{Objective}
use Rattle.options.specs.Pair.{PairTag}
use Rattle.options.specs.declared.pair.Pair.{Pair}
use Rattle.options.specs.Part.{part}
use Rattle.options.specs.Pair.{paired}

-- the same is read
pub read_same : {A : Type 0} {x y : A} → ◌≡◌ {A = Result A Departure} (Ok x) (Ok y) → x ≡ y
read_same e = cc

-- a part, its size, its bad text and its long name
pub part_same : {A : Type 0} {v v' : A} {size size' : ℕ} {bad bad' long long' : Noted} → part v size bad long ≡ part v' size' bad' long'
    → (v ≡ v') × (size ≡ size') × (bad ≡ bad') × (long ≡ long')
part_same {A} e =
    let same = read_same e in (
      ap (λ (p : Part A). p.value) same,
      ap (λ (p : Part A). p.size) same,
      ap (λ (p : Part A). p.bad) same,
      ap (λ (p : Part A). p.long) same,
    )

-- a pair's objective and its tag too
pub paired_same : {o o' : Objective} {t t' : PairTag} {size size' : ℕ} {bad bad' long long' : Noted} → paired o t size bad long ≡ paired o' t' size' bad' long'
    → (o ≡ o') × (t ≡ t') × (size ≡ size') × (bad ≡ bad') × (long ≡ long')
paired_same e =
    let (v, size, bad, long) = part_same e in
    (ap (λ (p : Pair). p.objective) v, ap (λ (p : Pair). p.tag) v, size, bad, long)
