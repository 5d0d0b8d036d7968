-- What holds of each element of a list, and of each two of them.
use Rattle.std.specs.Prelude.{◌≢◌, List, [], ◌∷◌, ℕ}

-- P holds of each element
abbrev pub Every : {A : Type 0} → (A → Type 0) → List A → Type 0
Every P [] = Unit {0}
Every P (x ∷ xs) = P x × Every P xs

-- of each two, in their order
abbrev pub EachPair : {A : Type 0} → (A → A → Type 0) → List A → Type 0
EachPair R [] = Unit {0}
EachPair R (x ∷ xs) = Every (R x) xs × EachPair R xs

-- no two numbers are the same
abbrev pub Distinct : List ℕ → Type 0
Distinct l = EachPair (λ x y. x ≢ y) l
