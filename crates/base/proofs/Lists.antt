-- What holds of each element of a list, and of each two of them.
-- Assumes nothing.
use mathlib.Core.Path.{refl, sym, subst}
use mathlib.Core.Logic.{◌↔◌}
use mathlib.Core.List.{List, [], ◌∷◌, ◌++◌, Memᴰ, Sublistᴰ}
use Rattle.base.specs.Lists.{Every, EachPair}

-- of two lists, one after the other
pub every_append : {A : Type 0} (P : A → Type 0) (xs ys : List A) → Every P (xs ++ ys) ↔ Every P xs × Every P ys
every_append P [] ys = (λ h. (tt, h), λ h. h.1)
every_append P (x ∷ xs) ys =
    let (there, back) = every_append P xs ys in
    (λ h. ((h.0, (there h.1).0), (there h.1).1), λ h. (h.0.0, back (h.0.1, h.1)))

-- of one of them
pub every_at : {A : Type 0} (P : A → Type 0) {x : A} {l : List A} → Every P l → Memᴰ x l → P x
every_at P {l = []} h m = elim m [ ]
every_at P {l = y ∷ ys} h (Memᴰ.head e) = subst P (sym e) h.0
every_at P {l = y ∷ ys} h (Memᴰ.tail m) = every_at P {l = ys} h.1 m

-- of each one of them
pub every_of : {A : Type 0} (P : A → Type 0) (l : List A) → ((x : A) → Memᴰ x l → P x) → Every P l
every_of P [] h = tt
every_of P (x ∷ xs) h = (h x (Memᴰ.head refl), every_of P xs (λ y m. h y (Memᴰ.tail m)))

-- of two things that hold
pub every_and : {A : Type 0} (P Q : A → Type 0) (l : List A) → Every P l → Every Q l → Every (λ x. P x × Q x) l
every_and P Q [] h k = tt
every_and P Q (x ∷ xs) h k = ((h.0, k.0), every_and P Q xs h.1 k.1)

-- and what follows from it
pub every_imp : {A : Type 0} (P Q : A → Type 0) → ((x : A) → P x → Q x) → (l : List A) → Every P l → Every Q l
every_imp P Q f [] h = tt
every_imp P Q f (x ∷ xs) h = (f x h.0, every_imp P Q f xs h.1)

-- of those that are chosen
pub every_chosen : {A : Type 0} (P : A → Type 0) {l m : List A} → Sublistᴰ l m → Every P m → Every P l
every_chosen P Sublistᴰ.slnil h = tt
every_chosen P (Sublistᴰ.cons s) h = every_chosen P s h.1
every_chosen P (Sublistᴰ.cons-cons e s) h = (subst P (sym e) h.0, every_chosen P s h.1)

-- and of each two of them
pub pairs_chosen : {A : Type 0} (R : A → A → Type 0) {l m : List A} → Sublistᴰ l m → EachPair R m → EachPair R l
pairs_chosen R Sublistᴰ.slnil h = tt
pairs_chosen R (Sublistᴰ.cons s) h = pairs_chosen R s h.1
pairs_chosen {A} R (Sublistᴰ.cons-cons {l₁ = l₁} e s) h =
    (subst (λ (z : A). Every (R z) l₁) (sym e) (every_chosen (R _) s h.0), pairs_chosen R s h.1)
