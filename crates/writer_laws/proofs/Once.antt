-- Messages that are encoded alike are the same, where their values are items and the numbers of one of them are small.
-- Assumes nothing.
use mathlib.Core.Path.{◌≡◌, refl, sym, ap, ap₂, ◌∙◌, subst}
use mathlib.Core.List.{List, [], ◌∷◌, ◌++◌, flat_map, append_assoc, append-nil}
use mathlib.Core.Option.{Option, none, some}
use Prim.Native.Nat.{ℕ, ◌+◌, ◌≤◌}
use native.Mathlib.Omega.{arith}
use lib.Dec.{lit<}
use lib.ListN.{length, length-append}
use Rattle.base.specs.Lists.{Every}
use Rattle.cbor.specs.Put.{head}
use Rattle.cbor.specs.Tree.{head_bytes}
use Rattle.rfc8990.specs.Limits.{most_bytes}
use Rattle.rfc8990.specs.Message.{Loc, Obj, Pair, Tgts, Outc, Msg}
use Rattle.rfc8990.specs.Encoding.{number_or_null, reached, fixed, encode_loc, one_more, encode_obj, maybe_obj, how_many, loc_or_empty}
use Rattle.rfc8990.specs.Encoding.{encode_pair, target_items, encode_targets, encode_outc, preamble, exchange, encode_msg}
use Rattle.description.proofs.Items.{more_le}
use Rattle.writer_laws.proofs.Script.{Small, Piece, spell, spells, Like, Valued, array_rest, array_next, number_next, string_next, array_none}
use Rattle.writer_laws.proofs.Script.{none_array, text_number, number_text, turned, perhaps, Each, perhaps_next, value_next}

-- a piece, and then others
piece_spelt : (t : Piece) (ts : List Piece) → spells (t ∷ ts) ≡ spell t ++ spells ts
unfolding spells
piece_spelt t ts = refl

-- ---- lists
module _ {A : Type 0} (one : A → List Piece → List Piece) where
  -- the pieces of each, and then others
  all : List A → List Piece → List Piece
  all [] ts = ts
  all (x ∷ xs) ts = one x (all xs ts)

  -- they spell what is encoded one after the other
  all_spelt : (encode : A → List ℕ) → ((x : A) (ts : List Piece) → spells (one x ts) ≡ encode x ++ spells ts) → (xs : List A) (ts : List Piece)
      → spells (all xs ts) ≡ flat_map encode xs ++ spells ts
  unfolding all flat_map
  all_spelt encode spelt [] ts = refl
  all_spelt encode spelt (x ∷ xs) ts = spelt x (all xs ts) ∙ rw (all_spelt encode spelt xs ts, append_assoc)

-- there are no more than bytes, where each has some
all_few : {A : Type 0} (encode : A → List ℕ) → ((x : A) → 1 ≤ length (encode x)) → (xs : List A) → length xs ≤ length (flat_map encode xs)
unfolding flat_map
all_few encode some_bytes [] = omega arith
all_few encode some_bytes (x ∷ xs) = omega (arith, length-append (encode x) (flat_map encode xs), all_few encode some_bytes xs, some_bytes x)

-- ---- objectives
-- its pieces
abbrev objective : Obj (List ℕ) → List Piece → List Piece
objective o ts = Piece.array (3 + one_more o.value) ∷ Piece.string 3 o.name ∷ Piece.number o.flags ∷ Piece.number o.count
    ∷ Piece.value o.value ∷ ts

-- its numbers are small
abbrev pub SmallObj : Obj (List ℕ) → Type 0
SmallObj o = Small o.flags × Small o.count

-- its value is an item
abbrev pub ValuedObj : Obj (List ℕ) → Type 0
ValuedObj o = Valued o.value

-- its pieces spell it
objective_spelt : (o : Obj (List ℕ)) (ts : List Piece) → spells (objective o ts) ≡ encode_obj o ++ spells ts
unfolding spells spell encode_obj
objective_spelt o ts = simp append_assoc

-- objectives by their parts
abbrev pub objective_of : List ℕ → ℕ → ℕ → List ℕ → Obj (List ℕ)
objective_of name flags count value = record { name = name; flags = flags; count = count; value = value }

pub objective_ext : {n n' v v' : List ℕ} {f f' c c' : ℕ} → n ≡ n' → f ≡ f' → c ≡ c' → v ≡ v' → objective_of n f c v ≡ objective_of n' f' c' v'
objective_ext a b c d = cc

-- an objective passed
objective_next : {o o' : Obj (List ℕ)} {ts ts' : List Piece} → SmallObj o → ValuedObj o → ValuedObj o' → Like (objective o ts) (objective o' ts')
    → (o ≡ o') × Like ts ts'
objective_next {o} {o'} (hf, hc) v v' l =
    let (many, l₁) = array_next (omega (arith, more_le o.value)) l in
    let (name, l₂) = string_next l₁ in
    let (flags, l₃) = number_next hf l₂ in
    let (count, l₄) = number_next hc l₃ in
    let (value, l₅) = value_next v v' (omega arith) l₄ in
    (objective_ext name flags count value, l₅)

-- a value that is the last piece
value_last : {v v' : List ℕ} → Like (Piece.value v ∷ []) (Piece.value v' ∷ []) → v ≡ v'
unfolding spells spell
value_last {v} {v'} l = sym (append-nil v) ∙ l.same ∙ append-nil v'

-- an objective that is the last, whatever its value is
objective_last : {o o' : Obj (List ℕ)} → SmallObj o → Like (objective o []) (objective o' []) → o ≡ o'
objective_last {o} {o'} (hf, hc) l =
    let (name, l₁) = string_next (array_rest l) in
    let (flags, l₂) = number_next hf l₁ in
    let (count, l₃) = number_next hc l₂ in
    objective_ext name flags count (value_last l₃)

-- ---- locators
-- a locator's kind
locator_kind : Loc → ℕ
locator_kind (Loc.v6 a p q) = 103
locator_kind (Loc.v4 a p q) = 104
locator_kind (Loc.domain t p q) = 105
locator_kind (Loc.uri t p q) = 106

-- its pieces after the kind
abbrev located : Loc → List Piece → List Piece
located (Loc.v6 a p q) ts = Piece.string 2 a ∷ Piece.number p ∷ Piece.number q ∷ ts
located (Loc.v4 a p q) ts = Piece.string 2 a ∷ Piece.number p ∷ Piece.number q ∷ ts
located (Loc.domain t p q) ts = Piece.string 3 t ∷ Piece.number p ∷ Piece.number q ∷ ts
located (Loc.uri t p q) ts = Piece.string 3 t ∷ perhaps p ∷ perhaps q ∷ ts

-- all of them
abbrev locator : Loc → List Piece → List Piece
locator l ts = Piece.array 4 ∷ Piece.number (locator_kind l) ∷ located l ts

-- its numbers are small
abbrev pub SmallLoc : Loc → Type 0
SmallLoc (Loc.v6 a p q) = Small p × Small q
SmallLoc (Loc.v4 a p q) = Small p × Small q
SmallLoc (Loc.domain t p q) = Small p × Small q
SmallLoc (Loc.uri t p q) = Each Small p × Each Small q

-- a number or null is spelt
perhaps_spelt : (p : Option ℕ) → spell (perhaps p) ≡ number_or_null p
unfolding spell number_or_null
perhaps_spelt none = refl
perhaps_spelt (some n) = refl

-- its pieces spell it
locator_spelt : (l : Loc) (ts : List Piece) → spells (locator l ts) ≡ encode_loc l ++ spells ts
unfolding spells spell locator_kind encode_loc fixed reached
locator_spelt (Loc.v6 a p q) ts = simp append_assoc
locator_spelt (Loc.v4 a p q) ts = simp append_assoc
locator_spelt (Loc.domain t p q) ts = simp append_assoc
locator_spelt (Loc.uri t p q) ts = rw (perhaps_spelt p, perhaps_spelt q) (simp append_assoc)

-- a locator by its kind
data Locates : ℕ → Loc → Type 0 where
  v6 : {a : List ℕ} {p q : ℕ} → Locates 103 (Loc.v6 a p q)
  v4 : {a : List ℕ} {p q : ℕ} → Locates 104 (Loc.v4 a p q)
  domain : {t : List ℕ} {p q : ℕ} → Locates 105 (Loc.domain t p q)
  uri : {t : List ℕ} {p q : Option ℕ} → Locates 106 (Loc.uri t p q)

-- every locator has its kind
locates : (l : Loc) → Locates (locator_kind l) l
unfolding locator_kind
locates (Loc.v6 a p q) = Locates.v6
locates (Loc.v4 a p q) = Locates.v4
locates (Loc.domain t p q) = Locates.domain
locates (Loc.uri t p q) = Locates.uri

-- 103 to 106
kind_range : (l : Loc) → (103 ≤ locator_kind l) × (locator_kind l ≤ 106)
unfolding locator_kind
kind_range (Loc.v6 a p q) = (omega arith, omega arith)
kind_range (Loc.v4 a p q) = (omega arith, omega arith)
kind_range (Loc.domain t p q) = (omega arith, omega arith)
kind_range (Loc.uri t p q) = (omega arith, omega arith)

-- a string and two numbers
fixed_next : {major : ℕ} {a a' : List ℕ} {p p' q q' : ℕ} {ts ts' : List Piece} → Small p → Small q
    → Like (Piece.string major a ∷ Piece.number p ∷ Piece.number q ∷ ts) (Piece.string major a' ∷ Piece.number p' ∷ Piece.number q' ∷ ts')
    → (a ≡ a') × (p ≡ p') × (q ≡ q') × Like ts ts'
fixed_next hp hq l =
    let (a, l₁) = string_next l in
    let (p, l₂) = number_next hp l₁ in
    let (q, l₃) = number_next hq l₂ in
    (a, p, q, l₃)

-- locators of one kind
located_next : {k : ℕ} {l l' : Loc} {ts ts' : List Piece} → Locates k l → Locates k l' → SmallLoc l → Like (located l ts) (located l' ts')
    → (l ≡ l') × Like ts ts'
located_next Locates.v6 Locates.v6 (hp, hq) l = let (a, p, q, r) = fixed_next hp hq l in (rw (a, p, q), r)
located_next Locates.v4 Locates.v4 (hp, hq) l = let (a, p, q, r) = fixed_next hp hq l in (rw (a, p, q), r)
located_next Locates.domain Locates.domain (hp, hq) l = let (a, p, q, r) = fixed_next hp hq l in (rw (a, p, q), r)
located_next (Locates.uri {p = p} {q = q}) (Locates.uri {p = p'} {q = q'}) (hp, hq) l =
    let (a, l₁) = string_next l in
    let (b, l₂) = perhaps_next {p = p} {p' = p'} hp l₁ in
    let (c, l₃) = perhaps_next {p = q} {p' = q'} hq l₂ in (rw (a, b, c), l₃)

-- a locator passed
locator_next_lem : {l l' : Loc} {ts ts' : List Piece} → SmallLoc l → Like (locator l ts) (locator l' ts') → (l ≡ l') × Like ts ts'
locator_next_lem {l} {l'} h like =
    let (kind, l₁) = number_next (omega (arith, kind_range l)) (array_rest like) in
    located_next (locates l) (subst (λ (k : ℕ). Locates k l') (sym kind) (locates l')) h l₁

-- the pieces of locators
abbrev locators : List Loc → List Piece → List Piece
locators = all locator

-- they spell them
locators_spelt : (ls : List Loc) (ts : List Piece) → spells (locators ls ts) ≡ flat_map encode_loc ls ++ spells ts
locators_spelt = all_spelt locator encode_loc locator_spelt

-- a locator has a byte
locator_bytes : (l : Loc) → 1 ≤ length (encode_loc l)
unfolding encode_loc fixed reached head head_bytes
locator_bytes (Loc.v6 a p q) = simp length-append (omega arith)
locator_bytes (Loc.v4 a p q) = simp length-append (omega arith)
locator_bytes (Loc.domain t p q) = simp length-append (omega arith)
locator_bytes (Loc.uri t p q) = simp length-append (omega arith)

-- so there are no more locators than bytes
locators_few : (ls : List Loc) → length ls ≤ length (flat_map encode_loc ls)
locators_few = all_few encode_loc locator_bytes

-- as many locators passed
locators_next : (ls ls' : List Loc) {ts ts' : List Piece} → length ls ≡ length ls' → Every SmallLoc ls → Like (locators ls ts) (locators ls' ts')
    → (ls ≡ ls') × Like ts ts'
unfolding all
locators_next [] [] e h like = (refl, like)
locators_next [] (x ∷ ls) e h like = absurd (omega arith)
locators_next (x ∷ ls) [] e h like = absurd (omega arith)
locators_next (x ∷ ls) (x' ∷ ls') e (h, hs) like =
    let (same, l₁) = locator_next_lem {l = x} {l' = x'} h like in
    let (rest, l₂) = locators_next ls ls' (omega arith) hs l₁ in
    (ap₂ (λ (l : Loc) (ls : List Loc). l ∷ ls) same rest, l₂)

-- ---- pairs
-- the pieces of a pair's locator or none
abbrev tagged : Option Loc → List Piece → List Piece
tagged none ts = Piece.array 0 ∷ ts
tagged (some l) ts = locator l ts

-- they spell it
tagged_spelt : (t : Option Loc) (ts : List Piece) → spells (tagged t ts) ≡ loc_or_empty t ++ spells ts
unfolding spells spell loc_or_empty
tagged_spelt none ts = refl
tagged_spelt (some l) ts = locator_spelt l ts

-- it is passed
tagged_next : (t t' : Option Loc) {ts ts' : List Piece} → Each SmallLoc t → Like (tagged t ts) (tagged t' ts') → (t ≡ t') × Like ts ts'
tagged_next none none h l = (refl, array_rest l)
tagged_next none (some x) h l = absurd (omega (arith, (array_next (lit< tt) l).0))
tagged_next (some x) none h l = absurd (omega (arith, (array_next (lit< tt) l).0))
tagged_next (some x) (some x') h l = let (same, l₁) = locator_next_lem {l = x} {l' = x'} h l in (ap some same, l₁)

-- a pair's pieces
abbrev pair : Pair (List ℕ) → List Piece → List Piece
pair p ts = Piece.array 2 ∷ objective p.0 (tagged p.1 ts)

-- its numbers are small
abbrev pub SmallPair : Pair (List ℕ) → Type 0
SmallPair p = SmallObj p.0 × Each SmallLoc p.1

-- its value is an item
abbrev pub ValuedPair : Pair (List ℕ) → Type 0
ValuedPair p = ValuedObj p.0

-- its pieces spell it
pair_spelt : (p : Pair (List ℕ)) (ts : List Piece) → spells (pair p ts) ≡ encode_pair p ++ spells ts
unfolding spell encode_pair
pair_spelt p ts = piece_spelt (Piece.array 2) (objective p.0 (tagged p.1 ts))
    ∙ rw (objective_spelt p.0 (tagged p.1 ts), tagged_spelt p.1 ts) (simp append_assoc)

-- pairs by their parts
pair_ext : (p p' : Pair (List ℕ)) → p.0 ≡ p'.0 → p.1 ≡ p'.1 → p ≡ p'
pair_ext p p' a b = ap₂ (λ (o : Obj (List ℕ)) (l : Option Loc). (o, l)) a b

-- a pair passed
pair_next_lem : {p p' : Pair (List ℕ)} {ts ts' : List Piece} → SmallPair p → ValuedPair p → ValuedPair p' → Like (pair p ts) (pair p' ts')
    → (p ≡ p') × Like ts ts'
pair_next_lem {p} {p'} (ho, ht) v v' l =
    let (same, l₁) = objective_next ho v v' (array_rest l) in
    let (tag, l₂) = tagged_next p.1 p'.1 ht l₁ in
    (pair_ext p p' same tag, l₂)

-- the pieces of pairs
abbrev pairs : List (Pair (List ℕ)) → List Piece → List Piece
pairs = all pair

-- pairs up to the end are the same
pairs_once : (ps ps' : List (Pair (List ℕ))) → Every SmallPair ps → Every ValuedPair ps → Every ValuedPair ps' → Like (pairs ps []) (pairs ps' []) → ps ≡ ps'
unfolding all
pairs_once [] [] h v v' l = refl
pairs_once [] (p ∷ ps) h v v' l = absurd (none_array l)
pairs_once (p ∷ ps) [] h v v' l = absurd (array_none l)
pairs_once (p ∷ ps) (p' ∷ ps') (h, hs) (v, vs) (v', vs') l =
    let (same, l₁) = pair_next_lem {p = p} {p' = p'} h v v' l in
    ap₂ (λ (p : Pair (List ℕ)) (ps : List (Pair (List ℕ))). p ∷ ps) same (pairs_once ps ps' hs vs vs' l₁)

-- ---- an objective that may be left out
-- its pieces
abbrev extra : Option (Obj (List ℕ)) → List Piece
extra none = []
extra (some o) = objective o []

-- they spell it
extra_spelt : (o : Option (Obj (List ℕ))) → spells (extra o) ≡ maybe_obj o
unfolding spells maybe_obj
extra_spelt none = refl
extra_spelt (some o) = objective_spelt o [] ∙ append-nil (encode_obj o)

-- so it is the same
extra_once : (o o' : Option (Obj (List ℕ))) → Each SmallObj o → Like (extra o) (extra o') → o ≡ o'
extra_once none none h l = refl
extra_once none (some o) h l = absurd (none_array l)
extra_once (some o) none h l = absurd (array_none l)
extra_once (some o) (some o') h l = ap some (objective_last h l)

-- ---- a Response's locators or divert, and its objective
-- their pieces
targets : Tgts → List Piece → List Piece
targets (Tgts.locators ls) ts = locators ls ts
targets (Tgts.divert ls) ts = Piece.array (1 + length ls) ∷ Piece.number 100 ∷ locators ls ts

-- their numbers are small
abbrev pub SmallTargets : Tgts → Type 0
SmallTargets (Tgts.locators ls) = Every SmallLoc ls
SmallTargets (Tgts.divert ls) = Every SmallLoc ls

-- their pieces spell them
targets_spelt : (x : Tgts) (ts : List Piece) → spells (targets x ts) ≡ encode_targets x ++ spells ts
unfolding spell targets encode_targets
targets_spelt (Tgts.locators ls) ts = locators_spelt ls ts
targets_spelt (Tgts.divert ls) ts =
    piece_spelt (Piece.array (1 + length ls)) (Piece.number 100 ∷ locators ls ts)
    ∙ rw (piece_spelt (Piece.number 100) (locators ls ts), locators_spelt ls ts) (simp append_assoc)

-- locators, and then an objective or none: no objective is a locator
tgts_followed_once : (ls ls' : List Loc) (o o' : Option (Obj (List ℕ))) → Every SmallLoc ls → Each SmallObj o
    → Like (locators ls (extra o)) (locators ls' (extra o')) → (ls ≡ ls') × (o ≡ o')
unfolding all
tgts_followed_once [] [] o o' h ho l = (refl, extra_once o o' ho l)
tgts_followed_once [] (x' ∷ ls') none o' h ho l = absurd (none_array l)
tgts_followed_once [] (x' ∷ ls') (some o) o' h ho l = absurd (text_number (array_rest l))
tgts_followed_once (x ∷ ls) [] o none h ho l = absurd (array_none l)
tgts_followed_once (x ∷ ls) [] o (some o') h ho l = absurd (number_text (array_rest l))
tgts_followed_once (x ∷ ls) (x' ∷ ls') o o' (h, hs) ho l =
    let (same, l₁) = locator_next_lem {l = x} {l' = x'} h l in
    let (rest, obj) = tgts_followed_once ls ls' o o' hs ho l₁ in
    (ap₂ (λ (l : Loc) (ls : List Loc). l ∷ ls) same rest, obj)

-- locators are no divert, whose lead is no locator's
mixed : (ls ls' : List Loc) (o o' : Option (Obj (List ℕ))) → Like (targets (Tgts.locators ls) (extra o)) (targets (Tgts.divert ls') (extra o')) → ⊥
unfolding targets all
mixed [] ls' none o' l = none_array l
mixed [] ls' (some o) o' l = text_number (array_rest l)
mixed (x ∷ ls) ls' o o' l = omega (arith, kind_range x, (number_next (omega (arith, kind_range x)) (array_rest l)).0)

-- so many locators as have bytes
divert_few : (ls : List Loc) → length ls ≤ length (encode_targets (Tgts.divert ls))
unfolding encode_targets
divert_few ls = omega (arith, length-append (head 4 (1 + length ls) ++ head 0 100) (flat_map encode_loc ls), locators_few ls)

-- in a message they are few
many_small : (ls : List Loc) {us : List Piece} (ts : List Piece) → Like (targets (Tgts.divert ls) ts) us → Small (1 + length ls)
many_small ls ts l =
    omega (arith, l.few, ap length (targets_spelt (Tgts.divert ls) ts), length-append (encode_targets (Tgts.divert ls)) (spells ts), divert_few ls)

-- so they are the same
targets_once : (x x' : Tgts) (o o' : Option (Obj (List ℕ))) → SmallTargets x → Each SmallObj o → Like (targets x (extra o)) (targets x' (extra o'))
    → (x ≡ x') × (o ≡ o')
unfolding targets
targets_once (Tgts.locators ls) (Tgts.locators ls') o o' h ho l =
    let (same, obj) = tgts_followed_once ls ls' o o' h ho l in
    (ap Tgts.locators same, obj)
targets_once (Tgts.locators ls) (Tgts.divert ls') o o' h ho l = absurd (mixed ls ls' o o' l)
targets_once (Tgts.divert ls) (Tgts.locators ls') o o' h ho l = absurd (mixed ls' ls o' o (turned l))
targets_once (Tgts.divert ls) (Tgts.divert ls') o o' h ho l =
    let (many, l₁) = array_next (many_small ls (extra o) l) l in
    let (_, l₂) = number_next (lit< tt) l₁ in
    let (same, l₃) = locators_next ls ls' (omega arith) h l₂ in
    (ap Tgts.divert same, extra_once o o' ho l₃)

-- ---- how a negotiation ends
-- its pieces
abbrev ended : Outc → List Piece
ended Outc.accept = Piece.array 1 ∷ Piece.number 101 ∷ []
ended Outc.decline = Piece.array 1 ∷ Piece.number 102 ∷ []
ended (Outc.reason t) = Piece.array 2 ∷ Piece.number 102 ∷ Piece.string 3 t ∷ []

-- they spell it
ended_spelt : (e : Outc) → spells (ended e) ≡ encode_outc e
unfolding spells spell encode_outc
ended_spelt Outc.accept = simp append-nil
ended_spelt Outc.decline = simp append-nil
ended_spelt (Outc.reason t) = simp (append_assoc, append-nil)

-- the number of items and the option's number
ended_heads : {n n' k k' : ℕ} {ts ts' : List Piece} → Small n → Small k → Like (Piece.array n ∷ Piece.number k ∷ ts) (Piece.array n' ∷ Piece.number k' ∷ ts')
    → (n ≡ n') × (k ≡ k') × Like ts ts'
ended_heads hn hk l =
    let (n, l₁) = array_next hn l in
    let (k, l₂) = number_next hk l₁ in
    (n, k, l₂)

-- so it is the same
outc_once : (e e' : Outc) → Like (ended e) (ended e') → e ≡ e'
outc_once Outc.accept Outc.accept l = refl
outc_once Outc.accept Outc.decline l = absurd (omega (arith, (ended_heads (lit< tt) (lit< tt) l).1))
outc_once Outc.accept (Outc.reason t) l = absurd (omega (arith, (ended_heads (lit< tt) (lit< tt) l).1))
outc_once Outc.decline Outc.accept l = absurd (omega (arith, (ended_heads (lit< tt) (lit< tt) l).1))
outc_once Outc.decline Outc.decline l = refl
outc_once Outc.decline (Outc.reason t) l = absurd (omega (arith, (ended_heads (lit< tt) (lit< tt) l).0))
outc_once (Outc.reason t) Outc.accept l = absurd (omega (arith, (ended_heads (lit< tt) (lit< tt) l).1))
outc_once (Outc.reason t) Outc.decline l = absurd (omega (arith, (ended_heads (lit< tt) (lit< tt) l).0))
outc_once (Outc.reason t) (Outc.reason t') l = ap Outc.reason (string_next (ended_heads (lit< tt) (lit< tt) l).2).0

-- ---- messages
-- how many items a message's array has
items_of : Msg (List ℕ) → ℕ
items_of Msg.noop = 1
items_of (Msg.discovery s i o) = 4
items_of (Msg.response s i t x o) = 4 + (target_items x + how_many o)
items_of (Msg.request_negotiation s o) = 3
items_of (Msg.request_synchronization s o) = 3
items_of (Msg.negotiate s o) = 3
items_of (Msg.end s e) = 3
items_of (Msg.wait s t) = 3
items_of (Msg.synch s o) = 3
items_of (Msg.flood s i t ps) = 4 + length ps
items_of (Msg.invalid s v) = 2 + one_more v

-- its kind's number
kind_of : Msg (List ℕ) → ℕ
kind_of Msg.noop = 0
kind_of (Msg.discovery s i o) = 1
kind_of (Msg.response s i t x o) = 2
kind_of (Msg.request_negotiation s o) = 3
kind_of (Msg.request_synchronization s o) = 4
kind_of (Msg.negotiate s o) = 5
kind_of (Msg.end s e) = 6
kind_of (Msg.wait s t) = 7
kind_of (Msg.synch s o) = 8
kind_of (Msg.flood s i t ps) = 9
kind_of (Msg.invalid s v) = 99

-- a session and an objective
abbrev exchanged : ℕ → Obj (List ℕ) → List Piece
exchanged s o = Piece.number s ∷ objective o []

-- the pieces after the kind
rest : Msg (List ℕ) → List Piece
rest Msg.noop = []
rest (Msg.discovery s i o) = Piece.number s ∷ Piece.string 2 i ∷ objective o []
rest (Msg.response s i t x o) = Piece.number s ∷ Piece.string 2 i ∷ Piece.number t ∷ targets x (extra o)
rest (Msg.request_negotiation s o) = exchanged s o
rest (Msg.request_synchronization s o) = exchanged s o
rest (Msg.negotiate s o) = exchanged s o
rest (Msg.end s e) = Piece.number s ∷ ended e
rest (Msg.wait s t) = Piece.number s ∷ Piece.number t ∷ []
rest (Msg.synch s o) = exchanged s o
rest (Msg.flood s i t ps) = Piece.number s ∷ Piece.string 2 i ∷ Piece.number t ∷ pairs ps []
rest (Msg.invalid s v) = Piece.number s ∷ Piece.value v ∷ []

-- all its pieces
abbrev pieces : Msg (List ℕ) → List Piece
pieces m = Piece.array (items_of m) ∷ Piece.number (kind_of m) ∷ rest m

-- those of a session and an objective spell them
exchange_spelt : (k s : ℕ) (o : Obj (List ℕ)) → spells (Piece.array 3 ∷ Piece.number k ∷ exchanged s o) ≡ exchange k s o
unfolding spells spell exchange preamble encode_obj
exchange_spelt k s o = simp (append_assoc, append-nil)

-- the pieces of a message spell it
pieces_spelt : (m : Msg (List ℕ)) → spells (pieces m) ≡ encode_msg m
unfolding spells spell items_of kind_of rest encode_msg preamble encode_obj
pieces_spelt Msg.noop = simp append-nil
pieces_spelt (Msg.discovery s i o) = simp (append_assoc, append-nil)
pieces_spelt (Msg.response s i t x o) = rw (targets_spelt x (extra o), extra_spelt o) (simp append_assoc)
pieces_spelt (Msg.request_negotiation s o) = exchange_spelt 3 s o
pieces_spelt (Msg.request_synchronization s o) = exchange_spelt 4 s o
pieces_spelt (Msg.negotiate s o) = exchange_spelt 5 s o
pieces_spelt (Msg.end s e) = rw (ended_spelt e) (simp append_assoc)
pieces_spelt (Msg.wait s t) = simp (append_assoc, append-nil)
pieces_spelt (Msg.synch s o) = exchange_spelt 8 s o
pieces_spelt (Msg.flood s i t ps) = rw (all_spelt pair encode_pair pair_spelt ps []) (simp (append_assoc, append-nil))
pieces_spelt (Msg.invalid s v) = simp (append_assoc, append-nil)

-- a message by its kind
data Told : ℕ → Msg (List ℕ) → Type 0 where
  noop : Told 0 Msg.noop
  discovery : {s : ℕ} {i : List ℕ} {o : Obj (List ℕ)} → Told 1 (Msg.discovery s i o)
  response : {s t : ℕ} {i : List ℕ} {x : Tgts} {o : Option (Obj (List ℕ))} → Told 2 (Msg.response s i t x o)
  request_negotiation : {s : ℕ} {o : Obj (List ℕ)} → Told 3 (Msg.request_negotiation s o)
  request_synchronization : {s : ℕ} {o : Obj (List ℕ)} → Told 4 (Msg.request_synchronization s o)
  negotiate : {s : ℕ} {o : Obj (List ℕ)} → Told 5 (Msg.negotiate s o)
  end : {s : ℕ} {e : Outc} → Told 6 (Msg.end s e)
  wait : {s t : ℕ} → Told 7 (Msg.wait s t)
  synch : {s : ℕ} {o : Obj (List ℕ)} → Told 8 (Msg.synch s o)
  flood : {s t : ℕ} {i : List ℕ} {ps : List (Pair (List ℕ))} → Told 9 (Msg.flood s i t ps)
  invalid : {s : ℕ} {v : List ℕ} → Told 99 (Msg.invalid s v)

-- every message has its kind, and its number is small
told : (m : Msg (List ℕ)) → Told (kind_of m) m × Small (kind_of m)
unfolding kind_of
told Msg.noop = (Told.noop, lit< tt)
told (Msg.discovery s i o) = (Told.discovery, lit< tt)
told (Msg.response s i t x o) = (Told.response, lit< tt)
told (Msg.request_negotiation s o) = (Told.request_negotiation, lit< tt)
told (Msg.request_synchronization s o) = (Told.request_synchronization, lit< tt)
told (Msg.negotiate s o) = (Told.negotiate, lit< tt)
told (Msg.end s e) = (Told.end, lit< tt)
told (Msg.wait s t) = (Told.wait, lit< tt)
told (Msg.synch s o) = (Told.synch, lit< tt)
told (Msg.flood s i t ps) = (Told.flood, lit< tt)
told (Msg.invalid s v) = (Told.invalid, lit< tt)

-- its numbers are small
abbrev pub SmallMsg : Msg (List ℕ) → Type 0
SmallMsg Msg.noop = Unit {0}
SmallMsg (Msg.discovery s i o) = Small s × SmallObj o
SmallMsg (Msg.response s i t x o) = Small s × Small t × SmallTargets x × Each SmallObj o
SmallMsg (Msg.request_negotiation s o) = Small s × SmallObj o
SmallMsg (Msg.request_synchronization s o) = Small s × SmallObj o
SmallMsg (Msg.negotiate s o) = Small s × SmallObj o
SmallMsg (Msg.end s e) = Small s
SmallMsg (Msg.wait s t) = Small s × Small t
SmallMsg (Msg.synch s o) = Small s × SmallObj o
SmallMsg (Msg.flood s i t ps) = Small s × Small t × Every SmallPair ps
SmallMsg (Msg.invalid s v) = Small s

-- its values are items
abbrev pub ValuedMsg : Msg (List ℕ) → Type 0
ValuedMsg Msg.noop = Unit {0}
ValuedMsg (Msg.discovery s i o) = ValuedObj o
ValuedMsg (Msg.response s i t x o) = Each ValuedObj o
ValuedMsg (Msg.request_negotiation s o) = ValuedObj o
ValuedMsg (Msg.request_synchronization s o) = ValuedObj o
ValuedMsg (Msg.negotiate s o) = ValuedObj o
ValuedMsg (Msg.end s e) = Unit {0}
ValuedMsg (Msg.wait s t) = Unit {0}
ValuedMsg (Msg.synch s o) = ValuedObj o
ValuedMsg (Msg.flood s i t ps) = Every ValuedPair ps
ValuedMsg (Msg.invalid s v) = Valued v

-- a session and an objective are the same
exchange_once : {s s' : ℕ} {o o' : Obj (List ℕ)} → Small s → SmallObj o → Like (exchanged s o) (exchanged s' o') → (s ≡ s') × (o ≡ o')
exchange_once hs ho l =
    let (s, l₁) = number_next hs l in
    (s, objective_last ho l₁)

-- what follows the kind
rest_once : {k : ℕ} {a b : Msg (List ℕ)} → Told k a → Told k b → SmallMsg a → ValuedMsg a → ValuedMsg b → Like (rest a) (rest b) → a ≡ b
unfolding rest
rest_once Told.noop Told.noop h v v' l = refl
rest_once Told.discovery Told.discovery (hs, ho) v v' l =
    let (s, l₁) = number_next hs l in
    let (i, l₂) = string_next l₁ in
    rw (s, i, objective_last ho l₂)
rest_once (Told.response {x = x} {o}) (Told.response {x = x'} {o = o'}) (hs, ht, hx, ho) v v' l =
    let (s, l₁) = number_next hs l in
    let (i, l₂) = string_next l₁ in
    let (t, l₃) = number_next ht l₂ in
    let (same, obj) = targets_once x x' o o' hx ho l₃ in
    rw (s, i, t, same, obj)
rest_once Told.request_negotiation Told.request_negotiation (hs, ho) v v' l = let (s, o) = exchange_once hs ho l in ap₂ Msg.request_negotiation s o
rest_once Told.request_synchronization Told.request_synchronization (hs, ho) v v' l = let (s, o) = exchange_once hs ho l in ap₂ Msg.request_synchronization s o
rest_once Told.negotiate Told.negotiate (hs, ho) v v' l = let (s, o) = exchange_once hs ho l in ap₂ Msg.negotiate s o
rest_once (Told.end {e = x}) (Told.end {e = x'}) h v v' l =
    let (s, l₁) = number_next h l in
    ap₂ Msg.end s (outc_once x x' l₁)
rest_once Told.wait Told.wait (hs, ht) v v' l =
    let (s, l₁) = number_next hs l in
    ap₂ Msg.wait s (number_next ht l₁).0
rest_once Told.synch Told.synch (hs, ho) v v' l = let (s, o) = exchange_once hs ho l in ap₂ Msg.synch s o
rest_once (Told.flood {ps = ps}) (Told.flood {ps = ps'}) (hs, ht, hp) v v' l =
    let (s, l₁) = number_next hs l in
    let (i, l₂) = string_next l₁ in
    let (t, l₃) = number_next ht l₂ in
    rw (s, i, t, pairs_once ps ps' hp v v' l₃)
rest_once Told.invalid Told.invalid h v v' l =
    let (s, l₁) = number_next h l in
    ap₂ Msg.invalid s (value_last l₁)

-- Two messages with the same encoding are the same.
pub message_once : {a b : Msg (List ℕ)} → SmallMsg a → ValuedMsg a → ValuedMsg b → length (encode_msg a) ≤ most_bytes → encode_msg a ≡ encode_msg b → a ≡ b
message_once {a} {b} h v v' few e =
    let l : Like (pieces a) (pieces b) = record { same = pieces_spelt a ∙ e ∙ sym (pieces_spelt b); few = rw (pieces_spelt a) few } in
    let (kind, l₁) = number_next (told a).1 (array_rest l) in
    rest_once (told a).0 (subst (λ (n : ℕ). Told n b) (sym kind) (told b).0) h v v' l₁
