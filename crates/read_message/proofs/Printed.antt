-- The line that the program makes, held against the rules: a message's kind, or the refusal that is due. For readers: each
-- statement at the end stands alone.
-- Assumes nothing.
use Rattle.std.specs.Prelude.{Ok, Err}
use Rattle.reader.specs.Read.{Reading}
use Rattle.refusal.specs.declared.Refusal.{Refusal}
use Rattle.refusal.specs.Refusal.{number_of}
use mathlib.Core.Path.{◌≡◌, refl, sym, ap, ◌∙◌, subst}
use mathlib.Core.Logic.{◌↔◌}
use mathlib.Core.List.{List, [], ◌∷◌, ◌++◌}
use Prim.Native.Nat.{ℕ, ◌+◌, ◌*◌, ◌-◌, ◌≤◌, ◌<◌}
use native.Mathlib.Omega.{arith}
use lib.Dec.{ltb, lit<, lit≤}
use lib.ListN.{length, replicate}
use lib.Seq.{take-take, take-append_seam}
use borrow.Author.Tests.{ltb-true}
use Rattle.base.specs.BigEndian.{Bytes}
use Rattle.base.proofs.Picks.{pick-case, both}
use Rattle.cbor.specs.Tree.{Item}
use Rattle.rfc8990.specs.Accepted.{Accepted}
use Rattle.rfc8990.specs.Refusals.{LedBy, Row}
use Rattle.message.specs.declared.Message.{Message}
use Rattle.message.specs.declared.Message.TheVariants as M
use Rattle.message.specs.Fields.{kind_of}
use Rattle.text.specs.Line.{decimal, numbered, padded, kind_word, kind_line, refused_word, refused_line}
use Rattle.reader.specs.Read.{read_of}
use Rattle.reader.proofs.Exact.{accepted_exactly}
use Rattle.reader.proofs.Refused.{refused_exactly}
use Rattle.reader.proofs.Led.{read_kind}
use Rattle.reader.proofs.ReadParts.{read_number}
use Rattle.read_message.specs.Line.{shown, line_from, line_of}

-- ---- numbers in decimal
-- the number that up to three digits and a line feed say
unfoldable value : List ℕ → ℕ
value [] = 0
value (a ∷ []) = 0
value (a ∷ b ∷ []) = a - 48
value (a ∷ b ∷ c ∷ []) = 10 * (a - 48) + (b - 48)
value (a ∷ b ∷ c ∷ d ∷ rest) = 100 * (a - 48) + 10 * (b - 48) + (c - 48)

numbered_value : (n : ℕ) → n < 1000 → value (numbered n) ≡ n
unfolding numbered decimal value
numbered_value n h =
    pick-case Says (ltb n 10) (λ e. omega (arith, ltb-true n 10 e)) (λ _. pick-case Says (ltb n 100) (λ e. omega (arith, ltb-true n 100 e)) (λ _. omega arith))
  where
    Says : List ℕ → Type 0
    Says l = value (l ++ (10 ∷ [])) ≡ n

-- so no two are said alike
numbered_once : (n k : ℕ) → n < 1000 → k < 1000 → numbered n ≡ numbered k → n ≡ k
numbered_once n k h h' e = sym (numbered_value n h) ∙ ap value e ∙ numbered_value k h'

-- and each in four bytes at most
numbered_short : (n : ℕ) → length (numbered n) ≤ 4
unfolding numbered decimal
numbered_short n = both Short (ltb n 10) (lit≤ tt) (both Short (ltb n 100) (lit≤ tt) (lit≤ tt))
  where
    Short : List ℕ → Type 0
    Short l = length (l ++ (10 ∷ [])) ≤ 4

-- ---- lines
padded_shown : (text : List ℕ) → length text ≤ 12 → shown (padded text) ≡ text
unfolding padded
padded_shown text h = take-take (length text) 12 (text ++ replicate 12 0) h ∙ take-append_seam text (replicate 12 0)

kind_shown : (n : ℕ) → shown (kind_line n) ≡ kind_word ++ numbered n
unfolding kind_line kind_word
kind_shown n = padded_shown (kind_word ++ numbered n) (omega (arith, numbered_short n))

refused_shown : (n : ℕ) → shown (refused_line n) ≡ refused_word ++ numbered n
unfolding refused_line refused_word
refused_shown n = padded_shown (refused_word ++ numbered n) (omega (arith, numbered_short n))

-- after one word the numbers are the same
kind_once : (n k : ℕ) → n < 1000 → k < 1000 → kind_word ++ numbered n ≡ kind_word ++ numbered k → n ≡ k
unfolding kind_word
kind_once n k h h' e = numbered_once n k h h' (cc)

refused_once : (n k : ℕ) → n < 1000 → k < 1000 → refused_word ++ numbered n ≡ refused_word ++ numbered k → n ≡ k
unfolding refused_word
refused_once n k h h' e = numbered_once n k h h' (cc)

-- and the words aren't
words_apart : (a b : List ℕ) → kind_word ++ a ≡ refused_word ++ b → ⊥
unfolding kind_word refused_word
words_apart a b e = let z : ◌≡◌ {A = ℕ} 107 114 = cc in omega arith

-- ---- kinds
kind_small : (m : Message) → kind_of m < 1000
kind_small M.Noop = lit< tt
kind_small (M.Discovery session i o) = lit< tt
kind_small (M.Response session i ttl targets extra) = lit< tt
kind_small (M.RequestNegotiation session o) = lit< tt
kind_small (M.RequestSynchronization session o) = lit< tt
kind_small (M.Negotiate session o) = lit< tt
kind_small (M.End session outcome) = lit< tt
kind_small (M.Wait session time) = lit< tt
kind_small (M.Synch session o) = lit< tt
kind_small (M.Flood session i ttl first pairs) = lit< tt
kind_small (M.Invalid session item) = lit< tt

-- an array is led by one number
led_once : {x : Item} {n k : ℕ} → LedBy n x → LedBy k x → n ≡ k
led_once LedBy.led LedBy.led = refl

module _ (s : List ℕ) (n : ℕ) where
  -- what is shown of a message
  read_shown : (m : Message) → read_of s ≡ Ok m → shown (line_of s) ≡ kind_word ++ numbered (kind_of m)
  unfolding line_of line_from
  read_shown m q = rw q (kind_shown (kind_of m))

  -- and of a refusal
  number_shown : {refusal : Refusal} → read_of s ≡ Err refusal → shown (line_of s) ≡ refused_word ++ numbered (number_of refusal)
  unfolding line_of line_from
  number_shown {refusal} q = rw q (refused_shown (number_of refusal))

-- for readers

-- The line that the program makes is `kind ` and a number below 1,000 in decimal, and a line feed, exactly if the bytes
-- are to be accepted and that number leads the message's array.
pub kind_printed : (s : List ℕ) (n : ℕ) → Bytes s → n < 1000
    → shown (line_of s) ≡ kind_word ++ numbered n ↔ ((a : Accepted s) × LedBy n a.message.one.item)
kind_printed s n b h = (
  to (read_of s) refl,
  λ (a, leads).
      let (m, q) = (accepted_exactly s b).1 a in
      read_shown s n m q ∙ ap (λ (k : ℕ). kind_word ++ numbered k) (led_once (read_kind s m q a) leads),
)
  where
    to : (r : Reading) → read_of s ≡ r → shown (line_of s) ≡ kind_word ++ numbered n → (a : Accepted s) × LedBy n a.message.one.item
    to (Err refusal) q e = absurd (words_apart (numbered n) (numbered (number_of refusal)) (sym e ∙ number_shown s n q))
    to (Ok m) q e =
        let a = (accepted_exactly s b).0 (m, q) in
        let same = kind_once (kind_of m) n (kind_small m) h (sym (read_shown s n m q) ∙ e) in
        (a, subst (λ (k : ℕ). LedBy k a.message.one.item) same (read_kind s m q a))

-- It is `refused ` and such a number exactly if that refusal is due.
pub refused_printed : (s : List ℕ) (n : ℕ) → Bytes s → n < 1000 → shown (line_of s) ≡ refused_word ++ numbered n ↔ Row s n
refused_printed s n b h = (
  to (read_of s) refl,
  λ row.
      let (refusal, q, is) = (refused_exactly s n b).1 row in
      number_shown s n q ∙ ap (λ (k : ℕ). refused_word ++ numbered k) is,
)
  where
    to : (r : Reading) → read_of s ≡ r → shown (line_of s) ≡ refused_word ++ numbered n → Row s n
    to (Err refusal) q e =
        let small : number_of refusal ≤ 11 = read_number s q in
        let same : number_of refusal ≡ n = refused_once (number_of refusal) n (omega arith) h (sym (number_shown s n q) ∙ e) in
        (refused_exactly s n b).0 (refusal, q, same)
    to (Ok m) q e = absurd (words_apart (numbered (kind_of m)) (numbered n) (sym (read_shown s n m q) ∙ e))
