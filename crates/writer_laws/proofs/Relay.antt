-- Relaying: a Discovery or a Flood that was read, with the head of its count replaced by the shortest of one less, is
-- read as the same message with that count one lower; it isn't longer, and it is what the writer writes for that
-- message. For readers: each statement at the end stands alone.
-- Assumes nothing.
use Rattle.std.specs.Prelude.{Ok}
use mathlib.Core.Path.{◌≡◌, refl, sym, ap, ◌∙◌, subst}
use mathlib.Core.List.{List, [], ◌∷◌, ◌++◌, flat_map, append_assoc}
use Prim.Native.Nat.{ℕ, ◌+◌, ◌-◌, ◌≤◌}
use native.Mathlib.Omega.{arith}
use lib.Dec.{lit<}
use lib.ListN.{length, take, drop, length-append, length-drop, take-append-drop}
use lib.Seq.{length-take-le, take_at, drop-append-add, drop_at, drop-drop}
use Rattle.cbor.specs.Put.{head}
use Rattle.cbor.specs.Tree.{Item, shortest, head_bytes, encode, Good}
use Rattle.cbor.proofs.HeadExact.{shortest_right}
use Rattle.options.specs.declared.objective.Objective.{Objective}
use Rattle.options.proofs.Fits.{ObjectiveParts}
use Rattle.rfc8990.specs.Message.{Msg}
use Rattle.rfc8990.specs.Cddl.{Value}
use Rattle.rfc8990.specs.Limits.{TextsGood, NamesGood, texts_of, names_of, pair_texts}
use Rattle.message.specs.declared.Message.{Message}
use Rattle.rfc8990.specs.Limits.{most_bytes}
use Rattle.message.specs.Examined.{examined}
use Rattle.reader.specs.Read.{read_of}
use Rattle.reader.proofs.ReadParts.{read_parts}
use Rattle.rfc8990.specs.Accepted.{Accepted}
use Rattle.reader.proofs.Exact.{accepted_described}
use Rattle.rfc8990.specs.Encoding.{encode_msg}
use Rattle.writer.specs.Write.{lowered}
use Rattle.writer_laws.specs.Plain.{plain}
use Rattle.writer.specs.Lower.{with_count, lower_obj, lower_msg, Lowers, onward, Relays}
use Rattle.reader.proofs.Answers.{read_whole, read_examined}
use Rattle.writer_laws.proofs.Recounted.{CountAt}
use Rattle.writer_laws.proofs.Lowered.{MessageRecounted, message_recounted}
use Rattle.writer.proofs.Onward.{lowers_parts, shorter, lowered_shorter}
use Rattle.writer_laws.proofs.Read.{read_encoded}
use Rattle.writer_laws.proofs.Counts.{Hole, hole}

-- ---- texts and names
-- a lowered message has the same texts and names
texts_stay : (msg : Msg Value) → (texts_of (lower_msg msg) ≡ texts_of msg) × (names_of (lower_msg msg) ≡ names_of msg)
unfolding texts_of names_of lower_msg lower_obj with_count flat_map pair_texts
texts_stay Msg.noop = (refl, refl)
texts_stay (Msg.discovery s i o) = (refl, refl)
texts_stay (Msg.response s i t tgts o) = (refl, refl)
texts_stay (Msg.request_negotiation s o) = (refl, refl)
texts_stay (Msg.request_synchronization s o) = (refl, refl)
texts_stay (Msg.negotiate s o) = (refl, refl)
texts_stay (Msg.end s e) = (refl, refl)
texts_stay (Msg.wait s t) = (refl, refl)
texts_stay (Msg.synch s o) = (refl, refl)
texts_stay (Msg.flood s i t []) = (refl, refl)
texts_stay (Msg.flood s i t (p ∷ ps)) = (refl, refl)
texts_stay (Msg.invalid s item) = (refl, refl)

-- ---- the head replaced
-- the bytes before the count, and its head,
abbrev before : List ℕ → Objective → List ℕ
before s o = take o.count_at s

abbrev between : List ℕ → Objective → List ℕ
between s o = take (o.value.at - o.count_at) (drop o.count_at s)

module _ (s : List ℕ) (o : Objective) (h : ObjectiveParts (length s) o) where
  -- are the message with what follows,
  spelt_whole : before s o ++ (between s o ++ drop o.value.at s) ≡ s
  spelt_whole =
      let sum : o.count_at + (o.value.at - o.count_at) ≡ o.value.at = omega (arith, h.some) in
      let rest : drop (o.value.at - o.count_at) (drop o.count_at s) ≡ drop o.value.at s =
      rw sum at (drop-drop (o.value.at - o.count_at) o.count_at s) in
      ap (λ (x : List ℕ). before s o ++ (between s o ++ x)) (sym rest)
      ∙ ap (λ (x : List ℕ). before s o ++ x) (take-append-drop (o.value.at - o.count_at) (drop o.count_at s)) ∙ take-append-drop o.count_at s

  -- and stand where the objective says
  count_at : CountAt (before s o) (between s o) 0 o
  count_at =
      let front : length (before s o) ≡ o.count_at = length-take-le o.count_at s (omega (arith, h.some, h.counted)) in
      let head : length (between s o) ≡ o.value.at - o.count_at =
      length-take-le (o.value.at - o.count_at) (drop o.count_at s) (omega (arith, h.counted, length-drop o.count_at s)) in
      record { from = omega arith; end = omega (arith, h.some) }

  -- so it is read, where it is with the new count
  reads_lower : {m : Message} → MessageRecounted (before s o) (between s o) (drop o.value.at s) (o.count - 1) m o (length s) → length s ≤ most_bytes
      → (m' : Message) × (read_of (onward s o) ≡ Ok m') × Relays s m o (onward s o) m'
  unfolding lowered head
  reads_lower {m} x most =
      let r : List ℕ = drop o.value.at s in
      let new : List ℕ = before s o ++ (head 0 (o.count - 1) ++ r) in
      let is : new ≡ onward s o = sym (append_assoc (before s o) (head 0 (o.count - 1)) r) in
      let size : length s ≡ length (before s o) + (length (between s o) + length r) = sym (ap length spelt_whole) ∙ simp length-append in
      let size' : length new ≡ length (before s o) + (length (head 0 (o.count - 1)) + length r) = simp length-append in
      let read : read_of new ≡ Ok x.message =
      sym (read_whole new (examined new) (omega (arith, shorter s o h, ap length is)) refl x.message _ x.read (omega (arith, x.sized))) in (
        x.message,
        subst (λ (l : List ℕ). read_of l ≡ Ok x.message) is read,
        subst (λ (l : List ℕ). Relays l m o (onward s o) x.message) spelt_whole
            (subst (λ (l : List ℕ). Relays (before s o ++ (between s o ++ r)) m o l x.message) is x.relays),
      )

module _ {s : List ℕ} {at end n : ℕ} {msg : Msg Value} (h : Hole s at end n msg) where
  -- the item with the count one lower
  less : Item
  less = h.item (shortest (n - 1)) (n - 1)

  -- it is without fault
  less_good : Good less
  unfolding less
  less_good = h.good (shortest (n - 1)) (n - 1) (shortest_right 0 (n - 1) (lit< tt) (omega (arith, h.limit)))

  -- the bytes around the count
  spelt : s ≡ h.before ++ (head_bytes 0 h.width n ++ h.after)
  spelt = sym h.whole ∙ h.spelt h.width n

  -- the replaced bytes are its encoding
  replaced : lowered s at end n ≡ encode less
  unfolding lowered head less
  replaced =
      let front : take at s ≡ h.before = ap (take at) spelt ∙ take_at h.before (head_bytes 0 h.width n ++ h.after) at (sym h.place) in
      let back : drop end s ≡ h.after =
      ap (λ (k : ℕ). drop k s) (h.ends ∙ ap (λ (k : ℕ). k + length (head_bytes 0 h.width n)) h.place)
      ∙ ap (drop (length h.before + length (head_bytes 0 h.width n))) spelt
      ∙ drop-append-add h.before (head_bytes 0 h.width n ++ h.after) (length (head_bytes 0 h.width n))
      ∙ drop_at (head_bytes 0 h.width n) h.after (length (head_bytes 0 h.width n)) refl in
      rw (front, back, append_assoc) (sym (h.spelt (shortest (n - 1)) (n - 1)))

  -- and they are accepted
  lowered_accepted : length (lowered s at end n) ≤ most_bytes → TextsGood msg → NamesGood msg
      → (a : Accepted (lowered s at end n)) × (a.message.msg ≡ lower_msg msg)
  unfolding less
  lowered_accepted most texts names = (
    record {
      message =
          record {
            one =
                record {
                  item = less;
                  bytes = sym replaced;
                  most = most;
                  good = less_good;
                  shallow = h.shallow (shortest (n - 1)) (n - 1);
                };
            msg = lower_msg msg;
            is = h.is (shortest (n - 1));
          };
      texts = rw (texts_stay msg).0 texts;
      names = rw (texts_stay msg).1 names;
    },
    refl,
  )

-- the count of a message that was read
count_hole : (s : List ℕ) (m : Message) (o : Objective) → read_of s ≡ Ok m → Lowers m o → (a : Accepted s)
    → Hole s o.count_at o.value.at o.count a.message.msg
count_hole s m o q low a =
    hole low (accepted_described s m q a) a.message.is a.message.one.good a.message.one.shallow a.message.one.bytes

-- for readers

-- It is accepted, as the same message with that count one lower.
pub lowered_accepts : (s : List ℕ) (m : Message) (o : Objective) → read_of s ≡ Ok m → Lowers m o → (a : Accepted s)
    → (a' : Accepted (onward s o)) × (a'.message.msg ≡ lower_msg a.message.msg)
lowered_accepts s m o q low a =
    lowered_accepted (count_hole s m o q low a) (omega (arith, a.message.one.most, lowered_shorter s m o q low)) a.texts a.names

-- It is read, with the kind, the session and the initiator that it had, and a count one lower.
pub lowered_reads : (s : List ℕ) (m : Message) (o : Objective) → read_of s ≡ Ok m → Lowers m o
    → (m' : Message) × (read_of (onward s o) ≡ Ok m') × Relays s m o (onward s o) m'
lowered_reads s m o q low =
    let (most, parts) = read_parts s m q in
    let h = lowers_parts s low parts in
    reads_lower s o h
    (message_recounted (before s o) (between s o) (drop o.value.at s) (o.count - 1) (length s) low (count_at s o h) refl
    (ap examined (spelt_whole s o h) ∙ (read_examined s m q).1))
    most

-- It is what the writer writes for that message.
pub lowered_written : (s : List ℕ) (m : Message) (o : Objective) → read_of s ≡ Ok m → Lowers m o → (a : Accepted s)
    → onward s o ≡ encode_msg (plain (lower_msg a.message.msg))
lowered_written s m o q low a =
    let (a', same) = lowered_accepts s m o q low a in
    sym (read_encoded (onward s o) a') ∙ ap (λ (msg : Msg Value). encode_msg (plain msg)) same
