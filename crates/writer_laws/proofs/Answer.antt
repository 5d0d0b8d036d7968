-- A node's answer held against reading: it is read back as that Response, and 18 and 19 are answered exactly where they
-- are due. For readers: each statement at the end stands alone.
-- Assumes nothing.
use mathlib.Core.Path.{◌≡◌, refl, sym, ◌∙◌, subst}
use mathlib.Core.Logic.{◌↔◌, ◌⊎◌}
use mathlib.Core.Bool.{true}
use mathlib.Core.List.{List, [], ◌∷◌, flat_map}
use Prim.Native.Nat.{ℕ, ◌^◌, ◌≤◌, ◌<◌}
use native.Mathlib.Omega.{arith}
use lib.Dec.{lit<, lit≤}
use lib.ListN.{length, take}
use Rattle.base.specs.BigEndian.{Bytes}
use Rattle.cbor.specs.Tree.{Item, shortest, depth, Good, count}
use Rattle.cbor.proofs.HeadExact.{shortest_right}
use Rattle.rfc8990.specs.Message.{Msg, valued}
use Rattle.rfc8990.specs.Cddl.{uint, bytes, array, Value, Protocol, Port, LocatorItem, LocatorItems, Number, Initiator, OptionalItems, TgtsItems, MessageItem}
use Rattle.rfc8990.specs.Limits.{loc_texts, tgts_texts, optional_names, texts_of, names_of}
use Rattle.rfc8990.specs.Limits.{most_bytes}
use Rattle.rfc8990.specs.Accepted.{Accepted}
use Rattle.message_laws.specs.Describes.{Describes}
use Rattle.reader.proofs.Exact.{accepted_exactly, accepted_bytes, accepted_described, message_once}
use Rattle.std.specs.Prelude.{Ok, Err}
use Rattle.refusal.specs.declared.Refusal.TheVariants.{NoSuchMessage, WriteOutput}
use Rattle.writer.specs.Write.{answer_msg, answer_of, ok_initiator, answer_answer, answer_out}
use Rattle.writer.proofs.Lengths.{initiator_sized, sized_few, answer_few}
use Rattle.writer_laws.specs.Plain.{plain}
use Rattle.writer_laws.specs.Answer.{Arguments, ReadAs}
use Rattle.writer_laws.proofs.Encodes.{plain_encodes}
use Rattle.writer.proofs.HandedOver.{hand_not_18, hand_front, hand_19, pass_case}

-- a number with the shortest head
abbrev number : ℕ → Item
number n = uint (shortest n) n

number_good : (n : ℕ) → n < 2 ^ 64 → Good (number n)
number_good n = shortest_right 0 n (lit< tt)

-- and a byte string
abbrev string : List ℕ → Item
string bs = bytes (shortest (length bs)) bs

string_good : (bs : List ℕ) → Bytes bs → length bs ≤ 16 → Good (string bs)
string_good bs b few = (shortest_right 2 (length bs) (lit< tt) (omega arith), b)

module _ (session : ℕ) (initiator : List ℕ) (ttl : ℕ) (address : List ℕ) (port : ℕ) where
  -- the Response, its bytes, and its items
  abbrev response : Msg Value
  response = answer_msg session initiator ttl address port

  abbrev encoded : List ℕ
  encoded = answer_of session initiator ttl address port

  abbrev locator : Item
  locator = array (shortest 4) (number 103 ∷ string address ∷ number 6 ∷ number port ∷ [])

  abbrev item : Item
  item = array (shortest 5) (number 2 ∷ number session ∷ string initiator ∷ number ttl ∷ locator ∷ [])

  -- an item that is it has an initiator of 4 or 16 bytes,
  response_sized : {x : Item} → MessageItem x response → (length initiator ≡ 4) ⊎ (length initiator ≡ 16)
  response_sized (MessageItem.response _ (Initiator.initiator h) _ _) = h

  -- and accepted bytes that are it are the encoding, which passes
  response_is : (s : List ℕ) (a : Accepted s) → a.message.msg ≡ response → (encoded ≡ s) × (ok_initiator initiator ≡ true) × (length encoded ≤ most_bytes)
  unfolding answer_of plain valued
  response_is s a e =
      let is : MessageItem a.message.one.item response = subst (MessageItem a.message.one.item) e a.message.is in
      let same : encoded ≡ s = sym (plain_encodes a.message.one.good is) ∙ a.message.one.bytes in
      (same, (initiator_sized initiator).1 (response_sized is), rw same a.message.one.most)

  module _ (g : Arguments session initiator ttl address port) where
    locator_good : Good locator
    unfolding count
    locator_good = (
      shortest_right 4 4 (lit< tt) (lit< tt),
      (
        number_good 103 (lit< tt),
        (
          string_good address g.address_bytes (omega (arith, g.address_length)),
          (number_good 6 (lit< tt), (number_good port (omega (arith, g.port_fits)), tt)),
        ),
      ),
    )

    -- the item is a message without fault, and so it is accepted
    response_accepted : (length initiator ≡ 4) ⊎ (length initiator ≡ 16) → (a : Accepted encoded) × (a.message.msg ≡ response)
    unfolding answer_of plain valued count depth texts_of tgts_texts loc_texts optional_names names_of flat_map
    response_accepted sized =
        let good : Good item = (
          shortest_right 4 5 (lit< tt) (lit< tt),
          (
            number_good 2 (lit< tt),
            (
              number_good session (omega (arith, g.session_fits)),
              (string_good initiator g.initiator_bytes (sized_few sized), (number_good ttl (omega (arith, g.ttl_fits)), (locator_good, tt))),
            ),
          ),
        ) in
        let is : MessageItem item response =
        MessageItem.response (Number.number {n = session} (omega (arith, g.session_fits))) (Initiator.initiator sized)
        (Number.number {n = ttl} (omega (arith, g.ttl_fits)))
        (TgtsItems.locators (LocatorItems.more (LocatorItem.v6 g.address_length Protocol.tcp (Port.port {n = port} (omega (arith, g.port_fits))))
        LocatorItems.empty) OptionalItems.without) in (
          record {
            message =
                record {
                  one =
                      record {
                        item = item;
                        bytes = plain_encodes good is;
                        most = answer_few session initiator ttl address port (sized_few sized) (omega (arith, g.address_length));
                        good = good;
                        shallow = lit≤ tt;
                      };
                  msg = response;
                  is = is;
                };
            texts = tt;
            names = tt;
          },
          refl,
        )

    -- for readers

    -- A Response to an initiator of 4 or 16 bytes is read as that Response.
    pub answer_reads : (length initiator ≡ 4) ⊎ (length initiator ≡ 16)
        → ReadAs (answer_of session initiator ttl address port) (answer_msg session initiator ttl address port)
    answer_reads sized =
        let (a, is) = response_accepted sized in
        let (m, q) = (accepted_exactly encoded (accepted_bytes encoded a)).1 a in
        record {
          accepted = a;
          same = λ b. (message_once encoded b.message a.message).1 ∙ is;
          message = m;
          read = q;
          describes = subst (Describes encoded m) is (accepted_described encoded m q a);
        }

    -- So what `answer` puts in front of the output is read back.
    pub answered_reads : (out : List ℕ) (n : ℕ) → answer_answer session initiator ttl address port out ≡ Ok n
        → ReadAs (take n (answer_out session initiator ttl address port out)) (answer_msg session initiator ttl address port)
    unfolding answer_answer answer_out
    answered_reads out n =
        pass_case (ok_initiator initiator) encoded out (λ r o. r ≡ Ok n → ReadAs (take n o) response)
        (λ ok _ e. subst (λ (bs : List ℕ). ReadAs bs response) (sym (hand_front encoded out n e)) (answer_reads ((initiator_sized initiator).0 ok)))
        (λ _ e. absurd cc)

    -- 18 is answered exactly if there are no accepted bytes that are that Response.
    pub answer_18 : (out : List ℕ) → answer_answer session initiator ttl address port out ≡ Err NoSuchMessage
        ↔ (((s : List ℕ) × (a : Accepted s) × (a.message.msg ≡ answer_msg session initiator ttl address port)) → ⊥)
    unfolding answer_answer
    answer_18 out = (
      pass_case (ok_initiator initiator) encoded out (λ r o. r ≡ Err NoSuchMessage → ((s : List ℕ) × (a : Accepted s) × (a.message.msg ≡ response)) → ⊥)
          (λ _ _ q _. hand_not_18 encoded out q)
          (λ not q (s, a, e). let (_, ok, few) = response_is s a e in not ok few),
      λ none. pass_case (ok_initiator initiator) encoded out (λ r o. r ≡ Err NoSuchMessage)
          (λ ok _. let (a, is) = response_accepted ((initiator_sized initiator).0 ok) in absurd (none (encoded, a, is)))
          (λ _. refl),
    )

    -- 19 is answered exactly if there are such bytes, and the output has no room for them.
    pub answer_19 : (out : List ℕ) → answer_answer session initiator ttl address port out ≡ Err WriteOutput
        ↔ ((s : List ℕ) × (a : Accepted s) × (a.message.msg ≡ answer_msg session initiator ttl address port) × (length out < length s))
    unfolding answer_answer
    answer_19 out = (
      pass_case (ok_initiator initiator) encoded out
          (λ r o. r ≡ Err WriteOutput → (s : List ℕ) × (a : Accepted s) × (a.message.msg ≡ response) × (length out < length s))
          (λ ok _ q. let (a, is) = response_accepted ((initiator_sized initiator).0 ok) in (encoded, a, is, (hand_19 encoded out).0 q))
          (λ _ q. absurd cc),
      λ (s, a, e, room). let (same, ok, few) = response_is s a e in
          pass_case (ok_initiator initiator) encoded out (λ r o. r ≡ Err WriteOutput) (λ _ _. (hand_19 encoded out).1 (rw same room))
          (λ not. absurd (not ok few)),
    )
