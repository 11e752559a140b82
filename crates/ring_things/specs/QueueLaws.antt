-- A queue satisfies the laws of objects.
-- Rules: Objects 1 to 3
use Rattle.std.proofs.Common.{◌≡◌, ℕ, ◌*◌, ◌^◌, ◌<◌, ◌≤◌, false, true, ◌==◌, nat_le, ◌&&◌, List, [], ◌∷◌, length, drop}
use Rattle.std.proofs.Common.{Option, Some, None, refl, ap, ◌∙◌, subst, arith, eqb-true, eq-eqb}
use Rattle.std.proofs.lemmas.Bool.{cond_both, cond-true, eqb-false, leb-true, le-leb, and_parts, and_from}
use Rattle.std.proofs.lemmas.List.{length_push, length-drop}
use Rattle.std.proofs.lemmas.Option.{same_Some}
use Rattle.std.proofs.lemmas.List.Elements.{All-nil, All-push, All-drop}
use Rattle.byteorder.specs.Endian.{big_number}
use Rattle.ring_base.proofs.Cases.{none_of}
use Rattle.ring_object.specs.Bytes.{AreBytes}
use Rattle.ring_object.specs.Operations.{IsReply, unreadable_reply}
use Rattle.ring_object.specs.Snapshots.{HasExactSnapshots}
use Rattle.ring_base.proofs.Cases.{guarded_some}
use Rattle.ring_things.specs.Numbers.{list_encoding, numbers_from_bytes, big_number-lt, exact_2, exact_8, sized_text-split, sized_text-join}
use Rattle.ring_things.specs.Numbers.{length-list_encoding, length-numbers_from_bytes, AreNumbers-numbers_from_bytes, numbers_from_bytes-list_encoding}
use Rattle.ring_things.specs.Numbers.{list_encoding-numbers_from_bytes}
use Rattle.ring_things.specs.ReplyBytes.{code_fits, code_and_value_fits, AreBytes-rest, AreBytes-drop}
use Rattle.ring_things.specs.Queue.{max_queue_values, IsQueue, decoding, is_readable, reply, next, reply_to, after, snapshot_of, is_snapshot, queue_of}
use Rattle.ring_things.specs.declared.queue.QueueOperation.{QueueOperation}
use Rattle.ring_things.specs.declared.queue.QueueOperation.TheVariants.{Push, Pop, Count}

-- The empty list is a queue.
pub empty_IsQueue : IsQueue []
empty_IsQueue = record { few = omega arith; numbers = All-nil (λ number. number < 256 ^ 8) }

-- A pushed value has 8 bytes.
abbrev Fits : Option QueueOperation → Type 0
Fits (Some (Push value)) = value < 256 ^ 8
Fits _ = Unit {0}

decoding_fits : (op : List ℕ) → AreBytes op → Fits (decoding op)
decoding_fits [] are = tt
decoding_fits (code ∷ rest) are =
    cond_both (code == 1 && length rest == 8) _ _ Fits (λ _. big_number-lt 8 rest (AreBytes-rest code rest are))
    (λ _. cond_both (code == 2 && length rest == 0) _ _ Fits (λ _. tt)
    (λ _. cond_both (code == 3 && length rest == 0) _ _ Fits (λ _. tt) (λ _. tt)))

after_kept : (items : List ℕ) (op : Option QueueOperation) → Fits op → IsQueue items → IsQueue (after items op)
after_kept items (Some (Push value)) fits is =
    cond_both (length items == max_queue_values) _ _ IsQueue (λ _. is) (λ room. record {
      few = omega (arith, length_push items value, is.few, eqb-false _ _ room);
      numbers = All-push (λ number. number < 256 ^ 8) items value is.numbers fits;
    })
after_kept items (Some Pop) fits is = record {
  few = omega (arith, length-drop 1 items, is.few);
  numbers = All-drop (λ number. number < 256 ^ 8) 1 items is.numbers;
}
after_kept items (Some Count) fits is = is
after_kept items None fits is = is

-- After every operation the content is a queue.
pub next_kept : (items op : List ℕ) → AreBytes op → IsQueue items → IsQueue (next items op)
next_kept items op are is = after_kept items (decoding op) (decoding_fits op are) is

reply_fits : (items : List ℕ) (op : Option QueueOperation) → IsReply (reply_to items op)
reply_fits items (Some (Push value)) = cond_both (length items == max_queue_values) _ _ IsReply (λ _. code_fits 1 (omega arith)) (λ _. code_fits 0 (omega arith))
reply_fits [] (Some Pop) = code_fits 1 (omega arith)
reply_fits (item ∷ items) (Some Pop) = code_and_value_fits 0 item (omega arith)
reply_fits items (Some Count) = code_and_value_fits 0 (length items) (omega arith)
reply_fits items None = code_fits 255 (omega arith)

-- Every reply has at most 64 bytes.
pub replies_fit : (items op : List ℕ) → AreBytes op → IsQueue items → IsReply (reply items op)
replies_fit items op are is = reply_fits items (decoding op)

-- Bytes that are no operation get the reply `FF` and change nothing.
pub ignored : (items op : List ℕ) → is_readable op ≡ false → (reply items op ≡ unreadable_reply) × (next items op ≡ items)
ignored items op none = rw (none_of (decoding op) none) (refl, refl)

-- Values decoded from a snapshot are a queue.
pub IsQueue-numbers_from_bytes : (count : ℕ) (bytes : List ℕ) → count ≤ max_queue_values → AreBytes bytes → IsQueue (numbers_from_bytes 8 count bytes)
IsQueue-numbers_from_bytes count bytes few are = record { few = omega (arith, length-numbers_from_bytes 8 count bytes); numbers = AreNumbers-numbers_from_bytes 8 count bytes are }

restored : (items : List ℕ) → IsQueue items → queue_of (snapshot_of items) ≡ Some items
restored items is =
    let parts = sized_text-split 2 (length items) (list_encoding 8 items) (omega (arith, is.few)) in
    let long : 2 ≤ length (snapshot_of items) = omega arith in
    let size : length (drop 2 (snapshot_of items)) ≡ 8 * big_number 2 (snapshot_of items) = rw (parts.0, parts.1) (length-list_encoding 8 items) in
    let few : big_number 2 (snapshot_of items) ≤ max_queue_values = rw parts.0 is.few in
    let holds : is_snapshot (snapshot_of items) ≡ true = and_from _ _ (le-leb _ _ long) (and_from _ _ (le-leb _ _ few) (eq-eqb _ _ size)) in
    let whole : numbers_from_bytes 8 (big_number 2 (snapshot_of items)) (drop 2 (snapshot_of items)) ≡ items =
    rw (parts.0, parts.1) (numbers_from_bytes-list_encoding 8 items is.numbers) in
    cond-true (is_snapshot (snapshot_of items)) _ _ holds ∙ ap Some whole

only : (bytes items : List ℕ) → AreBytes bytes → queue_of bytes ≡ Some items → IsQueue items × (snapshot_of items ≡ bytes)
only bytes items are is =
    let count = big_number 2 bytes in
    let rest = drop 2 bytes in
    let g = guarded_some (is_snapshot bytes) (Some (numbers_from_bytes 8 count rest)) items is in
    let a = and_parts (nat_le 2 (length bytes)) _ g.0 in
    let b = and_parts (nat_le count max_queue_values) _ a.1 in
    let len : length (numbers_from_bytes 8 count rest) ≡ count = length-numbers_from_bytes 8 count rest in
    let values : list_encoding 8 (numbers_from_bytes 8 count rest) ≡ rest = list_encoding-numbers_from_bytes 8 exact_8 count rest (eqb-true _ _ b.1) (AreBytes-drop 2 bytes are) in
    let P : List ℕ → Type 0 = λ xs. IsQueue xs × (snapshot_of xs ≡ bytes) in
    subst P (same_Some _ _ g.1) (
      IsQueue-numbers_from_bytes count rest (leb-true _ _ b.0) (AreBytes-drop 2 bytes are),
      sized_text-join 2 exact_2 bytes (leb-true _ _ a.0) are (length (numbers_from_bytes 8 count rest))
          (list_encoding 8 (numbers_from_bytes 8 count rest)) len values,
    )

-- Exactly the snapshots of queues are restored, each to its queue.
pub queues_restore : HasExactSnapshots IsQueue snapshot_of queue_of
queues_restore = record { same = λ items is short. restored items is; only = only }
