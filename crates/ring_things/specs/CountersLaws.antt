-- Counters satisfy the laws of objects.
-- Rules: Objects 1 and 2
use Rattle.std.proofs.Common.{◌≡◌, ℕ, ◌+◌, ◌^◌, false, nat_lt, List, Option, Some, None, slice_index, refl, arith}
use Rattle.std.proofs.lemmas.Bool.{cond_both, ltb-true}
use Rattle.ring_base.proofs.Cases.{none_of}
use Rattle.ring_object.specs.Bytes.{AreBytes}
use Rattle.ring_object.specs.Operations.{IsReply, unreadable_reply}
use Rattle.ring_things.specs.ReplyBytes.{code_fits, code_and_value_fits}
use Rattle.ring_things.specs.Table.{IsTable, IsTable-set, keys}
use Rattle.ring_things.specs.Counters.{decoding, is_readable, reply, next, reply_to, after}
use Rattle.ring_things.specs.declared.counters.CounterOperation.{CounterOperation}
use Rattle.ring_things.specs.declared.counters.CounterOperation.TheVariants.{Add, Read}

after_kept : (counts : List ℕ) (op : Option CounterOperation) → IsTable keys counts → IsTable keys (after counts op)
after_kept counts (Some (Add key amount)) is =
    let count = slice_index counts key + amount in
    cond_both (nat_lt count (2 ^ 64)) _ _ (IsTable keys) (λ fits. IsTable-set keys counts key count (ltb-true _ _ fits) is) (λ _. is)
after_kept counts (Some (Read key)) is = is
after_kept counts None is = is

-- After every operation the content is a table.
pub next_kept : (counts op : List ℕ) → AreBytes op → IsTable keys counts → IsTable keys (next counts op)
next_kept counts op are is = after_kept counts (decoding op) is

reply_fits : (counts : List ℕ) (op : Option CounterOperation) → IsReply (reply_to counts op)
reply_fits counts (Some (Add key amount)) =
    let count = slice_index counts key + amount in
    cond_both (nat_lt count (2 ^ 64)) _ _ IsReply (λ _. code_and_value_fits 0 count (omega arith)) (λ _. code_fits 1 (omega arith))
reply_fits counts (Some (Read key)) = code_and_value_fits 0 (slice_index counts key) (omega arith)
reply_fits counts None = code_fits 255 (omega arith)

-- Every reply has at most 64 bytes.
pub replies_fit : (counts op : List ℕ) → AreBytes op → IsTable keys counts → IsReply (reply counts op)
replies_fit counts op are is = reply_fits counts (decoding op)

-- Bytes that are no operation get the reply `FF` and change nothing.
pub ignored : (counts op : List ℕ) → is_readable op ≡ false → (reply counts op ≡ unreadable_reply) × (next counts op ≡ counts)
ignored counts op none = rw (none_of (decoding op) none) (refl, refl)
