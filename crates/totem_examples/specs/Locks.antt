-- The lock table: the encoding of its operations, the reply to each, and the holders after it.
use Rattle.std.specs.Prelude.{ℕ, Bool, ◌==◌, ◌||◌, if◌then◌else◌, List, slice_index, slice_set, Option, Some, None}
use Rattle.std.specs.Option.{option_and_then}
use Rattle.totem_ring.specs.KeyedOperation as keyed
use Rattle.totem_ring.specs.Types.{KeyedOperation, ReplyParts}
use Rattle.totem_ring.specs.Typed.{done, done_with, not_done_with}
use Rattle.totem_examples.specs.declared.lock_operation.LockOperation.{LockOperation}
use Rattle.totem_examples.specs.declared.lock_operation.LockOperation.TheVariants.{Acquire, Release, Holder}

-- The code, key and value of an operation.
abbrev pub parts_of : LockOperation → KeyedOperation
parts_of (Acquire lock holder) = record { code = 1; key = lock; value = Some holder }
parts_of (Release lock holder) = record { code = 2; key = lock; value = Some holder }
parts_of (Holder lock) = record { code = 3; key = lock; value = None }

-- The operation with this code, lock and value, if there is one.
abbrev pub of_code : ℕ → ℕ → Option ℕ → Option LockOperation
of_code code lock (Some holder) = if code == 1 then Some (Acquire lock holder) else if code == 2 then Some (Release lock holder) else None
of_code code lock None = if code == 3 then Some (Holder lock) else None

-- The operation with these parts, if there is one.
abbrev pub of_parts : KeyedOperation → Option LockOperation
of_parts parts = of_code parts.code parts.key parts.value

-- The bytes of an operation.
abbrev pub encoding : LockOperation → List ℕ
encoding op = keyed.encoding (parts_of op)

-- The operation that these bytes encode, if they encode one.
abbrev pub decoding : List ℕ → Option LockOperation
decoding bytes = option_and_then of_parts (keyed.decoding bytes)

-- A lock may be acquired where it is free or the holder's already.
abbrev pub is_open : ℕ → ℕ → Bool
is_open has_it holder = has_it == 0 || has_it == holder

-- The reply to an operation, by the holders before it; holder 0 is nobody.
abbrev pub reply_to : List ℕ → LockOperation → ReplyParts
reply_to holders (Acquire lock holder) = if is_open (slice_index holders lock) holder then done else not_done_with (slice_index holders lock)
reply_to holders (Release lock holder) = if slice_index holders lock == holder then done else not_done_with (slice_index holders lock)
reply_to holders (Holder lock) = done_with (slice_index holders lock)

-- The holders after an operation.
abbrev pub after : List ℕ → LockOperation → List ℕ
after holders (Acquire lock holder) = if is_open (slice_index holders lock) holder then slice_set holders lock holder else holders
after holders (Release lock holder) = if slice_index holders lock == holder then slice_set holders lock 0 else holders
after holders (Holder lock) = holders
