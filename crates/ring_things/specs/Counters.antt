-- Counters as a table: how an operation is decoded, the reply to it, and the counts after it.
-- Rules: Objects 1, 2 and 5
-- Formats: Operations and replies
use Rattle.std.specs.Prelude.{ℕ, ◌+◌, ◌^◌, Bool, ◌==◌, nat_lt, ◌&&◌, if◌then◌else◌, List, [], ◌∷◌, length, slice_index, slice_set, Option, Some, None, is_some}
use Rattle.byteorder.specs.Endian.{big_bytes, big_number}
use Rattle.ring_object.specs.Operations.{unreadable_reply}
use Rattle.ring_things.specs.declared.counters.CounterOperation.{CounterOperation}
use Rattle.ring_things.specs.declared.counters.CounterOperation.TheVariants.{Add, Read}

-- The operation that the bytes encode, if any: a code, a key, and the operand of the code.
abbrev pub decoding : List ℕ → Option CounterOperation
decoding (code ∷ key ∷ rest) =
    if code == 1 && length rest == 8 then Some (Add key (big_number 8 rest))
    else if code == 2 && length rest == 0 then Some (Read key)
    else None
decoding _ = None

-- The bytes of an operation.
abbrev pub encoding : CounterOperation → List ℕ
encoding (Add key amount) = 1 ∷ key ∷ big_bytes 8 amount
encoding (Read key) = 2 ∷ key ∷ []

-- Whether the bytes are an operation.
abbrev pub is_readable : List ℕ → Bool
is_readable op = is_some (decoding op)

-- The reply to a decoded operation. Add: `00` and the new count, or `01` if the sum is above 2^64 - 1. Read: `00` and the
-- count. Bytes that are no operation: `FF`.
abbrev pub reply_to : List ℕ → Option CounterOperation → List ℕ
reply_to counts (Some (Add key amount)) =
    if nat_lt (slice_index counts key + amount) (2 ^ 64) then 0 ∷ big_bytes 8 (slice_index counts key + amount) else 1 ∷ []
reply_to counts (Some (Read key)) = 0 ∷ big_bytes 8 (slice_index counts key)
reply_to counts None = unreadable_reply

-- The counts after a decoded operation. An add increases its key's count unless the sum is above 2^64 - 1; otherwise
-- nothing changes.
abbrev pub after : List ℕ → Option CounterOperation → List ℕ
after counts (Some (Add key amount)) =
    if nat_lt (slice_index counts key + amount) (2 ^ 64) then slice_set counts key (slice_index counts key + amount) else counts
after counts (Some (Read key)) = counts
after counts None = counts

-- The reply to the bytes of an operation.
abbrev pub reply : List ℕ → List ℕ → List ℕ
reply counts op = reply_to counts (decoding op)

-- The counts after the bytes of an operation.
abbrev pub next : List ℕ → List ℕ → List ℕ
next counts op = after counts (decoding op)
