-- A queue as a table: how an operation is decoded, the reply to it, and the values after it.
-- Rules: Objects 1 to 3 and 5
-- Formats: Operations and replies, Snapshots
use Rattle.std.specs.Prelude.{ℕ, ◌*◌, ◌≤◌, Bool, ◌==◌, nat_le, ◌&&◌, if◌then◌else◌, List, [], ◌∷◌, ◌++◌, length, drop, Option, Some, None, is_some}
use Rattle.byteorder.specs.Endian.{big_bytes, big_number}
use Rattle.ring_object.specs.Operations.{unreadable_reply}
use Rattle.ring_things.specs.Numbers.{list_encoding, numbers_from_bytes, AreNumbers}
use Rattle.ring_things.specs.declared.queue.QueueOperation.{QueueOperation}
use Rattle.ring_things.specs.declared.queue.QueueOperation.TheVariants.{Push, Pop, Count}

-- The maximum number of values in a queue.
abbrev pub max_queue_values : ℕ
max_queue_values = 1024

-- The content of a queue: at most 1,024 values of 8 bytes, the oldest first.
pub record IsQueue (items : List ℕ) : Type 0 where
  pub few : length items ≤ max_queue_values
  pub numbers : AreNumbers 8 items

-- The operation that the bytes encode, if any: a code, and its operand.
abbrev pub decoding : List ℕ → Option QueueOperation
decoding (code ∷ rest) =
    if code == 1 && length rest == 8 then Some (Push (big_number 8 rest))
    else if code == 2 && length rest == 0 then Some Pop
    else if code == 3 && length rest == 0 then Some Count
    else None
decoding [] = None

-- The bytes of an operation.
abbrev pub encoding : QueueOperation → List ℕ
encoding (Push value) = 1 ∷ big_bytes 8 value
encoding Pop = 2 ∷ []
encoding Count = 3 ∷ []

-- Whether the bytes are an operation.
abbrev pub is_readable : List ℕ → Bool
is_readable op = is_some (decoding op)

-- The reply to a decoded operation. Push: `00`, or `01` with 1,024 values. Pop: `00` and the first value, or `01` if there
-- is none. Length: `00` and the number of values. Bytes that are no operation: `FF`.
abbrev pub reply_to : List ℕ → Option QueueOperation → List ℕ
reply_to items (Some (Push value)) = if length items == max_queue_values then 1 ∷ [] else 0 ∷ []
reply_to [] (Some Pop) = 1 ∷ []
reply_to (item ∷ items) (Some Pop) = 0 ∷ big_bytes 8 item
reply_to items (Some Count) = 0 ∷ big_bytes 8 (length items)
reply_to items None = unreadable_reply

-- The values after a decoded operation. A push appends its value if there is room, a pop removes the first; otherwise
-- nothing changes.
abbrev pub after : List ℕ → Option QueueOperation → List ℕ
after items (Some (Push value)) = if length items == max_queue_values then items else items ++ value ∷ []
after items (Some Pop) = drop 1 items
after items (Some Count) = items
after items None = items

-- The reply to the bytes of an operation.
abbrev pub reply : List ℕ → List ℕ → List ℕ
reply items op = reply_to items (decoding op)

-- The values after the bytes of an operation.
abbrev pub next : List ℕ → List ℕ → List ℕ
next items op = after items (decoding op)

-- The snapshot of a queue: the number of values in 2 bytes, then the values, the oldest first.
abbrev pub snapshot_of : List ℕ → List ℕ
snapshot_of items = big_bytes 2 (length items) ++ list_encoding 8 items

-- Whether the bytes have exactly as many values as their head says.
abbrev pub is_snapshot : List ℕ → Bool
is_snapshot bytes = nat_le 2 (length bytes) && (nat_le (big_number 2 bytes) max_queue_values && length (drop 2 bytes) == 8 * big_number 2 bytes)

-- The values whose snapshot is the bytes, if they are one.
abbrev pub queue_of : List ℕ → Option (List ℕ)
queue_of bytes = if is_snapshot bytes then Some (numbers_from_bytes 8 (big_number 2 bytes) (drop 2 bytes)) else None
