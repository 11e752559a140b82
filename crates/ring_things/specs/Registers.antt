-- Registers as a table: how an operation is decoded, the reply to it, and the values after it.
-- Rules: Objects 1, 2 and 5
-- Formats: Operations and replies
use Rattle.std.specs.Prelude.{ℕ, Bool, ◌==◌, ◌&&◌, if◌then◌else◌, List, [], ◌∷◌, ◌++◌, length, drop, slice_index, slice_set, Option, Some, None, is_some}
use Rattle.byteorder.specs.Endian.{big_bytes, big_number}
use Rattle.ring_object.specs.Operations.{unreadable_reply}
use Rattle.ring_things.specs.declared.registers.RegisterOperation.{RegisterOperation}
use Rattle.ring_things.specs.declared.registers.RegisterOperation.TheVariants.{Get, Put, CompareAndSet}

-- The operation that the bytes encode, if any: a code, a key, and the operands of the code.
abbrev pub decoding : List ℕ → Option RegisterOperation
decoding (code ∷ key ∷ rest) =
    if code == 1 && length rest == 0 then Some (Get key)
    else if code == 2 && length rest == 8 then Some (Put key (big_number 8 rest))
    else if code == 3 && length rest == 16 then Some (CompareAndSet key (big_number 8 rest) (big_number 8 (drop 8 rest)))
    else None
decoding _ = None

-- The bytes of an operation.
abbrev pub encoding : RegisterOperation → List ℕ
encoding (Get key) = 1 ∷ key ∷ []
encoding (Put key value) = 2 ∷ key ∷ big_bytes 8 value
encoding (CompareAndSet key expected new) = 3 ∷ key ∷ big_bytes 8 expected ++ big_bytes 8 new

-- Whether the bytes are an operation.
abbrev pub is_readable : List ℕ → Bool
is_readable op = is_some (decoding op)

-- The reply to a decoded operation. Get: `00` and the value. Put: `00`. Compare and set: `00`, or `01` and the value if it
-- isn't the expected one. Bytes that are no operation: `FF`.
abbrev pub reply_to : List ℕ → Option RegisterOperation → List ℕ
reply_to values (Some (Get key)) = 0 ∷ big_bytes 8 (slice_index values key)
reply_to values (Some (Put key value)) = 0 ∷ []
reply_to values (Some (CompareAndSet key expected new)) =
    if slice_index values key == expected then 0 ∷ [] else 1 ∷ big_bytes 8 (slice_index values key)
reply_to values None = unreadable_reply

-- The values after a decoded operation. A put stores its value, and a compare-and-set does so if the value there is the
-- expected one; otherwise nothing changes.
abbrev pub after : List ℕ → Option RegisterOperation → List ℕ
after values (Some (Get key)) = values
after values (Some (Put key value)) = slice_set values key value
after values (Some (CompareAndSet key expected new)) =
    if slice_index values key == expected then slice_set values key new else values
after values None = values

-- The reply to the bytes of an operation.
abbrev pub reply : List ℕ → List ℕ → List ℕ
reply values op = reply_to values (decoding op)

-- The values after the bytes of an operation.
abbrev pub next : List ℕ → List ℕ → List ℕ
next values op = after values (decoding op)
