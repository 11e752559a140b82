-- A reply: the outcome of an operation as its first byte, then an optional value.
-- Formats: Operations and replies
use Rattle.std.specs.Prelude.{ℕ, ◌^◌, ◌<◌, ◌==◌, if◌then◌else◌, List, [], ◌∷◌, length, Option, Some, None}
use Rattle.std.specs.Option.{option_map, option_and_then}
use Rattle.byteorder.specs.Endian.{big_bytes, big_number}
use Rattle.ring_things.specs.declared.replies.Outcome.{Outcome}
use Rattle.ring_things.specs.declared.replies.Outcome.TheVariants.{Done, NotDone, Full, Unreadable}
use Rattle.ring_things.specs.declared.replies.ReplyParts.{ReplyParts}

-- The byte of an outcome: 0 done, 1 not done, 2 full, 255 unreadable.
abbrev pub code_of : Outcome → ℕ
code_of Done = 0
code_of NotDone = 1
code_of Full = 2
code_of Unreadable = 255

-- The outcome with this byte, if there is one.
abbrev pub outcome_of : ℕ → Option Outcome
outcome_of code =
    if code == 0 then Some Done
    else if code == 1 then Some NotDone
    else if code == 2 then Some Full
    else if code == 255 then Some Unreadable
    else None

-- The bytes of an optional value.
abbrev pub value_bytes : Option ℕ → List ℕ
value_bytes (Some value) = big_bytes 8 value
value_bytes None = []

-- The optional value that the bytes encode: none for no bytes, a value for 8 bytes. Bytes of any other length encode
-- nothing.
abbrev pub value_in : List ℕ → Option (Option ℕ)
value_in bytes = if length bytes == 0 then Some None else if length bytes == 8 then Some (Some (big_number 8 bytes)) else None

-- The bytes of a reply.
abbrev pub encoding : ReplyParts → List ℕ
encoding replied = code_of replied.outcome ∷ value_bytes replied.value

-- The reply that the bytes encode, if any.
abbrev pub decoding : List ℕ → Option ReplyParts
decoding [] = None
decoding (code ∷ rest) =
    option_and_then (λ outcome. option_map (λ value. record { outcome = outcome; value = value }) (value_in rest)) (outcome_of code)

-- A value, if there is one, has 8 bytes.
abbrev pub ValueFits : Option ℕ → Type 0
ValueFits (Some value) = value < 2 ^ 64
ValueFits None = Unit {0}
