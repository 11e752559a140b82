-- An operation of a code, a key and an optional value: its encoding and decoding.
use Rattle.std.specs.Prelude.{ℕ, ◌<◌, List, ◌∷◌, Option, None}
use Rattle.std.specs.Option.{option_map}
use Rattle.ring_things.specs.Outcome.{value_bytes, value_in, ValueFits}
pub use Rattle.ring_things.specs.declared.keyed_operation.KeyedOperation.{KeyedOperation}

-- The bytes of an operation.
abbrev pub encoding : KeyedOperation → List ℕ
encoding keyed = keyed.code ∷ keyed.key ∷ value_bytes keyed.value

-- The operation that the bytes encode, if any.
abbrev pub decoding : List ℕ → Option KeyedOperation
decoding (code ∷ key ∷ rest) = option_map (λ value. record { code = code; key = key; value = value }) (value_in rest)
decoding _ = None

-- Code and key are a byte each, and the value has 8 bytes.
pub record KeyedFits (keyed : KeyedOperation) : Type 0 where
  pub code : keyed.code < 256
  pub key : keyed.key < 256
  pub value : ValueFits keyed.value
