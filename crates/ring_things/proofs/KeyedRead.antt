-- The bytes of an operation with a value decode to it.
use Rattle.std.proofs.Common.{◌≡◌, ℕ, ◌^◌, ◌<◌, ◌∷◌, Some}
use Rattle.byteorder.specs.Endian.{big_bytes}
use Rattle.ring_things.specs.KeyedOperation.{KeyedOperation, decoding}
use Rattle.ring_things.specs.KeyedLaws.{encoded_read}

pub valued_read : (code key value : ℕ) → value < 2 ^ 64
    → decoding (code ∷ key ∷ big_bytes 8 value) ≡ Some (record { code = code; key = key; value = Some value })
valued_read code key value fits = let keyed : KeyedOperation = record { code = code; key = key; value = Some value } in encoded_read keyed fits
