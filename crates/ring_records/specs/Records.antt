-- Records: a kind, a length in two bytes, and that many bytes.
-- Formats: Records
use Rattle.std.specs.Prelude.{◌≡◌, ℕ, ◌^◌, ◌<◌, ◌⊎◌, List, [], ◌∷◌, ◌++◌, length, Option, Some, None}
use Rattle.std.specs.Io.KnownBytes.{Keeps, Consumes, IsAtEnd}
use Rattle.byteorder.specs.Endian.{big_bytes}

-- The record of this kind with these bytes.
abbrev pub record_of : ℕ → List ℕ → List ℕ
record_of kind bytes = kind ∷ [] ++ big_bytes 2 (length bytes) ++ bytes

-- Either nothing was left, or the next record was read.
abbrev pub IsNext : Option (List ℕ) → Option (List ℕ) → Option ℕ → List ℕ → Type 0
IsNext old new None bytes = Keeps old new × IsAtEnd new
IsNext old new (Some kind) bytes = Consumes old new (record_of kind bytes) × (length bytes < 2 ^ 16)

-- The same for one byte.
abbrev pub IsNextByte : Option (List ℕ) → Option (List ℕ) → Option ℕ → Type 0
IsNextByte old new None = Keeps old new × IsAtEnd new
IsNextByte old new (Some byte) = Consumes old new (byte ∷ [])

-- Fewer than `most` bytes were read.
abbrev pub TakesFewer : ℕ → Option (List ℕ) → Option (List ℕ) → Type 0
TakesFewer most old new = (front : List ℕ) × Consumes old new front × (length front < most)

-- Less than a record: fewer bytes than a kind and a length, or fewer after these than the length.
abbrev pub IsUnfinished : List ℕ → Type 0
IsUnfinished front =
    (length front < 3)
    ⊎ ((kind : ℕ) × (count : ℕ) × (bytes : List ℕ) × (count < 2 ^ 16) × (length bytes < count) × (front ≡ kind ∷ [] ++ big_bytes 2 count ++ bytes))

-- Less than a record was read, possibly nothing.
abbrev pub TakesUnfinished : Option (List ℕ) → Option (List ℕ) → Type 0
TakesUnfinished old new = (front : List ℕ) × Consumes old new front × IsUnfinished front
