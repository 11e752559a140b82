-- Numbers of eight bytes each, encoded one after the other.
-- Formats: Numbers and parts
use Rattle.std.specs.Prelude.{ℕ, zero, suc, List, [], ◌∷◌, drop}
use Rattle.byteorder.specs.Endian.{big_number}

-- the first n numbers that the bytes encode
unfoldable pub encoded_numbers : ℕ → List ℕ → List ℕ
encoded_numbers zero bytes = []
encoded_numbers (suc n) bytes = big_number 8 bytes ∷ encoded_numbers n (drop 8 bytes)
