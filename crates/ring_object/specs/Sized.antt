-- Length-prefixed bytes, as a snapshot within another.
-- Formats: Snapshots
use Rattle.std.specs.Prelude.{ℕ, List, ◌++◌, length}
use Rattle.byteorder.specs.Endian.{big_bytes}

-- the bytes prefixed by their length, a number of `width` bytes
unfoldable pub sized : ℕ → List ℕ → List ℕ
sized width text = big_bytes width (length text) ++ text
