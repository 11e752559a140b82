-- Bytes that a word of a script encodes in hex.
-- Formats: Scripts
use Rattle.std.specs.Prelude.{ℕ, ◌*◌, not, nat_le, ◌&&◌, if◌then◌else◌, List, length, Option, None}
use Rattle.std.specs.Char.{is_ascii_uppercase}
use Rattle.std.specs.List.{list_any}
use Rattle.std.specs.Result.{result_ok}
use Rattle.hex.specs.Hex.{decode_of}

-- The 1 to `most` bytes that the word encodes, each as two digits of `0` to `9`, `a` to `f`.
unfoldable pub decode_hex_word : ℕ → List ℕ → Option (List ℕ)
decode_hex_word most word =
    if nat_le 1 (length word) && nat_le (length word) (2 * most) && not (list_any is_ascii_uppercase word)
    then result_ok (decode_of word)
    else None
