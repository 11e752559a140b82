-- The values that a word can denote: a number, a node.
-- Formats: Scripts
use Rattle.std.specs.Prelude.{◌≡◌, ◌<◌, ◌≤◌, ℕ, ◌^◌, Bool, true, false, ◌&&◌, ◌==◌, nat_lt, nat_le, if◌then◌else◌, List, [], ◌∷◌, length, take, get_or, Option, Some, None, option_map, bytes_eq}
use Rattle.std.specs.Char.{is_ascii_digit}
use Rattle.std.specs.List.{list_all}
use Rattle.std.specs.Str.Parse.{digits_value}
use Rattle.ring_base.specs.Group.{Group}
use Rattle.ring_script.specs.Reading.{◌>>=◌}

-- Whether the word equals this name.
unfoldable pub is : List ℕ → List ℕ → Bool
is name word = bytes_eq word name

-- Whether the word is one or more digits, without a leading zero except in `0` itself.
abbrev pub is_decimal : List ℕ → Bool
is_decimal [] = false
is_decimal (c ∷ word) = if c == 48 then length word == 0 else list_all is_ascii_digit (c ∷ word)

-- The number that the word denotes.
unfoldable pub number_of : List ℕ → Option ℕ
number_of word = if is_decimal word then Some (digits_value 10 word) else None

-- The number that the word denotes, if it is from `least` to `most`.
abbrev pub number_within : ℕ → ℕ → List ℕ → Option ℕ
number_within least most word = do
  number ← number_of word
  if nat_le least number && nat_le number most then Some number else None

-- The node whose number the word is.
abbrev pub node_of : Group → List ℕ → Option ℕ
node_of nodes word = number_within 1 nodes.count word

-- The number, if a u64 holds it.
abbrev pub as_u64 : ℕ → Option ℕ
as_u64 number = if nat_lt number (2 ^ 64) then Some number else None

-- The number that the word denotes; `Some None` is one that no u64 holds.
abbrev pub decimal_of : List ℕ → Option (Option ℕ)
decimal_of word = option_map as_u64 (number_of word)

-- The text begins with exactly `count` digits, and they denote the number `value`, None if no u64 holds it.
pub record BeginsWith (text : List ℕ) (count : ℕ) (value : Option ℕ) : Type 0 where
  pub within : count ≤ length text
  pub digits : list_all is_ascii_digit (take count text) ≡ true
  pub ended : count < length text → is_ascii_digit (get_or text count 0) ≡ false
  pub value_is : value ≡ as_u64 (digits_value 10 (take count text))

-- The next word, and the words after it.
abbrev pub word_at : List (List ℕ) → Option (List ℕ × List (List ℕ))
word_at [] = None
word_at (word ∷ words) = Some (word, words)

-- The number that the next word denotes, None if no u64 holds it, and the words after it.
abbrev pub decimal_at : List (List ℕ) → Option (Option ℕ × List (List ℕ))
decimal_at words = do
  word ← word_at words
  number ← decimal_of word.0
  Some (number, word.1)

-- The number that the next word denotes, from `least` to `most`, and the words after it.
abbrev pub number_at : ℕ → ℕ → List (List ℕ) → Option (ℕ × List (List ℕ))
number_at least most words = do
  word ← word_at words
  number ← number_within least most word.0
  Some (number, word.1)

-- The node that the next word denotes, and the words after it.
abbrev pub node_at : Group → List (List ℕ) → Option (ℕ × List (List ℕ))
node_at nodes words = number_at 1 nodes.count words
