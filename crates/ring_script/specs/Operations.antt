-- The operations of a line `call`, OP: by the words of an object, or by their bytes.
-- Formats: Scripts
use Rattle.std.specs.Prelude.{ℕ, ◌+◌, ◌*◌, ◌^◌, ◌-◌, Bool, nat_le, ◌&&◌, if◌then◌else◌, List, [], ◌∷◌, ◌++◌, length, codes, Option, Some, None}
use Rattle.std.specs.Char.{is_ascii_graphic}
use Rattle.std.specs.Int.{w64, to_be_bytes}
use Rattle.std.specs.List.{find, list_all}
use Rattle.ring_payload.specs.Limits.{max_operation}
use Rattle.ring_script.specs.declared.vocabulary.Argument.{Argument}
use Rattle.ring_script.specs.declared.vocabulary.Argument.TheVariants.{Key, Value, Name}
use Rattle.ring_script.specs.declared.vocabulary.OperationForm as declared
use Rattle.ring_script.specs.HexWords.{decode_hex_word}
use Rattle.ring_script.specs.Numbers.{is, word_at, number_at}
use Rattle.ring_script.specs.Reading.{◌>>=◌}

-- Whether the word is a valid name: 1 to 64 bytes from `!` to `~`.
abbrev pub is_name : List ℕ → Bool
is_name word = nat_le 1 (length word) && nat_le (length word) 64 && list_all is_ascii_graphic word

-- The encoding of the next word as an argument of this kind, and the words after it.
unfoldable pub argument_at : Argument → List (List ℕ) → Option (List ℕ × List (List ℕ))
argument_at Key words = do
  key ← number_at 0 255 words
  Some (key.0 ∷ [], key.1)
argument_at Value words = do
  value ← number_at 0 (2 ^ 64 - 1) words
  Some (to_be_bytes w64 value.0, value.1)
argument_at Name words = do
  word ← word_at words
  if is_name word.0 then Some word else None

-- These bytes followed by the encoding of the argument that the next word denotes, and the words after it.
abbrev pub argument_after : List ℕ → Argument → List (List ℕ) → Option (List ℕ × List (List ℕ))
argument_after bytes argument words = do
  next ← argument_at argument words
  Some (bytes ++ next.0, next.1)

-- These bytes followed by the encodings of the arguments that the next words denote, and the words after them.
unfoldable pub arguments_after : List ℕ → List Argument → List (List ℕ) → Option (List ℕ × List (List ℕ))
arguments_after bytes [] words = Some (bytes, words)
arguments_after bytes (argument ∷ others) words = do
  next ← argument_after bytes argument words
  arguments_after next.0 others next.1

-- The form of an operation: its word, the bytes that it begins with, and the kinds of its arguments.
pub record OperationForm : Type 0 where
  pub word : List ℕ
  pub first : List ℕ
  pub arguments : List Argument

-- A form of the program, as such a form.
abbrev pub form_view : declared.OperationForm → OperationForm
form_view form = record { word = form.word.now; first = form.first.now; arguments = form.arguments.now }

-- Whether each operation of this form has at most 1,024 bytes: no argument has more than 64.
abbrev pub is_short : OperationForm → Bool
is_short form = nat_le (length form.first + 64 * length form.arguments) max_operation

-- Whether all forms are short.
abbrev pub are_short : List OperationForm → Bool
are_short forms = list_all is_short forms

-- The form of the operation with this word: the first that has it.
unfoldable pub form_of : List OperationForm → List ℕ → Option OperationForm
form_of forms word = find (λ form. is form.word word) forms

-- The bytes of the operation of this name, with the arguments that the next words denote, and the words after them.
unfoldable pub named_at : List OperationForm → List ℕ → List (List ℕ) → Option (List ℕ × List (List ℕ))
named_at forms name words = do
  form ← form_of forms name
  arguments_after form.first form.arguments words

-- The operation whose bytes the next word encodes in hex, and the words after it.
unfoldable pub raw_at : List (List ℕ) → Option (List ℕ × List (List ℕ))
raw_at words = do
  word ← word_at words
  bytes ← decode_hex_word max_operation word.0
  Some (bytes, word.1)

-- The bytes of the operation that the next words denote, for an object with these forms, and the words after them.
unfoldable pub operation_at : List OperationForm → List (List ℕ) → Option (List ℕ × List (List ℕ))
operation_at forms words = do
  word ← word_at words
  if is (codes "raw") word.0 then raw_at word.1 else named_at forms word.0 word.1
