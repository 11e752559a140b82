-- Lists of numbers of a width in bytes, big-endian: their encoding, their decoding, and that the two are inverse.
use Rattle.std.proofs.Common.{◌≡◌, ℕ, zero, suc, ◌*◌, ◌^◌, ◌<◌, ◌≤◌, List, [], ◌∷◌, ◌++◌, length, take, drop, All, refl, sym, ap, ◌∙◌, arith}
use Rattle.std.proofs.Common.{append-nil}
use Rattle.std.specs.List.{flat_map}
use Rattle.std.proofs.lemmas.List.{drop_at, take-append-drop, length-append, length-take, length-drop, nil_from_length}
use Rattle.std.proofs.lemmas.List.Concat.{flat_map-cons}
use Rattle.std.proofs.lemmas.List.Elements.{All-take, All-drop, All-cons, All-nil, All-head, All-tail}
use Rattle.std.proofs.lemmas.Nat.{be_bytes_2, be_bytes_8}
use Rattle.byteorder.specs.Endian.{big_bytes, big_number}
use Rattle.byteorder.specs.Numbers.{big_number-reads_back, big_from-append, big_from-lt, length-bytes_high_first}
use Rattle.ring_object.specs.Bytes.{AreBytes, AreBytes-get_or}

-- The bytes of the numbers.
abbrev pub list_encoding : ℕ → List ℕ → List ℕ
list_encoding width numbers = flat_map (λ number. big_bytes width number) numbers

-- The first `count` numbers of the bytes.
unfoldable pub numbers_from_bytes : ℕ → ℕ → List ℕ → List ℕ
numbers_from_bytes width zero bytes = []
numbers_from_bytes width (suc count) bytes = big_number width bytes ∷ numbers_from_bytes width count (drop width bytes)

-- The numbers fit the width.
abbrev pub AreNumbers : ℕ → List ℕ → Type 0
AreNumbers width numbers = All (λ number. number < 256 ^ width) numbers

-- A number decoded from bytes fits the width.
pub big_number-lt : (width : ℕ) (bytes : List ℕ) → AreBytes bytes → big_number width bytes < 256 ^ width
big_number-lt width bytes are = big_from-lt 0 width bytes (AreBytes-get_or bytes are)

-- Only the first `width` bytes matter for the number.
pub big_number-take : (width : ℕ) (bytes : List ℕ) → width ≤ length bytes → big_number width bytes ≡ big_number width (take width bytes)
big_number-take width bytes long =
    ap (big_number width) (sym (take-append-drop width bytes)) ∙ big_from-append width (take width bytes)
    (drop width bytes) (omega (arith, length-take width bytes))

-- The width is exact: a number decoded from bytes of this width is encoded to these bytes.
abbrev pub IsExact : ℕ → Type 0
IsExact width = (bytes : List ℕ) → length bytes ≡ width → AreBytes bytes → big_bytes width (big_number width bytes) ≡ bytes

-- 8 bytes are an exact width.
pub exact_8 : IsExact 8
exact_8 bytes len are = be_bytes_8 bytes _ len (AreBytes-get_or bytes are) (omega arith)

-- 2 bytes are an exact width.
pub exact_2 : IsExact 2
exact_2 bytes len are = be_bytes_2 bytes _ len (AreBytes-get_or bytes are) (omega arith)

-- The number at the start of the bytes is encoded to their first `width` bytes.
pub big_bytes-big_number : (width : ℕ) → IsExact width → (bytes : List ℕ) → width ≤ length bytes → AreBytes bytes
    → big_bytes width (big_number width bytes) ++ drop width bytes ≡ bytes
big_bytes-big_number width exact bytes long are =
    let front = exact (take width bytes) (omega (arith, length-take width bytes)) (All-take (λ byte. byte < 256) width bytes are) in
    rw (big_number-take width bytes long, front) (take-append-drop width bytes)

-- The encoding has `width` bytes for each number.
pub length-list_encoding : (width : ℕ) (numbers : List ℕ) → length (list_encoding width numbers) ≡ width * length numbers
length-list_encoding width [] = omega arith
length-list_encoding width (x ∷ xs) =
    rw (
      flat_map-cons (λ number. big_bytes width number) x xs,
      length-append (big_bytes width x) (list_encoding width xs),
      length-bytes_high_first width x,
      length-list_encoding width xs,
    ) (omega arith)

-- `count` numbers are decoded.
pub length-numbers_from_bytes : (width count : ℕ) (bytes : List ℕ) → length (numbers_from_bytes width count bytes) ≡ count
unfolding numbers_from_bytes
length-numbers_from_bytes width zero bytes = refl
length-numbers_from_bytes width (suc count) bytes = ap suc (length-numbers_from_bytes width count (drop width bytes))

-- Decoded numbers fit the width.
pub AreNumbers-numbers_from_bytes : (width count : ℕ) (bytes : List ℕ) → AreBytes bytes → AreNumbers width (numbers_from_bytes width count bytes)
unfolding numbers_from_bytes
AreNumbers-numbers_from_bytes width zero bytes are = All-nil (λ number. number < 256 ^ width)
AreNumbers-numbers_from_bytes width (suc count) bytes are =
    All-cons (λ number. number < 256 ^ width) (big_number width bytes) (numbers_from_bytes width count (drop width bytes)) (big_number-lt width bytes are)
    (AreNumbers-numbers_from_bytes width count (drop width bytes) (All-drop (λ byte. byte < 256) width bytes are))

-- Encoded numbers are decoded to themselves.
pub numbers_from_bytes-list_encoding : (width : ℕ) (numbers : List ℕ) → AreNumbers width numbers → numbers_from_bytes width (length numbers) (list_encoding width numbers) ≡ numbers
unfolding numbers_from_bytes
numbers_from_bytes-list_encoding width [] are = refl
numbers_from_bytes-list_encoding width (x ∷ xs) are =
    let rest : drop width (big_bytes width x ++ list_encoding width xs) ≡ list_encoding width xs = drop_at (big_bytes width x)
    (list_encoding width xs) width (length-bytes_high_first width x) in
    let first : big_number width (big_bytes width x ++ list_encoding width xs) ≡ x = big_number-reads_back width x
    (list_encoding width xs) (All-head (λ number. number < 256 ^ width) x xs are) in
    let others : numbers_from_bytes width (length xs) (list_encoding width xs) ≡ xs = numbers_from_bytes-list_encoding width xs (All-tail (λ number. number < 256 ^ width) x xs are) in
    rw (flat_map-cons (λ number. big_bytes width number) x xs, first, rest, others) refl

-- Decoded numbers are encoded to the bytes.
pub list_encoding-numbers_from_bytes : (width : ℕ) → IsExact width → (count : ℕ) (bytes : List ℕ) → length bytes ≡ width * count
    → AreBytes bytes → list_encoding width (numbers_from_bytes width count bytes) ≡ bytes
unfolding numbers_from_bytes
list_encoding-numbers_from_bytes width exact zero bytes len are = sym (nil_from_length bytes (omega arith))
list_encoding-numbers_from_bytes width exact (suc count) bytes len are =
    let others = list_encoding-numbers_from_bytes width exact count (drop width bytes) (omega (arith, length-drop width bytes))
    (All-drop (λ byte. byte < 256) width bytes are) in
    rw (
      flat_map-cons (λ number. big_bytes width number) (big_number width bytes)
          (numbers_from_bytes width count (drop width bytes)),
      others,
    ) (big_bytes-big_number width exact bytes (omega arith) are)

-- An encoded number is decoded to itself.
pub big_number-whole : (width number : ℕ) → number < 256 ^ width → big_number width (big_bytes width number) ≡ number
big_number-whole width number fits =
    ap (big_number width) (sym (append-nil (big_bytes width number))) ∙ big_number-reads_back width number [] fits

-- An encoded number and the text after it are recovered from their concatenation.
pub sized_text-split : (width number : ℕ) (text : List ℕ) → number < 256 ^ width →
    (big_number width (big_bytes width number ++ text) ≡ number) × (drop width (big_bytes width number ++ text) ≡ text)
sized_text-split width number text fits =
    (big_number-reads_back width number text fits, drop_at (big_bytes width number) text width (length-bytes_high_first width number))

-- A decoded number and the rest concatenate to the bytes.
pub sized_text-join : (width : ℕ) → IsExact width → (bytes : List ℕ) → width ≤ length bytes → AreBytes bytes → (number : ℕ) (text : List ℕ) →
    number ≡ big_number width bytes → text ≡ drop width bytes → big_bytes width number ++ text ≡ bytes
sized_text-join width exact bytes long are number text is_number is_text =
    rw (is_number, is_text) (big_bytes-big_number width exact bytes long are)
