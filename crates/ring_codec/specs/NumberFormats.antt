-- Numbers and bytes are read exactly.
-- Formats: Numbers and parts
use Rattle.std.proofs.Common.{◌≡◌, ℕ, suc, ◌+◌, ◌<◌, ◌≤◌, Bool, true, false, cond, ltb, List, [], ◌∷◌, ◌++◌, length}
use Rattle.std.proofs.Common.{take, drop, Some, None, refl, sym, ap, subst, ◌∙◌, arith, inl, inr}
use Rattle.std.proofs.lemmas.Bool.{cases_lt, ltb-false, le-ltb}
use Rattle.std.proofs.lemmas.List.{drop_at, take-append-drop, length-append, length-take, get_or-drop, get_or-take, get_or_past}
use Rattle.std.proofs.lemmas.Nat.{be_bytes_2, be_bytes_4, be_bytes_8}
use Rattle.byteorder.specs.Endian.{big_bytes, big_number}
use Rattle.byteorder.specs.Numbers.{big_number-reads_back, big_from-append, big_from-lt, length-bytes_high_first}
use Rattle.ring_codec.specs.Reading.{IsBytes, IsSplitAfter, IsFormat, IsWord, number_at, byte_at}

-- bytes without their first n are bytes
pub IsBytes-drop : (n : ℕ) (bytes : List ℕ) → IsBytes bytes → IsBytes (drop n bytes)
IsBytes-drop n bytes h i = rw get_or-drop (h (n + i))

-- the first n of bytes are bytes
pub IsBytes-take : (n : ℕ) (bytes : List ℕ) → IsBytes bytes → IsBytes (take n bytes)
IsBytes-take n bytes h i =
    elim (cases_lt i n) [
      | inl lt ↦ rw (get_or-take n bytes i 0 lt) (h i)
      | inr le ↦ rw (get_or_past (take n bytes) i 0 (omega (arith, length-take n bytes))) (omega arith)
    ]

-- if a guard let a value through, its test was false
pub guard_some : {A : Type 0} (b : Bool) (x y : A) → cond b None (Some x) ≡ Some y → (b ≡ false) × (x ≡ y)
guard_some true x y e = absurd cc
guard_some false x y e = (refl, cc)

-- n bytes are the encoding of the number that they stand for
abbrev IsWidthExact : ℕ → Type 0
IsWidthExact n = (bytes : List ℕ) → length bytes ≡ n → IsBytes bytes → big_bytes n (big_number n bytes) ≡ bytes

wide8 : IsWidthExact 8
wide8 bytes len fits = be_bytes_8 bytes _ len fits (omega arith)

wide4 : IsWidthExact 4
wide4 bytes len fits = be_bytes_4 bytes _ len fits (omega arith)

wide2 : IsWidthExact 2
wide2 bytes len fits = be_bytes_2 bytes _ len fits (omega arith)

number_format : (n : ℕ) → IsWidthExact n → IsFormat (λ v. big_bytes n v) (IsWord n) (number_at n)
number_format n wide = record {
  takes = λ bytes x fits e.
      let g = guard_some (ltb (length bytes) n) (big_number n bytes, drop n bytes) x e in
      let long : n ≤ length bytes = ltb-false _ _ g.0 in
      let len : length (take n bytes) ≡ n = omega (arith, length-take n bytes) in
      let whole = take-append-drop n bytes in
      let same : big_number n bytes ≡ big_number n (take n bytes) = ap (big_number n) (sym whole) ∙ big_from-append n
      (take n bytes) (drop n bytes) (omega arith) in
      let front : big_bytes n (big_number n bytes) ≡ take n bytes = ap (big_bytes n) same ∙ wide (take n bytes) len (IsBytes-take n bytes fits) in
      let P : ℕ × List ℕ → Type 0 = λ y. IsSplitAfter bytes (big_bytes n y.0) y.1 × IsWord n y.0 in
      subst P g.1 (record { parts = rw front (sym whole); rest_fits = IsBytes-drop n bytes fits }, big_from-lt 0 n bytes fits);
  again = λ v rest lt.
      let len : length (big_bytes n v) ≡ n = length-bytes_high_first n v in
      let long : ltb (length (big_bytes n v ++ rest)) n ≡ false = le-ltb _ _ (omega (arith, length-append (big_bytes n v) rest)) in
      rw (long, drop_at (big_bytes n v) rest n len, big_number-reads_back n v rest lt) refl;
}

-- numbers of 8 bytes are read exactly
pub number_format8 : IsFormat (λ v. big_bytes 8 v) (IsWord 8) (number_at 8)
number_format8 = number_format 8 wide8

-- numbers of 4 bytes are read exactly
pub number_format4 : IsFormat (λ v. big_bytes 4 v) (IsWord 4) (number_at 4)
number_format4 = number_format 4 wide4

-- numbers of 2 bytes are read exactly
pub number_format2 : IsFormat (λ v. big_bytes 2 v) (IsWord 2) (number_at 2)
number_format2 = number_format 2 wide2

take_byte : (bytes : List ℕ) (x : ℕ × List ℕ) → IsBytes bytes → byte_at bytes ≡ Some x → IsSplitAfter bytes (x.0 ∷ []) x.1 × (x.0 < 256)
take_byte [] x fits e = absurd cc
take_byte (b ∷ bytes) x fits e =
    let made : ℕ × List ℕ = (b, bytes) in
    let is : made ≡ x = cc in
    let P : ℕ × List ℕ → Type 0 = λ y. IsSplitAfter (b ∷ bytes) (y.0 ∷ []) y.1 × (y.0 < 256) in
    subst P is (record { parts = refl; rest_fits = λ i. fits (suc i) }, fits 0)

-- one byte is read exactly
pub byte_format : IsFormat (λ n. n ∷ []) (λ n. n < 256) byte_at
byte_format = record { takes = take_byte; again = λ v rest f. refl }
