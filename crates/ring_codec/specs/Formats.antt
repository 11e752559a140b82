-- Combinations of formats, each with the law that its reading is exact.
-- Formats: Numbers and parts
use Rattle.std.proofs.Common.{◌≡◌, ℕ, ◌^◌, ◌<◌, Bool, true, List, [], ◌∷◌, ◌++◌, length, Option, refl, ap, subst, ◌∙◌}
use Rattle.std.specs.List.{flat_map, AllByRecursion}
use Rattle.byteorder.specs.Endian.{big_bytes}
use Rattle.ring_codec.specs.Reading.{IsFormat, IsWord, number_at, byte_at, raw_bytes_at, repeated_at, sequence_at, tested_at, mapped_at, empty_at, sized_at}
use Rattle.ring_codec.specs.NumberFormats.{byte_format, number_format2, number_format4, number_format8}
use Rattle.ring_codec.specs.ReadingLaws.{text_format, then_format, such_format, made_format, times_format, empty_format, sized_format}

-- a format: the encoding of values, their limits, how they are read, and the law that the reading is exact
pub record Format (A : Type 0) : Type 1 where
  pub encoding : A → List ℕ
  pub Fits : A → Type 0
  pub at : List ℕ → Option (A × List ℕ)
  pub exact : IsFormat encoding Fits at

-- one byte
abbrev pub byte_field : Format ℕ
byte_field = record { encoding = λ n. n ∷ []; Fits = λ n. n < 256; at = byte_at; exact = byte_format }

-- numbers of 2 bytes
abbrev pub u16_field : Format ℕ
u16_field = record { encoding = λ n. big_bytes 2 n; Fits = IsWord 2; at = number_at 2; exact = number_format2 }

-- numbers of 4 bytes
abbrev pub u32_field : Format ℕ
u32_field = record { encoding = λ n. big_bytes 4 n; Fits = IsWord 4; at = number_at 4; exact = number_format4 }

-- numbers of 8 bytes
abbrev pub u64_field : Format ℕ
u64_field = record { encoding = λ n. big_bytes 8 n; Fits = IsWord 8; at = number_at 8; exact = number_format8 }

-- n bytes as they are
abbrev pub text : ℕ → Format (List ℕ)
text n = record { encoding = λ t. t; Fits = λ t. length t ≡ n; at = raw_bytes_at n; exact = text_format n }

-- one value, then another
infixr 20 ◌&◌
abbrev pub ◌&◌ : {A B : Type 0} → Format A → Format B → Format (A × B)
a & b = record {
  encoding = λ p. a.encoding p.0 ++ b.encoding p.1;
  Fits = λ p. a.Fits p.0 × b.Fits p.1;
  at = sequence_at a.at (λ x. b.at);
  exact = then_format a.encoding a.Fits a.at (λ x. b.encoding) (λ x. b.Fits) (λ x. b.at) a.exact (λ x f. b.exact);
}

-- one value, then another whose format depends on it
abbrev pub dependent_pair_format : {A B : Type 0} → Format A → (A → Format B) → Format (A × B)
dependent_pair_format a b = record {
  encoding = λ p. a.encoding p.0 ++ (b p.0).encoding p.1;
  Fits = λ p. a.Fits p.0 × (b p.0).Fits p.1;
  at = sequence_at a.at (λ x. (b x).at);
  exact = then_format a.encoding a.Fits a.at (λ x. (b x).encoding) (λ x. (b x).Fits) (λ x. (b x).at) a.exact (λ x f. (b x).exact);
}

-- n values, one after the other
abbrev pub repeated_format : {A : Type 0} → ℕ → Format A → Format (List A)
repeated_format n a = record {
  encoding = flat_map a.encoding;
  Fits = λ xs. (length xs ≡ n) × AllByRecursion a.Fits xs;
  at = repeated_at n a.at;
  exact = times_format a.encoding a.Fits a.at a.exact n;
}

-- the values that pass a test
abbrev pub tested_format : {A : Type 0} → (A → Bool) → Format A → Format A
tested_format test a = record {
  encoding = a.encoding;
  Fits = λ v. a.Fits v × (test v ≡ true);
  at = tested_at test a.at;
  exact = such_format a.encoding a.Fits (λ v. a.Fits v × (test v ≡ true)) a.at test (λ v f h. (f, h)) (λ v f. f) a.exact;
}

-- no bytes
abbrev pub empty_format_of_unit : Format (Unit {0})
empty_format_of_unit = record { encoding = λ u. []; Fits = λ u. Unit {0}; at = empty_at tt; exact = empty_format }

-- a length of 4 bytes, and a value of exactly that many bytes
abbrev pub length_prefixed_format : {A : Type 0} (a : Format A) → ((v : A) → a.Fits v → length (a.encoding v) < 256 ^ 4) → Format A
length_prefixed_format a short = record {
  encoding = λ v. big_bytes 4 (length (a.encoding v)) ++ a.encoding v;
  Fits = a.Fits;
  at = sized_at a.at;
  exact = sized_format a.encoding a.Fits a.at short a.exact;
}

-- ---- values made of fields

-- the values that fit are exactly those made of fields that fit, and are encoded as these
pub record IsMadeOfFields {A B : Type 0} (fields : Format A) (make : A → B) (encoding : B → List ℕ) (Fits : B → Type 0) : Type 0 where
  pub encoded : (a : A) → fields.Fits a → encoding (make a) ≡ fields.encoding a
  pub fits : (a : A) → fields.Fits a → Fits (make a)
  pub back : (b : B) → Fits b → (a : A) × fields.Fits a × (make a ≡ b)

-- a value made of fields is read exactly
pub fields_format : {A B : Type 0} (fields : Format A) (make : A → B) (encoding : B → List ℕ) (Fits : B → Type 0)
    → IsMadeOfFields fields make encoding Fits → IsFormat encoding Fits (mapped_at make fields.at)
fields_format fields make encoding Fits told = made_format fields.encoding fields.Fits fields.at encoding Fits make
    (λ a f. (told.encoded a f, told.fits a f)) told.back fields.exact

-- the values that fit are exactly those made of fields that fit and pass the test, and are encoded as these
pub record IsMadeOfTestedFields {A B : Type 0} (fields : Format A) (make : A → B) (test : B → Bool) (encoding : B → List ℕ) (Fits : B → Type 0) : Type 0 where
  pub encoded : (a : A) → encoding (make a) ≡ fields.encoding a
  pub fits : (a : A) → fields.Fits a → test (make a) ≡ true → Fits (make a)
  pub back : (b : B) → Fits b → (a : A) × fields.Fits a × (make a ≡ b)
  pub passes : (b : B) → Fits b → test b ≡ true

-- the value is made of fields that fit
abbrev pub IsMadeOf : {A B : Type 0} → Format A → (A → B) → B → Type 0
IsMadeOf {A} fields make b = (a : A) × fields.Fits a × (make a ≡ b)

-- a value made of fields that pass a test together is read exactly
pub tested_fields_format : {A B : Type 0} (fields : Format A) (make : A → B) (test : B → Bool) (encoding : B → List ℕ)
    (Fits : B → Type 0) → IsMadeOfTestedFields fields make test encoding Fits
    → IsFormat encoding Fits (tested_at test (mapped_at make fields.at))
tested_fields_format {A} {B} fields make test encoding Fits tested =
    such_format encoding (IsMadeOf fields make) Fits (mapped_at make fields.at) test
    (λ b f passed. subst Fits f.2 (tested.fits f.0 f.1 (ap test f.2 ∙ passed)))
    (λ b f. (tested.back b f, tested.passes b f))
    (made_format fields.encoding fields.Fits fields.at encoding (IsMadeOf fields make) make (λ a f. (tested.encoded a, (a, f, refl))) (λ b f. f) fields.exact)
