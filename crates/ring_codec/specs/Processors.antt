-- How processors and sets of them are encoded.
-- Formats: Numbers and parts
use Rattle.std.proofs.Common.{◌≡◌, ℕ, ◌<◌, ◌≤◌, Bool, true, List, [], ◌∷◌, Option, Some, None, refl, arith, inl, inr}
use Rattle.std.specs.Prelude.{nat_le, ◌&&◌, ◌==◌, if◌then◌else◌}
use Rattle.std.proofs.lemmas.Bool.{le-leb, leb-true, eqb-true, eqb-false, cases_Bool}
use Rattle.std.proofs.lemmas.Bool.Decides.{nat_tests}
use Rattle.ring_base.specs.Processors.{IsProc, max_processors}
use Rattle.ring_codec.specs.Reading.{IsFormat, byte_at, tested_at, mapped_at}
use Rattle.ring_codec.specs.NumberFormats.{byte_format}
use Rattle.ring_codec.specs.ReadingLaws.{such_format}
use Rattle.ring_codec.specs.Formats.{Format, byte_field, tested_format, fields_format}

-- ---- a processor: its number, 1 to 16, in one byte

-- the encoding of a processor: one byte
abbrev pub proc_encoding : ℕ → List ℕ
proc_encoding n = n ∷ []

-- whether the number is a processor, 1 to 16, as a test
abbrev pub is_proc : ℕ → Bool
is_proc n = nat_le 1 n && nat_le n max_processors

-- a number that passes the test is a processor
is_proc-true : (n : ℕ) → is_proc n ≡ true → IsProc n
is_proc-true n h = grind (arith, nat_tests)

-- a processor passes the test
true-is_proc : (n : ℕ) → IsProc n → is_proc n ≡ true
true-is_proc n h = grind (arith, nat_tests)

-- reads a processor from the front
unfoldable pub proc_at : List ℕ → Option (ℕ × List ℕ)
proc_at bytes = tested_at is_proc byte_at bytes

-- a processor is read exactly
pub proc_format : IsFormat proc_encoding IsProc proc_at
unfolding proc_at
proc_format = such_format proc_encoding (λ n. n < 256) IsProc byte_at is_proc (λ n f h. is_proc-true n h)
    (λ n f. (omega (arith, f), true-is_proc n f)) byte_format

-- the format of processors
abbrev pub proc : Format ℕ
proc = record { encoding = proc_encoding; Fits = IsProc; at = proc_at; exact = proc_format }

-- ---- a processor or none: one byte, 0 for none

-- the encoding of a processor or none: one byte
abbrev pub some_proc_encoding : Option ℕ → List ℕ
some_proc_encoding None = 0 ∷ []
some_proc_encoding (Some n) = n ∷ []

-- the limits of a processor or none
abbrev pub SomeProcFits : Option ℕ → Type 0
SomeProcFits None = Unit {0}
SomeProcFits (Some n) = IsProc n

-- the processor with the number, or none for 0
abbrev some_proc_of : ℕ → Option ℕ
some_proc_of n = if n == 0 then None else Some n

-- reads a processor or none from the front
unfoldable pub some_proc_at : List ℕ → Option (Option ℕ × List ℕ)
some_proc_at bytes = mapped_at some_proc_of (tested_at (λ n. nat_le n max_processors) byte_at) bytes

encoded : (n : ℕ) → some_proc_encoding (some_proc_of n) ≡ n ∷ []
encoded n = elim (cases_Bool (n == 0)) [
  | inl e ↦ let z : n ≡ 0 = eqb-true n 0 e in rw z refl
  | inr e ↦ rw e refl
]

fits : (n : ℕ) → n ≤ max_processors → SomeProcFits (some_proc_of n)
fits n le = elim (cases_Bool (n == 0)) [
  | inl e ↦ rw e tt
  | inr e ↦ let some : 1 ≤ n = omega (arith, eqb-false n 0 e) in rw e (some, le)
]

back : (o : Option ℕ) → SomeProcFits o → (n : ℕ) × (n ≤ max_processors) × (some_proc_of n ≡ o)
back None f = (0, omega arith, refl)
back (Some p) f =
    elim (cases_Bool (p == 0)) [
      | inl e ↦ absurd (omega (arith, eqb-true p 0 e, f.0))
      | inr e ↦ (p, f.1, rw e refl)
    ]

-- a processor or none is read exactly
pub some_proc_format : IsFormat some_proc_encoding SomeProcFits some_proc_at
unfolding some_proc_at
some_proc_format = fields_format (tested_format (λ n. nat_le n max_processors) byte_field) some_proc_of some_proc_encoding SomeProcFits (record {
  encoded = λ n f. encoded n;
  fits = λ n f. fits n (leb-true n max_processors f.1);
  back = λ o f. let b = back o f in (b.0, (omega (arith, b.1), le-leb b.0 max_processors b.1), b.2);
})

-- the format of a processor or none
abbrev pub some_proc : Format (Option ℕ)
some_proc = record { encoding = some_proc_encoding; Fits = SomeProcFits; at = some_proc_at; exact = some_proc_format }
