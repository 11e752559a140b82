-- How packs of calls are encoded: the count, and the calls.
-- Formats: Payloads
use Rattle.std.proofs.Common.{◌≡◌, ℕ, ◌+◌, ◌≤◌, Bool, true, List, [], ◌∷◌, length, Option, refl, arith, ap}
use Rattle.std.specs.Prelude.{nat_le, ◌&&◌}
use Rattle.std.specs.List.{flat_map, AllByRecursion}
use Rattle.std.proofs.lemmas.Bool.{leb-true, le-leb}
use Rattle.std.proofs.lemmas.Bool.Decides.{nat_tests}
use Rattle.std.proofs.lemmas.List.{length-append}
use Rattle.std.proofs.lemmas.List.Concat.{flat_map-cons}
use Rattle.ring_codec.specs.Reading.{IsFormat, mapped_at}
use Rattle.ring_codec.specs.Formats.{Format, byte_field, dependent_pair_format, repeated_format, tested_format, fields_format}
use Rattle.ring_payload.specs.declared.call.Call.{Call}
use Rattle.ring_payload.specs.declared.calls.Pack.{Pack}
use Rattle.ring_payload.specs.Calls.{call, call_bytes, call_encoding, CallFits}
use Rattle.ring_payload.specs.Limits.{min_pack_calls, max_pack_calls, max_pack_bytes}

-- the total length of the calls' encodings, in bytes
abbrev pub calls_bytes : {A : Type 0} → List (Call A) → ℕ
calls_bytes [] = 0
calls_bytes (c ∷ cs) = call_bytes c + calls_bytes cs

-- the length of the calls as a pack, in bytes: the tag, the count, and the calls
abbrev pub pack_bytes : {A : Type 0} → List (Call A) → ℕ
pack_bytes cs = 2 + calls_bytes cs

-- the encoding of a pack: its count in one byte, then its calls
abbrev pub pack_encoding : {A : Type 0} → Pack A → List ℕ
pack_encoding p = length p.calls ∷ flat_map call_encoding p.calls

-- the limits of a pack: 2 to 16 calls, each within its own limits, and at most 7,276 bytes as a whole payload
pub record PackFits {A : Type 0} (p : Pack A) : Type 0 where
  pub some : min_pack_calls ≤ length p.calls
  pub few : length p.calls ≤ max_pack_calls
  pub each : AllByRecursion CallFits p.calls
  pub short : pack_bytes p.calls ≤ max_pack_bytes

-- the calls' encodings together have the length `calls_bytes`
pub length-calls : {A : Type 0} (cs : List (Call A)) → length (flat_map call_encoding cs) ≡ calls_bytes cs
length-calls [] = refl
length-calls (c ∷ cs) =
    let e = ap length (flat_map-cons call_encoding c cs) in
    let l = length-append (call_encoding c) (flat_map call_encoding cs) in
    omega (arith, e, l, length-calls cs)

-- whether a pack may have this number of calls, as a test
abbrev is_pack_count : ℕ → Bool
is_pack_count n = nat_le min_pack_calls n && nat_le n max_pack_calls

-- a pack may have this number of calls: 2 to 16
abbrev IsPackCount : ℕ → Type 0
IsPackCount n = (min_pack_calls ≤ n) × (n ≤ max_pack_calls)

is_pack_count-true : (n : ℕ) → is_pack_count n ≡ true → IsPackCount n
is_pack_count-true n h = grind (arith, nat_tests)

true-is_pack_count : (n : ℕ) → IsPackCount n → is_pack_count n ≡ true
true-is_pack_count n h = grind (arith, nat_tests)

-- whether a pack of these calls is within the limit of bytes, as a test
abbrev pub is_within_pack_bytes : {A : Type 0} → List (Call A) → Bool
is_within_pack_bytes cs = nat_le (pack_bytes cs) max_pack_bytes

-- the format of a count and that many calls
abbrev calls : {A : Type 0} → Format (ℕ × List (Call A))
calls = dependent_pair_format (tested_format is_pack_count byte_field) (λ n. repeated_format n call)

-- the fields of a pack: its count and its calls, within the limit of bytes
abbrev pack_fields : {A : Type 0} → Format (ℕ × List (Call A))
pack_fields = tested_format (λ p. is_within_pack_bytes p.1) calls

-- the pack with these fields
abbrev from_fields : {A : Type 0} → ℕ × List (Call A) → Pack A
from_fields p = record { calls = p.1 }

-- reads a pack from the front
unfoldable pub pack_at : {A : Type 0} → List ℕ → Option (Pack A × List ℕ)
pack_at {A} bytes = mapped_at from_fields (pack_fields {A = A}).at bytes

-- a pack is read exactly
pub pack_format : {A : Type 0} → IsFormat {A = Pack A} pack_encoding PackFits pack_at
unfolding pack_at
pack_format {A} = fields_format (pack_fields {A = A}) from_fields pack_encoding PackFits (record {
  encoded = λ p f. rw f.0.1.0 refl;
  fits = λ p f.
      let count = is_pack_count-true p.0 f.0.0.1 in
      record { some = omega (arith, count, f.0.1.0); few = omega (arith, count, f.0.1.0); each = f.0.1.1; short = leb-true _ _ f.1 };
  back = λ p f. (
    (length p.calls, p.calls),
    (((omega (arith, f.few), true-is_pack_count (length p.calls) (f.some, f.few)), (refl, f.each)), le-leb _ _ f.short),
    refl,
  );
})

-- the format of packs
abbrev pub pack : {A : Type 0} → Format (Pack A)
pack = record { encoding = pack_encoding; Fits = PackFits; at = pack_at; exact = pack_format }

-- the calls of a pack have at most 7,274 bytes
pub length-pack : {A : Type 0} (p : Pack A) → PackFits p → length (flat_map call_encoding p.calls) ≤ 7274
length-pack p f = omega (arith, length-calls p.calls, f.short)
