-- How parts of a log are encoded: the first place, the count, and the calls.
-- Formats: Payloads
use Rattle.std.proofs.Common.{◌≡◌, ℕ, ◌*◌, ◌≤◌, Bool, true, List, [], ◌∷◌, length, Option, refl, arith, ap}
use Rattle.std.specs.Prelude.{nat_le, ◌&&◌}
use Rattle.std.specs.List.{flat_map, AllByRecursion}
use Rattle.std.proofs.lemmas.Bool.{leb-true, le-leb}
use Rattle.std.proofs.lemmas.Bool.Decides.{nat_tests}
use Rattle.std.proofs.lemmas.List.{length-append}
use Rattle.std.proofs.lemmas.List.Concat.{flat_map-cons}
use Rattle.byteorder.specs.Endian.{big_bytes}
use Rattle.ring_codec.specs.BaseReexports.{max_number}
use Rattle.ring_codec.specs.Reading.{IsFormat, mapped_at, ◌⊕◌}
use Rattle.ring_codec.specs.Formats.{Format, byte_field, dependent_pair_format, repeated_format, tested_format, fields_format, ◌&◌}
use Rattle.ring_codec.specs.Rings.{number}
use Rattle.ring_payload.specs.declared.call.Call.{Call}
use Rattle.ring_payload.specs.declared.calls.Part.{Part}
use Rattle.ring_payload.specs.Limits.{max_part_calls}
use Rattle.ring_payload.specs.Calls.{call, call_encoding, CallFits}

-- the encoding of a part: its first place in 8 bytes, its count in one, then its calls
abbrev pub part_encoding : {A : Type 0} → Part A → List ℕ
part_encoding p = big_bytes 8 p.first ⊕ length p.calls ∷ flat_map call_encoding p.calls

-- the limits of a part: a first place of at most `max_number`, and 1 to 7 calls, each within its own limits
pub record PartFits {A : Type 0} (p : Part A) : Type 0 where
  pub first : p.first ≤ max_number
  pub some : 1 ≤ length p.calls
  pub few : length p.calls ≤ max_part_calls
  pub each : AllByRecursion CallFits p.calls

-- whether a part may have this number of calls, as a test
abbrev is_part_count : ℕ → Bool
is_part_count n = nat_le 1 n && nat_le n max_part_calls

-- a part may have this number of calls: 1 to 7
abbrev IsPartCount : ℕ → Type 0
IsPartCount n = (1 ≤ n) × (n ≤ max_part_calls)

is_part_count-true : (n : ℕ) → is_part_count n ≡ true → IsPartCount n
is_part_count-true n h = grind (arith, nat_tests)

true-is_part_count : (n : ℕ) → IsPartCount n → is_part_count n ≡ true
true-is_part_count n h = grind (arith, nat_tests)

-- the format of a count and that many calls
abbrev calls : {A : Type 0} → Format (ℕ × List (Call A))
calls = dependent_pair_format (tested_format is_part_count byte_field) (λ n. repeated_format n call)

-- the fields of a part: its first place, its count and its calls
abbrev part_fields : {A : Type 0} → Format (ℕ × (ℕ × List (Call A)))
part_fields = number & calls

-- the part with these fields
abbrev from_fields : {A : Type 0} → ℕ × (ℕ × List (Call A)) → Part A
from_fields p = record { first = p.0; calls = p.1.1 }

-- reads a part from the front
unfoldable pub part_at : {A : Type 0} → List ℕ → Option (Part A × List ℕ)
part_at {A} bytes = mapped_at from_fields (part_fields {A = A}).at bytes

-- a part is read exactly
pub part_format : {A : Type 0} → IsFormat {A = Part A} part_encoding PartFits part_at
unfolding part_at
part_format {A} = fields_format (part_fields {A = A}) from_fields part_encoding PartFits (record {
  encoded = λ p f. rw f.1.1.0 refl;
  fits = λ p f.
      let count = is_part_count-true p.1.0 f.1.0.1 in
      record { first = leb-true _ _ f.0.1; some = omega (arith, count, f.1.1.0); few = omega (arith, count, f.1.1.0); each = f.1.1.1 };
  back = λ p f. (
    (p.first, (length p.calls, p.calls)),
    (
      (omega (arith, f.first), le-leb _ _ f.first),
      ((omega (arith, f.few), true-is_part_count (length p.calls) (f.some, f.few)), (refl, f.each)),
    ),
    refl,
  );
})

-- the format of parts
abbrev pub part : {A : Type 0} → Format (Part A)
part = record { encoding = part_encoding; Fits = PartFits; at = part_at; exact = part_format }

-- n calls have at most 1,038 * n bytes
length-calls : {A : Type 0} (cs : List (Call A)) → AllByRecursion CallFits cs → length (flat_map call_encoding cs) ≤ 1038 * length cs
length-calls [] f = omega arith
length-calls (c ∷ cs) f =
    let e = ap length (flat_map-cons call_encoding c cs) in
    let l = length-append (call_encoding c) (flat_map call_encoding cs) in
    omega (arith, e, l, length-calls cs f.1, f.0.op)

-- the calls of a part have at most 7,266 bytes
pub length-part : {A : Type 0} (p : Part A) → PartFits p → length (flat_map call_encoding p.calls) ≤ 7266
length-part p f = omega (arith, length-calls p.calls f.each, f.few)
