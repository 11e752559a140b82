-- How heads of logs are encoded: a tag, the last primary or none, the length, the committed length and, if above 0,
-- the trimmed length.
-- Formats: Payloads
use Rattle.std.proofs.Common.{◌≡◌, ℕ, ◌≤◌, Bool, true, false, List, [], ◌∷◌, Option, Some, None, refl, arith, inl, inr, eq-eqb}
use Rattle.std.specs.Prelude.{nat_le, ◌&&◌, ◌||◌, ◌==◌, is_some, if◌then◌else◌}
use Rattle.std.proofs.lemmas.Bool.{leb-true, le-leb, eqb-true, eqb-false, and_parts, cases_Bool}
use Rattle.byteorder.specs.Endian.{big_bytes}
use Rattle.ring_codec.specs.BaseReexports.{max_number, RingId}
use Rattle.ring_codec.specs.Reading.{IsFormat, tested_at, mapped_at, ◌⊕◌}
use Rattle.ring_codec.specs.Formats.{Format, u64_field, ◌&◌, tested_format, tested_fields_format}
use Rattle.ring_codec.specs.TaggedCases.{Case, tagged_case, tagged_cases_at, IsMade, cases_format}
use Rattle.ring_codec.specs.Rings.{some_ring, some_ring_encoding, SomeRingFits}
use Rattle.ring_payload.specs.declared.head.Head.{Head}
use Rattle.ring_payload.specs.Limits.{head_tag, trimmed_tag}

-- the tag of a head: `head_tag` if nothing is trimmed, otherwise `trimmed_tag`
abbrev pub tag_of_head : Head → ℕ
tag_of_head h = if h.trimmed == 0 then head_tag else trimmed_tag

-- the encoding of the trimmed length: 8 bytes, or no bytes if it is 0
abbrev pub trimmed_length_encoding : ℕ → List ℕ
trimmed_length_encoding n = if n == 0 then [] else big_bytes 8 n

-- the body after the tag: the last primary or none in 9 bytes, then the length, the committed and the trimmed length
abbrev pub head_body : Head → List ℕ
head_body h = some_ring_encoding h.last ⊕ big_bytes 8 h.length ⊕ big_bytes 8 h.committed ⊕ trimmed_length_encoding h.trimmed

-- the encoding of a head: its tag and its body
abbrev pub head_encoding : Head → List ℕ
head_encoding h = tag_of_head h ∷ head_body h

-- the limits of a head; without a last primary the log has no places
pub record HeadFits (h : Head) : Type 0 where
  pub last : SomeRingFits h.last
  pub length : h.length ≤ max_number
  pub committed : h.committed ≤ h.length
  pub trimmed : h.trimmed ≤ h.committed
  pub empty : h.last ≡ None → h.length ≡ 0

-- whether the fields are within their limits, as a test
abbrev pub head_test : Head → Bool
head_test h = nat_le h.trimmed h.committed && (nat_le h.committed h.length && (nat_le h.length max_number && (is_some h.last || (h.length == 0))))

either : (o : Option RingId) (n : ℕ) → (is_some o || (n == 0)) ≡ true → o ≡ None → n ≡ 0
either (Some r) n h e = absurd cc
either None n h e = eqb-true n 0 h

or_either : (o : Option RingId) (n : ℕ) → (o ≡ None → n ≡ 0) → (is_some o || (n == 0)) ≡ true
or_either (Some r) n h = refl
or_either None n h = eq-eqb n 0 (h refl)

tested : (h : Head) → SomeRingFits h.last → head_test h ≡ true → HeadFits h
tested h last passed =
    let a = and_parts _ _ passed in
    let b = and_parts _ _ a.1 in
    let c = and_parts _ _ b.1 in
    record { last = last; length = leb-true _ _ c.0; committed = leb-true _ _ b.0; trimmed = leb-true _ _ a.0; empty = either h.last h.length c.1 }

passes : (h : Head) → HeadFits h → head_test h ≡ true
passes h f = rw (le-leb _ _ f.trimmed, le-leb _ _ f.committed, le-leb _ _ f.length, or_either h.last h.length f.empty) refl

-- ---- a head of a whole log: nothing of it is trimmed, and the trimmed length is left out

-- the fields of a head without a trimmed length, in order
abbrev whole_fields : Format (Option RingId × (ℕ × ℕ))
whole_fields = some_ring & u64_field & u64_field

-- the head of a whole log with these fields
abbrev whole : Option RingId × (ℕ × ℕ) → Head
whole p = record { last = p.0; length = p.1.0; committed = p.1.1; trimmed = 0 }

-- the body of the head of a whole log
abbrev whole_head_encoding : Head → List ℕ
whole_head_encoding h = some_ring_encoding h.last ⊕ big_bytes 8 h.length ⊕ big_bytes 8 h.committed

-- the limits of the head of a whole log
abbrev WholeFits : Head → Type 0
WholeFits h = HeadFits h × (h.trimmed ≡ 0)

-- reads the body of the head of a whole log from the front
unfoldable pub whole_at : List ℕ → Option (Head × List ℕ)
whole_at bytes = tested_at head_test (mapped_at whole whole_fields.at) bytes

-- the body of the head of a whole log is read exactly
pub whole_format : IsFormat whole_head_encoding WholeFits whole_at
unfolding whole_at
whole_format = tested_fields_format whole_fields whole head_test whole_head_encoding WholeFits (record {
  encoded = λ p. refl;
  fits = λ p f passed. (tested (whole p) f.0 passed, refl);
  back = λ h f. ((h.last, (h.length, h.committed)), (f.0.last, (omega (arith, f.0.length), omega (arith, f.0.length, f.0.committed))), rw f.1 refl);
  passes = λ h f. passes h f.0;
})

-- the format of these bodies
abbrev pub whole_head : Format Head
whole_head = record { encoding = whole_head_encoding; Fits = WholeFits; at = whole_at; exact = whole_format }

-- ---- a head of a trimmed log: the trimmed length is at least 1, and comes last

-- the fields of a head with a trimmed length, in order
abbrev trimmed_fields : Format (Option RingId × (ℕ × (ℕ × ℕ)))
trimmed_fields = some_ring & u64_field & u64_field & u64_field

-- the head with these fields
abbrev from_fields : Option RingId × (ℕ × (ℕ × ℕ)) → Head
from_fields p = record { last = p.0; length = p.1.0; committed = p.1.1.0; trimmed = p.1.1.1 }

-- the body of the head of a trimmed log
abbrev trimmed_head_encoding : Head → List ℕ
trimmed_head_encoding h = some_ring_encoding h.last ⊕ big_bytes 8 h.length ⊕ big_bytes 8 h.committed ⊕ big_bytes 8 h.trimmed

-- the limits of the head of a trimmed log
abbrev TrimmedFits : Head → Type 0
TrimmedFits h = HeadFits h × (1 ≤ h.trimmed)

-- whether the fields are within their limits and something is trimmed, as a test
abbrev pub trimmed_test : Head → Bool
trimmed_test h = nat_le 1 h.trimmed && head_test h

-- reads the body of the head of a trimmed log from the front
unfoldable pub trimmed_at : List ℕ → Option (Head × List ℕ)
trimmed_at bytes = tested_at trimmed_test (mapped_at from_fields trimmed_fields.at) bytes

-- the body of the head of a trimmed log is read exactly
pub trimmed_format : IsFormat trimmed_head_encoding TrimmedFits trimmed_at
unfolding trimmed_at
trimmed_format = tested_fields_format trimmed_fields from_fields trimmed_test trimmed_head_encoding TrimmedFits (record {
  encoded = λ p. refl;
  fits = λ p f passed. let a = and_parts _ _ passed in (tested (from_fields p) f.0 a.1, leb-true _ _ a.0);
  back = λ h f. (
    (h.last, (h.length, (h.committed, h.trimmed))),
    (f.0.last, (omega (arith, f.0.length), (omega (arith, f.0.length, f.0.committed), omega (arith, f.0.length, f.0.committed, f.0.trimmed)))),
    refl,
  );
  passes = λ h f. rw (le-leb _ _ f.1, passes h f.0) refl;
})

-- the format of these bodies
abbrev pub trimmed_head : Format Head
trimmed_head = record { encoding = trimmed_head_encoding; Fits = TrimmedFits; at = trimmed_at; exact = trimmed_format }

-- ---- a head of either sort, by its tag

-- if nothing is trimmed, a head is encoded under the tag of whole logs, without a trimmed length
pub untrimmed_head-encoding : (h : Head) → h.trimmed ≡ 0 → (tag_of_head h ≡ head_tag) × (head_body h ≡ whole_head_encoding h)
untrimmed_head-encoding h e = rw e (refl, refl)

-- a number that isn't 0 is at least 1
pub not_zero_positive : (n : ℕ) → (n == 0) ≡ false → 1 ≤ n
not_zero_positive n e = let not_none = eqb-false n 0 e in omega (arith, not_none)

-- if something is trimmed, a head is encoded under the tag of trimmed logs, with the trimmed length last
pub trimmed_head-encoding : (h : Head) → 1 ≤ h.trimmed → (tag_of_head h ≡ trimmed_tag) × (head_body h ≡ trimmed_head_encoding h)
trimmed_head-encoding h some =
    let e : (h.trimmed == 0) ≡ false = elim (cases_Bool (h.trimmed == 0)) [ inl e ↦ absurd (omega (arith, eqb-true _ _ e, some)) | inr e ↦ e ] in
    rw e (refl, refl)

-- the two cases of heads, by their tags
abbrev head_cases : List (Case Head)
head_cases = tagged_case head_tag whole_head (λ h. h) ∷ tagged_case trimmed_tag trimmed_head (λ h. h) ∷ []

-- reads a head from the front
unfoldable pub head_at : List ℕ → Option (Head × List ℕ)
head_at bytes = tagged_cases_at head_cases bytes

head_made : (h : Head) → HeadFits h → IsMade head_cases (tag_of_head h) h
head_made h f = elim (cases_Bool (h.trimmed == 0)) [
  | inl e ↦ let none = eqb-true _ _ e in rw e (h, (f, none), refl)
  | inr e ↦ rw e (h, (f, not_zero_positive h.trimmed e), refl)
]

-- a head is read exactly
pub head_format : IsFormat head_encoding HeadFits head_at
unfolding head_at
head_format = cases_format head_cases tag_of_head head_body HeadFits (record {
  each = (λ h f. let t = untrimmed_head-encoding h f.1 in (t.0, (t.1, f.0)), (λ h f. let t = trimmed_head-encoding h f.1 in (t.0, (t.1, f.0)), tt));
  made = head_made;
})
