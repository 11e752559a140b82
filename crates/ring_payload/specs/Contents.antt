-- How a Wrapped, a message of an old ring, is encoded, and the contents that it may have: each a tag and the body after
-- it.
-- Formats: Payloads
use Rattle.std.proofs.Common.{◌≡◌, ℕ, ◌≤◌, Bool, List, [], ◌∷◌, Option, refl, arith, inl, inr}
use Rattle.std.specs.Prelude.{nat_le, ◌&&◌, ◌==◌}
use Rattle.std.proofs.lemmas.Bool.{leb-true, le-leb, eqb-true, and_parts, cases_Bool}
use Rattle.byteorder.specs.Endian.{big_bytes}
use Rattle.ring_codec.specs.BaseReexports.{max_number, IsProc, RingId}
use Rattle.ring_codec.specs.Reading.{IsFormat, tested_at, mapped_at, ◌⊕◌}
use Rattle.ring_codec.specs.Formats.{Format, u64_field, ◌&◌, tested_fields_format}
use Rattle.ring_codec.specs.TaggedCases.{Case, tagged_case, tagged_cases_at, IsMade, cases_format}
use Rattle.ring_codec.specs.Processors.{proc, proc_encoding}
use Rattle.ring_codec.specs.Rings.{ring, ring_encoding, RingFits}
use Rattle.ring_payload.specs.declared.content.WrappedPayload.{WrappedPayload}
use Rattle.ring_payload.specs.declared.content.WrappedPayload.TheVariants as contents
use Rattle.ring_payload.specs.declared.content.Wrapped.{Wrapped}
use Rattle.ring_payload.specs.Limits.{call_tag, head_tag, part_tag, pack_tag, trimmed_tag, snap_tag}
use Rattle.ring_payload.specs.Calls.{call, call_encoding, CallFits}
use Rattle.ring_payload.specs.Heads.{whole_head, trimmed_head, tag_of_head, head_body, HeadFits, untrimmed_head-encoding, trimmed_head-encoding, not_zero_positive}
use Rattle.ring_payload.specs.Packs.{pack, pack_encoding, PackFits}
use Rattle.ring_payload.specs.Parts.{part, part_encoding, PartFits}
use Rattle.ring_payload.specs.Snaps.{snap, snap_encoding, SnapFits}

-- ---- contents: a tag and the body after it

-- the tag of a content; a head has one of two tags
abbrev pub content_tag : {A : Type 0} → WrappedPayload A → ℕ
content_tag (contents.Call x) = call_tag
content_tag (contents.Head x) = tag_of_head x
content_tag (contents.Part x) = part_tag
content_tag (contents.Pack x) = pack_tag
content_tag (contents.Snap x) = snap_tag

-- the body after the tag
abbrev pub content_body : {A : Type 0} → WrappedPayload A → List ℕ
content_body (contents.Call x) = call_encoding x
content_body (contents.Head x) = head_body x
content_body (contents.Part x) = part_encoding x
content_body (contents.Pack x) = pack_encoding x
content_body (contents.Snap x) = snap_encoding x

-- the encoding of a content: its tag and its body
abbrev pub content_encoding : {A : Type 0} → WrappedPayload A → List ℕ
content_encoding c = content_tag c ∷ content_body c

-- the limits of a content
abbrev pub ContentFits : {A : Type 0} → WrappedPayload A → Type 0
ContentFits (contents.Call x) = CallFits x
ContentFits (contents.Head x) = HeadFits x
ContentFits (contents.Part x) = PartFits x
ContentFits (contents.Pack x) = PackFits x
ContentFits (contents.Snap x) = SnapFits x

-- the cases of contents, by their tags
abbrev content_cases : {A : Type 0} → List (Case (WrappedPayload A))
content_cases =
    tagged_case call_tag call contents.Call ∷
    tagged_case head_tag whole_head contents.Head ∷
    tagged_case part_tag part contents.Part ∷
    tagged_case pack_tag pack contents.Pack ∷
    tagged_case trimmed_tag trimmed_head contents.Head ∷
    tagged_case snap_tag snap contents.Snap ∷ []

-- reads a content from the front
unfoldable pub content_at : {A : Type 0} → List ℕ → Option (WrappedPayload A × List ℕ)
content_at bytes = tagged_cases_at content_cases bytes

content_made : {A : Type 0} (c : WrappedPayload A) → ContentFits c → IsMade content_cases (content_tag c) c
content_made (contents.Call x) f = (x, f, refl)
content_made (contents.Head x) f = elim (cases_Bool (x.trimmed == 0)) [
  | inl e ↦ rw e (x, (f, eqb-true _ _ e), refl)
  | inr e ↦ rw e (x, (f, not_zero_positive x.trimmed e), refl)
]
content_made (contents.Part x) f = (x, f, refl)
content_made (contents.Pack x) f = (x, f, refl)
content_made (contents.Snap x) f = (x, f, refl)

-- a content is read exactly
pub content_format : {A : Type 0} → IsFormat {A = WrappedPayload A} content_encoding ContentFits content_at
unfolding content_at
content_format {A} = cases_format (content_cases {A = A}) content_tag content_body ContentFits (record {
  each = (
    λ x f. (refl, (refl, f)),
    (
      λ h f. let t = untrimmed_head-encoding h f.1 in (t.0, (t.1, f.0)),
      (λ x f. (refl, (refl, f)), (λ x f. (refl, (refl, f)), (λ h f. let t = trimmed_head-encoding h f.1 in (t.0, (t.1, f.0)), (λ x f. (refl, (refl, f)), tt)))),
    ),
  );
  made = content_made;
})

-- the format of contents
abbrev pub content : {A : Type 0} → Format (WrappedPayload A)
content = record { encoding = content_encoding; Fits = ContentFits; at = content_at; exact = content_format }

-- ---- a Wrapped: the old ring in 9 bytes, the number there in 8, the sender in one, and the content

-- the encoding of a Wrapped
abbrev pub wrapped_encoding : {A : Type 0} → Wrapped A → List ℕ
wrapped_encoding w = ring_encoding w.ring ⊕ big_bytes 8 w.number ⊕ proc_encoding w.sender ⊕ content_encoding w.payload

-- the limits of a Wrapped; that its old ring's number is below that of the message's ring is a limit of the message
pub record WrappedFits {A : Type 0} (w : Wrapped A) : Type 0 where
  pub ring : RingFits w.ring
  pub ring_counted : 1 ≤ w.ring.seq
  pub number_counted : 1 ≤ w.number
  pub number : w.number ≤ max_number
  pub sender : IsProc w.sender
  pub payload : ContentFits w.payload

-- whether the fields are within their limits, as a test
abbrev pub wrapped_test : {A : Type 0} → Wrapped A → Bool
wrapped_test w = nat_le 1 w.ring.seq && (nat_le 1 w.number && nat_le w.number max_number)

-- the fields of a Wrapped, in order
abbrev wrapped_fields : {A : Type 0} → Format (RingId × (ℕ × (ℕ × WrappedPayload A)))
wrapped_fields = ring & u64_field & proc & content

-- the Wrapped with these fields
abbrev from_fields : {A : Type 0} → RingId × (ℕ × (ℕ × WrappedPayload A)) → Wrapped A
from_fields p = record { ring = p.0; number = p.1.0; sender = p.1.1.0; payload = p.1.1.1 }

-- reads a Wrapped from the front
unfoldable pub wrapped_at : {A : Type 0} → List ℕ → Option (Wrapped A × List ℕ)
wrapped_at {A} bytes = tested_at wrapped_test (mapped_at from_fields (wrapped_fields {A = A}).at) bytes

-- a Wrapped is read exactly
pub wrapped_format : {A : Type 0} → IsFormat {A = Wrapped A} wrapped_encoding WrappedFits wrapped_at
unfolding wrapped_at
wrapped_format {A} = tested_fields_format (wrapped_fields {A = A}) from_fields wrapped_test wrapped_encoding WrappedFits (record {
  encoded = λ p. refl;
  fits = λ p f passed.
      let a = and_parts _ _ passed in
      let b = and_parts _ _ a.1 in
      record {
        ring = f.0;
        ring_counted = leb-true _ _ a.0;
        number_counted = leb-true _ _ b.0;
        number = leb-true _ _ b.1;
        sender = f.1.1.0;
        payload = f.1.1.1;
      };
  back = λ w f. ((w.ring, (w.number, (w.sender, w.payload))), (f.ring, (omega (arith, f.number), (f.sender, f.payload))), refl);
  passes = λ w f. rw (le-leb _ _ f.ring_counted, le-leb _ _ f.number_counted, le-leb _ _ f.number) refl;
})

-- the format of a Wrapped
abbrev pub wrapped : {A : Type 0} → Format (Wrapped A)
wrapped = record { encoding = wrapped_encoding; Fits = WrappedFits; at = wrapped_at; exact = wrapped_format }
