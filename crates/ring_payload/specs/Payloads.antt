-- How payloads are encoded: a tag and the body after it.
-- Formats: Payloads
use Rattle.std.proofs.Common.{◌≡◌, ℕ, List, [], ◌∷◌, Option, refl, inl, inr}
use Rattle.std.specs.Prelude.{◌==◌}
use Rattle.std.proofs.lemmas.Bool.{eqb-true, cases_Bool}
use Rattle.ring_codec.specs.Reading.{IsFormat}
use Rattle.ring_codec.specs.Formats.{Format, empty_format_of_unit}
use Rattle.ring_codec.specs.TaggedCases.{Case, tagged_case, tagged_cases_at, IsMade, cases_format}
use Rattle.ring_payload.specs.declared.content.Payload.{Payload}
use Rattle.ring_payload.specs.declared.content.Payload.TheVariants as payloads
use Rattle.ring_payload.specs.Limits.{call_tag, wrapped_tag, end_tag, head_tag, part_tag, pack_tag, trimmed_tag, snap_tag}
use Rattle.ring_payload.specs.Calls.{call, call_encoding, CallFits}
use Rattle.ring_payload.specs.Heads.{whole_head, trimmed_head, tag_of_head, head_body, HeadFits, untrimmed_head-encoding, trimmed_head-encoding, not_zero_positive}
use Rattle.ring_payload.specs.Packs.{pack, pack_encoding, PackFits}
use Rattle.ring_payload.specs.Parts.{part, part_encoding, PartFits}
use Rattle.ring_payload.specs.Snaps.{snap, snap_encoding, SnapFits}
use Rattle.ring_payload.specs.Contents.{wrapped, wrapped_encoding, WrappedFits}

-- the tag of a payload; a head has one of two tags
abbrev pub payload_tag : {A : Type 0} → Payload A → ℕ
payload_tag (payloads.Call x) = call_tag
payload_tag (payloads.Wrapped x) = wrapped_tag
payload_tag payloads.End = end_tag
payload_tag (payloads.Head x) = tag_of_head x
payload_tag (payloads.Part x) = part_tag
payload_tag (payloads.Pack x) = pack_tag
payload_tag (payloads.Snap x) = snap_tag

-- the body after the tag; an End has none
abbrev pub payload_body : {A : Type 0} → Payload A → List ℕ
payload_body (payloads.Call x) = call_encoding x
payload_body (payloads.Wrapped x) = wrapped_encoding x
payload_body payloads.End = []
payload_body (payloads.Head x) = head_body x
payload_body (payloads.Part x) = part_encoding x
payload_body (payloads.Pack x) = pack_encoding x
payload_body (payloads.Snap x) = snap_encoding x

-- the encoding of a payload: its tag and its body
abbrev pub payload_encoding : {A : Type 0} → Payload A → List ℕ
payload_encoding p = payload_tag p ∷ payload_body p

-- the limits of a payload; that the ring of a Wrapped is older than the message's ring is a limit of the message
abbrev pub PayloadFits : {A : Type 0} → Payload A → Type 0
PayloadFits (payloads.Call x) = CallFits x
PayloadFits (payloads.Wrapped x) = WrappedFits x
PayloadFits payloads.End = Unit {0}
PayloadFits (payloads.Head x) = HeadFits x
PayloadFits (payloads.Part x) = PartFits x
PayloadFits (payloads.Pack x) = PackFits x
PayloadFits (payloads.Snap x) = SnapFits x

-- the cases of payloads, by their tags
abbrev payload_cases : {A : Type 0} → List (Case (Payload A))
payload_cases =
    tagged_case call_tag call payloads.Call ∷
    tagged_case wrapped_tag wrapped payloads.Wrapped ∷
    tagged_case end_tag empty_format_of_unit (λ u. payloads.End) ∷
    tagged_case head_tag whole_head payloads.Head ∷
    tagged_case part_tag part payloads.Part ∷
    tagged_case pack_tag pack payloads.Pack ∷
    tagged_case trimmed_tag trimmed_head payloads.Head ∷
    tagged_case snap_tag snap payloads.Snap ∷ []

-- reads a payload from the front
unfoldable pub payload_at : {A : Type 0} → List ℕ → Option (Payload A × List ℕ)
payload_at bytes = tagged_cases_at payload_cases bytes

payload_made : {A : Type 0} (p : Payload A) → PayloadFits p → IsMade payload_cases (payload_tag p) p
payload_made (payloads.Call x) f = (x, f, refl)
payload_made (payloads.Wrapped x) f = (x, f, refl)
payload_made payloads.End f = (tt, f, refl)
payload_made (payloads.Head x) f = elim (cases_Bool (x.trimmed == 0)) [
  | inl e ↦ rw e (x, (f, eqb-true _ _ e), refl)
  | inr e ↦ rw e (x, (f, not_zero_positive x.trimmed e), refl)
]
payload_made (payloads.Part x) f = (x, f, refl)
payload_made (payloads.Pack x) f = (x, f, refl)
payload_made (payloads.Snap x) f = (x, f, refl)

-- a payload is read exactly
pub payload_format : {A : Type 0} → IsFormat {A = Payload A} payload_encoding PayloadFits payload_at
unfolding payload_at
payload_format {A} = cases_format (payload_cases {A = A}) payload_tag payload_body PayloadFits (record {
  each = (
    λ x f. (refl, (refl, f)),
    (
      λ x f. (refl, (refl, f)),
      (
        λ x f. (refl, (refl, f)),
        (
          λ h f. let t = untrimmed_head-encoding h f.1 in (t.0, (t.1, f.0)),
          (λ x f. (refl, (refl, f)), (λ x f. (refl, (refl, f)), (λ h f. let t = trimmed_head-encoding h f.1 in (t.0, (t.1, f.0)), (λ x f. (refl, (refl, f)), tt)))),
        ),
      ),
    ),
  );
  made = payload_made;
})

-- the format of payloads
abbrev pub payload : {A : Type 0} → Format (Payload A)
payload = record { encoding = payload_encoding; Fits = PayloadFits; at = payload_at; exact = payload_format }
