-- The byte strings that the grammar allows for a frame are exactly its one encoding, if the frame is within its limits.
-- Formats: Frames
use Rattle.std.proofs.Common.{◌≡◌, ℕ, List, [], ◌∷◌, ◌++◌, length, refl, ap, ◌∙◌, inl, inr}
use Rattle.std.specs.Prelude.{◌==◌}
use Rattle.std.proofs.lemmas.Bool.{eqb-true, cases_Bool}
use Rattle.byteorder.specs.Endian.{big_bytes}
use Rattle.ring_payload.specs.Codecs.{ring_encoding}
use Rattle.ring_payload.specs.declared.content.WrappedPayload.{WrappedPayload}
use Rattle.ring_payload.specs.declared.content.WrappedPayload.TheVariants as contents
use Rattle.ring_payload.specs.declared.content.Payload.{Payload}
use Rattle.ring_payload.specs.declared.content.Payload.TheVariants as payloads
use Rattle.ring_payload.specs.declared.content.Wrapped.{Wrapped}
use Rattle.ring_payload.specs.declared.head.Head.{Head}
use Rattle.ring_payload.specs.Calls.{call_encoding}
use Rattle.ring_payload.specs.Contents.{content_encoding, ContentFits, wrapped_encoding, WrappedFits}
use Rattle.ring_payload.specs.Heads.{head_encoding, HeadFits, untrimmed_head-encoding, trimmed_head-encoding, not_zero_positive}
use Rattle.ring_payload.specs.Limits.{call_tag, wrapped_tag, end_tag, head_tag, part_tag, pack_tag, trimmed_tag}
use Rattle.ring_payload.specs.Limits.{snap_tag, message_kind, token_kind, join_kind, commit_kind, first_version}
use Rattle.ring_payload.specs.Packs.{pack_encoding}
use Rattle.ring_payload.specs.Parts.{part_encoding}
use Rattle.ring_payload.specs.Snaps.{snap_encoding}
use Rattle.ring_payload.specs.Versions.{payload_version}
use Rattle.ring_payload.specs.Payloads.{payload_encoding, PayloadFits}
use Rattle.ring_wire.specs.declared.message.Message.{Message}
use Rattle.ring_wire.specs.declared.frame.Frame.{Frame}
use Rattle.ring_wire.specs.declared.frame.Frame.TheVariants as frames
use Rattle.ring_wire.specs.Commits.{commit_encoding}
use Rattle.ring_wire.specs.Frames.{FrameFits, encoding_of}
use Rattle.ring_wire.specs.Joins.{join_encoding}
use Rattle.ring_wire.specs.Messages.{message_encoding, MessageFits}
use Rattle.ring_wire.specs.IsFrameEncoding.{IsHeadEncoding, IsContentEncoding, IsWrappedEncoding, IsPayloadEncoding, IsMessageEncoding, IsFrameEncoding}
use Rattle.ring_wire.specs.Tokens.{token_encoding}

-- equal bytes stay equal with the same tag before them
tagged : (tag : ℕ) (text rest other : List ℕ) → text ≡ tag ∷ rest → rest ≡ other → text ≡ tag ∷ other
tagged tag text rest other e same = e ∙ ap (λ (r : List ℕ). tag ∷ r) same

-- ---- bytes that the grammar allows for a value are its encoding

head_encoding_only : (h : Head) (text : List ℕ) → IsHeadEncoding h text → HeadFits h × (text ≡ head_encoding h)
head_encoding_only h text (inl s) = let t = untrimmed_head-encoding h s.2.1 in (s.2.0, rw (t.0, t.1) (tagged head_tag text s.0 _ s.1 s.2.2))
head_encoding_only h text (inr s) = let t = trimmed_head-encoding h s.2.1 in (s.2.0, rw (t.0, t.1) (tagged trimmed_tag text s.0 _ s.1 s.2.2))

content_encoding_only : {A : Type 0} (c : WrappedPayload A) (text : List ℕ) → IsContentEncoding c text → ContentFits c × (text ≡ content_encoding c)
content_encoding_only (contents.Call c) text s = (s.2.0, tagged call_tag text s.0 (call_encoding c) s.1 s.2.1)
content_encoding_only (contents.Head h) text s = head_encoding_only h text s
content_encoding_only (contents.Part p) text s = (s.2.0, tagged part_tag text s.0 (part_encoding p) s.1 s.2.1)
content_encoding_only (contents.Pack p) text s = (s.2.0, tagged pack_tag text s.0 (pack_encoding p) s.1 s.2.1)
content_encoding_only (contents.Snap x) text s = (s.2.0, tagged snap_tag text s.0 (snap_encoding x) s.1 s.2.1)

wrapped_encoding_only : {A : Type 0} (w : Wrapped A) (text : List ℕ) → IsWrappedEncoding w text → text ≡ wrapped_encoding w
wrapped_encoding_only w text s =
    s.text ∙ ap (λ (rest : List ℕ). ring_encoding w.ring ++ (big_bytes 8 w.number ++ w.sender ∷ rest)) (content_encoding_only w.payload s.content s.is_content).1

payload_encoding_only : {A : Type 0} (p : Payload A) (text : List ℕ) → IsPayloadEncoding p text → PayloadFits p × (text ≡ payload_encoding p)
payload_encoding_only (payloads.Call c) text s = (s.2.0, tagged call_tag text s.0 (call_encoding c) s.1 s.2.1)
payload_encoding_only (payloads.Wrapped w) text s = (s.2.fits, tagged wrapped_tag text s.0 (wrapped_encoding w) s.1 (wrapped_encoding_only w s.0 s.2))
payload_encoding_only payloads.End text s = (tt, tagged end_tag text s.0 [] s.1 s.2)
payload_encoding_only (payloads.Head h) text s = head_encoding_only h text s
payload_encoding_only (payloads.Part p) text s = (s.2.0, tagged part_tag text s.0 (part_encoding p) s.1 s.2.1)
payload_encoding_only (payloads.Pack p) text s = (s.2.0, tagged pack_tag text s.0 (pack_encoding p) s.1 s.2.1)
payload_encoding_only (payloads.Snap x) text s = (s.2.0, tagged snap_tag text s.0 (snap_encoding x) s.1 s.2.1)

message_encoding_only : {A : Type 0} (m : Message A) (text : List ℕ) → IsMessageEncoding m text → text ≡ message_encoding m
message_encoding_only m text s =
    s.text ∙ ap (λ (rest : List ℕ). ring_encoding m.ring ++ (big_bytes 8 m.number ++ m.sender ∷ rest)) (payload_encoding_only m.payload s.payload s.is_payload).1

-- the start of a frame of this version and kind, then the length-prefixed body
abbrev frame_with_body : ℕ → ℕ → List ℕ → List ℕ
frame_with_body version kind body = 84 ∷ 82 ∷ version ∷ kind ∷ (big_bytes 4 (length body) ++ body)

-- bytes that the grammar allows for a frame are its encoding, and the frame is within its limits
pub frame_encoding_of_grammar : {A : Type 0} (f : Frame A) (text : List ℕ) → IsFrameEncoding f text → FrameFits f × (text ≡ encoding_of f)
frame_encoding_of_grammar (frames.Message m) text s = (s.2.fits, s.1 ∙ ap (frame_with_body (payload_version m.payload) message_kind) (message_encoding_only m s.0 s.2))
frame_encoding_of_grammar (frames.Token t) text s = (s.2.0, s.1 ∙ ap (frame_with_body first_version token_kind) s.2.1)
frame_encoding_of_grammar (frames.Join j) text s = (s.2.0, s.1 ∙ ap (frame_with_body first_version join_kind) s.2.1)
frame_encoding_of_grammar (frames.Commit t) text s = (s.2.0, s.1 ∙ ap (frame_with_body first_version commit_kind) s.2.1)

-- ---- the grammar allows the encoding of a value within the limits

head_encoding_is : (h : Head) → HeadFits h → IsHeadEncoding h (head_encoding h)
head_encoding_is h f = elim (cases_Bool (h.trimmed == 0)) [
  | inl e ↦ let none = eqb-true _ _ e in let t = untrimmed_head-encoding h none in rw (t.0, t.1) (inl (_, refl, (f, none, refl)))
  | inr e ↦ let some = not_zero_positive h.trimmed e in let t = trimmed_head-encoding h some in rw (t.0, t.1) (inr (_, refl, (f, some, refl)))
]

content_encoding_is : {A : Type 0} (c : WrappedPayload A) → ContentFits c → IsContentEncoding c (content_encoding c)
content_encoding_is (contents.Call c) f = (call_encoding c, refl, (f, refl))
content_encoding_is (contents.Head h) f = head_encoding_is h f
content_encoding_is (contents.Part p) f = (part_encoding p, refl, (f, refl))
content_encoding_is (contents.Pack p) f = (pack_encoding p, refl, (f, refl))
content_encoding_is (contents.Snap x) f = (snap_encoding x, refl, (f, refl))

wrapped_encoding_is : {A : Type 0} (w : Wrapped A) → WrappedFits w → IsWrappedEncoding w (wrapped_encoding w)
wrapped_encoding_is w f = record { fits = f; content = content_encoding w.payload; is_content = content_encoding_is w.payload f.payload; text = refl }

payload_encoding_is : {A : Type 0} (p : Payload A) → PayloadFits p → IsPayloadEncoding p (payload_encoding p)
payload_encoding_is (payloads.Call c) f = (call_encoding c, refl, (f, refl))
payload_encoding_is (payloads.Wrapped w) f = (wrapped_encoding w, refl, wrapped_encoding_is w f)
payload_encoding_is payloads.End f = ([], refl, refl)
payload_encoding_is (payloads.Head h) f = head_encoding_is h f
payload_encoding_is (payloads.Part p) f = (part_encoding p, refl, (f, refl))
payload_encoding_is (payloads.Pack p) f = (pack_encoding p, refl, (f, refl))
payload_encoding_is (payloads.Snap x) f = (snap_encoding x, refl, (f, refl))

message_encoding_is : {A : Type 0} (m : Message A) → MessageFits m → IsMessageEncoding m (message_encoding m)
message_encoding_is m f = record { fits = f; payload = payload_encoding m.payload; is_payload = payload_encoding_is m.payload f.payload; text = refl }

-- the grammar allows the encoding of a frame that is within its limits
pub frame_encoding_is : {A : Type 0} (f : Frame A) → FrameFits f → IsFrameEncoding f (encoding_of f)
frame_encoding_is (frames.Message m) f = (message_encoding m, refl, message_encoding_is m f)
frame_encoding_is (frames.Token t) f = (token_encoding t, refl, (f, refl))
frame_encoding_is (frames.Join j) f = (join_encoding j, refl, (f, refl))
frame_encoding_is (frames.Commit t) f = (commit_encoding t, refl, (f, refl))

-- the grammar allows bytes that equal the encoding of a frame within its limits
pub text_is_encoding : {A : Type 0} (f : Frame A) (text : List ℕ) → FrameFits f → text ≡ encoding_of f → IsFrameEncoding f text
text_is_encoding f text fits e = rw e (frame_encoding_is f fits)
