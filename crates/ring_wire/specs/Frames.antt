-- How frames are encoded: two fixed bytes, the version, the kind, the body's length, and the body.
-- Formats: Frames
use Rattle.std.proofs.Common.{◌≡◌, ℕ, ◌^◌, ◌<◌, ◌≤◌, Bool, true, false, List, [], ◌∷◌, length, Option, Some, None, refl, arith, inl, inr, eq-eqb}
use Rattle.std.specs.Prelude.{◌&&◌, ◌==◌, if◌then◌else◌}
use Rattle.std.proofs.lemmas.Bool.{eqb-true, and_parts, cases_Bool}
use Rattle.byteorder.specs.Endian.{big_bytes}
use Rattle.ring_payload.specs.Codecs.{IsFormat, mapped_at, tested_at, byte_at, ◌>>=◌, ◌⊕◌, Format, byte_field, ◌&◌, tested_format, length_prefixed_format, fields_format}
use Rattle.ring_payload.specs.Codecs.{Case, tagged_case, tagged_cases_at, cases_at, IsMade, cases_format}
use Rattle.ring_payload.specs.declared.head.Head.{Head}
use Rattle.ring_payload.specs.declared.content.WrappedPayload.{WrappedPayload}
use Rattle.ring_payload.specs.declared.content.WrappedPayload.TheVariants as contents
use Rattle.ring_payload.specs.declared.content.Payload.{Payload}
use Rattle.ring_payload.specs.declared.content.Payload.TheVariants as payloads
use Rattle.ring_payload.specs.Limits.{message_kind, token_kind, join_kind, commit_kind, first_version}
use Rattle.ring_payload.specs.Versions.{head_version, content_version, payload_version}
use Rattle.ring_wire.specs.declared.message.Message.{Message}
use Rattle.ring_wire.specs.declared.token.Token.{Token}
use Rattle.ring_wire.specs.declared.join.Join.{Join}
use Rattle.ring_wire.specs.declared.commit.CommitToken.{CommitToken}
use Rattle.ring_wire.specs.declared.frame.Frame.{Frame}
use Rattle.ring_wire.specs.declared.frame.Frame.TheVariants as frames
use Rattle.ring_wire.specs.Messages.{message, message_encoding, MessageFits}
use Rattle.ring_wire.specs.Tokens.{token, token_encoding, TokenFits}
use Rattle.ring_wire.specs.Joins.{join, join_encoding, JoinFits}
use Rattle.ring_wire.specs.Commits.{commit, commit_encoding, CommitFits}
use Rattle.ring_wire.specs.Lengths.{length-message, length-token, length-commit}

-- ---- the kinds of frames: the number, the body and the limits of each

-- the number of a frame's kind
abbrev pub frame_kind : {A : Type 0} → Frame A → ℕ
frame_kind (frames.Message x) = message_kind
frame_kind (frames.Token x) = token_kind
frame_kind (frames.Join x) = join_kind
frame_kind (frames.Commit x) = commit_kind

-- the body of a frame, by its kind
abbrev pub frame_body : {A : Type 0} → Frame A → List ℕ
frame_body (frames.Message x) = message_encoding x
frame_body (frames.Token x) = token_encoding x
frame_body (frames.Join x) = join_encoding x
frame_body (frames.Commit x) = commit_encoding x

-- the limits of a frame, by its kind
abbrev pub FrameFits : {A : Type 0} → Frame A → Type 0
FrameFits (frames.Message x) = MessageFits x
FrameFits (frames.Token x) = TokenFits x
FrameFits (frames.Join x) = JoinFits x
FrameFits (frames.Commit x) = CommitFits x

-- a body has at most 7,313 bytes
pub length-body : {A : Type 0} (f : Frame A) → FrameFits f → length (frame_body f) ≤ 7313
length-body (frames.Message x) fits = length-message x fits
length-body (frames.Token x) fits = omega (arith, length-token x fits)
length-body (frames.Join x) fits = omega arith
length-body (frames.Commit x) fits = omega (arith, length-commit x fits)

-- the length of the body in 4 bytes, then the body
abbrev sized_body : {A : Type 0} → Frame A → List ℕ
sized_body f = big_bytes 4 (length (frame_body f)) ⊕ frame_body f

-- the length of a message fits in 4 bytes
pub message_short : {A : Type 0} (x : Message A) → MessageFits x → length (message_encoding x) < 256 ^ 4
message_short x f = omega (arith, length-message x f)

-- the length of a token fits in 4 bytes
pub token_short : (x : Token) → TokenFits x → length (token_encoding x) < 256 ^ 4
token_short x f = omega (arith, length-token x f)

-- the length of a join fits in 4 bytes
pub join_short : (x : Join) → JoinFits x → length (join_encoding x) < 256 ^ 4
join_short x f = omega arith

-- the length of a commit token fits in 4 bytes
pub commit_short : (x : CommitToken) → CommitFits x → length (commit_encoding x) < 256 ^ 4
commit_short x f = omega (arith, length-commit x f)

-- the format of a length-prefixed message
abbrev sized_message : {A : Type 0} → Format (Message A)
sized_message = length_prefixed_format message message_short

-- the format of a length-prefixed token
abbrev sized_token : Format Token
sized_token = length_prefixed_format token token_short

-- the format of a length-prefixed join
abbrev sized_join : Format Join
sized_join = length_prefixed_format join join_short

-- the format of a length-prefixed commit token
abbrev sized_commit : Format CommitToken
sized_commit = length_prefixed_format commit commit_short

-- ---- the kind, and the length-prefixed body

-- the cases of frames, by their kinds
abbrev kind_cases : {A : Type 0} → List (Case (Frame A))
kind_cases =
    tagged_case message_kind sized_message frames.Message ∷
    tagged_case token_kind sized_token frames.Token ∷
    tagged_case join_kind sized_join frames.Join ∷
    tagged_case commit_kind sized_commit frames.Commit ∷ []

-- reads a kind and its body from the front
unfoldable pub kind_at : {A : Type 0} → List ℕ → Option (Frame A × List ℕ)
kind_at bytes = tagged_cases_at kind_cases bytes

kind_made : {A : Type 0} (f : Frame A) → FrameFits f → IsMade kind_cases (frame_kind f) f
kind_made (frames.Message x) f = (x, f, refl)
kind_made (frames.Token x) f = (x, f, refl)
kind_made (frames.Join x) f = (x, f, refl)
kind_made (frames.Commit x) f = (x, f, refl)

-- the encoding of a frame's kind and body
abbrev kind_encoding : {A : Type 0} → Frame A → List ℕ
kind_encoding f = frame_kind f ∷ sized_body f

-- a kind and its body are read exactly
pub kind_format : {A : Type 0} → IsFormat {A = Frame A} kind_encoding FrameFits kind_at
unfolding kind_at
kind_format {A} = cases_format (kind_cases {A = A}) frame_kind sized_body FrameFits (record {
  each = (λ x f. (refl, (refl, f)), (λ x f. (refl, (refl, f)), (λ x f. (refl, (refl, f)), (λ x f. (refl, (refl, f)), tt))));
  made = kind_made;
})

-- the format of a kind and its body
abbrev kind : {A : Type 0} → Format (Frame A)
kind = record { encoding = kind_encoding; Fits = FrameFits; at = kind_at; exact = kind_format }

-- ---- the whole frame

-- the version of a frame: that of a message's payload, and 1 for every other kind
abbrev pub version_of : {A : Type 0} → Frame A → ℕ
version_of (frames.Message x) = payload_version x.payload
version_of (frames.Token x) = first_version
version_of (frames.Join x) = first_version
version_of (frames.Commit x) = first_version

head_version-byte : (h : Head) → head_version h < 256
head_version-byte h = elim (cases_Bool (h.trimmed == 0)) [ inl e ↦ rw e (omega arith) | inr e ↦ rw e (omega arith) ]

content_version-byte : {A : Type 0} (c : WrappedPayload A) → content_version c < 256
content_version-byte (contents.Call x) = omega arith
content_version-byte (contents.Head x) = head_version-byte x
content_version-byte (contents.Part x) = omega arith
content_version-byte (contents.Pack x) = omega arith
content_version-byte (contents.Snap x) = omega arith

payload_version-byte : {A : Type 0} (p : Payload A) → payload_version p < 256
payload_version-byte (payloads.Call x) = omega arith
payload_version-byte (payloads.Wrapped x) = content_version-byte x.payload
payload_version-byte payloads.End = omega arith
payload_version-byte (payloads.Head x) = head_version-byte x
payload_version-byte (payloads.Part x) = omega arith
payload_version-byte (payloads.Pack x) = omega arith
payload_version-byte (payloads.Snap x) = omega arith

version_of-byte : {A : Type 0} (f : Frame A) → version_of f < 256
version_of-byte (frames.Message x) = payload_version-byte x.payload
version_of-byte (frames.Token x) = omega arith
version_of-byte (frames.Join x) = omega arith
version_of-byte (frames.Commit x) = omega arith

-- the one encoding of a frame
abbrev pub encoding_of : {A : Type 0} → Frame A → List ℕ
encoding_of f = 84 ∷ 82 ∷ version_of f ∷ frame_kind f ∷ (big_bytes 4 (length (frame_body f)) ⊕ frame_body f)

-- whether the two bytes are the fixed ones, `54 52`
abbrev is_start : ℕ × ℕ → Bool
is_start p = (p.0 == 84) && (p.1 == 82)

-- whether the version before a frame is its version
abbrev is_of_version : {A : Type 0} → ℕ × Frame A → Bool
is_of_version p = p.0 == version_of p.1

-- the fields of a frame: the two fixed bytes, the version, and the kind with the length-prefixed body
abbrev frame_fields : {A : Type 0} → Format ((ℕ × ℕ) × (ℕ × Frame A))
frame_fields = tested_format is_start (byte_field & byte_field) & tested_format is_of_version (byte_field & kind)

-- the frame with these fields
abbrev from_fields : {A : Type 0} → (ℕ × ℕ) × (ℕ × Frame A) → Frame A
from_fields p = p.1.1

-- reads the body of a frame of this version and kind
unfoldable pub body_at : {A : Type 0} → ℕ → ℕ → List ℕ → Option (Frame A × List ℕ)
body_at version kind bytes = tested_at (λ f. version == version_of f) (cases_at kind_cases kind) bytes

-- reads a frame from the front
unfoldable pub frame_at : {A : Type 0} → List ℕ → Option (Frame A × List ℕ)
frame_at {A} bytes = mapped_at from_fields (frame_fields {A = A}).at bytes

-- ---- a frame is read as its fixed bytes, its version, its kind and its body

abbrev Fields : Type 0 → Type 0
Fields A = (ℕ × ℕ) × (ℕ × Frame A)

-- the version together with the frame that was read
abbrev with_version : {A : Type 0} → ℕ → Frame A × List ℕ → Option ((ℕ × Frame A) × List ℕ)
with_version version x = Some ((version, x.0), x.1)

-- the frame, if the version before it is its version
abbrev if_of_version : {A : Type 0} → (ℕ × Frame A) × List ℕ → Option ((ℕ × Frame A) × List ℕ)
if_of_version x = if is_of_version x.0 then Some x else None

-- the fixed bytes together with the version and the frame
abbrev with_start : {A : Type 0} → ℕ × ℕ → (ℕ × Frame A) × List ℕ → Option (Fields A × List ℕ)
with_start start x = Some ((start, x.0), x.1)

-- the frame that the fields make
abbrev frame_from_fields : {A : Type 0} → Fields A × List ℕ → Option (Frame A × List ℕ)
frame_from_fields x = Some (from_fields x.0, x.1)

passed : {A : Type 0} (t : Bool) (start : ℕ × ℕ) (x : (ℕ × Frame A) × List ℕ)
    → (((if t then Some x else None) >>= with_start start) >>= frame_from_fields) ≡ (if t then Some (x.0.1, x.1) else None)
passed true start x = refl
passed false start x = refl

read_behind : {A : Type 0} (start : ℕ × ℕ) (version : ℕ) (read : Option (Frame A × List ℕ))
    → ((((read >>= with_version version) >>= if_of_version) >>= with_start start) >>= frame_from_fields)
    ≡ (read >>= (λ x. if version == version_of x.0 then Some x else None))
read_behind start version None = refl
read_behind start version (Some (f, rest)) = passed (version == version_of f) start ((version, f), rest)

-- after the two fixed bytes, a version and a kind, the frame is the body read there
pub frame_after_kind : {A : Type 0} (b0 b1 b2 b3 b4 : List ℕ) (first second version kind : ℕ) → first ≡ 84 → second ≡ 82
    → byte_at b0 ≡ Some (first, b1) → byte_at b1 ≡ Some (second, b2)
    → byte_at b2 ≡ Some (version, b3) → byte_at b3 ≡ Some (kind, b4) → frame_at {A = A} b0 ≡ body_at version kind b4
unfolding frame_at body_at kind_at
frame_after_kind {A} b0 b1 b2 b3 b4 first second version kind is_first is_second e0 e1 e2 e3 =
    rw (e0, is_first, e1, is_second, e2, e3) (read_behind {A = A} (84, 82) version (cases_at kind_cases kind b4))

encoded : {A : Type 0} (p : (ℕ × ℕ) × (ℕ × Frame A)) → (frame_fields {A = A}).Fits p → encoding_of (from_fields p) ≡ (frame_fields {A = A}).encoding p
encoded p f =
    let start = and_parts _ _ f.0.1 in
    let first : p.0.0 ≡ 84 = eqb-true _ _ start.0 in
    let second : p.0.1 ≡ 82 = eqb-true _ _ start.1 in
    let version : p.1.0 ≡ version_of p.1.1 = eqb-true _ _ f.1.1 in
    rw (first, second, version) refl

-- a frame is read exactly
pub frame_format : {A : Type 0} → IsFormat {A = Frame A} encoding_of FrameFits frame_at
unfolding frame_at
frame_format {A} = fields_format (frame_fields {A = A}) from_fields encoding_of FrameFits (record {
  encoded = encoded;
  fits = λ p f. f.1.0.1;
  back = λ f g. (
    ((84, 82), (version_of f, f)),
    (((omega arith, omega arith), refl), ((version_of-byte f, g), eq-eqb (version_of f) (version_of f) refl)),
    refl,
  );
})

-- a frame has at most 7,321 bytes
pub length-frame : {A : Type 0} (f : Frame A) → FrameFits f → length (encoding_of f) ≤ 7321
length-frame f g = omega (arith, length-body f g)
