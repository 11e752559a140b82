-- The maximum lengths of encodings. The longest message is a Wrapped of 7,276 bytes: a part or a pack of calls.
-- Rules: Limits 1
-- Formats: Frames; Payloads
use Rattle.std.proofs.Common.{◌≡◌, ℕ, ◌≤◌, ◌++◌, length, Option, Some, None, refl, arith, inl, inr}
use Rattle.std.specs.Prelude.{◌==◌}
use Rattle.std.proofs.lemmas.Bool.{cases_Bool}
use Rattle.std.proofs.lemmas.List.{length-append}
use Rattle.byteorder.specs.Endian.{big_bytes}
use Rattle.ring_payload.specs.Base.{RingId}
use Rattle.ring_payload.specs.Codecs.{some_proc_encoding, some_ring_encoding}
use Rattle.ring_payload.specs.declared.head.Head.{Head}
use Rattle.ring_payload.specs.declared.content.WrappedPayload.{WrappedPayload}
use Rattle.ring_payload.specs.declared.content.WrappedPayload.TheVariants as contents
use Rattle.ring_payload.specs.declared.content.Payload.{Payload}
use Rattle.ring_payload.specs.declared.content.Payload.TheVariants as payloads
use Rattle.ring_payload.specs.Heads.{head_body, trimmed_length_encoding}
use Rattle.ring_payload.specs.Packs.{length-pack}
use Rattle.ring_payload.specs.Parts.{length-part}
use Rattle.ring_payload.specs.Snaps.{snap_short}
use Rattle.ring_payload.specs.Contents.{content_encoding, ContentFits}
use Rattle.ring_payload.specs.Payloads.{payload_encoding, PayloadFits}
use Rattle.ring_wire.specs.declared.message.Message.{Message}
use Rattle.ring_wire.specs.declared.token.Token.{Token}
use Rattle.ring_wire.specs.declared.commit.CommitToken.{CommitToken}
use Rattle.ring_wire.specs.Messages.{message_encoding, MessageFits}
use Rattle.ring_wire.specs.Tokens.{requests_encoding, length-requests, token_encoding, TokenFits}
use Rattle.ring_wire.specs.Commits.{commit_encoding, CommitFits, length-entries, few_entries}

length-some_ring : (o : Option RingId) → length (some_ring_encoding o) ≡ 9
length-some_ring None = refl
length-some_ring (Some r) = refl

length-trimmed : (n : ℕ) → length (trimmed_length_encoding n) ≤ 8
length-trimmed n = elim (cases_Bool (n == 0)) [ inl e ↦ rw e (omega arith) | inr e ↦ rw e (omega arith) ]

length-head : (h : Head) → length (head_body h) ≤ 33
length-head h =
    let e = length-append (some_ring_encoding h.last) (big_bytes 8 h.length ++ (big_bytes 8 h.committed ++ trimmed_length_encoding h.trimmed)) in
    omega (arith, e, length-some_ring h.last, length-trimmed h.trimmed)

length-content : {A : Type 0} (c : WrappedPayload A) → ContentFits c → length (content_encoding c) ≤ 7276
length-content (contents.Call x) f = omega (arith, f.op)
length-content (contents.Head x) f = omega (arith, length-head x)
length-content (contents.Part x) f = omega (arith, length-part x f)
length-content (contents.Pack x) f = omega (arith, length-pack x f)
length-content (contents.Snap x) f = omega (arith, snap_short x f)

length-payload : {A : Type 0} (p : Payload A) → PayloadFits p → length (payload_encoding p) ≤ 7295
length-payload (payloads.Call x) f = omega (arith, f.op)
length-payload (payloads.Wrapped x) f = omega (arith, length-content x.payload f.payload)
length-payload payloads.End f = omega arith
length-payload (payloads.Head x) f = omega (arith, length-head x)
length-payload (payloads.Part x) f = omega (arith, length-part x f)
length-payload (payloads.Pack x) f = omega (arith, length-pack x f)
length-payload (payloads.Snap x) f = omega (arith, snap_short x f)

-- a message has at most 7,313 bytes
pub length-message : {A : Type 0} (m : Message A) → MessageFits m → length (message_encoding m) ≤ 7313
length-message m f = omega (arith, length-payload m.payload f.payload)

length-some_proc : (o : Option ℕ) → length (some_proc_encoding o) ≡ 1
length-some_proc None = refl
length-some_proc (Some p) = refl

-- a token has at most 291 bytes
pub length-token : (t : Token) → TokenFits t → length (token_encoding t) ≤ 291
length-token t f =
    let e = length-append (some_proc_encoding t.aru_id) (requests_encoding t.requests) in
    omega (arith, e, length-some_proc t.aru_id, length-requests t.requests, f.few)

-- a commit token has at most 924 bytes
pub length-commit : (t : CommitToken) → CommitFits t → length (commit_encoding t) ≤ 924
length-commit t f =
    let few : length t.entries ≤ 16 = few_entries t f in
    omega (arith, length-entries t.entries f.each, few)
