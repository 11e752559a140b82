-- The grammar of frames: which bytes encode which frame, with a case for each kind of frame and for each payload. The
-- limits of a value are its `Fits`.
-- Formats: Frames; Payloads
use Rattle.std.specs.Prelude.{◌≡◌, ℕ, ◌≤◌, ◌⊎◌, List, [], ◌∷◌, length}
use Rattle.std.specs.List.{flat_map}
use Rattle.byteorder.specs.Endian.{big_bytes}
use Rattle.ring_payload.specs.Codecs.{◌⊕◌, some_proc_encoding, ring_encoding, some_ring_encoding}
use Rattle.ring_payload.specs.declared.call.Call.{Call}
use Rattle.ring_payload.specs.declared.calls.Pack.{Pack}
use Rattle.ring_payload.specs.declared.calls.Part.{Part}
use Rattle.ring_payload.specs.declared.head.Head.{Head}
use Rattle.ring_payload.specs.declared.snap.Snap.{Snap}
use Rattle.ring_payload.specs.declared.content.WrappedPayload.{WrappedPayload}
use Rattle.ring_payload.specs.declared.content.WrappedPayload.TheVariants as contents
use Rattle.ring_payload.specs.declared.content.Payload.{Payload}
use Rattle.ring_payload.specs.declared.content.Payload.TheVariants as payloads
use Rattle.ring_payload.specs.declared.content.Wrapped.{Wrapped}
use Rattle.ring_payload.specs.Calls.{call_encoding, CallFits}
use Rattle.ring_payload.specs.Contents.{WrappedFits}
use Rattle.ring_payload.specs.Heads.{HeadFits}
use Rattle.ring_payload.specs.Limits.{call_tag, wrapped_tag, end_tag, head_tag, part_tag, pack_tag, trimmed_tag}
use Rattle.ring_payload.specs.Limits.{snap_tag, message_kind, token_kind, join_kind, commit_kind, first_version}
use Rattle.ring_payload.specs.Packs.{PackFits}
use Rattle.ring_payload.specs.Parts.{PartFits}
use Rattle.ring_payload.specs.Snaps.{SnapFits}
use Rattle.ring_payload.specs.Versions.{payload_version}
use Rattle.ring_wire.specs.declared.message.Message.{Message}
use Rattle.ring_wire.specs.declared.token.Token.{Token}
use Rattle.ring_wire.specs.declared.join.Join.{Join}
use Rattle.ring_wire.specs.declared.commit.CommitToken.{CommitToken}
use Rattle.ring_wire.specs.declared.frame.Frame.{Frame}
use Rattle.ring_wire.specs.declared.frame.Frame.TheVariants as frames
use Rattle.ring_wire.specs.Commits.{CommitFits}
use Rattle.ring_wire.specs.Entries.{entry_encoding}
use Rattle.ring_wire.specs.Joins.{JoinFits}
use Rattle.ring_wire.specs.Messages.{MessageFits}
use Rattle.ring_wire.specs.Tokens.{TokenFits}

-- ---- payloads: a tag and the body after it

-- the tag, then a body of this form
abbrev pub Tagged : ℕ → (List ℕ → Type 0) → List ℕ → Type 0
Tagged tag IsRest text = (rest : List ℕ) × (text ≡ tag ∷ rest) × IsRest rest

-- a call: client, number, length of the operation, operation
abbrev pub IsCallEncoding : {A : Type 0} → Call A → List ℕ → Type 0
IsCallEncoding c text = CallFits c × (text ≡ big_bytes 4 c.client ⊕ big_bytes 8 c.number ⊕ big_bytes 2 (length c.op) ⊕ c.op)

-- the head of a whole log: last primary or none, length, committed length
abbrev pub IsWholeHeadEncoding : Head → List ℕ → Type 0
IsWholeHeadEncoding h text = HeadFits h × (h.trimmed ≡ 0) × (text ≡ some_ring_encoding h.last ⊕ big_bytes 8 h.length ⊕ big_bytes 8 h.committed)

-- the head of a trimmed log: the same fields, then the trimmed length
abbrev pub IsTrimmedHeadEncoding : Head → List ℕ → Type 0
IsTrimmedHeadEncoding h text = HeadFits h × (1 ≤ h.trimmed)
    × (text ≡ some_ring_encoding h.last ⊕ big_bytes 8 h.length ⊕ big_bytes 8 h.committed ⊕ big_bytes 8 h.trimmed)

-- a head of either sort, after its tag
abbrev pub IsHeadEncoding : Head → List ℕ → Type 0
IsHeadEncoding h text = Tagged head_tag (IsWholeHeadEncoding h) text ⊎ Tagged trimmed_tag (IsTrimmedHeadEncoding h) text

-- a part: first place, count, calls
abbrev pub IsPartEncoding : {A : Type 0} → Part A → List ℕ → Type 0
IsPartEncoding p text = PartFits p × (text ≡ big_bytes 8 p.first ⊕ length p.calls ∷ flat_map call_encoding p.calls)

-- a pack: count, calls
abbrev pub IsPackEncoding : {A : Type 0} → Pack A → List ℕ → Type 0
IsPackEncoding p text = PackFits p × (text ≡ length p.calls ∷ flat_map call_encoding p.calls)

-- a piece of a snapshot: places, the snapshot's length, offset, count, bytes
abbrev pub IsSnapEncoding : {A : Type 0} → Snap A → List ℕ → Type 0
IsSnapEncoding s text = SnapFits s × (text ≡ big_bytes 8 s.at ⊕ big_bytes 4 s.total ⊕ big_bytes 4 s.offset ⊕ big_bytes 2 (length s.bytes) ⊕ s.bytes)

-- the content of a Wrapped: a tag and its body
abbrev pub IsContentEncoding : {A : Type 0} → WrappedPayload A → List ℕ → Type 0
IsContentEncoding (contents.Call c) text = Tagged call_tag (IsCallEncoding c) text
IsContentEncoding (contents.Head h) text = IsHeadEncoding h text
IsContentEncoding (contents.Part p) text = Tagged part_tag (IsPartEncoding p) text
IsContentEncoding (contents.Pack p) text = Tagged pack_tag (IsPackEncoding p) text
IsContentEncoding (contents.Snap s) text = Tagged snap_tag (IsSnapEncoding s) text

-- a Wrapped: old ring, number and sender there, content
pub record IsWrappedEncoding {A : Type 0} (w : Wrapped A) (bytes : List ℕ) : Type 0 where
  pub fits : WrappedFits w
  pub content : List ℕ
  pub is_content : IsContentEncoding w.payload content
  pub text : bytes ≡ ring_encoding w.ring ⊕ big_bytes 8 w.number ⊕ w.sender ∷ content

-- a payload: a tag and its body; an End has no body
abbrev pub IsPayloadEncoding : {A : Type 0} → Payload A → List ℕ → Type 0
IsPayloadEncoding (payloads.Call c) text = Tagged call_tag (IsCallEncoding c) text
IsPayloadEncoding (payloads.Wrapped w) text = Tagged wrapped_tag (IsWrappedEncoding w) text
IsPayloadEncoding payloads.End text = Tagged end_tag (λ rest. rest ≡ []) text
IsPayloadEncoding (payloads.Head h) text = IsHeadEncoding h text
IsPayloadEncoding (payloads.Part p) text = Tagged part_tag (IsPartEncoding p) text
IsPayloadEncoding (payloads.Pack p) text = Tagged pack_tag (IsPackEncoding p) text
IsPayloadEncoding (payloads.Snap s) text = Tagged snap_tag (IsSnapEncoding s) text

-- ---- frames: two fixed bytes, the version, the kind, the length of the body, the body

-- the start of a frame of this version and kind, then a length-prefixed body of this form
abbrev pub Framed : ℕ → ℕ → (List ℕ → Type 0) → List ℕ → Type 0
Framed version kind IsBody text = (body : List ℕ) × (text ≡ 84 ∷ 82 ∷ version ∷ kind ∷ big_bytes 4 (length body) ⊕ body) × IsBody body

-- a message: ring, number, sender, payload
pub record IsMessageEncoding {A : Type 0} (m : Message A) (bytes : List ℕ) : Type 0 where
  pub fits : MessageFits m
  pub payload : List ℕ
  pub is_payload : IsPayloadEncoding m.payload payload
  pub text : bytes ≡ ring_encoding m.ring ⊕ big_bytes 8 m.number ⊕ m.sender ∷ payload

-- a token: ring, number, `seq`, `aru`, `aru_id`, count, requests
abbrev pub IsTokenEncoding : Token → List ℕ → Type 0
IsTokenEncoding t text =
    TokenFits t ×
    (text
    ≡ ring_encoding t.ring ⊕ big_bytes 8 t.number ⊕ big_bytes 8 t.seq ⊕ big_bytes 8 t.aru ⊕ some_proc_encoding
    t.aru_id ⊕ length t.requests ∷ flat_map (λ n. big_bytes 8 n) t.requests)

-- a join: sender, number, `proc_set`, `fail_set`
abbrev pub IsJoinEncoding : Join → List ℕ → Type 0
IsJoinEncoding j text = JoinFits j × (text ≡ j.sender ∷ big_bytes 8 j.number ⊕ big_bytes 2 j.proc_set ⊕ big_bytes 2 j.fail_set)

-- a commit token: ring, members, hop, entries
abbrev pub IsCommitEncoding : CommitToken → List ℕ → Type 0
IsCommitEncoding t text = CommitFits t × (text ≡ ring_encoding t.ring ⊕ big_bytes 2 t.members ⊕ t.hop ∷ flat_map entry_encoding t.entries)

-- the bytes encode the frame; a message's version is 2 for a pack of calls, 3 for a piece of a snapshot or the head of
-- a trimmed log, and otherwise 1; all other frames have version 1
abbrev pub IsFrameEncoding : {A : Type 0} → Frame A → List ℕ → Type 0
IsFrameEncoding (frames.Message m) text = Framed (payload_version m.payload) message_kind (IsMessageEncoding m) text
IsFrameEncoding (frames.Token t) text = Framed first_version token_kind (IsTokenEncoding t) text
IsFrameEncoding (frames.Join j) text = Framed first_version join_kind (IsJoinEncoding j) text
IsFrameEncoding (frames.Commit t) text = Framed first_version commit_kind (IsCommitEncoding t) text
