-- The lines of a listing, one for each frame.
-- Formats: Listing frames
use Rattle.std.specs.Prelude.{ℕ, List, [], ◌∷◌, ◌++◌, length, flat_map, codes, Option, Some, None}
use Rattle.std.specs.Fmt.{decimal}
use Rattle.std.specs.List.{join_by}
use Rattle.ring_base.specs.Processors.{elements}
use Rattle.ring_base.specs.Rings.{ring_text}
use Rattle.ring_base.specs.declared.ring_id.RingId.{RingId}
use Rattle.ring_payload.specs.declared.call.Call.{Call}
use Rattle.ring_payload.specs.declared.calls.Pack.{Pack}
use Rattle.ring_payload.specs.declared.calls.Part.{Part}
use Rattle.ring_payload.specs.declared.content.WrappedPayload.{WrappedPayload}
use Rattle.ring_payload.specs.declared.content.WrappedPayload.TheVariants as content
use Rattle.ring_payload.specs.declared.content.Payload.{Payload}
use Rattle.ring_payload.specs.declared.content.Payload.TheVariants as payload
use Rattle.ring_payload.specs.declared.content.Wrapped.{Wrapped}
use Rattle.ring_payload.specs.declared.head.Head.{Head}
use Rattle.ring_payload.specs.declared.snap.Snap.{Snap}
use Rattle.ring_wire.specs.declared.commit.CommitToken.{CommitToken}
use Rattle.ring_wire.specs.declared.frame.Frame.{Frame}
use Rattle.ring_wire.specs.declared.frame.Frame.TheVariants as frame
use Rattle.ring_wire.specs.declared.join.Join.{Join}
use Rattle.ring_wire.specs.declared.message.Message.{Message}
use Rattle.ring_wire.specs.declared.token.Token.{Token}
use Rattle.ring_failure.specs.Texts.{line_of}
use Rattle.ring_console.specs.OutputLines.{trimmed_text}

-- Numbers separated by commas, or a dash if there are none.
abbrev pub numbers_text : List ℕ → List ℕ
numbers_text [] = codes "-"
numbers_text (n ∷ ns) = join_by decimal (codes ",") (n ∷ ns)

-- A call: its client, its number, and the length of its operation.
abbrev pub call_text : {A : Type 0} → Call A → List ℕ
call_text call =
    codes "call " ++ decimal call.client ++ codes "." ++ decimal call.number ++ codes " op " ++ decimal (length call.op)

-- A last primary ring, or `none`.
abbrev pub primary_text : Option RingId → List ℕ
primary_text None = codes "none"
primary_text (Some ring) = ring_text ring

-- A head: the last primary ring, the log's length, its committed length and, unless it is 0, its trimmed length.
abbrev pub head_text : Head → List ℕ
head_text head =
    codes "head last " ++ primary_text head.last ++ codes " length " ++ decimal head.length ++ codes " committed "
    ++ decimal head.committed ++ trimmed_text head.trimmed

-- A part of a log: the place of its first call, and the number of its calls.
abbrev pub part_text : {A : Type 0} → Part A → List ℕ
part_text part = codes "part from " ++ decimal part.first ++ codes " count " ++ decimal (length part.calls)

-- Packed calls: their number.
abbrev pub pack_text : {A : Type 0} → Pack A → List ℕ
pack_text pack = codes "pack count " ++ decimal (length pack.calls)

-- A piece of a snapshot: the number of places that the snapshot replaces, its length in bytes, the piece's offset, and
-- the piece's length in bytes.
abbrev pub snap_text : {A : Type 0} → Snap A → List ℕ
snap_text snap = codes "snap at " ++ decimal snap.at ++ codes " total " ++ decimal snap.total ++ codes " offset "
    ++ decimal snap.offset ++ codes " count " ++ decimal (length snap.bytes)

-- A message's content that is sent again on a later ring.
abbrev pub content_text : {A : Type 0} → WrappedPayload A → List ℕ
content_text (content.Call call) = call_text call
content_text (content.Head head) = head_text head
content_text (content.Part part) = part_text part
content_text (content.Pack pack) = pack_text pack
content_text (content.Snap snap) = snap_text snap

-- A message of an old ring: its ring, number and sender there, and its content.
abbrev pub wrapped_text : {A : Type 0} → Wrapped A → List ℕ
wrapped_text wrapped =
    codes "wrapped " ++ ring_text wrapped.ring ++ codes " seq " ++ decimal wrapped.number ++ codes " from "
    ++ decimal wrapped.sender ++ codes " " ++ content_text wrapped.payload

-- A message's payload.
abbrev pub payload_text : {A : Type 0} → Payload A → List ℕ
payload_text (payload.Call call) = call_text call
payload_text (payload.Wrapped wrapped) = wrapped_text wrapped
payload_text payload.End = codes "end"
payload_text (payload.Head head) = head_text head
payload_text (payload.Part part) = part_text part
payload_text (payload.Pack pack) = pack_text pack
payload_text (payload.Snap snap) = snap_text snap

-- A message: its ring, number, sender and payload.
abbrev pub message_text : {A : Type 0} → Message A → List ℕ
message_text message =
    codes "message " ++ ring_text message.ring ++ codes " seq " ++ decimal message.number ++ codes " from "
    ++ decimal message.sender ++ codes " " ++ payload_text message.payload

-- The processor that lowered aru, or 0 for none.
abbrev pub lowered_text : Option ℕ → List ℕ
lowered_text None = codes "0"
lowered_text (Some node) = decimal node

-- A token: its ring and number, its seq and aru, the processor that lowered aru, and the requested numbers.
abbrev pub token_text : Token → List ℕ
token_text token =
    codes "token " ++ ring_text token.ring ++ codes " number " ++ decimal token.number ++ codes " seq " ++ decimal token.seq
    ++ codes " aru " ++ decimal token.aru ++ codes " id " ++ lowered_text token.aru_id ++ codes " asks " ++ numbers_text token.requests

-- A join: its sender and number, its `proc_set` and its `fail_set`.
abbrev pub join_text : Join → List ℕ
join_text join =
    codes "join " ++ decimal join.sender ++ codes " number " ++ decimal join.number ++ codes " procs " ++ numbers_text (elements join.proc_set)
    ++ codes " fails " ++ numbers_text (elements join.fail_set)

-- A commit token: its ring, members and hop, and the number of its entries.
abbrev pub commit_text : CommitToken → List ℕ
commit_text token =
    codes "commit " ++ ring_text token.ring ++ codes " members " ++ numbers_text (elements token.members) ++ codes " hop " ++ decimal token.hop
    ++ codes " entries " ++ decimal (length token.entries)

-- A frame's line, without its line feed.
abbrev pub frame_text : {A : Type 0} → Frame A → List ℕ
frame_text (frame.Message message) = message_text message
frame_text (frame.Token token) = token_text token
frame_text (frame.Join join) = join_text join
frame_text (frame.Commit token) = commit_text token

-- The lines of frames.
abbrev pub listing_of : {A : Type 0} → List (Frame A) → List ℕ
listing_of frames = flat_map (λ (one : Frame _). line_of (frame_text one)) frames
