-- Equality of two messages as a test: the same ring, number, sender and payload, byte by byte.
use Rattle.std.specs.Prelude.{Bool, true, false, ◌&&◌, ◌==◌, List, Option, Some, None}
use Rattle.std.specs.Cmp.Lexicographic.{pointwise}
use Rattle.std.specs.Str.{bytes_eq}
use Rattle.ring_base.specs.Rings.{same_ring}
use Rattle.ring_base.specs.declared.ring_id.RingId.{RingId}
use Rattle.ring_payload.specs.declared.call.Call.{Call as OneCall}
use Rattle.ring_payload.specs.declared.calls.Part.{Part as OnePart}
use Rattle.ring_payload.specs.declared.head.Head.{Head as OneHead}
use Rattle.ring_payload.specs.declared.snap.Snap.{Snap as OneSnap}
use Rattle.ring_payload.specs.declared.content.WrappedPayload.{WrappedPayload}
use Rattle.ring_payload.specs.declared.content.WrappedPayload.TheVariants.{Call as CallContent, Head as HeadContent}
use Rattle.ring_payload.specs.declared.content.WrappedPayload.TheVariants.{Part as PartContent, Pack as PackContent}
use Rattle.ring_payload.specs.declared.content.WrappedPayload.TheVariants.{Snap as SnapContent}
use Rattle.ring_payload.specs.declared.content.Payload.{Payload}
use Rattle.ring_payload.specs.declared.content.Payload.TheVariants.{Call, Wrapped, End, Head, Part, Pack, Snap}
use Rattle.ring_payload.specs.declared.content.Wrapped.{Wrapped as WrappedMessage}
use Rattle.ring_payload.specs.SameCalls.{is_same}
use Rattle.ring_wire.specs.declared.message.Message.{Message}

-- The calls are the same, one by one; each test here decides equality of two values in all their fields, and that of
-- lists also their length.
abbrev pub same_calls : {A : Type 0} → List (OneCall A) → List (OneCall A) → Bool
same_calls cs ds = pointwise (λ (c : OneCall _) (d : OneCall _). is_same d c) cs ds

-- The last primaries are the same, or both are none.
abbrev pub same_last : Option RingId → Option RingId → Bool
same_last None None = true
same_last None (Some s) = false
same_last (Some r) None = false
same_last (Some r) (Some s) = same_ring r s

-- The Heads are the same.
abbrev pub same_head : OneHead → OneHead → Bool
same_head a b = same_last a.last b.last && ((a.length == b.length) && ((a.committed == b.committed) && (a.trimmed == b.trimmed)))

-- The Parts are the same.
abbrev pub same_part : {A : Type 0} → OnePart A → OnePart A → Bool
same_part a b = (a.first == b.first) && same_calls a.calls b.calls

-- The Snaps are the same.
abbrev pub same_snap : {A : Type 0} → OneSnap A → OneSnap A → Bool
same_snap a b = (a.at == b.at) && ((a.total == b.total) && ((a.offset == b.offset) && bytes_eq a.bytes b.bytes))

-- The contents of Wrapped are the same.
abbrev pub same_content : {A : Type 0} → WrappedPayload A → WrappedPayload A → Bool
same_content (CallContent a) (CallContent b) = is_same b a
same_content (HeadContent a) (HeadContent b) = same_head a b
same_content (PartContent a) (PartContent b) = same_part a b
same_content (PackContent a) (PackContent b) = same_calls a.calls b.calls
same_content (SnapContent a) (SnapContent b) = same_snap a b
same_content _ _ = false

-- The Wrapped are the same.
abbrev pub same_wrapped : {A : Type 0} → WrappedMessage A → WrappedMessage A → Bool
same_wrapped a b = same_ring a.ring b.ring && ((a.number == b.number) && ((a.sender == b.sender) && same_content a.payload b.payload))

-- The payloads are the same.
abbrev pub same_payload : {A : Type 0} → Payload A → Payload A → Bool
same_payload (Call a) (Call b) = is_same b a
same_payload (Wrapped a) (Wrapped b) = same_wrapped a b
same_payload End End = true
same_payload (Head a) (Head b) = same_head a b
same_payload (Part a) (Part b) = same_part a b
same_payload (Pack a) (Pack b) = same_calls a.calls b.calls
same_payload (Snap a) (Snap b) = same_snap a b
same_payload _ _ = false

-- The messages are the same.
abbrev pub same_message : {A : Type 0} → Message A → Message A → Bool
same_message x y = same_ring x.ring y.ring && ((x.number == y.number) && ((x.sender == y.sender) && same_payload x.payload y.payload))

-- The lists of messages are the same.
abbrev pub same_messages : {A : Type 0} → List (Message A) → List (Message A) → Bool
same_messages xs ys = pointwise same_message xs ys
