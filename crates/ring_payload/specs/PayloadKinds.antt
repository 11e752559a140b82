-- How rings and logs see payloads: which are user payloads, which are Ends, which can be wrapped, the messages in a
-- pack, and the calls that a payload appends to a log.
-- Rules: Recovery 4 to 6
use Rattle.std.specs.Prelude.{Bool, true, false, List, [], ◌∷◌, map, Option, Some, None}
use Rattle.ring_payload.specs.declared.call.Call.{Call as OneCall}
use Rattle.ring_payload.specs.declared.content.WrappedPayload.{WrappedPayload}
use Rattle.ring_payload.specs.declared.content.WrappedPayload.TheVariants.{Call as CallContent, Head as HeadContent}
use Rattle.ring_payload.specs.declared.content.WrappedPayload.TheVariants.{Part as PartContent, Pack as PackContent}
use Rattle.ring_payload.specs.declared.content.WrappedPayload.TheVariants.{Snap as SnapContent}
use Rattle.ring_payload.specs.declared.content.Payload.{Payload}
use Rattle.ring_payload.specs.declared.content.Payload.TheVariants.{Call, Wrapped, End, Head, Part, Pack, Snap}

-- whether it is a user payload, which clients or the log send; only Wrapped and End, which serve recovery, are not
abbrev pub is_user : {A : Type 0} → Payload A → Bool
is_user (Call call) = true
is_user (Wrapped old) = false
is_user End = false
is_user (Head head) = true
is_user (Part part) = true
is_user (Pack pack) = true
is_user (Snap snap) = true

-- whether it is an End, by which a member says that it has wrapped all its messages
abbrev pub is_end : {A : Type 0} → Payload A → Bool
is_end End = true
is_end (Call call) = false
is_end (Wrapped old) = false
is_end (Head head) = false
is_end (Part part) = false
is_end (Pack pack) = false
is_end (Snap snap) = false

-- the content of a Wrapped, as a payload
abbrev pub payload_of : {A : Type 0} → WrappedPayload A → Payload A
payload_of (CallContent call) = Call call
payload_of (HeadContent head) = Head head
payload_of (PartContent part) = Part part
payload_of (PackContent pack) = Pack pack
payload_of (SnapContent snap) = Snap snap

-- a payload as the content of a Wrapped, if it is a user payload
abbrev pub content_of : {A : Type 0} → Payload A → Option (WrappedPayload A)
content_of (Call call) = Some (CallContent call)
content_of (Wrapped old) = None
content_of End = None
content_of (Head head) = Some (HeadContent head)
content_of (Part part) = Some (PartContent part)
content_of (Pack pack) = Some (PackContent pack)
content_of (Snap snap) = Some (SnapContent snap)

-- the payloads that a payload packs, in order: a Call for each call of a pack; of any other only the payload itself
abbrev pub unpacked_payloads : {A : Type 0} → Payload A → List (Payload A)
unpacked_payloads (Pack pack) = map (λ (c : OneCall _). Call c) pack.calls
unpacked_payloads (Call call) = Call call ∷ []
unpacked_payloads (Wrapped old) = Wrapped old ∷ []
unpacked_payloads End = End ∷ []
unpacked_payloads (Head head) = Head head ∷ []
unpacked_payloads (Part part) = Part part ∷ []
unpacked_payloads (Snap snap) = Snap snap ∷ []

-- the calls that a payload appends to a log, in order: those of a Call or a Pack
abbrev pub calls_of : {A : Type 0} → Payload A → List (OneCall A)
calls_of (Call call) = call ∷ []
calls_of (Pack pack) = pack.calls
calls_of (Wrapped old) = []
calls_of End = []
calls_of (Head head) = []
calls_of (Part part) = []
calls_of (Snap snap) = []
