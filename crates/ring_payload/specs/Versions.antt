-- The version of a frame, by its payload: 2 for a pack of calls, 3 for a piece of a snapshot or the head of a trimmed
-- log, otherwise 1.
-- Formats: Frames
use Rattle.std.specs.Prelude.{ℕ, ◌==◌, if◌then◌else◌}
use Rattle.ring_payload.specs.declared.content.WrappedPayload.{WrappedPayload}
use Rattle.ring_payload.specs.declared.content.WrappedPayload.TheVariants as contents
use Rattle.ring_payload.specs.declared.content.Payload.{Payload}
use Rattle.ring_payload.specs.declared.content.Payload.TheVariants as payloads
use Rattle.ring_payload.specs.declared.head.Head.{Head}
use Rattle.ring_payload.specs.Limits.{first_version, pack_version, trim_version}

-- the version for a head: 3 if its trimmed length is above 0, otherwise 1
abbrev pub head_version : Head → ℕ
head_version h = if h.trimmed == 0 then first_version else trim_version

-- the version for the content of a Wrapped
abbrev pub content_version : {A : Type 0} → WrappedPayload A → ℕ
content_version (contents.Call x) = first_version
content_version (contents.Head x) = head_version x
content_version (contents.Part x) = first_version
content_version (contents.Pack x) = pack_version
content_version (contents.Snap x) = trim_version

-- the version for a payload; a Wrapped has that of its content
abbrev pub payload_version : {A : Type 0} → Payload A → ℕ
payload_version (payloads.Call x) = first_version
payload_version (payloads.Wrapped x) = content_version x.payload
payload_version payloads.End = first_version
payload_version (payloads.Head x) = head_version x
payload_version (payloads.Part x) = first_version
payload_version (payloads.Pack x) = pack_version
payload_version (payloads.Snap x) = trim_version
