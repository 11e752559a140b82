-- Payloads at the front of the send queue: the bytes of a Call in a Pack, and what remains of a queue.
-- Rules: Token and window 9
use Rattle.std.specs.Prelude.{◌≡◌, ◌++◌, ℕ, List, Option, Some, None}
use Rattle.ring_payload.specs.declared.call.Call.{Call as OneCall}
use Rattle.ring_payload.specs.declared.content.Payload.{Payload}
use Rattle.ring_payload.specs.declared.content.Payload.TheVariants.{Call, Wrapped, End, Head, Part, Pack, Snap}
use Rattle.ring_payload.specs.Calls.{call_bytes}

-- The call of a Call, none for any other payload.
abbrev pub call_of : {A : Type 0} → Payload A → Option (OneCall A)
call_of (Call call) = Some call
call_of (Wrapped old) = None
call_of End = None
call_of (Head head) = None
call_of (Part part) = None
call_of (Pack pack) = None
call_of (Snap snap) = None

-- The length in bytes of a Call's encoding in a Pack, none for any other payload.
abbrev pub bytes_of : {A : Type 0} → Payload A → Option ℕ
bytes_of (Call call) = Some (call_bytes call)
bytes_of (Wrapped old) = None
bytes_of End = None
bytes_of (Head head) = None
bytes_of (Part part) = None
bytes_of (Pack pack) = None
bytes_of (Snap snap) = None

-- A queue without some of its first payloads.
abbrev pub IsLeftOf : {A : Type 0} → List (Payload A) → List (Payload A) → Type 0
IsLeftOf left queue = (taken : List (Payload _)) × (taken ++ left ≡ queue)
