-- Short names for the values in schedules.
use Rattle.std.specs.Prelude.{ℕ, List, [], map, Option, Some, None}
use Rattle.std.specs.declared.alloc.Global.{Global}
use Rattle.ring_base.specs.Numbers.{numbers_from}
use Rattle.ring_base.specs.declared.ring_id.RingId.{RingId}
use Rattle.ring_payload.specs.declared.call.Call.{Call}
use Rattle.ring_payload.specs.declared.content.WrappedPayload.{WrappedPayload}
use Rattle.ring_payload.specs.declared.content.WrappedPayload.TheVariants.{Call as CallContent, Head as HeadContent, Pack as PackContent}
use Rattle.ring_payload.specs.declared.content.Payload.{Payload}
use Rattle.ring_payload.specs.declared.content.Payload.TheVariants.{Call as CallPayload, Wrapped, Head as HeadPayload}
use Rattle.ring_payload.specs.declared.content.Payload.TheVariants.{Part as PartPayload}
use Rattle.ring_payload.specs.declared.head.Head.{Head}
use Rattle.ring_wire.specs.declared.frame.Frame.{Frame}
use Rattle.ring_wire.specs.declared.frame.Frame.TheVariants.{Token as TokenFrame}
pub use Rattle.ring_core_proof.specs.Samples.{message_of as message, join_frame as join, report_of as report, commit_frame as commit}
pub use Rattle.ring_core_proof.specs.PackedCalls.{pack_of as pack}

-- Call `number` of a client, without an operation.
abbrev pub call_of : ℕ → ℕ → Call Global
call_of client number = record { client = client; number = number; op = [] }

-- The same with an operation of 900 bytes.
abbrev pub long_call_of : ℕ → ℕ → Call Global
long_call_of client number = record { client = client; number = number; op = map (λ n. 7) (numbers_from 1 900) }

-- Such a call as a payload.
abbrev pub call : ℕ → ℕ → Payload Global
call client number = CallPayload (call_of client number)

-- Such a call as the content of a Wrapped.
abbrev pub call_content : ℕ → ℕ → WrappedPayload Global
call_content client number = CallContent (call_of client number)

-- A call of 900 bytes as a payload.
abbrev pub long_call : ℕ → ℕ → Payload Global
long_call client number = CallPayload (long_call_of client number)

-- A Pack of calls as the content of a Wrapped.
abbrev pub pack_content : List (Call Global) → WrappedPayload Global
pack_content calls = PackContent (record { calls = calls })

-- The Head of an empty log.
abbrev pub empty_head : Head
empty_head = record { last = None; length = 0; committed = 0; trimmed = 0 }

-- The Head of a log that was last in this primary ring.
abbrev pub head_of : RingId → ℕ → ℕ → Head
head_of last length committed = record { last = Some last; length = length; committed = committed; trimmed = 0 }

-- The Head of an empty log as a payload.
abbrev pub head : Payload Global
head = HeadPayload empty_head

-- The Head of an empty log as the content of a Wrapped.
abbrev pub head_content : WrappedPayload Global
head_content = HeadContent empty_head

-- The Head of a log that was in a primary ring, as a payload.
abbrev pub head_after : RingId → ℕ → ℕ → Payload Global
head_after last length committed = HeadPayload (head_of last length committed)

-- The Head of a log that was in a primary ring, as the content of a Wrapped.
abbrev pub head_content_after : RingId → ℕ → ℕ → WrappedPayload Global
head_content_after last length committed = HeadContent (head_of last length committed)

-- A Part: the places of a log from `first` on.
abbrev pub part : ℕ → List (Call Global) → Payload Global
part first calls = PartPayload (record { first = first; calls = calls })

-- A Wrapped of an old ring's message.
abbrev pub wrapped : RingId → ℕ → ℕ → WrappedPayload Global → Payload Global
wrapped ring number sender content = Wrapped (record { ring = ring; number = number; sender = sender; payload = content })

-- A token.
abbrev pub token : RingId → ℕ → ℕ → ℕ → Option ℕ → List ℕ → Frame Global
token ring number seq aru aru_id requests = TokenFrame (record { ring = ring; number = number; seq = seq; aru = aru; aru_id = aru_id; requests = requests })
