-- Worked examples of how a visit packs its queue: consecutive calls, runs cut at sixteen calls and at the greatest
-- payload, and payloads between runs.
-- Formats: Worked examples
use Rattle.std.specs.Prelude.{ℕ, List, [], ◌∷◌, ◌++◌, map, None}
use Rattle.std.specs.declared.alloc.Global.{Global}
use Rattle.ring_base.specs.Numbers.{numbers_from}
use Rattle.ring_base.specs.declared.timeout_kind.Kind.TheVariants.{Join as JoinTime}
use Rattle.ring_payload.specs.declared.call.Call.{Call}
use Rattle.ring_payload.specs.declared.content.WrappedPayload.TheVariants.{Pack as PackContent}
use Rattle.ring_payload.specs.declared.content.Payload.{Payload}
use Rattle.ring_payload.specs.declared.content.Payload.TheVariants.{Call as CallPayload, Pack as PackPayload, Snap as SnapPayload, Wrapped}
use Rattle.ring_wire.specs.declared.message.Message.{Message}
use Rattle.ring_core_spec.specs.declared.out.Out.{Out}
use Rattle.ring_core_spec.specs.declared.out.Out.TheVariants.{Send as SendOut, Agreed, Safe}
use Rattle.ring_core_spec.specs.State.{Core, formed}
use Rattle.ring_core_proof.specs.declared.event.RingEvent.{RingEvent}
use Rattle.ring_core_proof.specs.declared.event.RingEvent.TheVariants.{Send, Deliver, Timeout}
use Rattle.ring_core_proof.specs.Samples.{first_ring, second_ring, message_of, call_at, empty_head, token_frame}
use Rattle.ring_core_proof.specs.Recoveries.{recovering, two_reports}

-- Call 7.n: add 1 to the counter 0.
abbrev pub add_one : ℕ → Call Global
add_one n = record { client = 7; number = n; op = 1 ∷ 1 ∷ 0 ∷ 0 ∷ 0 ∷ 0 ∷ 0 ∷ 0 ∷ 0 ∷ 0 ∷ 1 ∷ [] }

-- `count` such calls, from call 7.first on.
abbrev pub calls_from : ℕ → ℕ → List (Call Global)
calls_from first count = map add_one (numbers_from first count)

-- A call with an operation of `size` bytes.
abbrev pub call_of_size : ℕ → Call Global
call_of_size size = record { client = 7; number = 1; op = map (λ n. 0) (numbers_from 1 size) }

-- `count` such calls.
abbrev pub calls_of_size : ℕ → ℕ → List (Call Global)
calls_of_size size count = map (λ n. call_of_size size) (numbers_from 1 count)

-- Seven calls with operations of 1,000 bytes, and one of `size` bytes.
abbrev pub seven_and : ℕ → List (Call Global)
seven_and size = calls_of_size 1000 7 ++ call_of_size size ∷ []

-- Calls as queued payloads.
abbrev pub waiting : List (Call Global) → List (Payload Global)
waiting calls = map (λ c. CallPayload c) calls

-- Calls as one Pack.
abbrev pub pack_of : List (Call Global) → Payload Global
pack_of calls = PackPayload (record { calls = calls })

-- Processor 1 of two in the first ring, with this queue.
abbrev pub queueing : List (Payload Global) → Core Global
queueing queue = record (formed 2 1) { queue = queue }

-- Calls before and after a Head.
abbrev pub around_head : List (Payload Global)
around_head = waiting (calls_from 1 2) ++ empty_head ∷ waiting (calls_from 3 3)

-- Two calls, from call 7.first on, and a Head.
abbrev pub two_and_head : ℕ → List (Payload Global)
two_and_head first = waiting (calls_from first 2) ++ empty_head ∷ []

-- Five times two calls and a Head.
abbrev pub five_times : List (Payload Global)
five_times = two_and_head 1 ++ two_and_head 3 ++ two_and_head 5 ++ two_and_head 7 ++ two_and_head 9

-- A piece of a snapshot.
abbrev pub piece : Payload Global
piece = SnapPayload (record { at = 1; total = 2; offset = 0; bytes = 0 ∷ 0 ∷ [] })

-- One processor alone receives nine calls between two visits

-- The events of that processor.
abbrev pub nine_events : List (RingEvent Global)
nine_events =
    Timeout 1 JoinTime ∷ Deliver 1 1 ∷ Deliver 1 2 ∷ Deliver 1 3 ∷ Send 1 empty_head ∷ Deliver 1 4 ∷
    (map (λ p. Send 1 p) (waiting (calls_from 1 9)) ++ Deliver 1 5 ∷ Deliver 1 6 ∷ [])

-- The outputs of the two visits after them.
abbrev pub nine_outs : List (ℕ × Out Global)
nine_outs =
    (1, SendOut 1 (token_frame 4 3 3 None [])) ∷
    (1, Agreed first_ring 3 (message_of first_ring 3 1 (pack_of (calls_from 1 9)))) ∷
    (1, Safe first_ring 2) ∷
    (1, SendOut 1 (token_frame 5 3 3 None [])) ∷
    (1, Safe first_ring 3) ∷ []

-- Recovery wraps a Pack whole: processor 1 holds it as message 4 of the first ring, and processor 2 lacks it

-- The message: two calls in one Pack.
abbrev pub packed_message : Message Global
packed_message = message_of first_ring 4 1 (pack_of (calls_from 1 2))

-- Processor 1, which holds 1, 2 and 4.
abbrev pub with_pack : Core Global
with_pack = recovering 2 1 3 (map (call_at 1) (1 ∷ 2 ∷ []) ++ packed_message ∷ []) two_reports

-- The Wrapped of the Pack.
abbrev pub wrapped_pack : Payload Global
wrapped_pack = Wrapped (record { ring = first_ring; number = 4; sender = 1; payload = PackContent (record { calls = calls_from 1 2 }) })

-- The same as message 1 of the second ring.
abbrev pub handed_on : Message Global
handed_on = message_of second_ring 1 1 wrapped_pack
