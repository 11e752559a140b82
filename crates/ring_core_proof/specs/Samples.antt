-- Values for the worked examples: calls, messages, tokens, joins, reports, and cores that hold some numbers of a
-- ring.
use Rattle.std.specs.Prelude.{ℕ, List, [], ◌∷◌, map, Option, None}
use Rattle.std.specs.declared.alloc.Global.{Global}
use Rattle.ring_base.specs.Numbers.{has_bit}
use Rattle.ring_base.specs.declared.ring_id.RingId.{RingId}
use Rattle.ring_payload.specs.declared.call.Call.{Call}
use Rattle.ring_payload.specs.declared.content.WrappedPayload.TheVariants.{Call as CallContent}
use Rattle.ring_payload.specs.declared.content.Payload.{Payload}
use Rattle.ring_payload.specs.declared.content.Payload.TheVariants.{Call as CallPayload, Head, Wrapped}
use Rattle.ring_wire.specs.declared.entries.CommitEntry.{CommitEntry}
use Rattle.ring_wire.specs.declared.commit.CommitToken.{CommitToken}
use Rattle.ring_wire.specs.declared.frame.Frame.{Frame}
use Rattle.ring_wire.specs.declared.frame.Frame.TheVariants.{Token as TokenFrame, Join as JoinFrame, Commit as CommitFrame}
use Rattle.ring_wire.specs.declared.join.Join.{Join}
use Rattle.ring_wire.specs.declared.message.Message.{Message}
use Rattle.ring_wire.specs.declared.token.Token.{Token}
use Rattle.ring_core_spec.specs.Windows.{bytes_from_bits}
use Rattle.ring_core_spec.specs.State.{Core, formed}

-- The ring of a number and a representative.
abbrev pub ring_of : ℕ → ℕ → RingId
ring_of seq rep = record { seq = seq; rep = rep }

-- The ring (1, 1).
abbrev pub first_ring : RingId
first_ring = ring_of 1 1

-- The ring (2, 1).
abbrev pub second_ring : RingId
second_ring = ring_of 2 1

-- Call 7.1: add 5 to the counter 0.
abbrev pub add_five : Call Global
add_five = record { client = 7; number = 1; op = 1 ∷ 1 ∷ 0 ∷ 0 ∷ 0 ∷ 0 ∷ 0 ∷ 0 ∷ 0 ∷ 0 ∷ 5 ∷ [] }

-- The Head of an empty log.
abbrev pub empty_head : Payload Global
empty_head = Head (record { last = None; length = 0; committed = 0; trimmed = 0 })

-- A message of a ring with its number, sender and payload.
abbrev pub message_of : RingId → ℕ → ℕ → Payload Global → Message Global
message_of ring number sender payload = record { ring = ring; number = number; sender = sender; payload = payload }

-- Call 7.1 as the message of this number of the first ring.
abbrev pub call_at : ℕ → ℕ → Message Global
call_at sender number = message_of first_ring number sender (CallPayload add_five)

-- The same call as a Wrapped.
abbrev pub wrapped_call : ℕ → ℕ → Payload Global
wrapped_call sender number = Wrapped (record { ring = first_ring; number = number; sender = sender; payload = CallContent add_five })

-- A token of the first ring.
abbrev pub token_of : ℕ → ℕ → ℕ → Option ℕ → List ℕ → Token
token_of number seq aru aru_id requests = record { ring = first_ring; number = number; seq = seq; aru = aru; aru_id = aru_id; requests = requests }

-- The same as a frame.
abbrev pub token_frame : ℕ → ℕ → ℕ → Option ℕ → List ℕ → Frame Global
token_frame number seq aru aru_id requests = TokenFrame (token_of number seq aru aru_id requests)

-- A token whose `aru` is its `seq`.
abbrev pub token_at : ℕ → ℕ → Token
token_at number seq = token_of number seq seq None []

-- A join with its sender, the sender's floor, and the two sets.
abbrev pub join_of : ℕ → ℕ → ℕ → ℕ → Join
join_of sender number proc_set fail_set = record { sender = sender; number = number; proc_set = proc_set; fail_set = fail_set }

-- The same as a frame.
abbrev pub join_frame : ℕ → ℕ → ℕ → ℕ → Frame Global
join_frame sender number proc_set fail_set = JoinFrame (join_of sender number proc_set fail_set)

-- An entry with its bits as one number, whose least bit is that of the number after the front.
abbrev pub report_of : RingId → ℕ → ℕ → ℕ → CommitEntry
report_of old front mark bits = record { old = old; front = front; mark = mark; held = bytes_from_bits (has_bit bits) 0 32 }

-- The report of a processor that was in no ring.
abbrev pub empty_report : ℕ → CommitEntry
empty_report i = report_of (ring_of 0 i) 0 0 0

-- A commit token of a ring with its members, hop and entries.
abbrev pub commit_of : RingId → ℕ → ℕ → List CommitEntry → CommitToken
commit_of ring members hop entries = record { ring = ring; members = members; hop = hop; entries = entries }

-- The same as a frame.
abbrev pub commit_frame : RingId → ℕ → ℕ → List CommitEntry → Frame Global
commit_frame ring members hop entries = CommitFrame (commit_of ring members hop entries)

-- A processor of a formed ring of n that holds these numbers, all sent by processor 1.
abbrev pub holding : ℕ → ℕ → List ℕ → Core Global
holding n me numbers = record (formed n me) { held = map (call_at 1) numbers }
