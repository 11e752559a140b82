-- Examples of the epochs of three processors. They form ring 4.1, where a call of client 7 is committed only at
-- processor 1. Then 1 and 2 go on in ring 8.1 without 3. Processor 1 owns the place that 2 hasn't committed, and sends
-- it in a Part.
-- Rules: The replicated log 2 to 6 and 16
use Rattle.std.specs.Prelude.{ℕ, ◌==◌, if◌then◌else◌, List, [], ◌∷◌, Option, Some, None}
use Rattle.std.specs.declared.alloc.Global.{Global}
use Rattle.ring_base.specs.Processors.{only}
use Rattle.ring_base.specs.Rings.{same_ring}
use Rattle.ring_base.specs.declared.ring_id.RingId.{RingId}
use Rattle.ring_payload.specs.declared.call.Call.{Call as OneCall}
use Rattle.ring_payload.specs.declared.content.Payload.{Payload}
use Rattle.ring_payload.specs.declared.content.Payload.TheVariants.{Call, Head, Part}
use Rattle.ring_log.specs.Examples.{message_of}
use Rattle.ring_log.specs.Messages.{Message}
use Rattle.ring_log.specs.Epochs.{Epoch, history_opening_of}

-- Ring 4.1.
abbrev pub first_ring : RingId
first_ring = record { seq = 4; rep = 1 }

-- Ring 8.1.
abbrev pub second_ring : RingId
second_ring = record { seq = 8; rep = 1 }

-- The first call of a client.
abbrev pub call_by : ℕ → OneCall Global
call_by client = record { client = client; number = 1; op = 1 ∷ 1 ∷ [] }

-- A Head with its last primary, length and committed length; nothing is dropped.
abbrev pub head_at : Option RingId → ℕ → ℕ → Payload Global
head_at last length committed = Head (record { last = last; length = length; committed = committed; trimmed = 0 })

-- A Part whose first place is `first`.
abbrev pub part_at : ℕ → List (OneCall Global) → Payload Global
part_at first calls = Part (record { first = first; calls = calls })

-- The Head of a processor whose log is empty.
abbrev pub first_head : Payload Global
first_head = head_at None 0 0

-- The user messages of ring 4.1; Ends come before them.
abbrev pub first_text : List (Message Global)
first_text =
    message_of first_ring 4 1 first_head
    ∷ message_of first_ring 5 2 first_head
    ∷ message_of first_ring 6 3 first_head
    ∷ message_of first_ring 7 1 (Call (call_by 7))
    ∷ []

-- The user messages of ring 8.1 up to the end of its exchange.
abbrev pub second_exchange : List (Message Global)
second_exchange =
    message_of second_ring 3 1 (head_at (Some first_ring) 1 1)
    ∷ message_of second_ring 4 2 (head_at (Some first_ring) 1 0)
    ∷ message_of second_ring 5 1 (part_at 0 (call_by 7 ∷ []))
    ∷ []

-- All user messages of ring 8.1: one call of client 9 comes after the exchange.
abbrev pub second_text : List (Message Global)
second_text =
    message_of second_ring 3 1 (head_at (Some first_ring) 1 1)
    ∷ message_of second_ring 4 2 (head_at (Some first_ring) 1 0)
    ∷ message_of second_ring 5 1 (part_at 0 (call_by 7 ∷ []))
    ∷ message_of second_ring 6 2 (Call (call_by 9))
    ∷ []

-- The text of each ring.
abbrev pub text : RingId → List (Message Global)
text r = if same_ring r first_ring then first_text else if same_ring r second_ring then second_text else []

-- The members of each ring: all three in 4.1, and 1 and 2 in 8.1; of every other ring only its representative.
abbrev pub members : RingId → ℕ
members r = if same_ring r first_ring then 7 else if same_ring r second_ring then 3 else only r.rep

-- An epoch in ring 4.1 with its whole text received.
abbrev pub in_first : ℕ → List (Payload Global) → Epoch Global
in_first mark sent = record { ring = first_ring; members = 7; heard = first_text; mark = mark; sent = sent; trimmed = 0; front = [] }

-- An epoch in ring 8.1.
abbrev pub in_second : List (Message Global) → ℕ → List (Payload Global) → Epoch Global
in_second heard mark sent = record { ring = second_ring; members = 3; heard = heard; mark = mark; sent = sent; trimmed = 0; front = [] }

-- The epoch of processor 1 in ring 4.1, where the call that it sent is safe.
abbrev pub one_first : Epoch Global
one_first = in_first 7 (first_head ∷ Call (call_by 7) ∷ [])

-- The epoch of processor 1 in ring 8.1, where it hands over its Head and the place that 2 hasn't committed.
abbrev pub one_second : Epoch Global
one_second = in_second second_text 5 (head_at (Some first_ring) 1 1 ∷ part_at 0 (call_by 7 ∷ []) ∷ [])

-- The epoch of processor 2 in ring 4.1, where the Heads are safe but the call isn't.
abbrev pub two_first : Epoch Global
two_first = in_first 6 (first_head ∷ [])

-- The epoch of processor 2 in ring 8.1, whose exchange it received whole; it hands over a call of client 9 after its
-- Head.
abbrev pub two_second : Epoch Global
two_second = in_second second_exchange 4 (head_at (Some first_ring) 1 0 ∷ Call (call_by 9) ∷ [])

-- The epoch of processor 3 in ring 4.1.
abbrev pub three_first : Epoch Global
three_first = in_first 4 (first_head ∷ [])

-- The epochs of processor 1, newest first.
abbrev pub life_of_one : List (Epoch Global)
life_of_one = one_second ∷ one_first ∷ history_opening_of 1

-- The epochs of processor 2.
abbrev pub life_of_two : List (Epoch Global)
life_of_two = two_second ∷ two_first ∷ history_opening_of 2

-- The epochs of processor 3, which was never in ring 8.1.
abbrev pub life_of_three : List (Epoch Global)
life_of_three = three_first ∷ history_opening_of 3

-- The epochs of all processors, with the given ones of processor 2.
abbrev pub lives_with : List (Epoch Global) → ℕ → List (Epoch Global)
lives_with two p = if p == 1 then life_of_one else if p == 2 then two else if p == 3 then life_of_three else []

-- The right epochs.
abbrev pub node_epochs : ℕ → List (Epoch Global)
node_epochs = lives_with life_of_two

-- Wrong epochs of processor 2

-- It didn't receive in ring 4.1 the messages that processor 1 knows as safe there.
abbrev pub missing_heads : List (Epoch Global)
missing_heads = record { ring = first_ring; members = 7; heard = message_of first_ring 4 1 first_head ∷ []; mark = 4; sent = first_head ∷ []; trimmed = 0; front = [] } ∷ history_opening_of 2

-- It received a Head that isn't in the ring's text.
abbrev pub misheard : List (Epoch Global)
misheard = record { ring = first_ring; members = 7; heard = message_of first_ring 4 2 first_head ∷ []; mark = 0; sent = first_head ∷ []; trimmed = 0; front = [] } ∷ history_opening_of 2

-- It was in ring 4.1 with fewer members.
abbrev pub smaller : List (Epoch Global)
smaller = record { ring = first_ring; members = 3; heard = first_text; mark = 6; sent = first_head ∷ []; trimmed = 0; front = [] } ∷ history_opening_of 2

-- It handed over nothing in ring 4.1, where its Head was received.
abbrev pub silent : List (Epoch Global)
silent = record { ring = first_ring; members = 7; heard = first_text; mark = 6; sent = []; trimmed = 0; front = [] } ∷ history_opening_of 2

-- It went from ring 8.1 to ring 4.1.
abbrev pub falling : List (Epoch Global)
falling = two_first ∷ two_second ∷ history_opening_of 2

-- In ring 8.1 its Head states no last primary, though it has adopted ring 4.1.
abbrev pub older_head : List (Epoch Global)
older_head = in_second [] 0 (head_at None 1 0 ∷ []) ∷ two_first ∷ history_opening_of 2

-- In ring 8.1 its Head comes after a call.
abbrev pub late_head : List (Epoch Global)
late_head = in_second [] 0 (Call (call_by 9) ∷ head_at (Some first_ring) 1 0 ∷ []) ∷ two_first ∷ history_opening_of 2

-- A Part of it has a place that isn't in its log.
abbrev pub wrong_part : List (Epoch Global)
wrong_part = in_second [] 0 (head_at (Some first_ring) 1 0 ∷ part_at 0 (call_by 9 ∷ []) ∷ []) ∷ two_first ∷ history_opening_of 2
