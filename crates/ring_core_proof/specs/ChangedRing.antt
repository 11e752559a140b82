-- A worked example of a ring change: two processors form a ring, one message reaches only its sender, both lose the
-- token, and they go on in a second ring. Here are all frames, all outputs and both lives.
-- Formats: Worked examples
use Rattle.std.specs.Prelude.{ℕ, List, [], ◌∷◌, ◌++◌, None}
use Rattle.std.specs.declared.alloc.Global.{Global}
use Rattle.ring_base.specs.Processors.{only}
use Rattle.ring_base.specs.declared.ring_id.RingId.{RingId}
use Rattle.ring_base.specs.declared.timeout_kind.Kind.TheVariants.{Join as JoinTime, Loss}
use Rattle.ring_payload.specs.declared.content.Payload.TheVariants.{Call as CallPayload, End}
use Rattle.ring_wire.specs.declared.entries.CommitEntry.{CommitEntry}
use Rattle.ring_wire.specs.declared.frame.Frame.{Frame}
use Rattle.ring_wire.specs.declared.frame.Frame.TheVariants.{Message as MessageFrame, Token as TokenFrame}
use Rattle.ring_wire.specs.declared.message.Message.{Message}
use Rattle.ring_core_spec.specs.State.{opening_ring}
use Rattle.ring_core_proof.specs.declared.event.RingEvent.{RingEvent}
use Rattle.ring_core_proof.specs.declared.event.RingEvent.TheVariants.{Send, Deliver, Timeout}
use Rattle.ring_core_proof.specs.Worlds.{Transmission, World, run, unformed}
use Rattle.ring_core_proof.specs.CommitRounds.{Taking}
use Rattle.ring_core_proof.specs.Lives.{Stage, InRegular, InTransitional}
use Rattle.ring_core_proof.specs.FirstRings.{frame_of, silent_events}
use Rattle.ring_core_proof.specs.Samples.{ring_of, first_ring, second_ring, add_five, call_at, wrapped_call, message_of}
use Rattle.ring_core_proof.specs.Samples.{token_frame, join_frame, commit_frame, report_of, empty_report}

-- Both gather, pass the commit token round twice, and install the first ring: frames 1 to 13.
abbrev pub forming : List (RingEvent Global)
forming =
    Timeout 1 JoinTime ∷ Timeout 2 JoinTime ∷ Deliver 2 1 ∷ Deliver 1 2 ∷
    Deliver 2 3 ∷ Deliver 1 4 ∷ Deliver 2 5 ∷ Deliver 1 6 ∷
    Deliver 2 7 ∷ Deliver 2 8 ∷ Deliver 1 9 ∷ Deliver 1 10 ∷ Deliver 2 11 ∷ Deliver 1 12 ∷ []

-- Processor 2 sends a call, frame 14, and its token, frame 15; both are lost, and both processors have a loss timeout.
abbrev pub losing : List (RingEvent Global)
losing = Send 2 (CallPayload add_five) ∷ Deliver 2 13 ∷ Timeout 1 Loss ∷ Timeout 2 Loss ∷ Deliver 2 16 ∷ Deliver 1 17 ∷ []

-- The second ring: its commit token arrives twice, and processor 2 wraps the call.
abbrev pub changing : List (RingEvent Global)
changing =
    Deliver 2 18 ∷ Deliver 2 18 ∷ Deliver 1 19 ∷ Deliver 1 19 ∷ Deliver 2 20 ∷ Deliver 2 20 ∷ Deliver 1 21 ∷ Deliver 1 21 ∷
    Deliver 2 22 ∷ Deliver 2 23 ∷ Deliver 1 24 ∷ Deliver 1 25 ∷ Deliver 1 26 ∷ Deliver 2 27 ∷ Deliver 1 28 ∷ []

-- All of these events.
abbrev pub change_events : List (RingEvent Global)
change_events = forming ++ losing ++ changing

-- The world of both after these events.
abbrev pub changed : World Global
changed = run (unformed 2) change_events

-- A hop of a commit token of both, with its sender and receivers.
abbrev pub hop_of_two : ℕ → ℕ → RingId → ℕ → List CommitEntry → Transmission Global
hop_of_two from to ring hop entries = frame_of from to (commit_frame ring 3 hop entries)

-- The reports on the way into the first ring: neither processor was in a ring before.
abbrev pub first_reports : List CommitEntry
first_reports = empty_report 1 ∷ empty_report 2 ∷ []

-- The reports on the way into the second ring: both hold the two Ends, and processor 2 also holds the call.
abbrev pub second_reports : List CommitEntry
second_reports = report_of first_ring 2 2 0 ∷ report_of first_ring 3 2 0 ∷ []

-- A token of the second ring that nobody holds back.
abbrev pub second_token : ℕ → ℕ → ℕ → Frame Global
second_token number seq aru = TokenFrame (record { ring = second_ring; number = number; seq = seq; aru = aru; aru_id = None; requests = [] })

-- All frames sent, 1 to 29.
abbrev pub changed_frames : List (Transmission Global)
changed_frames =
    frame_of 1 2 (join_frame 1 0 3 0) ∷
    frame_of 2 1 (join_frame 2 0 3 0) ∷
    hop_of_two 1 2 first_ring 1 (empty_report 1 ∷ []) ∷
    hop_of_two 2 1 first_ring 2 first_reports ∷
    hop_of_two 1 2 first_ring 3 first_reports ∷
    hop_of_two 2 1 first_ring 4 first_reports ∷
    frame_of 1 2 (MessageFrame (message_of first_ring 1 1 End)) ∷
    frame_of 1 2 (token_frame 1 1 1 None []) ∷
    frame_of 2 1 (MessageFrame (message_of first_ring 2 2 End)) ∷
    frame_of 2 1 (token_frame 2 2 2 None []) ∷
    frame_of 1 2 (token_frame 3 2 2 None []) ∷
    frame_of 2 1 (token_frame 4 2 2 None []) ∷
    frame_of 1 2 (token_frame 5 2 2 None []) ∷
    frame_of 2 1 (MessageFrame (call_at 2 3)) ∷
    frame_of 2 1 (token_frame 6 3 3 None []) ∷
    frame_of 1 2 (join_frame 1 1 3 0) ∷
    frame_of 2 1 (join_frame 2 1 3 0) ∷
    hop_of_two 1 2 second_ring 1 (report_of first_ring 2 2 0 ∷ []) ∷
    hop_of_two 2 1 second_ring 2 second_reports ∷
    hop_of_two 1 2 second_ring 3 second_reports ∷
    hop_of_two 2 1 second_ring 4 second_reports ∷
    frame_of 1 2 (MessageFrame (message_of second_ring 1 1 End)) ∷
    frame_of 1 2 (second_token 1 1 1) ∷
    frame_of 2 1 (MessageFrame (message_of second_ring 2 2 (wrapped_call 2 3))) ∷
    frame_of 2 1 (MessageFrame (message_of second_ring 3 2 End)) ∷
    frame_of 2 1 (second_token 2 3 3) ∷
    frame_of 1 2 (second_token 3 3 3) ∷
    frame_of 2 1 (second_token 4 3 3) ∷
    frame_of 1 2 (second_token 5 3 3) ∷ []

-- The life of either: alone, in the first ring, and in the second; the call is agreed in the first ring, and delivered
-- in the transitional configuration after it.
abbrev pub life_of_two : ℕ → List (Stage Global)
life_of_two i =
    InRegular (record { ring = second_ring; members = 3 }) [] 3 ∷
    InTransitional first_ring second_ring 3 (call_at 2 3 ∷ []) ∷
    InRegular (record { ring = first_ring; members = 3 }) (call_at 2 3 ∷ []) 2 ∷
    InTransitional (ring_of 0 i) first_ring (only i) [] ∷
    InRegular (opening_ring i) [] 0 ∷ []

-- The messages that the two hold of the first ring.
abbrev pub first_text : List (Message Global)
first_text =
    call_at 2 3 ∷ message_of first_ring 2 2 End ∷ message_of first_ring 1 1 End ∷
    call_at 2 3 ∷ message_of first_ring 2 2 End ∷ message_of first_ring 1 1 End ∷ []

-- A taken hop as ring number, hop and processor.
abbrev pub summary : Taking → ℕ × ℕ × ℕ
summary t = (t.commit.ring.seq, t.commit.hop, t.who)

-- The taken hops: each once, though each of the second ring arrived twice.
abbrev pub hops_of_two : List (ℕ × ℕ × ℕ)
hops_of_two = (1, 1, 2) ∷ (1, 2, 1) ∷ (1, 3, 2) ∷ (1, 4, 1) ∷ (2, 1, 2) ∷ (2, 2, 1) ∷ (2, 3, 2) ∷ (2, 4, 1) ∷ []

-- Forged hops

-- A world with one more frame, which nobody sent there.
abbrev pub with_frame : Transmission Global → World Global → World Global
with_frame f w = record w { frames = w.frames ++ f ∷ [] }

-- Hop 1 of a ring that nobody proposed, as if processor 1 had.
abbrev pub unproposed : World Global
unproposed = with_frame (hop_of_two 1 2 first_ring 1 (empty_report 1 ∷ [])) (unformed 2)

-- Hop 2 of the ring of 1 and 2, as if the silent third were its member.
abbrev pub misnamed : World Global
misnamed = with_frame (frame_of 2 4 (commit_frame first_ring 7 2 (empty_report 1 ∷ empty_report 2 ∷ []))) (run (unformed 3) silent_events)
