-- Worked examples: three processors gather and install their first ring; two of three go on without the third; one
-- alone, up to its first safe call.
-- Formats: Worked examples
use Rattle.std.specs.Prelude.{ℕ, ◌==◌, ◌&&◌, Bool, true, false, List, [], ◌∷◌, map, filter, None}
use Rattle.std.specs.declared.alloc.Global.{Global}
use Rattle.ring_base.specs.Processors.{only, less}
use Rattle.ring_payload.specs.declared.content.Payload.TheVariants.{Call as CallPayload, End}
use Rattle.ring_wire.specs.declared.entries.CommitEntry.{CommitEntry}
use Rattle.ring_wire.specs.declared.frame.Frame.{Frame}
use Rattle.ring_wire.specs.declared.frame.Frame.TheVariants.{Message as MessageFrame}
use Rattle.ring_base.specs.declared.timeout_kind.Kind.TheVariants.{Join as JoinTime, Consensus}
use Rattle.ring_core_spec.specs.declared.out.Out.{Out}
use Rattle.ring_core_spec.specs.declared.out.Out.TheVariants.{Send as SendOut, Agreed, Safe, Trans, Rest, Regular}
use Rattle.ring_base.specs.declared.state.State.{State}
use Rattle.ring_core_proof.specs.declared.event.RingEvent.{RingEvent}
use Rattle.ring_core_proof.specs.declared.event.RingEvent.TheVariants.{Send, Deliver, Timeout, Stop}
use Rattle.ring_core_proof.specs.Worlds.{Transmission, World, run, unformed}
use Rattle.ring_core_proof.specs.Pumping.{pump}
use Rattle.ring_core_proof.specs.Samples.{ring_of, first_ring, add_five, empty_head, message_of, token_frame, join_frame, empty_report, commit_frame}

-- A frame sent, with its sender and receivers.
abbrev pub frame_of : ℕ → ℕ → Frame Global → Transmission Global
frame_of from to frame = record { from = from; to = to; frame = frame }

-- Three

-- Each sends its first join.
abbrev pub three_joins : List (RingEvent Global)
three_joins = Timeout 1 JoinTime ∷ Timeout 2 JoinTime ∷ Timeout 3 JoinTime ∷ []

-- The world after this many more delivered copies.
abbrev pub three_after : ℕ → World Global
three_after turns = (pump turns (run (unformed 3) three_joins)).world

-- The first join of one of the three, sent to the two others.
abbrev pub join_to_others : ℕ → Transmission Global
join_to_others i = frame_of i (less 7 (only i)) (join_frame i 0 7 0)

-- A hop of the three's commit token, from one member to another.
abbrev pub hop_of_three : ℕ → ℕ → ℕ → List CommitEntry → Transmission Global
hop_of_three from to hop entries = frame_of from (only to) (commit_frame first_ring 7 hop entries)

-- The reports of the three: they were in no ring before.
abbrev pub three_reports : List CommitEntry
three_reports = empty_report 1 ∷ empty_report 2 ∷ empty_report 3 ∷ []

-- Their joins, the two rounds of the commit token, the first End, and the token.
abbrev pub three_frames : List (Transmission Global)
three_frames =
    join_to_others 1 ∷ join_to_others 2 ∷ join_to_others 3 ∷
    hop_of_three 1 2 1 (empty_report 1 ∷ []) ∷
    hop_of_three 2 3 2 (empty_report 1 ∷ empty_report 2 ∷ []) ∷
    hop_of_three 3 1 3 three_reports ∷
    hop_of_three 1 2 4 three_reports ∷
    hop_of_three 2 3 5 three_reports ∷
    hop_of_three 3 1 6 three_reports ∷
    frame_of 1 6 (MessageFrame (message_of first_ring 1 1 End)) ∷
    frame_of 1 2 (token_frame 1 1 1 None []) ∷ []

-- The states of a world's processors 1 to 3.
abbrev pub states_of_three : World Global → List State
states_of_three w = map (λ i. (w.cores i).state) (1 ∷ 2 ∷ 3 ∷ [])

-- The output is a configuration.
abbrev pub is_configuration : Out Global → Bool
is_configuration (Trans old new set) = true
is_configuration (Regular ring set) = true
is_configuration (SendOut to frame) = false
is_configuration (Agreed ring n x) = false
is_configuration (Safe ring upto) = false
is_configuration (Rest ring n x) = false

-- The configurations among a processor's outputs.
abbrev pub configurations_of : ℕ → World Global → List (ℕ × Out Global)
configurations_of i w = filter (λ (p : ℕ × Out Global). (p.0 == i) && is_configuration p.1) w.outs

-- The two configurations with which a processor of the three installs its first ring.
abbrev pub first_configurations : ℕ → List (ℕ × Out Global)
first_configurations i = (i, Trans (ring_of 0 i) first_ring (only i)) ∷ (i, Regular first_ring 7) ∷ []

-- Two of three: the third is silent, and is given up

-- Each of the two receives the other's join, processor 1 gives up the third, and each receives the other's new join.
abbrev pub silent_events : List (RingEvent Global)
silent_events =
    Timeout 1 JoinTime ∷ Timeout 2 JoinTime ∷ Deliver 1 2 ∷ Deliver 2 1 ∷ Timeout 1 Consensus ∷ Deliver 2 3 ∷ Deliver 1 4 ∷ []

-- Their joins, first with the third as a candidate, then with it given up, and hop 1 of a ring of the two.
abbrev pub silent_frames : List (Transmission Global)
silent_frames =
    frame_of 1 6 (join_frame 1 0 7 0) ∷
    frame_of 2 5 (join_frame 2 0 7 0) ∷
    frame_of 1 6 (join_frame 1 0 7 4) ∷
    frame_of 2 5 (join_frame 2 0 7 4) ∷
    frame_of 1 2 (commit_frame first_ring 3 1 (empty_report 1 ∷ [])) ∷ []

-- One alone

-- It receives a Head to send as it installs its ring, and later a call.
abbrev pub lone_events : List (RingEvent Global)
lone_events =
    Timeout 1 JoinTime ∷ Deliver 1 1 ∷ Deliver 1 2 ∷ Deliver 1 3 ∷ Send 1 empty_head ∷
    Deliver 1 4 ∷ Send 1 (CallPayload add_five) ∷ Deliver 1 5 ∷ Deliver 1 6 ∷ []

-- A hop of its commit token, sent to itself.
abbrev pub lone_hop : ℕ → Out Global
lone_hop hop = SendOut 1 (commit_frame first_ring 1 hop (empty_report 1 ∷ []))

-- All its outputs.
abbrev pub lone_outs : List (ℕ × Out Global)
lone_outs =
    (1, lone_hop 1) ∷
    (1, lone_hop 2) ∷
    (1, SendOut 1 (token_frame 1 1 1 None [])) ∷
    (1, SendOut 1 (token_frame 2 1 1 None [])) ∷
    (1, Trans (ring_of 0 1) first_ring 1) ∷
    (1, Regular first_ring 1) ∷
    (1, Safe first_ring 1) ∷
    (1, SendOut 1 (token_frame 3 2 2 None [])) ∷
    (1, Agreed first_ring 2 (message_of first_ring 2 1 empty_head)) ∷
    (1, SendOut 1 (token_frame 4 3 3 None [])) ∷
    (1, Agreed first_ring 3 (message_of first_ring 3 1 (CallPayload add_five))) ∷
    (1, Safe first_ring 2) ∷
    (1, SendOut 1 (token_frame 5 3 3 None [])) ∷
    (1, Safe first_ring 3) ∷ []

-- Stops, and events without effect

-- The third stops, and then has a timeout.
abbrev pub stop_events : List (RingEvent Global)
stop_events = Stop 3 ∷ Timeout 3 JoinTime ∷ []

-- One join, and after it events without effect: a frame that wasn't sent to the processor, one that wasn't sent, and an
-- unknown processor.
abbrev pub idle_events : List (RingEvent Global)
idle_events = Timeout 1 JoinTime ∷ Deliver 1 1 ∷ Deliver 2 2 ∷ Stop 4 ∷ Timeout 4 JoinTime ∷ []
