-- Worked runs of ring cores: a commit token that comes again, timeouts on a formed ring, and two lost messages; and what
-- a visit makes of a send queue.
-- Formats: two tokens; runs of a queue
use Rattle.std.specs.Prelude.{ℕ, Bool, true, false, List, [], ◌∷◌, ◌++◌, filter, replicate, map, None, Some}
use Rattle.std.specs.declared.alloc.Global.{Global}
use Rattle.ring_base.specs.Numbers.{numbers_from}
use Rattle.ring_base.specs.declared.timeout_kind.Kind.TheVariants.{Retransmit, Join as JoinTime, Consensus, Loss}
use Rattle.ring_payload.specs.declared.content.Payload.{Payload}
use Rattle.ring_wire.specs.declared.frame.Frame.{Frame}
use Rattle.ring_wire.specs.declared.frame.Frame.TheVariants.{Message as MessageFrame}
use Rattle.ring_core_spec.specs.declared.out.Out.{Out}
use Rattle.ring_core_spec.specs.declared.out.Out.TheVariants.{Send as SendOut, Agreed, Safe, Trans, Rest, Regular}
use Rattle.ring_core_proof.specs.declared.event.RingEvent.{RingEvent}
use Rattle.ring_core_proof.specs.declared.event.RingEvent.TheVariants.{Send, Deliver, Timeout}
use Rattle.ring_core_proof.specs.Samples.{first_ring, empty_head, message_of, token_frame, join_frame, empty_report, commit_frame}
use Rattle.ring_core_proof.specs.FirstRings.{three_joins, three_reports}
use Rattle.ring_core_proof.specs.PackedCalls.{calls_from, calls_of_size, waiting, pack_of}
use Rattle.ring_synchrony_examples.specs.Words.{part}

-- A commit token that comes again, in Gather

-- the second of three takes the first hop of a commit token and sends the next, has a loss timeout, and is given the first
-- hop again; the two others pass the token on, and it reaches the second in the second round
abbrev pub hop_again : List (RingEvent Global)
hop_again =
    three_joins ++ Deliver 1 2 ∷ Deliver 1 3 ∷ Deliver 2 4 ∷ Timeout 2 Loss ∷ Deliver 2 4 ∷ Deliver 3 5 ∷ Deliver 1 7 ∷ Deliver 2 8 ∷ []

-- all outputs: the second gathers with the number of that ring, and takes no hop of it any more
abbrev pub taken_once : List (ℕ × Out Global)
taken_once =
    (1, SendOut 6 (join_frame 1 0 7 0)) ∷
    (2, SendOut 5 (join_frame 2 0 7 0)) ∷
    (3, SendOut 3 (join_frame 3 0 7 0)) ∷
    (1, SendOut 2 (commit_frame first_ring 7 1 (empty_report 1 ∷ []))) ∷
    (2, SendOut 4 (commit_frame first_ring 7 2 (empty_report 1 ∷ empty_report 2 ∷ []))) ∷
    (2, SendOut 5 (join_frame 2 1 7 0)) ∷
    (3, SendOut 1 (commit_frame first_ring 7 3 three_reports)) ∷
    (1, SendOut 2 (commit_frame first_ring 7 4 three_reports)) ∷ []

-- Timeouts on a formed ring of two

-- only the retransmissions act, and there is one kept token
abbrev pub idle_but_one : List (RingEvent Global)
idle_but_one = Timeout 2 Loss ∷ Timeout 1 JoinTime ∷ Timeout 1 Consensus ∷ Timeout 2 Retransmit ∷ Timeout 1 Retransmit ∷ []

-- Ten messages on a formed ring of three, of which the second lacks the last two

-- the frames from `first` on, so many of them, are delivered to a processor
abbrev pub handed : ℕ → ℕ → ℕ → List (RingEvent Global)
handed node first count = map (λ frame. Deliver node frame) (numbers_from first count)

-- the token that shows the gap arrives twice
abbrev pub two_lack : List (RingEvent Global)
two_lack =
    replicate 8 (Send 3 empty_head) ++ Deliver 2 1 ∷ Deliver 3 2 ∷ (handed 1 3 8 ++ handed 2 3 8 ++
    Send 1 empty_head ∷ Send 1 empty_head ∷ Deliver 1 11 ∷ Deliver 3 12 ∷ Deliver 3 13 ∷ Deliver 2 14 ∷ Deliver 2 14 ∷ Deliver 3 15 ∷
    Deliver 1 18 ∷ Deliver 2 16 ∷ Deliver 2 17 ∷ Deliver 2 19 ∷ Deliver 3 20 ∷ Deliver 1 21 ∷ Deliver 2 22 ∷ Deliver 3 23 ∷
    Deliver 1 24 ∷ [])

-- the output is of a visit: no message is only agreed
abbrev pub is_of_visit : Out Global → Bool
is_of_visit (Trans old new set) = true
is_of_visit (Regular ring set) = true
is_of_visit (SendOut to frame) = true
is_of_visit (Agreed ring n x) = false
is_of_visit (Safe ring upto) = true
is_of_visit (Rest ring n x) = true

-- such outputs
abbrev pub visits_in : List (ℕ × Out Global) → List (ℕ × Out Global)
visits_in outs = filter (λ (given : ℕ × Out Global). is_of_visit given.1) outs

-- a Head as the message of this number and sender, sent by a processor to others
abbrev pub head_sent : ℕ → ℕ → ℕ → ℕ → ℕ × Out Global
head_sent by to number sender = (by, SendOut to (MessageFrame (message_of first_ring number sender empty_head)))

-- the second requests 9 and 10; the third sends them again and leaves the `aru` of another; the first forwards the `aru` 10,
-- 8, 10, 10, and so has the safe marks 0, 8, 8, 10
abbrev pub two_asked_for : List (ℕ × Out Global)
two_asked_for =
    (2, SendOut 4 (token_frame 2 0 0 None [])) ∷
    (map (λ number. head_sent 3 3 number 3) (numbers_from 1 8) ++
    (3, SendOut 1 (token_frame 3 8 8 None [])) ∷
    head_sent 1 6 9 1 ∷
    head_sent 1 6 10 1 ∷
    (1, SendOut 2 (token_frame 4 10 10 None [])) ∷
    (2, SendOut 4 (token_frame 5 10 8 (Some 2) (9 ∷ 10 ∷ []))) ∷
    head_sent 3 3 9 1 ∷
    head_sent 3 3 10 1 ∷
    (3, SendOut 1 (token_frame 6 10 8 (Some 2) [])) ∷
    (3, Safe first_ring 8) ∷
    (1, SendOut 2 (token_frame 7 10 8 (Some 2) [])) ∷
    (1, Safe first_ring 8) ∷
    (2, SendOut 4 (token_frame 8 10 10 None [])) ∷
    (2, Safe first_ring 8) ∷
    (3, SendOut 1 (token_frame 9 10 10 None [])) ∷
    (1, SendOut 2 (token_frame 10 10 10 None [])) ∷
    (2, SendOut 4 (token_frame 11 10 10 None [])) ∷
    (2, Safe first_ring 10) ∷
    (3, SendOut 1 (token_frame 12 10 10 None [])) ∷
    (3, Safe first_ring 10) ∷
    (1, SendOut 2 (token_frame 13 10 10 None [])) ∷
    (1, Safe first_ring 10) ∷ [])

-- Send queues, front first

-- a Part of one call
abbrev pub one_part : Payload Global
one_part = part 0 (calls_from 1 1)

-- a call, a Part, two calls
abbrev pub around_part : List (Payload Global)
around_part = waiting (calls_from 1 1) ++ one_part ∷ waiting (calls_from 2 2)

-- seven calls with operations of 1,024 bytes, and two small ones
abbrev pub seven_and_two : List (Payload Global)
seven_and_two = waiting (calls_of_size 1024 7 ++ calls_from 1 2)
