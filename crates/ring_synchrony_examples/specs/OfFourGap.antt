-- A random schedule of four processors: past a gap what the old ring's own members sent is delivered, and the rest is
-- discarded.
-- The outputs are those of an independent implementation of the protocol.
use Rattle.std.specs.Prelude.{ℕ, List, [], ◌∷◌, Some, None}
use Rattle.std.specs.declared.alloc.Global.{Global}
use Rattle.ring_payload.specs.declared.content.Payload.TheVariants.{End}
use Rattle.ring_wire.specs.declared.frame.Frame.TheVariants.{Message as MessageFrame}
use Rattle.ring_base.specs.declared.timeout_kind.Kind.TheVariants.{Retransmit, Join as JoinTime, Consensus, Loss}
use Rattle.ring_core_spec.specs.declared.out.Out.{Out}
use Rattle.ring_core_spec.specs.declared.out.Out.TheVariants.{Send as SendOut, Agreed, Safe, Trans, Rest, Regular}
use Rattle.ring_core_proof.specs.declared.event.RingEvent.{RingEvent}
use Rattle.ring_core_proof.specs.declared.event.RingEvent.TheVariants.{Send as SendEvent, Deliver, Timeout as TimeEvent}
use Rattle.ring_core_proof.specs.Worlds.{World, run, unformed}
use Rattle.ring_core_proof.specs.Samples.{ring_of}
use Rattle.ring_synchrony_examples.specs.Words.{call_of, call, call_content, part, wrapped, message, token, join, report, commit}

-- The events, in order.
abbrev pub events : List (RingEvent Global)
events =
    TimeEvent 1 JoinTime ∷ TimeEvent 2 JoinTime ∷ TimeEvent 3 JoinTime ∷ TimeEvent 4 JoinTime ∷ Deliver 2 1 ∷ Deliver 3 1 ∷ Deliver 4 1 ∷
    Deliver 1 2 ∷ Deliver 3 2 ∷ Deliver 4 2 ∷ Deliver 1 3 ∷ Deliver 1 3 ∷ Deliver 2 3 ∷ Deliver 4 3 ∷ Deliver 1 4 ∷ Deliver 2 4 ∷ Deliver 3 4 ∷
    Deliver 2 5 ∷ Deliver 3 6 ∷ Deliver 4 7 ∷ Deliver 1 8 ∷ Deliver 2 9 ∷ Deliver 3 10 ∷ Deliver 4 11 ∷ Deliver 1 12 ∷ Deliver 2 13 ∷ Deliver 3 13 ∷
    Deliver 3 13 ∷ Deliver 4 13 ∷ Deliver 4 13 ∷ Deliver 2 14 ∷ Deliver 1 15 ∷ Deliver 3 15 ∷ Deliver 4 15 ∷ Deliver 4 15 ∷ Deliver 3 16 ∷
    Deliver 1 17 ∷ Deliver 2 17 ∷ Deliver 4 17 ∷ Deliver 4 18 ∷ Deliver 1 19 ∷ Deliver 2 19 ∷ Deliver 3 19 ∷ Deliver 1 20 ∷ Deliver 2 21 ∷
    Deliver 2 21 ∷ Deliver 3 22 ∷ Deliver 4 23 ∷ Deliver 1 24 ∷ Deliver 2 25 ∷ Deliver 3 26 ∷ Deliver 4 27 ∷ Deliver 1 28 ∷ Deliver 2 29 ∷
    Deliver 3 30 ∷ Deliver 4 31 ∷ Deliver 1 32 ∷ Deliver 2 33 ∷ Deliver 3 34 ∷ Deliver 4 35 ∷ Deliver 1 36 ∷ SendEvent 1 (call 1 1) ∷
    SendEvent 2 (part 0 (call_of 2 1 ∷ [])) ∷ SendEvent 2 End ∷ SendEvent 4 (call 4 1) ∷ Deliver 2 37 ∷ Deliver 1 38 ∷ Deliver 3 38 ∷ Deliver 3 39 ∷
    Deliver 4 40 ∷ Deliver 2 41 ∷ TimeEvent 4 Loss ∷ Deliver 1 42 ∷ Deliver 1 43 ∷ Deliver 2 43 ∷ TimeEvent 1 Loss ∷ TimeEvent 2 Loss ∷ Deliver 3 43 ∷
    Deliver 2 44 ∷ Deliver 3 44 ∷ Deliver 2 45 ∷ Deliver 4 45 ∷ Deliver 2 46 ∷ Deliver 2 47 ∷ Deliver 3 47 ∷ Deliver 4 47 ∷ Deliver 1 48 ∷
    Deliver 3 48 ∷ Deliver 4 48 ∷ Deliver 2 49 ∷ Deliver 3 49 ∷ Deliver 4 49 ∷ Deliver 1 50 ∷ Deliver 3 50 ∷ Deliver 4 50 ∷ Deliver 1 51 ∷
    Deliver 2 51 ∷ Deliver 4 51 ∷ Deliver 2 9 ∷ TimeEvent 1 Loss ∷ TimeEvent 2 Loss ∷ Deliver 2 52 ∷ Deliver 3 52 ∷ Deliver 4 52 ∷ Deliver 4 52 ∷
    Deliver 1 53 ∷ Deliver 3 53 ∷ Deliver 4 53 ∷ SendEvent 3 (call 5 1) ∷ SendEvent 1 (call 6 1) ∷ SendEvent 4 (call 7 1) ∷ TimeEvent 4 Loss ∷
    Deliver 1 54 ∷ Deliver 2 54 ∷ Deliver 3 54 ∷ TimeEvent 1 Consensus ∷ TimeEvent 3 Consensus ∷ TimeEvent 4 Consensus ∷ Deliver 2 55 ∷ Deliver 3 55 ∷
    Deliver 4 55 ∷ Deliver 1 56 ∷ Deliver 2 56 ∷ Deliver 4 56 ∷ Deliver 1 57 ∷ Deliver 2 57 ∷ Deliver 3 57 ∷ Deliver 4 58 ∷ Deliver 1 59 ∷
    Deliver 3 59 ∷ Deliver 4 59 ∷ Deliver 4 59 ∷ Deliver 1 60 ∷ Deliver 2 60 ∷ Deliver 4 60 ∷ Deliver 2 61 ∷ Deliver 3 61 ∷ Deliver 4 61 ∷
    Deliver 1 62 ∷ Deliver 3 62 ∷ Deliver 4 62 ∷ Deliver 1 63 ∷ Deliver 2 63 ∷ Deliver 4 63 ∷ Deliver 2 56 ∷ Deliver 4 64 ∷ Deliver 1 65 ∷
    Deliver 2 65 ∷ Deliver 4 65 ∷ Deliver 3 66 ∷ Deliver 2 67 ∷ SendEvent 4 (call 8 1) ∷ SendEvent 1 (call 9 1) ∷ SendEvent 2 (call 10 1) ∷
    SendEvent 4 (call 11 1) ∷ SendEvent 2 (call 12 1) ∷ SendEvent 3 (call 13 1) ∷ Deliver 4 68 ∷ Deliver 3 69 ∷ TimeEvent 2 JoinTime ∷
    TimeEvent 4 JoinTime ∷ Deliver 1 70 ∷ Deliver 4 71 ∷ Deliver 3 72 ∷ Deliver 3 72 ∷ Deliver 1 73 ∷ Deliver 2 73 ∷ Deliver 3 73 ∷ Deliver 2 74 ∷
    Deliver 4 75 ∷ Deliver 3 76 ∷ Deliver 1 77 ∷ Deliver 2 77 ∷ Deliver 4 77 ∷ Deliver 1 78 ∷ Deliver 4 79 ∷ Deliver 1 80 ∷ Deliver 2 80 ∷
    Deliver 3 80 ∷ Deliver 2 81 ∷ Deliver 2 82 ∷ Deliver 2 83 ∷ Deliver 4 84 ∷ Deliver 1 85 ∷ Deliver 1 87 ∷ Deliver 3 88 ∷ Deliver 2 89 ∷
    Deliver 4 90 ∷ Deliver 1 91 ∷ Deliver 1 92 ∷ Deliver 3 93 ∷ Deliver 2 94 ∷ Deliver 4 96 ∷ Deliver 1 97 ∷ Deliver 3 98 ∷ Deliver 3 99 ∷
    Deliver 2 100 ∷ Deliver 4 101 ∷ TimeEvent 3 Retransmit ∷ Deliver 4 102 ∷ []

-- The outputs in order, each with its processor.
abbrev pub outs : List (ℕ × Out Global)
outs =
    (1, SendOut 14 (join 1 0 15 0)) ∷ (2, SendOut 13 (join 2 0 15 0)) ∷ (3, SendOut 11 (join 3 0 15 0)) ∷ (4, SendOut 7 (join 4 0 15 0)) ∷
    (1, SendOut 2 (commit (ring_of 1 1) 15 1 (report (ring_of 0 1) 0 0 0 ∷ []))) ∷
    (2, SendOut 4 (commit (ring_of 1 1) 15 2 (report (ring_of 0 1) 0 0 0 ∷ report (ring_of 0 2) 0 0 0 ∷ []))) ∷
    (3, SendOut 8 (commit (ring_of 1 1) 15 3 (report (ring_of 0 1) 0 0 0 ∷ report (ring_of 0 2) 0 0 0 ∷ report (ring_of 0 3) 0 0 0 ∷ []))) ∷ (
      4,
      SendOut 1 (commit (ring_of 1 1) 15 4 (report (ring_of 0 1) 0 0 0 ∷ report (ring_of 0 2) 0 0 0 ∷ report (ring_of 0 3) 0 0 0 ∷
          report (ring_of 0 4) 0 0 0 ∷ [])),
    ) ∷ (
      1,
      SendOut 2 (commit (ring_of 1 1) 15 5 (report (ring_of 0 1) 0 0 0 ∷ report (ring_of 0 2) 0 0 0 ∷ report (ring_of 0 3) 0 0 0 ∷
          report (ring_of 0 4) 0 0 0 ∷ [])),
    ) ∷ (
      2,
      SendOut 4 (commit (ring_of 1 1) 15 6 (report (ring_of 0 1) 0 0 0 ∷ report (ring_of 0 2) 0 0 0 ∷ report (ring_of 0 3) 0 0 0 ∷
          report (ring_of 0 4) 0 0 0 ∷ [])),
    ) ∷ (
      3,
      SendOut 8 (commit (ring_of 1 1) 15 7 (report (ring_of 0 1) 0 0 0 ∷ report (ring_of 0 2) 0 0 0 ∷ report (ring_of 0 3) 0 0 0 ∷
          report (ring_of 0 4) 0 0 0 ∷ [])),
    ) ∷ (
      4,
      SendOut 1 (commit (ring_of 1 1) 15 8 (report (ring_of 0 1) 0 0 0 ∷ report (ring_of 0 2) 0 0 0 ∷ report (ring_of 0 3) 0 0 0 ∷
          report (ring_of 0 4) 0 0 0 ∷ [])),
    ) ∷
    (1, SendOut 14 (MessageFrame (message (ring_of 1 1) 1 1 End))) ∷ (1, SendOut 2 (token (ring_of 1 1) 1 1 1 None [])) ∷
    (2, SendOut 13 (MessageFrame (message (ring_of 1 1) 2 2 End))) ∷ (2, SendOut 4 (token (ring_of 1 1) 2 2 2 None [])) ∷
    (3, SendOut 11 (MessageFrame (message (ring_of 1 1) 3 3 End))) ∷ (3, SendOut 8 (token (ring_of 1 1) 3 3 3 None [])) ∷
    (4, SendOut 7 (MessageFrame (message (ring_of 1 1) 4 4 End))) ∷ (4, SendOut 1 (token (ring_of 1 1) 4 4 4 None [])) ∷
    (1, SendOut 2 (token (ring_of 1 1) 5 4 4 None [])) ∷ (2, SendOut 4 (token (ring_of 1 1) 6 4 4 None [])) ∷
    (3, SendOut 8 (token (ring_of 1 1) 7 4 4 None [])) ∷ (4, SendOut 1 (token (ring_of 1 1) 8 4 4 None [])) ∷
    (4, Trans (ring_of 0 4) (ring_of 1 1) 8) ∷ (4, Regular (ring_of 1 1) 15) ∷ (4, Safe (ring_of 1 1) 4) ∷
    (1, SendOut 2 (token (ring_of 1 1) 9 4 4 None [])) ∷ (1, Trans (ring_of 0 1) (ring_of 1 1) 1) ∷ (1, Regular (ring_of 1 1) 15) ∷
    (1, Safe (ring_of 1 1) 4) ∷ (2, SendOut 4 (token (ring_of 1 1) 10 4 4 None [])) ∷ (2, Trans (ring_of 0 2) (ring_of 1 1) 2) ∷
    (2, Regular (ring_of 1 1) 15) ∷ (2, Safe (ring_of 1 1) 4) ∷ (3, SendOut 8 (token (ring_of 1 1) 11 4 4 None [])) ∷
    (3, Trans (ring_of 0 3) (ring_of 1 1) 4) ∷ (3, Regular (ring_of 1 1) 15) ∷ (3, Safe (ring_of 1 1) 4) ∷
    (4, SendOut 1 (token (ring_of 1 1) 12 4 4 None [])) ∷ (1, SendOut 2 (token (ring_of 1 1) 13 4 4 None [])) ∷
    (2, SendOut 4 (token (ring_of 1 1) 14 4 4 None [])) ∷ (3, SendOut 8 (token (ring_of 1 1) 15 4 4 None [])) ∷
    (4, SendOut 1 (token (ring_of 1 1) 16 4 4 None [])) ∷ (1, SendOut 2 (token (ring_of 1 1) 17 4 4 None [])) ∷
    (2, SendOut 4 (token (ring_of 1 1) 18 4 4 None [])) ∷ (3, SendOut 8 (token (ring_of 1 1) 19 4 4 None [])) ∷
    (4, SendOut 1 (token (ring_of 1 1) 20 4 4 None [])) ∷ (1, SendOut 2 (token (ring_of 1 1) 21 4 4 None [])) ∷
    (2, SendOut 13 (MessageFrame (message (ring_of 1 1) 5 2 (part 0 (call_of 2 1 ∷ []))))) ∷ (2, SendOut 4 (token (ring_of 1 1) 22 5 5 None [])) ∷
    (2, Agreed (ring_of 1 1) 5 (message (ring_of 1 1) 5 2 (part 0 (call_of 2 1 ∷ [])))) ∷
    (1, Agreed (ring_of 1 1) 5 (message (ring_of 1 1) 5 2 (part 0 (call_of 2 1 ∷ [])))) ∷
    (3, Agreed (ring_of 1 1) 5 (message (ring_of 1 1) 5 2 (part 0 (call_of 2 1 ∷ [])))) ∷ (3, SendOut 8 (token (ring_of 1 1) 23 5 5 None [])) ∷
    (4, SendOut 7 (MessageFrame (message (ring_of 1 1) 6 4 (call 4 1)))) ∷ (4, SendOut 1 (token (ring_of 1 1) 24 6 4 (Some 4) (5 ∷ []))) ∷
    (2, Agreed (ring_of 1 1) 6 (message (ring_of 1 1) 6 4 (call 4 1))) ∷ (4, SendOut 7 (join 4 1 15 0)) ∷
    (1, SendOut 14 (MessageFrame (message (ring_of 1 1) 5 2 (part 0 (call_of 2 1 ∷ []))))) ∷
    (1, SendOut 14 (MessageFrame (message (ring_of 1 1) 7 1 (call 1 1)))) ∷ (1, SendOut 2 (token (ring_of 1 1) 25 7 4 (Some 4) (6 ∷ []))) ∷
    (1, SendOut 14 (join 1 1 15 0)) ∷ (2, SendOut 13 (join 2 1 15 0)) ∷ (1, SendOut 14 (join 1 1 15 0)) ∷ (2, SendOut 13 (join 2 1 15 0)) ∷
    (3, SendOut 11 (join 3 1 15 0)) ∷ (2, Agreed (ring_of 1 1) 7 (message (ring_of 1 1) 7 1 (call 1 1))) ∷ (1, SendOut 14 (join 1 1 15 0)) ∷
    (2, SendOut 13 (join 2 1 15 0)) ∷ (4, SendOut 7 (join 4 1 15 0)) ∷ (1, SendOut 14 (join 1 1 15 4)) ∷ (3, SendOut 11 (join 3 1 15 0)) ∷
    (4, SendOut 7 (join 4 1 15 7)) ∷ (4, SendOut 8 (commit (ring_of 2 4) 8 1 (report (ring_of 1 1) 4 4 6 ∷ []))) ∷ (2, SendOut 13 (join 2 1 15 4)) ∷
    (3, SendOut 11 (join 3 1 15 1)) ∷ (1, SendOut 14 (join 1 1 15 12)) ∷ (2, SendOut 13 (join 2 1 15 12)) ∷ (3, SendOut 11 (join 3 1 15 9)) ∷
    (4, SendOut 8 (commit (ring_of 2 4) 8 2 (report (ring_of 1 1) 4 4 6 ∷ []))) ∷ (3, SendOut 11 (join 3 1 15 11)) ∷
    (3, SendOut 4 (commit (ring_of 2 3) 4 1 (report (ring_of 1 1) 5 4 0 ∷ []))) ∷
    (1, SendOut 2 (commit (ring_of 2 1) 3 1 (report (ring_of 1 1) 5 4 2 ∷ []))) ∷ (4, SendOut 8 (token (ring_of 2 4) 1 3 3 None [])) ∷
    (3, SendOut 4 (commit (ring_of 2 3) 4 2 (report (ring_of 1 1) 5 4 0 ∷ []))) ∷
    (2, SendOut 1 (commit (ring_of 2 1) 3 2 (report (ring_of 1 1) 5 4 2 ∷ report (ring_of 1 1) 7 4 0 ∷ []))) ∷
    (4, SendOut 8 (token (ring_of 2 4) 2 3 3 None [])) ∷ (4, Trans (ring_of 1 1) (ring_of 2 4) 8) ∷
    (4, Rest (ring_of 1 1) 6 (message (ring_of 1 1) 6 4 (call 4 1))) ∷ (4, Regular (ring_of 2 4) 8) ∷ (4, Safe (ring_of 2 4) 3) ∷
    (3, SendOut 4 (token (ring_of 2 3) 1 1 1 None [])) ∷ (4, SendOut 7 (join 4 2 8 0)) ∷
    (1, SendOut 2 (commit (ring_of 2 1) 3 3 (report (ring_of 1 1) 5 4 2 ∷ report (ring_of 1 1) 7 4 0 ∷ []))) ∷
    (4, SendOut 8 (token (ring_of 2 4) 3 3 3 None [])) ∷ (3, SendOut 4 (token (ring_of 2 3) 2 1 1 None [])) ∷
    (3, Trans (ring_of 1 1) (ring_of 2 3) 4) ∷ (3, Rest (ring_of 1 1) 5 (message (ring_of 1 1) 5 2 (part 0 (call_of 2 1 ∷ [])))) ∷
    (3, Regular (ring_of 2 3) 4) ∷ (3, Safe (ring_of 2 3) 1) ∷ (3, SendOut 11 (join 3 2 12 0)) ∷
    (2, SendOut 1 (commit (ring_of 2 1) 3 4 (report (ring_of 1 1) 5 4 2 ∷ report (ring_of 1 1) 7 4 0 ∷ []))) ∷
    (4, SendOut 8 (token (ring_of 2 4) 4 3 3 None [])) ∷ (4, SendOut 7 (join 4 2 12 0)) ∷
    (1, SendOut 2 (MessageFrame (message (ring_of 2 1) 1 1 (wrapped (ring_of 1 1) 7 1 (call_content 1 1))))) ∷
    (1, SendOut 2 (MessageFrame (message (ring_of 2 1) 2 1 End))) ∷ (1, SendOut 2 (token (ring_of 2 1) 1 2 2 None [])) ∷
    (3, SendOut 8 (commit (ring_of 3 3) 12 1 (report (ring_of 2 3) 1 1 0 ∷ []))) ∷
    (2, SendOut 1 (MessageFrame (message (ring_of 2 1) 3 2 (wrapped (ring_of 1 1) 6 4 (call_content 4 1))))) ∷
    (2, SendOut 1 (MessageFrame (message (ring_of 2 1) 4 2 End))) ∷ (2, SendOut 1 (token (ring_of 2 1) 2 4 4 None [])) ∷
    (4, SendOut 4 (commit (ring_of 3 3) 12 2 (report (ring_of 2 3) 1 1 0 ∷ report (ring_of 2 4) 3 3 0 ∷ []))) ∷
    (1, Agreed (ring_of 1 1) 6 (message (ring_of 1 1) 6 4 (call 4 1))) ∷ (1, Agreed (ring_of 1 1) 7 (message (ring_of 1 1) 7 1 (call 1 1))) ∷
    (1, SendOut 2 (token (ring_of 2 1) 3 4 3 (Some 1) (4 ∷ []))) ∷
    (3, SendOut 8 (commit (ring_of 3 3) 12 3 (report (ring_of 2 3) 1 1 0 ∷ report (ring_of 2 4) 3 3 0 ∷ []))) ∷
    (2, SendOut 1 (MessageFrame (message (ring_of 2 1) 4 2 End))) ∷ (2, SendOut 1 (token (ring_of 2 1) 4 4 3 (Some 1) [])) ∷
    (4, SendOut 4 (commit (ring_of 3 3) 12 4 (report (ring_of 2 3) 1 1 0 ∷ report (ring_of 2 4) 3 3 0 ∷ []))) ∷
    (1, SendOut 2 (token (ring_of 2 1) 5 4 4 None [])) ∷ (3, SendOut 8 (MessageFrame (message (ring_of 3 3) 1 3 End))) ∷
    (3, SendOut 8 (token (ring_of 3 3) 1 1 1 None [])) ∷ (2, SendOut 1 (token (ring_of 2 1) 6 4 4 None [])) ∷
    (4, SendOut 4 (MessageFrame (message (ring_of 3 3) 2 4 End))) ∷ (4, SendOut 4 (token (ring_of 3 3) 2 2 0 (Some 4) (1 ∷ []))) ∷
    (1, SendOut 2 (token (ring_of 2 1) 7 4 4 None [])) ∷ (1, Trans (ring_of 1 1) (ring_of 2 1) 3) ∷
    (1, Rest (ring_of 1 1) 5 (message (ring_of 1 1) 5 2 (part 0 (call_of 2 1 ∷ [])))) ∷
    (1, Rest (ring_of 1 1) 6 (message (ring_of 1 1) 6 4 (call 4 1))) ∷ (1, Rest (ring_of 1 1) 7 (message (ring_of 1 1) 7 1 (call 1 1))) ∷
    (1, Regular (ring_of 2 1) 3) ∷ (1, Safe (ring_of 2 1) 4) ∷ (3, SendOut 8 (MessageFrame (message (ring_of 3 3) 1 3 End))) ∷
    (3, SendOut 8 (token (ring_of 3 3) 3 2 0 (Some 4) [])) ∷ (2, SendOut 1 (token (ring_of 2 1) 8 4 4 None [])) ∷
    (2, Trans (ring_of 1 1) (ring_of 2 1) 3) ∷ (2, Rest (ring_of 1 1) 5 (message (ring_of 1 1) 5 2 (part 0 (call_of 2 1 ∷ [])))) ∷
    (2, Rest (ring_of 1 1) 6 (message (ring_of 1 1) 6 4 (call 4 1))) ∷ (2, Rest (ring_of 1 1) 7 (message (ring_of 1 1) 7 1 (call 1 1))) ∷
    (2, Regular (ring_of 2 1) 3) ∷ (2, Safe (ring_of 2 1) 4) ∷ (3, SendOut 8 (token (ring_of 3 3) 3 2 0 (Some 4) [])) ∷
    (4, SendOut 4 (token (ring_of 3 3) 4 2 2 None [])) ∷ []

-- The world to which the schedule leads.
abbrev pub world : World Global
world = run (unformed 4) events
