-- A random schedule of six processors: there are joins with many different sets before their rings form.
-- The outputs are those of an independent implementation of the protocol.
use Rattle.std.specs.Prelude.{ℕ, List, [], ◌∷◌, None}
use Rattle.std.specs.declared.alloc.Global.{Global}
use Rattle.ring_payload.specs.declared.content.Payload.TheVariants.{End}
use Rattle.ring_wire.specs.declared.frame.Frame.TheVariants.{Message as MessageFrame}
use Rattle.ring_base.specs.declared.timeout_kind.Kind.TheVariants.{Retransmit, Join as JoinTime, Consensus, Loss}
use Rattle.ring_core_spec.specs.declared.out.Out.{Out}
use Rattle.ring_core_spec.specs.declared.out.Out.TheVariants.{Send as SendOut, Agreed, Safe, Trans, Rest, Regular}
use Rattle.ring_core_proof.specs.declared.event.RingEvent.{RingEvent}
use Rattle.ring_core_proof.specs.declared.event.RingEvent.TheVariants.{Send as SendEvent, Deliver, Timeout as TimeEvent}
use Rattle.ring_core_proof.specs.Worlds.{World, run, unformed}
use Rattle.ring_core_proof.specs.Samples.{ring_of}
use Rattle.ring_synchrony_examples.specs.Words.{long_call_of, call, long_call, head, message, token, join, report, commit}

-- The events, in order.
abbrev pub events : List (RingEvent Global)
events =
    TimeEvent 1 JoinTime ∷ TimeEvent 2 JoinTime ∷ TimeEvent 3 JoinTime ∷ TimeEvent 4 JoinTime ∷ TimeEvent 5 JoinTime ∷ TimeEvent 6 JoinTime ∷
    Deliver 2 1 ∷ Deliver 3 1 ∷ Deliver 4 1 ∷ Deliver 5 1 ∷ Deliver 6 1 ∷ Deliver 1 2 ∷ Deliver 3 2 ∷ Deliver 4 2 ∷ Deliver 5 2 ∷ Deliver 6 2 ∷
    Deliver 1 3 ∷ Deliver 2 3 ∷ Deliver 4 3 ∷ Deliver 5 3 ∷ Deliver 6 3 ∷ Deliver 1 4 ∷ Deliver 2 4 ∷ Deliver 3 4 ∷ Deliver 5 4 ∷ Deliver 6 4 ∷
    Deliver 1 5 ∷ Deliver 2 5 ∷ Deliver 3 5 ∷ Deliver 4 5 ∷ Deliver 4 5 ∷ Deliver 6 5 ∷ Deliver 1 6 ∷ Deliver 2 6 ∷ Deliver 3 6 ∷ Deliver 4 6 ∷
    Deliver 5 6 ∷ TimeEvent 2 Loss ∷ TimeEvent 3 Loss ∷ TimeEvent 5 Loss ∷ Deliver 2 7 ∷ Deliver 1 8 ∷ Deliver 3 8 ∷ Deliver 4 8 ∷ Deliver 5 8 ∷
    Deliver 6 8 ∷ Deliver 1 9 ∷ Deliver 2 9 ∷ Deliver 2 9 ∷ Deliver 4 9 ∷ Deliver 5 9 ∷ Deliver 6 9 ∷ Deliver 1 10 ∷ Deliver 2 10 ∷ Deliver 3 10 ∷
    Deliver 4 10 ∷ Deliver 6 10 ∷ Deliver 3 11 ∷ Deliver 4 12 ∷ Deliver 5 13 ∷ Deliver 6 14 ∷ TimeEvent 1 Consensus ∷ TimeEvent 3 Consensus ∷
    TimeEvent 4 Consensus ∷ TimeEvent 5 Consensus ∷ Deliver 1 15 ∷ Deliver 2 16 ∷ Deliver 3 17 ∷ Deliver 4 18 ∷ Deliver 5 19 ∷ Deliver 6 20 ∷
    Deliver 1 21 ∷ Deliver 2 22 ∷ Deliver 3 22 ∷ Deliver 4 22 ∷ Deliver 5 22 ∷ Deliver 6 22 ∷ Deliver 2 23 ∷ Deliver 1 24 ∷ Deliver 3 24 ∷
    Deliver 4 24 ∷ Deliver 5 24 ∷ Deliver 6 24 ∷ Deliver 3 25 ∷ Deliver 1 26 ∷ Deliver 2 26 ∷ Deliver 4 26 ∷ Deliver 5 26 ∷ Deliver 6 26 ∷
    Deliver 4 27 ∷ Deliver 1 28 ∷ Deliver 2 28 ∷ Deliver 3 28 ∷ Deliver 5 28 ∷ Deliver 6 28 ∷ Deliver 5 29 ∷ Deliver 1 30 ∷ Deliver 2 30 ∷
    Deliver 2 30 ∷ Deliver 3 30 ∷ Deliver 4 30 ∷ Deliver 6 30 ∷ Deliver 6 31 ∷ Deliver 1 32 ∷ Deliver 2 32 ∷ Deliver 3 32 ∷ Deliver 4 32 ∷
    Deliver 5 32 ∷ Deliver 1 33 ∷ Deliver 2 34 ∷ Deliver 3 35 ∷ Deliver 4 36 ∷ Deliver 5 37 ∷ Deliver 6 38 ∷ Deliver 1 39 ∷ SendEvent 6 head ∷
    SendEvent 1 (call 2 1) ∷ Deliver 2 40 ∷ Deliver 3 41 ∷ Deliver 3 41 ∷ Deliver 4 42 ∷ SendEvent 2 (call 3 1) ∷ SendEvent 5 (call 4 1) ∷
    SendEvent 4 (long_call 5 1) ∷ SendEvent 1 (call 6 1) ∷ SendEvent 6 (call 7 1) ∷ SendEvent 4 (call 8 1) ∷ Deliver 5 43 ∷ Deliver 6 44 ∷
    Deliver 4 45 ∷ Deliver 5 45 ∷ Deliver 4 46 ∷ Deliver 5 46 ∷ TimeEvent 1 Loss ∷ TimeEvent 2 Loss ∷ TimeEvent 5 Loss ∷ Deliver 3 49 ∷ Deliver 4 50 ∷
    Deliver 6 50 ∷ Deliver 2 51 ∷ TimeEvent 1 Consensus ∷ TimeEvent 2 Consensus ∷ TimeEvent 3 Consensus ∷ TimeEvent 4 Consensus ∷ Deliver 5 52 ∷
    Deliver 6 52 ∷ Deliver 4 53 ∷ Deliver 5 53 ∷ Deliver 1 55 ∷ Deliver 3 56 ∷ Deliver 2 57 ∷ Deliver 2 57 ∷ Deliver 5 58 ∷ TimeEvent 6 Retransmit ∷
    TimeEvent 6 Loss ∷ Deliver 6 58 ∷ Deliver 1 59 ∷ Deliver 3 60 ∷ Deliver 4 61 ∷ Deliver 6 61 ∷ TimeEvent 5 Loss ∷ TimeEvent 3 Loss ∷
    TimeEvent 5 Loss ∷ Deliver 4 62 ∷ Deliver 5 62 ∷ Deliver 4 63 ∷ Deliver 5 63 ∷ Deliver 1 64 ∷ Deliver 2 65 ∷ Deliver 5 66 ∷
    TimeEvent 2 Consensus ∷ TimeEvent 4 Consensus ∷ TimeEvent 6 Consensus ∷ Deliver 4 67 ∷ Deliver 5 67 ∷ Deliver 4 68 ∷ Deliver 6 68 ∷ Deliver 2 69 ∷
    Deliver 4 70 ∷ Deliver 6 70 ∷ Deliver 4 71 ∷ Deliver 6 71 ∷ Deliver 1 72 ∷ Deliver 3 73 ∷ Deliver 4 74 ∷ Deliver 5 74 ∷ Deliver 6 75 ∷
    Deliver 4 76 ∷ TimeEvent 1 Retransmit ∷ TimeEvent 6 Retransmit ∷ Deliver 6 76 ∷ TimeEvent 4 JoinTime ∷ Deliver 3 77 ∷ Deliver 1 78 ∷
    Deliver 6 79 ∷ TimeEvent 1 Loss ∷ TimeEvent 2 Loss ∷ TimeEvent 3 Loss ∷ TimeEvent 4 Loss ∷ Deliver 1 80 ∷ Deliver 6 81 ∷ Deliver 1 82 ∷
    Deliver 6 83 ∷ Deliver 1 85 ∷ Deliver 3 86 ∷ Deliver 2 87 ∷ Deliver 5 88 ∷ Deliver 6 88 ∷ TimeEvent 2 Consensus ∷ TimeEvent 4 Consensus ∷ []

-- The outputs in order, each with its processor.
abbrev pub outs : List (ℕ × Out Global)
outs =
    (1, SendOut 62 (join 1 0 63 0)) ∷ (2, SendOut 61 (join 2 0 63 0)) ∷ (3, SendOut 59 (join 3 0 63 0)) ∷ (4, SendOut 55 (join 4 0 63 0)) ∷
    (5, SendOut 47 (join 5 0 63 0)) ∷ (6, SendOut 31 (join 6 0 63 0)) ∷ (1, SendOut 2 (commit (ring_of 1 1) 63 1 (report (ring_of 0 1) 0 0 0 ∷ []))) ∷
    (2, SendOut 61 (join 2 0 63 0)) ∷ (3, SendOut 59 (join 3 0 63 0)) ∷ (5, SendOut 47 (join 5 0 63 0)) ∷
    (2, SendOut 4 (commit (ring_of 1 1) 63 2 (report (ring_of 0 1) 0 0 0 ∷ report (ring_of 0 2) 0 0 0 ∷ []))) ∷
    (3, SendOut 8 (commit (ring_of 1 1) 63 3 (report (ring_of 0 1) 0 0 0 ∷ report (ring_of 0 2) 0 0 0 ∷ report (ring_of 0 3) 0 0 0 ∷ []))) ∷ (
      4,
      SendOut 16 (commit (ring_of 1 1) 63 4 (report (ring_of 0 1) 0 0 0 ∷ report (ring_of 0 2) 0 0 0 ∷ report (ring_of 0 3) 0 0 0 ∷
          report (ring_of 0 4) 0 0 0 ∷ [])),
    ) ∷ (
      5,
      SendOut 32 (commit (ring_of 1 1) 63 5 (report (ring_of 0 1) 0 0 0 ∷ report (ring_of 0 2) 0 0 0 ∷ report (ring_of 0 3) 0 0 0 ∷
          report (ring_of 0 4) 0 0 0 ∷ report (ring_of 0 5) 0 0 0 ∷ [])),
    ) ∷ (
      6,
      SendOut 1 (commit (ring_of 1 1) 63 6 (report (ring_of 0 1) 0 0 0 ∷ report (ring_of 0 2) 0 0 0 ∷ report (ring_of 0 3) 0 0 0 ∷
          report (ring_of 0 4) 0 0 0 ∷ report (ring_of 0 5) 0 0 0 ∷ report (ring_of 0 6) 0 0 0 ∷ [])),
    ) ∷ (
      1,
      SendOut 2 (commit (ring_of 1 1) 63 7 (report (ring_of 0 1) 0 0 0 ∷ report (ring_of 0 2) 0 0 0 ∷ report (ring_of 0 3) 0 0 0 ∷
          report (ring_of 0 4) 0 0 0 ∷ report (ring_of 0 5) 0 0 0 ∷ report (ring_of 0 6) 0 0 0 ∷ [])),
    ) ∷ (
      2,
      SendOut 4 (commit (ring_of 1 1) 63 8 (report (ring_of 0 1) 0 0 0 ∷ report (ring_of 0 2) 0 0 0 ∷ report (ring_of 0 3) 0 0 0 ∷
          report (ring_of 0 4) 0 0 0 ∷ report (ring_of 0 5) 0 0 0 ∷ report (ring_of 0 6) 0 0 0 ∷ [])),
    ) ∷ (
      3,
      SendOut 8 (commit (ring_of 1 1) 63 9 (report (ring_of 0 1) 0 0 0 ∷ report (ring_of 0 2) 0 0 0 ∷ report (ring_of 0 3) 0 0 0 ∷
          report (ring_of 0 4) 0 0 0 ∷ report (ring_of 0 5) 0 0 0 ∷ report (ring_of 0 6) 0 0 0 ∷ [])),
    ) ∷ (
      4,
      SendOut 16 (commit (ring_of 1 1) 63 10 (report (ring_of 0 1) 0 0 0 ∷ report (ring_of 0 2) 0 0 0 ∷ report (ring_of 0 3) 0 0 0 ∷
          report (ring_of 0 4) 0 0 0 ∷ report (ring_of 0 5) 0 0 0 ∷ report (ring_of 0 6) 0 0 0 ∷ [])),
    ) ∷ (
      5,
      SendOut 32 (commit (ring_of 1 1) 63 11 (report (ring_of 0 1) 0 0 0 ∷ report (ring_of 0 2) 0 0 0 ∷ report (ring_of 0 3) 0 0 0 ∷
          report (ring_of 0 4) 0 0 0 ∷ report (ring_of 0 5) 0 0 0 ∷ report (ring_of 0 6) 0 0 0 ∷ [])),
    ) ∷ (
      6,
      SendOut 1 (commit (ring_of 1 1) 63 12 (report (ring_of 0 1) 0 0 0 ∷ report (ring_of 0 2) 0 0 0 ∷ report (ring_of 0 3) 0 0 0 ∷
          report (ring_of 0 4) 0 0 0 ∷ report (ring_of 0 5) 0 0 0 ∷ report (ring_of 0 6) 0 0 0 ∷ [])),
    ) ∷
    (1, SendOut 62 (MessageFrame (message (ring_of 1 1) 1 1 End))) ∷ (1, SendOut 2 (token (ring_of 1 1) 1 1 1 None [])) ∷
    (2, SendOut 61 (MessageFrame (message (ring_of 1 1) 2 2 End))) ∷ (2, SendOut 4 (token (ring_of 1 1) 2 2 2 None [])) ∷
    (3, SendOut 59 (MessageFrame (message (ring_of 1 1) 3 3 End))) ∷ (3, SendOut 8 (token (ring_of 1 1) 3 3 3 None [])) ∷
    (4, SendOut 55 (MessageFrame (message (ring_of 1 1) 4 4 End))) ∷ (4, SendOut 16 (token (ring_of 1 1) 4 4 4 None [])) ∷
    (5, SendOut 47 (MessageFrame (message (ring_of 1 1) 5 5 End))) ∷ (5, SendOut 32 (token (ring_of 1 1) 5 5 5 None [])) ∷
    (6, SendOut 31 (MessageFrame (message (ring_of 1 1) 6 6 End))) ∷ (6, SendOut 1 (token (ring_of 1 1) 6 6 6 None [])) ∷
    (1, SendOut 2 (token (ring_of 1 1) 7 6 6 None [])) ∷ (2, SendOut 4 (token (ring_of 1 1) 8 6 6 None [])) ∷
    (3, SendOut 8 (token (ring_of 1 1) 9 6 6 None [])) ∷ (4, SendOut 16 (token (ring_of 1 1) 10 6 6 None [])) ∷
    (5, SendOut 32 (token (ring_of 1 1) 11 6 6 None [])) ∷ (6, SendOut 1 (token (ring_of 1 1) 12 6 6 None [])) ∷
    (6, Trans (ring_of 0 6) (ring_of 1 1) 32) ∷ (6, Regular (ring_of 1 1) 63) ∷ (6, Safe (ring_of 1 1) 6) ∷
    (1, SendOut 2 (token (ring_of 1 1) 13 6 6 None [])) ∷ (1, Trans (ring_of 0 1) (ring_of 1 1) 1) ∷ (1, Regular (ring_of 1 1) 63) ∷
    (1, Safe (ring_of 1 1) 6) ∷ (2, SendOut 4 (token (ring_of 1 1) 14 6 6 None [])) ∷ (2, Trans (ring_of 0 2) (ring_of 1 1) 2) ∷
    (2, Regular (ring_of 1 1) 63) ∷ (2, Safe (ring_of 1 1) 6) ∷ (3, SendOut 8 (token (ring_of 1 1) 15 6 6 None [])) ∷
    (3, Trans (ring_of 0 3) (ring_of 1 1) 4) ∷ (3, Regular (ring_of 1 1) 63) ∷ (3, Safe (ring_of 1 1) 6) ∷
    (4, SendOut 16 (token (ring_of 1 1) 16 6 6 None [])) ∷ (4, Trans (ring_of 0 4) (ring_of 1 1) 8) ∷ (4, Regular (ring_of 1 1) 63) ∷
    (4, Safe (ring_of 1 1) 6) ∷ (5, SendOut 32 (token (ring_of 1 1) 17 6 6 None [])) ∷ (5, Trans (ring_of 0 5) (ring_of 1 1) 16) ∷
    (5, Regular (ring_of 1 1) 63) ∷ (5, Safe (ring_of 1 1) 6) ∷ (6, SendOut 31 (MessageFrame (message (ring_of 1 1) 7 6 head))) ∷
    (6, SendOut 31 (MessageFrame (message (ring_of 1 1) 8 6 (call 7 1)))) ∷ (6, SendOut 1 (token (ring_of 1 1) 18 8 8 None [])) ∷
    (6, Agreed (ring_of 1 1) 7 (message (ring_of 1 1) 7 6 head)) ∷ (6, Agreed (ring_of 1 1) 8 (message (ring_of 1 1) 8 6 (call 7 1))) ∷
    (4, Agreed (ring_of 1 1) 7 (message (ring_of 1 1) 7 6 head)) ∷ (5, Agreed (ring_of 1 1) 7 (message (ring_of 1 1) 7 6 head)) ∷
    (4, Agreed (ring_of 1 1) 8 (message (ring_of 1 1) 8 6 (call 7 1))) ∷ (5, Agreed (ring_of 1 1) 8 (message (ring_of 1 1) 8 6 (call 7 1))) ∷
    (1, SendOut 62 (join 1 1 63 0)) ∷ (2, SendOut 61 (join 2 1 63 0)) ∷ (5, SendOut 47 (join 5 1 63 0)) ∷ (3, SendOut 59 (join 3 1 63 0)) ∷
    (4, SendOut 55 (join 4 1 63 0)) ∷ (6, SendOut 31 (join 6 1 63 0)) ∷ (1, SendOut 62 (join 1 1 63 62)) ∷
    (1, SendOut 1 (commit (ring_of 2 1) 1 1 (report (ring_of 1 1) 6 6 0 ∷ []))) ∷ (2, SendOut 61 (join 2 1 63 57)) ∷
    (3, SendOut 59 (join 3 1 63 57)) ∷ (4, SendOut 55 (join 4 1 63 39)) ∷
    (1, SendOut 1 (commit (ring_of 2 1) 1 2 (report (ring_of 1 1) 6 6 0 ∷ []))) ∷
    (2, SendOut 4 (commit (ring_of 2 2) 6 1 (report (ring_of 1 1) 6 6 0 ∷ []))) ∷ (5, SendOut 47 (join 5 1 63 39)) ∷ (6, SendOut 31 (join 6 1 63 0)) ∷
    (6, SendOut 31 (join 6 1 63 8)) ∷ (1, SendOut 1 (token (ring_of 2 1) 1 1 1 None [])) ∷
    (3, SendOut 2 (commit (ring_of 2 2) 6 2 (report (ring_of 1 1) 6 6 0 ∷ report (ring_of 1 1) 6 6 0 ∷ []))) ∷
    (4, SendOut 16 (commit (ring_of 2 4) 24 1 (report (ring_of 1 1) 8 6 0 ∷ []))) ∷ (6, SendOut 31 (join 6 1 63 24)) ∷
    (5, SendOut 47 (join 5 1 63 0)) ∷ (3, SendOut 59 (join 3 2 63 0)) ∷ (5, SendOut 47 (join 5 1 63 0)) ∷ (5, SendOut 47 (join 5 1 63 8)) ∷
    (1, SendOut 1 (token (ring_of 2 1) 2 1 1 None [])) ∷ (1, Trans (ring_of 1 1) (ring_of 2 1) 1) ∷ (1, Regular (ring_of 2 1) 1) ∷
    (1, Safe (ring_of 2 1) 1) ∷ (2, SendOut 4 (commit (ring_of 2 2) 6 3 (report (ring_of 1 1) 6 6 0 ∷ report (ring_of 1 1) 6 6 0 ∷ []))) ∷
    (6, SendOut 31 (join 6 1 63 31)) ∷ (6, SendOut 32 (commit (ring_of 2 6) 32 1 (report (ring_of 1 1) 8 6 0 ∷ []))) ∷
    (5, SendOut 47 (join 5 1 63 40)) ∷ (2, SendOut 61 (join 2 2 63 0)) ∷ (1, SendOut 1 (token (ring_of 2 1) 3 1 1 None [])) ∷
    (6, SendOut 32 (commit (ring_of 2 6) 32 2 (report (ring_of 1 1) 8 6 0 ∷ []))) ∷ (1, SendOut 1 (token (ring_of 2 1) 3 1 1 None [])) ∷
    (6, SendOut 32 (commit (ring_of 2 6) 32 2 (report (ring_of 1 1) 8 6 0 ∷ []))) ∷ (1, SendOut 1 (token (ring_of 2 1) 4 1 1 None [])) ∷
    (6, SendOut 32 (token (ring_of 2 6) 1 1 1 None [])) ∷ (1, SendOut 62 (join 1 2 1 0)) ∷
    (1, SendOut 1 (commit (ring_of 3 1) 1 1 (report (ring_of 2 1) 1 1 0 ∷ []))) ∷ (2, SendOut 61 (join 2 2 63 0)) ∷ (3, SendOut 59 (join 3 2 63 0)) ∷
    (4, SendOut 55 (join 4 2 63 0)) ∷ (6, SendOut 32 (token (ring_of 2 6) 2 1 1 None [])) ∷ (6, Trans (ring_of 1 1) (ring_of 2 6) 32) ∷
    (6, Rest (ring_of 1 1) 7 (message (ring_of 1 1) 7 6 head)) ∷ (6, Rest (ring_of 1 1) 8 (message (ring_of 1 1) 8 6 (call 7 1))) ∷
    (6, Regular (ring_of 2 6) 32) ∷ (6, Safe (ring_of 2 6) 1) ∷ (1, SendOut 1 (commit (ring_of 3 1) 1 2 (report (ring_of 2 1) 1 1 0 ∷ []))) ∷
    (6, SendOut 31 (join 6 2 63 0)) ∷ (2, SendOut 61 (join 2 2 63 57)) ∷ (4, SendOut 55 (join 4 2 63 55)) ∷
    (4, SendOut 8 (commit (ring_of 3 4) 8 1 (report (ring_of 1 1) 8 6 0 ∷ []))) ∷ []

-- The world to which the schedule leads.
abbrev pub world : World Global
world = run (unformed 6) events
