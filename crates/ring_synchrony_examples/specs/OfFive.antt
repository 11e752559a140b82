-- A random schedule of five processors: a ring under load.
-- The outputs are those of an independent implementation of the protocol.
use Rattle.std.specs.Prelude.{ℕ, List, [], ◌∷◌, Some, None}
use Rattle.std.specs.declared.alloc.Global.{Global}
use Rattle.ring_payload.specs.declared.content.Payload.TheVariants.{End}
use Rattle.ring_wire.specs.declared.frame.Frame.TheVariants.{Message as MessageFrame}
use Rattle.ring_base.specs.declared.timeout_kind.Kind.TheVariants.{Join as JoinTime}
use Rattle.ring_core_spec.specs.declared.out.Out.{Out}
use Rattle.ring_core_spec.specs.declared.out.Out.TheVariants.{Send as SendOut, Agreed, Safe, Trans, Regular}
use Rattle.ring_core_proof.specs.declared.event.RingEvent.{RingEvent}
use Rattle.ring_core_proof.specs.declared.event.RingEvent.TheVariants.{Send as SendEvent, Deliver, Timeout as TimeEvent}
use Rattle.ring_core_proof.specs.Worlds.{World, run, unformed}
use Rattle.ring_core_proof.specs.Samples.{ring_of}
use Rattle.ring_synchrony_examples.specs.Words.{call_of, long_call_of, call, long_call, call_content, head, head_after, part}
use Rattle.ring_synchrony_examples.specs.Words.{pack, wrapped, message, token, join, report, commit}

-- The events, in order.
abbrev pub events : List (RingEvent Global)
events =
    TimeEvent 1 JoinTime ∷ TimeEvent 2 JoinTime ∷ TimeEvent 3 JoinTime ∷ TimeEvent 4 JoinTime ∷ TimeEvent 5 JoinTime ∷ Deliver 2 1 ∷ Deliver 3 1 ∷
    Deliver 4 1 ∷ Deliver 5 1 ∷ Deliver 1 2 ∷ Deliver 3 2 ∷ Deliver 4 2 ∷ Deliver 5 2 ∷ Deliver 1 3 ∷ Deliver 2 3 ∷ Deliver 4 3 ∷ Deliver 5 3 ∷
    Deliver 1 4 ∷ Deliver 2 4 ∷ Deliver 3 4 ∷ Deliver 5 4 ∷ Deliver 1 5 ∷ Deliver 1 5 ∷ Deliver 2 5 ∷ Deliver 3 5 ∷ Deliver 4 5 ∷ Deliver 4 5 ∷
    Deliver 2 6 ∷ Deliver 3 7 ∷ Deliver 4 8 ∷ Deliver 5 9 ∷ Deliver 1 10 ∷ Deliver 2 11 ∷ Deliver 3 12 ∷ Deliver 4 13 ∷ Deliver 5 14 ∷ Deliver 1 15 ∷
    Deliver 2 16 ∷ Deliver 3 16 ∷ Deliver 4 16 ∷ Deliver 5 16 ∷ Deliver 2 17 ∷ Deliver 1 18 ∷ Deliver 3 18 ∷ Deliver 4 18 ∷ Deliver 5 18 ∷
    Deliver 3 19 ∷ Deliver 1 20 ∷ Deliver 2 20 ∷ Deliver 4 20 ∷ Deliver 5 20 ∷ Deliver 4 21 ∷ Deliver 1 22 ∷ Deliver 2 22 ∷ Deliver 3 22 ∷
    Deliver 5 22 ∷ Deliver 5 23 ∷ Deliver 1 24 ∷ Deliver 2 24 ∷ Deliver 3 24 ∷ Deliver 4 24 ∷ Deliver 1 25 ∷ Deliver 2 26 ∷ Deliver 3 27 ∷
    Deliver 4 28 ∷ Deliver 5 29 ∷ Deliver 5 29 ∷ Deliver 1 30 ∷ Deliver 2 31 ∷ Deliver 3 32 ∷ Deliver 4 33 ∷ Deliver 5 34 ∷ Deliver 1 35 ∷
    Deliver 2 36 ∷ Deliver 3 37 ∷ Deliver 3 37 ∷ Deliver 4 38 ∷ Deliver 5 39 ∷ Deliver 1 40 ∷ Deliver 2 41 ∷ Deliver 3 42 ∷ Deliver 4 43 ∷
    Deliver 5 44 ∷ Deliver 1 45 ∷ Deliver 1 45 ∷ Deliver 2 46 ∷ Deliver 3 47 ∷ Deliver 4 48 ∷ Deliver 5 49 ∷ Deliver 1 50 ∷ Deliver 2 51 ∷
    Deliver 3 52 ∷ Deliver 4 53 ∷ Deliver 5 54 ∷ Deliver 1 55 ∷ Deliver 2 56 ∷ Deliver 3 57 ∷ Deliver 4 58 ∷ Deliver 5 59 ∷ Deliver 1 60 ∷
    Deliver 2 61 ∷ Deliver 3 62 ∷ Deliver 4 63 ∷ SendEvent 1 (call 1 1) ∷ TimeEvent 1 JoinTime ∷ TimeEvent 3 JoinTime ∷ TimeEvent 5 JoinTime ∷
    Deliver 5 64 ∷ Deliver 1 65 ∷ Deliver 2 66 ∷ Deliver 4 66 ∷ Deliver 5 66 ∷ Deliver 2 67 ∷ Deliver 3 68 ∷ Deliver 4 69 ∷ Deliver 3 70 ∷
    Deliver 5 70 ∷ Deliver 5 71 ∷ Deliver 1 72 ∷ Deliver 2 73 ∷ Deliver 3 74 ∷ SendEvent 5 (call 2 1) ∷ SendEvent 3 (call 3 1) ∷
    SendEvent 3 (call 4 1) ∷ SendEvent 2 (long_call 5 1) ∷ SendEvent 5 (call 6 1) ∷ TimeEvent 1 JoinTime ∷ TimeEvent 2 JoinTime ∷
    TimeEvent 4 JoinTime ∷ Deliver 4 75 ∷ Deliver 5 76 ∷ Deliver 1 77 ∷ Deliver 1 78 ∷ Deliver 2 79 ∷ Deliver 3 80 ∷ Deliver 4 80 ∷ Deliver 5 80 ∷
    Deliver 3 81 ∷ Deliver 2 82 ∷ Deliver 4 82 ∷ Deliver 4 83 ∷ Deliver 5 84 ∷ Deliver 1 85 ∷ Deliver 2 85 ∷ Deliver 3 85 ∷
    SendEvent 1 (head_after (ring_of 2 1) 5 2) ∷ SendEvent 3 (call 8 1) ∷ TimeEvent 2 JoinTime ∷ Deliver 5 55 ∷ Deliver 4 85 ∷ Deliver 1 86 ∷
    Deliver 2 87 ∷ Deliver 3 87 ∷ Deliver 4 87 ∷ Deliver 5 87 ∷ SendEvent 3 head ∷ SendEvent 3 (call 10 1) ∷ SendEvent 3 (call 11 1) ∷
    SendEvent 3 (long_call 12 1) ∷ SendEvent 3 (wrapped (ring_of 1 1) 1 1 (call_content 13 1)) ∷ SendEvent 3 (call 14 1) ∷ SendEvent 3 head ∷
    SendEvent 3 (call 16 1) ∷ SendEvent 3 (call 17 1) ∷ SendEvent 3 (part 0 (call_of 18 1 ∷ [])) ∷ SendEvent 3 (call 19 1) ∷ SendEvent 3 (call 20 1) ∷
    SendEvent 3 (call 21 1) ∷ SendEvent 3 (call 22 1) ∷ SendEvent 3 (part 0 (call_of 23 1 ∷ [])) ∷ SendEvent 1 (call 24 1) ∷
    SendEvent 5 (part 0 (call_of 25 1 ∷ [])) ∷ Deliver 2 88 ∷ Deliver 1 89 ∷ Deliver 3 89 ∷ Deliver 5 52 ∷ Deliver 5 89 ∷ Deliver 1 90 ∷
    Deliver 3 90 ∷ Deliver 4 90 ∷ Deliver 5 90 ∷ Deliver 3 91 ∷ Deliver 5 76 ∷ Deliver 1 92 ∷ Deliver 4 92 ∷ []

-- The outputs in order, each with its processor.
abbrev pub outs : List (ℕ × Out Global)
outs =
    (1, SendOut 30 (join 1 0 31 0)) ∷ (2, SendOut 29 (join 2 0 31 0)) ∷ (3, SendOut 27 (join 3 0 31 0)) ∷ (4, SendOut 23 (join 4 0 31 0)) ∷
    (5, SendOut 15 (join 5 0 31 0)) ∷ (1, SendOut 2 (commit (ring_of 1 1) 31 1 (report (ring_of 0 1) 0 0 0 ∷ []))) ∷
    (2, SendOut 4 (commit (ring_of 1 1) 31 2 (report (ring_of 0 1) 0 0 0 ∷ report (ring_of 0 2) 0 0 0 ∷ []))) ∷
    (3, SendOut 8 (commit (ring_of 1 1) 31 3 (report (ring_of 0 1) 0 0 0 ∷ report (ring_of 0 2) 0 0 0 ∷ report (ring_of 0 3) 0 0 0 ∷ []))) ∷ (
      4,
      SendOut 16 (commit (ring_of 1 1) 31 4 (report (ring_of 0 1) 0 0 0 ∷ report (ring_of 0 2) 0 0 0 ∷ report (ring_of 0 3) 0 0 0 ∷
          report (ring_of 0 4) 0 0 0 ∷ [])),
    ) ∷ (
      5,
      SendOut 1 (commit (ring_of 1 1) 31 5 (report (ring_of 0 1) 0 0 0 ∷ report (ring_of 0 2) 0 0 0 ∷ report (ring_of 0 3) 0 0 0 ∷
          report (ring_of 0 4) 0 0 0 ∷ report (ring_of 0 5) 0 0 0 ∷ [])),
    ) ∷ (
      1,
      SendOut 2 (commit (ring_of 1 1) 31 6 (report (ring_of 0 1) 0 0 0 ∷ report (ring_of 0 2) 0 0 0 ∷ report (ring_of 0 3) 0 0 0 ∷
          report (ring_of 0 4) 0 0 0 ∷ report (ring_of 0 5) 0 0 0 ∷ [])),
    ) ∷ (
      2,
      SendOut 4 (commit (ring_of 1 1) 31 7 (report (ring_of 0 1) 0 0 0 ∷ report (ring_of 0 2) 0 0 0 ∷ report (ring_of 0 3) 0 0 0 ∷
          report (ring_of 0 4) 0 0 0 ∷ report (ring_of 0 5) 0 0 0 ∷ [])),
    ) ∷ (
      3,
      SendOut 8 (commit (ring_of 1 1) 31 8 (report (ring_of 0 1) 0 0 0 ∷ report (ring_of 0 2) 0 0 0 ∷ report (ring_of 0 3) 0 0 0 ∷
          report (ring_of 0 4) 0 0 0 ∷ report (ring_of 0 5) 0 0 0 ∷ [])),
    ) ∷ (
      4,
      SendOut 16 (commit (ring_of 1 1) 31 9 (report (ring_of 0 1) 0 0 0 ∷ report (ring_of 0 2) 0 0 0 ∷ report (ring_of 0 3) 0 0 0 ∷
          report (ring_of 0 4) 0 0 0 ∷ report (ring_of 0 5) 0 0 0 ∷ [])),
    ) ∷ (
      5,
      SendOut 1 (commit (ring_of 1 1) 31 10 (report (ring_of 0 1) 0 0 0 ∷ report (ring_of 0 2) 0 0 0 ∷ report (ring_of 0 3) 0 0 0 ∷
          report (ring_of 0 4) 0 0 0 ∷ report (ring_of 0 5) 0 0 0 ∷ [])),
    ) ∷
    (1, SendOut 30 (MessageFrame (message (ring_of 1 1) 1 1 End))) ∷ (1, SendOut 2 (token (ring_of 1 1) 1 1 1 None [])) ∷
    (2, SendOut 29 (MessageFrame (message (ring_of 1 1) 2 2 End))) ∷ (2, SendOut 4 (token (ring_of 1 1) 2 2 2 None [])) ∷
    (3, SendOut 27 (MessageFrame (message (ring_of 1 1) 3 3 End))) ∷ (3, SendOut 8 (token (ring_of 1 1) 3 3 3 None [])) ∷
    (4, SendOut 23 (MessageFrame (message (ring_of 1 1) 4 4 End))) ∷ (4, SendOut 16 (token (ring_of 1 1) 4 4 4 None [])) ∷
    (5, SendOut 15 (MessageFrame (message (ring_of 1 1) 5 5 End))) ∷ (5, SendOut 1 (token (ring_of 1 1) 5 5 5 None [])) ∷
    (1, SendOut 2 (token (ring_of 1 1) 6 5 5 None [])) ∷ (2, SendOut 4 (token (ring_of 1 1) 7 5 5 None [])) ∷
    (3, SendOut 8 (token (ring_of 1 1) 8 5 5 None [])) ∷ (4, SendOut 16 (token (ring_of 1 1) 9 5 5 None [])) ∷
    (5, SendOut 1 (token (ring_of 1 1) 10 5 5 None [])) ∷ (5, Trans (ring_of 0 5) (ring_of 1 1) 16) ∷ (5, Regular (ring_of 1 1) 31) ∷
    (5, Safe (ring_of 1 1) 5) ∷ (1, SendOut 2 (token (ring_of 1 1) 11 5 5 None [])) ∷ (1, Trans (ring_of 0 1) (ring_of 1 1) 1) ∷
    (1, Regular (ring_of 1 1) 31) ∷ (1, Safe (ring_of 1 1) 5) ∷ (2, SendOut 4 (token (ring_of 1 1) 12 5 5 None [])) ∷
    (2, Trans (ring_of 0 2) (ring_of 1 1) 2) ∷ (2, Regular (ring_of 1 1) 31) ∷ (2, Safe (ring_of 1 1) 5) ∷
    (3, SendOut 8 (token (ring_of 1 1) 13 5 5 None [])) ∷ (3, Trans (ring_of 0 3) (ring_of 1 1) 4) ∷ (3, Regular (ring_of 1 1) 31) ∷
    (3, Safe (ring_of 1 1) 5) ∷ (4, SendOut 16 (token (ring_of 1 1) 14 5 5 None [])) ∷ (4, Trans (ring_of 0 4) (ring_of 1 1) 8) ∷
    (4, Regular (ring_of 1 1) 31) ∷ (4, Safe (ring_of 1 1) 5) ∷ (5, SendOut 1 (token (ring_of 1 1) 15 5 5 None [])) ∷
    (1, SendOut 2 (token (ring_of 1 1) 16 5 5 None [])) ∷ (2, SendOut 4 (token (ring_of 1 1) 17 5 5 None [])) ∷
    (3, SendOut 8 (token (ring_of 1 1) 18 5 5 None [])) ∷ (4, SendOut 16 (token (ring_of 1 1) 19 5 5 None [])) ∷
    (5, SendOut 1 (token (ring_of 1 1) 20 5 5 None [])) ∷ (1, SendOut 2 (token (ring_of 1 1) 21 5 5 None [])) ∷
    (2, SendOut 4 (token (ring_of 1 1) 22 5 5 None [])) ∷ (3, SendOut 8 (token (ring_of 1 1) 23 5 5 None [])) ∷
    (4, SendOut 16 (token (ring_of 1 1) 24 5 5 None [])) ∷ (5, SendOut 1 (token (ring_of 1 1) 25 5 5 None [])) ∷
    (1, SendOut 2 (token (ring_of 1 1) 26 5 5 None [])) ∷ (2, SendOut 4 (token (ring_of 1 1) 27 5 5 None [])) ∷
    (3, SendOut 8 (token (ring_of 1 1) 28 5 5 None [])) ∷ (4, SendOut 16 (token (ring_of 1 1) 29 5 5 None [])) ∷
    (5, SendOut 1 (token (ring_of 1 1) 30 5 5 None [])) ∷ (1, SendOut 2 (token (ring_of 1 1) 31 5 5 None [])) ∷
    (2, SendOut 4 (token (ring_of 1 1) 32 5 5 None [])) ∷ (3, SendOut 8 (token (ring_of 1 1) 33 5 5 None [])) ∷
    (4, SendOut 16 (token (ring_of 1 1) 34 5 5 None [])) ∷ (5, SendOut 1 (token (ring_of 1 1) 35 5 5 None [])) ∷
    (1, SendOut 2 (token (ring_of 1 1) 36 5 5 None [])) ∷ (2, SendOut 4 (token (ring_of 1 1) 37 5 5 None [])) ∷
    (3, SendOut 8 (token (ring_of 1 1) 38 5 5 None [])) ∷ (4, SendOut 16 (token (ring_of 1 1) 39 5 5 None [])) ∷
    (5, SendOut 1 (token (ring_of 1 1) 40 5 5 None [])) ∷ (1, SendOut 2 (token (ring_of 1 1) 41 5 5 None [])) ∷
    (2, SendOut 4 (token (ring_of 1 1) 42 5 5 None [])) ∷ (3, SendOut 8 (token (ring_of 1 1) 43 5 5 None [])) ∷
    (4, SendOut 16 (token (ring_of 1 1) 44 5 5 None [])) ∷ (5, SendOut 1 (token (ring_of 1 1) 45 5 5 None [])) ∷
    (1, SendOut 30 (MessageFrame (message (ring_of 1 1) 6 1 (call 1 1)))) ∷ (1, SendOut 2 (token (ring_of 1 1) 46 6 6 None [])) ∷
    (1, Agreed (ring_of 1 1) 6 (message (ring_of 1 1) 6 1 (call 1 1))) ∷ (2, Agreed (ring_of 1 1) 6 (message (ring_of 1 1) 6 1 (call 1 1))) ∷
    (4, Agreed (ring_of 1 1) 6 (message (ring_of 1 1) 6 1 (call 1 1))) ∷ (5, Agreed (ring_of 1 1) 6 (message (ring_of 1 1) 6 1 (call 1 1))) ∷
    (2, SendOut 4 (token (ring_of 1 1) 47 6 6 None [])) ∷ (3, SendOut 8 (token (ring_of 1 1) 48 6 5 (Some 3) (6 ∷ []))) ∷
    (4, SendOut 23 (MessageFrame (message (ring_of 1 1) 6 1 (call 1 1)))) ∷ (4, SendOut 16 (token (ring_of 1 1) 49 6 5 (Some 3) [])) ∷
    (3, Agreed (ring_of 1 1) 6 (message (ring_of 1 1) 6 1 (call 1 1))) ∷ (5, SendOut 1 (token (ring_of 1 1) 50 6 5 (Some 3) [])) ∷
    (1, SendOut 2 (token (ring_of 1 1) 51 6 5 (Some 3) [])) ∷ (2, SendOut 4 (token (ring_of 1 1) 52 6 5 (Some 3) [])) ∷
    (3, SendOut 8 (token (ring_of 1 1) 53 6 6 None [])) ∷ (4, SendOut 16 (token (ring_of 1 1) 54 6 6 None [])) ∷
    (5, SendOut 15 (MessageFrame (message (ring_of 1 1) 7 5 (pack (call_of 2 1 ∷ call_of 6 1 ∷ []))))) ∷
    (5, SendOut 1 (token (ring_of 1 1) 55 7 7 None [])) ∷
    (5, Agreed (ring_of 1 1) 7 (message (ring_of 1 1) 7 5 (pack (call_of 2 1 ∷ call_of 6 1 ∷ [])))) ∷
    (1, Agreed (ring_of 1 1) 7 (message (ring_of 1 1) 7 5 (pack (call_of 2 1 ∷ call_of 6 1 ∷ [])))) ∷
    (1, SendOut 2 (token (ring_of 1 1) 56 7 7 None [])) ∷ (2, SendOut 29 (MessageFrame (message (ring_of 1 1) 8 2 (long_call 5 1)))) ∷
    (2, SendOut 4 (token (ring_of 1 1) 57 8 6 (Some 2) (7 ∷ []))) ∷ (5, Agreed (ring_of 1 1) 8 (message (ring_of 1 1) 8 2 (long_call 5 1))) ∷
    (3, SendOut 27 (MessageFrame (message (ring_of 1 1) 9 3 (pack (call_of 3 1 ∷ call_of 4 1 ∷ []))))) ∷
    (3, SendOut 8 (token (ring_of 1 1) 58 9 6 (Some 2) (7 ∷ []))) ∷ (3, Safe (ring_of 1 1) 6) ∷
    (4, SendOut 16 (token (ring_of 1 1) 59 9 6 (Some 2) (7 ∷ []))) ∷ (4, Safe (ring_of 1 1) 6) ∷
    (5, SendOut 15 (MessageFrame (message (ring_of 1 1) 7 5 (pack (call_of 2 1 ∷ call_of 6 1 ∷ []))))) ∷
    (5, SendOut 1 (token (ring_of 1 1) 60 9 6 (Some 2) (9 ∷ []))) ∷ (5, Safe (ring_of 1 1) 6) ∷
    (2, Agreed (ring_of 1 1) 7 (message (ring_of 1 1) 7 5 (pack (call_of 2 1 ∷ call_of 6 1 ∷ [])))) ∷
    (2, Agreed (ring_of 1 1) 8 (message (ring_of 1 1) 8 2 (long_call 5 1))) ∷
    (2, Agreed (ring_of 1 1) 9 (message (ring_of 1 1) 9 3 (pack (call_of 3 1 ∷ call_of 4 1 ∷ [])))) ∷
    (3, Agreed (ring_of 1 1) 7 (message (ring_of 1 1) 7 5 (pack (call_of 2 1 ∷ call_of 6 1 ∷ [])))) ∷
    (3, Agreed (ring_of 1 1) 8 (message (ring_of 1 1) 8 2 (long_call 5 1))) ∷
    (3, Agreed (ring_of 1 1) 9 (message (ring_of 1 1) 9 3 (pack (call_of 3 1 ∷ call_of 4 1 ∷ [])))) ∷
    (4, Agreed (ring_of 1 1) 7 (message (ring_of 1 1) 7 5 (pack (call_of 2 1 ∷ call_of 6 1 ∷ [])))) ∷
    (4, Agreed (ring_of 1 1) 8 (message (ring_of 1 1) 8 2 (long_call 5 1))) ∷
    (4, Agreed (ring_of 1 1) 9 (message (ring_of 1 1) 9 3 (pack (call_of 3 1 ∷ call_of 4 1 ∷ [])))) ∷
    (1, SendOut 30 (MessageFrame (message (ring_of 1 1) 10 1 (head_after (ring_of 2 1) 5 2)))) ∷
    (1, SendOut 2 (token (ring_of 1 1) 61 10 6 (Some 2) (8 ∷ 9 ∷ []))) ∷ (1, Safe (ring_of 1 1) 6) ∷
    (2, Agreed (ring_of 1 1) 10 (message (ring_of 1 1) 10 1 (head_after (ring_of 2 1) 5 2))) ∷
    (3, Agreed (ring_of 1 1) 10 (message (ring_of 1 1) 10 1 (head_after (ring_of 2 1) 5 2))) ∷
    (4, Agreed (ring_of 1 1) 10 (message (ring_of 1 1) 10 1 (head_after (ring_of 2 1) 5 2))) ∷
    (2, SendOut 29 (MessageFrame (message (ring_of 1 1) 8 2 (long_call 5 1)))) ∷
    (2, SendOut 29 (MessageFrame (message (ring_of 1 1) 9 3 (pack (call_of 3 1 ∷ call_of 4 1 ∷ []))))) ∷
    (2, SendOut 4 (token (ring_of 1 1) 62 10 10 None [])) ∷ (2, Safe (ring_of 1 1) 6) ∷
    (1, Agreed (ring_of 1 1) 8 (message (ring_of 1 1) 8 2 (long_call 5 1))) ∷
    (1, Agreed (ring_of 1 1) 9 (message (ring_of 1 1) 9 3 (pack (call_of 3 1 ∷ call_of 4 1 ∷ [])))) ∷
    (1, Agreed (ring_of 1 1) 10 (message (ring_of 1 1) 10 1 (head_after (ring_of 2 1) 5 2))) ∷
    (5, Agreed (ring_of 1 1) 9 (message (ring_of 1 1) 9 3 (pack (call_of 3 1 ∷ call_of 4 1 ∷ [])))) ∷
    (5, Agreed (ring_of 1 1) 10 (message (ring_of 1 1) 10 1 (head_after (ring_of 2 1) 5 2))) ∷
    (3, SendOut 27 (MessageFrame (message (ring_of 1 1) 11 3 (call 8 1)))) ∷ (3, SendOut 27 (MessageFrame (message (ring_of 1 1) 12 3 head))) ∷
    (3, SendOut 27 (MessageFrame (message (ring_of 1 1) 13 3 (pack (call_of 10 1 ∷ call_of 11 1 ∷ long_call_of 12 1 ∷ call_of 14 1 ∷ []))))) ∷
    (3, SendOut 27 (MessageFrame (message (ring_of 1 1) 14 3 head))) ∷
    (3, SendOut 27 (MessageFrame (message (ring_of 1 1) 15 3 (pack (call_of 16 1 ∷ call_of 17 1 ∷ []))))) ∷
    (3, SendOut 27 (MessageFrame (message (ring_of 1 1) 16 3 (part 0 (call_of 18 1 ∷ []))))) ∷
    (3, SendOut 27 (MessageFrame (message (ring_of 1 1) 17 3 (pack (call_of 19 1 ∷ call_of 20 1 ∷ call_of 21 1 ∷ call_of 22 1 ∷ []))))) ∷
    (3, SendOut 27 (MessageFrame (message (ring_of 1 1) 18 3 (part 0 (call_of 23 1 ∷ []))))) ∷ (3, SendOut 8 (token (ring_of 1 1) 63 18 18 None [])) ∷
    (3, Agreed (ring_of 1 1) 11 (message (ring_of 1 1) 11 3 (call 8 1))) ∷ (3, Agreed (ring_of 1 1) 12 (message (ring_of 1 1) 12 3 head)) ∷
    (3, Agreed (ring_of 1 1) 13 (message (ring_of 1 1) 13 3 (pack (call_of 10 1 ∷ call_of 11 1 ∷ long_call_of 12 1 ∷ call_of 14 1 ∷ [])))) ∷
    (3, Agreed (ring_of 1 1) 14 (message (ring_of 1 1) 14 3 head)) ∷
    (3, Agreed (ring_of 1 1) 15 (message (ring_of 1 1) 15 3 (pack (call_of 16 1 ∷ call_of 17 1 ∷ [])))) ∷
    (3, Agreed (ring_of 1 1) 16 (message (ring_of 1 1) 16 3 (part 0 (call_of 18 1 ∷ [])))) ∷
    (3, Agreed (ring_of 1 1) 17 (message (ring_of 1 1) 17 3 (pack (call_of 19 1 ∷ call_of 20 1 ∷ call_of 21 1 ∷ call_of 22 1 ∷ [])))) ∷
    (3, Agreed (ring_of 1 1) 18 (message (ring_of 1 1) 18 3 (part 0 (call_of 23 1 ∷ [])))) ∷
    (1, Agreed (ring_of 1 1) 11 (message (ring_of 1 1) 11 3 (call 8 1))) ∷ (4, Agreed (ring_of 1 1) 11 (message (ring_of 1 1) 11 3 (call 8 1))) ∷ []

-- The world to which the schedule leads.
abbrev pub world : World Global
world = run (unformed 5) events
