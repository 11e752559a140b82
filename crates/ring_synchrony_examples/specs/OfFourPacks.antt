-- A random schedule of four processors: Packs are wrapped, what an outsider sent past a gap is discarded, and one
-- processor stops.
-- The outputs are those of an independent implementation of the protocol.
use Rattle.std.specs.Prelude.{ℕ, List, [], ◌∷◌, Some, None}
use Rattle.std.specs.declared.alloc.Global.{Global}
use Rattle.ring_payload.specs.declared.content.Payload.TheVariants.{End}
use Rattle.ring_wire.specs.declared.frame.Frame.TheVariants.{Message as MessageFrame}
use Rattle.ring_base.specs.declared.timeout_kind.Kind.TheVariants.{Join as JoinTime, Consensus, Loss}
use Rattle.ring_core_spec.specs.declared.out.Out.{Out}
use Rattle.ring_core_spec.specs.declared.out.Out.TheVariants.{Send as SendOut, Agreed, Safe, Trans, Rest, Regular}
use Rattle.ring_core_proof.specs.declared.event.RingEvent.{RingEvent}
use Rattle.ring_core_proof.specs.declared.event.RingEvent.TheVariants.{Send as SendEvent, Deliver, Timeout as TimeEvent, Stop}
use Rattle.ring_core_proof.specs.Worlds.{World, run, unformed}
use Rattle.ring_core_proof.specs.Samples.{ring_of}
use Rattle.ring_synchrony_examples.specs.Words.{call_of, long_call_of, call, long_call, call_content, head, head_after}
use Rattle.ring_synchrony_examples.specs.Words.{head_content_after, pack, pack_content, wrapped, message, token, join, report}
use Rattle.ring_synchrony_examples.specs.Words.{commit}

-- The events, in order.
abbrev pub events : List (RingEvent Global)
events =
    TimeEvent 1 JoinTime ∷ TimeEvent 2 JoinTime ∷ TimeEvent 3 JoinTime ∷ TimeEvent 4 JoinTime ∷ Deliver 2 1 ∷ Deliver 3 1 ∷ Deliver 4 1 ∷
    Deliver 1 2 ∷ Deliver 3 2 ∷ Deliver 4 2 ∷ Deliver 1 3 ∷ Deliver 2 3 ∷ Deliver 4 3 ∷ Deliver 1 4 ∷ Deliver 2 4 ∷ Deliver 3 4 ∷ Deliver 2 5 ∷
    Deliver 3 6 ∷ Deliver 4 7 ∷ Deliver 1 8 ∷ Deliver 2 9 ∷ Deliver 3 10 ∷ Deliver 4 11 ∷ Deliver 1 12 ∷ Deliver 2 13 ∷ Deliver 3 13 ∷ Deliver 4 13 ∷
    Deliver 2 14 ∷ Deliver 1 15 ∷ Deliver 3 15 ∷ Deliver 4 15 ∷ Deliver 3 16 ∷ Deliver 1 17 ∷ Deliver 2 17 ∷ Deliver 4 17 ∷ Deliver 4 18 ∷
    Deliver 1 19 ∷ Deliver 2 19 ∷ Deliver 3 19 ∷ Deliver 1 20 ∷ Deliver 2 21 ∷ Deliver 3 22 ∷ Deliver 4 23 ∷ Deliver 1 24 ∷ Deliver 2 25 ∷
    Deliver 3 26 ∷ Deliver 4 27 ∷ Deliver 1 28 ∷ Deliver 2 29 ∷ Deliver 3 30 ∷ Deliver 4 31 ∷ Deliver 1 32 ∷ Deliver 2 33 ∷ Deliver 3 34 ∷
    Deliver 4 35 ∷ Deliver 1 36 ∷ Deliver 2 37 ∷ Deliver 3 38 ∷ Deliver 4 39 ∷ Deliver 1 40 ∷ Deliver 2 41 ∷ Deliver 3 42 ∷ Deliver 4 43 ∷
    Deliver 1 44 ∷ Deliver 2 45 ∷ Deliver 3 46 ∷ Deliver 4 47 ∷ Deliver 1 48 ∷ Deliver 2 49 ∷ Deliver 3 50 ∷ Deliver 4 51 ∷ SendEvent 2 (call 1 1) ∷
    SendEvent 2 (call 2 1) ∷ SendEvent 4 (call 3 1) ∷ SendEvent 4 (call 4 1) ∷ Deliver 1 52 ∷ Deliver 2 53 ∷ Deliver 3 54 ∷ Deliver 3 55 ∷
    Deliver 4 56 ∷ Deliver 1 58 ∷ Deliver 2 59 ∷ Deliver 3 61 ∷ Deliver 4 62 ∷ Deliver 1 64 ∷ Deliver 2 65 ∷ Deliver 3 67 ∷ Deliver 4 68 ∷
    Deliver 1 69 ∷ Deliver 1 70 ∷ Deliver 2 71 ∷ SendEvent 3 (call 5 1) ∷ SendEvent 2 (call 6 1) ∷ SendEvent 4 head ∷
    SendEvent 4 (head_after (ring_of 2 1) 5 2) ∷ SendEvent 4 (long_call 9 1) ∷ Deliver 3 73 ∷ Stop 2 ∷ Deliver 1 74 ∷ Deliver 2 74 ∷ Deliver 4 75 ∷
    Deliver 2 78 ∷ Deliver 3 78 ∷ Deliver 1 80 ∷ TimeEvent 1 Consensus ∷ TimeEvent 2 JoinTime ∷ TimeEvent 3 JoinTime ∷ Deliver 3 81 ∷ Deliver 4 81 ∷
    Deliver 2 82 ∷ TimeEvent 2 Loss ∷ TimeEvent 3 Consensus ∷ TimeEvent 4 Consensus ∷ TimeEvent 1 Loss ∷ SendEvent 3 (call 10 1) ∷
    SendEvent 3 (call 11 1) ∷ SendEvent 3 (call 12 1) ∷ SendEvent 3 (call 13 1) ∷ SendEvent 3 (call 14 1) ∷ SendEvent 3 (long_call 15 1) ∷
    SendEvent 3 (head_after (ring_of 3 1) 5 2) ∷ SendEvent 3 (call 17 1) ∷ SendEvent 3 (head_after (ring_of 3 1) 5 2) ∷ SendEvent 3 (call 19 1) ∷
    SendEvent 3 (call 20 1) ∷ SendEvent 3 head ∷ SendEvent 3 (call 22 1) ∷ SendEvent 3 (call 23 1) ∷ SendEvent 3 (call 24 1) ∷
    SendEvent 3 (call 25 1) ∷ SendEvent 3 End ∷ SendEvent 3 (call 27 1) ∷ SendEvent 3 (call 28 1) ∷ Deliver 2 83 ∷ Deliver 3 83 ∷ Deliver 1 84 ∷
    Deliver 2 84 ∷ TimeEvent 2 JoinTime ∷ TimeEvent 1 Consensus ∷ Deliver 2 85 ∷ Deliver 3 85 ∷ Deliver 1 86 ∷ SendEvent 3 End ∷
    SendEvent 3 (call 30 1) ∷ Deliver 2 86 ∷ Deliver 3 87 ∷ Deliver 1 88 ∷ Deliver 3 89 ∷ Deliver 1 90 ∷ Deliver 3 92 ∷ Deliver 3 94 ∷
    TimeEvent 3 Consensus ∷ TimeEvent 3 JoinTime ∷ Deliver 1 98 ∷ Deliver 3 101 ∷ Deliver 1 102 ∷ Deliver 1 102 ∷ Deliver 1 103 ∷ Deliver 1 104 ∷
    Deliver 1 105 ∷ Deliver 3 106 ∷ Deliver 3 108 ∷ Deliver 1 109 ∷ Deliver 3 111 ∷ Deliver 1 112 ∷ Deliver 3 114 ∷ Deliver 1 115 ∷ Deliver 3 117 ∷
    Deliver 1 118 ∷ Deliver 3 119 ∷ Deliver 3 120 ∷ Deliver 1 121 ∷ Deliver 3 122 ∷ SendEvent 2 head ∷ Deliver 1 123 ∷ Deliver 3 124 ∷ Deliver 1 125 ∷
    Deliver 3 126 ∷ Deliver 1 127 ∷ Deliver 1 69 ∷ Deliver 3 128 ∷ Deliver 1 129 ∷ Deliver 3 130 ∷ Deliver 1 131 ∷ Deliver 3 132 ∷ Deliver 1 133 ∷
    SendEvent 3 (call 32 1) ∷ SendEvent 2 (call 33 1) ∷ Deliver 3 134 ∷ Deliver 1 136 ∷ []

-- The outputs in order, each with its processor.
abbrev pub outs : List (ℕ × Out Global)
outs =
    (1, SendOut 14 (join 1 0 15 0)) ∷ (2, SendOut 13 (join 2 0 15 0)) ∷ (3, SendOut 11 (join 3 0 15 0)) ∷ (4, SendOut 7 (join 4 0 15 0)) ∷
    (1, SendOut 2 (commit (ring_of 1 1) 15 1 (report (ring_of 0 1) 0 0 0 ∷ []))) ∷
    (2, SendOut 4 (commit (ring_of 1 1) 15 2 (report (ring_of 0 1) 0 0 0 ∷ report (ring_of 0 2) 0 0 0 ∷ []))) ∷
    (3, SendOut 8 (commit (ring_of 1 1) 15 3 (report (ring_of 0 1) 0 0 0 ∷ report (ring_of 0 2) 0 0 0 ∷ report (ring_of 0 3) 0 0 0 ∷ []))) ∷ (
      4,
      SendOut 1 (commit (ring_of 1 1) 15 4 (report (ring_of 0 1) 0 0 0 ∷ report (ring_of 0 2) 0 0 0 ∷ report (ring_of 0 3) 0 0 0 ∷
          report (ring_of 0 4) 0 0 0 ∷ [])),
    ) ∷ (
      1,
      SendOut 2 (commit (ring_of 1 1) 15 5 (report (ring_of 0 1) 0 0 0 ∷ report (ring_of 0 2) 0 0 0 ∷ report (ring_of 0 3) 0 0 0 ∷
          report (ring_of 0 4) 0 0 0 ∷ [])),
    ) ∷ (
      2,
      SendOut 4 (commit (ring_of 1 1) 15 6 (report (ring_of 0 1) 0 0 0 ∷ report (ring_of 0 2) 0 0 0 ∷ report (ring_of 0 3) 0 0 0 ∷
          report (ring_of 0 4) 0 0 0 ∷ [])),
    ) ∷ (
      3,
      SendOut 8 (commit (ring_of 1 1) 15 7 (report (ring_of 0 1) 0 0 0 ∷ report (ring_of 0 2) 0 0 0 ∷ report (ring_of 0 3) 0 0 0 ∷
          report (ring_of 0 4) 0 0 0 ∷ [])),
    ) ∷ (
      4,
      SendOut 1 (commit (ring_of 1 1) 15 8 (report (ring_of 0 1) 0 0 0 ∷ report (ring_of 0 2) 0 0 0 ∷ report (ring_of 0 3) 0 0 0 ∷
          report (ring_of 0 4) 0 0 0 ∷ [])),
    ) ∷
    (1, SendOut 14 (MessageFrame (message (ring_of 1 1) 1 1 End))) ∷ (1, SendOut 2 (token (ring_of 1 1) 1 1 1 None [])) ∷
    (2, SendOut 13 (MessageFrame (message (ring_of 1 1) 2 2 End))) ∷ (2, SendOut 4 (token (ring_of 1 1) 2 2 2 None [])) ∷
    (3, SendOut 11 (MessageFrame (message (ring_of 1 1) 3 3 End))) ∷ (3, SendOut 8 (token (ring_of 1 1) 3 3 3 None [])) ∷
    (4, SendOut 7 (MessageFrame (message (ring_of 1 1) 4 4 End))) ∷ (4, SendOut 1 (token (ring_of 1 1) 4 4 4 None [])) ∷
    (1, SendOut 2 (token (ring_of 1 1) 5 4 4 None [])) ∷ (2, SendOut 4 (token (ring_of 1 1) 6 4 4 None [])) ∷
    (3, SendOut 8 (token (ring_of 1 1) 7 4 4 None [])) ∷ (4, SendOut 1 (token (ring_of 1 1) 8 4 4 None [])) ∷
    (4, Trans (ring_of 0 4) (ring_of 1 1) 8) ∷ (4, Regular (ring_of 1 1) 15) ∷ (4, Safe (ring_of 1 1) 4) ∷
    (1, SendOut 2 (token (ring_of 1 1) 9 4 4 None [])) ∷ (1, Trans (ring_of 0 1) (ring_of 1 1) 1) ∷ (1, Regular (ring_of 1 1) 15) ∷
    (1, Safe (ring_of 1 1) 4) ∷ (2, SendOut 4 (token (ring_of 1 1) 10 4 4 None [])) ∷ (2, Trans (ring_of 0 2) (ring_of 1 1) 2) ∷
    (2, Regular (ring_of 1 1) 15) ∷ (2, Safe (ring_of 1 1) 4) ∷ (3, SendOut 8 (token (ring_of 1 1) 11 4 4 None [])) ∷
    (3, Trans (ring_of 0 3) (ring_of 1 1) 4) ∷ (3, Regular (ring_of 1 1) 15) ∷ (3, Safe (ring_of 1 1) 4) ∷
    (4, SendOut 1 (token (ring_of 1 1) 12 4 4 None [])) ∷ (1, SendOut 2 (token (ring_of 1 1) 13 4 4 None [])) ∷
    (2, SendOut 4 (token (ring_of 1 1) 14 4 4 None [])) ∷ (3, SendOut 8 (token (ring_of 1 1) 15 4 4 None [])) ∷
    (4, SendOut 1 (token (ring_of 1 1) 16 4 4 None [])) ∷ (1, SendOut 2 (token (ring_of 1 1) 17 4 4 None [])) ∷
    (2, SendOut 4 (token (ring_of 1 1) 18 4 4 None [])) ∷ (3, SendOut 8 (token (ring_of 1 1) 19 4 4 None [])) ∷
    (4, SendOut 1 (token (ring_of 1 1) 20 4 4 None [])) ∷ (1, SendOut 2 (token (ring_of 1 1) 21 4 4 None [])) ∷
    (2, SendOut 4 (token (ring_of 1 1) 22 4 4 None [])) ∷ (3, SendOut 8 (token (ring_of 1 1) 23 4 4 None [])) ∷
    (4, SendOut 1 (token (ring_of 1 1) 24 4 4 None [])) ∷ (1, SendOut 2 (token (ring_of 1 1) 25 4 4 None [])) ∷
    (2, SendOut 4 (token (ring_of 1 1) 26 4 4 None [])) ∷ (3, SendOut 8 (token (ring_of 1 1) 27 4 4 None [])) ∷
    (4, SendOut 1 (token (ring_of 1 1) 28 4 4 None [])) ∷ (1, SendOut 2 (token (ring_of 1 1) 29 4 4 None [])) ∷
    (2, SendOut 4 (token (ring_of 1 1) 30 4 4 None [])) ∷ (3, SendOut 8 (token (ring_of 1 1) 31 4 4 None [])) ∷
    (4, SendOut 1 (token (ring_of 1 1) 32 4 4 None [])) ∷ (1, SendOut 2 (token (ring_of 1 1) 33 4 4 None [])) ∷
    (2, SendOut 4 (token (ring_of 1 1) 34 4 4 None [])) ∷ (3, SendOut 8 (token (ring_of 1 1) 35 4 4 None [])) ∷
    (4, SendOut 1 (token (ring_of 1 1) 36 4 4 None [])) ∷ (1, SendOut 2 (token (ring_of 1 1) 37 4 4 None [])) ∷
    (2, SendOut 13 (MessageFrame (message (ring_of 1 1) 5 2 (pack (call_of 1 1 ∷ call_of 2 1 ∷ []))))) ∷
    (2, SendOut 4 (token (ring_of 1 1) 38 5 5 None [])) ∷
    (2, Agreed (ring_of 1 1) 5 (message (ring_of 1 1) 5 2 (pack (call_of 1 1 ∷ call_of 2 1 ∷ [])))) ∷
    (3, Agreed (ring_of 1 1) 5 (message (ring_of 1 1) 5 2 (pack (call_of 1 1 ∷ call_of 2 1 ∷ [])))) ∷
    (3, SendOut 8 (token (ring_of 1 1) 39 5 5 None [])) ∷
    (4, SendOut 7 (MessageFrame (message (ring_of 1 1) 6 4 (pack (call_of 3 1 ∷ call_of 4 1 ∷ []))))) ∷
    (4, SendOut 1 (token (ring_of 1 1) 40 6 4 (Some 4) (5 ∷ []))) ∷ (1, SendOut 2 (token (ring_of 1 1) 41 6 4 (Some 4) (5 ∷ 6 ∷ []))) ∷
    (2, SendOut 13 (MessageFrame (message (ring_of 1 1) 5 2 (pack (call_of 1 1 ∷ call_of 2 1 ∷ []))))) ∷
    (2, SendOut 4 (token (ring_of 1 1) 42 6 4 (Some 4) (6 ∷ []))) ∷ (3, SendOut 8 (token (ring_of 1 1) 43 6 4 (Some 4) (6 ∷ []))) ∷
    (4, SendOut 7 (MessageFrame (message (ring_of 1 1) 6 4 (pack (call_of 3 1 ∷ call_of 4 1 ∷ []))))) ∷
    (4, SendOut 1 (token (ring_of 1 1) 44 6 4 (Some 4) (5 ∷ []))) ∷ (1, SendOut 2 (token (ring_of 1 1) 45 6 4 (Some 4) (5 ∷ 6 ∷ []))) ∷
    (2, SendOut 13 (MessageFrame (message (ring_of 1 1) 5 2 (pack (call_of 1 1 ∷ call_of 2 1 ∷ []))))) ∷
    (2, SendOut 4 (token (ring_of 1 1) 46 6 4 (Some 4) (6 ∷ []))) ∷ (3, SendOut 8 (token (ring_of 1 1) 47 6 4 (Some 4) (6 ∷ []))) ∷
    (4, SendOut 7 (MessageFrame (message (ring_of 1 1) 6 4 (pack (call_of 3 1 ∷ call_of 4 1 ∷ []))))) ∷
    (4, SendOut 1 (token (ring_of 1 1) 48 6 4 (Some 4) (5 ∷ []))) ∷ (1, SendOut 2 (token (ring_of 1 1) 49 6 4 (Some 4) (5 ∷ []))) ∷
    (2, SendOut 13 (MessageFrame (message (ring_of 1 1) 5 2 (pack (call_of 1 1 ∷ call_of 2 1 ∷ []))))) ∷
    (2, SendOut 4 (token (ring_of 1 1) 50 6 4 (Some 4) (6 ∷ []))) ∷ (3, SendOut 11 (MessageFrame (message (ring_of 1 1) 7 3 (call 5 1)))) ∷
    (3, SendOut 8 (token (ring_of 1 1) 51 7 4 (Some 4) (6 ∷ []))) ∷
    (4, SendOut 7 (MessageFrame (message (ring_of 1 1) 6 4 (pack (call_of 3 1 ∷ call_of 4 1 ∷ []))))) ∷
    (4, SendOut 7 (MessageFrame (message (ring_of 1 1) 8 4 head))) ∷
    (4, SendOut 7 (MessageFrame (message (ring_of 1 1) 9 4 (head_after (ring_of 2 1) 5 2)))) ∷
    (4, SendOut 7 (MessageFrame (message (ring_of 1 1) 10 4 (long_call 9 1)))) ∷ (4, SendOut 1 (token (ring_of 1 1) 52 10 4 (Some 4) (5 ∷ 7 ∷ []))) ∷
    (1, SendOut 14 (MessageFrame (message (ring_of 1 1) 7 3 (call 5 1)))) ∷
    (1, SendOut 2 (token (ring_of 1 1) 53 10 4 (Some 4) (5 ∷ 8 ∷ 9 ∷ 10 ∷ []))) ∷ (1, SendOut 14 (join 1 1 15 0)) ∷ (3, SendOut 11 (join 3 1 15 0)) ∷
    (1, SendOut 14 (join 1 1 15 10)) ∷ (3, SendOut 11 (join 3 1 15 10)) ∷
    (1, SendOut 4 (commit (ring_of 2 1) 5 1 (report (ring_of 1 1) 4 4 6 ∷ []))) ∷
    (3, SendOut 1 (commit (ring_of 2 1) 5 2 (report (ring_of 1 1) 4 4 6 ∷ report (ring_of 1 1) 5 4 10 ∷ []))) ∷
    (1, SendOut 4 (commit (ring_of 2 1) 5 3 (report (ring_of 1 1) 4 4 6 ∷ report (ring_of 1 1) 5 4 10 ∷ []))) ∷
    (3, SendOut 1 (commit (ring_of 2 1) 5 4 (report (ring_of 1 1) 4 4 6 ∷ report (ring_of 1 1) 5 4 10 ∷ []))) ∷
    (1, SendOut 4 (MessageFrame (message (ring_of 2 1) 1 1 (wrapped (ring_of 1 1) 6 4 (pack_content (call_of 3 1 ∷ call_of 4 1 ∷ [])))))) ∷
    (1, SendOut 4 (MessageFrame (message (ring_of 2 1) 2 1 (wrapped (ring_of 1 1) 7 3 (call_content 5 1))))) ∷
    (1, SendOut 4 (MessageFrame (message (ring_of 2 1) 3 1 End))) ∷ (1, SendOut 4 (token (ring_of 2 1) 1 3 3 None [])) ∷
    (3, SendOut 1 (MessageFrame (message (ring_of 2 1) 4 3 (wrapped (ring_of 1 1) 5 2 (pack_content (call_of 1 1 ∷ call_of 2 1 ∷ [])))))) ∷
    (3, SendOut 1 (MessageFrame (message (ring_of 2 1) 5 3 (wrapped (ring_of 1 1) 9 4 (head_content_after (ring_of 2 1) 5 2))))) ∷
    (3, SendOut 1 (MessageFrame (message (ring_of 2 1) 6 3 End))) ∷ (3, SendOut 1 (token (ring_of 2 1) 2 6 0 (Some 3) (1 ∷ 3 ∷ []))) ∷
    (1, SendOut 4 (MessageFrame (message (ring_of 2 1) 1 1 (wrapped (ring_of 1 1) 6 4 (pack_content (call_of 3 1 ∷ call_of 4 1 ∷ [])))))) ∷
    (1, SendOut 4 (MessageFrame (message (ring_of 2 1) 3 1 End))) ∷ (1, SendOut 4 (token (ring_of 2 1) 3 6 0 (Some 3) (4 ∷ 5 ∷ 6 ∷ []))) ∷
    (3, SendOut 1 (MessageFrame (message (ring_of 2 1) 4 3 (wrapped (ring_of 1 1) 5 2 (pack_content (call_of 1 1 ∷ call_of 2 1 ∷ [])))))) ∷
    (3, SendOut 1 (MessageFrame (message (ring_of 2 1) 5 3 (wrapped (ring_of 1 1) 9 4 (head_content_after (ring_of 2 1) 5 2))))) ∷
    (3, SendOut 1 (MessageFrame (message (ring_of 2 1) 6 3 End))) ∷ (3, SendOut 1 (token (ring_of 2 1) 4 6 0 (Some 3) (1 ∷ 3 ∷ []))) ∷
    (1, Agreed (ring_of 1 1) 5 (message (ring_of 1 1) 5 2 (pack (call_of 1 1 ∷ call_of 2 1 ∷ [])))) ∷
    (1, Agreed (ring_of 1 1) 6 (message (ring_of 1 1) 6 4 (pack (call_of 3 1 ∷ call_of 4 1 ∷ [])))) ∷
    (1, Agreed (ring_of 1 1) 7 (message (ring_of 1 1) 7 3 (call 5 1))) ∷
    (1, SendOut 4 (MessageFrame (message (ring_of 2 1) 1 1 (wrapped (ring_of 1 1) 6 4 (pack_content (call_of 3 1 ∷ call_of 4 1 ∷ [])))))) ∷
    (1, SendOut 4 (MessageFrame (message (ring_of 2 1) 3 1 End))) ∷ (1, SendOut 4 (token (ring_of 2 1) 5 6 0 (Some 3) [])) ∷
    (3, Agreed (ring_of 1 1) 6 (message (ring_of 1 1) 6 4 (pack (call_of 3 1 ∷ call_of 4 1 ∷ [])))) ∷
    (3, Agreed (ring_of 1 1) 7 (message (ring_of 1 1) 7 3 (call 5 1))) ∷ (3, SendOut 1 (token (ring_of 2 1) 6 6 2 (Some 3) (3 ∷ []))) ∷
    (1, SendOut 4 (MessageFrame (message (ring_of 2 1) 3 1 End))) ∷ (1, SendOut 4 (token (ring_of 2 1) 7 6 2 (Some 3) [])) ∷
    (3, SendOut 1 (token (ring_of 2 1) 8 6 2 (Some 3) (3 ∷ []))) ∷ (1, SendOut 4 (MessageFrame (message (ring_of 2 1) 3 1 End))) ∷
    (1, SendOut 4 (token (ring_of 2 1) 9 6 2 (Some 3) [])) ∷ (3, SendOut 1 (token (ring_of 2 1) 10 6 2 (Some 3) (3 ∷ []))) ∷
    (1, SendOut 4 (MessageFrame (message (ring_of 2 1) 3 1 End))) ∷ (1, SendOut 4 (token (ring_of 2 1) 11 6 2 (Some 3) [])) ∷
    (3, SendOut 1 (token (ring_of 2 1) 12 6 2 (Some 3) (3 ∷ []))) ∷ (1, SendOut 4 (MessageFrame (message (ring_of 2 1) 3 1 End))) ∷
    (1, SendOut 4 (token (ring_of 2 1) 13 6 2 (Some 3) [])) ∷ (3, SendOut 1 (token (ring_of 2 1) 14 6 6 None [])) ∷
    (1, SendOut 4 (token (ring_of 2 1) 15 6 6 None [])) ∷ (3, SendOut 1 (token (ring_of 2 1) 16 6 6 None [])) ∷
    (3, Trans (ring_of 1 1) (ring_of 2 1) 5) ∷ (3, Rest (ring_of 1 1) 5 (message (ring_of 1 1) 5 2 (pack (call_of 1 1 ∷ call_of 2 1 ∷ [])))) ∷
    (3, Rest (ring_of 1 1) 6 (message (ring_of 1 1) 6 4 (pack (call_of 3 1 ∷ call_of 4 1 ∷ [])))) ∷
    (3, Rest (ring_of 1 1) 7 (message (ring_of 1 1) 7 3 (call 5 1))) ∷ (3, Regular (ring_of 2 1) 5) ∷ (3, Safe (ring_of 2 1) 6) ∷
    (1, SendOut 4 (token (ring_of 2 1) 17 6 6 None [])) ∷ (1, Trans (ring_of 1 1) (ring_of 2 1) 5) ∷
    (1, Rest (ring_of 1 1) 5 (message (ring_of 1 1) 5 2 (pack (call_of 1 1 ∷ call_of 2 1 ∷ [])))) ∷
    (1, Rest (ring_of 1 1) 6 (message (ring_of 1 1) 6 4 (pack (call_of 3 1 ∷ call_of 4 1 ∷ [])))) ∷
    (1, Rest (ring_of 1 1) 7 (message (ring_of 1 1) 7 3 (call 5 1))) ∷ (1, Regular (ring_of 2 1) 5) ∷ (1, Safe (ring_of 2 1) 6) ∷
    (3, SendOut 1 (token (ring_of 2 1) 18 6 6 None [])) ∷ (1, SendOut 4 (token (ring_of 2 1) 19 6 6 None [])) ∷
    (3, SendOut 1 (token (ring_of 2 1) 20 6 6 None [])) ∷ (1, SendOut 4 (token (ring_of 2 1) 21 6 6 None [])) ∷
    (3, SendOut 1 (token (ring_of 2 1) 22 6 6 None [])) ∷ (1, SendOut 4 (token (ring_of 2 1) 23 6 6 None [])) ∷
    (3, SendOut 1 (token (ring_of 2 1) 24 6 6 None [])) ∷ (1, SendOut 4 (token (ring_of 2 1) 25 6 6 None [])) ∷
    (3, SendOut 1 (token (ring_of 2 1) 26 6 6 None [])) ∷ (1, SendOut 4 (token (ring_of 2 1) 27 6 6 None [])) ∷
    (3, SendOut 1 (MessageFrame (message (ring_of 2 1) 7 3 (call 32 1)))) ∷ (3, SendOut 1 (token (ring_of 2 1) 28 7 7 None [])) ∷
    (3, Agreed (ring_of 2 1) 7 (message (ring_of 2 1) 7 3 (call 32 1))) ∷ (1, SendOut 4 (token (ring_of 2 1) 29 7 6 (Some 1) (7 ∷ []))) ∷ []

-- The world to which the schedule leads.
abbrev pub world : World Global
world = run (unformed 4) events
