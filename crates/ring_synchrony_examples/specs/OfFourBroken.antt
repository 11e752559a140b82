-- A random schedule of four processors: recoveries break off after a Pack was wrapped.
-- The outputs are those of an independent implementation of the protocol.
use Rattle.std.specs.Prelude.{ℕ, List, [], ◌∷◌, Some, None}
use Rattle.std.specs.declared.alloc.Global.{Global}
use Rattle.ring_payload.specs.declared.content.Payload.TheVariants.{End}
use Rattle.ring_wire.specs.declared.frame.Frame.TheVariants.{Message as MessageFrame}
use Rattle.ring_base.specs.declared.timeout_kind.Kind.TheVariants.{Join as JoinTime, Consensus, Loss}
use Rattle.ring_core_spec.specs.declared.out.Out.{Out}
use Rattle.ring_core_spec.specs.declared.out.Out.TheVariants.{Send as SendOut, Agreed, Safe, Trans, Regular}
use Rattle.ring_core_proof.specs.declared.event.RingEvent.{RingEvent}
use Rattle.ring_core_proof.specs.declared.event.RingEvent.TheVariants.{Send as SendEvent, Deliver, Timeout as TimeEvent}
use Rattle.ring_core_proof.specs.Worlds.{World, run, unformed}
use Rattle.ring_core_proof.specs.Samples.{ring_of}
use Rattle.ring_synchrony_examples.specs.Words.{call_of, long_call_of, call, long_call, call_content, head, head_after, pack}
use Rattle.ring_synchrony_examples.specs.Words.{pack_content, wrapped, message, token, join, report, commit}

-- The events, in order.
abbrev pub events : List (RingEvent Global)
events =
    TimeEvent 1 JoinTime ∷ TimeEvent 2 JoinTime ∷ TimeEvent 3 JoinTime ∷ TimeEvent 4 JoinTime ∷ Deliver 2 1 ∷ Deliver 3 1 ∷ Deliver 4 1 ∷
    Deliver 1 2 ∷ Deliver 3 2 ∷ Deliver 4 2 ∷ Deliver 1 3 ∷ Deliver 2 3 ∷ Deliver 2 3 ∷ Deliver 4 3 ∷ Deliver 1 4 ∷ Deliver 2 4 ∷ Deliver 3 4 ∷
    Deliver 2 5 ∷ Deliver 3 6 ∷ Deliver 3 6 ∷ Deliver 4 7 ∷ Deliver 1 8 ∷ Deliver 2 9 ∷ Deliver 3 10 ∷ Deliver 3 10 ∷ Deliver 4 11 ∷ Deliver 1 12 ∷
    Deliver 2 13 ∷ Deliver 3 13 ∷ Deliver 4 13 ∷ Deliver 2 14 ∷ Deliver 1 15 ∷ Deliver 3 15 ∷ Deliver 4 15 ∷ Deliver 3 16 ∷ Deliver 1 17 ∷
    Deliver 2 17 ∷ Deliver 4 17 ∷ Deliver 4 18 ∷ Deliver 1 19 ∷ Deliver 2 19 ∷ Deliver 3 19 ∷ Deliver 1 20 ∷ Deliver 2 21 ∷ Deliver 3 22 ∷
    Deliver 4 23 ∷ Deliver 1 24 ∷ Deliver 2 25 ∷ Deliver 3 26 ∷ Deliver 4 27 ∷ Deliver 1 28 ∷ Deliver 2 29 ∷ Deliver 3 30 ∷ Deliver 4 31 ∷
    Deliver 1 32 ∷ Deliver 2 33 ∷ Deliver 3 34 ∷ Deliver 4 35 ∷ Deliver 1 36 ∷ Deliver 2 37 ∷ Deliver 3 38 ∷ Deliver 4 39 ∷ Deliver 1 40 ∷
    Deliver 2 41 ∷ Deliver 3 42 ∷ Deliver 4 43 ∷ Deliver 1 44 ∷ Deliver 2 45 ∷ Deliver 3 46 ∷ Deliver 4 47 ∷ Deliver 1 48 ∷ Deliver 2 49 ∷
    Deliver 3 50 ∷ Deliver 4 51 ∷ Deliver 1 52 ∷ Deliver 2 53 ∷ Deliver 3 54 ∷ Deliver 4 55 ∷ Deliver 1 56 ∷ Deliver 2 57 ∷ Deliver 3 58 ∷
    Deliver 4 59 ∷ Deliver 1 60 ∷ Deliver 2 61 ∷ Deliver 3 62 ∷ Deliver 4 63 ∷ Deliver 1 64 ∷ Deliver 2 65 ∷ Deliver 3 66 ∷ Deliver 3 66 ∷
    Deliver 4 67 ∷ Deliver 1 68 ∷ Deliver 2 69 ∷ Deliver 3 70 ∷ Deliver 4 71 ∷ Deliver 1 72 ∷ Deliver 2 73 ∷ Deliver 3 74 ∷ Deliver 4 75 ∷
    Deliver 1 76 ∷ Deliver 2 77 ∷ Deliver 3 78 ∷ Deliver 4 79 ∷ Deliver 1 80 ∷ SendEvent 1 (call 1 1) ∷ SendEvent 1 (call 2 1) ∷
    TimeEvent 3 JoinTime ∷ TimeEvent 4 JoinTime ∷ Deliver 2 81 ∷ Deliver 3 82 ∷ Deliver 4 83 ∷ Deliver 1 84 ∷ Deliver 2 85 ∷ Deliver 3 85 ∷
    Deliver 2 86 ∷ Deliver 3 87 ∷ Deliver 4 88 ∷ Deliver 1 89 ∷ Deliver 2 90 ∷ Deliver 3 90 ∷ Deliver 2 91 ∷ Deliver 3 92 ∷ Deliver 4 93 ∷
    Deliver 1 94 ∷ TimeEvent 3 Loss ∷ TimeEvent 2 Loss ∷ TimeEvent 3 Loss ∷ TimeEvent 4 Loss ∷ Deliver 2 95 ∷ Deliver 3 95 ∷ Deliver 2 96 ∷
    Deliver 2 97 ∷ TimeEvent 1 Consensus ∷ Deliver 3 98 ∷ Deliver 4 98 ∷ Deliver 1 98 ∷ Deliver 2 99 ∷ Deliver 4 99 ∷ Deliver 4 97 ∷ Deliver 1 99 ∷
    Deliver 1 97 ∷ Deliver 3 100 ∷ Deliver 1 100 ∷ Deliver 2 100 ∷ Deliver 2 102 ∷ Deliver 4 101 ∷ Deliver 3 101 ∷ Deliver 3 103 ∷ Deliver 4 104 ∷
    Deliver 1 105 ∷ Deliver 2 101 ∷ Deliver 2 106 ∷ Deliver 3 107 ∷ Deliver 4 108 ∷ Deliver 1 109 ∷ Deliver 2 110 ∷ Deliver 2 111 ∷ Deliver 4 111 ∷
    Deliver 3 110 ∷ Deliver 2 112 ∷ Deliver 3 111 ∷ Deliver 3 113 ∷ Deliver 3 114 ∷ Deliver 4 116 ∷ Deliver 1 117 ∷ Deliver 4 113 ∷
    SendEvent 4 (call 3 1) ∷ SendEvent 1 (call 4 1) ∷ SendEvent 2 (call 5 1) ∷ SendEvent 1 (head_after (ring_of 2 1) 5 2) ∷ SendEvent 1 (call 7 1) ∷
    Deliver 2 115 ∷ Deliver 2 117 ∷ Deliver 1 118 ∷ Deliver 2 120 ∷ SendEvent 4 (call 8 1) ∷ SendEvent 2 head ∷ SendEvent 2 (long_call 10 1) ∷
    SendEvent 1 (wrapped (ring_of 1 1) 1 1 (call_content 11 1)) ∷ SendEvent 1 (call 12 1) ∷ Deliver 3 121 ∷ Deliver 4 119 ∷ Deliver 2 114 ∷
    TimeEvent 1 JoinTime ∷ Deliver 1 122 ∷ Deliver 4 122 ∷ Deliver 3 123 ∷ Deliver 4 124 ∷ Deliver 1 125 ∷ Deliver 2 125 ∷ Deliver 3 122 ∷
    Deliver 3 125 ∷ Deliver 1 126 ∷ Deliver 2 127 ∷ Deliver 3 129 ∷ Deliver 3 128 ∷ Deliver 4 130 ∷ Deliver 4 128 ∷ Deliver 1 131 ∷ Deliver 2 132 ∷
    Deliver 3 134 ∷ Deliver 4 135 ∷ Deliver 3 133 ∷ Deliver 1 136 ∷ Deliver 4 133 ∷ Deliver 2 137 ∷ Deliver 3 138 ∷ Deliver 1 138 ∷ Deliver 3 139 ∷
    Deliver 3 139 ∷ Deliver 4 140 ∷ TimeEvent 1 Loss ∷ TimeEvent 2 Loss ∷ TimeEvent 3 Loss ∷ Deliver 1 141 ∷ Deliver 1 143 ∷ Deliver 2 142 ∷
    Deliver 4 143 ∷ []

-- The outputs in order, each with its processor.
abbrev pub outs : List (ℕ × Out Global)
outs =
    (1, SendOut 14 (join 1 0 15 0)) ∷ (2, SendOut 13 (join 2 0 15 0)) ∷ (3, SendOut 11 (join 3 0 15 0)) ∷ (4, SendOut 7 (join 4 0 15 0)) ∷
    (1, SendOut 2 (commit (ring_of 1 1) 15 1 (report (ring_of 0 1) 0 0 0 ∷ []))) ∷
    (2, SendOut 4 (commit (ring_of 1 1) 15 2 (report (ring_of 0 1) 0 0 0 ∷ report (ring_of 0 2) 0 0 0 ∷ []))) ∷
    (3, SendOut 8 (commit (ring_of 1 1) 15 3 (report (ring_of 0 1) 0 0 0 ∷ report (ring_of 0 2) 0 0 0 ∷ report (ring_of 0 3) 0 0 0 ∷ []))) ∷ (
      4,
      SendOut 1 (commit (ring_of 1 1) 15 4 (report (ring_of 0 1) 0 0 0 ∷ report (ring_of 0 2) 0 0 0 ∷ report (ring_of 0 3) 0 0 0 ∷
          report (ring_of 0 4) 0 0 0 ∷ [])),
    ) ∷ (
      1,
      SendOut 2 (commit (ring_of 1 1) 15 5 (report (ring_of 0 1) 0 0 0 ∷ report (ring_of 0 2) 0 0 0 ∷ report (ring_of 0 3) 0 0 0 ∷
          report (ring_of 0 4) 0 0 0 ∷ [])),
    ) ∷ (
      2,
      SendOut 4 (commit (ring_of 1 1) 15 6 (report (ring_of 0 1) 0 0 0 ∷ report (ring_of 0 2) 0 0 0 ∷ report (ring_of 0 3) 0 0 0 ∷
          report (ring_of 0 4) 0 0 0 ∷ [])),
    ) ∷ (
      3,
      SendOut 8 (commit (ring_of 1 1) 15 7 (report (ring_of 0 1) 0 0 0 ∷ report (ring_of 0 2) 0 0 0 ∷ report (ring_of 0 3) 0 0 0 ∷
          report (ring_of 0 4) 0 0 0 ∷ [])),
    ) ∷ (
      4,
      SendOut 1 (commit (ring_of 1 1) 15 8 (report (ring_of 0 1) 0 0 0 ∷ report (ring_of 0 2) 0 0 0 ∷ report (ring_of 0 3) 0 0 0 ∷
          report (ring_of 0 4) 0 0 0 ∷ [])),
    ) ∷
    (1, SendOut 14 (MessageFrame (message (ring_of 1 1) 1 1 End))) ∷ (1, SendOut 2 (token (ring_of 1 1) 1 1 1 None [])) ∷
    (2, SendOut 13 (MessageFrame (message (ring_of 1 1) 2 2 End))) ∷ (2, SendOut 4 (token (ring_of 1 1) 2 2 2 None [])) ∷
    (3, SendOut 11 (MessageFrame (message (ring_of 1 1) 3 3 End))) ∷ (3, SendOut 8 (token (ring_of 1 1) 3 3 3 None [])) ∷
    (4, SendOut 7 (MessageFrame (message (ring_of 1 1) 4 4 End))) ∷ (4, SendOut 1 (token (ring_of 1 1) 4 4 4 None [])) ∷
    (1, SendOut 2 (token (ring_of 1 1) 5 4 4 None [])) ∷ (2, SendOut 4 (token (ring_of 1 1) 6 4 4 None [])) ∷
    (3, SendOut 8 (token (ring_of 1 1) 7 4 4 None [])) ∷ (4, SendOut 1 (token (ring_of 1 1) 8 4 4 None [])) ∷
    (4, Trans (ring_of 0 4) (ring_of 1 1) 8) ∷ (4, Regular (ring_of 1 1) 15) ∷ (4, Safe (ring_of 1 1) 4) ∷
    (1, SendOut 2 (token (ring_of 1 1) 9 4 4 None [])) ∷ (1, Trans (ring_of 0 1) (ring_of 1 1) 1) ∷ (1, Regular (ring_of 1 1) 15) ∷
    (1, Safe (ring_of 1 1) 4) ∷ (2, SendOut 4 (token (ring_of 1 1) 10 4 4 None [])) ∷ (2, Trans (ring_of 0 2) (ring_of 1 1) 2) ∷
    (2, Regular (ring_of 1 1) 15) ∷ (2, Safe (ring_of 1 1) 4) ∷ (3, SendOut 8 (token (ring_of 1 1) 11 4 4 None [])) ∷
    (3, Trans (ring_of 0 3) (ring_of 1 1) 4) ∷ (3, Regular (ring_of 1 1) 15) ∷ (3, Safe (ring_of 1 1) 4) ∷
    (4, SendOut 1 (token (ring_of 1 1) 12 4 4 None [])) ∷ (1, SendOut 2 (token (ring_of 1 1) 13 4 4 None [])) ∷
    (2, SendOut 4 (token (ring_of 1 1) 14 4 4 None [])) ∷ (3, SendOut 8 (token (ring_of 1 1) 15 4 4 None [])) ∷
    (4, SendOut 1 (token (ring_of 1 1) 16 4 4 None [])) ∷ (1, SendOut 2 (token (ring_of 1 1) 17 4 4 None [])) ∷
    (2, SendOut 4 (token (ring_of 1 1) 18 4 4 None [])) ∷ (3, SendOut 8 (token (ring_of 1 1) 19 4 4 None [])) ∷
    (4, SendOut 1 (token (ring_of 1 1) 20 4 4 None [])) ∷ (1, SendOut 2 (token (ring_of 1 1) 21 4 4 None [])) ∷
    (2, SendOut 4 (token (ring_of 1 1) 22 4 4 None [])) ∷ (3, SendOut 8 (token (ring_of 1 1) 23 4 4 None [])) ∷
    (4, SendOut 1 (token (ring_of 1 1) 24 4 4 None [])) ∷ (1, SendOut 2 (token (ring_of 1 1) 25 4 4 None [])) ∷
    (2, SendOut 4 (token (ring_of 1 1) 26 4 4 None [])) ∷ (3, SendOut 8 (token (ring_of 1 1) 27 4 4 None [])) ∷
    (4, SendOut 1 (token (ring_of 1 1) 28 4 4 None [])) ∷ (1, SendOut 2 (token (ring_of 1 1) 29 4 4 None [])) ∷
    (2, SendOut 4 (token (ring_of 1 1) 30 4 4 None [])) ∷ (3, SendOut 8 (token (ring_of 1 1) 31 4 4 None [])) ∷
    (4, SendOut 1 (token (ring_of 1 1) 32 4 4 None [])) ∷ (1, SendOut 2 (token (ring_of 1 1) 33 4 4 None [])) ∷
    (2, SendOut 4 (token (ring_of 1 1) 34 4 4 None [])) ∷ (3, SendOut 8 (token (ring_of 1 1) 35 4 4 None [])) ∷
    (4, SendOut 1 (token (ring_of 1 1) 36 4 4 None [])) ∷ (1, SendOut 2 (token (ring_of 1 1) 37 4 4 None [])) ∷
    (2, SendOut 4 (token (ring_of 1 1) 38 4 4 None [])) ∷ (3, SendOut 8 (token (ring_of 1 1) 39 4 4 None [])) ∷
    (4, SendOut 1 (token (ring_of 1 1) 40 4 4 None [])) ∷ (1, SendOut 2 (token (ring_of 1 1) 41 4 4 None [])) ∷
    (2, SendOut 4 (token (ring_of 1 1) 42 4 4 None [])) ∷ (3, SendOut 8 (token (ring_of 1 1) 43 4 4 None [])) ∷
    (4, SendOut 1 (token (ring_of 1 1) 44 4 4 None [])) ∷ (1, SendOut 2 (token (ring_of 1 1) 45 4 4 None [])) ∷
    (2, SendOut 4 (token (ring_of 1 1) 46 4 4 None [])) ∷ (3, SendOut 8 (token (ring_of 1 1) 47 4 4 None [])) ∷
    (4, SendOut 1 (token (ring_of 1 1) 48 4 4 None [])) ∷ (1, SendOut 2 (token (ring_of 1 1) 49 4 4 None [])) ∷
    (2, SendOut 4 (token (ring_of 1 1) 50 4 4 None [])) ∷ (3, SendOut 8 (token (ring_of 1 1) 51 4 4 None [])) ∷
    (4, SendOut 1 (token (ring_of 1 1) 52 4 4 None [])) ∷ (1, SendOut 2 (token (ring_of 1 1) 53 4 4 None [])) ∷
    (2, SendOut 4 (token (ring_of 1 1) 54 4 4 None [])) ∷ (3, SendOut 8 (token (ring_of 1 1) 55 4 4 None [])) ∷
    (4, SendOut 1 (token (ring_of 1 1) 56 4 4 None [])) ∷ (1, SendOut 2 (token (ring_of 1 1) 57 4 4 None [])) ∷
    (2, SendOut 4 (token (ring_of 1 1) 58 4 4 None [])) ∷ (3, SendOut 8 (token (ring_of 1 1) 59 4 4 None [])) ∷
    (4, SendOut 1 (token (ring_of 1 1) 60 4 4 None [])) ∷ (1, SendOut 2 (token (ring_of 1 1) 61 4 4 None [])) ∷
    (2, SendOut 4 (token (ring_of 1 1) 62 4 4 None [])) ∷ (3, SendOut 8 (token (ring_of 1 1) 63 4 4 None [])) ∷
    (4, SendOut 1 (token (ring_of 1 1) 64 4 4 None [])) ∷ (1, SendOut 2 (token (ring_of 1 1) 65 4 4 None [])) ∷
    (2, SendOut 4 (token (ring_of 1 1) 66 4 4 None [])) ∷ (3, SendOut 8 (token (ring_of 1 1) 67 4 4 None [])) ∷
    (4, SendOut 1 (token (ring_of 1 1) 68 4 4 None [])) ∷
    (1, SendOut 14 (MessageFrame (message (ring_of 1 1) 5 1 (pack (call_of 1 1 ∷ call_of 2 1 ∷ []))))) ∷
    (1, SendOut 2 (token (ring_of 1 1) 69 5 5 None [])) ∷
    (1, Agreed (ring_of 1 1) 5 (message (ring_of 1 1) 5 1 (pack (call_of 1 1 ∷ call_of 2 1 ∷ [])))) ∷
    (2, Agreed (ring_of 1 1) 5 (message (ring_of 1 1) 5 1 (pack (call_of 1 1 ∷ call_of 2 1 ∷ [])))) ∷
    (3, Agreed (ring_of 1 1) 5 (message (ring_of 1 1) 5 1 (pack (call_of 1 1 ∷ call_of 2 1 ∷ [])))) ∷
    (2, SendOut 4 (token (ring_of 1 1) 70 5 5 None [])) ∷ (3, SendOut 8 (token (ring_of 1 1) 71 5 5 None [])) ∷
    (4, SendOut 1 (token (ring_of 1 1) 72 5 4 (Some 4) (5 ∷ []))) ∷
    (1, SendOut 14 (MessageFrame (message (ring_of 1 1) 5 1 (pack (call_of 1 1 ∷ call_of 2 1 ∷ []))))) ∷
    (1, SendOut 2 (token (ring_of 1 1) 73 5 4 (Some 4) [])) ∷ (2, SendOut 4 (token (ring_of 1 1) 74 5 4 (Some 4) [])) ∷
    (3, SendOut 8 (token (ring_of 1 1) 75 5 4 (Some 4) [])) ∷ (4, SendOut 1 (token (ring_of 1 1) 76 5 4 (Some 4) (5 ∷ []))) ∷
    (1, SendOut 14 (MessageFrame (message (ring_of 1 1) 5 1 (pack (call_of 1 1 ∷ call_of 2 1 ∷ []))))) ∷
    (1, SendOut 2 (token (ring_of 1 1) 77 5 4 (Some 4) [])) ∷ (3, SendOut 11 (join 3 1 15 0)) ∷ (2, SendOut 13 (join 2 1 15 0)) ∷
    (3, SendOut 11 (join 3 1 15 0)) ∷ (4, SendOut 7 (join 4 1 15 0)) ∷ (1, SendOut 14 (join 1 1 15 0)) ∷
    (1, SendOut 2 (commit (ring_of 2 1) 15 1 (report (ring_of 1 1) 5 4 0 ∷ []))) ∷
    (2, SendOut 4 (commit (ring_of 2 1) 15 2 (report (ring_of 1 1) 5 4 0 ∷ report (ring_of 1 1) 5 4 0 ∷ []))) ∷
    (3, SendOut 8 (commit (ring_of 2 1) 15 3 (report (ring_of 1 1) 5 4 0 ∷ report (ring_of 1 1) 5 4 0 ∷ report (ring_of 1 1) 5 4 0 ∷ []))) ∷ (
      4,
      SendOut 1 (commit (ring_of 2 1) 15 4 (report (ring_of 1 1) 5 4 0 ∷ report (ring_of 1 1) 5 4 0 ∷ report (ring_of 1 1) 5 4 0 ∷
          report (ring_of 1 1) 4 4 0 ∷ [])),
    ) ∷ (
      1,
      SendOut 2 (commit (ring_of 2 1) 15 5 (report (ring_of 1 1) 5 4 0 ∷ report (ring_of 1 1) 5 4 0 ∷ report (ring_of 1 1) 5 4 0 ∷
          report (ring_of 1 1) 4 4 0 ∷ [])),
    ) ∷ (
      2,
      SendOut 4 (commit (ring_of 2 1) 15 6 (report (ring_of 1 1) 5 4 0 ∷ report (ring_of 1 1) 5 4 0 ∷ report (ring_of 1 1) 5 4 0 ∷
          report (ring_of 1 1) 4 4 0 ∷ [])),
    ) ∷ (
      3,
      SendOut 8 (commit (ring_of 2 1) 15 7 (report (ring_of 1 1) 5 4 0 ∷ report (ring_of 1 1) 5 4 0 ∷ report (ring_of 1 1) 5 4 0 ∷
          report (ring_of 1 1) 4 4 0 ∷ [])),
    ) ∷ (
      4,
      SendOut 1 (commit (ring_of 2 1) 15 8 (report (ring_of 1 1) 5 4 0 ∷ report (ring_of 1 1) 5 4 0 ∷ report (ring_of 1 1) 5 4 0 ∷
          report (ring_of 1 1) 4 4 0 ∷ [])),
    ) ∷
    (1, SendOut 14 (MessageFrame (message (ring_of 2 1) 1 1 (wrapped (ring_of 1 1) 5 1 (pack_content (call_of 1 1 ∷ call_of 2 1 ∷ [])))))) ∷
    (1, SendOut 14 (MessageFrame (message (ring_of 2 1) 2 1 End))) ∷ (1, SendOut 2 (token (ring_of 2 1) 1 2 2 None [])) ∷
    (2, SendOut 13 (MessageFrame (message (ring_of 2 1) 3 2 End))) ∷ (2, SendOut 4 (token (ring_of 2 1) 2 3 3 None [])) ∷
    (3, SendOut 11 (MessageFrame (message (ring_of 2 1) 4 3 End))) ∷ (3, SendOut 8 (token (ring_of 2 1) 3 4 4 None [])) ∷
    (4, SendOut 7 (MessageFrame (message (ring_of 2 1) 5 4 End))) ∷ (4, SendOut 1 (token (ring_of 2 1) 4 5 0 (Some 4) (1 ∷ 3 ∷ 4 ∷ []))) ∷
    (1, SendOut 14 (MessageFrame (message (ring_of 2 1) 1 1 (wrapped (ring_of 1 1) 5 1 (pack_content (call_of 1 1 ∷ call_of 2 1 ∷ [])))))) ∷
    (1, SendOut 2 (token (ring_of 2 1) 5 5 0 (Some 4) (3 ∷ 4 ∷ []))) ∷ (2, SendOut 13 (MessageFrame (message (ring_of 2 1) 3 2 End))) ∷
    (2, SendOut 13 (MessageFrame (message (ring_of 2 1) 4 3 End))) ∷ (2, SendOut 4 (token (ring_of 2 1) 6 5 0 (Some 4) [])) ∷
    (4, Agreed (ring_of 1 1) 5 (message (ring_of 1 1) 5 1 (pack (call_of 1 1 ∷ call_of 2 1 ∷ [])))) ∷
    (3, SendOut 8 (token (ring_of 2 1) 7 5 0 (Some 4) (5 ∷ []))) ∷ (4, SendOut 7 (MessageFrame (message (ring_of 2 1) 5 4 End))) ∷
    (4, SendOut 1 (token (ring_of 2 1) 8 5 5 None [])) ∷ (1, SendOut 2 (token (ring_of 2 1) 9 5 2 (Some 1) (3 ∷ []))) ∷
    (2, SendOut 13 (MessageFrame (message (ring_of 2 1) 3 2 End))) ∷ (2, SendOut 4 (token (ring_of 2 1) 10 5 2 (Some 1) [])) ∷
    (3, SendOut 8 (token (ring_of 2 1) 11 5 2 (Some 1) [])) ∷ (4, SendOut 1 (token (ring_of 2 1) 12 5 2 (Some 1) [])) ∷
    (1, SendOut 2 (token (ring_of 2 1) 13 5 2 (Some 1) (3 ∷ []))) ∷ (2, SendOut 13 (MessageFrame (message (ring_of 2 1) 3 2 End))) ∷
    (2, SendOut 4 (token (ring_of 2 1) 14 5 2 (Some 1) [])) ∷ (3, SendOut 8 (token (ring_of 2 1) 15 5 2 (Some 1) [])) ∷
    (4, SendOut 1 (token (ring_of 2 1) 16 5 2 (Some 1) [])) ∷ (1, SendOut 2 (token (ring_of 2 1) 17 5 2 (Some 1) (3 ∷ []))) ∷
    (2, SendOut 13 (MessageFrame (message (ring_of 2 1) 3 2 End))) ∷ (2, SendOut 4 (token (ring_of 2 1) 18 5 2 (Some 1) [])) ∷
    (3, SendOut 8 (token (ring_of 2 1) 19 5 2 (Some 1) [])) ∷ (4, SendOut 1 (token (ring_of 2 1) 20 5 2 (Some 1) [])) ∷
    (1, SendOut 14 (join 1 2 15 0)) ∷ (2, SendOut 13 (join 2 2 15 0)) ∷ (3, SendOut 11 (join 3 2 15 0)) ∷ (4, SendOut 7 (join 4 2 15 0)) ∷ []

-- The world to which the schedule leads.
abbrev pub world : World Global
world = run (unformed 4) events
