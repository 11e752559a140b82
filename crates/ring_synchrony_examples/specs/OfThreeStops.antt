-- A random schedule of three processors: two of them stop.
-- The outputs are those of an independent implementation of the protocol.
use Rattle.std.specs.Prelude.{ℕ, List, [], ◌∷◌, Some, None}
use Rattle.std.specs.declared.alloc.Global.{Global}
use Rattle.ring_payload.specs.declared.content.Payload.TheVariants.{End}
use Rattle.ring_wire.specs.declared.frame.Frame.TheVariants.{Message as MessageFrame}
use Rattle.ring_base.specs.declared.timeout_kind.Kind.TheVariants.{Retransmit, Join as JoinTime, Consensus, Loss}
use Rattle.ring_core_spec.specs.declared.out.Out.{Out}
use Rattle.ring_core_spec.specs.declared.out.Out.TheVariants.{Send as SendOut, Agreed, Safe, Trans, Regular}
use Rattle.ring_core_proof.specs.declared.event.RingEvent.{RingEvent}
use Rattle.ring_core_proof.specs.declared.event.RingEvent.TheVariants.{Send as SendEvent, Deliver, Timeout as TimeEvent, Stop}
use Rattle.ring_core_proof.specs.Worlds.{World, run, unformed}
use Rattle.ring_core_proof.specs.Samples.{ring_of}
use Rattle.ring_synchrony_examples.specs.Words.{call_of, long_call_of, call, long_call, call_content, head, head_after, part}
use Rattle.ring_synchrony_examples.specs.Words.{wrapped, message, token, join, report, commit}

-- The events, in order.
abbrev pub events : List (RingEvent Global)
events =
    TimeEvent 1 JoinTime ∷ TimeEvent 2 JoinTime ∷ TimeEvent 3 JoinTime ∷ Deliver 2 1 ∷ Deliver 3 1 ∷ Deliver 1 2 ∷ Deliver 3 2 ∷ Deliver 1 3 ∷
    Deliver 2 3 ∷ Deliver 2 4 ∷ TimeEvent 1 Retransmit ∷ SendEvent 2 (call 1 1) ∷ SendEvent 2 (call 2 1) ∷ SendEvent 3 (long_call 3 1) ∷
    SendEvent 2 End ∷ SendEvent 2 (call 5 1) ∷ Deliver 3 5 ∷ Deliver 2 6 ∷ Deliver 1 7 ∷ Deliver 2 8 ∷ Deliver 3 9 ∷ Deliver 1 10 ∷ Deliver 2 11 ∷
    Deliver 2 12 ∷ Deliver 1 13 ∷ TimeEvent 3 JoinTime ∷ Deliver 1 8 ∷ TimeEvent 1 Loss ∷ TimeEvent 2 Loss ∷ TimeEvent 3 Loss ∷ Deliver 2 15 ∷
    Deliver 1 16 ∷ TimeEvent 1 Consensus ∷ TimeEvent 2 Consensus ∷ TimeEvent 3 Consensus ∷ Deliver 2 18 ∷ Deliver 1 19 ∷ Deliver 3 21 ∷ Deliver 2 22 ∷
    Deliver 3 23 ∷ Deliver 1 24 ∷ Deliver 3 25 ∷ Deliver 2 26 ∷ Deliver 3 27 ∷ Deliver 1 28 ∷ Deliver 3 29 ∷ Deliver 2 30 ∷ Deliver 2 31 ∷
    Deliver 3 32 ∷ Deliver 1 34 ∷ Deliver 3 35 ∷ Deliver 2 36 ∷ Deliver 3 37 ∷ Deliver 1 38 ∷ Deliver 1 39 ∷ Deliver 2 41 ∷ Deliver 1 42 ∷
    Deliver 2 43 ∷ Deliver 1 44 ∷ Deliver 2 45 ∷ Deliver 1 46 ∷ Deliver 2 47 ∷ Deliver 1 48 ∷ Deliver 2 49 ∷ Deliver 1 50 ∷ Deliver 2 51 ∷
    Deliver 1 52 ∷ Deliver 2 53 ∷ Deliver 1 54 ∷ Deliver 2 55 ∷ Deliver 1 56 ∷ Deliver 2 57 ∷ Deliver 1 58 ∷ Deliver 2 59 ∷ Deliver 1 60 ∷
    Deliver 2 61 ∷ Deliver 1 62 ∷ Deliver 2 63 ∷ Deliver 1 64 ∷ Deliver 2 65 ∷ Deliver 1 66 ∷ Deliver 2 67 ∷ Deliver 1 68 ∷ Deliver 2 69 ∷
    Deliver 1 70 ∷ Deliver 2 71 ∷ Deliver 1 72 ∷ Deliver 2 73 ∷ Deliver 1 74 ∷ Deliver 2 75 ∷ Deliver 1 76 ∷ Deliver 2 77 ∷ Deliver 2 77 ∷
    SendEvent 1 (call 6 1) ∷ SendEvent 2 (wrapped (ring_of 1 1) 1 1 (call_content 7 1)) ∷ SendEvent 1 (call 8 1) ∷ TimeEvent 1 Loss ∷
    TimeEvent 2 Loss ∷ TimeEvent 3 Loss ∷ Deliver 1 78 ∷ Deliver 2 79 ∷ Deliver 1 80 ∷ Deliver 3 82 ∷ Deliver 2 83 ∷ Deliver 3 84 ∷
    TimeEvent 3 Consensus ∷ Deliver 1 85 ∷ Deliver 3 86 ∷ Deliver 2 87 ∷ Deliver 3 88 ∷ Deliver 1 89 ∷ Deliver 3 90 ∷ Deliver 3 90 ∷ Deliver 2 91 ∷
    Deliver 2 92 ∷ Deliver 3 93 ∷ Deliver 1 95 ∷ Deliver 3 96 ∷ Deliver 2 97 ∷ Deliver 3 98 ∷ Deliver 1 99 ∷ Deliver 1 100 ∷ Deliver 3 101 ∷
    Deliver 2 102 ∷ Deliver 3 103 ∷ Deliver 1 104 ∷ Deliver 3 105 ∷ Deliver 2 106 ∷ Deliver 3 107 ∷ Deliver 1 108 ∷ Deliver 3 109 ∷ Deliver 2 110 ∷
    Deliver 3 111 ∷ Deliver 1 112 ∷ Deliver 3 113 ∷ Deliver 3 115 ∷ Deliver 3 116 ∷ Deliver 3 117 ∷ TimeEvent 3 Consensus ∷ Stop 2 ∷
    SendEvent 3 (call 9 1) ∷ SendEvent 1 (head_after (ring_of 1 1) 5 2) ∷ SendEvent 1 head ∷ SendEvent 2 (call 12 1) ∷
    SendEvent 1 (head_after (ring_of 3 1) 5 2) ∷ SendEvent 2 (call 14 1) ∷ Deliver 3 118 ∷ Deliver 3 119 ∷ Deliver 3 120 ∷ Deliver 3 121 ∷
    Deliver 3 122 ∷ Deliver 3 123 ∷ Deliver 3 124 ∷ Deliver 3 125 ∷ Deliver 3 126 ∷ Deliver 3 127 ∷ Deliver 3 128 ∷ Deliver 3 129 ∷ Deliver 3 130 ∷
    Deliver 3 131 ∷ Deliver 3 132 ∷ SendEvent 3 (call 15 1) ∷ SendEvent 2 (call 16 1) ∷ SendEvent 1 (call 17 1) ∷ SendEvent 1 (call 18 1) ∷
    SendEvent 3 (call 19 1) ∷ TimeEvent 1 JoinTime ∷ TimeEvent 1 Loss ∷ TimeEvent 2 JoinTime ∷ TimeEvent 1 Loss ∷ TimeEvent 3 Loss ∷ Deliver 2 137 ∷
    Deliver 3 138 ∷ Deliver 3 139 ∷ Deliver 3 140 ∷ Deliver 3 140 ∷ Deliver 3 141 ∷ Deliver 3 142 ∷ Deliver 3 143 ∷ Deliver 3 144 ∷ Deliver 3 145 ∷
    Deliver 3 146 ∷ Deliver 3 147 ∷ Deliver 3 148 ∷ SendEvent 2 (call 20 1) ∷ SendEvent 2 (call 21 1) ∷ SendEvent 1 (head_after (ring_of 1 1) 5 2) ∷
    SendEvent 2 (call 23 1) ∷ SendEvent 3 (call 24 1) ∷ Stop 1 ∷ TimeEvent 1 JoinTime ∷ SendEvent 2 head ∷
    SendEvent 1 (wrapped (ring_of 1 1) 1 1 (call_content 26 1)) ∷ SendEvent 2 (wrapped (ring_of 1 1) 1 1 (call_content 27 1)) ∷
    SendEvent 2 (part 0 (call_of 28 1 ∷ [])) ∷ TimeEvent 1 Loss ∷ TimeEvent 2 Loss ∷ TimeEvent 3 Loss ∷ Deliver 1 150 ∷ Deliver 2 150 ∷
    Deliver 3 151 ∷ Deliver 3 152 ∷ Deliver 3 153 ∷ Deliver 3 154 ∷ Deliver 3 155 ∷ []

-- The outputs in order, each with its processor.
abbrev pub outs : List (ℕ × Out Global)
outs =
    (1, SendOut 6 (join 1 0 7 0)) ∷ (2, SendOut 5 (join 2 0 7 0)) ∷ (3, SendOut 3 (join 3 0 7 0)) ∷
    (1, SendOut 2 (commit (ring_of 1 1) 7 1 (report (ring_of 0 1) 0 0 0 ∷ []))) ∷
    (2, SendOut 4 (commit (ring_of 1 1) 7 2 (report (ring_of 0 1) 0 0 0 ∷ report (ring_of 0 2) 0 0 0 ∷ []))) ∷
    (1, SendOut 2 (commit (ring_of 1 1) 7 1 (report (ring_of 0 1) 0 0 0 ∷ []))) ∷
    (3, SendOut 1 (commit (ring_of 1 1) 7 3 (report (ring_of 0 1) 0 0 0 ∷ report (ring_of 0 2) 0 0 0 ∷ report (ring_of 0 3) 0 0 0 ∷ []))) ∷
    (1, SendOut 2 (commit (ring_of 1 1) 7 4 (report (ring_of 0 1) 0 0 0 ∷ report (ring_of 0 2) 0 0 0 ∷ report (ring_of 0 3) 0 0 0 ∷ []))) ∷
    (2, SendOut 4 (commit (ring_of 1 1) 7 5 (report (ring_of 0 1) 0 0 0 ∷ report (ring_of 0 2) 0 0 0 ∷ report (ring_of 0 3) 0 0 0 ∷ []))) ∷
    (3, SendOut 1 (commit (ring_of 1 1) 7 6 (report (ring_of 0 1) 0 0 0 ∷ report (ring_of 0 2) 0 0 0 ∷ report (ring_of 0 3) 0 0 0 ∷ []))) ∷
    (1, SendOut 6 (MessageFrame (message (ring_of 1 1) 1 1 End))) ∷ (1, SendOut 2 (token (ring_of 1 1) 1 1 1 None [])) ∷
    (2, SendOut 5 (MessageFrame (message (ring_of 1 1) 2 2 End))) ∷ (2, SendOut 4 (token (ring_of 1 1) 2 2 2 None [])) ∷
    (1, SendOut 6 (join 1 1 7 0)) ∷ (2, SendOut 5 (join 2 1 7 0)) ∷ (3, SendOut 3 (join 3 1 7 0)) ∷ (1, SendOut 6 (join 1 1 7 4)) ∷
    (2, SendOut 5 (join 2 1 7 4)) ∷ (3, SendOut 3 (join 3 1 7 3)) ∷ (3, SendOut 4 (commit (ring_of 2 3) 4 1 (report (ring_of 0 3) 0 0 0 ∷ []))) ∷
    (1, SendOut 2 (commit (ring_of 2 1) 3 1 (report (ring_of 0 1) 0 0 0 ∷ []))) ∷
    (3, SendOut 4 (commit (ring_of 2 3) 4 2 (report (ring_of 0 3) 0 0 0 ∷ []))) ∷
    (2, SendOut 1 (commit (ring_of 2 1) 3 2 (report (ring_of 0 1) 0 0 0 ∷ report (ring_of 0 2) 0 0 0 ∷ []))) ∷
    (3, SendOut 4 (token (ring_of 2 3) 1 1 1 None [])) ∷
    (1, SendOut 2 (commit (ring_of 2 1) 3 3 (report (ring_of 0 1) 0 0 0 ∷ report (ring_of 0 2) 0 0 0 ∷ []))) ∷
    (3, SendOut 4 (token (ring_of 2 3) 2 1 1 None [])) ∷ (3, Trans (ring_of 0 3) (ring_of 2 3) 4) ∷ (3, Regular (ring_of 2 3) 4) ∷
    (3, Safe (ring_of 2 3) 1) ∷ (2, SendOut 1 (commit (ring_of 2 1) 3 4 (report (ring_of 0 1) 0 0 0 ∷ report (ring_of 0 2) 0 0 0 ∷ []))) ∷
    (3, SendOut 4 (token (ring_of 2 3) 3 1 1 None [])) ∷ (1, SendOut 2 (MessageFrame (message (ring_of 2 1) 1 1 End))) ∷
    (1, SendOut 2 (token (ring_of 2 1) 1 1 1 None [])) ∷ (3, SendOut 4 (token (ring_of 2 3) 4 1 1 None [])) ∷
    (2, SendOut 1 (MessageFrame (message (ring_of 2 1) 2 2 End))) ∷ (2, SendOut 1 (token (ring_of 2 1) 2 2 2 None [])) ∷
    (3, SendOut 4 (token (ring_of 2 3) 5 1 1 None [])) ∷ (1, SendOut 2 (token (ring_of 2 1) 3 2 1 (Some 1) (2 ∷ []))) ∷
    (3, SendOut 4 (token (ring_of 2 3) 6 1 1 None [])) ∷ (2, SendOut 1 (MessageFrame (message (ring_of 2 1) 2 2 End))) ∷
    (2, SendOut 1 (token (ring_of 2 1) 4 2 1 (Some 1) [])) ∷ (3, SendOut 4 (token (ring_of 2 3) 7 1 1 None [])) ∷
    (1, SendOut 2 (token (ring_of 2 1) 5 2 2 None [])) ∷ (2, SendOut 1 (token (ring_of 2 1) 6 2 2 None [])) ∷
    (1, SendOut 2 (token (ring_of 2 1) 7 2 2 None [])) ∷ (1, Trans (ring_of 0 1) (ring_of 2 1) 1) ∷ (1, Regular (ring_of 2 1) 3) ∷
    (1, Safe (ring_of 2 1) 2) ∷ (2, SendOut 1 (token (ring_of 2 1) 8 2 2 None [])) ∷ (2, Trans (ring_of 0 2) (ring_of 2 1) 2) ∷
    (2, Regular (ring_of 2 1) 3) ∷ (2, Safe (ring_of 2 1) 2) ∷ (1, SendOut 2 (token (ring_of 2 1) 9 2 2 None [])) ∷
    (2, SendOut 1 (token (ring_of 2 1) 10 2 2 None [])) ∷ (1, SendOut 2 (token (ring_of 2 1) 11 2 2 None [])) ∷
    (2, SendOut 1 (token (ring_of 2 1) 12 2 2 None [])) ∷ (1, SendOut 2 (token (ring_of 2 1) 13 2 2 None [])) ∷
    (2, SendOut 1 (token (ring_of 2 1) 14 2 2 None [])) ∷ (1, SendOut 2 (token (ring_of 2 1) 15 2 2 None [])) ∷
    (2, SendOut 1 (token (ring_of 2 1) 16 2 2 None [])) ∷ (1, SendOut 2 (token (ring_of 2 1) 17 2 2 None [])) ∷
    (2, SendOut 1 (token (ring_of 2 1) 18 2 2 None [])) ∷ (1, SendOut 2 (token (ring_of 2 1) 19 2 2 None [])) ∷
    (2, SendOut 1 (token (ring_of 2 1) 20 2 2 None [])) ∷ (1, SendOut 2 (token (ring_of 2 1) 21 2 2 None [])) ∷
    (2, SendOut 1 (token (ring_of 2 1) 22 2 2 None [])) ∷ (1, SendOut 2 (token (ring_of 2 1) 23 2 2 None [])) ∷
    (2, SendOut 1 (token (ring_of 2 1) 24 2 2 None [])) ∷ (1, SendOut 2 (token (ring_of 2 1) 25 2 2 None [])) ∷
    (2, SendOut 1 (token (ring_of 2 1) 26 2 2 None [])) ∷ (1, SendOut 2 (token (ring_of 2 1) 27 2 2 None [])) ∷
    (2, SendOut 1 (token (ring_of 2 1) 28 2 2 None [])) ∷ (1, SendOut 2 (token (ring_of 2 1) 29 2 2 None [])) ∷
    (2, SendOut 1 (token (ring_of 2 1) 30 2 2 None [])) ∷ (1, SendOut 2 (token (ring_of 2 1) 31 2 2 None [])) ∷
    (2, SendOut 1 (token (ring_of 2 1) 32 2 2 None [])) ∷ (1, SendOut 2 (token (ring_of 2 1) 33 2 2 None [])) ∷
    (2, SendOut 1 (token (ring_of 2 1) 34 2 2 None [])) ∷ (1, SendOut 2 (token (ring_of 2 1) 35 2 2 None [])) ∷
    (2, SendOut 1 (token (ring_of 2 1) 36 2 2 None [])) ∷ (1, SendOut 2 (token (ring_of 2 1) 37 2 2 None [])) ∷
    (2, SendOut 1 (token (ring_of 2 1) 38 2 2 None [])) ∷ (1, SendOut 2 (token (ring_of 2 1) 39 2 2 None [])) ∷
    (2, SendOut 1 (token (ring_of 2 1) 40 2 2 None [])) ∷ (1, SendOut 2 (token (ring_of 2 1) 41 2 2 None [])) ∷
    (2, SendOut 1 (token (ring_of 2 1) 42 2 2 None [])) ∷ (1, SendOut 6 (join 1 2 3 0)) ∷ (2, SendOut 5 (join 2 2 3 0)) ∷
    (3, SendOut 3 (join 3 2 4 0)) ∷ (3, SendOut 4 (commit (ring_of 3 3) 4 1 (report (ring_of 2 3) 1 1 0 ∷ []))) ∷
    (1, SendOut 2 (commit (ring_of 3 1) 3 1 (report (ring_of 2 1) 2 2 0 ∷ []))) ∷
    (3, SendOut 4 (commit (ring_of 3 3) 4 2 (report (ring_of 2 3) 1 1 0 ∷ []))) ∷
    (2, SendOut 1 (commit (ring_of 3 1) 3 2 (report (ring_of 2 1) 2 2 0 ∷ report (ring_of 2 1) 2 2 0 ∷ []))) ∷
    (3, SendOut 4 (token (ring_of 3 3) 1 1 1 None [])) ∷
    (1, SendOut 2 (commit (ring_of 3 1) 3 3 (report (ring_of 2 1) 2 2 0 ∷ report (ring_of 2 1) 2 2 0 ∷ []))) ∷
    (3, SendOut 4 (token (ring_of 3 3) 2 1 1 None [])) ∷ (3, Trans (ring_of 2 3) (ring_of 3 3) 4) ∷ (3, Regular (ring_of 3 3) 4) ∷
    (3, Safe (ring_of 3 3) 1) ∷ (2, SendOut 1 (commit (ring_of 3 1) 3 4 (report (ring_of 2 1) 2 2 0 ∷ report (ring_of 2 1) 2 2 0 ∷ []))) ∷
    (3, SendOut 4 (token (ring_of 3 3) 3 1 1 None [])) ∷ (1, SendOut 2 (MessageFrame (message (ring_of 3 1) 1 1 End))) ∷
    (1, SendOut 2 (token (ring_of 3 1) 1 1 1 None [])) ∷ (3, SendOut 4 (token (ring_of 3 3) 4 1 1 None [])) ∷
    (2, SendOut 1 (MessageFrame (message (ring_of 3 1) 2 2 End))) ∷ (2, SendOut 1 (token (ring_of 3 1) 2 2 2 None [])) ∷
    (3, SendOut 4 (token (ring_of 3 3) 5 1 1 None [])) ∷ (1, SendOut 2 (token (ring_of 3 1) 3 2 1 (Some 1) (2 ∷ []))) ∷
    (3, SendOut 4 (token (ring_of 3 3) 6 1 1 None [])) ∷ (2, SendOut 1 (MessageFrame (message (ring_of 3 1) 2 2 End))) ∷
    (2, SendOut 1 (token (ring_of 3 1) 4 2 1 (Some 1) [])) ∷ (3, SendOut 4 (token (ring_of 3 3) 7 1 1 None [])) ∷
    (1, SendOut 2 (token (ring_of 3 1) 5 2 2 None [])) ∷ (3, SendOut 4 (token (ring_of 3 3) 8 1 1 None [])) ∷
    (2, SendOut 1 (token (ring_of 3 1) 6 2 2 None [])) ∷ (3, SendOut 4 (token (ring_of 3 3) 9 1 1 None [])) ∷
    (1, SendOut 2 (token (ring_of 3 1) 7 2 2 None [])) ∷ (1, Trans (ring_of 2 1) (ring_of 3 1) 3) ∷ (1, Regular (ring_of 3 1) 3) ∷
    (1, Safe (ring_of 3 1) 2) ∷ (3, SendOut 4 (token (ring_of 3 3) 10 1 1 None [])) ∷ (2, SendOut 1 (token (ring_of 3 1) 8 2 2 None [])) ∷
    (2, Trans (ring_of 2 1) (ring_of 3 1) 3) ∷ (2, Regular (ring_of 3 1) 3) ∷ (2, Safe (ring_of 3 1) 2) ∷
    (3, SendOut 4 (token (ring_of 3 3) 11 1 1 None [])) ∷ (1, SendOut 2 (token (ring_of 3 1) 9 2 2 None [])) ∷
    (3, SendOut 4 (token (ring_of 3 3) 12 1 1 None [])) ∷ (2, SendOut 1 (token (ring_of 3 1) 10 2 2 None [])) ∷
    (3, SendOut 4 (token (ring_of 3 3) 13 1 1 None [])) ∷ (1, SendOut 2 (token (ring_of 3 1) 11 2 2 None [])) ∷
    (3, SendOut 4 (token (ring_of 3 3) 14 1 1 None [])) ∷ (3, SendOut 4 (token (ring_of 3 3) 15 1 1 None [])) ∷
    (3, SendOut 4 (token (ring_of 3 3) 16 1 1 None [])) ∷ (3, SendOut 4 (token (ring_of 3 3) 17 1 1 None [])) ∷
    (3, SendOut 4 (token (ring_of 3 3) 18 2 2 None [])) ∷ (3, Agreed (ring_of 3 3) 2 (message (ring_of 3 3) 2 3 (call 9 1))) ∷
    (3, SendOut 4 (token (ring_of 3 3) 19 2 2 None [])) ∷ (3, Safe (ring_of 3 3) 2) ∷ (3, SendOut 4 (token (ring_of 3 3) 20 2 2 None [])) ∷
    (3, SendOut 4 (token (ring_of 3 3) 21 2 2 None [])) ∷ (3, SendOut 4 (token (ring_of 3 3) 22 2 2 None [])) ∷
    (3, SendOut 4 (token (ring_of 3 3) 23 2 2 None [])) ∷ (3, SendOut 4 (token (ring_of 3 3) 24 2 2 None [])) ∷
    (3, SendOut 4 (token (ring_of 3 3) 25 2 2 None [])) ∷ (3, SendOut 4 (token (ring_of 3 3) 26 2 2 None [])) ∷
    (3, SendOut 4 (token (ring_of 3 3) 27 2 2 None [])) ∷ (3, SendOut 4 (token (ring_of 3 3) 28 2 2 None [])) ∷
    (3, SendOut 4 (token (ring_of 3 3) 29 2 2 None [])) ∷ (3, SendOut 4 (token (ring_of 3 3) 30 2 2 None [])) ∷
    (3, SendOut 4 (token (ring_of 3 3) 31 2 2 None [])) ∷ (3, SendOut 4 (token (ring_of 3 3) 32 2 2 None [])) ∷ (1, SendOut 4 (join 1 3 3 0)) ∷
    (1, SendOut 6 (join 1 3 3 0)) ∷ (1, SendOut 6 (join 1 3 3 0)) ∷ (3, SendOut 3 (join 3 3 4 0)) ∷
    (3, SendOut 4 (commit (ring_of 4 3) 4 1 (report (ring_of 3 3) 2 2 0 ∷ []))) ∷
    (3, SendOut 4 (commit (ring_of 4 3) 4 2 (report (ring_of 3 3) 2 2 0 ∷ []))) ∷ (3, SendOut 4 (token (ring_of 4 3) 1 1 1 None [])) ∷
    (3, SendOut 4 (token (ring_of 4 3) 2 1 1 None [])) ∷ (3, Trans (ring_of 3 3) (ring_of 4 3) 4) ∷ (3, Regular (ring_of 4 3) 4) ∷
    (3, Safe (ring_of 4 3) 1) ∷ (3, SendOut 4 (token (ring_of 4 3) 3 1 1 None [])) ∷ (3, SendOut 4 (token (ring_of 4 3) 4 1 1 None [])) ∷
    (3, SendOut 4 (token (ring_of 4 3) 5 1 1 None [])) ∷ (3, SendOut 4 (token (ring_of 4 3) 6 1 1 None [])) ∷
    (3, SendOut 4 (token (ring_of 4 3) 7 1 1 None [])) ∷ (3, SendOut 4 (token (ring_of 4 3) 8 1 1 None [])) ∷
    (3, SendOut 4 (token (ring_of 4 3) 9 1 1 None [])) ∷ (3, SendOut 4 (token (ring_of 4 3) 10 1 1 None [])) ∷ (3, SendOut 3 (join 3 4 4 0)) ∷
    (3, SendOut 4 (commit (ring_of 5 3) 4 1 (report (ring_of 4 3) 1 1 0 ∷ []))) ∷
    (3, SendOut 4 (commit (ring_of 5 3) 4 2 (report (ring_of 4 3) 1 1 0 ∷ []))) ∷ (3, SendOut 4 (token (ring_of 5 3) 1 1 1 None [])) ∷
    (3, SendOut 4 (token (ring_of 5 3) 2 1 1 None [])) ∷ (3, Trans (ring_of 4 3) (ring_of 5 3) 4) ∷ (3, Regular (ring_of 5 3) 4) ∷
    (3, Safe (ring_of 5 3) 1) ∷ (3, SendOut 4 (token (ring_of 5 3) 3 1 1 None [])) ∷ (3, SendOut 4 (token (ring_of 5 3) 4 1 1 None [])) ∷ []

-- The world to which the schedule leads.
abbrev pub world : World Global
world = run (unformed 3) events
