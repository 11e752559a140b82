-- A random schedule of three processors: two recoveries break off after calls were wrapped, and later ones wrap them
-- again.
-- The outputs are those of an independent implementation of the protocol.
use Rattle.std.specs.Prelude.{ℕ, List, [], ◌∷◌, Some, None}
use Rattle.std.specs.declared.alloc.Global.{Global}
use Rattle.ring_payload.specs.declared.content.Payload.TheVariants.{End}
use Rattle.ring_wire.specs.declared.frame.Frame.TheVariants.{Message as MessageFrame}
use Rattle.ring_base.specs.declared.timeout_kind.Kind.TheVariants.{Retransmit, Join as JoinTime, Consensus, Loss}
use Rattle.ring_core_spec.specs.declared.out.Out.{Out}
use Rattle.ring_core_spec.specs.declared.out.Out.TheVariants.{Send as SendOut, Agreed, Safe, Trans, Rest, Regular}
use Rattle.ring_core_proof.specs.declared.event.RingEvent.{RingEvent}
use Rattle.ring_core_proof.specs.declared.event.RingEvent.TheVariants.{Send as SendEvent, Deliver, Timeout as TimeEvent}
use Rattle.ring_core_proof.specs.Worlds.{World, run, unformed}
use Rattle.ring_core_proof.specs.Samples.{ring_of}
use Rattle.ring_synchrony_examples.specs.Words.{call, call_content, head, head_content, wrapped, message, token, join, report, commit}

-- The events, in order.
abbrev pub events : List (RingEvent Global)
events =
    TimeEvent 1 JoinTime ∷ TimeEvent 2 JoinTime ∷ TimeEvent 3 JoinTime ∷ Deliver 2 1 ∷ Deliver 2 1 ∷ Deliver 3 1 ∷ Deliver 1 2 ∷ Deliver 3 2 ∷
    Deliver 1 3 ∷ Deliver 2 3 ∷ Deliver 2 4 ∷ Deliver 3 5 ∷ Deliver 1 6 ∷ Deliver 2 7 ∷ Deliver 3 8 ∷ Deliver 1 9 ∷ Deliver 2 10 ∷ Deliver 3 10 ∷
    Deliver 2 11 ∷ Deliver 1 12 ∷ Deliver 3 12 ∷ Deliver 3 13 ∷ Deliver 1 14 ∷ Deliver 1 14 ∷ Deliver 2 14 ∷ Deliver 1 15 ∷ Deliver 2 16 ∷
    Deliver 3 17 ∷ Deliver 1 18 ∷ Deliver 2 19 ∷ Deliver 3 20 ∷ Deliver 1 21 ∷ Deliver 2 22 ∷ Deliver 3 23 ∷ Deliver 1 24 ∷ Deliver 2 25 ∷
    Deliver 3 26 ∷ Deliver 1 27 ∷ Deliver 2 28 ∷ Deliver 3 29 ∷ Deliver 1 30 ∷ SendEvent 2 (call 1 1) ∷ Deliver 2 31 ∷ Deliver 1 32 ∷ Deliver 3 32 ∷
    Deliver 3 33 ∷ Deliver 3 30 ∷ TimeEvent 1 Loss ∷ TimeEvent 2 Loss ∷ TimeEvent 3 Loss ∷ Deliver 1 34 ∷ Deliver 2 35 ∷ Deliver 3 35 ∷ Deliver 1 36 ∷
    Deliver 3 36 ∷ Deliver 1 37 ∷ Deliver 2 37 ∷ Deliver 2 38 ∷ TimeEvent 2 Consensus ∷ TimeEvent 3 Consensus ∷ Deliver 3 39 ∷ Deliver 1 40 ∷
    Deliver 2 40 ∷ Deliver 1 41 ∷ Deliver 2 42 ∷ Deliver 3 43 ∷ Deliver 1 44 ∷ Deliver 3 45 ∷ Deliver 2 46 ∷ Deliver 1 47 ∷ Deliver 3 48 ∷
    Deliver 1 49 ∷ Deliver 2 49 ∷ Deliver 1 50 ∷ Deliver 2 50 ∷ Deliver 1 51 ∷ Deliver 2 52 ∷ Deliver 2 53 ∷ Deliver 3 54 ∷ Deliver 1 55 ∷
    Deliver 2 57 ∷ Deliver 3 58 ∷ Deliver 1 59 ∷ Deliver 2 60 ∷ Deliver 3 60 ∷ Deliver 2 49 ∷ Deliver 4 19 ∷ Deliver 2 61 ∷ Deliver 3 62 ∷
    Deliver 1 63 ∷ Deliver 2 64 ∷ Deliver 3 65 ∷ Deliver 1 66 ∷ Deliver 2 67 ∷ SendEvent 2 (call 2 1) ∷ Deliver 3 68 ∷ Deliver 1 69 ∷ Deliver 2 70 ∷
    TimeEvent 2 Loss ∷ TimeEvent 3 Loss ∷ Deliver 3 72 ∷ Deliver 1 73 ∷ Deliver 3 73 ∷ Deliver 1 74 ∷ Deliver 2 74 ∷ Deliver 2 75 ∷ Deliver 3 75 ∷
    Deliver 2 76 ∷ Deliver 3 77 ∷ Deliver 1 78 ∷ Deliver 2 79 ∷ Deliver 3 80 ∷ Deliver 1 81 ∷ Deliver 2 82 ∷ Deliver 2 83 ∷ Deliver 1 84 ∷
    Deliver 1 85 ∷ Deliver 3 85 ∷ Deliver 3 86 ∷ Deliver 1 87 ∷ Deliver 2 87 ∷ Deliver 1 88 ∷ Deliver 2 89 ∷ Deliver 3 89 ∷ Deliver 2 91 ∷
    Deliver 3 92 ∷ Deliver 1 93 ∷ Deliver 2 94 ∷ Deliver 3 94 ∷ Deliver 2 95 ∷ Deliver 3 96 ∷ Deliver 1 97 ∷ Deliver 2 98 ∷ Deliver 3 99 ∷
    Deliver 1 100 ∷ Deliver 2 101 ∷ Deliver 3 102 ∷ Deliver 1 103 ∷ Deliver 2 104 ∷ Deliver 3 105 ∷ Deliver 1 106 ∷ Deliver 2 107 ∷ Deliver 3 108 ∷
    Deliver 1 109 ∷ Deliver 2 110 ∷ Deliver 3 111 ∷ Deliver 1 112 ∷ SendEvent 2 (call 3 1) ∷ SendEvent 1 (call 4 1) ∷ SendEvent 1 head ∷
    SendEvent 1 (call 6 1) ∷ Deliver 2 113 ∷ Deliver 1 114 ∷ Deliver 2 86 ∷ Deliver 3 115 ∷ Deliver 1 116 ∷ Deliver 2 109 ∷ TimeEvent 2 JoinTime ∷
    TimeEvent 2 Retransmit ∷ Deliver 2 119 ∷ Deliver 3 120 ∷ Deliver 2 121 ∷ Deliver 3 122 ∷ Deliver 3 123 ∷ Deliver 1 125 ∷ TimeEvent 1 Loss ∷
    TimeEvent 2 Loss ∷ Deliver 3 128 ∷ Deliver 2 129 ∷ Deliver 2 130 ∷ Deliver 3 130 ∷ Deliver 1 131 ∷ Deliver 3 131 ∷ Deliver 3 131 ∷ Deliver 1 132 ∷
    Deliver 2 132 ∷ Deliver 2 133 ∷ Deliver 3 134 ∷ Deliver 1 135 ∷ Deliver 2 136 ∷ Deliver 3 137 ∷ Deliver 1 138 ∷ Deliver 3 143 ∷ Deliver 2 144 ∷
    Deliver 1 145 ∷ Deliver 1 146 ∷ Deliver 1 147 ∷ Deliver 3 148 ∷ Deliver 1 149 ∷ Deliver 2 150 ∷ Deliver 2 152 ∷ Deliver 1 153 ∷ Deliver 2 155 ∷
    Deliver 2 155 ∷ Deliver 3 157 ∷ Deliver 2 159 ∷ Deliver 3 159 ∷ Deliver 2 161 ∷ TimeEvent 3 JoinTime ∷ TimeEvent 3 Loss ∷ Deliver 1 165 ∷
    Deliver 3 166 ∷ TimeEvent 2 Consensus ∷ SendEvent 1 (wrapped (ring_of 1 1) 1 1 (call_content 7 1)) ∷ SendEvent 2 End ∷
    SendEvent 3 (wrapped (ring_of 1 1) 1 1 (call_content 9 1)) ∷ SendEvent 3 (call 10 1) ∷ SendEvent 1 (call 11 1) ∷ SendEvent 2 (call 12 1) ∷
    TimeEvent 1 Consensus ∷ TimeEvent 2 Consensus ∷ TimeEvent 3 Consensus ∷ Deliver 3 167 ∷ Deliver 1 168 ∷ Deliver 3 169 ∷ Deliver 1 170 ∷
    Deliver 3 171 ∷ Deliver 1 172 ∷ Deliver 3 175 ∷ Deliver 3 174 ∷ []

-- The outputs in order, each with its processor.
abbrev pub outs : List (ℕ × Out Global)
outs =
    (1, SendOut 6 (join 1 0 7 0)) ∷ (2, SendOut 5 (join 2 0 7 0)) ∷ (3, SendOut 3 (join 3 0 7 0)) ∷
    (1, SendOut 2 (commit (ring_of 1 1) 7 1 (report (ring_of 0 1) 0 0 0 ∷ []))) ∷
    (2, SendOut 4 (commit (ring_of 1 1) 7 2 (report (ring_of 0 1) 0 0 0 ∷ report (ring_of 0 2) 0 0 0 ∷ []))) ∷
    (3, SendOut 1 (commit (ring_of 1 1) 7 3 (report (ring_of 0 1) 0 0 0 ∷ report (ring_of 0 2) 0 0 0 ∷ report (ring_of 0 3) 0 0 0 ∷ []))) ∷
    (1, SendOut 2 (commit (ring_of 1 1) 7 4 (report (ring_of 0 1) 0 0 0 ∷ report (ring_of 0 2) 0 0 0 ∷ report (ring_of 0 3) 0 0 0 ∷ []))) ∷
    (2, SendOut 4 (commit (ring_of 1 1) 7 5 (report (ring_of 0 1) 0 0 0 ∷ report (ring_of 0 2) 0 0 0 ∷ report (ring_of 0 3) 0 0 0 ∷ []))) ∷
    (3, SendOut 1 (commit (ring_of 1 1) 7 6 (report (ring_of 0 1) 0 0 0 ∷ report (ring_of 0 2) 0 0 0 ∷ report (ring_of 0 3) 0 0 0 ∷ []))) ∷
    (1, SendOut 6 (MessageFrame (message (ring_of 1 1) 1 1 End))) ∷ (1, SendOut 2 (token (ring_of 1 1) 1 1 1 None [])) ∷
    (2, SendOut 5 (MessageFrame (message (ring_of 1 1) 2 2 End))) ∷ (2, SendOut 4 (token (ring_of 1 1) 2 2 2 None [])) ∷
    (3, SendOut 3 (MessageFrame (message (ring_of 1 1) 3 3 End))) ∷ (3, SendOut 1 (token (ring_of 1 1) 3 3 3 None [])) ∷
    (1, SendOut 2 (token (ring_of 1 1) 4 3 3 None [])) ∷ (2, SendOut 4 (token (ring_of 1 1) 5 3 3 None [])) ∷
    (3, SendOut 1 (token (ring_of 1 1) 6 3 3 None [])) ∷ (3, Trans (ring_of 0 3) (ring_of 1 1) 4) ∷ (3, Regular (ring_of 1 1) 7) ∷
    (3, Safe (ring_of 1 1) 3) ∷ (1, SendOut 2 (token (ring_of 1 1) 7 3 3 None [])) ∷ (1, Trans (ring_of 0 1) (ring_of 1 1) 1) ∷
    (1, Regular (ring_of 1 1) 7) ∷ (1, Safe (ring_of 1 1) 3) ∷ (2, SendOut 4 (token (ring_of 1 1) 8 3 3 None [])) ∷
    (2, Trans (ring_of 0 2) (ring_of 1 1) 2) ∷ (2, Regular (ring_of 1 1) 7) ∷ (2, Safe (ring_of 1 1) 3) ∷
    (3, SendOut 1 (token (ring_of 1 1) 9 3 3 None [])) ∷ (1, SendOut 2 (token (ring_of 1 1) 10 3 3 None [])) ∷
    (2, SendOut 4 (token (ring_of 1 1) 11 3 3 None [])) ∷ (3, SendOut 1 (token (ring_of 1 1) 12 3 3 None [])) ∷
    (1, SendOut 2 (token (ring_of 1 1) 13 3 3 None [])) ∷ (2, SendOut 4 (token (ring_of 1 1) 14 3 3 None [])) ∷
    (3, SendOut 1 (token (ring_of 1 1) 15 3 3 None [])) ∷ (1, SendOut 2 (token (ring_of 1 1) 16 3 3 None [])) ∷
    (2, SendOut 4 (token (ring_of 1 1) 17 3 3 None [])) ∷ (3, SendOut 1 (token (ring_of 1 1) 18 3 3 None [])) ∷
    (1, SendOut 2 (token (ring_of 1 1) 19 3 3 None [])) ∷ (2, SendOut 5 (MessageFrame (message (ring_of 1 1) 4 2 (call 1 1)))) ∷
    (2, SendOut 4 (token (ring_of 1 1) 20 4 4 None [])) ∷ (2, Agreed (ring_of 1 1) 4 (message (ring_of 1 1) 4 2 (call 1 1))) ∷
    (1, Agreed (ring_of 1 1) 4 (message (ring_of 1 1) 4 2 (call 1 1))) ∷ (3, Agreed (ring_of 1 1) 4 (message (ring_of 1 1) 4 2 (call 1 1))) ∷
    (3, SendOut 1 (token (ring_of 1 1) 21 4 4 None [])) ∷ (1, SendOut 6 (join 1 1 7 0)) ∷ (2, SendOut 5 (join 2 1 7 0)) ∷
    (3, SendOut 3 (join 3 1 7 0)) ∷ (1, SendOut 2 (commit (ring_of 2 1) 7 1 (report (ring_of 1 1) 4 3 0 ∷ []))) ∷
    (2, SendOut 4 (commit (ring_of 2 1) 7 2 (report (ring_of 1 1) 4 3 0 ∷ report (ring_of 1 1) 4 3 0 ∷ []))) ∷ (3, SendOut 3 (join 3 1 7 0)) ∷
    (3, SendOut 1 (commit (ring_of 2 1) 7 3 (report (ring_of 1 1) 4 3 0 ∷ report (ring_of 1 1) 4 3 0 ∷ report (ring_of 1 1) 4 3 0 ∷ []))) ∷
    (1, SendOut 2 (commit (ring_of 2 1) 7 4 (report (ring_of 1 1) 4 3 0 ∷ report (ring_of 1 1) 4 3 0 ∷ report (ring_of 1 1) 4 3 0 ∷ []))) ∷
    (2, SendOut 4 (commit (ring_of 2 1) 7 5 (report (ring_of 1 1) 4 3 0 ∷ report (ring_of 1 1) 4 3 0 ∷ report (ring_of 1 1) 4 3 0 ∷ []))) ∷
    (3, SendOut 1 (commit (ring_of 2 1) 7 6 (report (ring_of 1 1) 4 3 0 ∷ report (ring_of 1 1) 4 3 0 ∷ report (ring_of 1 1) 4 3 0 ∷ []))) ∷
    (1, SendOut 6 (MessageFrame (message (ring_of 2 1) 1 1 End))) ∷ (1, SendOut 2 (token (ring_of 2 1) 1 1 1 None [])) ∷
    (2, SendOut 5 (MessageFrame (message (ring_of 2 1) 2 2 End))) ∷ (2, SendOut 4 (token (ring_of 2 1) 2 2 0 (Some 2) (1 ∷ []))) ∷
    (3, SendOut 3 (MessageFrame (message (ring_of 2 1) 1 1 End))) ∷ (3, SendOut 3 (MessageFrame (message (ring_of 2 1) 3 3 End))) ∷
    (3, SendOut 1 (token (ring_of 2 1) 3 3 0 (Some 2) (2 ∷ []))) ∷ (1, SendOut 6 (MessageFrame (message (ring_of 2 1) 2 2 End))) ∷
    (1, SendOut 2 (token (ring_of 2 1) 4 3 0 (Some 2) [])) ∷ (2, SendOut 4 (token (ring_of 2 1) 5 3 3 None [])) ∷
    (3, SendOut 1 (token (ring_of 2 1) 6 3 1 (Some 3) (2 ∷ []))) ∷ (1, SendOut 6 (MessageFrame (message (ring_of 2 1) 2 2 End))) ∷
    (1, SendOut 2 (token (ring_of 2 1) 7 3 1 (Some 3) [])) ∷ (2, SendOut 4 (token (ring_of 2 1) 8 3 1 (Some 3) [])) ∷
    (3, SendOut 1 (token (ring_of 2 1) 9 3 1 (Some 3) (2 ∷ []))) ∷ (1, SendOut 6 (MessageFrame (message (ring_of 2 1) 2 2 End))) ∷
    (1, SendOut 2 (token (ring_of 2 1) 10 3 1 (Some 3) [])) ∷ (2, SendOut 4 (token (ring_of 2 1) 11 3 1 (Some 3) [])) ∷
    (3, SendOut 1 (token (ring_of 2 1) 12 3 3 None [])) ∷ (1, SendOut 2 (token (ring_of 2 1) 13 3 3 None [])) ∷
    (2, SendOut 4 (token (ring_of 2 1) 14 3 3 None [])) ∷ (3, SendOut 1 (token (ring_of 2 1) 15 3 3 None [])) ∷
    (3, Trans (ring_of 1 1) (ring_of 2 1) 7) ∷ (3, Rest (ring_of 1 1) 4 (message (ring_of 1 1) 4 2 (call 1 1))) ∷ (3, Regular (ring_of 2 1) 7) ∷
    (3, Safe (ring_of 2 1) 3) ∷ (1, SendOut 2 (token (ring_of 2 1) 16 3 3 None [])) ∷ (1, Trans (ring_of 1 1) (ring_of 2 1) 7) ∷
    (1, Rest (ring_of 1 1) 4 (message (ring_of 1 1) 4 2 (call 1 1))) ∷ (1, Regular (ring_of 2 1) 7) ∷ (1, Safe (ring_of 2 1) 3) ∷
    (2, SendOut 4 (token (ring_of 2 1) 17 3 3 None [])) ∷ (2, Trans (ring_of 1 1) (ring_of 2 1) 7) ∷
    (2, Rest (ring_of 1 1) 4 (message (ring_of 1 1) 4 2 (call 1 1))) ∷ (2, Regular (ring_of 2 1) 7) ∷ (2, Safe (ring_of 2 1) 3) ∷
    (3, SendOut 1 (token (ring_of 2 1) 18 3 3 None [])) ∷ (1, SendOut 2 (token (ring_of 2 1) 19 3 3 None [])) ∷
    (2, SendOut 5 (MessageFrame (message (ring_of 2 1) 4 2 (call 2 1)))) ∷ (2, SendOut 4 (token (ring_of 2 1) 20 4 4 None [])) ∷
    (2, Agreed (ring_of 2 1) 4 (message (ring_of 2 1) 4 2 (call 2 1))) ∷ (2, SendOut 5 (join 2 2 7 0)) ∷ (3, SendOut 3 (join 3 2 7 0)) ∷
    (1, SendOut 6 (join 1 2 7 0)) ∷ (1, SendOut 2 (commit (ring_of 3 1) 7 1 (report (ring_of 2 1) 3 3 0 ∷ []))) ∷
    (2, SendOut 4 (commit (ring_of 3 1) 7 2 (report (ring_of 2 1) 3 3 0 ∷ report (ring_of 2 1) 4 3 0 ∷ []))) ∷
    (3, SendOut 1 (commit (ring_of 3 1) 7 3 (report (ring_of 2 1) 3 3 0 ∷ report (ring_of 2 1) 4 3 0 ∷ report (ring_of 2 1) 3 3 0 ∷ []))) ∷
    (1, SendOut 2 (commit (ring_of 3 1) 7 4 (report (ring_of 2 1) 3 3 0 ∷ report (ring_of 2 1) 4 3 0 ∷ report (ring_of 2 1) 3 3 0 ∷ []))) ∷
    (2, SendOut 4 (commit (ring_of 3 1) 7 5 (report (ring_of 2 1) 3 3 0 ∷ report (ring_of 2 1) 4 3 0 ∷ report (ring_of 2 1) 3 3 0 ∷ []))) ∷
    (3, SendOut 1 (commit (ring_of 3 1) 7 6 (report (ring_of 2 1) 3 3 0 ∷ report (ring_of 2 1) 4 3 0 ∷ report (ring_of 2 1) 3 3 0 ∷ []))) ∷
    (1, SendOut 6 (MessageFrame (message (ring_of 3 1) 1 1 End))) ∷ (1, SendOut 2 (token (ring_of 3 1) 1 1 1 None [])) ∷
    (2, SendOut 5 (MessageFrame (message (ring_of 3 1) 2 2 (wrapped (ring_of 2 1) 4 2 (call_content 2 1))))) ∷
    (2, SendOut 5 (MessageFrame (message (ring_of 3 1) 3 2 End))) ∷ (2, SendOut 4 (token (ring_of 3 1) 2 3 3 None [])) ∷
    (1, Agreed (ring_of 2 1) 4 (message (ring_of 2 1) 4 2 (call 2 1))) ∷ (3, SendOut 3 (MessageFrame (message (ring_of 3 1) 4 3 End))) ∷
    (3, SendOut 1 (token (ring_of 3 1) 3 4 0 (Some 3) (1 ∷ 2 ∷ []))) ∷ (1, SendOut 6 (MessageFrame (message (ring_of 3 1) 1 1 End))) ∷
    (1, SendOut 6 (MessageFrame (message (ring_of 3 1) 2 2 (wrapped (ring_of 2 1) 4 2 (call_content 2 1))))) ∷
    (1, SendOut 2 (token (ring_of 3 1) 4 4 0 (Some 3) [])) ∷ (2, SendOut 4 (token (ring_of 3 1) 5 4 0 (Some 3) [])) ∷
    (3, SendOut 1 (token (ring_of 3 1) 6 4 1 (Some 3) (2 ∷ []))) ∷
    (1, SendOut 6 (MessageFrame (message (ring_of 3 1) 2 2 (wrapped (ring_of 2 1) 4 2 (call_content 2 1))))) ∷
    (1, SendOut 2 (token (ring_of 3 1) 7 4 1 (Some 3) [])) ∷ (3, Agreed (ring_of 2 1) 4 (message (ring_of 2 1) 4 2 (call 2 1))) ∷
    (2, SendOut 4 (token (ring_of 3 1) 8 4 1 (Some 3) [])) ∷ (3, SendOut 1 (token (ring_of 3 1) 9 4 4 None [])) ∷
    (1, SendOut 2 (token (ring_of 3 1) 10 4 4 None [])) ∷ (2, SendOut 4 (token (ring_of 3 1) 11 4 4 None [])) ∷
    (3, SendOut 1 (token (ring_of 3 1) 12 4 4 None [])) ∷ (3, Trans (ring_of 2 1) (ring_of 3 1) 7) ∷
    (3, Rest (ring_of 2 1) 4 (message (ring_of 2 1) 4 2 (call 2 1))) ∷ (3, Regular (ring_of 3 1) 7) ∷ (3, Safe (ring_of 3 1) 4) ∷
    (1, SendOut 2 (token (ring_of 3 1) 13 4 4 None [])) ∷ (1, Trans (ring_of 2 1) (ring_of 3 1) 7) ∷
    (1, Rest (ring_of 2 1) 4 (message (ring_of 2 1) 4 2 (call 2 1))) ∷ (1, Regular (ring_of 3 1) 7) ∷ (1, Safe (ring_of 3 1) 4) ∷
    (2, SendOut 4 (token (ring_of 3 1) 14 4 4 None [])) ∷ (2, Trans (ring_of 2 1) (ring_of 3 1) 7) ∷
    (2, Rest (ring_of 2 1) 4 (message (ring_of 2 1) 4 2 (call 2 1))) ∷ (2, Regular (ring_of 3 1) 7) ∷ (2, Safe (ring_of 3 1) 4) ∷
    (3, SendOut 1 (token (ring_of 3 1) 15 4 4 None [])) ∷ (1, SendOut 2 (token (ring_of 3 1) 16 4 4 None [])) ∷
    (2, SendOut 4 (token (ring_of 3 1) 17 4 4 None [])) ∷ (3, SendOut 1 (token (ring_of 3 1) 18 4 4 None [])) ∷
    (1, SendOut 2 (token (ring_of 3 1) 19 4 4 None [])) ∷ (2, SendOut 4 (token (ring_of 3 1) 20 4 4 None [])) ∷
    (3, SendOut 1 (token (ring_of 3 1) 21 4 4 None [])) ∷ (1, SendOut 2 (token (ring_of 3 1) 22 4 4 None [])) ∷
    (2, SendOut 4 (token (ring_of 3 1) 23 4 4 None [])) ∷ (3, SendOut 1 (token (ring_of 3 1) 24 4 4 None [])) ∷
    (1, SendOut 2 (token (ring_of 3 1) 25 4 4 None [])) ∷ (2, SendOut 5 (MessageFrame (message (ring_of 3 1) 5 2 (call 3 1)))) ∷
    (2, SendOut 4 (token (ring_of 3 1) 26 5 5 None [])) ∷ (2, Agreed (ring_of 3 1) 5 (message (ring_of 3 1) 5 2 (call 3 1))) ∷
    (1, Agreed (ring_of 3 1) 5 (message (ring_of 3 1) 5 2 (call 3 1))) ∷ (3, SendOut 1 (token (ring_of 3 1) 27 5 4 (Some 3) (5 ∷ []))) ∷
    (1, SendOut 6 (MessageFrame (message (ring_of 3 1) 5 2 (call 3 1)))) ∷ (1, SendOut 6 (MessageFrame (message (ring_of 3 1) 6 1 (call 4 1)))) ∷
    (1, SendOut 6 (MessageFrame (message (ring_of 3 1) 7 1 head))) ∷ (1, SendOut 6 (MessageFrame (message (ring_of 3 1) 8 1 (call 6 1)))) ∷
    (1, SendOut 2 (token (ring_of 3 1) 28 8 4 (Some 3) [])) ∷ (1, Agreed (ring_of 3 1) 6 (message (ring_of 3 1) 6 1 (call 4 1))) ∷
    (1, Agreed (ring_of 3 1) 7 (message (ring_of 3 1) 7 1 head)) ∷ (1, Agreed (ring_of 3 1) 8 (message (ring_of 3 1) 8 1 (call 6 1))) ∷
    (2, SendOut 4 (token (ring_of 3 1) 26 5 5 None [])) ∷ (2, SendOut 4 (token (ring_of 3 1) 29 8 4 (Some 3) (6 ∷ 8 ∷ []))) ∷
    (3, SendOut 3 (MessageFrame (message (ring_of 3 1) 8 1 (call 6 1)))) ∷ (3, SendOut 1 (token (ring_of 3 1) 30 8 4 (Some 3) (5 ∷ 6 ∷ 7 ∷ []))) ∷
    (1, SendOut 6 (MessageFrame (message (ring_of 3 1) 5 2 (call 3 1)))) ∷ (1, SendOut 6 (MessageFrame (message (ring_of 3 1) 6 1 (call 4 1)))) ∷
    (1, SendOut 6 (MessageFrame (message (ring_of 3 1) 7 1 head))) ∷ (1, SendOut 2 (token (ring_of 3 1) 31 8 4 (Some 3) [])) ∷
    (1, SendOut 6 (join 1 3 7 0)) ∷ (2, SendOut 5 (join 2 3 7 0)) ∷ (3, SendOut 3 (join 3 3 7 0)) ∷
    (1, SendOut 2 (commit (ring_of 4 1) 7 1 (report (ring_of 3 1) 8 4 0 ∷ []))) ∷
    (2, SendOut 4 (commit (ring_of 4 1) 7 2 (report (ring_of 3 1) 8 4 0 ∷ report (ring_of 3 1) 5 4 2 ∷ []))) ∷
    (3, SendOut 1 (commit (ring_of 4 1) 7 3 (report (ring_of 3 1) 8 4 0 ∷ report (ring_of 3 1) 5 4 2 ∷ report (ring_of 3 1) 4 4 12 ∷ []))) ∷
    (1, SendOut 2 (commit (ring_of 4 1) 7 4 (report (ring_of 3 1) 8 4 0 ∷ report (ring_of 3 1) 5 4 2 ∷ report (ring_of 3 1) 4 4 12 ∷ []))) ∷
    (2, SendOut 4 (commit (ring_of 4 1) 7 5 (report (ring_of 3 1) 8 4 0 ∷ report (ring_of 3 1) 5 4 2 ∷ report (ring_of 3 1) 4 4 12 ∷ []))) ∷
    (3, SendOut 1 (commit (ring_of 4 1) 7 6 (report (ring_of 3 1) 8 4 0 ∷ report (ring_of 3 1) 5 4 2 ∷ report (ring_of 3 1) 4 4 12 ∷ []))) ∷
    (1, SendOut 6 (MessageFrame (message (ring_of 4 1) 1 1 (wrapped (ring_of 3 1) 5 2 (call_content 3 1))))) ∷
    (1, SendOut 6 (MessageFrame (message (ring_of 4 1) 2 1 (wrapped (ring_of 3 1) 6 1 (call_content 4 1))))) ∷
    (1, SendOut 6 (MessageFrame (message (ring_of 4 1) 3 1 (wrapped (ring_of 3 1) 7 1 head_content)))) ∷
    (1, SendOut 6 (MessageFrame (message (ring_of 4 1) 4 1 (wrapped (ring_of 3 1) 8 1 (call_content 6 1))))) ∷
    (1, SendOut 6 (MessageFrame (message (ring_of 4 1) 5 1 End))) ∷ (1, SendOut 2 (token (ring_of 4 1) 1 5 5 None [])) ∷
    (2, SendOut 5 (MessageFrame (message (ring_of 4 1) 6 2 (wrapped (ring_of 3 1) 5 2 (call_content 3 1))))) ∷
    (2, SendOut 5 (MessageFrame (message (ring_of 4 1) 7 2 (wrapped (ring_of 3 1) 7 1 head_content)))) ∷
    (2, SendOut 5 (MessageFrame (message (ring_of 4 1) 8 2 End))) ∷ (2, SendOut 4 (token (ring_of 4 1) 2 8 0 (Some 2) (1 ∷ 2 ∷ 3 ∷ 4 ∷ 5 ∷ []))) ∷
    (3, SendOut 3 (MessageFrame (message (ring_of 4 1) 5 1 End))) ∷
    (3, SendOut 3 (MessageFrame (message (ring_of 4 1) 9 3 (wrapped (ring_of 3 1) 7 1 head_content)))) ∷
    (3, SendOut 3 (MessageFrame (message (ring_of 4 1) 10 3 (wrapped (ring_of 3 1) 8 1 (call_content 6 1))))) ∷
    (3, SendOut 3 (MessageFrame (message (ring_of 4 1) 11 3 End))) ∷
    (3, SendOut 1 (token (ring_of 4 1) 3 11 0 (Some 2) (1 ∷ 2 ∷ 3 ∷ 4 ∷ 6 ∷ 7 ∷ 8 ∷ []))) ∷
    (1, SendOut 6 (MessageFrame (message (ring_of 4 1) 1 1 (wrapped (ring_of 3 1) 5 2 (call_content 3 1))))) ∷
    (1, SendOut 6 (MessageFrame (message (ring_of 4 1) 2 1 (wrapped (ring_of 3 1) 6 1 (call_content 4 1))))) ∷
    (1, SendOut 6 (MessageFrame (message (ring_of 4 1) 3 1 (wrapped (ring_of 3 1) 7 1 head_content)))) ∷
    (1, SendOut 6 (MessageFrame (message (ring_of 4 1) 4 1 (wrapped (ring_of 3 1) 8 1 (call_content 6 1))))) ∷
    (1, SendOut 6 (MessageFrame (message (ring_of 4 1) 6 2 (wrapped (ring_of 3 1) 5 2 (call_content 3 1))))) ∷
    (1, SendOut 6 (MessageFrame (message (ring_of 4 1) 7 2 (wrapped (ring_of 3 1) 7 1 head_content)))) ∷
    (1, SendOut 6 (MessageFrame (message (ring_of 4 1) 8 2 End))) ∷ (1, SendOut 2 (token (ring_of 4 1) 4 11 0 (Some 2) (9 ∷ 10 ∷ 11 ∷ []))) ∷
    (2, Agreed (ring_of 3 1) 6 (message (ring_of 3 1) 6 1 (call 4 1))) ∷ (2, Agreed (ring_of 3 1) 7 (message (ring_of 3 1) 7 1 head)) ∷
    (2, SendOut 5 (MessageFrame (message (ring_of 4 1) 9 3 (wrapped (ring_of 3 1) 7 1 head_content)))) ∷
    (2, SendOut 5 (MessageFrame (message (ring_of 4 1) 11 3 End))) ∷ (2, SendOut 4 (token (ring_of 4 1) 5 11 0 (Some 2) (1 ∷ 3 ∷ 4 ∷ 5 ∷ 10 ∷ []))) ∷
    (3, SendOut 3 (join 3 4 7 0)) ∷ (1, SendOut 6 (join 1 4 7 0)) ∷ (1, SendOut 6 (join 1 4 7 2)) ∷ (3, SendOut 3 (join 3 4 7 2)) ∷
    (1, SendOut 4 (commit (ring_of 5 1) 5 1 (report (ring_of 3 1) 8 4 0 ∷ []))) ∷
    (3, SendOut 1 (commit (ring_of 5 1) 5 2 (report (ring_of 3 1) 8 4 0 ∷ report (ring_of 3 1) 4 4 12 ∷ []))) ∷
    (1, SendOut 4 (commit (ring_of 5 1) 5 3 (report (ring_of 3 1) 8 4 0 ∷ report (ring_of 3 1) 4 4 12 ∷ []))) ∷
    (3, SendOut 1 (commit (ring_of 5 1) 5 4 (report (ring_of 3 1) 8 4 0 ∷ report (ring_of 3 1) 4 4 12 ∷ []))) ∷
    (1, SendOut 4 (MessageFrame (message (ring_of 5 1) 1 1 (wrapped (ring_of 3 1) 5 2 (call_content 3 1))))) ∷
    (1, SendOut 4 (MessageFrame (message (ring_of 5 1) 2 1 (wrapped (ring_of 3 1) 6 1 (call_content 4 1))))) ∷
    (1, SendOut 4 (MessageFrame (message (ring_of 5 1) 3 1 (wrapped (ring_of 3 1) 7 1 head_content)))) ∷
    (1, SendOut 4 (MessageFrame (message (ring_of 5 1) 4 1 (wrapped (ring_of 3 1) 8 1 (call_content 6 1))))) ∷
    (1, SendOut 4 (MessageFrame (message (ring_of 5 1) 5 1 End))) ∷ (1, SendOut 4 (token (ring_of 5 1) 1 5 5 None [])) ∷ []

-- The world to which the schedule leads.
abbrev pub world : World Global
world = run (unformed 3) events
