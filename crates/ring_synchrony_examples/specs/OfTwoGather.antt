-- A random schedule of two processors: a join with other sets makes a node in a ring enter Gather.
-- The outputs are those of an independent implementation of the protocol.
use Rattle.std.specs.Prelude.{ℕ, List, [], ◌∷◌, Some, None}
use Rattle.std.specs.declared.alloc.Global.{Global}
use Rattle.ring_payload.specs.declared.content.Payload.TheVariants.{End}
use Rattle.ring_wire.specs.declared.frame.Frame.TheVariants.{Message as MessageFrame}
use Rattle.ring_base.specs.declared.timeout_kind.Kind.TheVariants.{Retransmit, Join as JoinTime, Consensus, Loss}
use Rattle.ring_core_spec.specs.declared.out.Out.{Out}
use Rattle.ring_core_spec.specs.declared.out.Out.TheVariants.{Send as SendOut, Agreed, Safe, Trans, Rest, Regular}
use Rattle.ring_core_proof.specs.declared.event.RingEvent.{RingEvent}
use Rattle.ring_core_proof.specs.declared.event.RingEvent.TheVariants.{Send as SendEvent, Deliver, Timeout as TimeEvent}
use Rattle.ring_core_proof.specs.Worlds.{World, run, unformed}
use Rattle.ring_core_proof.specs.Samples.{ring_of}
use Rattle.ring_synchrony_examples.specs.Words.{call_of, call, call_content, head_after, part, pack, wrapped, message, token, join, report, commit}

-- The events, in order.
abbrev pub events : List (RingEvent Global)
events =
    TimeEvent 2 Retransmit ∷ SendEvent 1 (call 1 1) ∷ SendEvent 1 (call 2 1) ∷ SendEvent 1 (call 3 1) ∷ SendEvent 1 (call 4 1) ∷
    TimeEvent 1 Consensus ∷ Deliver 2 1 ∷ Deliver 1 2 ∷ SendEvent 1 (part 0 (call_of 5 1 ∷ [])) ∷ SendEvent 2 (call 6 1) ∷ SendEvent 1 (call 7 1) ∷
    Deliver 1 3 ∷ Deliver 2 4 ∷ Deliver 1 5 ∷ Deliver 2 6 ∷ Deliver 1 7 ∷ SendEvent 2 (call 8 1) ∷ SendEvent 2 (call 9 1) ∷
    SendEvent 2 (part 0 (call_of 10 1 ∷ [])) ∷ SendEvent 2 (head_after (ring_of 2 1) 5 2) ∷ Deliver 2 8 ∷ Deliver 1 9 ∷ Deliver 2 10 ∷ Deliver 1 11 ∷
    Deliver 2 12 ∷ Deliver 1 13 ∷ Deliver 2 14 ∷ Deliver 1 15 ∷ Deliver 2 16 ∷ Deliver 1 17 ∷ Deliver 2 18 ∷ Deliver 1 19 ∷ Deliver 2 20 ∷
    SendEvent 1 (call 12 1) ∷ Deliver 1 21 ∷ Deliver 2 22 ∷ Deliver 1 23 ∷ Deliver 2 24 ∷ Deliver 1 25 ∷ Deliver 2 26 ∷ Deliver 1 27 ∷ Deliver 2 28 ∷
    Deliver 1 29 ∷ Deliver 2 30 ∷ Deliver 2 30 ∷ TimeEvent 1 Loss ∷ Deliver 1 31 ∷ Deliver 2 32 ∷ Deliver 2 33 ∷ Deliver 1 34 ∷ Deliver 2 35 ∷
    Deliver 1 36 ∷ Deliver 1 37 ∷ Deliver 1 38 ∷ Deliver 1 38 ∷ Deliver 1 39 ∷ Deliver 1 40 ∷ Deliver 1 41 ∷ Deliver 1 42 ∷ Deliver 1 43 ∷
    Deliver 1 44 ∷ Deliver 1 45 ∷ Deliver 1 46 ∷ Deliver 1 47 ∷ Deliver 1 48 ∷ Deliver 1 49 ∷ Deliver 1 50 ∷ Deliver 1 51 ∷ Deliver 1 52 ∷
    Deliver 1 53 ∷ Deliver 1 54 ∷ Deliver 1 55 ∷ Deliver 1 55 ∷ Deliver 1 56 ∷ Deliver 1 56 ∷ Deliver 1 57 ∷ Deliver 1 58 ∷ Deliver 1 59 ∷
    Deliver 1 60 ∷ Deliver 1 61 ∷ Deliver 1 62 ∷ Deliver 1 63 ∷ Deliver 1 64 ∷ Deliver 1 65 ∷ Deliver 1 66 ∷ Deliver 1 67 ∷ Deliver 1 68 ∷
    Deliver 1 69 ∷ Deliver 1 70 ∷ Deliver 1 71 ∷ Deliver 1 72 ∷ Deliver 1 73 ∷ Deliver 1 74 ∷ Deliver 1 75 ∷ Deliver 1 76 ∷ Deliver 1 77 ∷
    Deliver 1 78 ∷ Deliver 1 79 ∷ Deliver 1 80 ∷ Deliver 1 81 ∷ Deliver 1 82 ∷ Deliver 1 83 ∷ Deliver 1 84 ∷ Deliver 1 85 ∷ Deliver 1 86 ∷
    Deliver 1 87 ∷ Deliver 1 88 ∷ Deliver 1 89 ∷ Deliver 1 90 ∷ Deliver 1 91 ∷ Deliver 1 92 ∷ Deliver 1 93 ∷ Deliver 1 94 ∷ Deliver 1 95 ∷
    Deliver 1 96 ∷ Deliver 1 97 ∷ Deliver 1 98 ∷ Deliver 1 99 ∷ Deliver 1 100 ∷ Deliver 1 101 ∷ Deliver 1 102 ∷ Deliver 1 103 ∷ Deliver 1 104 ∷
    Deliver 1 105 ∷ Deliver 1 105 ∷ TimeEvent 1 Consensus ∷ Deliver 1 106 ∷ Deliver 1 107 ∷ Deliver 1 108 ∷ Deliver 1 109 ∷ Deliver 1 110 ∷
    Deliver 1 111 ∷ Deliver 1 111 ∷ Deliver 1 112 ∷ Deliver 1 113 ∷ Deliver 1 114 ∷ Deliver 1 115 ∷ Deliver 1 116 ∷ Deliver 1 117 ∷ Deliver 1 118 ∷
    Deliver 1 119 ∷ Deliver 1 120 ∷ Deliver 1 121 ∷ Deliver 1 122 ∷ Deliver 1 123 ∷ Deliver 1 124 ∷ Deliver 1 125 ∷ Deliver 1 126 ∷ Deliver 1 127 ∷
    Deliver 1 128 ∷ Deliver 1 129 ∷ Deliver 1 130 ∷ Deliver 1 131 ∷ Deliver 1 132 ∷ Deliver 1 133 ∷ Deliver 1 134 ∷ Deliver 1 135 ∷ Deliver 1 136 ∷
    Deliver 1 137 ∷ Deliver 1 138 ∷ Deliver 1 139 ∷ Deliver 1 140 ∷ Deliver 1 141 ∷ Deliver 1 142 ∷ Deliver 1 143 ∷ Deliver 1 144 ∷ Deliver 1 145 ∷
    Deliver 1 146 ∷ Deliver 1 147 ∷ Deliver 1 148 ∷ Deliver 1 149 ∷ Deliver 1 150 ∷ Deliver 1 151 ∷ Deliver 1 152 ∷ SendEvent 1 (call 13 1) ∷
    SendEvent 2 (call 14 1) ∷ SendEvent 1 (wrapped (ring_of 1 1) 1 1 (call_content 15 1)) ∷ SendEvent 1 (call 16 1) ∷ SendEvent 2 (call 17 1) ∷
    SendEvent 2 (head_after (ring_of 1 1) 5 2) ∷ TimeEvent 2 JoinTime ∷ Deliver 1 153 ∷ Deliver 1 154 ∷ Deliver 2 156 ∷ Deliver 2 157 ∷
    Deliver 1 158 ∷ Deliver 1 158 ∷ Deliver 1 155 ∷ Deliver 2 159 ∷ Deliver 1 160 ∷ Deliver 2 161 ∷ Deliver 2 162 ∷ Deliver 1 164 ∷ Deliver 2 165 ∷
    Deliver 1 167 ∷ Deliver 2 168 ∷ Deliver 1 170 ∷ Deliver 1 169 ∷ Deliver 2 171 ∷ Deliver 1 173 ∷ TimeEvent 1 Retransmit ∷ Deliver 2 174 ∷
    Deliver 2 175 ∷ Deliver 1 176 ∷ Deliver 1 36 ∷ []

-- The outputs in order, each with its processor.
abbrev pub outs : List (ℕ × Out Global)
outs =
    (1, SendOut 2 (join 1 0 3 2)) ∷ (1, SendOut 1 (commit (ring_of 1 1) 1 1 (report (ring_of 0 1) 0 0 0 ∷ []))) ∷ (2, SendOut 1 (join 2 0 3 1)) ∷
    (2, SendOut 2 (commit (ring_of 1 2) 2 1 (report (ring_of 0 2) 0 0 0 ∷ []))) ∷
    (1, SendOut 1 (commit (ring_of 1 1) 1 2 (report (ring_of 0 1) 0 0 0 ∷ []))) ∷
    (2, SendOut 2 (commit (ring_of 1 2) 2 2 (report (ring_of 0 2) 0 0 0 ∷ []))) ∷ (1, SendOut 1 (token (ring_of 1 1) 1 1 1 None [])) ∷
    (2, SendOut 2 (token (ring_of 1 2) 1 1 1 None [])) ∷ (1, SendOut 1 (token (ring_of 1 1) 2 1 1 None [])) ∷
    (1, Trans (ring_of 0 1) (ring_of 1 1) 1) ∷ (1, Regular (ring_of 1 1) 1) ∷ (1, Safe (ring_of 1 1) 1) ∷
    (2, SendOut 2 (token (ring_of 1 2) 2 1 1 None [])) ∷ (2, Trans (ring_of 0 2) (ring_of 1 2) 2) ∷ (2, Regular (ring_of 1 2) 2) ∷
    (2, Safe (ring_of 1 2) 1) ∷ (1, SendOut 1 (token (ring_of 1 1) 3 1 1 None [])) ∷ (2, SendOut 2 (token (ring_of 1 2) 3 1 1 None [])) ∷
    (1, SendOut 1 (token (ring_of 1 1) 4 1 1 None [])) ∷ (2, SendOut 2 (token (ring_of 1 2) 4 1 1 None [])) ∷
    (1, SendOut 1 (token (ring_of 1 1) 5 1 1 None [])) ∷ (2, SendOut 2 (token (ring_of 1 2) 5 1 1 None [])) ∷
    (1, SendOut 1 (token (ring_of 1 1) 6 1 1 None [])) ∷ (2, SendOut 2 (token (ring_of 1 2) 6 1 1 None [])) ∷
    (1, SendOut 1 (token (ring_of 1 1) 7 1 1 None [])) ∷ (2, SendOut 2 (token (ring_of 1 2) 7 1 1 None [])) ∷
    (1, SendOut 1 (token (ring_of 1 1) 8 1 1 None [])) ∷ (2, SendOut 2 (token (ring_of 1 2) 8 1 1 None [])) ∷
    (1, SendOut 1 (token (ring_of 1 1) 9 2 2 None [])) ∷ (1, Agreed (ring_of 1 1) 2 (message (ring_of 1 1) 2 1 (call 12 1))) ∷
    (2, SendOut 2 (token (ring_of 1 2) 9 1 1 None [])) ∷ (1, SendOut 1 (token (ring_of 1 1) 10 2 2 None [])) ∷ (1, Safe (ring_of 1 1) 2) ∷
    (2, SendOut 2 (token (ring_of 1 2) 10 1 1 None [])) ∷ (1, SendOut 1 (token (ring_of 1 1) 11 2 2 None [])) ∷
    (2, SendOut 2 (token (ring_of 1 2) 11 1 1 None [])) ∷ (1, SendOut 1 (token (ring_of 1 1) 12 2 2 None [])) ∷
    (2, SendOut 2 (token (ring_of 1 2) 12 1 1 None [])) ∷ (1, SendOut 1 (token (ring_of 1 1) 13 2 2 None [])) ∷
    (2, SendOut 2 (token (ring_of 1 2) 13 1 1 None [])) ∷ (1, SendOut 2 (join 1 1 1 0)) ∷
    (1, SendOut 1 (commit (ring_of 2 1) 1 1 (report (ring_of 1 1) 2 2 0 ∷ []))) ∷ (2, SendOut 2 (token (ring_of 1 2) 14 1 1 None [])) ∷
    (2, SendOut 1 (join 2 1 3 0)) ∷ (1, SendOut 1 (commit (ring_of 2 1) 1 2 (report (ring_of 1 1) 2 2 0 ∷ []))) ∷
    (1, SendOut 1 (token (ring_of 2 1) 1 1 1 None [])) ∷ (1, SendOut 1 (token (ring_of 2 1) 2 1 1 None [])) ∷
    (1, Trans (ring_of 1 1) (ring_of 2 1) 1) ∷ (1, Regular (ring_of 2 1) 1) ∷ (1, Safe (ring_of 2 1) 1) ∷
    (1, SendOut 1 (token (ring_of 2 1) 3 1 1 None [])) ∷ (1, SendOut 1 (token (ring_of 2 1) 4 1 1 None [])) ∷
    (1, SendOut 1 (token (ring_of 2 1) 5 1 1 None [])) ∷ (1, SendOut 1 (token (ring_of 2 1) 6 1 1 None [])) ∷
    (1, SendOut 1 (token (ring_of 2 1) 7 1 1 None [])) ∷ (1, SendOut 1 (token (ring_of 2 1) 8 1 1 None [])) ∷
    (1, SendOut 1 (token (ring_of 2 1) 9 1 1 None [])) ∷ (1, SendOut 1 (token (ring_of 2 1) 10 1 1 None [])) ∷
    (1, SendOut 1 (token (ring_of 2 1) 11 1 1 None [])) ∷ (1, SendOut 1 (token (ring_of 2 1) 12 1 1 None [])) ∷
    (1, SendOut 1 (token (ring_of 2 1) 13 1 1 None [])) ∷ (1, SendOut 1 (token (ring_of 2 1) 14 1 1 None [])) ∷
    (1, SendOut 1 (token (ring_of 2 1) 15 1 1 None [])) ∷ (1, SendOut 1 (token (ring_of 2 1) 16 1 1 None [])) ∷
    (1, SendOut 1 (token (ring_of 2 1) 17 1 1 None [])) ∷ (1, SendOut 1 (token (ring_of 2 1) 18 1 1 None [])) ∷
    (1, SendOut 1 (token (ring_of 2 1) 19 1 1 None [])) ∷ (1, SendOut 1 (token (ring_of 2 1) 20 1 1 None [])) ∷
    (1, SendOut 1 (token (ring_of 2 1) 21 1 1 None [])) ∷ (1, SendOut 1 (token (ring_of 2 1) 22 1 1 None [])) ∷
    (1, SendOut 1 (token (ring_of 2 1) 23 1 1 None [])) ∷ (1, SendOut 1 (token (ring_of 2 1) 24 1 1 None [])) ∷
    (1, SendOut 1 (token (ring_of 2 1) 25 1 1 None [])) ∷ (1, SendOut 1 (token (ring_of 2 1) 26 1 1 None [])) ∷
    (1, SendOut 1 (token (ring_of 2 1) 27 1 1 None [])) ∷ (1, SendOut 1 (token (ring_of 2 1) 28 1 1 None [])) ∷
    (1, SendOut 1 (token (ring_of 2 1) 29 1 1 None [])) ∷ (1, SendOut 1 (token (ring_of 2 1) 30 1 1 None [])) ∷
    (1, SendOut 1 (token (ring_of 2 1) 31 1 1 None [])) ∷ (1, SendOut 1 (token (ring_of 2 1) 32 1 1 None [])) ∷
    (1, SendOut 1 (token (ring_of 2 1) 33 1 1 None [])) ∷ (1, SendOut 1 (token (ring_of 2 1) 34 1 1 None [])) ∷
    (1, SendOut 1 (token (ring_of 2 1) 35 1 1 None [])) ∷ (1, SendOut 1 (token (ring_of 2 1) 36 1 1 None [])) ∷
    (1, SendOut 1 (token (ring_of 2 1) 37 1 1 None [])) ∷ (1, SendOut 1 (token (ring_of 2 1) 38 1 1 None [])) ∷
    (1, SendOut 1 (token (ring_of 2 1) 39 1 1 None [])) ∷ (1, SendOut 1 (token (ring_of 2 1) 40 1 1 None [])) ∷
    (1, SendOut 1 (token (ring_of 2 1) 41 1 1 None [])) ∷ (1, SendOut 1 (token (ring_of 2 1) 42 1 1 None [])) ∷
    (1, SendOut 1 (token (ring_of 2 1) 43 1 1 None [])) ∷ (1, SendOut 1 (token (ring_of 2 1) 44 1 1 None [])) ∷
    (1, SendOut 1 (token (ring_of 2 1) 45 1 1 None [])) ∷ (1, SendOut 1 (token (ring_of 2 1) 46 1 1 None [])) ∷
    (1, SendOut 1 (token (ring_of 2 1) 47 1 1 None [])) ∷ (1, SendOut 1 (token (ring_of 2 1) 48 1 1 None [])) ∷
    (1, SendOut 1 (token (ring_of 2 1) 49 1 1 None [])) ∷ (1, SendOut 1 (token (ring_of 2 1) 50 1 1 None [])) ∷
    (1, SendOut 1 (token (ring_of 2 1) 51 1 1 None [])) ∷ (1, SendOut 1 (token (ring_of 2 1) 52 1 1 None [])) ∷
    (1, SendOut 1 (token (ring_of 2 1) 53 1 1 None [])) ∷ (1, SendOut 1 (token (ring_of 2 1) 54 1 1 None [])) ∷
    (1, SendOut 1 (token (ring_of 2 1) 55 1 1 None [])) ∷ (1, SendOut 1 (token (ring_of 2 1) 56 1 1 None [])) ∷
    (1, SendOut 1 (token (ring_of 2 1) 57 1 1 None [])) ∷ (1, SendOut 1 (token (ring_of 2 1) 58 1 1 None [])) ∷
    (1, SendOut 1 (token (ring_of 2 1) 59 1 1 None [])) ∷ (1, SendOut 1 (token (ring_of 2 1) 60 1 1 None [])) ∷
    (1, SendOut 1 (token (ring_of 2 1) 61 1 1 None [])) ∷ (1, SendOut 1 (token (ring_of 2 1) 62 1 1 None [])) ∷
    (1, SendOut 1 (token (ring_of 2 1) 63 1 1 None [])) ∷ (1, SendOut 1 (token (ring_of 2 1) 64 1 1 None [])) ∷
    (1, SendOut 1 (token (ring_of 2 1) 65 1 1 None [])) ∷ (1, SendOut 1 (token (ring_of 2 1) 66 1 1 None [])) ∷
    (1, SendOut 1 (token (ring_of 2 1) 67 1 1 None [])) ∷ (1, SendOut 1 (token (ring_of 2 1) 68 1 1 None [])) ∷
    (1, SendOut 1 (token (ring_of 2 1) 69 1 1 None [])) ∷ (1, SendOut 1 (token (ring_of 2 1) 70 1 1 None [])) ∷
    (1, SendOut 1 (token (ring_of 2 1) 71 1 1 None [])) ∷ (1, SendOut 1 (token (ring_of 2 1) 72 1 1 None [])) ∷
    (1, SendOut 1 (token (ring_of 2 1) 73 1 1 None [])) ∷ (1, SendOut 1 (token (ring_of 2 1) 74 1 1 None [])) ∷
    (1, SendOut 1 (token (ring_of 2 1) 75 1 1 None [])) ∷ (1, SendOut 1 (token (ring_of 2 1) 76 1 1 None [])) ∷
    (1, SendOut 1 (token (ring_of 2 1) 77 1 1 None [])) ∷ (1, SendOut 1 (token (ring_of 2 1) 78 1 1 None [])) ∷
    (1, SendOut 1 (token (ring_of 2 1) 79 1 1 None [])) ∷ (1, SendOut 1 (token (ring_of 2 1) 80 1 1 None [])) ∷
    (1, SendOut 1 (token (ring_of 2 1) 81 1 1 None [])) ∷ (1, SendOut 1 (token (ring_of 2 1) 82 1 1 None [])) ∷
    (1, SendOut 1 (token (ring_of 2 1) 83 1 1 None [])) ∷ (1, SendOut 1 (token (ring_of 2 1) 84 1 1 None [])) ∷
    (1, SendOut 1 (token (ring_of 2 1) 85 1 1 None [])) ∷ (1, SendOut 1 (token (ring_of 2 1) 86 1 1 None [])) ∷
    (1, SendOut 1 (token (ring_of 2 1) 87 1 1 None [])) ∷ (1, SendOut 1 (token (ring_of 2 1) 88 1 1 None [])) ∷
    (1, SendOut 1 (token (ring_of 2 1) 89 1 1 None [])) ∷ (1, SendOut 1 (token (ring_of 2 1) 90 1 1 None [])) ∷
    (1, SendOut 1 (token (ring_of 2 1) 91 1 1 None [])) ∷ (1, SendOut 1 (token (ring_of 2 1) 92 1 1 None [])) ∷
    (1, SendOut 1 (token (ring_of 2 1) 93 1 1 None [])) ∷ (1, SendOut 1 (token (ring_of 2 1) 94 1 1 None [])) ∷
    (1, SendOut 1 (token (ring_of 2 1) 95 1 1 None [])) ∷ (1, SendOut 1 (token (ring_of 2 1) 96 1 1 None [])) ∷
    (1, SendOut 1 (token (ring_of 2 1) 97 1 1 None [])) ∷ (1, SendOut 1 (token (ring_of 2 1) 98 1 1 None [])) ∷
    (1, SendOut 1 (token (ring_of 2 1) 99 1 1 None [])) ∷ (1, SendOut 1 (token (ring_of 2 1) 100 1 1 None [])) ∷
    (1, SendOut 1 (token (ring_of 2 1) 101 1 1 None [])) ∷ (1, SendOut 1 (token (ring_of 2 1) 102 1 1 None [])) ∷
    (1, SendOut 1 (token (ring_of 2 1) 103 1 1 None [])) ∷ (1, SendOut 1 (token (ring_of 2 1) 104 1 1 None [])) ∷
    (1, SendOut 1 (token (ring_of 2 1) 105 1 1 None [])) ∷ (1, SendOut 1 (token (ring_of 2 1) 106 1 1 None [])) ∷
    (1, SendOut 1 (token (ring_of 2 1) 107 1 1 None [])) ∷ (1, SendOut 1 (token (ring_of 2 1) 108 1 1 None [])) ∷
    (1, SendOut 1 (token (ring_of 2 1) 109 1 1 None [])) ∷ (1, SendOut 1 (token (ring_of 2 1) 110 1 1 None [])) ∷
    (1, SendOut 1 (token (ring_of 2 1) 111 1 1 None [])) ∷ (1, SendOut 1 (token (ring_of 2 1) 112 1 1 None [])) ∷
    (1, SendOut 1 (token (ring_of 2 1) 113 1 1 None [])) ∷ (1, SendOut 1 (token (ring_of 2 1) 114 1 1 None [])) ∷
    (1, SendOut 1 (token (ring_of 2 1) 115 1 1 None [])) ∷ (1, SendOut 1 (token (ring_of 2 1) 116 1 1 None [])) ∷ (2, SendOut 1 (join 2 1 3 0)) ∷
    (1, SendOut 1 (token (ring_of 2 1) 117 2 2 None [])) ∷
    (1, Agreed (ring_of 2 1) 2 (message (ring_of 2 1) 2 1 (pack (call_of 13 1 ∷ call_of 16 1 ∷ [])))) ∷ (1, SendOut 2 (join 1 2 3 0)) ∷
    (1, SendOut 2 (commit (ring_of 3 1) 3 1 (report (ring_of 2 1) 2 1 0 ∷ []))) ∷
    (2, SendOut 1 (commit (ring_of 3 1) 3 2 (report (ring_of 2 1) 2 1 0 ∷ report (ring_of 1 2) 1 1 0 ∷ []))) ∷
    (1, SendOut 2 (commit (ring_of 3 1) 3 3 (report (ring_of 2 1) 2 1 0 ∷ report (ring_of 1 2) 1 1 0 ∷ []))) ∷
    (2, SendOut 1 (commit (ring_of 3 1) 3 4 (report (ring_of 2 1) 2 1 0 ∷ report (ring_of 1 2) 1 1 0 ∷ []))) ∷
    (1, SendOut 2 (MessageFrame (message (ring_of 3 1) 1 1 End))) ∷ (1, SendOut 2 (token (ring_of 3 1) 1 1 1 None [])) ∷
    (2, SendOut 1 (MessageFrame (message (ring_of 3 1) 2 2 End))) ∷ (2, SendOut 1 (token (ring_of 3 1) 2 2 2 None [])) ∷
    (1, SendOut 2 (token (ring_of 3 1) 3 2 1 (Some 1) (2 ∷ []))) ∷ (2, SendOut 1 (MessageFrame (message (ring_of 3 1) 2 2 End))) ∷
    (2, SendOut 1 (token (ring_of 3 1) 4 2 1 (Some 1) [])) ∷ (1, SendOut 2 (token (ring_of 3 1) 5 2 1 (Some 1) (2 ∷ []))) ∷
    (2, SendOut 1 (MessageFrame (message (ring_of 3 1) 2 2 End))) ∷ (2, SendOut 1 (token (ring_of 3 1) 6 2 1 (Some 1) [])) ∷
    (1, SendOut 2 (token (ring_of 3 1) 7 2 1 (Some 1) (2 ∷ []))) ∷ (2, SendOut 1 (MessageFrame (message (ring_of 3 1) 2 2 End))) ∷
    (2, SendOut 1 (token (ring_of 3 1) 8 2 1 (Some 1) [])) ∷ (1, SendOut 2 (token (ring_of 3 1) 9 2 2 None [])) ∷
    (1, SendOut 2 (token (ring_of 3 1) 9 2 2 None [])) ∷ (2, SendOut 1 (token (ring_of 3 1) 10 2 2 None [])) ∷
    (1, SendOut 2 (token (ring_of 3 1) 11 2 2 None [])) ∷ (1, Trans (ring_of 2 1) (ring_of 3 1) 1) ∷
    (1, Rest (ring_of 2 1) 2 (message (ring_of 2 1) 2 1 (pack (call_of 13 1 ∷ call_of 16 1 ∷ [])))) ∷ (1, Regular (ring_of 3 1) 3) ∷
    (1, Safe (ring_of 3 1) 2) ∷ []

-- The world to which the schedule leads.
abbrev pub world : World Global
world = run (unformed 2) events
