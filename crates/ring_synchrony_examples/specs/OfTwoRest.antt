-- A random schedule of two processors: their ring changes, and the rest of an old ring has a Pack and a Part.
-- The outputs are those of an independent implementation of the protocol.
use Rattle.std.specs.Prelude.{ℕ, List, [], ◌∷◌, Some, None}
use Rattle.std.specs.declared.alloc.Global.{Global}
use Rattle.ring_payload.specs.declared.content.Payload.TheVariants.{End}
use Rattle.ring_wire.specs.declared.frame.Frame.TheVariants.{Message as MessageFrame}
use Rattle.ring_base.specs.declared.timeout_kind.Kind.TheVariants.{Retransmit, Consensus, Loss}
use Rattle.ring_core_spec.specs.declared.out.Out.{Out}
use Rattle.ring_core_spec.specs.declared.out.Out.TheVariants.{Send as SendOut, Agreed, Safe, Trans, Rest, Regular}
use Rattle.ring_core_proof.specs.declared.event.RingEvent.{RingEvent}
use Rattle.ring_core_proof.specs.declared.event.RingEvent.TheVariants.{Send as SendEvent, Deliver, Timeout as TimeEvent}
use Rattle.ring_core_proof.specs.Worlds.{World, run, unformed}
use Rattle.ring_core_proof.specs.Samples.{ring_of}
use Rattle.ring_synchrony_examples.specs.Words.{call_of, long_call_of, call, long_call, part, pack, message, token, join, report, commit}

-- The events, in order.
abbrev pub events : List (RingEvent Global)
events =
    TimeEvent 1 Retransmit ∷ TimeEvent 1 Loss ∷ TimeEvent 2 Loss ∷ Deliver 2 1 ∷ Deliver 1 2 ∷ Deliver 2 3 ∷ Deliver 1 4 ∷ Deliver 2 5 ∷ Deliver 1 6 ∷
    Deliver 2 7 ∷ Deliver 2 8 ∷ Deliver 1 9 ∷ Deliver 1 10 ∷ Deliver 2 11 ∷ Deliver 1 12 ∷ Deliver 2 13 ∷ Deliver 1 14 ∷ Deliver 2 15 ∷ Deliver 1 16 ∷
    Deliver 2 17 ∷ Deliver 1 18 ∷ Deliver 2 19 ∷ Deliver 1 20 ∷ Deliver 2 21 ∷ Deliver 1 22 ∷ Deliver 2 23 ∷ Deliver 1 24 ∷ Deliver 2 25 ∷
    TimeEvent 1 Consensus ∷ Deliver 1 26 ∷ Deliver 2 27 ∷ Deliver 1 28 ∷ Deliver 2 29 ∷ Deliver 2 29 ∷ Deliver 1 30 ∷ Deliver 2 31 ∷ Deliver 1 32 ∷
    Deliver 2 33 ∷ Deliver 1 34 ∷ Deliver 2 35 ∷ Deliver 1 36 ∷ Deliver 2 37 ∷ Deliver 2 37 ∷ Deliver 1 38 ∷ Deliver 2 39 ∷ SendEvent 2 End ∷
    SendEvent 1 (call 2 1) ∷ Deliver 2 1 ∷ Deliver 1 40 ∷ Deliver 2 41 ∷ Deliver 2 42 ∷ Deliver 1 43 ∷ Deliver 2 44 ∷ Deliver 1 45 ∷ Deliver 2 46 ∷
    Deliver 1 47 ∷ Deliver 2 48 ∷ Deliver 1 49 ∷ Deliver 2 50 ∷ Deliver 1 51 ∷ Deliver 2 52 ∷ Deliver 1 53 ∷ Deliver 2 54 ∷ Deliver 1 55 ∷
    Deliver 2 56 ∷ Deliver 1 57 ∷ Deliver 2 58 ∷ Deliver 1 59 ∷ Deliver 2 60 ∷ Deliver 1 61 ∷ Deliver 1 61 ∷ Deliver 2 62 ∷ Deliver 1 63 ∷
    SendEvent 1 (call 3 1) ∷ SendEvent 2 (call 4 1) ∷ SendEvent 2 End ∷ SendEvent 2 (call 6 1) ∷ Deliver 2 64 ∷ Deliver 1 65 ∷ Deliver 1 66 ∷
    Deliver 2 67 ∷ Deliver 2 68 ∷ Deliver 1 69 ∷ Deliver 2 70 ∷ SendEvent 2 (call 7 1) ∷ Deliver 1 71 ∷ Deliver 2 72 ∷ Deliver 1 73 ∷ Deliver 1 74 ∷
    Deliver 2 75 ∷ Deliver 1 76 ∷ Deliver 2 77 ∷ Deliver 1 78 ∷ Deliver 2 79 ∷ Deliver 1 80 ∷ Deliver 2 81 ∷ Deliver 1 82 ∷ Deliver 2 83 ∷
    SendEvent 2 (call 8 1) ∷ Deliver 1 84 ∷ Deliver 2 85 ∷ Deliver 1 86 ∷ Deliver 1 87 ∷ Deliver 2 88 ∷ Deliver 1 89 ∷ Deliver 2 90 ∷ Deliver 1 91 ∷
    SendEvent 2 (part 0 (call_of 9 1 ∷ [])) ∷ SendEvent 2 (long_call 10 1) ∷ SendEvent 2 (call 11 1) ∷ SendEvent 2 End ∷ Deliver 2 92 ∷ Deliver 1 93 ∷
    TimeEvent 1 Loss ∷ Deliver 1 94 ∷ Deliver 1 94 ∷ Deliver 1 95 ∷ Deliver 2 96 ∷ Deliver 1 97 ∷ Deliver 2 98 ∷ Deliver 1 99 ∷ Deliver 2 100 ∷
    Deliver 1 101 ∷ Deliver 2 103 ∷ Deliver 1 104 ∷ TimeEvent 1 Consensus ∷ Deliver 1 105 ∷ Deliver 2 106 ∷ Deliver 2 107 ∷ Deliver 1 108 ∷
    Deliver 2 109 ∷ Deliver 1 110 ∷ Deliver 2 111 ∷ Deliver 1 112 ∷ Deliver 2 113 ∷ Deliver 1 114 ∷ Deliver 2 115 ∷ Deliver 1 116 ∷ Deliver 2 117 ∷
    Deliver 1 118 ∷ Deliver 2 119 ∷ Deliver 1 120 ∷ Deliver 2 121 ∷ Deliver 1 122 ∷ Deliver 2 123 ∷ []

-- The outputs in order, each with its processor.
abbrev pub outs : List (ℕ × Out Global)
outs =
    (1, SendOut 2 (join 1 0 3 0)) ∷ (2, SendOut 1 (join 2 0 3 0)) ∷ (1, SendOut 2 (commit (ring_of 1 1) 3 1 (report (ring_of 0 1) 0 0 0 ∷ []))) ∷
    (2, SendOut 1 (commit (ring_of 1 1) 3 2 (report (ring_of 0 1) 0 0 0 ∷ report (ring_of 0 2) 0 0 0 ∷ []))) ∷
    (1, SendOut 2 (commit (ring_of 1 1) 3 3 (report (ring_of 0 1) 0 0 0 ∷ report (ring_of 0 2) 0 0 0 ∷ []))) ∷
    (2, SendOut 1 (commit (ring_of 1 1) 3 4 (report (ring_of 0 1) 0 0 0 ∷ report (ring_of 0 2) 0 0 0 ∷ []))) ∷
    (1, SendOut 2 (MessageFrame (message (ring_of 1 1) 1 1 End))) ∷ (1, SendOut 2 (token (ring_of 1 1) 1 1 1 None [])) ∷
    (2, SendOut 1 (MessageFrame (message (ring_of 1 1) 2 2 End))) ∷ (2, SendOut 1 (token (ring_of 1 1) 2 2 2 None [])) ∷
    (1, SendOut 2 (token (ring_of 1 1) 3 2 2 None [])) ∷ (2, SendOut 1 (token (ring_of 1 1) 4 2 2 None [])) ∷
    (2, Trans (ring_of 0 2) (ring_of 1 1) 2) ∷ (2, Regular (ring_of 1 1) 3) ∷ (2, Safe (ring_of 1 1) 2) ∷
    (1, SendOut 2 (token (ring_of 1 1) 5 2 2 None [])) ∷ (1, Trans (ring_of 0 1) (ring_of 1 1) 1) ∷ (1, Regular (ring_of 1 1) 3) ∷
    (1, Safe (ring_of 1 1) 2) ∷ (2, SendOut 1 (token (ring_of 1 1) 6 2 2 None [])) ∷ (1, SendOut 2 (token (ring_of 1 1) 7 2 2 None [])) ∷
    (2, SendOut 1 (token (ring_of 1 1) 8 2 2 None [])) ∷ (1, SendOut 2 (token (ring_of 1 1) 9 2 2 None [])) ∷
    (2, SendOut 1 (token (ring_of 1 1) 10 2 2 None [])) ∷ (1, SendOut 2 (token (ring_of 1 1) 11 2 2 None [])) ∷
    (2, SendOut 1 (token (ring_of 1 1) 12 2 2 None [])) ∷ (1, SendOut 2 (token (ring_of 1 1) 13 2 2 None [])) ∷
    (2, SendOut 1 (token (ring_of 1 1) 14 2 2 None [])) ∷ (1, SendOut 2 (token (ring_of 1 1) 15 2 2 None [])) ∷
    (2, SendOut 1 (token (ring_of 1 1) 16 2 2 None [])) ∷ (1, SendOut 2 (token (ring_of 1 1) 17 2 2 None [])) ∷
    (2, SendOut 1 (token (ring_of 1 1) 18 2 2 None [])) ∷ (1, SendOut 2 (token (ring_of 1 1) 19 2 2 None [])) ∷
    (2, SendOut 1 (token (ring_of 1 1) 20 2 2 None [])) ∷ (1, SendOut 2 (token (ring_of 1 1) 21 2 2 None [])) ∷
    (2, SendOut 1 (token (ring_of 1 1) 22 2 2 None [])) ∷ (1, SendOut 2 (token (ring_of 1 1) 23 2 2 None [])) ∷
    (2, SendOut 1 (token (ring_of 1 1) 24 2 2 None [])) ∷ (1, SendOut 2 (token (ring_of 1 1) 25 2 2 None [])) ∷
    (2, SendOut 1 (token (ring_of 1 1) 26 2 2 None [])) ∷ (1, SendOut 2 (token (ring_of 1 1) 27 2 2 None [])) ∷
    (2, SendOut 1 (token (ring_of 1 1) 28 2 2 None [])) ∷ (1, SendOut 2 (token (ring_of 1 1) 29 2 2 None [])) ∷
    (2, SendOut 1 (token (ring_of 1 1) 30 2 2 None [])) ∷ (1, SendOut 2 (token (ring_of 1 1) 31 2 2 None [])) ∷
    (2, SendOut 1 (token (ring_of 1 1) 32 2 2 None [])) ∷ (1, SendOut 2 (MessageFrame (message (ring_of 1 1) 3 1 (call 2 1)))) ∷
    (1, SendOut 2 (token (ring_of 1 1) 33 3 3 None [])) ∷ (1, Agreed (ring_of 1 1) 3 (message (ring_of 1 1) 3 1 (call 2 1))) ∷
    (2, Agreed (ring_of 1 1) 3 (message (ring_of 1 1) 3 1 (call 2 1))) ∷ (2, SendOut 1 (token (ring_of 1 1) 34 3 3 None [])) ∷
    (1, SendOut 2 (token (ring_of 1 1) 35 3 3 None [])) ∷ (1, Safe (ring_of 1 1) 3) ∷ (2, SendOut 1 (token (ring_of 1 1) 36 3 3 None [])) ∷
    (2, Safe (ring_of 1 1) 3) ∷ (1, SendOut 2 (token (ring_of 1 1) 37 3 3 None [])) ∷ (2, SendOut 1 (token (ring_of 1 1) 38 3 3 None [])) ∷
    (1, SendOut 2 (token (ring_of 1 1) 39 3 3 None [])) ∷ (2, SendOut 1 (token (ring_of 1 1) 40 3 3 None [])) ∷
    (1, SendOut 2 (token (ring_of 1 1) 41 3 3 None [])) ∷ (2, SendOut 1 (token (ring_of 1 1) 42 3 3 None [])) ∷
    (1, SendOut 2 (token (ring_of 1 1) 43 3 3 None [])) ∷ (2, SendOut 1 (token (ring_of 1 1) 44 3 3 None [])) ∷
    (1, SendOut 2 (token (ring_of 1 1) 45 3 3 None [])) ∷ (2, SendOut 1 (token (ring_of 1 1) 46 3 3 None [])) ∷
    (1, SendOut 2 (token (ring_of 1 1) 47 3 3 None [])) ∷ (2, SendOut 1 (token (ring_of 1 1) 48 3 3 None [])) ∷
    (1, SendOut 2 (token (ring_of 1 1) 49 3 3 None [])) ∷ (2, SendOut 1 (token (ring_of 1 1) 50 3 3 None [])) ∷
    (1, SendOut 2 (token (ring_of 1 1) 51 3 3 None [])) ∷ (2, SendOut 1 (token (ring_of 1 1) 52 3 3 None [])) ∷
    (1, SendOut 2 (token (ring_of 1 1) 53 3 3 None [])) ∷ (2, SendOut 1 (token (ring_of 1 1) 54 3 3 None [])) ∷
    (1, SendOut 2 (token (ring_of 1 1) 55 3 3 None [])) ∷
    (2, SendOut 1 (MessageFrame (message (ring_of 1 1) 4 2 (pack (call_of 4 1 ∷ call_of 6 1 ∷ []))))) ∷
    (2, SendOut 1 (token (ring_of 1 1) 56 4 4 None [])) ∷
    (2, Agreed (ring_of 1 1) 4 (message (ring_of 1 1) 4 2 (pack (call_of 4 1 ∷ call_of 6 1 ∷ [])))) ∷
    (1, Agreed (ring_of 1 1) 4 (message (ring_of 1 1) 4 2 (pack (call_of 4 1 ∷ call_of 6 1 ∷ [])))) ∷
    (1, SendOut 2 (MessageFrame (message (ring_of 1 1) 5 1 (call 3 1)))) ∷ (1, SendOut 2 (token (ring_of 1 1) 57 5 5 None [])) ∷
    (1, Agreed (ring_of 1 1) 5 (message (ring_of 1 1) 5 1 (call 3 1))) ∷ (2, Agreed (ring_of 1 1) 5 (message (ring_of 1 1) 5 1 (call 3 1))) ∷
    (2, SendOut 1 (token (ring_of 1 1) 58 5 5 None [])) ∷ (2, Safe (ring_of 1 1) 4) ∷ (1, SendOut 2 (token (ring_of 1 1) 59 5 5 None [])) ∷
    (1, Safe (ring_of 1 1) 5) ∷ (2, SendOut 1 (token (ring_of 1 1) 60 5 5 None [])) ∷ (2, Safe (ring_of 1 1) 5) ∷
    (1, SendOut 2 (token (ring_of 1 1) 61 5 5 None [])) ∷ (2, SendOut 1 (MessageFrame (message (ring_of 1 1) 6 2 (call 7 1)))) ∷
    (2, SendOut 1 (token (ring_of 1 1) 62 6 6 None [])) ∷ (2, Agreed (ring_of 1 1) 6 (message (ring_of 1 1) 6 2 (call 7 1))) ∷
    (1, Agreed (ring_of 1 1) 6 (message (ring_of 1 1) 6 2 (call 7 1))) ∷ (1, SendOut 2 (token (ring_of 1 1) 63 6 6 None [])) ∷
    (2, SendOut 1 (token (ring_of 1 1) 64 6 6 None [])) ∷ (2, Safe (ring_of 1 1) 6) ∷ (1, SendOut 2 (token (ring_of 1 1) 65 6 6 None [])) ∷
    (1, Safe (ring_of 1 1) 6) ∷ (2, SendOut 1 (token (ring_of 1 1) 66 6 6 None [])) ∷ (1, SendOut 2 (token (ring_of 1 1) 67 6 6 None [])) ∷
    (2, SendOut 1 (token (ring_of 1 1) 68 6 6 None [])) ∷ (1, SendOut 2 (token (ring_of 1 1) 69 6 6 None [])) ∷
    (2, SendOut 1 (token (ring_of 1 1) 70 6 6 None [])) ∷ (1, SendOut 2 (token (ring_of 1 1) 71 6 6 None [])) ∷
    (2, SendOut 1 (token (ring_of 1 1) 72 6 6 None [])) ∷ (1, SendOut 2 (token (ring_of 1 1) 73 6 6 None [])) ∷
    (2, SendOut 1 (MessageFrame (message (ring_of 1 1) 7 2 (call 8 1)))) ∷ (2, SendOut 1 (token (ring_of 1 1) 74 7 7 None [])) ∷
    (2, Agreed (ring_of 1 1) 7 (message (ring_of 1 1) 7 2 (call 8 1))) ∷ (1, Agreed (ring_of 1 1) 7 (message (ring_of 1 1) 7 2 (call 8 1))) ∷
    (1, SendOut 2 (token (ring_of 1 1) 75 7 7 None [])) ∷ (2, SendOut 1 (token (ring_of 1 1) 76 7 7 None [])) ∷ (2, Safe (ring_of 1 1) 7) ∷
    (1, SendOut 2 (token (ring_of 1 1) 77 7 7 None [])) ∷ (1, Safe (ring_of 1 1) 7) ∷ (2, SendOut 1 (token (ring_of 1 1) 78 7 7 None [])) ∷
    (1, SendOut 2 (token (ring_of 1 1) 79 7 7 None [])) ∷ (2, SendOut 1 (MessageFrame (message (ring_of 1 1) 8 2 (part 0 (call_of 9 1 ∷ []))))) ∷
    (2, SendOut 1 (MessageFrame (message (ring_of 1 1) 9 2 (pack (long_call_of 10 1 ∷ call_of 11 1 ∷ []))))) ∷
    (2, SendOut 1 (token (ring_of 1 1) 80 9 9 None [])) ∷ (2, Agreed (ring_of 1 1) 8 (message (ring_of 1 1) 8 2 (part 0 (call_of 9 1 ∷ [])))) ∷
    (2, Agreed (ring_of 1 1) 9 (message (ring_of 1 1) 9 2 (pack (long_call_of 10 1 ∷ call_of 11 1 ∷ [])))) ∷
    (1, Agreed (ring_of 1 1) 8 (message (ring_of 1 1) 8 2 (part 0 (call_of 9 1 ∷ [])))) ∷ (1, SendOut 2 (join 1 1 3 0)) ∷
    (1, Agreed (ring_of 1 1) 9 (message (ring_of 1 1) 9 2 (pack (long_call_of 10 1 ∷ call_of 11 1 ∷ [])))) ∷ (2, SendOut 1 (join 2 1 3 0)) ∷
    (1, SendOut 2 (commit (ring_of 2 1) 3 1 (report (ring_of 1 1) 9 7 0 ∷ []))) ∷
    (2, SendOut 1 (commit (ring_of 2 1) 3 2 (report (ring_of 1 1) 9 7 0 ∷ report (ring_of 1 1) 9 7 0 ∷ []))) ∷
    (1, SendOut 2 (commit (ring_of 2 1) 3 3 (report (ring_of 1 1) 9 7 0 ∷ report (ring_of 1 1) 9 7 0 ∷ []))) ∷
    (2, SendOut 1 (commit (ring_of 2 1) 3 4 (report (ring_of 1 1) 9 7 0 ∷ report (ring_of 1 1) 9 7 0 ∷ []))) ∷
    (1, SendOut 2 (MessageFrame (message (ring_of 2 1) 1 1 End))) ∷ (1, SendOut 2 (token (ring_of 2 1) 1 1 1 None [])) ∷
    (2, SendOut 1 (MessageFrame (message (ring_of 2 1) 2 2 End))) ∷ (2, SendOut 1 (token (ring_of 2 1) 2 2 0 (Some 2) (1 ∷ []))) ∷
    (1, SendOut 2 (MessageFrame (message (ring_of 2 1) 1 1 End))) ∷ (1, SendOut 2 (token (ring_of 2 1) 3 2 0 (Some 2) [])) ∷
    (2, SendOut 1 (token (ring_of 2 1) 4 2 2 None [])) ∷ (1, SendOut 2 (token (ring_of 2 1) 5 2 2 None [])) ∷
    (2, SendOut 1 (token (ring_of 2 1) 6 2 2 None [])) ∷ (2, Trans (ring_of 1 1) (ring_of 2 1) 3) ∷
    (2, Rest (ring_of 1 1) 8 (message (ring_of 1 1) 8 2 (part 0 (call_of 9 1 ∷ [])))) ∷
    (2, Rest (ring_of 1 1) 9 (message (ring_of 1 1) 9 2 (pack (long_call_of 10 1 ∷ call_of 11 1 ∷ [])))) ∷ (2, Regular (ring_of 2 1) 3) ∷
    (2, Safe (ring_of 2 1) 2) ∷ (1, SendOut 2 (token (ring_of 2 1) 7 2 2 None [])) ∷ (1, Trans (ring_of 1 1) (ring_of 2 1) 3) ∷
    (1, Rest (ring_of 1 1) 8 (message (ring_of 1 1) 8 2 (part 0 (call_of 9 1 ∷ [])))) ∷
    (1, Rest (ring_of 1 1) 9 (message (ring_of 1 1) 9 2 (pack (long_call_of 10 1 ∷ call_of 11 1 ∷ [])))) ∷ (1, Regular (ring_of 2 1) 3) ∷
    (1, Safe (ring_of 2 1) 2) ∷ (2, SendOut 1 (token (ring_of 2 1) 8 2 2 None [])) ∷ (1, SendOut 2 (token (ring_of 2 1) 9 2 2 None [])) ∷
    (2, SendOut 1 (token (ring_of 2 1) 10 2 2 None [])) ∷ (1, SendOut 2 (token (ring_of 2 1) 11 2 2 None [])) ∷
    (2, SendOut 1 (token (ring_of 2 1) 12 2 2 None [])) ∷ (1, SendOut 2 (token (ring_of 2 1) 13 2 2 None [])) ∷
    (2, SendOut 1 (token (ring_of 2 1) 14 2 2 None [])) ∷ (1, SendOut 2 (token (ring_of 2 1) 15 2 2 None [])) ∷
    (2, SendOut 1 (token (ring_of 2 1) 16 2 2 None [])) ∷ (1, SendOut 2 (token (ring_of 2 1) 17 2 2 None [])) ∷
    (2, SendOut 1 (token (ring_of 2 1) 18 2 2 None [])) ∷ (1, SendOut 2 (token (ring_of 2 1) 19 2 2 None [])) ∷
    (2, SendOut 1 (token (ring_of 2 1) 20 2 2 None [])) ∷ []

-- The world to which the schedule leads.
abbrev pub world : World Global
world = run (unformed 2) events
