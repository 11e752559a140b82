-- A random schedule of two processors in a formed ring: there are Packs, Parts and Heads, and recovery wraps a Pack.
-- The outputs are those of an independent implementation of the protocol.
use Rattle.std.specs.Prelude.{ℕ, List, [], ◌∷◌, Some, None}
use Rattle.std.specs.declared.alloc.Global.{Global}
use Rattle.ring_payload.specs.declared.content.Payload.TheVariants.{End}
use Rattle.ring_wire.specs.declared.frame.Frame.TheVariants.{Message as MessageFrame}
use Rattle.ring_base.specs.declared.timeout_kind.Kind.TheVariants.{Retransmit, Loss}
use Rattle.ring_core_spec.specs.declared.out.Out.{Out}
use Rattle.ring_core_spec.specs.declared.out.Out.TheVariants.{Send as SendOut, Agreed, Safe}
use Rattle.ring_core_proof.specs.declared.event.RingEvent.{RingEvent}
use Rattle.ring_core_proof.specs.declared.event.RingEvent.TheVariants.{Send as SendEvent, Deliver, Timeout as TimeEvent}
use Rattle.ring_core_proof.specs.Worlds.{World, run, ring_formed}
use Rattle.ring_core_proof.specs.Samples.{ring_of}
use Rattle.ring_synchrony_examples.specs.Words.{call_of, long_call_of, call, long_call, call_content, head, head_after, part}
use Rattle.ring_synchrony_examples.specs.Words.{pack, pack_content, wrapped, message, token, join, report, commit}

-- The events, in order.
abbrev pub events : List (RingEvent Global)
events =
    SendEvent 1 (long_call 1 1) ∷ Deliver 2 1 ∷ Deliver 1 2 ∷ Deliver 2 3 ∷ Deliver 2 4 ∷ SendEvent 2 head ∷ SendEvent 2 (call 3 1) ∷
    SendEvent 2 (call 4 1) ∷ SendEvent 2 (call 5 1) ∷ SendEvent 1 (call 6 1) ∷ Deliver 1 5 ∷ SendEvent 1 (call 7 1) ∷ SendEvent 1 (call 8 1) ∷
    SendEvent 1 (call 9 1) ∷ SendEvent 1 (wrapped (ring_of 1 1) 1 1 (call_content 10 1)) ∷ SendEvent 1 (call 11 1) ∷ Deliver 2 6 ∷ Deliver 2 7 ∷
    Deliver 1 8 ∷ Deliver 1 9 ∷ Deliver 1 10 ∷ Deliver 2 11 ∷ Deliver 2 12 ∷ Deliver 1 13 ∷ Deliver 2 14 ∷ Deliver 1 15 ∷ Deliver 2 16 ∷
    Deliver 1 17 ∷ Deliver 1 17 ∷ Deliver 2 18 ∷ Deliver 2 11 ∷ Deliver 1 19 ∷ Deliver 2 20 ∷ Deliver 1 21 ∷ Deliver 2 22 ∷ Deliver 1 23 ∷
    Deliver 2 24 ∷ Deliver 1 25 ∷ Deliver 2 26 ∷ Deliver 1 27 ∷ Deliver 2 28 ∷ Deliver 1 29 ∷ Deliver 2 30 ∷ Deliver 2 30 ∷ Deliver 1 31 ∷
    Deliver 2 32 ∷ Deliver 1 33 ∷ Deliver 2 34 ∷ Deliver 1 35 ∷ Deliver 2 36 ∷ Deliver 1 37 ∷ Deliver 2 38 ∷ Deliver 1 39 ∷ Deliver 2 40 ∷
    Deliver 1 41 ∷ Deliver 2 42 ∷ Deliver 1 43 ∷ Deliver 2 44 ∷ Deliver 1 45 ∷ Deliver 2 46 ∷ Deliver 1 47 ∷ Deliver 2 48 ∷ Deliver 1 49 ∷
    Deliver 2 50 ∷ Deliver 1 51 ∷ Deliver 2 52 ∷ Deliver 1 53 ∷ Deliver 2 54 ∷ Deliver 1 55 ∷ Deliver 2 56 ∷ Deliver 1 57 ∷ Deliver 2 58 ∷
    Deliver 1 59 ∷ Deliver 2 60 ∷ Deliver 1 61 ∷ Deliver 2 62 ∷ Deliver 1 63 ∷ Deliver 2 64 ∷ Deliver 1 65 ∷ Deliver 2 66 ∷ Deliver 1 67 ∷
    Deliver 2 68 ∷ Deliver 1 69 ∷ Deliver 1 69 ∷ Deliver 2 70 ∷ SendEvent 1 End ∷ SendEvent 2 (call 13 1) ∷ SendEvent 1 (call 14 1) ∷
    SendEvent 1 (call 15 1) ∷ Deliver 1 71 ∷ Deliver 2 72 ∷ Deliver 2 73 ∷ Deliver 1 75 ∷ TimeEvent 2 Retransmit ∷ SendEvent 1 (call 16 1) ∷
    SendEvent 1 head ∷ SendEvent 1 (part 0 (call_of 18 1 ∷ [])) ∷ SendEvent 2 (call 19 1) ∷ SendEvent 1 (part 0 (call_of 20 1 ∷ [])) ∷
    SendEvent 1 (call 21 1) ∷ Deliver 2 76 ∷ Deliver 1 77 ∷ Deliver 1 79 ∷ Deliver 1 80 ∷ Deliver 2 82 ∷ Deliver 2 83 ∷ Deliver 2 86 ∷ Deliver 1 87 ∷
    Deliver 1 88 ∷ Deliver 2 89 ∷ Deliver 2 90 ∷ Deliver 2 92 ∷ Deliver 1 93 ∷ Deliver 2 94 ∷ Deliver 2 95 ∷
    SendEvent 1 (part 0 (call_of 22 1 ∷ [])) ∷ SendEvent 2 (call 23 1) ∷ SendEvent 1 (head_after (ring_of 2 1) 5 2) ∷
    SendEvent 2 (part 0 (call_of 25 1 ∷ [])) ∷ SendEvent 2 head ∷ SendEvent 1 head ∷ Deliver 1 96 ∷ Deliver 2 97 ∷ Deliver 2 98 ∷ Deliver 2 99 ∷
    Deliver 2 100 ∷ Deliver 1 101 ∷ Deliver 1 102 ∷ Deliver 1 103 ∷ Deliver 1 104 ∷ SendEvent 2 head ∷ SendEvent 2 (call 29 1) ∷
    SendEvent 1 (call 30 1) ∷ Deliver 2 105 ∷ Deliver 1 107 ∷ Deliver 1 108 ∷ Deliver 2 109 ∷ SendEvent 2 (part 0 (call_of 31 1 ∷ [])) ∷
    SendEvent 2 (call 32 1) ∷ SendEvent 2 (part 0 (call_of 33 1 ∷ [])) ∷ SendEvent 2 (head_after (ring_of 1 1) 5 2) ∷ SendEvent 2 (call 35 1) ∷
    SendEvent 2 (call 36 1) ∷ Deliver 2 110 ∷ Deliver 1 111 ∷ Deliver 1 112 ∷ Deliver 1 112 ∷ Deliver 1 113 ∷ Deliver 1 114 ∷ Deliver 1 115 ∷
    Deliver 1 116 ∷ Deliver 1 117 ∷ Deliver 2 118 ∷ Deliver 1 119 ∷ Deliver 2 120 ∷ Deliver 1 121 ∷ Deliver 2 122 ∷ Deliver 1 123 ∷ Deliver 2 124 ∷
    Deliver 1 125 ∷ Deliver 2 126 ∷ Deliver 1 127 ∷ Deliver 2 128 ∷ Deliver 1 129 ∷ Deliver 1 129 ∷ Deliver 2 130 ∷ Deliver 1 131 ∷ Deliver 2 132 ∷
    Deliver 1 133 ∷ Deliver 2 134 ∷ Deliver 1 135 ∷ Deliver 2 136 ∷ Deliver 1 137 ∷ Deliver 2 138 ∷ Deliver 1 139 ∷ Deliver 2 140 ∷ Deliver 1 141 ∷
    Deliver 2 142 ∷ Deliver 1 143 ∷ Deliver 2 144 ∷ Deliver 1 145 ∷ Deliver 2 146 ∷ SendEvent 1 (call 37 1) ∷ SendEvent 2 head ∷ SendEvent 2 head ∷
    SendEvent 2 (call 40 1) ∷ SendEvent 2 (call 41 1) ∷ SendEvent 1 (call 42 1) ∷ TimeEvent 2 Loss ∷ Deliver 1 147 ∷ Deliver 1 148 ∷ Deliver 2 150 ∷
    Deliver 2 151 ∷ Deliver 2 152 ∷ Deliver 1 153 ∷ Deliver 2 154 ∷ Deliver 1 155 ∷ Deliver 2 156 ∷ Deliver 2 157 ∷ Deliver 2 158 ∷ []

-- The outputs in order, each with its processor.
abbrev pub outs : List (ℕ × Out Global)
outs =
    (2, SendOut 1 (token (ring_of 1 1) 2 0 0 None [])) ∷ (1, SendOut 2 (MessageFrame (message (ring_of 1 1) 1 1 (long_call 1 1)))) ∷
    (1, SendOut 2 (token (ring_of 1 1) 3 1 1 None [])) ∷ (1, Agreed (ring_of 1 1) 1 (message (ring_of 1 1) 1 1 (long_call 1 1))) ∷
    (2, Agreed (ring_of 1 1) 1 (message (ring_of 1 1) 1 1 (long_call 1 1))) ∷ (2, SendOut 1 (token (ring_of 1 1) 4 1 1 None [])) ∷
    (1, SendOut 2 (MessageFrame (message (ring_of 1 1) 2 1 (call 6 1)))) ∷ (1, SendOut 2 (token (ring_of 1 1) 5 2 2 None [])) ∷
    (1, Agreed (ring_of 1 1) 2 (message (ring_of 1 1) 2 1 (call 6 1))) ∷ (1, Safe (ring_of 1 1) 1) ∷
    (2, Agreed (ring_of 1 1) 2 (message (ring_of 1 1) 2 1 (call 6 1))) ∷ (2, SendOut 1 (MessageFrame (message (ring_of 1 1) 3 2 head))) ∷
    (2, SendOut 1 (MessageFrame (message (ring_of 1 1) 4 2 (pack (call_of 3 1 ∷ call_of 4 1 ∷ call_of 5 1 ∷ []))))) ∷
    (2, SendOut 1 (token (ring_of 1 1) 6 4 4 None [])) ∷ (2, Agreed (ring_of 1 1) 3 (message (ring_of 1 1) 3 2 head)) ∷
    (2, Agreed (ring_of 1 1) 4 (message (ring_of 1 1) 4 2 (pack (call_of 3 1 ∷ call_of 4 1 ∷ call_of 5 1 ∷ [])))) ∷ (2, Safe (ring_of 1 1) 1) ∷
    (1, Agreed (ring_of 1 1) 3 (message (ring_of 1 1) 3 2 head)) ∷
    (1, Agreed (ring_of 1 1) 4 (message (ring_of 1 1) 4 2 (pack (call_of 3 1 ∷ call_of 4 1 ∷ call_of 5 1 ∷ [])))) ∷
    (1, SendOut 2 (MessageFrame (message (ring_of 1 1) 5 1 (pack (call_of 7 1 ∷ call_of 8 1 ∷ call_of 9 1 ∷ call_of 11 1 ∷ []))))) ∷
    (1, SendOut 2 (token (ring_of 1 1) 7 5 5 None [])) ∷
    (1, Agreed (ring_of 1 1) 5 (message (ring_of 1 1) 5 1 (pack (call_of 7 1 ∷ call_of 8 1 ∷ call_of 9 1 ∷ call_of 11 1 ∷ [])))) ∷
    (1, Safe (ring_of 1 1) 2) ∷
    (2, Agreed (ring_of 1 1) 5 (message (ring_of 1 1) 5 1 (pack (call_of 7 1 ∷ call_of 8 1 ∷ call_of 9 1 ∷ call_of 11 1 ∷ [])))) ∷
    (2, SendOut 1 (token (ring_of 1 1) 8 5 5 None [])) ∷ (2, Safe (ring_of 1 1) 4) ∷ (1, SendOut 2 (token (ring_of 1 1) 9 5 5 None [])) ∷
    (1, Safe (ring_of 1 1) 5) ∷ (2, SendOut 1 (token (ring_of 1 1) 10 5 5 None [])) ∷ (2, Safe (ring_of 1 1) 5) ∷
    (1, SendOut 2 (token (ring_of 1 1) 11 5 5 None [])) ∷ (2, SendOut 1 (token (ring_of 1 1) 12 5 5 None [])) ∷
    (1, SendOut 2 (token (ring_of 1 1) 13 5 5 None [])) ∷ (2, SendOut 1 (token (ring_of 1 1) 14 5 5 None [])) ∷
    (1, SendOut 2 (token (ring_of 1 1) 15 5 5 None [])) ∷ (2, SendOut 1 (token (ring_of 1 1) 16 5 5 None [])) ∷
    (1, SendOut 2 (token (ring_of 1 1) 17 5 5 None [])) ∷ (2, SendOut 1 (token (ring_of 1 1) 18 5 5 None [])) ∷
    (1, SendOut 2 (token (ring_of 1 1) 19 5 5 None [])) ∷ (2, SendOut 1 (token (ring_of 1 1) 20 5 5 None [])) ∷
    (1, SendOut 2 (token (ring_of 1 1) 21 5 5 None [])) ∷ (2, SendOut 1 (token (ring_of 1 1) 22 5 5 None [])) ∷
    (1, SendOut 2 (token (ring_of 1 1) 23 5 5 None [])) ∷ (2, SendOut 1 (token (ring_of 1 1) 24 5 5 None [])) ∷
    (1, SendOut 2 (token (ring_of 1 1) 25 5 5 None [])) ∷ (2, SendOut 1 (token (ring_of 1 1) 26 5 5 None [])) ∷
    (1, SendOut 2 (token (ring_of 1 1) 27 5 5 None [])) ∷ (2, SendOut 1 (token (ring_of 1 1) 28 5 5 None [])) ∷
    (1, SendOut 2 (token (ring_of 1 1) 29 5 5 None [])) ∷ (2, SendOut 1 (token (ring_of 1 1) 30 5 5 None [])) ∷
    (1, SendOut 2 (token (ring_of 1 1) 31 5 5 None [])) ∷ (2, SendOut 1 (token (ring_of 1 1) 32 5 5 None [])) ∷
    (1, SendOut 2 (token (ring_of 1 1) 33 5 5 None [])) ∷ (2, SendOut 1 (token (ring_of 1 1) 34 5 5 None [])) ∷
    (1, SendOut 2 (token (ring_of 1 1) 35 5 5 None [])) ∷ (2, SendOut 1 (token (ring_of 1 1) 36 5 5 None [])) ∷
    (1, SendOut 2 (token (ring_of 1 1) 37 5 5 None [])) ∷ (2, SendOut 1 (token (ring_of 1 1) 38 5 5 None [])) ∷
    (1, SendOut 2 (token (ring_of 1 1) 39 5 5 None [])) ∷ (2, SendOut 1 (token (ring_of 1 1) 40 5 5 None [])) ∷
    (1, SendOut 2 (token (ring_of 1 1) 41 5 5 None [])) ∷ (2, SendOut 1 (token (ring_of 1 1) 42 5 5 None [])) ∷
    (1, SendOut 2 (token (ring_of 1 1) 43 5 5 None [])) ∷ (2, SendOut 1 (token (ring_of 1 1) 44 5 5 None [])) ∷
    (1, SendOut 2 (token (ring_of 1 1) 45 5 5 None [])) ∷ (2, SendOut 1 (token (ring_of 1 1) 46 5 5 None [])) ∷
    (1, SendOut 2 (token (ring_of 1 1) 47 5 5 None [])) ∷ (2, SendOut 1 (token (ring_of 1 1) 48 5 5 None [])) ∷
    (1, SendOut 2 (token (ring_of 1 1) 49 5 5 None [])) ∷ (2, SendOut 1 (token (ring_of 1 1) 50 5 5 None [])) ∷
    (1, SendOut 2 (token (ring_of 1 1) 51 5 5 None [])) ∷ (2, SendOut 1 (token (ring_of 1 1) 52 5 5 None [])) ∷
    (1, SendOut 2 (token (ring_of 1 1) 53 5 5 None [])) ∷ (2, SendOut 1 (token (ring_of 1 1) 54 5 5 None [])) ∷
    (1, SendOut 2 (token (ring_of 1 1) 55 5 5 None [])) ∷ (2, SendOut 1 (token (ring_of 1 1) 56 5 5 None [])) ∷
    (1, SendOut 2 (token (ring_of 1 1) 57 5 5 None [])) ∷ (2, SendOut 1 (token (ring_of 1 1) 58 5 5 None [])) ∷
    (1, SendOut 2 (token (ring_of 1 1) 59 5 5 None [])) ∷ (2, SendOut 1 (token (ring_of 1 1) 60 5 5 None [])) ∷
    (1, SendOut 2 (token (ring_of 1 1) 61 5 5 None [])) ∷ (2, SendOut 1 (token (ring_of 1 1) 62 5 5 None [])) ∷
    (1, SendOut 2 (token (ring_of 1 1) 63 5 5 None [])) ∷ (2, SendOut 1 (token (ring_of 1 1) 64 5 5 None [])) ∷
    (1, SendOut 2 (token (ring_of 1 1) 65 5 5 None [])) ∷ (2, SendOut 1 (token (ring_of 1 1) 66 5 5 None [])) ∷
    (1, SendOut 2 (MessageFrame (message (ring_of 1 1) 6 1 (pack (call_of 14 1 ∷ call_of 15 1 ∷ []))))) ∷
    (1, SendOut 2 (token (ring_of 1 1) 67 6 6 None [])) ∷
    (1, Agreed (ring_of 1 1) 6 (message (ring_of 1 1) 6 1 (pack (call_of 14 1 ∷ call_of 15 1 ∷ [])))) ∷
    (2, Agreed (ring_of 1 1) 6 (message (ring_of 1 1) 6 1 (pack (call_of 14 1 ∷ call_of 15 1 ∷ [])))) ∷
    (2, SendOut 1 (MessageFrame (message (ring_of 1 1) 7 2 (call 13 1)))) ∷ (2, SendOut 1 (token (ring_of 1 1) 68 7 7 None [])) ∷
    (2, Agreed (ring_of 1 1) 7 (message (ring_of 1 1) 7 2 (call 13 1))) ∷ (1, SendOut 2 (token (ring_of 1 1) 69 7 6 (Some 1) (7 ∷ []))) ∷
    (1, Safe (ring_of 1 1) 6) ∷ (2, SendOut 1 (token (ring_of 1 1) 68 7 7 None [])) ∷
    (2, SendOut 1 (MessageFrame (message (ring_of 1 1) 7 2 (call 13 1)))) ∷ (2, SendOut 1 (MessageFrame (message (ring_of 1 1) 8 2 (call 19 1)))) ∷
    (2, SendOut 1 (token (ring_of 1 1) 70 8 6 (Some 1) [])) ∷ (2, Agreed (ring_of 1 1) 8 (message (ring_of 1 1) 8 2 (call 19 1))) ∷
    (2, Safe (ring_of 1 1) 6) ∷ (1, SendOut 2 (MessageFrame (message (ring_of 1 1) 9 1 (call 16 1)))) ∷
    (1, SendOut 2 (MessageFrame (message (ring_of 1 1) 10 1 head))) ∷
    (1, SendOut 2 (MessageFrame (message (ring_of 1 1) 11 1 (part 0 (call_of 18 1 ∷ []))))) ∷
    (1, SendOut 2 (MessageFrame (message (ring_of 1 1) 12 1 (part 0 (call_of 20 1 ∷ []))))) ∷
    (1, SendOut 2 (MessageFrame (message (ring_of 1 1) 13 1 (call 21 1)))) ∷ (1, SendOut 2 (token (ring_of 1 1) 71 13 6 (Some 1) (7 ∷ []))) ∷
    (2, SendOut 1 (MessageFrame (message (ring_of 1 1) 7 2 (call 13 1)))) ∷ (2, SendOut 1 (token (ring_of 1 1) 72 13 6 (Some 1) (9 ∷ 12 ∷ 13 ∷ []))) ∷
    (1, Agreed (ring_of 1 1) 7 (message (ring_of 1 1) 7 2 (call 13 1))) ∷ (1, Agreed (ring_of 1 1) 8 (message (ring_of 1 1) 8 2 (call 19 1))) ∷
    (1, Agreed (ring_of 1 1) 9 (message (ring_of 1 1) 9 1 (call 16 1))) ∷ (1, Agreed (ring_of 1 1) 10 (message (ring_of 1 1) 10 1 head)) ∷
    (1, Agreed (ring_of 1 1) 11 (message (ring_of 1 1) 11 1 (part 0 (call_of 18 1 ∷ [])))) ∷
    (1, Agreed (ring_of 1 1) 12 (message (ring_of 1 1) 12 1 (part 0 (call_of 20 1 ∷ [])))) ∷
    (1, Agreed (ring_of 1 1) 13 (message (ring_of 1 1) 13 1 (call 21 1))) ∷ (1, SendOut 2 (MessageFrame (message (ring_of 1 1) 9 1 (call 16 1)))) ∷
    (1, SendOut 2 (MessageFrame (message (ring_of 1 1) 12 1 (part 0 (call_of 20 1 ∷ []))))) ∷
    (1, SendOut 2 (MessageFrame (message (ring_of 1 1) 13 1 (call 21 1)))) ∷ (1, SendOut 2 (token (ring_of 1 1) 73 13 13 None [])) ∷
    (2, Agreed (ring_of 1 1) 9 (message (ring_of 1 1) 9 1 (call 16 1))) ∷ (2, Agreed (ring_of 1 1) 10 (message (ring_of 1 1) 10 1 head)) ∷
    (2, Agreed (ring_of 1 1) 11 (message (ring_of 1 1) 11 1 (part 0 (call_of 18 1 ∷ [])))) ∷
    (2, Agreed (ring_of 1 1) 12 (message (ring_of 1 1) 12 1 (part 0 (call_of 20 1 ∷ [])))) ∷
    (2, SendOut 1 (token (ring_of 1 1) 74 13 12 (Some 2) (13 ∷ []))) ∷ (1, SendOut 2 (MessageFrame (message (ring_of 1 1) 13 1 (call 21 1)))) ∷
    (1, SendOut 2 (token (ring_of 1 1) 75 13 12 (Some 2) [])) ∷ (1, Safe (ring_of 1 1) 12) ∷
    (2, Agreed (ring_of 1 1) 13 (message (ring_of 1 1) 13 1 (call 21 1))) ∷ (2, SendOut 1 (token (ring_of 1 1) 76 13 13 None [])) ∷
    (2, Safe (ring_of 1 1) 12) ∷ (1, SendOut 2 (MessageFrame (message (ring_of 1 1) 14 1 (part 0 (call_of 22 1 ∷ []))))) ∷
    (1, SendOut 2 (MessageFrame (message (ring_of 1 1) 15 1 (head_after (ring_of 2 1) 5 2)))) ∷
    (1, SendOut 2 (MessageFrame (message (ring_of 1 1) 16 1 head))) ∷ (1, SendOut 2 (token (ring_of 1 1) 77 16 16 None [])) ∷
    (1, Agreed (ring_of 1 1) 14 (message (ring_of 1 1) 14 1 (part 0 (call_of 22 1 ∷ [])))) ∷
    (1, Agreed (ring_of 1 1) 15 (message (ring_of 1 1) 15 1 (head_after (ring_of 2 1) 5 2))) ∷
    (1, Agreed (ring_of 1 1) 16 (message (ring_of 1 1) 16 1 head)) ∷
    (2, Agreed (ring_of 1 1) 14 (message (ring_of 1 1) 14 1 (part 0 (call_of 22 1 ∷ [])))) ∷
    (2, Agreed (ring_of 1 1) 15 (message (ring_of 1 1) 15 1 (head_after (ring_of 2 1) 5 2))) ∷
    (2, Agreed (ring_of 1 1) 16 (message (ring_of 1 1) 16 1 head)) ∷ (2, SendOut 1 (MessageFrame (message (ring_of 1 1) 17 2 (call 23 1)))) ∷
    (2, SendOut 1 (MessageFrame (message (ring_of 1 1) 18 2 (part 0 (call_of 25 1 ∷ []))))) ∷
    (2, SendOut 1 (MessageFrame (message (ring_of 1 1) 19 2 head))) ∷ (2, SendOut 1 (token (ring_of 1 1) 78 19 19 None [])) ∷
    (2, Agreed (ring_of 1 1) 17 (message (ring_of 1 1) 17 2 (call 23 1))) ∷
    (2, Agreed (ring_of 1 1) 18 (message (ring_of 1 1) 18 2 (part 0 (call_of 25 1 ∷ [])))) ∷
    (2, Agreed (ring_of 1 1) 19 (message (ring_of 1 1) 19 2 head)) ∷ (2, Safe (ring_of 1 1) 13) ∷
    (1, Agreed (ring_of 1 1) 17 (message (ring_of 1 1) 17 2 (call 23 1))) ∷
    (1, Agreed (ring_of 1 1) 18 (message (ring_of 1 1) 18 2 (part 0 (call_of 25 1 ∷ [])))) ∷
    (1, Agreed (ring_of 1 1) 19 (message (ring_of 1 1) 19 2 head)) ∷ (1, SendOut 2 (token (ring_of 1 1) 79 19 19 None [])) ∷
    (1, Safe (ring_of 1 1) 16) ∷ (2, SendOut 1 (MessageFrame (message (ring_of 1 1) 20 2 head))) ∷
    (2, SendOut 1 (MessageFrame (message (ring_of 1 1) 21 2 (call 29 1)))) ∷ (2, SendOut 1 (token (ring_of 1 1) 80 21 21 None [])) ∷
    (2, Agreed (ring_of 1 1) 20 (message (ring_of 1 1) 20 2 head)) ∷ (2, Agreed (ring_of 1 1) 21 (message (ring_of 1 1) 21 2 (call 29 1))) ∷
    (2, Safe (ring_of 1 1) 19) ∷ (1, SendOut 2 (MessageFrame (message (ring_of 1 1) 22 1 (call 30 1)))) ∷
    (1, SendOut 2 (token (ring_of 1 1) 81 22 19 (Some 1) (20 ∷ []))) ∷ (1, Safe (ring_of 1 1) 19) ∷
    (2, Agreed (ring_of 1 1) 22 (message (ring_of 1 1) 22 1 (call 30 1))) ∷ (2, SendOut 1 (MessageFrame (message (ring_of 1 1) 20 2 head))) ∷
    (2, SendOut 1 (MessageFrame (message (ring_of 1 1) 23 2 (part 0 (call_of 31 1 ∷ []))))) ∷
    (2, SendOut 1 (MessageFrame (message (ring_of 1 1) 24 2 (call 32 1)))) ∷
    (2, SendOut 1 (MessageFrame (message (ring_of 1 1) 25 2 (part 0 (call_of 33 1 ∷ []))))) ∷
    (2, SendOut 1 (MessageFrame (message (ring_of 1 1) 26 2 (head_after (ring_of 1 1) 5 2)))) ∷
    (2, SendOut 1 (MessageFrame (message (ring_of 1 1) 27 2 (pack (call_of 35 1 ∷ call_of 36 1 ∷ []))))) ∷
    (2, SendOut 1 (token (ring_of 1 1) 82 27 19 (Some 1) [])) ∷
    (2, Agreed (ring_of 1 1) 23 (message (ring_of 1 1) 23 2 (part 0 (call_of 31 1 ∷ [])))) ∷
    (2, Agreed (ring_of 1 1) 24 (message (ring_of 1 1) 24 2 (call 32 1))) ∷
    (2, Agreed (ring_of 1 1) 25 (message (ring_of 1 1) 25 2 (part 0 (call_of 33 1 ∷ [])))) ∷
    (2, Agreed (ring_of 1 1) 26 (message (ring_of 1 1) 26 2 (head_after (ring_of 1 1) 5 2))) ∷
    (2, Agreed (ring_of 1 1) 27 (message (ring_of 1 1) 27 2 (pack (call_of 35 1 ∷ call_of 36 1 ∷ [])))) ∷
    (1, Agreed (ring_of 1 1) 20 (message (ring_of 1 1) 20 2 head)) ∷ (1, Agreed (ring_of 1 1) 21 (message (ring_of 1 1) 21 2 (call 29 1))) ∷
    (1, Agreed (ring_of 1 1) 22 (message (ring_of 1 1) 22 1 (call 30 1))) ∷
    (1, Agreed (ring_of 1 1) 23 (message (ring_of 1 1) 23 2 (part 0 (call_of 31 1 ∷ [])))) ∷
    (1, Agreed (ring_of 1 1) 24 (message (ring_of 1 1) 24 2 (call 32 1))) ∷
    (1, Agreed (ring_of 1 1) 25 (message (ring_of 1 1) 25 2 (part 0 (call_of 33 1 ∷ [])))) ∷
    (1, Agreed (ring_of 1 1) 26 (message (ring_of 1 1) 26 2 (head_after (ring_of 1 1) 5 2))) ∷
    (1, Agreed (ring_of 1 1) 27 (message (ring_of 1 1) 27 2 (pack (call_of 35 1 ∷ call_of 36 1 ∷ [])))) ∷
    (1, SendOut 2 (token (ring_of 1 1) 83 27 27 None [])) ∷ (2, SendOut 1 (token (ring_of 1 1) 84 27 27 None [])) ∷
    (1, SendOut 2 (token (ring_of 1 1) 85 27 27 None [])) ∷ (1, Safe (ring_of 1 1) 27) ∷ (2, SendOut 1 (token (ring_of 1 1) 86 27 27 None [])) ∷
    (2, Safe (ring_of 1 1) 27) ∷ (1, SendOut 2 (token (ring_of 1 1) 87 27 27 None [])) ∷ (2, SendOut 1 (token (ring_of 1 1) 88 27 27 None [])) ∷
    (1, SendOut 2 (token (ring_of 1 1) 89 27 27 None [])) ∷ (2, SendOut 1 (token (ring_of 1 1) 90 27 27 None [])) ∷
    (1, SendOut 2 (token (ring_of 1 1) 91 27 27 None [])) ∷ (2, SendOut 1 (token (ring_of 1 1) 92 27 27 None [])) ∷
    (1, SendOut 2 (token (ring_of 1 1) 93 27 27 None [])) ∷ (2, SendOut 1 (token (ring_of 1 1) 94 27 27 None [])) ∷
    (1, SendOut 2 (token (ring_of 1 1) 95 27 27 None [])) ∷ (2, SendOut 1 (token (ring_of 1 1) 96 27 27 None [])) ∷
    (1, SendOut 2 (token (ring_of 1 1) 97 27 27 None [])) ∷ (2, SendOut 1 (token (ring_of 1 1) 98 27 27 None [])) ∷
    (1, SendOut 2 (token (ring_of 1 1) 99 27 27 None [])) ∷ (2, SendOut 1 (token (ring_of 1 1) 100 27 27 None [])) ∷
    (1, SendOut 2 (token (ring_of 1 1) 101 27 27 None [])) ∷ (2, SendOut 1 (token (ring_of 1 1) 102 27 27 None [])) ∷
    (1, SendOut 2 (token (ring_of 1 1) 103 27 27 None [])) ∷ (2, SendOut 1 (token (ring_of 1 1) 104 27 27 None [])) ∷
    (1, SendOut 2 (token (ring_of 1 1) 105 27 27 None [])) ∷ (2, SendOut 1 (token (ring_of 1 1) 106 27 27 None [])) ∷
    (1, SendOut 2 (token (ring_of 1 1) 107 27 27 None [])) ∷ (2, SendOut 1 (token (ring_of 1 1) 108 27 27 None [])) ∷
    (1, SendOut 2 (token (ring_of 1 1) 109 27 27 None [])) ∷ (2, SendOut 1 (token (ring_of 1 1) 110 27 27 None [])) ∷
    (1, SendOut 2 (token (ring_of 1 1) 111 27 27 None [])) ∷ (2, SendOut 1 (token (ring_of 1 1) 112 27 27 None [])) ∷ (2, SendOut 1 (join 2 1 3 0)) ∷
    (1, SendOut 2 (MessageFrame (message (ring_of 1 1) 28 1 (pack (call_of 37 1 ∷ call_of 42 1 ∷ []))))) ∷
    (1, SendOut 2 (token (ring_of 1 1) 113 28 28 None [])) ∷
    (1, Agreed (ring_of 1 1) 28 (message (ring_of 1 1) 28 1 (pack (call_of 37 1 ∷ call_of 42 1 ∷ [])))) ∷ (1, SendOut 2 (join 1 1 3 0)) ∷
    (1, SendOut 2 (commit (ring_of 2 1) 3 1 (report (ring_of 1 1) 28 27 0 ∷ []))) ∷
    (2, SendOut 1 (commit (ring_of 2 1) 3 2 (report (ring_of 1 1) 28 27 0 ∷ report (ring_of 1 1) 27 27 0 ∷ []))) ∷
    (1, SendOut 2 (commit (ring_of 2 1) 3 3 (report (ring_of 1 1) 28 27 0 ∷ report (ring_of 1 1) 27 27 0 ∷ []))) ∷
    (2, SendOut 1 (commit (ring_of 2 1) 3 4 (report (ring_of 1 1) 28 27 0 ∷ report (ring_of 1 1) 27 27 0 ∷ []))) ∷
    (1, SendOut 2 (MessageFrame (message (ring_of 2 1) 1 1 (wrapped (ring_of 1 1) 28 1 (pack_content (call_of 37 1 ∷ call_of 42 1 ∷ [])))))) ∷
    (1, SendOut 2 (MessageFrame (message (ring_of 2 1) 2 1 End))) ∷ (1, SendOut 2 (token (ring_of 2 1) 1 2 2 None [])) ∷
    (2, Agreed (ring_of 1 1) 28 (message (ring_of 1 1) 28 1 (pack (call_of 37 1 ∷ call_of 42 1 ∷ [])))) ∷
    (2, SendOut 1 (MessageFrame (message (ring_of 2 1) 3 2 End))) ∷ (2, SendOut 1 (token (ring_of 2 1) 2 3 3 None [])) ∷ []

-- The world to which the schedule leads.
abbrev pub world : World Global
world = run (ring_formed 2) events
