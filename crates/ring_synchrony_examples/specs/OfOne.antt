-- A random schedule of one processor: calls are packed in a ring of one.
-- The outputs are those of an independent implementation of the protocol.
use Rattle.std.specs.Prelude.{ℕ, List, [], ◌∷◌, None}
use Rattle.std.specs.declared.alloc.Global.{Global}
use Rattle.ring_base.specs.declared.timeout_kind.Kind.TheVariants.{Join as JoinTime, Consensus, Loss}
use Rattle.ring_core_spec.specs.declared.out.Out.{Out}
use Rattle.ring_core_spec.specs.declared.out.Out.TheVariants.{Send as SendOut, Agreed, Safe, Trans, Regular}
use Rattle.ring_core_proof.specs.declared.event.RingEvent.{RingEvent}
use Rattle.ring_core_proof.specs.declared.event.RingEvent.TheVariants.{Send as SendEvent, Deliver, Timeout as TimeEvent}
use Rattle.ring_core_proof.specs.Worlds.{World, run, unformed}
use Rattle.ring_core_proof.specs.Samples.{ring_of}
use Rattle.ring_synchrony_examples.specs.Words.{call_of, call, call_content, head, head_after, pack, wrapped, message, token, report, commit}

-- The events, in order.
abbrev pub events : List (RingEvent Global)
events =
    TimeEvent 1 JoinTime ∷ Deliver 1 1 ∷ Deliver 1 2 ∷ Deliver 1 3 ∷ Deliver 1 4 ∷ Deliver 1 5 ∷ Deliver 1 6 ∷ Deliver 1 7 ∷ Deliver 1 8 ∷
    Deliver 1 9 ∷ TimeEvent 1 Loss ∷ Deliver 1 10 ∷ Deliver 1 11 ∷ Deliver 1 12 ∷ Deliver 1 13 ∷ Deliver 1 14 ∷ Deliver 1 15 ∷ Deliver 1 16 ∷
    Deliver 1 17 ∷ Deliver 1 18 ∷ Deliver 1 19 ∷ Deliver 1 20 ∷ Deliver 1 21 ∷ Deliver 1 22 ∷ Deliver 1 23 ∷ Deliver 1 24 ∷ Deliver 1 25 ∷
    Deliver 1 26 ∷ Deliver 1 27 ∷ Deliver 1 28 ∷ Deliver 1 29 ∷ Deliver 1 30 ∷ Deliver 1 31 ∷ Deliver 1 32 ∷ Deliver 1 33 ∷ Deliver 1 34 ∷
    Deliver 1 35 ∷ Deliver 1 36 ∷ Deliver 1 37 ∷ Deliver 1 38 ∷ Deliver 1 39 ∷ Deliver 1 40 ∷ Deliver 1 41 ∷ Deliver 1 42 ∷ Deliver 1 43 ∷
    Deliver 1 44 ∷ Deliver 1 44 ∷ Deliver 1 45 ∷ Deliver 1 46 ∷ Deliver 1 47 ∷ Deliver 1 48 ∷ Deliver 1 49 ∷ Deliver 1 50 ∷ Deliver 1 51 ∷
    Deliver 1 52 ∷ Deliver 1 53 ∷ Deliver 1 54 ∷ Deliver 1 55 ∷ Deliver 1 56 ∷ Deliver 1 57 ∷ Deliver 1 58 ∷ Deliver 1 59 ∷ Deliver 1 60 ∷
    Deliver 1 61 ∷ Deliver 1 61 ∷ Deliver 1 62 ∷ Deliver 1 63 ∷ Deliver 1 64 ∷ Deliver 1 65 ∷ Deliver 1 66 ∷ Deliver 1 67 ∷ Deliver 1 68 ∷
    Deliver 1 69 ∷ Deliver 1 70 ∷ Deliver 1 71 ∷ Deliver 1 72 ∷ Deliver 1 73 ∷ Deliver 1 74 ∷ Deliver 1 75 ∷ Deliver 1 76 ∷ Deliver 1 77 ∷
    Deliver 1 78 ∷ Deliver 1 79 ∷ Deliver 1 80 ∷ Deliver 1 81 ∷ Deliver 1 82 ∷ Deliver 1 83 ∷ Deliver 1 84 ∷ Deliver 1 85 ∷ Deliver 1 86 ∷
    Deliver 1 87 ∷ Deliver 1 88 ∷ Deliver 1 89 ∷ Deliver 1 90 ∷ Deliver 1 91 ∷ TimeEvent 1 Consensus ∷ Deliver 1 92 ∷ Deliver 1 92 ∷ Deliver 1 93 ∷
    Deliver 1 94 ∷ Deliver 1 95 ∷ Deliver 1 96 ∷ Deliver 1 97 ∷ Deliver 1 98 ∷ Deliver 1 99 ∷ Deliver 1 100 ∷ Deliver 1 101 ∷ Deliver 1 102 ∷
    Deliver 1 103 ∷ Deliver 1 104 ∷ Deliver 1 105 ∷ Deliver 1 106 ∷ Deliver 1 107 ∷ Deliver 1 108 ∷ Deliver 1 109 ∷ Deliver 1 110 ∷ Deliver 1 111 ∷
    Deliver 1 112 ∷ Deliver 1 113 ∷ SendEvent 1 (wrapped (ring_of 1 1) 1 1 (call_content 1 1)) ∷ Deliver 1 114 ∷ Deliver 1 115 ∷ Deliver 1 53 ∷
    Deliver 1 116 ∷ Deliver 1 117 ∷ Deliver 1 118 ∷ Deliver 1 119 ∷ Deliver 1 120 ∷ Deliver 1 121 ∷ SendEvent 1 (head_after (ring_of 3 1) 5 2) ∷
    SendEvent 1 head ∷ SendEvent 1 (call 4 1) ∷ SendEvent 1 (call 5 1) ∷ SendEvent 1 (call 6 1) ∷ SendEvent 1 (call 7 1) ∷ Deliver 1 122 ∷
    Deliver 1 123 ∷ Deliver 1 124 ∷ Deliver 1 125 ∷ Deliver 1 126 ∷ Deliver 1 127 ∷ Deliver 1 128 ∷ Deliver 1 129 ∷ Deliver 1 130 ∷ Deliver 1 131 ∷
    Deliver 1 132 ∷ Deliver 1 133 ∷ Deliver 1 134 ∷ Deliver 1 135 ∷ Deliver 1 136 ∷ []

-- The outputs in order, each with its processor.
abbrev pub outs : List (ℕ × Out Global)
outs =
    (1, SendOut 1 (commit (ring_of 1 1) 1 1 (report (ring_of 0 1) 0 0 0 ∷ []))) ∷
    (1, SendOut 1 (commit (ring_of 1 1) 1 2 (report (ring_of 0 1) 0 0 0 ∷ []))) ∷ (1, SendOut 1 (token (ring_of 1 1) 1 1 1 None [])) ∷
    (1, SendOut 1 (token (ring_of 1 1) 2 1 1 None [])) ∷ (1, Trans (ring_of 0 1) (ring_of 1 1) 1) ∷ (1, Regular (ring_of 1 1) 1) ∷
    (1, Safe (ring_of 1 1) 1) ∷ (1, SendOut 1 (token (ring_of 1 1) 3 1 1 None [])) ∷ (1, SendOut 1 (token (ring_of 1 1) 4 1 1 None [])) ∷
    (1, SendOut 1 (token (ring_of 1 1) 5 1 1 None [])) ∷ (1, SendOut 1 (token (ring_of 1 1) 6 1 1 None [])) ∷
    (1, SendOut 1 (token (ring_of 1 1) 7 1 1 None [])) ∷ (1, SendOut 1 (token (ring_of 1 1) 8 1 1 None [])) ∷
    (1, SendOut 1 (commit (ring_of 2 1) 1 1 (report (ring_of 1 1) 1 1 0 ∷ []))) ∷
    (1, SendOut 1 (commit (ring_of 2 1) 1 2 (report (ring_of 1 1) 1 1 0 ∷ []))) ∷ (1, SendOut 1 (token (ring_of 2 1) 1 1 1 None [])) ∷
    (1, SendOut 1 (token (ring_of 2 1) 2 1 1 None [])) ∷ (1, Trans (ring_of 1 1) (ring_of 2 1) 1) ∷ (1, Regular (ring_of 2 1) 1) ∷
    (1, Safe (ring_of 2 1) 1) ∷ (1, SendOut 1 (token (ring_of 2 1) 3 1 1 None [])) ∷ (1, SendOut 1 (token (ring_of 2 1) 4 1 1 None [])) ∷
    (1, SendOut 1 (token (ring_of 2 1) 5 1 1 None [])) ∷ (1, SendOut 1 (token (ring_of 2 1) 6 1 1 None [])) ∷
    (1, SendOut 1 (token (ring_of 2 1) 7 1 1 None [])) ∷ (1, SendOut 1 (token (ring_of 2 1) 8 1 1 None [])) ∷
    (1, SendOut 1 (token (ring_of 2 1) 9 1 1 None [])) ∷ (1, SendOut 1 (token (ring_of 2 1) 10 1 1 None [])) ∷
    (1, SendOut 1 (token (ring_of 2 1) 11 1 1 None [])) ∷ (1, SendOut 1 (token (ring_of 2 1) 12 1 1 None [])) ∷
    (1, SendOut 1 (token (ring_of 2 1) 13 1 1 None [])) ∷ (1, SendOut 1 (token (ring_of 2 1) 14 1 1 None [])) ∷
    (1, SendOut 1 (token (ring_of 2 1) 15 1 1 None [])) ∷ (1, SendOut 1 (token (ring_of 2 1) 16 1 1 None [])) ∷
    (1, SendOut 1 (token (ring_of 2 1) 17 1 1 None [])) ∷ (1, SendOut 1 (token (ring_of 2 1) 18 1 1 None [])) ∷
    (1, SendOut 1 (token (ring_of 2 1) 19 1 1 None [])) ∷ (1, SendOut 1 (token (ring_of 2 1) 20 1 1 None [])) ∷
    (1, SendOut 1 (token (ring_of 2 1) 21 1 1 None [])) ∷ (1, SendOut 1 (token (ring_of 2 1) 22 1 1 None [])) ∷
    (1, SendOut 1 (token (ring_of 2 1) 23 1 1 None [])) ∷ (1, SendOut 1 (token (ring_of 2 1) 24 1 1 None [])) ∷
    (1, SendOut 1 (token (ring_of 2 1) 25 1 1 None [])) ∷ (1, SendOut 1 (token (ring_of 2 1) 26 1 1 None [])) ∷
    (1, SendOut 1 (token (ring_of 2 1) 27 1 1 None [])) ∷ (1, SendOut 1 (token (ring_of 2 1) 28 1 1 None [])) ∷
    (1, SendOut 1 (token (ring_of 2 1) 29 1 1 None [])) ∷ (1, SendOut 1 (token (ring_of 2 1) 30 1 1 None [])) ∷
    (1, SendOut 1 (token (ring_of 2 1) 31 1 1 None [])) ∷ (1, SendOut 1 (token (ring_of 2 1) 32 1 1 None [])) ∷
    (1, SendOut 1 (token (ring_of 2 1) 33 1 1 None [])) ∷ (1, SendOut 1 (token (ring_of 2 1) 34 1 1 None [])) ∷
    (1, SendOut 1 (token (ring_of 2 1) 35 1 1 None [])) ∷ (1, SendOut 1 (token (ring_of 2 1) 36 1 1 None [])) ∷
    (1, SendOut 1 (token (ring_of 2 1) 37 1 1 None [])) ∷ (1, SendOut 1 (token (ring_of 2 1) 38 1 1 None [])) ∷
    (1, SendOut 1 (token (ring_of 2 1) 39 1 1 None [])) ∷ (1, SendOut 1 (token (ring_of 2 1) 40 1 1 None [])) ∷
    (1, SendOut 1 (token (ring_of 2 1) 41 1 1 None [])) ∷ (1, SendOut 1 (token (ring_of 2 1) 42 1 1 None [])) ∷
    (1, SendOut 1 (token (ring_of 2 1) 43 1 1 None [])) ∷ (1, SendOut 1 (token (ring_of 2 1) 44 1 1 None [])) ∷
    (1, SendOut 1 (token (ring_of 2 1) 45 1 1 None [])) ∷ (1, SendOut 1 (token (ring_of 2 1) 46 1 1 None [])) ∷
    (1, SendOut 1 (token (ring_of 2 1) 47 1 1 None [])) ∷ (1, SendOut 1 (token (ring_of 2 1) 48 1 1 None [])) ∷
    (1, SendOut 1 (token (ring_of 2 1) 49 1 1 None [])) ∷ (1, SendOut 1 (token (ring_of 2 1) 50 1 1 None [])) ∷
    (1, SendOut 1 (token (ring_of 2 1) 51 1 1 None [])) ∷ (1, SendOut 1 (token (ring_of 2 1) 52 1 1 None [])) ∷
    (1, SendOut 1 (token (ring_of 2 1) 53 1 1 None [])) ∷ (1, SendOut 1 (token (ring_of 2 1) 54 1 1 None [])) ∷
    (1, SendOut 1 (token (ring_of 2 1) 55 1 1 None [])) ∷ (1, SendOut 1 (token (ring_of 2 1) 56 1 1 None [])) ∷
    (1, SendOut 1 (token (ring_of 2 1) 57 1 1 None [])) ∷ (1, SendOut 1 (token (ring_of 2 1) 58 1 1 None [])) ∷
    (1, SendOut 1 (token (ring_of 2 1) 59 1 1 None [])) ∷ (1, SendOut 1 (token (ring_of 2 1) 60 1 1 None [])) ∷
    (1, SendOut 1 (token (ring_of 2 1) 61 1 1 None [])) ∷ (1, SendOut 1 (token (ring_of 2 1) 62 1 1 None [])) ∷
    (1, SendOut 1 (token (ring_of 2 1) 63 1 1 None [])) ∷ (1, SendOut 1 (token (ring_of 2 1) 64 1 1 None [])) ∷
    (1, SendOut 1 (token (ring_of 2 1) 65 1 1 None [])) ∷ (1, SendOut 1 (token (ring_of 2 1) 66 1 1 None [])) ∷
    (1, SendOut 1 (token (ring_of 2 1) 67 1 1 None [])) ∷ (1, SendOut 1 (token (ring_of 2 1) 68 1 1 None [])) ∷
    (1, SendOut 1 (token (ring_of 2 1) 69 1 1 None [])) ∷ (1, SendOut 1 (token (ring_of 2 1) 70 1 1 None [])) ∷
    (1, SendOut 1 (token (ring_of 2 1) 71 1 1 None [])) ∷ (1, SendOut 1 (token (ring_of 2 1) 72 1 1 None [])) ∷
    (1, SendOut 1 (token (ring_of 2 1) 73 1 1 None [])) ∷ (1, SendOut 1 (token (ring_of 2 1) 74 1 1 None [])) ∷
    (1, SendOut 1 (token (ring_of 2 1) 75 1 1 None [])) ∷ (1, SendOut 1 (token (ring_of 2 1) 76 1 1 None [])) ∷
    (1, SendOut 1 (token (ring_of 2 1) 77 1 1 None [])) ∷ (1, SendOut 1 (token (ring_of 2 1) 78 1 1 None [])) ∷
    (1, SendOut 1 (token (ring_of 2 1) 79 1 1 None [])) ∷ (1, SendOut 1 (token (ring_of 2 1) 80 1 1 None [])) ∷
    (1, SendOut 1 (token (ring_of 2 1) 81 1 1 None [])) ∷ (1, SendOut 1 (token (ring_of 2 1) 82 1 1 None [])) ∷
    (1, SendOut 1 (token (ring_of 2 1) 83 1 1 None [])) ∷ (1, SendOut 1 (token (ring_of 2 1) 84 1 1 None [])) ∷
    (1, SendOut 1 (token (ring_of 2 1) 85 1 1 None [])) ∷ (1, SendOut 1 (token (ring_of 2 1) 86 1 1 None [])) ∷
    (1, SendOut 1 (token (ring_of 2 1) 87 1 1 None [])) ∷ (1, SendOut 1 (token (ring_of 2 1) 88 1 1 None [])) ∷
    (1, SendOut 1 (token (ring_of 2 1) 89 1 1 None [])) ∷ (1, SendOut 1 (token (ring_of 2 1) 90 1 1 None [])) ∷
    (1, SendOut 1 (token (ring_of 2 1) 91 1 1 None [])) ∷ (1, SendOut 1 (token (ring_of 2 1) 92 1 1 None [])) ∷
    (1, SendOut 1 (token (ring_of 2 1) 93 1 1 None [])) ∷ (1, SendOut 1 (token (ring_of 2 1) 94 1 1 None [])) ∷
    (1, SendOut 1 (token (ring_of 2 1) 95 1 1 None [])) ∷ (1, SendOut 1 (token (ring_of 2 1) 96 1 1 None [])) ∷
    (1, SendOut 1 (token (ring_of 2 1) 97 1 1 None [])) ∷ (1, SendOut 1 (token (ring_of 2 1) 98 1 1 None [])) ∷
    (1, SendOut 1 (token (ring_of 2 1) 99 1 1 None [])) ∷ (1, SendOut 1 (token (ring_of 2 1) 100 1 1 None [])) ∷
    (1, SendOut 1 (token (ring_of 2 1) 101 1 1 None [])) ∷ (1, SendOut 1 (token (ring_of 2 1) 102 1 1 None [])) ∷
    (1, SendOut 1 (token (ring_of 2 1) 103 1 1 None [])) ∷ (1, SendOut 1 (token (ring_of 2 1) 104 1 1 None [])) ∷
    (1, SendOut 1 (token (ring_of 2 1) 105 1 1 None [])) ∷ (1, SendOut 1 (token (ring_of 2 1) 106 1 1 None [])) ∷
    (1, SendOut 1 (token (ring_of 2 1) 107 1 1 None [])) ∷ (1, SendOut 1 (token (ring_of 2 1) 108 1 1 None [])) ∷
    (1, SendOut 1 (token (ring_of 2 1) 109 1 1 None [])) ∷ (1, SendOut 1 (token (ring_of 2 1) 110 1 1 None [])) ∷
    (1, SendOut 1 (token (ring_of 2 1) 111 4 4 None [])) ∷ (1, Agreed (ring_of 2 1) 2 (message (ring_of 2 1) 2 1 (head_after (ring_of 3 1) 5 2))) ∷
    (1, Agreed (ring_of 2 1) 3 (message (ring_of 2 1) 3 1 head)) ∷
    (1, Agreed (ring_of 2 1) 4 (message (ring_of 2 1) 4 1 (pack (call_of 4 1 ∷ call_of 5 1 ∷ call_of 6 1 ∷ call_of 7 1 ∷ [])))) ∷
    (1, SendOut 1 (token (ring_of 2 1) 112 4 4 None [])) ∷ (1, Safe (ring_of 2 1) 4) ∷ (1, SendOut 1 (token (ring_of 2 1) 113 4 4 None [])) ∷
    (1, SendOut 1 (token (ring_of 2 1) 114 4 4 None [])) ∷ (1, SendOut 1 (token (ring_of 2 1) 115 4 4 None [])) ∷
    (1, SendOut 1 (token (ring_of 2 1) 116 4 4 None [])) ∷ (1, SendOut 1 (token (ring_of 2 1) 117 4 4 None [])) ∷
    (1, SendOut 1 (token (ring_of 2 1) 118 4 4 None [])) ∷ (1, SendOut 1 (token (ring_of 2 1) 119 4 4 None [])) ∷
    (1, SendOut 1 (token (ring_of 2 1) 120 4 4 None [])) ∷ (1, SendOut 1 (token (ring_of 2 1) 121 4 4 None [])) ∷
    (1, SendOut 1 (token (ring_of 2 1) 122 4 4 None [])) ∷ (1, SendOut 1 (token (ring_of 2 1) 123 4 4 None [])) ∷
    (1, SendOut 1 (token (ring_of 2 1) 124 4 4 None [])) ∷ (1, SendOut 1 (token (ring_of 2 1) 125 4 4 None [])) ∷ []

-- The world to which the schedule leads.
abbrev pub world : World Global
world = run (unformed 1) events
