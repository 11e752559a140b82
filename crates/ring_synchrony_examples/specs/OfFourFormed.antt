-- A random schedule of four processors in a formed ring: Heads, a Pack and a Call are wrapped for all, and are the
-- rest of the old ring.
-- The outputs are those of an independent implementation of the protocol.
use Rattle.std.specs.Prelude.{ℕ, List, [], ◌∷◌, Some, None}
use Rattle.std.specs.declared.alloc.Global.{Global}
use Rattle.ring_payload.specs.declared.content.Payload.TheVariants.{End}
use Rattle.ring_wire.specs.declared.frame.Frame.TheVariants.{Message as MessageFrame}
use Rattle.ring_base.specs.declared.timeout_kind.Kind.TheVariants.{Retransmit, Loss}
use Rattle.ring_core_spec.specs.declared.out.Out.{Out}
use Rattle.ring_core_spec.specs.declared.out.Out.TheVariants.{Send as SendOut, Agreed, Safe, Trans, Rest, Regular}
use Rattle.ring_core_proof.specs.declared.event.RingEvent.{RingEvent}
use Rattle.ring_core_proof.specs.declared.event.RingEvent.TheVariants.{Send as SendEvent, Deliver, Timeout as TimeEvent}
use Rattle.ring_core_proof.specs.Worlds.{World, run, ring_formed}
use Rattle.ring_core_proof.specs.Samples.{ring_of}
use Rattle.ring_synchrony_examples.specs.Words.{call_of, call, call_content, head_after, head_content_after, pack, pack_content}
use Rattle.ring_synchrony_examples.specs.Words.{wrapped, message, token, join, report, commit}

-- The events, in order.
abbrev pub events : List (RingEvent Global)
events =
    Deliver 2 1 ∷ Deliver 3 2 ∷ Deliver 4 3 ∷ Deliver 1 4 ∷ Deliver 2 5 ∷ Deliver 3 6 ∷ Deliver 4 7 ∷ Deliver 1 8 ∷ Deliver 2 9 ∷ Deliver 3 10 ∷
    Deliver 4 11 ∷ SendEvent 1 (head_after (ring_of 2 1) 5 2) ∷ SendEvent 3 (call 2 1) ∷ SendEvent 3 (call 3 1) ∷ SendEvent 4 (call 4 1) ∷
    SendEvent 4 (head_after (ring_of 1 1) 5 2) ∷ SendEvent 3 (call 6 1) ∷ Deliver 1 12 ∷ Deliver 2 13 ∷ Deliver 4 13 ∷ Deliver 2 14 ∷ Deliver 3 15 ∷
    Deliver 1 16 ∷ Deliver 4 16 ∷ Deliver 4 17 ∷ SendEvent 2 End ∷ SendEvent 1 (call 8 1) ∷ SendEvent 1 (call 9 1) ∷ Deliver 1 19 ∷ Deliver 3 3 ∷
    SendEvent 4 (call 10 1) ∷ SendEvent 1 (call 11 1) ∷ SendEvent 4 (call 12 1) ∷ SendEvent 2 (call 13 1) ∷ SendEvent 4 (call 14 1) ∷
    TimeEvent 3 Retransmit ∷ TimeEvent 1 Loss ∷ TimeEvent 2 Loss ∷ TimeEvent 3 Loss ∷ Deliver 3 19 ∷ Deliver 1 20 ∷ Deliver 2 20 ∷ Deliver 3 20 ∷
    Deliver 1 21 ∷ Deliver 4 22 ∷ Deliver 2 23 ∷ Deliver 3 23 ∷ Deliver 4 23 ∷ Deliver 1 24 ∷ Deliver 3 24 ∷ Deliver 4 24 ∷ Deliver 1 25 ∷
    Deliver 2 25 ∷ Deliver 4 25 ∷ Deliver 1 26 ∷ Deliver 2 26 ∷ Deliver 3 26 ∷ Deliver 3 26 ∷ Deliver 2 27 ∷ Deliver 3 28 ∷ Deliver 4 29 ∷
    Deliver 1 30 ∷ Deliver 1 30 ∷ Deliver 2 31 ∷ Deliver 3 32 ∷ Deliver 4 33 ∷ Deliver 1 34 ∷ Deliver 2 35 ∷ Deliver 3 35 ∷ Deliver 4 35 ∷
    Deliver 2 36 ∷ Deliver 2 36 ∷ Deliver 3 36 ∷ Deliver 4 36 ∷ Deliver 2 37 ∷ Deliver 3 37 ∷ Deliver 4 37 ∷ Deliver 2 38 ∷ Deliver 3 38 ∷
    Deliver 4 38 ∷ Deliver 2 39 ∷ Deliver 3 39 ∷ Deliver 4 39 ∷ Deliver 2 40 ∷ Deliver 1 41 ∷ Deliver 3 41 ∷ Deliver 4 41 ∷ Deliver 3 42 ∷
    Deliver 1 43 ∷ Deliver 2 43 ∷ Deliver 4 43 ∷ Deliver 4 44 ∷ Deliver 1 45 ∷ Deliver 2 45 ∷ Deliver 3 45 ∷ Deliver 1 46 ∷ Deliver 1 46 ∷
    Deliver 2 47 ∷ Deliver 3 48 ∷ Deliver 4 49 ∷ Deliver 1 50 ∷ Deliver 2 51 ∷ Deliver 3 52 ∷ Deliver 4 53 ∷ Deliver 1 54 ∷ Deliver 2 55 ∷
    Deliver 3 56 ∷ Deliver 4 57 ∷ Deliver 1 58 ∷ Deliver 2 59 ∷ []

-- The outputs in order, each with its processor.
abbrev pub outs : List (ℕ × Out Global)
outs =
    (2, SendOut 4 (token (ring_of 1 1) 2 0 0 None [])) ∷ (3, SendOut 8 (token (ring_of 1 1) 3 0 0 None [])) ∷
    (4, SendOut 1 (token (ring_of 1 1) 4 0 0 None [])) ∷ (1, SendOut 2 (token (ring_of 1 1) 5 0 0 None [])) ∷
    (2, SendOut 4 (token (ring_of 1 1) 6 0 0 None [])) ∷ (3, SendOut 8 (token (ring_of 1 1) 7 0 0 None [])) ∷
    (4, SendOut 1 (token (ring_of 1 1) 8 0 0 None [])) ∷ (1, SendOut 2 (token (ring_of 1 1) 9 0 0 None [])) ∷
    (2, SendOut 4 (token (ring_of 1 1) 10 0 0 None [])) ∷ (3, SendOut 8 (token (ring_of 1 1) 11 0 0 None [])) ∷
    (4, SendOut 1 (token (ring_of 1 1) 12 0 0 None [])) ∷ (1, SendOut 14 (MessageFrame (message (ring_of 1 1) 1 1 (head_after (ring_of 2 1) 5 2)))) ∷
    (1, SendOut 2 (token (ring_of 1 1) 13 1 1 None [])) ∷ (1, Agreed (ring_of 1 1) 1 (message (ring_of 1 1) 1 1 (head_after (ring_of 2 1) 5 2))) ∷
    (2, Agreed (ring_of 1 1) 1 (message (ring_of 1 1) 1 1 (head_after (ring_of 2 1) 5 2))) ∷
    (4, Agreed (ring_of 1 1) 1 (message (ring_of 1 1) 1 1 (head_after (ring_of 2 1) 5 2))) ∷ (2, SendOut 4 (token (ring_of 1 1) 14 1 1 None [])) ∷
    (3, SendOut 11 (MessageFrame (message (ring_of 1 1) 2 3 (pack (call_of 2 1 ∷ call_of 3 1 ∷ call_of 6 1 ∷ []))))) ∷
    (3, SendOut 8 (token (ring_of 1 1) 15 2 0 (Some 3) (1 ∷ []))) ∷
    (1, Agreed (ring_of 1 1) 2 (message (ring_of 1 1) 2 3 (pack (call_of 2 1 ∷ call_of 3 1 ∷ call_of 6 1 ∷ [])))) ∷
    (4, Agreed (ring_of 1 1) 2 (message (ring_of 1 1) 2 3 (pack (call_of 2 1 ∷ call_of 3 1 ∷ call_of 6 1 ∷ [])))) ∷
    (4, SendOut 7 (MessageFrame (message (ring_of 1 1) 1 1 (head_after (ring_of 2 1) 5 2)))) ∷
    (4, SendOut 7 (MessageFrame (message (ring_of 1 1) 3 4 (call 4 1)))) ∷
    (4, SendOut 7 (MessageFrame (message (ring_of 1 1) 4 4 (head_after (ring_of 1 1) 5 2)))) ∷
    (4, SendOut 1 (token (ring_of 1 1) 16 4 0 (Some 3) [])) ∷ (4, Agreed (ring_of 1 1) 3 (message (ring_of 1 1) 3 4 (call 4 1))) ∷
    (4, Agreed (ring_of 1 1) 4 (message (ring_of 1 1) 4 4 (head_after (ring_of 1 1) 5 2))) ∷
    (1, Agreed (ring_of 1 1) 3 (message (ring_of 1 1) 3 4 (call 4 1))) ∷ (3, SendOut 8 (token (ring_of 1 1) 15 2 0 (Some 3) (1 ∷ []))) ∷
    (1, SendOut 14 (join 1 1 15 0)) ∷ (2, SendOut 13 (join 2 1 15 0)) ∷ (3, SendOut 11 (join 3 1 15 0)) ∷
    (1, Agreed (ring_of 1 1) 4 (message (ring_of 1 1) 4 4 (head_after (ring_of 1 1) 5 2))) ∷ (4, SendOut 7 (join 4 1 15 0)) ∷
    (1, SendOut 2 (commit (ring_of 2 1) 15 1 (report (ring_of 1 1) 4 0 0 ∷ []))) ∷
    (2, SendOut 4 (commit (ring_of 2 1) 15 2 (report (ring_of 1 1) 4 0 0 ∷ report (ring_of 1 1) 1 0 4 ∷ []))) ∷
    (3, SendOut 8 (commit (ring_of 2 1) 15 3 (report (ring_of 1 1) 4 0 0 ∷ report (ring_of 1 1) 1 0 4 ∷ report (ring_of 1 1) 0 0 14 ∷ []))) ∷ (
      4,
      SendOut 1 (commit (ring_of 2 1) 15 4 (report (ring_of 1 1) 4 0 0 ∷ report (ring_of 1 1) 1 0 4 ∷ report (ring_of 1 1) 0 0 14 ∷
          report (ring_of 1 1) 4 0 0 ∷ [])),
    ) ∷ (
      1,
      SendOut 2 (commit (ring_of 2 1) 15 5 (report (ring_of 1 1) 4 0 0 ∷ report (ring_of 1 1) 1 0 4 ∷ report (ring_of 1 1) 0 0 14 ∷
          report (ring_of 1 1) 4 0 0 ∷ [])),
    ) ∷ (
      2,
      SendOut 4 (commit (ring_of 2 1) 15 6 (report (ring_of 1 1) 4 0 0 ∷ report (ring_of 1 1) 1 0 4 ∷ report (ring_of 1 1) 0 0 14 ∷
          report (ring_of 1 1) 4 0 0 ∷ [])),
    ) ∷ (
      3,
      SendOut 8 (commit (ring_of 2 1) 15 7 (report (ring_of 1 1) 4 0 0 ∷ report (ring_of 1 1) 1 0 4 ∷ report (ring_of 1 1) 0 0 14 ∷
          report (ring_of 1 1) 4 0 0 ∷ [])),
    ) ∷ (
      4,
      SendOut 1 (commit (ring_of 2 1) 15 8 (report (ring_of 1 1) 4 0 0 ∷ report (ring_of 1 1) 1 0 4 ∷ report (ring_of 1 1) 0 0 14 ∷
          report (ring_of 1 1) 4 0 0 ∷ [])),
    ) ∷
    (1, SendOut 14 (MessageFrame (message (ring_of 2 1) 1 1 (wrapped (ring_of 1 1) 1 1 (head_content_after (ring_of 2 1) 5 2))))) ∷
    (1, SendOut 14 (MessageFrame (message (ring_of 2 1) 2 1 (wrapped (ring_of 1 1) 2 3 (pack_content (call_of 2 1 ∷ call_of 3 1 ∷ call_of 6 1 ∷ [])))))) ∷
    (1, SendOut 14 (MessageFrame (message (ring_of 2 1) 3 1 (wrapped (ring_of 1 1) 3 4 (call_content 4 1))))) ∷
    (1, SendOut 14 (MessageFrame (message (ring_of 2 1) 4 1 (wrapped (ring_of 1 1) 4 4 (head_content_after (ring_of 1 1) 5 2))))) ∷
    (1, SendOut 14 (MessageFrame (message (ring_of 2 1) 5 1 End))) ∷ (1, SendOut 2 (token (ring_of 2 1) 1 5 5 None [])) ∷
    (3, Agreed (ring_of 1 1) 1 (message (ring_of 1 1) 1 1 (head_after (ring_of 2 1) 5 2))) ∷
    (3, Agreed (ring_of 1 1) 2 (message (ring_of 1 1) 2 3 (pack (call_of 2 1 ∷ call_of 3 1 ∷ call_of 6 1 ∷ [])))) ∷
    (3, Agreed (ring_of 1 1) 3 (message (ring_of 1 1) 3 4 (call 4 1))) ∷
    (3, Agreed (ring_of 1 1) 4 (message (ring_of 1 1) 4 4 (head_after (ring_of 1 1) 5 2))) ∷
    (2, Agreed (ring_of 1 1) 2 (message (ring_of 1 1) 2 3 (pack (call_of 2 1 ∷ call_of 3 1 ∷ call_of 6 1 ∷ [])))) ∷
    (2, Agreed (ring_of 1 1) 3 (message (ring_of 1 1) 3 4 (call 4 1))) ∷
    (2, Agreed (ring_of 1 1) 4 (message (ring_of 1 1) 4 4 (head_after (ring_of 1 1) 5 2))) ∷
    (2, SendOut 13 (MessageFrame (message (ring_of 2 1) 6 2 End))) ∷ (2, SendOut 4 (token (ring_of 2 1) 2 6 6 None [])) ∷
    (3, SendOut 11 (MessageFrame (message (ring_of 2 1) 7 3 End))) ∷ (3, SendOut 8 (token (ring_of 2 1) 3 7 7 None [])) ∷
    (4, SendOut 7 (MessageFrame (message (ring_of 2 1) 8 4 End))) ∷ (4, SendOut 1 (token (ring_of 2 1) 4 8 8 None [])) ∷
    (1, SendOut 2 (token (ring_of 2 1) 5 8 8 None [])) ∷ (2, SendOut 4 (token (ring_of 2 1) 6 8 8 None [])) ∷
    (3, SendOut 8 (token (ring_of 2 1) 7 8 8 None [])) ∷ (4, SendOut 1 (token (ring_of 2 1) 8 8 8 None [])) ∷
    (4, Trans (ring_of 1 1) (ring_of 2 1) 15) ∷ (4, Rest (ring_of 1 1) 1 (message (ring_of 1 1) 1 1 (head_after (ring_of 2 1) 5 2))) ∷
    (4, Rest (ring_of 1 1) 2 (message (ring_of 1 1) 2 3 (pack (call_of 2 1 ∷ call_of 3 1 ∷ call_of 6 1 ∷ [])))) ∷
    (4, Rest (ring_of 1 1) 3 (message (ring_of 1 1) 3 4 (call 4 1))) ∷
    (4, Rest (ring_of 1 1) 4 (message (ring_of 1 1) 4 4 (head_after (ring_of 1 1) 5 2))) ∷ (4, Regular (ring_of 2 1) 15) ∷ (4, Safe (ring_of 2 1) 8) ∷
    (1, SendOut 2 (token (ring_of 2 1) 9 8 8 None [])) ∷ (1, Trans (ring_of 1 1) (ring_of 2 1) 15) ∷
    (1, Rest (ring_of 1 1) 1 (message (ring_of 1 1) 1 1 (head_after (ring_of 2 1) 5 2))) ∷
    (1, Rest (ring_of 1 1) 2 (message (ring_of 1 1) 2 3 (pack (call_of 2 1 ∷ call_of 3 1 ∷ call_of 6 1 ∷ [])))) ∷
    (1, Rest (ring_of 1 1) 3 (message (ring_of 1 1) 3 4 (call 4 1))) ∷
    (1, Rest (ring_of 1 1) 4 (message (ring_of 1 1) 4 4 (head_after (ring_of 1 1) 5 2))) ∷ (1, Regular (ring_of 2 1) 15) ∷ (1, Safe (ring_of 2 1) 8) ∷
    (2, SendOut 4 (token (ring_of 2 1) 10 8 8 None [])) ∷ (2, Trans (ring_of 1 1) (ring_of 2 1) 15) ∷
    (2, Rest (ring_of 1 1) 1 (message (ring_of 1 1) 1 1 (head_after (ring_of 2 1) 5 2))) ∷
    (2, Rest (ring_of 1 1) 2 (message (ring_of 1 1) 2 3 (pack (call_of 2 1 ∷ call_of 3 1 ∷ call_of 6 1 ∷ [])))) ∷
    (2, Rest (ring_of 1 1) 3 (message (ring_of 1 1) 3 4 (call 4 1))) ∷
    (2, Rest (ring_of 1 1) 4 (message (ring_of 1 1) 4 4 (head_after (ring_of 1 1) 5 2))) ∷ (2, Regular (ring_of 2 1) 15) ∷ (2, Safe (ring_of 2 1) 8) ∷
    (3, SendOut 8 (token (ring_of 2 1) 11 8 8 None [])) ∷ (3, Trans (ring_of 1 1) (ring_of 2 1) 15) ∷
    (3, Rest (ring_of 1 1) 1 (message (ring_of 1 1) 1 1 (head_after (ring_of 2 1) 5 2))) ∷
    (3, Rest (ring_of 1 1) 2 (message (ring_of 1 1) 2 3 (pack (call_of 2 1 ∷ call_of 3 1 ∷ call_of 6 1 ∷ [])))) ∷
    (3, Rest (ring_of 1 1) 3 (message (ring_of 1 1) 3 4 (call 4 1))) ∷
    (3, Rest (ring_of 1 1) 4 (message (ring_of 1 1) 4 4 (head_after (ring_of 1 1) 5 2))) ∷ (3, Regular (ring_of 2 1) 15) ∷ (3, Safe (ring_of 2 1) 8) ∷
    (4, SendOut 1 (token (ring_of 2 1) 12 8 8 None [])) ∷ (1, SendOut 2 (token (ring_of 2 1) 13 8 8 None [])) ∷
    (2, SendOut 4 (token (ring_of 2 1) 14 8 8 None [])) ∷ (3, SendOut 8 (token (ring_of 2 1) 15 8 8 None [])) ∷
    (4, SendOut 1 (token (ring_of 2 1) 16 8 8 None [])) ∷ (1, SendOut 2 (token (ring_of 2 1) 17 8 8 None [])) ∷
    (2, SendOut 4 (token (ring_of 2 1) 18 8 8 None [])) ∷ []

-- The world to which the schedule leads.
abbrev pub world : World Global
world = run (ring_formed 4) events
