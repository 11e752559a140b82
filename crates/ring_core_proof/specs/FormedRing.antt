-- A worked example: two processors in a formed ring lose one message, request it, and send it again, until it is
-- safe.
-- Formats: formed ring of two
use Rattle.std.specs.Prelude.{ℕ, List, [], ◌∷◌, Some, None}
use Rattle.std.specs.declared.alloc.Global.{Global}
use Rattle.ring_base.specs.declared.timeout_kind.Kind.TheVariants.{Retransmit, Join as JoinTime, Consensus, Loss}
use Rattle.ring_payload.specs.declared.content.Payload.TheVariants.{Call as CallPayload}
use Rattle.ring_wire.specs.declared.frame.Frame.TheVariants.{Message as MessageFrame}
use Rattle.ring_core_spec.specs.declared.out.Out.{Out}
use Rattle.ring_core_spec.specs.declared.out.Out.TheVariants.{Send as SendOut, Agreed, Safe}
use Rattle.ring_core_proof.specs.declared.event.RingEvent.{RingEvent}
use Rattle.ring_core_proof.specs.declared.event.RingEvent.TheVariants.{Send, Deliver, Timeout}
use Rattle.ring_core_proof.specs.Samples.{first_ring, add_five, call_at, token_frame}

-- Frame 2, the message, never reaches processor 1; frame 5 does, twice.
abbrev pub loss_events : List (RingEvent Global)
loss_events =
    Send 2 (CallPayload add_five) ∷
    Deliver 2 1 ∷ Deliver 1 3 ∷ Deliver 2 4 ∷ Deliver 1 5 ∷ Deliver 1 5 ∷
    Deliver 1 6 ∷ Deliver 2 7 ∷ Deliver 1 8 ∷ Deliver 2 9 ∷ []

-- All outputs of both: the message is requested, sent again, agreed at processor 1 too, and safe at both.
abbrev pub loss_outs : List (ℕ × Out Global)
loss_outs =
    (2, SendOut 1 (MessageFrame (call_at 2 1))) ∷
    (2, SendOut 1 (token_frame 2 1 1 None [])) ∷
    (2, Agreed first_ring 1 (call_at 2 1)) ∷
    (1, SendOut 2 (token_frame 3 1 0 (Some 1) (1 ∷ []))) ∷
    (2, SendOut 1 (MessageFrame (call_at 2 1))) ∷
    (2, SendOut 1 (token_frame 4 1 0 (Some 1) [])) ∷
    (1, Agreed first_ring 1 (call_at 2 1)) ∷
    (1, SendOut 2 (token_frame 5 1 1 None [])) ∷
    (2, SendOut 1 (token_frame 6 1 1 None [])) ∷
    (1, SendOut 2 (token_frame 7 1 1 None [])) ∷
    (1, Safe first_ring 1) ∷
    (2, SendOut 1 (token_frame 8 1 1 None [])) ∷
    (2, Safe first_ring 1) ∷ []

-- Timeouts that do nothing in a formed ring.
abbrev pub idle_timeouts : List (RingEvent Global)
idle_timeouts = Timeout 1 Loss ∷ Timeout 2 JoinTime ∷ Timeout 1 Consensus ∷ []

-- The timeout that has an effect there.
abbrev pub repeat_timeout : List (RingEvent Global)
repeat_timeout = Timeout 1 Retransmit ∷ []

-- The ring's first frame, sent again: the token that the representative forwarded.
abbrev pub first_token_again : List (ℕ × Out Global)
first_token_again = (1, SendOut 2 (token_frame 1 0 0 None [])) ∷ []
