-- The state of Recovery once a message of the running ring is held, and the old ring's window once it takes the inner
-- message.
-- Rules: Recovery 5 to 7
use Rattle.std.specs.Prelude.{List, ◌++◌}
use Rattle.ring_payload.specs.declared.content.Payload.{Payload}
use Rattle.ring_wire.specs.declared.message.Message.{Message}
use Rattle.ring_window.specs.Windows.{WindowHistory, window_after_take}
use Rattle.ring_recover.specs.Installing.{in_front}
use Rattle.ring_recover.specs.RecoveryState.{with_seen}
use Rattle.ring_recover.specs.Wrapping.{inner_messages}
use Rattle.ring_srp_state.specs.declared.recovery_state.RecoveryState.{RecoveryState}

-- The messages of a window that its front covers, ascending.
abbrev pub window_front : {A : Type 0} → WindowHistory A → List (Message A)
window_front w = in_front w.held w.ring

-- The state once a message is held: the plan has seen it, the window holds it, and it is counted if the front covers
-- it.
abbrev pub with_taken : {A : Type 0} → RecoveryState A → Message A → RecoveryState A
with_taken r x =
    record r {
      part = record r.part { window = window_after_take r.part.window x };
      plan = with_seen r.plan x;
      ends = window_front (window_after_take r.part.window x);
    }

-- The inner message of a payload, if it belongs to the window's ring and is new there.
abbrev pub inner_of : {A : Type 0} → WindowHistory A → Payload A → List (Message A)
inner_of w payload = inner_messages w.ring w.mark w.held payload

-- The window once it holds that message.
abbrev pub with_inner : {A : Type 0} → WindowHistory A → Payload A → WindowHistory A
with_inner w payload = record w { held = inner_of w payload ++ w.held }
