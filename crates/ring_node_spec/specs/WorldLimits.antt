-- Events that are within the limits of frames; a call that is within them has an encoding.
-- Rules: Limits 1
use Rattle.ring_core_spec.specs.Payloads.{CallFits}
use Rattle.ring_node_spec.specs.declared.event.Event.{Event}
use Rattle.ring_node_spec.specs.declared.event.Event.TheVariants.{Issue, Deliver, Noise, Timeout, Stop}

-- a call is within the limits that `Call::new` and decoding guarantee
abbrev pub EventFits : {A : Type 0} → Event A → Type 0
EventFits (Issue i c) = CallFits c
EventFits (Deliver i k) = Unit {0}
EventFits (Noise i bytes) = Unit {0}
EventFits (Timeout i kind) = Unit {0}
EventFits (Stop i) = Unit {0}
