-- Inputs of a node that are within the limits of frames; a frame that is within them has an encoding.
-- Rules: Limits 1
use Rattle.ring_core_spec.specs.Frames.{FrameFits}
use Rattle.ring_node_spec.specs.declared.input.Input.{Input}
use Rattle.ring_node_spec.specs.declared.input.Input.TheVariants.{Frame, Noise, Timeout, Stop}

-- a frame is within the limits that decoding guarantees
abbrev pub InputFits : {A : Type 0} → Input A → Type 0
InputFits (Frame frame) = FrameFits frame
InputFits Noise = Unit {0}
InputFits (Timeout kind) = Unit {0}
InputFits Stop = Unit {0}
