-- A node stays within the limits of frames along its steps, by the law of nodes.
use Rattle.std.proofs.Common.{sym, subst}
use Rattle.ring_base.specs.Group.{Group}
use Rattle.ring_object.specs.Operations.{Sequential}
use Rattle.ring_payload.specs.Calls.{CallFits}
use Rattle.ring_payload.specs.declared.call.Call.{Call}
use Rattle.ring_node_spec.specs.NodeLimits.{InputFits}
use Rattle.ring_node_spec.specs.Nodes.{Node}
use Rattle.ring_node_spec.specs.Stepping.{node_step, node_after_submit}
use Rattle.ring_node_spec.specs.declared.input.Input.{Input}
use Rattle.ring_book_lines.specs.declared.input.LineInput.{LineInput}
use Rattle.ring_book_lines.specs.declared.input.LineInput.TheVariants.{Submitted, Received}
use Rattle.ring_book_lines.specs.Limits.{NodeFits}
use Rattle.ring_book_lines.specs.Machines.{node_machine}
use Rattle.ring_book_lines.specs.Runs.{IsStep, LineFits, IsLineOfStep}
use Rattle.ring_book_lines.specs.Steps.{StepView}

-- a step keeps a node within the limits
module _ {O A : Type 0} (object : Sequential O) (group : Group)
    (steps : (n : Node A) (input : Input A) → NodeFits n → InputFits input → NodeFits (node_step object n input).node)
    (submits : (n : Node A) (c : Call A) → NodeFits n → CallFits c → NodeFits (node_after_submit n c)) where
  sound_by : (s : Node A) (input : LineInput A) (l : StepView A) (t : Node A) → NodeFits s → LineFits input
      → IsLineOfStep (node_machine object group) s input l t → NodeFits t
  sound_by s (Submitted c) l t h fits made = subst NodeFits (sym made.1) (submits s c h fits.fits)
  sound_by s (Received i at) l t h fits made = subst NodeFits (sym made.1) (steps s i h fits)

  pub node_sound : (s : Node A) (l : StepView A) (t : Node A) → NodeFits s → IsStep (node_machine object group) s l t → NodeFits t
  node_sound s l t h step = sound_by s l.input l t h step.fits step.makes
