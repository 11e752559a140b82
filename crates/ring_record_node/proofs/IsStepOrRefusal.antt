-- How a step is refused.
use Rattle.std.proofs.Common.{◌≡◌, Bool, true, false, Some, inl, inr, refl, subst, sym}
use Rattle.std.specs.Prelude.{if◌then◌else◌}
use Rattle.ring_base.specs.declared.fault.Fault.{Fault}
use Rattle.ring_base.specs.declared.fault.Fault.TheVariants.{Memory, Stopped}
use Rattle.ring_object.specs.Operations.{Sequential}
use Rattle.ring_node_spec.specs.Nodes.{Node, node_stopped, is_stopped}
use Rattle.ring_node_spec.specs.Stepping.{node_step}
use Rattle.ring_node_spec.specs.declared.input.Input.{Input}
use Rattle.ring_record_node.specs.RecordNodes.{IsStepOrRefusal}

module _ {O A : Type 0} (object : Sequential O) where
  refused_by : (old new : Node A) (i : Input A) (fault : Fault) (stopped : Bool) → is_stopped old.core.state ≡ stopped → new ≡ node_stopped old
      → fault ≡ (if stopped then Stopped else Memory) → IsStepOrRefusal object old i (Some fault) new
  refused_by old new i fault true is kept why = subst (λ (f : Fault). IsStepOrRefusal object old i (Some f) new) (sym why) (is, kept)
  refused_by old new i fault false is kept why = subst (λ (f : Fault). IsStepOrRefusal object old i (Some f) new) (sym why) (is, inl kept)

  -- a step was refused
  pub refused : (old new : Node A) (i : Input A) (fault : Fault) → new ≡ node_stopped old
      → fault ≡ (if is_stopped old.core.state then Stopped else Memory) → IsStepOrRefusal object old i (Some fault) new
  refused old new i fault kept why = refused_by old new i fault (is_stopped old.core.state) refl kept why

  -- a step was made, and memory for its output was refused
  pub lost : (old mid new : Node A) (i : Input A) (fault : Fault) → is_stopped old.core.state ≡ false → mid ≡ (node_step object old i).node
      → new ≡ node_stopped mid → fault ≡ Memory → IsStepOrRefusal object old i (Some fault) new
  lost old mid new i fault runs did kept why =
      subst (λ (f : Fault). IsStepOrRefusal object old i (Some f) new) (sym why) (runs, inr (subst (λ (n : Node A). new ≡ node_stopped n) did kept))
