-- A node after a stop, whatever the stop returned.
use Rattle.std.proofs.Common.{◌≡◌, Result, Ok, Err}
use Rattle.std.specs.Prelude.{OnOk, OnErr}
use Rattle.ring_base.specs.declared.fault.Fault.{Fault}
use Rattle.ring_object.specs.Operations.{Sequential}
use Rattle.ring_node_spec.specs.Nodes.{Node, node_stopped}
use Rattle.ring_node_spec.specs.Stepping.{node_step}
use Rattle.ring_node_spec.specs.declared.input.Input.TheVariants.{Stop}

-- after a stop, whatever it returned
pub halts : {O A T : Type 0} (object : Sequential O) (n m : Node A) (r : Result T Fault) → OnOk r (m ≡ (node_step object n Stop).node)
    → OnErr r (m ≡ node_stopped n) → m ≡ node_stopped n
halts object n m (Ok x) done kept = done
halts object n m (Err x) done kept = kept
