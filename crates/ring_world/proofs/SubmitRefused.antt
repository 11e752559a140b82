-- A refusal that doesn't depend on memory is not `Memory`, and room for many is room for fewer.
use Rattle.std.proofs.Common.{◌≡◌, ℕ, ◌≤◌, Bool, true, false, if◌then◌else◌, arith}
use Rattle.ring_base.specs.declared.fault.Fault.{Fault}
use Rattle.ring_base.specs.Numbers.{max_number}
use Rattle.ring_base.specs.declared.fault.Fault.TheVariants.{Memory, PendingFull, Stopped as StoppedFault}
use Rattle.ring_node_spec.specs.Nodes.{Node, node_pending, is_stopped}
use Rattle.ring_node_spec.specs.Stepping.{submit_fault}
use Rattle.std.specs.Prelude.{nat_le, length, Some, None}
use Rattle.ring_world.specs.StoredFramesView.{StoredFramesView, HasRoom}

pub room_less : {A : Type 0} (many few : ℕ) (s : StoredFramesView A) → few ≤ many → HasRoom many s → HasRoom few s
room_less many few s l h = record { places = (let p = h.places in omega (arith, p, l)); bytes = (let b = h.bytes in omega (arith, b, l)) }

by_tests : (a b c : Bool) (f : Fault)
    → (if a then Some StoppedFault else if b then Some PendingFull else if c then Some PendingFull else None) ≡ Some f
    → f ≡ Memory → ⊥
by_tests true b c f e m = cc (e, m)
by_tests false true c f e m = cc (e, m)
by_tests false false true f e m = cc (e, m)
by_tests false false false f e m = cc e

-- a refusal that doesn't depend on memory is not `Memory`
pub not_memory : {A : Type 0} (n : Node A) (f : Fault) → submit_fault n ≡ Some f → f ≡ Memory → ⊥
not_memory n f e m = by_tests (is_stopped n.core.state) (nat_le 64 (length (node_pending n))) (nat_le max_number (length n.tickets)) f e m
