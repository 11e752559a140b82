-- A call is handed to the core at once if an adopted ring runs.
use Rattle.std.proofs.Common.{true, false, sym, ap, ◌∙◌}
use Rattle.ring_payload.specs.declared.content.Payload.TheVariants.{Call}
use Rattle.ring_core_spec.specs.Stepping.{ring_step}
use Rattle.ring_core_spec.specs.declared.input.Input.TheVariants.{Send as SendInput}
use Rattle.ring_node.specs.declared.node.Node.TheInside.{Inside}
use Rattle.ring_node.proofs.NodeSteps.{given-node}
use Rattle.ring_node.proofs.node.Node.give_ticket.Goals as goal
use Rattle.ring_node.proofs.node.Node.give_ticket.Goals.{then-has_adopted+in_ok-copy_of+in_ok-send, else-has_adopted}

pub invariant_of-self-2 : goal.invariant_of-self-2
invariant_of-self-2 g c =
    let s = c.self.inside in
    let t = c.if-has_adopted.self-inside in
    elim c.if-has_adopted.branch [
      | then-has_adopted+in_ok-copy_of+in_ok-send w ↦
          given-node s.core t.core s.replica t.replica c.give_ticket.new.self s.last_configuration t.last_configuration s.core_before_stop.value t.core_before_stop.value
          c.running_ring_of-running.result c.args.call true c.self.invariant
          (ap (λ (x : Inside _ _). x.replica) w.self-inside-is) (ap (λ (x : Inside _ _). x.last_configuration) w.self-inside-is)
          (ap (λ (x : Inside _ _). x.core_before_stop.value) w.self-inside-is)
          (sym c.has_adopted.ensures ∙ w.if-has_adopted.true)
          (ap (λ (x : Inside _ _). x.core) w.self-inside-is ∙ w.in_ok-send.ensures.ok
          ∙ ap (λ x. (ring_step s.core (SendInput (Call x))).core) w.in_ok-copy_of.ensures)
          c.give_ticket.ensures.replica
      | else-has_adopted w ↦
          given-node s.core t.core s.replica t.replica c.give_ticket.new.self s.last_configuration t.last_configuration s.core_before_stop.value t.core_before_stop.value
          c.running_ring_of-running.result c.args.call false c.self.invariant
          (ap (λ (x : Inside _ _). x.replica) w.self-inside-is) (ap (λ (x : Inside _ _). x.last_configuration) w.self-inside-is)
          (ap (λ (x : Inside _ _). x.core_before_stop.value) w.self-inside-is)
          (sym c.has_adopted.ensures ∙ w.if-has_adopted.false) (ap (λ (x : Inside _ _). x.core) w.self-inside-is) c.give_ticket.ensures.replica
    ]
