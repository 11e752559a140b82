-- A submit is refused exactly as the replica refuses it.
use Rattle.std.proofs.Common.{◌≡◌, Some, None, sym, ap, ◌∙◌}
use Rattle.ring_replica.specs.NodeSpec.{submit_fault}
use Rattle.ring_replica.specs.Replicas.{submit_refusal}
use Rattle.ring_node.proofs.NodeSteps.{fault-is, err-as}
use Rattle.ring_base.proofs.Results.{on-ok}
use Rattle.ring_node.proofs.node.Node.check_submit.Goals as goal

pub returns-clause-ok : goal.returns-clause-ok
returns-clause-ok g c =
    let s = c.self.inside in
    let is : submit_fault c.args.self.now ≡ submit_refusal s.replica = ap submit_fault (sym c.self.view_is)
    ∙ fault-is s.core s.replica s.last_configuration s.core_before_stop.value c.self.invariant in
    on-ok c.check_ticket_available.result (submit_refusal s.replica ≡ None) (submit_fault c.args.self.now ≡ None) (λ e. is ∙ e) c.check_ticket_available.ensures.ok

pub returns-clause-err : goal.returns-clause-err
returns-clause-err g c =
    let s = c.self.inside in
    let is : submit_fault c.args.self.now ≡ submit_refusal s.replica = ap submit_fault (sym c.self.view_is)
    ∙ fault-is s.core s.replica s.last_configuration s.core_before_stop.value c.self.invariant in
    err-as c.check_ticket_available.result (λ fault. submit_refusal s.replica ≡ Some fault)
    (λ fault. submit_fault c.args.self.now ≡ Some fault) (λ fault e. is ∙ e) c.check_ticket_available.ensures.err
