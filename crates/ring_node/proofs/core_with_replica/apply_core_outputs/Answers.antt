-- The replica finishes the step that it took; the frames are sent unless it stopped.
use Rattle.std.proofs.Common.{[], Option, if◌then◌else◌, ap, ◌∙◌}
use Rattle.ring_base.specs.declared.ring_id.RingId.{RingId}
use Rattle.ring_replica.specs.NodeSpec.{handed_over}
use Rattle.ring_replica.specs.Replicas.{Replica, ReplicaStepResult, replica_ended, replica_step}
use Rattle.ring_node.proofs.NodeSteps.{ended-as, left-as}
use Rattle.ring_node.proofs.core_with_replica.apply_core_outputs.Goals as goal
use Rattle.ring_base.proofs.Results.{on-err}

pub returns-in_err-hand_payloads_to_core-clause-err : goal.returns-in_err-hand_payloads_to_core-clause-err
returns-in_err-hand_payloads_to_core-clause-err g c =
    on-err c.from_residual-in_err-hand_payloads_to_core.result _
    (left-as g.O.Object.sequential c.running_ring_of-running.result c.args.replica.now c.args.core_outs.now c.step.new.self c.in_ok-given.ensures.ok)

pub returns-clause-ok : goal.returns-clause-ok
returns-clause-ok g c =
    let object = g.O.Object.sequential in
    let running = c.running_ring_of-running.result in
    let r = c.args.replica.now in
    let told = c.args.core_outs.now in
    let sends = c.args.outs.now.sends.items in
    let ended = c.end_replica_step.ensures.replica
    ∙ ended-as object running r told c.step.new.self _ c.requires.going c.in_ok-given.ensures.ok (c.as_slice.ensures.value ∙ c.in_ok-given.ensures.answers) in
    let made : Option RingId → ReplicaStepResult _ = λ ring. replica_step object ring r told in
    let runs = c.running_ring_of-running.ensures in
    record {
      sends = c.clear_if_stopped.ensures ∙ ap (λ b. if b then [] else sends) (c.is_stopped.ensures ∙ ap (λ (x : Replica _). x.stopped) ended)
          ∙ ap (λ ring. if (made ring).replica.stopped then [] else sends) runs;
      answers = c.in_ok-given.ensures.answers ∙ ap (λ ring. (made ring).answers) runs;
      committed = c.in_ok-given.ensures.committed ∙ ap (λ ring. (made ring).replica.doing) runs;
      dropped = c.end_replica_step.ensures.dropped ∙ ap (λ (x : Replica _). x.leaving) c.in_ok-given.ensures.ok ∙ ap (λ ring. (made ring).replica.leaving) runs;
      restored = c.in_ok-given.ensures.restored ∙ ap (λ ring. (made ring).restored) runs;
      core = c.in_ok-hand_payloads_to_core.ensures.ok ∙ ap (handed_over c.args.core.now) (c.in_ok-given.ensures.due ∙ ap (λ ring. (made ring).due) runs);
      replica = ended ∙ ap (λ ring. replica_ended (made ring)) runs;
    }
