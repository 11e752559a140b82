-- No places are dropped if the log isn't due to be trimmed, and a step without outputs does nothing else.
use Rattle.std.proofs.Common.{ap, sym, ◌∙◌}
use Rattle.std.specs.Prelude.{not}
use Rattle.std.proofs.lemmas.Bool.{not-true}
use Rattle.ring_log.specs.Logs.{Log, is_due_to_trim}
use Rattle.ring_log.specs.KnownLog.{KnownLog, retained_log}
use Rattle.ring_replication.specs.NodeSpec.{is_restored}
use Rattle.ring_replication.specs.Replications.{HeldLog}
use Rattle.ring_replica.specs.Replicas.{replica_known_log}
use Rattle.ring_replica.proofs.ReplicaSteps.{ready, steady-was, sound-was, kept-was}
use Rattle.ring_replica.proofs.IdleReplicas.{resting}
use Rattle.ring_replica.proofs.replica.Replica.is_step_idle.Goals as goal

pub returns : goal.returns
returns g c =
    let object = g.O.Object.sequential in
    let r = c.args.self.now in
    let b = ready c.self.invariant c.self.view_is c.requires.done c.requires.runs in
    let ripe = c.is_due_to_trim.ensures ∙ ap (λ (l : Log _). is_due_to_trim l) (c.log.ensures ∙ ap (λ (h : HeldLog _). h.log) c.stored_log.ensures.held
    ∙ c.stored_log.ensures.log b.consistent ∙ ap (λ (k : KnownLog _). retained_log k) (kept-was b)) in
    record {
      value = ap not ripe;
      is_step_idle = λ t. resting object r c.requires.done (sound-was b (c.stored_log.ensures.sound b.consistent))
          (ap (λ (k : KnownLog _). is_restored object k) (sym (kept-was b)) ∙ (b.counted.kept.runs b.runs).restored)
          (not-true (is_due_to_trim (retained_log (replica_known_log r))) (ap not (sym ripe) ∙ t));
      steady = steady-was b (c.stored_log.ensures.steady b.consistent);
    }
