-- The kept committed places come first in the reported log.
use Rattle.std.proofs.Common.{◌-◌, ap, ◌∙◌, arith}
use Rattle.std.proofs.lemmas.List.{length-take}
use Rattle.ring_log.specs.Logs.{Log, committed_calls}
use Rattle.ring_replication.specs.Replications.{HeldLog}
use Rattle.ring_replica.specs.Replicas.{log_before_step}
use Rattle.ring_replica.proofs.Replicas.{gone-few, told-bounds, told-committed}
use Rattle.ring_replica.proofs.replica.Replica.committed.Goals as goal

pub overflow_sub-result : goal.overflow_sub-result
overflow_sub-result g c = gone-few c.self.invariant.kept

pub slice_bounds-result-end : goal.slice_bounds-result-end
slice_bounds-result-end g c =
    let few = told-bounds c.self.invariant.kept (c.committed_calls.ensures ∙ ap (λ (l : Log _). committed_calls l) (c.log_before_step-log.ensures
    ∙ ap (λ (h : HeldLog _). log_before_step h c.self.inside.log_being_dropped) c.stored_log.ensures.held)) in
    omega (arith, few, length-take (c.self.inside.committed_len - c.self.inside.trimmed) c.committed_calls.result.now)

pub returns : goal.returns
returns g c =
    told-committed c.self.invariant.kept c.self.view_is (c.committed_calls.ensures ∙ ap (λ (l : Log _). committed_calls l) (c.log_before_step-log.ensures
    ∙ ap (λ (h : HeldLog _). log_before_step h c.self.inside.log_being_dropped) c.stored_log.ensures.held))
