-- Along a run, what each node committed grows; all nodes' committed places are prefixes of one list, and only issued calls are
-- committed.
use Rattle.std.proofs.Common.{ℕ, List, [], ◌∷◌}
use Rattle.ring_base.specs.Prefixes.{IsListPrefix, prefix_self, prefix_trans}
use Rattle.ring_base.specs.Group.{Group}
use Rattle.ring_log_proof.specs.EpochEvents.{ConsistentMoment, IsNextMoment, IsOrderlyRun, last_of_run, committed_at}
use Rattle.ring_log_proof.proofs.Moment.{committed-grows}

module _ {A : Type 0} {group : Group} where
  pub step-grows : (before after : ConsistentMoment A group) → IsNextMoment before after → (p : ℕ) → IsListPrefix (committed_at before p) (committed_at after p)
  step-grows before after step = committed-grows group before.now after.now step.node_epochs

  pub run-grows : (moment : ConsistentMoment A group) (rest : List (ConsistentMoment A group)) → IsOrderlyRun moment rest → (p : ℕ)
      → IsListPrefix (committed_at moment p) (committed_at (last_of_run moment rest) p)
  run-grows moment [] run p = prefix_self (committed_at moment p)
  run-grows moment (after ∷ rest) run p =
      prefix_trans (committed_at moment p) (committed_at after p) (committed_at (last_of_run after rest) p)
      (step-grows moment after run.0 p) (run-grows after rest run.1 p)
