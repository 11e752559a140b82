-- The replication after the outputs so far.
use Rattle.std.proofs.Common.{◌≡◌, take}
use Rattle.ring_base.specs.Prefixes.{IsListPrefix}
use Rattle.ring_log.specs.Logs.{committed_calls}
use Rattle.ring_replication.specs.Replications.{reported_log}
use Rattle.ring_replication.proofs.ReplicationSteps.{IsWalked}
use Rattle.ring_replication.proofs.replication.Replication.apply_outputs.Given as goal

abbrev pub invariant-loop-out : goal.invariant-loop-out
invariant-loop-out g l = record {
  walked : IsWalked (record {
    group = l.fn.self.group;
    me = l.fn.self.me;
    running = l.running_ring;
    pending = l.pending;
    committed = l.committed_before;
    trimmed = l.fn.self.held.log.trimmed;
    snapshot = l.fn.self.held.snapshot;
  }) l.fn.self.epochs l.fn.self.held (take l.out-index l.outs) l.self.consistent l.self.epochs l.self.held l.fn.due.items l.due.items;
  front : IsListPrefix (committed_calls (reported_log l.fn.self.held)) (committed_calls (reported_log l.self.held));
  group : l.self.group ≡ l.fn.self.group;
  me : l.self.me ≡ l.fn.self.me;
}
