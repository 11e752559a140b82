-- The pending tickets that are stored are the unanswered ones.
use Rattle.std.proofs.Common.{◌∙◌, ap}
use Rattle.std.specs.Prelude.{length}
use Rattle.ring_replica.proofs.Replicas.{waiting-is}
use Rattle.ring_replica.proofs.replica.Replica.waiting.Goals as goal

pub returns : goal.returns
returns g c = ap length c.pending.ensures ∙ waiting-is c.self.invariant.kept c.self.view_is
