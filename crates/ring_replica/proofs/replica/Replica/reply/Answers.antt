-- The kept answers are those of the last answered tickets.
use Rattle.std.proofs.Common.{◌∙◌}
use Rattle.ring_replica.proofs.Replicas.{reply-is}
use Rattle.ring_replica.proofs.replica.Replica.reply.Goals as goal

pub returns : goal.returns
returns g c = c.reply.ensures ∙ reply-is c.self.invariant.kept c.self.view_is c.args.ticket
