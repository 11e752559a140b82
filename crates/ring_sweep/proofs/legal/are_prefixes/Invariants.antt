use Rattle.ring_base.specs.Prefixes.{IsListPrefix}
use Rattle.ring_session.specs.Deduplicated.{deduplicated}
use Rattle.ring_log.specs.EpochHistories.{committed_of}
use Rattle.ring_node_spec.specs.Worlds.{whole_epochs_in}
use Rattle.ring_console.specs.Worlds.{world_of}
use Rattle.ring_sweep.proofs.Legality.{UpTo}
use Rattle.ring_sweep.proofs.legal.are_prefixes.Given as goal

-- It holds of the nodes so far.
abbrev pub invariant-loop-before : goal.invariant-loop-before
invariant-loop-before g l =
    UpTo (λ node. IsListPrefix (deduplicated (committed_of l.world.group (whole_epochs_in (world_of g.O.Object.sequential l.world) node))) l.order) l.before
