-- The periods of the four timeouts, in milliseconds.
-- Rules: A node with a clock 3
use Rattle.std.specs.Prelude.{ℕ}
use Rattle.std.proofs.Common.{lit≤}
use Rattle.ring_base.specs.declared.timeout_kind.Kind.{Kind}
use Rattle.ring_base.specs.declared.timeout_kind.Kind.TheVariants.{Join, Retransmit, Consensus, Loss}
use Rattle.ring_timers.specs.declared.periods.Periods.{Periods}

-- the periods by default
abbrev pub default_periods : Periods
default_periods = record { join = 10; retransmit = 20; consensus = 100; loss = 300; positive = (lit≤ tt, lit≤ tt, lit≤ tt, lit≤ tt) }

-- the periods for nodes that share a machine with other programs
abbrev pub shared_machine_periods : Periods
shared_machine_periods = record { join = 50; retransmit = 100; consensus = 500; loss = 1000; positive = (lit≤ tt, lit≤ tt, lit≤ tt, lit≤ tt) }

-- the period of a timeout
abbrev pub period_of : Periods → Kind → ℕ
period_of periods Join = periods.join
period_of periods Retransmit = periods.retransmit
period_of periods Consensus = periods.consensus
period_of periods Loss = periods.loss
