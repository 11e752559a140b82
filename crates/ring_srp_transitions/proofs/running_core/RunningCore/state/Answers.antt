-- A running core hasn't stopped.
use Rattle.std.proofs.Common.{◌≡◌, false, subst}
use Rattle.ring_core_spec.specs.State.{Core, is_stopped}
use Rattle.ring_srp_transitions.proofs.running_core.RunningCore.state.Goals as goal

pub returns-clause-runs : goal.returns-clause-runs
returns-clause-runs g c = subst (λ (x : Core g.row.A.Denot). is_stopped x.state ≡ false) c.self.view_is c.self.invariant.runs
