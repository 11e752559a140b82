-- One more event keeps the limits.
use Rattle.std.proofs.Common.{subst, sym}
use Rattle.std.specs.List.{AllByRecursion}
use Rattle.ring_base.proofs.Each.{each-push}
use Rattle.ring_core_proof.specs.Limits.{EventFits}
use Rattle.ring_core_world_tests.proofs.steps.events_of.Goals as goal

pub loop-line-preserved : goal.loop-line-preserved
loop-line-preserved g c =
    subst (AllByRecursion EventFits) (sym c.in_ok-push.ensures.items)
    (each-push EventFits c.loop-line.events.items c.in_ok-event.event c.loop-line.invariant c.in_ok-event.ensures)
