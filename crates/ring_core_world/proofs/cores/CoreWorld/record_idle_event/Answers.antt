-- The fields are still those of the same world.
use Rattle.std.proofs.Common.{◌≡◌, sym, subst}
use Rattle.ring_core_proof.specs.Worlds.{world_after_event}
use Rattle.ring_core_world.specs.Running.{WorldRun, world_of}
use Rattle.ring_core_world.proofs.WorldOfCores.{tells}
use Rattle.ring_core_world.proofs.cores.CoreWorld.record_idle_event.Goals as goal

pub invariant_of-self : goal.invariant_of-self
invariant_of-self g c =
    let k = c.self.inside in
    let e = c.args.event.now in
    let same = subst (λ (r : WorldRun g.row.A.Denot). world_after_event (world_of r) e ≡ world_of r) (sym c.self.view_is) c.requires in
    tells k.history.value c.history_with_event.result.value e (world_of k.history.value) k.cores.items k.opening_frame k.outs.items k.places.items c.history_with_event.ensures same c.self.invariant
