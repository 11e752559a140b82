-- The outputs of a run from the opening, and the laws that hold of it.
use Rattle.std.proofs.Common.{◌≡◌, IfOk, Some, subst, arith}
use Rattle.ring_chain_proof.proofs.HopsTakenOnce.{rounds_of_runs}
use Rattle.ring_chain_proof.proofs.SafeOutputs.{unformed_told}
use Rattle.ring_chain_proof.proofs.TakingPart.{unformed_same_members}
use Rattle.ring_chain_proof.proofs.Tells.{unformed_held}
use Rattle.ring_core_proof.specs.Worlds.{World}
use Rattle.ring_synchrony_proof.proofs.Installed.{all_synchronous}
use Rattle.ring_core_world.proofs.Acting.{runs_gather}
use Rattle.ring_core_world.proofs.rings.Rings.run.Goals as goal

pub returns-clause-synchronous : goal.returns-clause-synchronous
returns-clause-synchronous g c = all_synchronous c.args.self.now.count c.args.events.now

pub returns-clause-members : goal.returns-clause-members
returns-clause-members g c = unformed_same_members c.args.self.now.count c.args.events.now

pub returns-clause-held : goal.returns-clause-held
returns-clause-held g c = unformed_held c.args.self.now.count c.args.events.now

pub returns-clause-safe : goal.returns-clause-safe
returns-clause-safe g c = unformed_told c.args.self.now.count c.args.events.now

pub returns-clause-rounds : goal.returns-clause-rounds
returns-clause-rounds g c = rounds_of_runs c.args.self.now.count c.args.events.now

pub returns-clause-outs : goal.returns-clause-outs
returns-clause-outs g c =
    let is : c.self.inside.cores ≡ Some c.in_ok-cores.cores = grind arith in
    let world = runs_gather c.self.inside.fixed.count c.in_ok-cores.cores c.self.inside.cores c.args.events.now c.self.invariant is in
    rw (← c.self.view_is) (subst (λ (w : World g.row.A.Denot). IfOk c.run_events.result (λ outs. outs.items ≡ w.outs)) world c.run_events.ensures.outs)
