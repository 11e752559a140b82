-- The outputs of a run from a formed ring, and the laws that hold of it.
use Rattle.std.proofs.Common.{◌≡◌, ◌≤◌, IfOk, Some, subst, arith}
use Rattle.ring_chain_proof.proofs.ChainInRuns.{formed_text}
use Rattle.ring_chain_proof.proofs.Formed.{agreed_ascend}
use Rattle.ring_chain_proof.proofs.Tells.{formed_held}
use Rattle.ring_chain_proof.proofs.OnlyRing.{formed_of_formed}
use Rattle.ring_core_proof.specs.Worlds.{World}
use Rattle.ring_core_world.proofs.Acting.{runs_ring}
use Rattle.ring_core_world.proofs.fixed_ring.FixedRing.run.Goals as goal

pub returns-clause-text : goal.returns-clause-text
returns-clause-text g c =
    let n = c.self.inside.fixed.count in
    rw (← c.self.view_is) (λ ring. formed_text n c.args.events.now ring (subst (λ k. 1 ≤ k) c.count.ensures.value c.if-prove.false))

pub returns-clause-held : goal.returns-clause-held
returns-clause-held g c =
    let n = c.self.inside.fixed.count in
    rw (← c.self.view_is) (formed_held n c.args.events.now (subst (λ k. 1 ≤ k) c.count.ensures.value c.if-prove.false))

pub returns-clause-agreed : goal.returns-clause-agreed
returns-clause-agreed g c = λ i. agreed_ascend c.args.self.now.count i c.args.events.now

pub returns-clause-safe : goal.returns-clause-safe
returns-clause-safe g c =
    let n = c.self.inside.fixed.count in
    rw (← c.self.view_is) (formed_of_formed n c.args.events.now (subst (λ k. 1 ≤ k) c.count.ensures.value c.if-prove.false))

pub returns-clause-outs : goal.returns-clause-outs
returns-clause-outs g c =
    let is : c.self.inside.cores ≡ Some c.in_ok-cores.cores = grind arith in
    let world = runs_ring c.self.inside.fixed.count c.in_ok-cores.cores c.self.inside.cores c.args.events.now c.self.invariant is in
    rw (← c.self.view_is) (subst (λ (w : World g.row.A.Denot). IfOk c.run_events.result (λ outs. outs.items ≡ w.outs)) world c.run_events.ensures.outs)
