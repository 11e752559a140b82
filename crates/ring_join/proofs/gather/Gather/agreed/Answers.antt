-- Each counted join has the node's sets, and is from a processor.
use Rattle.std.proofs.Common.{◌≡◌, ◌↔◌, true, rules, ap, arith}
use Rattle.std.specs.Prelude.{IsSome}
use Rattle.ring_join.specs.Gathering.{has_consensus, HasConsensus}
use Rattle.ring_join.specs.Gatherers.{Gatherer}
use Rattle.ring_join.proofs.Consensus.{consensus}
use Rattle.ring_join.proofs.gather.Gather.agreed.Goals as goal

pub returns-clause-consensus : goal.returns-clause-consensus
returns-clause-consensus c =
    let g : Gatherer = c.args.self.now in
    let me : c.self.inside.me ≡ g.me = ap (λ (x : Gatherer). x.me) c.self.view_is in
    let k : (has_consensus g.me g.gathering ≡ true) ↔ HasConsensus g.me g.gathering = rw (← c.self.view_is)
    (consensus c.self.inside.me _ (omega (arith, me, c.agreeing.ensures.itself.0))
    c.self.invariant.are_procs c.self.invariant.say_same) in
    let t : IsSome c.then_some.result ↔ (has_consensus g.me g.gathering ≡ true) = search rules in
    (λ s. k.0 (t.0 s), λ h. t.1 (k.1 h))
