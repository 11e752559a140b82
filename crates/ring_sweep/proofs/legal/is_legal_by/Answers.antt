use Rattle.std.proofs.Common.{◌↔◌, IsTrue}
use Rattle.std.proofs.lemmas.Result.{IfOk-weaker}
use Rattle.ring_sweep.specs.Legal.{IsLegal, ArePrefixes}
use Rattle.ring_sweep.proofs.Legality.{legal_no, legal_is}
use Rattle.ring_sweep.proofs.legal.is_legal_by.Goals as goal

pub returns-then-not-explains-clause-ok : goal.returns-then-not-explains-clause-ok
returns-then-not-explains-clause-ok g c =
    legal_no g.O.Object.sequential c.args.world.now c.args.order.now c.history.result.now c.requires c.history.ensures
    c.in_ok-explains.explains c.in_ok-explains.ensures.ok c.if-not-explains.true

pub returns-clause-ok : goal.returns-clause-ok
returns-clause-ok g c =
    let p = c.args.world.now in
    IfOk-weaker c.are_prefixes.result (λ f. IsTrue f ↔ ArePrefixes g.O.Object.sequential p c.args.order.now)
    (λ f. IsTrue f ↔ IsLegal g.O.Object.sequential p)
    (λ f are. legal_is g.O.Object.sequential p c.args.order.now c.history.result.now c.requires
    c.history.ensures c.in_ok-explains.explains c.in_ok-explains.ensures.ok f c.if-not-explains.false are) c.are_prefixes.ensures.ok
