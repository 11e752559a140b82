-- A replica whose step is idle takes no step on no outputs.
use Rattle.std.proofs.Common.{◌≡◌, length, sym, arith}
use Rattle.std.proofs.lemmas.Bool.{eqb-true}
use Rattle.ring_node.proofs.NodeSteps.{is_step_idle-on}
use Rattle.ring_node.proofs.core_with_replica.follow_core_outputs.Goals as goal

pub returns-then-is_step_idle-clause-ok : goal.returns-then-is_step_idle-clause-ok
returns-then-is_step_idle-clause-ok g c =
    let none : length c.args.core_outs.items ≡ 0 = omega (arith, eqb-true _ _ (sym c.if-is_empty.ensures), c.args.core_outs.ok.0) in
    is_step_idle-on g.O.Object.sequential c.args.core.now c.args.replica.now c.args.core_outs.items c.args.outs.now none c.requires.done c.requires.going
    c.requires.frames (c.is_step_idle.ensures.is_step_idle c.if-is_step_idle.true)
