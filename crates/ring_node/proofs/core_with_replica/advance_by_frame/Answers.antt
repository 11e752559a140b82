-- No mark falls, and the core still runs.
use Rattle.std.proofs.Common.{ap, ◌∙◌}
use Rattle.ring_core_spec.specs.State.{Core}
use Rattle.ring_core_spec.specs.declared.input.Input.TheVariants.{Frame as FrameInput}
use Rattle.ring_replica.specs.NodeSpec.{is_stopped}
use Rattle.ring_replica.proofs.EpochMarks.{rises_step, going_step}
use Rattle.ring_node.proofs.FramesFiltered.{rises-apart}
use Rattle.ring_node.proofs.NodeSteps.{follows-step}
use Rattle.ring_node.proofs.core_with_replica.advance_by_frame.Goals as goal

pub follow_core_outputs-requires-clause-rises : goal.follow_core_outputs-requires-clause-rises
follow_core_outputs-requires-clause-rises g c =
    rises-apart c.in_ok-core_outs.ensures.given c.args.replica.now.epochs
    (rises_step c.args.core.now c.args.replica.now.epochs (FrameInput c.args.frame.now) c.requires.runs.marked)

pub follow_core_outputs-requires-clause-runs : goal.follow_core_outputs-requires-clause-runs
follow_core_outputs-requires-clause-runs g c =
    ap (λ (x : Core _). is_stopped x.state) c.in_ok-core_outs.ensures.ok ∙ going_step c.args.core.now (FrameInput c.args.frame.now) c.requires.runs.going

pub returns-clause-ok : goal.returns-clause-ok
returns-clause-ok g c =
    follows-step g.O.Object.sequential c.args.core.now c.args.replica.now (FrameInput c.args.frame.now) c.in_ok-core_outs.ensures.ok c.in_ok-core_outs.ensures.given
    c.requires.going c.follow_core_outputs.result c.follow_core_outputs.new.core c.follow_core_outputs.new.replica c.follow_core_outputs.new.outs c.follow_core_outputs.ensures.ok
