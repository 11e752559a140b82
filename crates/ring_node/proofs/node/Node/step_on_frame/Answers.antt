-- The node is the result of the step of its core and its replica.
use Rattle.std.proofs.Common.{ap, sym, ◌∙◌, subst}
use Rattle.ring_core_spec.specs.State.{Core}
use Rattle.ring_core_spec.specs.Stepping.{ring_step}
use Rattle.ring_core_spec.specs.declared.input.Input.TheVariants.{Frame as FrameInput}
use Rattle.ring_replica.specs.NodeSpec.{Node, is_stopped, after_core}
use Rattle.ring_node.specs.StepOutputs.{IsNodeStepResult}
use Rattle.ring_node.specs.KnownLog.{node_view}
use Rattle.ring_node.proofs.NodeSteps.{runs-told, stepped-node, gives-step}
use Rattle.ring_node.proofs.node.Node.step_on_frame.Goals as goal

pub invariant_of-self : goal.invariant_of-self
invariant_of-self g c =
    let s = c.self.inside in
    let halts = runs-told s.core s.replica s.core_before_stop.value (ap (λ (n : Node _). is_stopped n.core.state) c.self.view_is ∙ c.requires.runs) in
    let k = c.self.invariant.runs halts in
    stepped-node g.O.Object.sequential s.core s.replica s.core_before_stop.value (FrameInput c.args.frame.now) halts k c.in-Ok.ensures.ok
    (c.installed-self-inside.ensures ∙ ap (λ (x : Core _). x.installed) (sym c.ghost_now.ensures))

pub returns-in-Ok-clause-ok : goal.returns-in-Ok-clause-ok
returns-in-Ok-clause-ok g c =
    let s = c.self.inside in
    let halts = runs-told s.core s.replica s.core_before_stop.value (ap (λ (n : Node _). is_stopped n.core.state) c.self.view_is ∙ c.requires.runs) in
    let k = c.self.invariant.runs halts in
    subst (λ (n : Node _). IsNodeStepResult n (after_core g.O.Object.sequential n (ring_step n.core (FrameInput c.args.frame.now)))
    (node_view c.advance_by_frame.new.core c.advance_by_frame.new.replica c.ghost_now.result.value) c.advance_by_frame.new.outs) c.self.view_is
    (gives-step g.O.Object.sequential s.core s.replica s.core_before_stop.value (FrameInput c.args.frame.now) halts k c.in-Ok.ensures.steady c.in-Ok.ensures.ok c.ghost_now.ensures)
