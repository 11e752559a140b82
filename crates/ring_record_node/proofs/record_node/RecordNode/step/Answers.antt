-- The clock and the counts note the step.
use Rattle.std.proofs.Common.{◌≡◌, ◌∙◌, ap, length, arith, subst, Some}
use Rattle.ring_counts.specs.declared.node_counts.NodeCounts.{NodeCounts}
use Rattle.ring_node_spec.specs.Stepping.{node_step}
use Rattle.ring_clock.specs.Clocks.{ClockView}
use Rattle.ring_clock.proofs.Noted.{noted}
use Rattle.ring_record_node.specs.NodeOutputs.{RecordNodeView}
use Rattle.ring_record_node.specs.RecordNodes.{IsStepNoted}
use Rattle.ring_record_node.proofs.Counted.{counted, both}
use Rattle.ring_record_node.proofs.record_node.RecordNode.step.Goals as goal

pub returns-in-Ok-clause-acts : goal.returns-in-Ok-clause-acts
returns-in-Ok-clause-acts g c =
    let s = c.self.inside in
    let e = c.in-Ok.ensures in
    let step = node_step g.O.Object.sequential s.node c.args.input in
    let sends_are = c.as_slice-sends.ensures.value ∙ e.sends in
    let clock = noted c.args.input c.as_slice-sends.result.now step.sends c.timeout_in-timeout.result c.is_token_or_commit_token-is_token.result c.step_outcome.result s.clock
    c.note_step.new.self c.timeout_in-timeout.ensures c.is_token_or_commit_token-is_token.ensures sends_are c.step_outcome.ensures c.note_step.ensures in
    let many : c.len-answers.result ≡ length step.answers = omega (arith, c.len-answers.ensures, c.in-Ok.encoded.outs.answers.ok.0, ap length e.answers) in
    let counts = counted c.args.input c.as_slice-sends.result.now step.sends _ (length step.answers) _ _ _ s.counts c.note_step-in-Ok.new.self
    c.of-counted.ensures sends_are many e.installed c.note_step-in-Ok.ensures in
    rw (← c.self.view_is) (e.acts, both s.group c.step.new.self _ _ _ _ clock counts)

pub returns-in-Ok-clause-sends : goal.returns-in-Ok-clause-sends
returns-in-Ok-clause-sends g c = rw (← c.self.view_is) c.in-Ok.ensures.sends

pub returns-in-Ok-clause-answers : goal.returns-in-Ok-clause-answers
returns-in-Ok-clause-answers g c = rw (← c.self.view_is) c.in-Ok.ensures.answers

pub returns-in-Ok-clause-committed : goal.returns-in-Ok-clause-committed
returns-in-Ok-clause-committed g c = rw (← c.self.view_is) c.in-Ok.ensures.committed

pub returns-in-Ok-clause-records : goal.returns-in-Ok-clause-records
returns-in-Ok-clause-records g c = rw (← c.self.view_is) c.in-Ok.ensures.records

pub returns-in-Err-clause-refused : goal.returns-in-Err-clause-refused
returns-in-Err-clause-refused g c =
    let s = c.self.inside in
    let after : NodeCounts → RecordNodeView _ = λ n. record { group = s.group; node = c.step.new.self; clock = s.clock; counts = n } in
    subst (λ (old : RecordNodeView _). IsStepNoted g.O.Object.sequential old c.args.input (Some c.in-Err.fault) (after c.note_refusal.new.self))
    c.self.view_is (c.in-Err.ensures.refused, ap after c.note_refusal.ensures)
