-- The copy is the message.
use Rattle.std.proofs.Common.{◌≡◌, true, sym, subst}
use Rattle.std.specs.Prelude.{IfOk, OnOk}
use Rattle.ring_wire.specs.declared.message.Message.{Message}
use Rattle.ring_core_spec.specs.Transitions.{transition_and_proposal}
use Rattle.ring_core_spec.specs.Deciding.{Take, is_taken}
use Rattle.ring_core_spec.specs.Giving.{step_result}
use Rattle.ring_srp.specs.Given.{IsGiven}
use Rattle.ring_srp.proofs.stepping.step_with_message_copy.Goals as goal

pub step_with_message-requires-clause-taken : goal.step_with_message-requires-clause-taken
step_with_message-requires-clause-taken g c = subst (λ (x : Message g.row.A.Denot). is_taken c.args.running_core.now x ≡ true) (sym c.in_ok-copy.ensures.ok) c.requires.taken

pub returns-clause-given : goal.returns-clause-given
returns-clause-given g c =
    let now = c.args.running_core.now in
    let sends = c.step_with_message.new.sends.items in
    subst (λ (x : Message g.row.A.Denot). IfOk c.step_with_message.result (λ told. IsGiven (step_result now (transition_and_proposal now (Take x))).outs sends told.items))
    c.in_ok-copy.ensures.ok c.step_with_message.ensures.given

pub returns-clause-core : goal.returns-clause-core
returns-clause-core g c =
    let now = c.args.running_core.now in
    subst (λ (x : Message g.row.A.Denot). OnOk c.step_with_message.result (c.step_with_message.new.running_core ≡ (step_result now (transition_and_proposal now (Take x))).core))
    c.in_ok-copy.ensures.ok c.step_with_message.ensures.core
