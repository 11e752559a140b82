-- Taking sends nothing, and a proposal may follow.
use Rattle.std.proofs.Common.{refl, sym}
use Rattle.std.proofs.lemmas.List.{append-nil}
use Rattle.ring_core_spec.specs.Deciding.{Take}
use Rattle.ring_srp.proofs.StepOutputs.{done_core, done_sends}
use Rattle.ring_base.proofs.Results.{ok_to}
use Rattle.ring_srp.proofs.stepping.take_and_propose.Goals as goal

pub returns-clause-core : goal.returns-clause-core
returns-clause-core g c =
    ok_to c.propose_if_due.result _ _ _
    (done_core c.args.running_core.now c.take.new.self (Take c.args.message) refl c.in_ok-take.ensures.ok) c.propose_if_due.ensures.core

pub returns-clause-sends : goal.returns-clause-sends
returns-clause-sends g c =
    ok_to c.propose_if_due.result _ _ _
    (done_sends c.args.running_core.now c.take.new.self (Take c.args.message) c.args.sends.now.items c.args.sends.now.items _
    refl c.in_ok-take.ensures.ok (sym (append-nil c.args.sends.now.items)) refl)
    c.propose_if_due.ensures.sends
