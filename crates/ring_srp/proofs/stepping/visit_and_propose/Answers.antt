-- A proposal comes after the visit's sends.
use Rattle.std.proofs.Common.{refl}
use Rattle.ring_core_spec.specs.Deciding.{Visit}
use Rattle.ring_srp.proofs.StepOutputs.{done_core, done_sends}
use Rattle.ring_base.proofs.Results.{ok_to}
use Rattle.ring_srp.proofs.stepping.visit_and_propose.Goals as goal

pub returns-clause-core : goal.returns-clause-core
returns-clause-core g c =
    ok_to c.propose_if_due.result _ _ _
    (done_core c.args.running_core.now c.visit.new.self (Visit c.args.token.now) refl c.in_ok-visit.ensures.core) c.propose_if_due.ensures.core

pub returns-clause-sends : goal.returns-clause-sends
returns-clause-sends g c =
    ok_to c.propose_if_due.result _ _ _
    (done_sends c.args.running_core.now c.visit.new.self (Visit c.args.token.now) c.args.sends.now.items c.visit.new.sends.items _
    refl c.in_ok-visit.ensures.core c.in_ok-visit.ensures.sends refl)
    c.propose_if_due.ensures.sends
