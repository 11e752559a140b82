use Rattle.std.proofs.Common.{refl}
use Rattle.std.proofs.Math.Nat.{le_refl}
use Rattle.ring_replica.proofs.EpochMarks.{rises_step, marked_step, marked_handed, going_step, me_step, me_handed, state_handed, installed_handed}
use Rattle.ring_replica.proofs.mark_laws.epoch_safe_marks_law.Goals as goal

pub returns-clause-opening : goal.returns-clause-opening
returns-clause-opening g c = λ total me. record { epoch = _; older = _; parts = refl; ring = refl; marked = le_refl 0; ready = refl }

pub returns-clause-rises : goal.returns-clause-rises
returns-clause-rises g c = rises_step

pub returns-clause-step : goal.returns-clause-step
returns-clause-step g c = marked_step

pub returns-clause-handed : goal.returns-clause-handed
returns-clause-handed g c = marked_handed

pub returns-clause-me : goal.returns-clause-me
returns-clause-me g c = me_step

pub returns-clause-me_handed : goal.returns-clause-me_handed
returns-clause-me_handed g c = me_handed

pub returns-clause-state : goal.returns-clause-state
returns-clause-state g c = state_handed

pub returns-clause-installed : goal.returns-clause-installed
returns-clause-installed g c = installed_handed

pub returns-clause-going : goal.returns-clause-going
returns-clause-going g c = going_step
