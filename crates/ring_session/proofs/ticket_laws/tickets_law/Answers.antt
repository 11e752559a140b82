use Rattle.std.proofs.Common.{refl}
use Rattle.ring_session.proofs.Pendings.{are-given, are-answers, are-kept, are-full, are-replies}
use Rattle.ring_session.proofs.ticket_laws.tickets_law.Goals as goal

pub returns-clause-opening : goal.returns-clause-opening
returns-clause-opening g c = record { given = refl; early = tt; pending = refl; kept = refl }

pub returns-clause-given : goal.returns-clause-given
returns-clause-given g c = are-given

pub returns-clause-answers : goal.returns-clause-answers
returns-clause-answers g c = are-answers g.O.Object.sequential

pub returns-clause-kept : goal.returns-clause-kept
returns-clause-kept g c = are-kept

pub returns-clause-full : goal.returns-clause-full
returns-clause-full g c = are-full

pub returns-clause-reply : goal.returns-clause-reply
returns-clause-reply g c = are-replies
