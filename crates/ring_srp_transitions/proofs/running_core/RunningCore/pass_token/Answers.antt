-- Sending doesn't change the core.
use Rattle.std.proofs.lemmas.Result.{on_ok_weaker}
use Rattle.ring_srp_transitions.proofs.running_core.RunningCore.pass_token.Goals as goal

pub returns-clause-core : goal.returns-clause-core
returns-clause-core g c = on_ok_weaker c.send_kept_token.result (λ _. c.in_ok-keep_forwarded_token.ensures.core) c.send_kept_token.ensures.ok
