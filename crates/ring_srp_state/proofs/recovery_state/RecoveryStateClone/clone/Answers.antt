-- Each field is a copy.
use Rattle.std.proofs.Common.{refl}
use Rattle.ring_srp_state.proofs.recovery_state.RecoveryStateClone.clone.Goals as goal

pub returns : goal.returns
returns g c =
    record {
      cases = record {
        part = c.in_ok-clone-3.ensures.cases;
        plan = c.in_ok-clone.ensures.cases;
        ends = c.in_ok-clone-2.ensures.cases;
        most = refl;
        deferred = c.in_ok-copied_messages.ensures;
      };
    }
