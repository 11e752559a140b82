-- Each part is equal.
use Rattle.std.proofs.Common.{◌≡◌}
use Rattle.ring_replication.proofs.replication.ReplicationClone.clone.Goals as goal

pub invariant_of-result : goal.invariant_of-result
invariant_of-result g c =
    let held : c.in_ok-clone-3.field-0 ≡ c.self.inside.held = c.in_ok-clone-3.ensures.cases in
    let stage : c.in_ok-clone-2.field-0 ≡ c.self.inside.stage = c.in_ok-clone-2.ensures.cases in
    let watermarks : c.in_ok-copy_watermarks.field-0.items ≡ c.self.inside.watermarks.items = c.in_ok-copy_watermarks.ensures in
    let epochs : c.in_ok-clone.field-0.value ≡ c.self.inside.epochs.value = c.in_ok-clone.ensures.cases in
    rw (held, stage, watermarks, epochs) c.self.invariant

pub returns : goal.returns
returns g c =
    let held : c.in_ok-clone-3.field-0 ≡ c.self.inside.held = c.in_ok-clone-3.ensures.cases in
    let epochs : c.in_ok-clone.field-0.value ≡ c.self.inside.epochs.value = c.in_ok-clone.ensures.cases in
    record { cases = rw (held, epochs) c.self.view_is }
