-- Bytes are restored only if a snapshot was; the sessions decide whether they are one.
use Rattle.std.proofs.Common.{sym, ◌∙◌, subst}
use Rattle.ring_object.specs.Snapshots.{IsSnapshotRefusal}
use Rattle.ring_session.specs.Snapshots.{restored_table}
use Rattle.ring_replica.proofs.SessionTableSteps.{kept-table, kept-fits, restored-table, restored-fits, lost-fits}
use Rattle.ring_replica.proofs.replica.restore_sessions_if_due.Goals as goal

pub returns-then-not-is_restored : goal.returns-then-not-is_restored
returns-then-not-is_restored g c =
    let object = g.O.Object.sequential in
    let none = sym c.is_restored.ensures ∙ c.if-not-is_restored.true in
    record {
      fits = sym (kept-fits object c.args.held.now none);
      table = λ holds. sym (kept-table object c.args.held.now c.args.sessions.now none);
      refused = tt;
    }

pub returns-in-Ok : goal.returns-in-Ok
returns-in-Ok g c =
    let object = g.O.Object.sequential in
    let some = sym c.is_restored.ensures ∙ c.if-not-is_restored.false in
    record {
      fits = sym (restored-fits object c.args.held.now c.snapshot.result.now _ c.snapshot.ensures some c.in-Ok.ensures.ok);
      table = λ holds. sym (restored-table object c.args.held.now c.args.sessions.now c.snapshot.result.now _ c.snapshot.ensures some c.in-Ok.ensures.ok);
      refused = tt;
    }

pub returns-in-Err-BadSnapshot : goal.returns-in-Err-BadSnapshot
returns-in-Err-BadSnapshot g c =
    let object = g.O.Object.sequential in
    let some = sym c.is_restored.ensures ∙ c.if-not-is_restored.false in
    let refused = subst (λ fault. IsSnapshotRefusal (restored_table object.restored c.snapshot.result.now) fault) c.in-Err-BadSnapshot.field-0-is
    c.in-Err-BadSnapshot.ensures.refused in
    let lost = lost-fits object c.args.held.now c.snapshot.result.now c.snapshot.ensures some refused in
    record {
      fits = sym lost;
      table = λ holds. absurd (let never = sym lost ∙ holds in cc never);
      refused = tt;
    }
