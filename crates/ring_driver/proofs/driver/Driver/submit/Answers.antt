-- The call is within the limits as it is made, so the node stays within them.
use Rattle.std.proofs.Common.{arith, refl}
use Rattle.ring_base.proofs.Results.{ok_always}
use Rattle.ring_order_proof.proofs.NodeLimits.{takes}
use Rattle.ring_payload.specs.Calls.{CallFits}
use Rattle.ring_driver.specs.Driving.{DriverView}
use Rattle.ring_driver.proofs.DriverLimits.{taken_as, kept_as, not_taken}
use Rattle.ring_driver.proofs.driver.Driver.submit.Goals as goal

pub invariant_of-self : goal.invariant_of-self
invariant_of-self g c =
    let call : CallFits c.in_ok-call.call = rw c.in_ok-call.ensures.2 (record {
      client = omega (arith, c.ranges.client.fits);
      number = c.in_ok-call.ensures.1;
      number_fits = omega (arith, c.ranges.number.fits);
      op = c.in_ok-call.ensures.0;
    }) in
    let law = c.node_fits_law.ensures.submit c.self.inside.node c.in_ok-call.call in (
      takes c.self.inside.node c.submit.new.self c.in_ok-call.call c.submit.result c.self.invariant.0 law call c.submit.ensures.ok c.submit.ensures.err,
      c.self.invariant.1,
    )

pub returns-clause-ticket : goal.returns-clause-ticket
returns-clause-ticket g c = rw (← c.self.view_is) c.submit.ensures.ticket

pub returns-clause-fits : goal.returns-clause-fits
returns-clause-fits g c = ok_always c.submit.result (c.in_ok-call.ensures.0, c.in_ok-call.ensures.1)

pub returns-clause-taken : goal.returns-clause-taken
returns-clause-taken g c = rw (← c.self.view_is) c.submit.ensures.taken

pub returns-clause-ok : goal.returns-clause-ok
returns-clause-ok g c =
    let s = c.self.inside in
    let driven : DriverView _ = record {
      group = s.group;
      node = s.node;
      clock = s.clock;
      sends = s.sends.items;
      committed = s.committed.items;
      dropped = s.dropped.items;
      restored = s.restored;
      has_installed = s.has_installed;
    } in
    rw (← c.self.view_is) (taken_as driven c.submit.new.self
    c.in_ok-call.call c.args.client c.args.number c.args.operation.now c.submit.result c.in_ok-call.ensures.2 c.submit.ensures.ok)

pub returns-clause-err : goal.returns-clause-err
returns-clause-err g c =
    let s = c.self.inside in
    let driven : DriverView _ = record {
      group = s.group;
      node = s.node;
      clock = s.clock;
      sends = s.sends.items;
      committed = s.committed.items;
      dropped = s.dropped.items;
      restored = s.restored;
      has_installed = s.has_installed;
    } in
    rw (← c.self.view_is) (kept_as driven c.submit.new.self c.submit.result c.submit.ensures.err)

pub returns-clause-refused : goal.returns-clause-refused
returns-clause-refused g c =
    let s = c.self.inside in
    let driven : DriverView _ = record {
      group = s.group;
      node = s.node;
      clock = s.clock;
      sends = s.sends.items;
      committed = s.committed.items;
      dropped = s.dropped.items;
      restored = s.restored;
      has_installed = s.has_installed;
    } in
    let made = c.in_ok-call.ensures in
    rw (← c.self.view_is) (not_taken driven c.args.client c.args.number c.args.operation.now c.submit.result (made.0, made.1, refl) c.submit.ensures.refused)
