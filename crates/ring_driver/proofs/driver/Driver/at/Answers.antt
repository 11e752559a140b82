-- The timeout that is due was taken, and the step on it done.
use Rattle.ring_driver.specs.Driving.{DriverView}
use Rattle.ring_driver.proofs.Steps.{timed_out}
use Rattle.ring_driver.proofs.driver.Driver.at.Goals as goal

pub returns-in_ok-step_and_store-clause-ok : goal.returns-in_ok-step_and_store-clause-ok
returns-in_ok-step_and_store-clause-ok g c =
    let s = c.self.inside in
    let driven : DriverView _ = record {
      group = s.group;
      node = s.node;
      clock = s.clock;
      sends = s.sends.items;
      committed = s.committed.items;
      dropped = s.dropped.items;
      restored = s.restored;
      has_installed = s.has_installed;
    } in
    rw (← c.self.view_is) (timed_out g.O.Object.sequential driven c.args.now c.in-Some.kind c.next_due-due.result c.next_due-due.new.self
    c.step_and_store.new.self c.in-Some.is c.next_due-due.ensures.due c.next_due-due.ensures.clock c.in_ok-step_and_store.ensures.ok)
