-- The step is by the event's input.
use Rattle.ring_world.proofs.world.step_node.Goals as goal

pub receive_into-requires : goal.receive_into-requires
receive_into-requires g c = record { fits = rw (c.in-Deliver.is, c.in-Some.is) at c.requires.fits }

pub returns-in-Some : goal.returns-in-Some
returns-in-Some g c = rw (c.in-Deliver.is, c.in-Some.is) (record {
  runs = c.receive_into.ensures.runs;
  sends = c.receive_into.ensures.sends;
  answers = c.receive_into.ensures.answers;
  committed = c.receive_into.ensures.committed;
  nothing = c.receive_into.ensures.nothing;
  ok = c.receive_into.ensures.ok;
  err = c.receive_into.ensures.err;
  refused = c.receive_into.ensures.refused;
})

pub returns-in-Timeout : goal.returns-in-Timeout
returns-in-Timeout g c = rw c.in-Timeout.is c.time_out.ensures
