-- The first of the queue is taken.
use Rattle.ring_driver.proofs.Firsts.{first_of}
use Rattle.ring_driver.proofs.driver.Driver.next_committed.Goals as goal

pub returns-clause-first : goal.returns-clause-first
returns-clause-first g c =
    let s = c.self.inside in
    rw (← c.self.view_is) (first_of s.committed.items c.pop_front.new.self.items c.pop_front.result s.committed.len s.committed.ok.0
    c.pop_front.ensures.items c.pop_front.ensures.variant.1)
