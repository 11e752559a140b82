use Rattle.ring_explore.proofs.exploring.explore_of.Goals as goal

pub returns-in-Ok-true-clause-legal : goal.returns-in-Ok-true-clause-legal
returns-in-Ok-true-clause-legal g c = λ zero. c.in-Ok-true.ensures.legal c.in-Ok-true.field-0-test
