-- The periods are the default ones.
use Rattle.ring_record_node.proofs.serving.serve.Goals as goal

pub returns-clause-served : goal.returns-clause-served
returns-clause-served g c = rw c.default.ensures at c.serve_with_periods.ensures.served

pub returns-clause-cut : goal.returns-clause-cut
returns-clause-cut g c = rw c.default.ensures at c.serve_with_periods.ensures.cut
