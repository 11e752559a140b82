-- The laws are the lemmas on one event each.
use Rattle.ring_session.specs.DeduplicatedLaws.{numbered_once}
use Rattle.ring_node_spec.proofs.Linear.{linear-nothing, linear-grows, linear-issue, linear-reply}
use Rattle.ring_node_spec.proofs.linearization_laws.linearization_law.Goals as goal

pub returns-clause-nothing : goal.returns-clause-nothing
returns-clause-nothing g c = linear-nothing g.O.Object.sequential

pub returns-clause-grows : goal.returns-clause-grows
returns-clause-grows g c = linear-grows g.O.Object.sequential

pub returns-clause-issue : goal.returns-clause-issue
returns-clause-issue g c = linear-issue g.O.Object.sequential

pub returns-clause-reply : goal.returns-clause-reply
returns-clause-reply g c = linear-reply g.O.Object.sequential

pub returns-clause-once : goal.returns-clause-once
returns-clause-once g c = λ order history p q a b linear. numbered_once order linear.numbered p q a b
