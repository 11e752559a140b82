-- The lines' events are a run of the group's world.
use Rattle.ring_book_lines.proofs.Bridge.{is_run, node_is}
use Rattle.ring_book_lines.proofs.book_run_laws.book_run_law.Goals as goal

pub returns-clause-runs : goal.returns-clause-runs
returns-clause-runs g c = λ group lines few run. is_run g.O.Object.sequential group few lines run

pub returns-clause-nodes : goal.returns-clause-nodes
returns-clause-nodes g c = λ group lines i t few low high run led. node_is g.O.Object.sequential group few lines i t run low high led
