-- Both logs are prefixes of the order, and the places that a node keeps follow those that it has dropped.
use Rattle.std.proofs.Common.{take, ap, sym, ◌∙◌, ◌++◌}
use Rattle.std.proofs.lemmas.List.{take-append-drop}
use Rattle.ring_base.specs.Prefixes.{prefix_shorter}
use Rattle.ring_log.specs.EpochHistories.{committed_of}
use Rattle.ring_node_spec.specs.Nodes.{node_trimmed}
use Rattle.ring_node_spec.specs.Worlds.{whole_epochs_in}
use Rattle.ring_world.specs.WorldView.{world_of}
use Rattle.ring_world_tests.proofs.knowing.run.Goals as goal

pub returns-clause-agreed : goal.returns-clause-agreed
returns-clause-agreed g c = λ one other from to from' to' fewer.
    prefix_shorter _ _ _ (c.run.ensures.fronts one from to) (c.run.ensures.fronts other from' to') fewer

pub returns-clause-kept : goal.returns-clause-kept
returns-clause-kept g c = λ node from to.
    let f = (c.run.ensures.follows node from to).0 in
    let w = world_of g.O.Object.sequential c.run.new.self in
    let t = node_trimmed (w.nodes node) in
    let whole = committed_of c.run.new.self.group (whole_epochs_in w node) in
    (take t whole, sym (ap (λ l. take t whole ++ l) f.kept ∙ take-append-drop t whole))
