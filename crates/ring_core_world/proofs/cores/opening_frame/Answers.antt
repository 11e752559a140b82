-- The last of at most one output is the only one.
use Rattle.std.proofs.Common.{filter_map, sym, ap, ◌∙◌}
use Rattle.ring_core_proof.specs.Worlds.{transmission_by}
use Rattle.ring_core_world.proofs.Forming.{last_alone}
use Rattle.ring_core_world.proofs.cores.opening_frame.Goals as goal

pub returns-in-Some : goal.returns-in-Some
returns-in-Some g c =
    c.frame_if_send.ensures ∙ ap (filter_map (transmission_by {A = g.row.A.Denot} 1))
    (sym (last_alone c.args.outs.items c.pop.new.self.items c.in-Some.out c.in-Some.ensures.items c.requires))
