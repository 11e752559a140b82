-- The configurations, the deferred messages and those after them make up all outputs.
use Rattle.std.proofs.Common.{◌≤◌, ◌++◌, ◌∙◌, ap, sym, subst}
use Rattle.std.proofs.lemmas.Result.{on_ok_weaker}
use Rattle.ring_core_spec.specs.State.{Core}
use Rattle.ring_core_spec.specs.Views.{mark}
use Rattle.ring_srp_transitions.specs.Installs.{change_outputs}
use Rattle.ring_srp_transitions.proofs.Installs.{then_by, on_ok}
use Rattle.ring_srp_transitions.proofs.running_core.RunningCore.install.Goals as goal

pub give_ring_outputs-requires-clause-ring : goal.give_ring_outputs-requires-clause-ring
give_ring_outputs-requires-clause-ring g c = ap (λ (x : Core g.row.A.Denot). x.installed.ring) c.self.view_is

pub give_ring_outputs-requires-clause-mark : goal.give_ring_outputs-requires-clause-mark
give_ring_outputs-requires-clause-mark g c = subst (λ (x : Core g.row.A.Denot). mark x x.installed.ring ≤ c.make_running_installed-deferred.result.most)
    (sym c.make_running_installed-deferred.ensures.core) c.make_running_installed-deferred.ensures.safe

pub returns-clause-core : goal.returns-clause-core
returns-clause-core g c = on_ok c.give_ring_outputs.result c.make_running_installed-deferred.ensures.core

pub returns-clause-outs : goal.returns-clause-outs
returns-clause-outs g c =
    on_ok_weaker c.give_ring_outputs.result
    (λ h. then_by c.args.self.now c.make_running_installed-deferred.new.self c.args.outs.now.items c.give_configurations.new.outs.items c.give_deferred.new.outs.items
    c.give_ring_outputs.new.outs.items c.self.inside.installed.ring c.make_running_installed-deferred.result.most c.make_running_installed-deferred.result.messages.items
    (c.in_ok-give_configurations.ensures.ok ∙ ap (λ ys. ys ++ change_outputs c.args.self.now)
    c.reserve_installation_outputs.ensures.kept) c.in_ok-give_deferred.ensures.ok h c.make_running_installed-deferred.ensures.core (ap (λ
    (x : Core g.row.A.Denot). x.installed.ring) c.self.view_is) c.make_running_installed-deferred.ensures.deferred c.make_running_installed-deferred.ensures.far)
    c.give_ring_outputs.ensures.ok
