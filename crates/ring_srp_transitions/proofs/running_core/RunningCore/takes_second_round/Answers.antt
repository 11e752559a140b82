-- The own entry is what the core would write.
use Rattle.std.proofs.Common.{ap, ◌∙◌}
use Rattle.ring_commit.specs.Rounds.{is_second_round}
use Rattle.ring_wire.specs.declared.entries.CommitEntry.{CommitEntry}
use Rattle.ring_core_spec.specs.State.{Core}
use Rattle.ring_core_spec.specs.Views.{own_entry}
use Rattle.ring_srp_transitions.proofs.running_core.RunningCore.takes_second_round.Goals as goal

pub returns : goal.returns
returns g c =
    c.is_second_round.ensures
    ∙ ap (λ (e : CommitEntry). is_second_round c.self.inside.newest_ring e c.args.token.now) c.own_entry-own.ensures
    ∙ ap (λ (x : Core g.row.A.Denot). is_second_round x.running (own_entry c.args.self.now) c.args.token.now) c.self.view_is
