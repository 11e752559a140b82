-- The ring is newer than all facts, and the core's own report was written.
use Rattle.std.proofs.Common.{◌<◌, ◌∷◌, Some, ap, ◌∙◌, sym, subst}
use Rattle.ring_base.specs.Processors.{IsMember}
use Rattle.ring_base.specs.declared.state.State.TheVariants.{Commit}
use Rattle.ring_wire.specs.declared.entries.CommitEntry.{CommitEntry}
use Rattle.ring_commit.specs.declared.configuration.Configuration.{Configuration}
use Rattle.ring_core_spec.specs.State.{Core, floor}
use Rattle.ring_core_spec.specs.Views.{own_entry}
use Rattle.ring_srp_state.specs.Histories.{with_ring}
use Rattle.ring_srp_state.specs.Histories.{History}
use Rattle.ring_srp_transitions.specs.RunningCores.{core_of}
use Rattle.ring_srp_transitions.proofs.KeptByTransitions.{into_commit}
use Rattle.ring_srp_transitions.proofs.running_core.RunningCore.take_part.Goals as goal

pub invariant_of-self : goal.invariant_of-self
invariant_of-self g c =
    rw (c.history_with_ring-history.ensures) (into_commit c.self.invariant
    (ap (λ (x : Core g.row.A.Denot). x.state) c.self.view_is ∙ c.requires.state)
    (subst (λ (x : Core g.row.A.Denot). floor x < c.args.ring.seq) (sym c.self.view_is) c.requires.newer)
    (subst (λ (x : Core g.row.A.Denot). IsMember c.args.members x.me) (sym c.self.view_is) c.requires.member))

pub returns : goal.returns
returns g c =
    let s = c.self.inside in
    let r : Configuration = record { ring = c.args.ring; members = c.args.members } in
    ap (λ (h : History g.row.A.Denot). core_of s.me s.fixed.count Commit r s.installed s.gather.gathering
    (Some (record { to = c.args.to; frame = c.args.frame })) s.queue.items s.held.value h) c.history_with_ring-history.ensures
    ∙ ap (λ (e : CommitEntry). core_of s.me s.fixed.count Commit r s.installed s.gather.gathering
    (Some (record { to = c.args.to; frame = c.args.frame })) s.queue.items s.held.value
    (with_ring s.history.value r e)) c.own_entry-own.ensures
    ∙ ap (λ (x : Core g.row.A.Denot). record x {
      state = Commit;
      running = r;
      last_sent = Some (record { to = c.args.to; frame = c.args.frame });
      rings = r ∷ x.rings;
      reports = record { ring = r.ring; entry = own_entry c.args.self.now } ∷ x.reports;
    }) c.self.view_is
