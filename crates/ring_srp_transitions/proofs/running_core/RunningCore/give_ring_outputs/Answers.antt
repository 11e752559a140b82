-- The outputs from the window of the installed ring are those of the core.
use Rattle.std.proofs.Common.{◌≡◌, ◌++◌, List, ap, sym, subst, ◌∙◌, append_assoc}
use Rattle.std.specs.Prelude.{OnOk}
use Rattle.ring_window.specs.Held.{front_of}
use Rattle.ring_core_spec.specs.State.{Core}
use Rattle.ring_core_spec.specs.declared.out.Out.{Out}
use Rattle.ring_core_spec.specs.Giving.{agreed_from, delivered_from}
use Rattle.ring_srp_transitions.specs.RunningCores.{core_of}
use Rattle.ring_srp_state.specs.Users.{agreed_in, safe_to}
use Rattle.ring_srp_transitions.proofs.UsersOfRing.{agreed_by, safe_by}
use Rattle.ring_srp_transitions.proofs.running_core.RunningCore.give_ring_outputs.Goals as goal

pub returns-clause-ok : goal.returns-clause-ok
returns-clause-ok g c =
    let s = c.self.inside in
    let core = core_of s.me s.fixed.count s.state s.newest_ring s.installed s.gather.gathering s.last_sent s.queue.items s.held.value s.history.value in
    let w = s.installed_part.window in
    let outs = c.args.outs.now.items in
    let f = c.args.before.front in
    let m = c.args.before.mark in
    let safe = safe_to w.ring m w.mark in
    let e : c.give_agreed.new.outs.items ++ safe_to c.ring.result m c.mark.result ≡ outs ++ delivered_from c.args.self.now c.args.before.ring f m =
    ap (λ q. c.give_agreed.new.outs.items ++ safe_to q m c.mark.result) c.ring.ensures
    ∙ ap (λ n. c.give_agreed.new.outs.items ++ safe_to w.ring m n) c.mark.ensures
    ∙ ap (λ ys. ys ++ safe) c.in_ok-give_agreed.ensures.ok
    ∙ ap (λ ys. (ys ++ agreed_in w f (front_of w.held w.ring)) ++ safe) c.reserve_ring_outputs.ensures.kept
    ∙ append_assoc outs (agreed_in w f (front_of w.held w.ring)) safe
    ∙ ap (λ ys. outs ++ (ys ++ safe)) (agreed_by core s.installed.ring w s.installed_part.visit f c.self.invariant.kept)
    ∙ ap (λ ys. outs ++ (agreed_from core s.installed.ring f ++ ys)) (safe_by core s.installed.ring w s.installed_part.visit m c.self.invariant.kept)
    ∙ ap (λ (x : Core g.row.A.Denot). outs ++ delivered_from x x.installed.ring f m) c.self.view_is
    ∙ ap (λ q. outs ++ delivered_from c.args.self.now q f m) (sym c.requires.ring) in
    subst (λ (ys : List (Out g.row.A.Denot)). OnOk c.give_safe.result (c.give_safe.new.outs.items ≡ ys)) e c.give_safe.ensures.ok
