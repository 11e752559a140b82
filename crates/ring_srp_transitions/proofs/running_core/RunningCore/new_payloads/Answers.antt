-- In Recovery the queue stays; in Operational it supplies the new payloads.
use Rattle.std.proofs.Common.{◌≡◌, ◌≤◌, List, IfOk, refl, subst, ap, sym, ◌∙◌}
use Rattle.std.proofs.lemmas.Result.{on_ok_weaker}
use Rattle.ring_base.specs.declared.state.State.TheVariants.{Recovery, Operational}
use Rattle.ring_base.proofs.Results.{ok_always}
use Rattle.ring_payload.specs.declared.content.Payload.{Payload}
use Rattle.ring_payload.specs.Packing.{packed_payloads, unpacked_rest}
use Rattle.ring_token.specs.Visits.{max_new_messages}
use Rattle.ring_core_spec.specs.State.{Core}
use Rattle.ring_core_spec.specs.Views.{mark}
use Rattle.ring_core_spec.specs.Visiting.{payloads_to_send, room_at, queue_after}
use Rattle.ring_srp_transitions.specs.RunningCores.{is_running}
use Rattle.ring_srp_transitions.proofs.KeptByTransitions.{stands_on}
use Rattle.ring_srp_transitions.proofs.Visits.{none_runs, mark_behind, mark_by_visits}
use Rattle.ring_srp_transitions.proofs.running_core.RunningCore.new_payloads.Given.{Over}
use Rattle.ring_srp_transitions.proofs.running_core.RunningCore.new_payloads.Goals.{After-safe}
use Rattle.ring_srp_transitions.proofs.running_core.RunningCore.new_payloads.Goals as goal

-- the mark used is the core's
safe_is : (g : Over) (c : After-safe g) → c.safe.result ≡ mark c.args.self.now c.args.token.now.ring
safe_is g c =
    let p = c.part_in_use.result.now in
    c.safe.ensures ∙ mark_by_visits c.args.self.now p.window p.visit c.args.token.now (c.part_in_use.ensures.running c.requires.runs) c.requires.passes

pub max_new_messages-room-requires : goal.max_new_messages-room-requires
max_new_messages-room-requires g c =
    let now = c.args.self.now in
    let t = c.args.token.now in
    let p = c.part_in_use.result.now in
    subst (λ m. m ≤ t.seq) (sym (safe_is g (goal.at.max_new_messages-room-requires g c).After-safe))
    (mark_behind now p.window p.visit t (c.part_in_use.ensures.running c.requires.runs) c.requires.passes)

pub recovery_messages-requires : goal.recovery_messages-requires
recovery_messages-requires g c = sym (ap (λ (x : Core g.row.A.Denot). x.state) c.self.view_is) ∙ c.in-Recovery.is

pub invariant_of-self : goal.invariant_of-self
invariant_of-self g c = stands_on c.self.invariant refl refl

pub returns-in-Recovery : goal.returns-in-Recovery
returns-in-Recovery g c =
    let now = c.args.self.now in
    let t = c.args.token.now in
    let state : now.state ≡ Recovery = sym (ap (λ (x : Core g.row.A.Denot). x.state) c.self.view_is) ∙ c.in-Recovery.is in
    let r : c.max_new_messages-room.result ≡ room_at now t = c.max_new_messages-room.ensures ∙ ap (λ m. max_new_messages m t.seq) (safe_is g (goal.at.returns-in-Recovery g c).After-safe) in
    record {
      items = subst (λ n. IfOk c.recovery_messages.result (λ ps. ps.items ≡ payloads_to_send now.state now n)) r
          (subst (λ s. IfOk c.recovery_messages.result (λ ps. ps.items ≡ payloads_to_send s now c.max_new_messages-room.result)) (sym state) c.recovery_messages.ensures.items);
      core = ok_always c.recovery_messages.result (ap (λ (q : List (Payload g.row.A.Denot)). record now { queue = q })
          (sym (ap (λ s. queue_after s (room_at now t) now.queue) state)));
      refused = c.recovery_messages.ensures.refused;
    }

pub returns-in-Operational : goal.returns-in-Operational
returns-in-Operational g c =
    let now = c.args.self.now in
    let t = c.args.token.now in
    let state : now.state ≡ Operational = sym (ap (λ (x : Core g.row.A.Denot). x.state) c.self.view_is) ∙ c.in-Operational.is in
    let r : c.max_new_messages-room.result ≡ room_at now t = c.max_new_messages-room.ensures ∙ ap (λ m. max_new_messages m t.seq) (safe_is g (goal.at.returns-in-Operational g c).After-safe) in
    let queue = ap (λ (x : Core g.row.A.Denot). x.queue) c.self.view_is in
    let here = subst (λ q. IfOk c.take_packed.result (λ ps. ps.items ≡ packed_payloads c.max_new_messages-room.result q)) queue c.take_packed.ensures.items in
    record {
      items = subst (λ n. IfOk c.take_packed.result (λ ps. ps.items ≡ payloads_to_send now.state now n)) r
          (subst (λ s. IfOk c.take_packed.result (λ ps. ps.items ≡ payloads_to_send s now c.max_new_messages-room.result)) (sym state) here);
      core = on_ok_weaker c.take_packed.result
          (λ e.
          let k : c.take_packed.new.queue.items ≡ queue_after now.state (room_at now t) now.queue =
          e ∙ ap (λ q. unpacked_rest c.max_new_messages-room.result q) queue ∙ ap (λ n. unpacked_rest n now.queue) r
          ∙ ap (λ s. queue_after s (room_at now t) now.queue) (sym state) in
          λ i. record (c.self.view_is i) { queue = k i })
          c.take_packed.ensures.queue;
      refused = c.take_packed.ensures.refused;
    }

pub returns-in-Gather : goal.returns-in-Gather
returns-in-Gather g c = absurd (none_runs c.self.inside.state c.in-Gather.is
    (ap (λ (x : Core g.row.A.Denot). is_running x.state) c.self.view_is ∙ c.requires.runs))
