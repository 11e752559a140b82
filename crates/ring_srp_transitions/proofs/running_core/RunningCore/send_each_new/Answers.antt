-- Payload by payload, a message is sent and held.
use Rattle.std.proofs.Common.{◌≡◌, ◌+◌, ◌++◌, ◌∷◌, [], List, length, subst, ap, sym, ◌∙◌, arith}
use Rattle.std.proofs.lemmas.Iterator.Adapters.{YieldsList-from_vec}
use Rattle.std.proofs.lemmas.Iterator.Consumers.{YieldsList-end, YieldsList-turn}
use Rattle.std.proofs.lemmas.List.{length_push, map-id}
use Rattle.ring_payload.specs.declared.content.Payload.{Payload}
use Rattle.ring_wire.specs.declared.frame.Frame.TheVariants.{Message as MessageFrame}
use Rattle.ring_wire.specs.declared.message.Message.{Message}
use Rattle.ring_core_spec.specs.Giving.{sends_with_receivers}
use Rattle.ring_core_spec.specs.State.{Core}
use Rattle.ring_core_spec.specs.Views.{takes_number}
use Rattle.ring_core_spec.specs.Visiting.{to_others}
use Rattle.ring_srp_transitions.specs.RunningCores.{IsRunningCore, ring_in_use}
use Rattle.ring_srp_transitions.specs.Sending.{messages_of_payloads, holding}
use Rattle.ring_srp_transitions.proofs.Visits.{machine_behind, number_next, next_new, used_still, holding_more, sends_more}
use Rattle.ring_srp_transitions.proofs.running_core.RunningCore.send_each_new.Goals as goal

pub overflow_add-number : goal.overflow_add-number
overflow_add-number g c =
    let begun = c.into_iter-payload-iterator.ensures.into_iter_gives in
    let turn = YieldsList-turn (YieldsList-from_vec c.args.payloads.items begun.0 (begun.1 ∙ c.args.payloads.ok.0))
    c.loop-payload.yielded c.loop-payload.payload-iterator c.loop-payload.yielded_by c.next.result c.next.new.self
    c.in-Some.payload c.in-Some.is c.next.ensures.steps in
    omega (
      arith,
      number_next c.args.self.now c.args.token.now c.loop-payload.yielded c.in-Some.payload
          c.loop-payload.number (length c.args.payloads.items) c.loop-payload.invariant.number turn.0 c.requires.count,
    )

pub send_and_hold-requires-clause-ring : goal.send_and_hold-requires-clause-ring
send_and_hold-requires-clause-ring g c =
    let now = c.args.self.now in
    let inside = c.self.inside in
    let m = subst (λ (x : Core g.row.A.Denot). IsRunningCore x inside.gather inside.installed_part.window inside.installed_part.visit
    inside.recovery) c.self.view_is c.self.invariant in
    used_still now c.args.token.now c.loop-payload.yielded c.in-Some.payload c.loop-payload.number
    (length c.args.payloads.items) inside.gather inside.installed_part.window inside.installed_part.visit inside.recovery m
    c.requires.runs c.requires.passes
    ∙ ap (λ (x : Core g.row.A.Denot). ring_in_use x.state x) (sym c.loop-payload.invariant.held)

pub send_and_hold-requires-clause-new : goal.send_and_hold-requires-clause-new
send_and_hold-requires-clause-new g c =
    let now = c.args.self.now in
    let t = c.args.token.now in
    let inside = c.self.inside in
    let m = subst (λ (x : Core g.row.A.Denot). IsRunningCore x inside.gather inside.installed_part.window inside.installed_part.visit
    inside.recovery) c.self.view_is c.self.invariant in
    let behind = machine_behind now inside.gather inside.installed_part.window inside.installed_part.visit inside.recovery t m c.requires.runs c.requires.passes in
    let begun = c.into_iter-payload-iterator.ensures.into_iter_gives in
    let turn = YieldsList-turn (YieldsList-from_vec c.args.payloads.items begun.0 (begun.1 ∙ c.args.payloads.ok.0))
    c.loop-payload.yielded c.loop-payload.payload-iterator c.loop-payload.yielded_by c.next.result c.next.new.self
    c.in-Some.payload c.in-Some.is c.next.ensures.steps in
    ap (λ (x : Core g.row.A.Denot). takes_number x t.ring (c.loop-payload.number + 1)) c.loop-payload.invariant.held
    ∙ next_new now t c.loop-payload.yielded c.in-Some.payload c.loop-payload.number (length c.args.payloads.items)
    c.requires.passes behind c.loop-payload.invariant.number turn.0 c.requires.count

pub loop-payload-preserved : goal.loop-payload-preserved
loop-payload-preserved g c =
    let now = c.args.self.now in
    let t = c.args.token.now in
    let n = c.loop-payload.number in
    let ps = c.loop-payload.yielded in
    let p = c.in-Some.payload in
    let count = length c.args.payloads.items in
    let e = c.loop-payload.invariant.number in
    let me = ap (λ (x : Core g.row.A.Denot). x.me) c.self.view_is in
    let x : Message g.row.A.Denot = record { ring = t.ring; number = n + 1; sender = c.self.inside.me; payload = p } in
    let same : x ≡ record { ring = t.ring; number = n + 1; sender = now.me; payload = p } =
    ap (λ m. record { ring = t.ring; number = n + 1; sender = m; payload = p }) me in
    let goes = c.in_ok-send_and_hold.ensures.sends
    ∙ ap (λ o. c.loop-payload.sends.items ++ sends_with_receivers (record { to = o; frame = MessageFrame x } ∷ []))
    c.other_members-others.ensures in
    record {
      number = omega (arith, length_push ps p, e);
      told = c.ghost_list_with_last-fresh.ensures ∙ ap (λ xs. xs ++ p ∷ []) c.loop-payload.invariant.told;
      held = c.in_ok-send_and_hold.ensures.core ∙ holding_more now t ps p n count x c.loop-payload.self e same c.loop-payload.invariant.held;
      out = sends_more now t ps p n count x c.args.sends.now.items c.loop-payload.sends.items
          c.send_and_hold.new.sends.items e same c.loop-payload.invariant.out goes;
    }

pub returns : goal.returns
returns g c =
    let now = c.args.self.now in
    let begun = c.into_iter-payload-iterator.ensures.into_iter_gives in
    let ended = YieldsList-end (YieldsList-from_vec c.args.payloads.items begun.0 (begun.1 ∙ c.args.payloads.ok.0))
    c.loop-payload.yielded c.loop-payload.payload-iterator c.loop-payload.yielded_by c.next.result c.next.new.self
    c.in-None.is c.next.ensures.steps in
    let all = sym (map-id c.loop-payload.yielded) ∙ ended.0 in
    record {
      fresh = c.loop-payload.invariant.told ∙ all;
      core = c.loop-payload.invariant.held ∙ ap (λ (ps : List (Payload g.row.A.Denot)). holding now c.args.token.now ps) all;
      sends = c.loop-payload.invariant.out ∙ ap (λ (ps : List (Payload g.row.A.Denot)). c.args.sends.now.items ++ sends_with_receivers
          (to_others now (messages_of_payloads now c.args.token.now ps))) all;
      refused = tt;
    }
