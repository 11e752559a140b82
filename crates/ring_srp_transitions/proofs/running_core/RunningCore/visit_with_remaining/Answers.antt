-- The pieces of a visit together do and send what the whole visit does.
use Rattle.std.proofs.Common.{◌≡◌, ◌≤◌, ◌+◌, length, subst, ap, sym, ◌∙◌, arith}
use Rattle.std.specs.List.Sorted.{IsStrictlyIncreasing}
use Rattle.std.proofs.lemmas.Result.{on_ok_weaker}
use Rattle.ring_base.specs.Numbers.{max_number}
use Rattle.ring_token.specs.Visits.{max_new_messages}
use Rattle.ring_core_spec.specs.State.{Core}
use Rattle.ring_core_spec.specs.Views.{mark}
use Rattle.ring_core_spec.specs.Visiting.{accepts, to_next}
use Rattle.ring_srp_transitions.specs.RunningCores.{is_running}
use Rattle.ring_srp_transitions.specs.Passing.{forwarded}
use Rattle.ring_srp_transitions.proofs.Visits.{passing, payloads_few, seq_fits, stays_ascending, visited_held, visited_token, visited_sends}
use Rattle.ring_srp_transitions.proofs.running_core.RunningCore.visit_with_remaining.Goals as goal

pub send_new_messages-requires : goal.send_new_messages-requires
send_new_messages-requires g c =
    let t = c.args.token.now in
    let items = c.in_ok-payloads.payloads.items in
    let e = c.in_ok-payloads.ensures.core in
    let passes = ap (λ (x : Core g.row.A.Denot). accepts x t) e ∙ c.requires.allowed.passes in
    let runs = ap (λ (x : Core g.row.A.Denot). is_running x.state) e ∙ c.requires.allowed.runs in
    let count = subst (λ (x : Core g.row.A.Denot). length items ≤ max_new_messages (mark x t.ring) t.seq) (sym e)
    (payloads_few c.args.self.now t items c.in_ok-payloads.ensures.items) in
    (omega arith, (passes, (runs, count)))

pub pass_token-requires : goal.pass_token-requires
pass_token-requires g c =
    let now = c.args.self.now in
    let t = c.args.token.now in
    let items = c.in_ok-payloads.payloads.items in
    let passes = passing now t c.requires.allowed.passes in
    let q = visited_held now c.new_payloads.new.self c.send_new_messages.new.self t c.args.remaining_requests.now items
    c.in_ok-payloads.ensures.items c.in_ok-payloads.ensures.core c.in_ok-fresh.ensures.core in
    let n : c.len-count.result ≡ length items = c.len-count.ensures ∙ c.in_ok-payloads.payloads.ok.0 in
    let runs = ap (λ (x : Core g.row.A.Denot). is_running x.state) q ∙ c.requires.allowed.runs in
    let ring = passes.ring ∙ sym (ap (λ (x : Core g.row.A.Denot). x.running.ring) q) in
    let seq = subst (λ k. t.seq + k ≤ max_number) (sym n) (seq_fits (mark now t.ring) t.seq (length items)
    (payloads_few now t items c.in_ok-payloads.ensures.items) c.requires.allowed.goes.seq) in
    let count = ap length c.in_ok-fresh.ensures.fresh ∙ sym n in
    let remaining_requests = subst IsStrictlyIncreasing (sym c.requires.remaining_requests) (stays_ascending now t c.requires.allowed.goes.ascending) in
    (omega arith, (runs, (ring, (passes.number, (seq, (count, remaining_requests))))))

pub returns-clause-sends : goal.returns-clause-sends
returns-clause-sends g c =
    let now = c.args.self.now in
    let one = c.new_payloads.new.self in
    let two = c.send_new_messages.new.self in
    let t = c.args.token.now in
    let remaining_requests = c.args.remaining_requests.now in
    let items = c.in_ok-payloads.payloads.items in
    let p = c.in_ok-payloads.ensures.items in
    let e = c.in_ok-payloads.ensures.core in
    let q = visited_held now one two t remaining_requests items p e c.in_ok-fresh.ensures.core in
    let n : c.len-count.result ≡ length items = c.len-count.ensures ∙ c.in_ok-payloads.payloads.ok.0 in
    on_ok_weaker c.pass_token.result
    (λ h. visited_sends now one two t remaining_requests items (to_next two (forwarded two t remaining_requests c.len-count.result))
    c.args.sends.now.items c.repeat_requested.new.sends.items c.send_new_messages.new.sends.items
    c.pass_token.new.sends.items p e c.in_ok-repeat_requested.ensures.ok c.in_ok-fresh.ensures.sends
    (visited_token now one two t remaining_requests items c.len-count.result q c.requires.remaining_requests (n ∙ ap length p)) h)
    c.pass_token.ensures.sends
