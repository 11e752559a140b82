use Rattle.std.proofs.Common.{◌≡◌, ℕ, min, List, length, take, rules, arith, ap, ◌∙◌}
use Rattle.std.proofs.lemmas.List.{take_min}
use Rattle.ring_client.specs.Asking.{just_submitted}
use Rattle.ring_world_port.specs.Answers.{submitted_call_of}
use Rattle.ring_world_port.proofs.network.Network.submit_for_ticket.Goals as goal

pub returns-clause-ticket : goal.returns-clause-ticket
returns-clause-ticket g c =
    let op = c.args.call.now.op in
    let least : min (length op) 1024 ≡ min 1024 (length op) = omega arith in
    let first : c.from_slice.result ≡ take (min (length op) 1024) op = search rules in
    ap (λ (kept : List ℕ). submitted_call_of c.args.node (just_submitted c.args.call.now.client c.args.call.now.number kept))
    (first ∙ ap (λ (n : ℕ). take n op) least ∙ take_min 1024 op)
