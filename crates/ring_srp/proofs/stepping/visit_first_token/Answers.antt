-- The representative may visit the first token, and is then as the definition starts the ring.
use Rattle.std.proofs.Common.{ap, ◌∙◌}
use Rattle.ring_core_spec.specs.Commits.{Configuration}
use Rattle.ring_base.proofs.Results.{ok_always}
use Rattle.ring_core_spec.specs.Tokens.{first_token}
use Rattle.ring_srp.proofs.Allowed.{first_allowed}
use Rattle.ring_srp.proofs.StepOutputs.{first_alone, first_core}
use Rattle.ring_srp.proofs.stepping.visit_first_token.Goals as goal

pub visit-requires : goal.visit-requires
visit-requires g c =
    let n = c.args.fixed.count in
    let first = c.first_token-token.ensures ∙ ap (λ (p : Configuration). first_token p.ring) c.formed_ring.ensures in
    first_allowed n c.args.running_core.now c.first_token-token.result c.requires first

pub returns-clause-core : goal.returns-clause-core
returns-clause-core g c =
    let n = c.args.fixed.count in
    let first = c.first_token-token.ensures ∙ ap (λ (p : Configuration). first_token p.ring) c.formed_ring.ensures in
    ok_always c.concatenate_outputs.result (first_core n c.args.running_core.now c.visit.new.self c.first_token-token.result c.in_ok-visit.ensures.core c.requires first)

pub returns-clause-outs : goal.returns-clause-outs
returns-clause-outs g c =
    let n = c.args.fixed.count in
    let first = c.first_token-token.ensures ∙ ap (λ (p : Configuration). first_token p.ring) c.formed_ring.ensures in
    first_alone n c.args.running_core.now c.first_token-token.result c.empty_list-sends.result.items c.visit.new.sends.items c.empty_list.result.items c.concatenate_outputs.result
    c.empty_list-sends.ensures c.in_ok-visit.ensures.sends c.empty_list.ensures c.concatenate_outputs.ensures.ok c.requires first
