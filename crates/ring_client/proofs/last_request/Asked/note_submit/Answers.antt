use Rattle.std.proofs.Common.{◌≡◌, ℕ, min, length, take, rules, arith, ap, ◌∙◌}
use Rattle.std.proofs.lemmas.List.{take_min}
use Rattle.ring_client.specs.Asking.{just_submitted}
use Rattle.ring_client.proofs.last_request.Asked.note_submit.Goals as goal

pub returns : goal.returns
returns g c =
    let op = c.args.call.now.op in
    let least : min (length op) 1024 ≡ min 1024 (length op) = omega arith in
    let first : c.from_slice-self.result ≡ take (min (length op) 1024) op = search rules in
    ap (just_submitted c.args.call.now.client c.args.call.now.number) (first ∙ ap (λ (n : ℕ). take n op) least ∙ take_min 1024 op)
