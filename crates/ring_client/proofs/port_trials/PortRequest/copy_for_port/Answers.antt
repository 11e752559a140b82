use Rattle.std.proofs.Common.{◌≡◌, ℕ, List, take, take_all, rules, ap, ◌∙◌}
use Rattle.ring_client.specs.Asking.{just_submitted}
use Rattle.ring_client.proofs.port_trials.PortRequest.copy_for_port.Goals as goal

pub returns-clause-ok : goal.returns-clause-ok
returns-clause-ok g c =
    let same : c.in_ok-from_slice.field-0 ≡ c.args.self.now.op = search rules in
    let short = take_all 1024 c.args.self.now.op (search rules) in
    ap (λ (op : List ℕ). just_submitted c.args.self.now.client c.args.self.now.number (take 1024 op)) same
    ∙ ap (just_submitted c.args.self.now.client c.args.self.now.number) short
