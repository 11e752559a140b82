-- The core is that after the visit, and the outputs are the visit's.
use Rattle.std.proofs.Common.{◌≡◌}
use Rattle.ring_core_spec.specs.State.{formed_ring_of, formed}
use Rattle.ring_core_spec.specs.Giving.{sent}
use Rattle.ring_core_spec.specs.Tokens.{first_token}
use Rattle.ring_core_spec.specs.Visiting.{token_visited}
use Rattle.ring_base.proofs.Pairs.{of_first_beside, of_second}
use Rattle.ring_srp.proofs.srp.start_representative.Goals as goal

pub returns-clause-core : goal.returns-clause-core
returns-clause-core g c =
    of_first_beside c.pair_result.result c.visit_first_token-outs.result (λ pair. pair.0) (λ pair. pair.1) _ _ c.pair_result.ensures.first c.pair_result.ensures.second
    c.visit_first_token-outs.ensures.core

pub returns-clause-outs : goal.returns-clause-outs
returns-clause-outs g c =
    let n = c.args.fixed.count in
    of_second c.pair_result.result c.visit_first_token-outs.result (λ pair. pair.1)
    (λ outs. outs.items ≡ sent (token_visited {A = g.row.A.Denot} (formed n 1) (first_token (formed_ring_of n).ring)).sends) c.pair_result.ensures.second c.visit_first_token-outs.ensures.outs
