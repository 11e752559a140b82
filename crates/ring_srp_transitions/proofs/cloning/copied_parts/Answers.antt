-- Each copy equals its original.
use Rattle.std.proofs.Common.{◌≡◌}
use Rattle.ring_srp_transitions.proofs.Copied.{IsCopiedIf}
use Rattle.ring_base.proofs.Pairs.{of_first, of_second}
use Rattle.ring_srp_transitions.proofs.cloning.copied_parts.Goals as goal

pub returns-clause-kept : goal.returns-clause-kept
returns-clause-kept g c =
    of_first c.pair_result.result (λ pair. pair.0) _ (λ kept. kept ≡ c.args.kept.now) c.pair_result.ensures.first c.in_ok-kept.ensures.cases

pub returns-clause-recovery : goal.returns-clause-recovery
returns-clause-recovery g c =
    of_second c.pair_result.result c.copied_recovery.result (λ pair. pair.1) (λ copy. IsCopiedIf c.args.recovery.now copy) c.pair_result.ensures.second
    c.copied_recovery.ensures
