-- A core at the opening has no facts.
use Rattle.std.proofs.Common.{◌≡◌, ℕ, ap, ◌∙◌}
use Rattle.ring_base.specs.Processors.{everybody}
use Rattle.ring_join.specs.Gatherers.{Gatherer}
use Rattle.ring_join.specs.Gathering.{gathering_opening}
use Rattle.ring_srp_transitions.proofs.Starting.{starts_alone}
use Rattle.ring_srp_transitions.proofs.running_core.RunningCore.new.Goals as goal

pub invariant_of-result : goal.invariant_of-result
invariant_of-result g c =
    let gatherer : ℕ → Gatherer = λ set. record { me = c.args.me; floor = 0; gathering = gathering_opening set } in
    let gathers : c.new-2.result ≡ gatherer (everybody c.args.fixed.count) = c.new-2.ensures ∙ ap gatherer c.everybody.ensures.value in
    rw (c.opening_ring.ensures.value, c.opening_ring-2.ensures.value)
    (starts_alone c.args.fixed.count c.args.me c.new-2.result c.in_ok-kept.kept.window c.in_ok-kept.kept.visit c.new-3.result.items
    c.empty_ghost_list.result.value c.opening_history.result.value c.opening_ring.ensures.member.0 gathers c.in_ok-kept.ensures.window c.in_ok-kept.ensures.visit
    c.empty_ghost_list.ensures c.opening_history.ensures)
