-- A core in the formed ring of all holds nothing.
use Rattle.std.proofs.Common.{◌≡◌, ℕ, ◌≤◌, ap, ◌∙◌, arith}
use Rattle.ring_base.specs.Processors.{everybody}
use Rattle.ring_join.specs.Gatherers.{Gatherer}
use Rattle.ring_join.specs.Gathering.{gathering_opening}
use Rattle.ring_srp_transitions.proofs.Starting.{starts_in_all}
use Rattle.ring_srp_transitions.proofs.running_core.RunningCore.formed.Goals as goal

pub invariant_of-result : goal.invariant_of-result
invariant_of-result g c =
    let gatherer : ℕ → Gatherer = λ set. record { me = c.args.me; floor = 0; gathering = gathering_opening set } in
    let gathers : c.new-2.result ≡ gatherer (everybody c.args.fixed.count) = c.new-2.ensures ∙ ap gatherer c.everybody.ensures.value in
    let low : 1 ≤ c.args.me = omega arith in
    let window = rw c.formed_ring.ensures at c.in_ok-kept.ensures.window in
    let visit = rw c.formed_ring.ensures at c.in_ok-kept.ensures.visit in
    rw (c.formed_ring-2.ensures, c.formed_ring-3.ensures)
    (starts_in_all c.args.fixed.count c.args.me c.new-2.result c.in_ok-kept.kept.window c.in_ok-kept.kept.visit c.new-3.result.items
    c.empty_ghost_list.result.value c.formed_history.result.value low c.requires gathers window visit c.empty_ghost_list.ensures c.formed_history.ensures)
