-- The plan and the messages seen are equal, so the copy's fields fit them as the plan's do.
use Rattle.std.proofs.Common.{◌≡◌}
use Rattle.ring_recover.proofs.plan.PlanClone.clone.Goals as goal

pub invariant_of-result : goal.invariant_of-result
invariant_of-result g c =
    let plan : c.in_ok-clone.field-0.value ≡ c.self.inside.plan.value = c.in_ok-clone.ensures.cases in
    let seen : c.in_ok-clone-2.field-0.value ≡ c.self.inside.seen.value = c.in_ok-clone-2.ensures.cases in
    rw (plan, seen) c.self.invariant

pub returns : goal.returns
returns g c =
    let plan : c.in_ok-clone.field-0.value ≡ c.self.inside.plan.value = c.in_ok-clone.ensures.cases in
    let seen : c.in_ok-clone-2.field-0.value ≡ c.self.inside.seen.value = c.in_ok-clone-2.ensures.cases in
    record { cases = rw (plan, seen) c.self.view_is }
