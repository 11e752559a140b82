-- Payloads handed to a core with no installation due change only its queue.
use Rattle.std.proofs.Common.{◌≡◌, false, List, [], ◌∷◌, refl, ap, ◌∙◌}
use Rattle.ring_core_spec.specs.Payloads.{Payload}
use Rattle.ring_core_spec.specs.State.{Core, StepResult}
use Rattle.ring_core_spec.specs.Giving.{may_install}
use Rattle.ring_core_spec.proofs.Quiet.{with_queue, quiet_send}
use Rattle.ring_node_spec.specs.Stepping.{handed_over}

-- the two cores are equal except for their queues
pub record IsQueued {A : Type 0} (c d : Core A) : Type 0 where
  pub queue : List (Payload A)
  pub is : d ≡ with_queue c queue
  pub ready : may_install d ≡ false

pub queued_all : {A : Type 0} → (c : Core A) (ps : List (Payload A)) → may_install c ≡ false → IsQueued c (handed_over c ps)
queued_all c [] h = record { queue = c.queue; is = refl; ready = h }
queued_all {A} c (p ∷ ps) h =
    let one = quiet_send c p h in
    let rest : IsQueued (with_queue c one.queue) (handed_over (with_queue c one.queue) ps) = queued_all (with_queue c one.queue) ps one.ready in
    let same : handed_over c (p ∷ ps) ≡ handed_over (with_queue c one.queue) ps = ap (λ (s : StepResult A). handed_over s.core ps) one.is in
    record { queue = rest.queue; is = same ∙ rest.is; ready = ap (λ (d : Core A). may_install d) same ∙ rest.ready }
