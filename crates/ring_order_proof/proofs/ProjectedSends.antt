-- Payloads handed to a core one after another, as events of a world of ring cores: only that core changes.
use Rattle.std.proofs.Common.{◌≡◌, ℕ, true, false, List, [], ◌∷◌, ap, sym, ◌∙◌, subst, append-nil}
use Rattle.ring_payload.specs.declared.content.Payload.{Payload}
use Rattle.ring_core_spec.specs.declared.input.Input.TheVariants.{Send as SendInput}
use Rattle.ring_core_spec.specs.State.{Core}
use Rattle.ring_core_spec.specs.Giving.{may_install}
use Rattle.ring_core_spec.specs.Stepping.{ring_step}
use Rattle.ring_node_spec.specs.Stepping.{handed_over}
use Rattle.ring_core_proof.specs.declared.event.RingEvent.TheVariants.{Send}
use Rattle.ring_core_proof.specs.Worlds.{World as RingWorld, with_core, after_step, is_node, stepped_if, world_after_event, run}
use Rattle.ring_core_proof.proofs.Lifting.{put-put, put-own, put-here}
use Rattle.ring_order_proof.specs.Projection.{sends_to}
use Rattle.ring_core_spec.proofs.Quiet.{IsQuiet, with_queue, quiet_send, stepped_is}
use Rattle.ring_base.proofs.TwoEqual.{ap-both}

-- a world with other cores
abbrev pub with_cores : {A : Type 0} → RingWorld A → (ℕ → Core A) → RingWorld A
with_cores r cores = record r { cores = cores }

-- a step without outputs
silent_step : {A : Type 0} → (r : RingWorld A) (i : ℕ) (c : Core A) → after_step r i (record { core = c; outs = [] }) ≡ with_cores r (with_core r.cores i c)
silent_step r i c = ap-both (λ frames outs. record r { cores = with_core r.cores i c; frames = frames; outs = outs }) (append-nil r.frames) (append-nil r.outs)

one_send : {A : Type 0} → (r : RingWorld A) (i : ℕ) (p : Payload A) → is_node r i ≡ true → (q : IsQuiet (r.cores i) (ring_step (r.cores i) (SendInput p))) →
    world_after_event r (Send i p) ≡ with_cores r (with_core r.cores i (with_queue (r.cores i) q.queue))
one_send r i p n q =
    ap (λ b. stepped_if b r i (SendInput p)) n ∙ ap (after_step r i) q.is ∙ silent_step r i (with_queue (r.cores i) q.queue)

pub run_sends : {A : Type 0} → (r : RingWorld A) (i : ℕ) (ps : List (Payload A)) → is_node r i ≡ true → may_install (r.cores i) ≡ false →
    run r (sends_to i ps) ≡ with_cores r (with_core r.cores i (handed_over (r.cores i) ps))
run_sends r i [] n h = ap (with_cores r) (sym (put-own r.cores i))
run_sends {A} r i (p ∷ ps) n h =
    let q = quiet_send (r.cores i) p h in
    let c = with_queue (r.cores i) q.queue in
    let s = with_cores r (with_core r.cores i c) in
    let here : s.cores i ≡ c = put-here r.cores i c in
    let later : run s (sends_to i ps) ≡ with_cores s (with_core s.cores i (handed_over (s.cores i) ps)) =
    run_sends s i ps n (subst (λ (x : Core A). may_install x ≡ false) (sym here) q.ready) in
    ap (λ x. run x (sends_to i ps)) (one_send r i p n q)
    ∙ later
    ∙ ap (with_cores r) (put-put r.cores i c (handed_over (s.cores i) ps))
    ∙ ap (λ x. with_cores r (with_core r.cores i (handed_over x ps))) here
    ∙ ap (λ x. with_cores r (with_core r.cores i (handed_over x.core ps))) (sym q.is)

-- after handing over payloads no installation is due
pub handed_is : {A : Type 0} → (c : Core A) (ps : List (Payload A)) → may_install c ≡ false → may_install (handed_over c ps) ≡ false
handed_is c [] h = h
handed_is c (p ∷ ps) h = handed_is (ring_step c (SendInput p)).core ps (stepped_is c (SendInput p))
