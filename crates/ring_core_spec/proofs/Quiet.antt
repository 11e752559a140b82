-- A core that receives a payload to send has no outputs in that step, as long as no installation is due; and after a
-- step none is.
use Rattle.std.proofs.Common.{◌≡◌, ◌+◌, Bool, true, false, List, [], ◌∷◌, ◌++◌, map, refl, ap, ◌∙◌}
use Rattle.std.specs.Prelude.{filter, filter_map, if◌then◌else◌}
use Rattle.std.proofs.Math.Nat.{sub_self, le_refl}
use Rattle.std.proofs.lemmas.Bool.{cond_both, le-ltb}
use Rattle.ring_base.specs.Numbers.{numbers_from}
use Rattle.ring_base.specs.declared.ring_id.RingId.{RingId}
use Rattle.ring_base.specs.declared.state.State.{State}
use Rattle.ring_base.specs.declared.state.State.TheVariants.{Gather, Commit, Recovery, Operational, Stopped}
use Rattle.ring_base.proofs.TwoEqual.{ap-both}
use Rattle.ring_token.specs.Payloads.{Payload, is_user, is_queued}
use Rattle.ring_token.specs.Frames.{Message}
use Rattle.ring_recover.specs.Windows.{found}
use Rattle.ring_recover.specs.Installing.{is_ready}
use Rattle.ring_core_spec.specs.declared.input.Input.{Input}
use Rattle.ring_core_spec.specs.declared.input.Input.TheVariants.{Send as SendInput}
use Rattle.ring_core_spec.specs.declared.out.Out.{Out}
use Rattle.ring_core_spec.specs.declared.out.Out.TheVariants.{Agreed, Safe}
use Rattle.ring_core_spec.specs.State.{Core, TransitionResult, StepResult}
use Rattle.ring_core_spec.specs.Views.{front, mark}
use Rattle.ring_core_spec.specs.Deciding.{Ignore, Enqueue, decide, decide_payload}
use Rattle.ring_core_spec.specs.Transitions.{without_sends, transition_and_proposal}
use Rattle.ring_core_spec.specs.Giving.{ready_then_complete, installs_in, may_install, sent, agreed_and_safe_of_step, agreed_from, safe_from, with_installation_if, step_result}
use Rattle.ring_core_spec.specs.Stepping.{ring_step}

-- a core with another queue
abbrev pub with_queue : {A : Type 0} → Core A → List (Payload A) → Core A
with_queue c q = record c { queue = q }

complete_same : {A : Type 0} → (b : Bool) (c : Core A) (q : List (Payload A)) → ready_then_complete b (with_queue c q) ≡ ready_then_complete b c
complete_same false c q = refl
complete_same true c q = refl

pub installs_same : {A : Type 0} → (s : State) (c : Core A) (q : List (Payload A)) → installs_in s (with_queue c q) ≡ installs_in s c
installs_same Gather c q = refl
installs_same Commit c q = refl
installs_same Recovery c q = complete_same (is_ready c.held c.running.ring c.running.members (mark c c.running.ring)) c q
installs_same Operational c q = refl
installs_same Stopped c q = refl

-- where front and mark stay, no message is newly agreed or safe

pub none_agreed : {A : Type 0} → (c : Core A) (ring : RingId) → agreed_from c ring (front c ring) ≡ []
none_agreed {A} c ring =
    let f = front c ring in
    ap (λ ns. map (λ (x : Message A). Agreed ring x.number x) (filter (λ (x : Message A). is_user x.payload)
    (filter_map (found c.held ring) (numbers_from (f + 1) ns)))) (sub_self f)

pub none_safe : {A : Type 0} → (c : Core A) (ring : RingId) → safe_from c ring (mark c ring) ≡ []
none_safe c ring = ap (λ b. if b then Safe ring (mark c ring) ∷ [] else []) (le-ltb (mark c ring) (mark c ring) (le_refl (mark c ring)))

nothing_given : {A : Type 0} → (c : Core A) (q : List (Payload A)) → sent [] ++ agreed_and_safe_of_step c (with_queue c q) ≡ []
nothing_given c q = ap-both (λ xs ys. xs ++ ys) (none_agreed c c.installed.ring) (none_safe c c.installed.ring)

-- the same core with another queue, and no outputs
pub record IsQuiet {A : Type 0} (c : Core A) (s : StepResult A) : Type 0 where
  pub queue : List (Payload A)
  pub is : s ≡ record { core = with_queue c queue; outs = [] }
  pub ready : may_install (with_queue c queue) ≡ false

quiet_with : {A : Type 0} → (c : Core A) → may_install c ≡ false → (q : List (Payload A)) → IsQuiet c (step_result c (without_sends (with_queue c q)))
quiet_with c h q =
    let ready : may_install (with_queue c q) ≡ false = installs_same c.state c q ∙ h in
    record { queue = q; is = ap-both (λ b outs. with_installation_if b (with_queue c q) outs) ready (nothing_given c q); ready = ready }

quiet_act : {A : Type 0} → (s : State) (c : Core A) (p : Payload A) → may_install c ≡ false → IsQuiet c (step_result c (transition_and_proposal c (decide_payload s p)))
quiet_act Gather c p h = quiet_with c h c.queue
quiet_act Commit c p h = quiet_with c h c.queue
quiet_act Recovery c p h = quiet_with c h c.queue
quiet_act Stopped c p h = quiet_with c h c.queue
quiet_act Operational c p h =
    cond_both (is_queued p) (Enqueue p) Ignore (λ a. IsQuiet c (step_result c (transition_and_proposal c a))) (λ e. quiet_with c h (c.queue ++ p ∷ [])) (λ e. quiet_with c h c.queue)

pub quiet_send : {A : Type 0} → (c : Core A) (p : Payload A) → may_install c ≡ false → IsQuiet c (ring_step c (SendInput p))
unfolding ring_step
quiet_send c p h = quiet_act c.state c p h

-- after a step no ring remains that may be installed

settled_is : {A : Type 0} → (b : Bool) (c : Core A) (outs : List (Out A)) → may_install c ≡ b → may_install (with_installation_if b c outs).core ≡ false
settled_is false c outs h = h
settled_is true c outs h = refl

delivered_is : {A : Type 0} → (old : Core A) (d : TransitionResult A) → may_install (step_result old d).core ≡ false
delivered_is old d = settled_is (may_install d.core) d.core (sent d.sends ++ agreed_and_safe_of_step old d.core) refl

pub stepped_is : {A : Type 0} → (c : Core A) (input : Input A) → may_install (ring_step c input).core ≡ false
unfolding ring_step
stepped_is c input = delivered_is c (transition_and_proposal c (decide c input))
