-- A payload to send is queued or dropped, and the step has no outputs.
use Rattle.std.proofs.Common.{◌≡◌, Bool, true, false, List, [], ◌∷◌, ◌++◌, refl, ap, ◌∙◌, sym, subst}
use Rattle.std.proofs.lemmas.Bool.{cond-true, cond-false}
use Rattle.ring_base.specs.declared.state.State.{State}
use Rattle.ring_base.specs.declared.state.State.TheVariants.{Gather, Commit, Recovery, Operational, Stopped}
use Rattle.ring_payload.specs.Packing.{is_queued}
use Rattle.ring_payload.specs.declared.content.Payload.{Payload}
use Rattle.ring_core_spec.specs.declared.input.Input.TheVariants.{Send as SendInput}
use Rattle.ring_core_spec.specs.declared.out.Out.{Out}
use Rattle.ring_core_spec.specs.State.{Core, StepResult}
use Rattle.ring_core_spec.specs.Views.{mark}
use Rattle.ring_core_spec.specs.Deciding.{Transition, Ignore, Enqueue, decide_payload}
use Rattle.ring_core_spec.specs.Transitions.{transition_and_proposal}
use Rattle.ring_core_spec.specs.Giving.{safe_from, agreed_and_safe_of_step, installs_in, may_install, with_installation_if, step_result}
use Rattle.ring_core_spec.specs.Stepping.{ring_step}
use Rattle.ring_core_spec.proofs.Quiet.{none_agreed, none_safe}

-- Where front and mark stay, there are no outputs

given_nothing : {A : Type 0} (c : Core A) → agreed_and_safe_of_step c c ≡ []
given_nothing {A} c =
    ap (λ (outs : List (Out A)). outs ++ safe_from c c.installed.ring (mark c c.installed.ring)) (none_agreed c c.installed.ring)
    ∙ none_safe c c.installed.ring

-- a step that ended in this core, without outputs
pub record GaveNothing {A : Type 0} (s : StepResult A) (c : Core A) : Type 0 where
  pub core : s.core ≡ c
  pub outs : s.outs ≡ []

settled_nothing : {A : Type 0} (b : Bool) (c : Core A) (outs : List (Out A)) → b ≡ false → outs ≡ [] → GaveNothing (with_installation_if b c outs) c
settled_nothing true c outs h e = (let q : true ≡ false = h in cc)
settled_nothing false c outs h e = record { core = refl; outs = e }

-- A payload is dropped

pub ignored : {A : Type 0} (c : Core A) → may_install c ≡ false → GaveNothing (step_result c (transition_and_proposal c Ignore)) c
ignored c h = settled_nothing (may_install c) c (agreed_and_safe_of_step c c) h (given_nothing c)

drops : {A : Type 0} (s : State) (payload : Payload A) → (s ≡ Operational → is_queued payload ≡ false) → decide_payload s payload ≡ Ignore
drops Operational payload h = cond-false (is_queued payload) (Enqueue payload) Ignore (h refl)
drops Gather payload h = refl
drops Commit payload h = refl
drops Recovery payload h = refl
drops Stopped payload h = refl

pub dropped : {A : Type 0} (c : Core A) (payload : Payload A) → (c.state ≡ Operational → is_queued payload ≡ false) → may_install c ≡ false
    → GaveNothing (ring_step c (SendInput payload)) c
unfolding ring_step
dropped {A} c payload h i = subst (λ (a : Transition A). GaveNothing (step_result c (transition_and_proposal c a)) c) (sym (drops c.state payload h)) (ignored c i)

-- A payload is queued

enqueued : {A : Type 0} (c : Core A) (payload : Payload A) → c.state ≡ Operational
    → GaveNothing (step_result c (transition_and_proposal c (Enqueue payload))) (record c { queue = c.queue ++ payload ∷ [] })
enqueued c payload h =
    let new = record c { queue = c.queue ++ payload ∷ [] } in
    settled_nothing (may_install new) new (agreed_and_safe_of_step c new) (ap (λ s. installs_in s new) h) (given_nothing new)

pub queued : {A : Type 0} (c : Core A) (payload : Payload A) → c.state ≡ Operational → is_queued payload ≡ true
    → GaveNothing (ring_step c (SendInput payload)) (record c { queue = c.queue ++ payload ∷ [] })
unfolding ring_step
queued {A} c payload h q =
    let e : decide_payload c.state payload ≡ Enqueue payload = ap (λ s. decide_payload s payload) h
    ∙ cond-true (is_queued payload) (Enqueue payload) Ignore q in
    subst (λ (a : Transition A). GaveNothing (step_result c (transition_and_proposal c a)) (record c { queue = c.queue ++ payload ∷ [] })) (sym e) (enqueued c payload h)
