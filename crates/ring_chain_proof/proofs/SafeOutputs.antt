-- What `Safe` covers is safe: a step gives the safe mark as it then is, and a safe number stays safe.
use Rattle.std.proofs.Common.{◌≡◌, ℕ, ◌≤◌, ◌⊎◌, inl, inr, Bool, true, false, List, [], ◌∷◌, ◌++◌, map, Option, Some, None, refl, ap, sym, ◌∙◌, subst}
use Rattle.std.specs.Prelude.{nat_lt, filter}
use Rattle.std.specs.List.{AllByRecursion as Each}
use Rattle.std.proofs.lemmas.Bool.{cond_both}
use Rattle.ring_base.specs.Processors.{has}
use Rattle.ring_base.specs.declared.ring_id.RingId.{RingId}
use Rattle.ring_base.proofs.Each.{each-weaker, each-append, each-map}
use Rattle.ring_wire.specs.declared.frame.Frame.{Frame}
use Rattle.ring_core_spec.specs.Recoveries.{rest_messages}
use Rattle.ring_core_spec.specs.declared.input.Input.{Input}
use Rattle.ring_core_spec.specs.declared.input.Input.TheVariants.{Frame as FrameInput, Timeout as TimeInput, Send as SendInput}
use Rattle.ring_core_spec.specs.declared.out.Out.{Out}
use Rattle.ring_core_spec.specs.declared.out.Out.TheVariants.{Send as SendOut, Agreed, Safe, Trans, Rest, Regular}
use Rattle.ring_core_spec.specs.State.{Core, OutgoingFrame, frame_at}
use Rattle.ring_core_spec.specs.Views.{front, mark, plan}
use Rattle.ring_core_spec.specs.Giving.{may_install, install, sends_with_receivers, sent, user_messages_between, agreed_from, safe_from, delivered_from, agreed_and_safe_of_step, installation_outputs}
use Rattle.ring_core_spec.specs.Giving.{with_installation_if}
use Rattle.ring_core_spec.specs.Deciding.{decide}
use Rattle.ring_core_spec.specs.Transitions.{transition_and_proposal}
use Rattle.ring_core_spec.specs.Stepping.{ring_step}
use Rattle.ring_core_proof.specs.declared.event.RingEvent.{RingEvent}
use Rattle.ring_core_proof.specs.declared.event.RingEvent.TheVariants.{Send, Deliver, Timeout, Stop}
use Rattle.ring_core_proof.specs.Worlds.{Transmission, World, is_node, stepped_if, stopped_if, handed_if, handed}
use Rattle.ring_core_proof.specs.Worlds.{world_after_event, run, unformed, ring_formed, has_effect_on_formed, run_formed}
use Rattle.ring_core_proof.proofs.InLists.{each-in}
use Rattle.ring_core_proof.proofs.Lifting.{put-here}
use Rattle.ring_chain_proof.specs.ChainWords.{IsSafe}
use Rattle.ring_chain_proof.specs.ChainFacts.{IsSafeOutput, SafeOutputsAreSafe}
use Rattle.ring_chain_proof.proofs.FactsGrow.{AllGrown, safe_grows}
use Rattle.ring_chain_proof.proofs.Safety.{mark_safe}
use Rattle.ring_chain_proof.proofs.HopsTakenOnce.{event_grows, event_holds}
use Rattle.ring_chain_proof.proofs.AllLayers.{Holds, opening_holds}
use Rattle.ring_chain_proof.proofs.ChainInRuns.{start_holds}

-- One step

-- the number of a `Safe` output is the mark
abbrev IsMark : {A : Type 0} → Core A → Out A → Type 0
IsMark c (Safe ring upto) = upto ≡ mark c ring
IsMark c (SendOut to frame) = Unit {0}
IsMark c (Agreed ring n x) = Unit {0}
IsMark c (Trans old new set) = Unit {0}
IsMark c (Rest ring n x) = Unit {0}
IsMark c (Regular ring set) = Unit {0}

marks_from : {A : Type 0} → (c : Core A) (ring : RingId) (f m : ℕ) → Each (IsMark c) (delivered_from c ring f m)
marks_from c ring f m =
    each-append (IsMark c) (agreed_from c ring f) (safe_from c ring m)
    (each-map (IsMark c) (λ x. Agreed ring x.number x) (user_messages_between c ring f (front c ring)) (each-in _ _ (λ x k. tt)))
    (cond_both (nat_lt m (mark c ring)) (Safe ring (mark c ring) ∷ []) [] (Each (IsMark c)) (λ e. (refl, tt)) (λ e. tt))

marks_sent : {A : Type 0} → (c : Core A) (sends : List (OutgoingFrame A)) → Each (IsMark c) (sent sends)
marks_sent c sends = each-map (IsMark c) (λ s. SendOut s.to s.frame) (sends_with_receivers sends) (each-in _ _ (λ x k. tt))

marks_configured : {A : Type 0} → (c : Core A) → Each (IsMark c) (installation_outputs c)
marks_configured c = (
  tt,
  each-append (IsMark c) (map (λ x. Rest x.ring x.number x) (rest_messages (plan c) c.held))
      (Regular c.running.ring c.running.members ∷ delivered_from c c.running.ring 0 0)
      (each-map (IsMark c) (λ x. Rest x.ring x.number x) (rest_messages (plan c) c.held) (each-in _ _ (λ x k. tt)))
      (tt, marks_from c c.running.ring 0 0),
)

same_marks : {A : Type 0} → (c : Core A) (outs : List (Out A)) → Each (IsMark c) outs → Each (IsMark (install c)) outs
same_marks c outs h = each-weaker (IsMark c) (IsMark (install c)) one outs h
  where
    one : (o : Out _) → IsMark c o → IsMark (install c) o
    one (Safe ring upto) k = k
    one (SendOut to frame) k = tt
    one (Agreed ring n x) k = tt
    one (Trans old new set) k = tt
    one (Rest ring n x) k = tt
    one (Regular ring set) k = tt

marks_settled : {A : Type 0} → (b : Bool) (c : Core A) (outs : List (Out A)) → Each (IsMark c) outs →
    Each (IsMark (with_installation_if b c outs).core) (with_installation_if b c outs).outs
marks_settled false c outs h = h
marks_settled true c outs h = same_marks c (outs ++ installation_outputs c) (each-append (IsMark c) outs (installation_outputs c) h (marks_configured c))

step_marks : {A : Type 0} → (c : Core A) (input : Input A) → Each (IsMark (ring_step c input).core) (ring_step c input).outs
unfolding ring_step
step_marks c input =
    let d = transition_and_proposal c (decide c input) in
    marks_settled (may_install d.core) d.core (sent d.sends ++ agreed_and_safe_of_step c d.core)
    (each-append (IsMark d.core) (sent d.sends) (agreed_and_safe_of_step c d.core) (marks_sent d.core d.sends)
    (marks_from d.core c.installed.ring (front c c.installed.ring) (mark c c.installed.ring)))

-- One event

-- it has no outputs, or those of a step
pub record IsStepOf {A : Type 0} (w v : World A) : Type 0 where
  pub i : ℕ
  pub input : Input A
  pub outs : v.outs ≡ w.outs ++ map (λ o. (i, o)) (ring_step (w.cores i) input).outs
  pub core : v.cores i ≡ (ring_step (w.cores i) input).core

abbrev pub GivesOf : {A : Type 0} → World A → World A → Type 0
GivesOf w v = (v.outs ≡ w.outs) ⊎ IsStepOf w v

gives_stepped : {A : Type 0} → (b : Bool) (w : World A) (i : ℕ) (input : Input A) → GivesOf w (stepped_if b w i input)
gives_stepped false w i input = inl refl
gives_stepped true w i input = inr (record { i = i; input = input; outs = refl; core = put-here w.cores i (ring_step (w.cores i) input).core })

gives_stopped : {A : Type 0} → (b : Bool) (w : World A) (i : ℕ) → GivesOf w (stopped_if b w i)
gives_stopped false w i = inl refl
gives_stopped true w i = inl refl

gives_if : {A : Type 0} → (b : Bool) (w : World A) (i : ℕ) (frame : Frame A) → GivesOf w (handed_if b w i frame)
gives_if false w i frame = inl refl
gives_if true w i frame = gives_stepped (is_node w i) w i (FrameInput frame)

gives_handed : {A : Type 0} → (w : World A) (i : ℕ) (o : Option (Transmission A)) → GivesOf w (handed w i o)
gives_handed w i None = inl refl
gives_handed w i (Some f) = gives_if (has f.to i) w i f.frame

pub gives : {A : Type 0} → (w : World A) (e : RingEvent A) → GivesOf w (world_after_event w e)
gives w (Send i payload) = gives_stepped (is_node w i) w i (SendInput payload)
gives w (Deliver i n) = gives_handed w i (frame_at w.frames n)
gives w (Timeout i kind) = gives_stepped (is_node w i) w i (TimeInput kind)
gives w (Stop i) = gives_stopped (is_node w i) w i

-- All events

told_grows : {A : Type 0} → (old new : ℕ → Core A) → AllGrown old new → (o : Out A) → IsSafeOutput old o → IsSafeOutput new o
told_grows old new g (Safe ring upto) h = safe_grows old new g ring upto h
told_grows old new g (SendOut to frame) h = tt
told_grows old new g (Agreed ring n x) h = tt
told_grows old new g (Trans o n set) h = tt
told_grows old new g (Rest ring n x) h = tt
told_grows old new g (Regular ring set) h = tt

told_new : {A : Type 0} → (cores : ℕ → Core A) → ((q : ℕ) (ring : RingId) → IsSafe cores ring (mark (cores q) ring)) → (i : ℕ) (c : Core A) → cores i ≡ c →
    (o : Out A) → IsMark c o → IsSafeOutput cores o
told_new cores safe i c e (Safe ring upto) h = subst (IsSafe cores ring) (ap (λ (c : Core _). mark c ring) e ∙ sym h) (safe i ring)
told_new cores safe i c e (SendOut to frame) h = tt
told_new cores safe i c e (Agreed ring n x) h = tt
told_new cores safe i c e (Trans o n set) h = tt
told_new cores safe i c e (Rest ring n x) h = tt
told_new cores safe i c e (Regular ring set) h = tt

told_event : {A : Type 0} → (w : World A) (e : RingEvent A) → Holds w.cores w.frames → SafeOutputsAreSafe w → SafeOutputsAreSafe (world_after_event w e)
told_event {A} w e p h =
    let v = world_after_event w e in
    let Told : ℕ × Out A → Type 0 = λ o. IsSafeOutput v.cores o.1 in
    let old : Each Told w.outs = each-weaker (λ (o : ℕ × Out A). IsSafeOutput w.cores o.1) Told
    (λ (o : ℕ × Out A) k. told_grows w.cores v.cores (event_grows w e) o.1 k) w.outs h in
    let q = event_holds w e p in
    elim (gives w e) [
      | inl same ↦ subst (Each Told) (sym same) old
      | inr s ↦ (let outs = (ring_step (w.cores s.i) s.input).outs in
          let new : Each (λ (o : Out A). IsSafeOutput v.cores o) outs =
          each-weaker (IsMark (ring_step (w.cores s.i) s.input).core) (IsSafeOutput v.cores)
          (told_new v.cores (mark_safe q.visits v.cores q.chains q.turned q.safe) s.i
          (ring_step (w.cores s.i) s.input).core s.core) outs (step_marks (w.cores s.i) s.input) in
          subst (Each Told) (sym s.outs) (each-append Told w.outs (map (λ o. (s.i, o)) outs) old (each-map Told (λ o. (s.i, o)) outs new)))
    ]

told_run : {A : Type 0} → (w : World A) (events : List (RingEvent A)) → Holds w.cores w.frames → SafeOutputsAreSafe w → SafeOutputsAreSafe (run w events)
told_run w [] p h = h
told_run w (e ∷ events) p h = told_run (world_after_event w e) events (event_holds w e p) (told_event w e p h)

pub unformed_told : {A : Type 0} → (n : ℕ) (events : List (RingEvent A)) → SafeOutputsAreSafe (run (unformed n) events)
unformed_told n events = told_run (unformed n) events (opening_holds n) tt

pub formed_told : {A : Type 0} → (n : ℕ) (events : List (RingEvent A)) → 1 ≤ n → SafeOutputsAreSafe (run_formed n events)
formed_told n events some = told_run (ring_formed n) (filter has_effect_on_formed events) (start_holds n some) tt
