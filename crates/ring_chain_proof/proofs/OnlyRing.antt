-- A formed ring is the only one that its processors take part in.

-- So the members that hold what a safe mark covers are all processors, and all outputs are of that ring.
use Rattle.std.proofs.Common.{◌≡◌, ℕ, ◌≤◌, ◌⊎◌, inl, inr, Bool, true, false, List, [], ◌∷◌, ◌++◌, map, refl, ap, sym, ◌∙◌, subst, arith}
use Rattle.std.specs.Prelude.{◌&&◌, nat_lt, filter}
use Rattle.std.specs.List.{AllByRecursion as Each}
use Rattle.std.proofs.lemmas.Bool.{cond_both}
use Rattle.ring_base.specs.Processors.{IsMember, everybody}
use Rattle.ring_base.specs.Members.{everybody_members}
use Rattle.ring_base.specs.declared.ring_id.RingId.{RingId}
use Rattle.ring_base.proofs.Each.{each-append, each-map}
use Rattle.ring_wire.specs.declared.message.Message.{Message}
use Rattle.ring_core_spec.specs.Commits.{Configuration}
use Rattle.ring_core_spec.specs.declared.input.Input.{Input}
use Rattle.ring_core_spec.specs.declared.out.Out.{Out}
use Rattle.ring_core_spec.specs.declared.out.Out.TheVariants.{Send as SendOut, Agreed, Safe, Trans, Rest, Regular}
use Rattle.ring_core_spec.specs.State.{Core, TransitionResult, formed_ring_of}
use Rattle.ring_core_spec.specs.Views.{front, mark}
use Rattle.ring_core_spec.specs.Giving.{may_install, sends_with_receivers, sent, user_messages_between, agreed_from, safe_from, agreed_and_safe_of_step, with_installation_if}
use Rattle.ring_core_spec.specs.Deciding.{Transition, Ignore, Enqueue, Repeat, Announce, Invite, GiveUp, EnterGather, Agree, MergeJoin}
use Rattle.ring_core_spec.specs.Deciding.{EnterGatherAndAgree, EnterGatherAndMergeJoin, Take, Visit, Fill, Learn, decide}
use Rattle.ring_core_spec.specs.Transitions.{apply_transition, may_propose_after, with_proposal_if, transition_and_proposal}
use Rattle.ring_core_spec.specs.Joining.{proposes}
use Rattle.ring_core_spec.specs.Stepping.{ring_step}
use Rattle.ring_core_proof.specs.FactWords.{IsIn}
use Rattle.ring_core_proof.specs.declared.event.RingEvent.{RingEvent}
use Rattle.ring_core_proof.specs.Worlds.{World, world_after_event, run, ring_formed, has_effect_on_formed, run_formed}
use Rattle.ring_core_proof.proofs.InLists.{each-in}
use Rattle.ring_chain_proof.specs.ChainWords.{IsSafe}
use Rattle.ring_chain_proof.specs.ChainFacts.{IsSafeOutput, AllHold, AllHoldMarks, IsOfFormed, AllIsOfFormed}
use Rattle.ring_chain_proof.proofs.Formed.{IsFormedWorld, all_act, start_formed, event_formed, formed_worlds}
use Rattle.ring_chain_proof.proofs.ChainInRuns.{formed_marks}
use Rattle.ring_chain_proof.proofs.SafeOutputs.{gives, formed_told}

-- Rings

pub formed_rings : {A : Type 0} → (n q : ℕ) (events : List (RingEvent A)) → ((run_formed n events).cores q).rings ≡ formed_ring_of n ∷ []
formed_rings n q events = ((formed_worlds n events).cores q).rings

-- Safety

-- all processors hold what is safe
all_hold : {A : Type 0} → (n : ℕ) (cores : ℕ → Core A) → ((q : ℕ) → (cores q).rings ≡ formed_ring_of n ∷ []) → (ring : RingId) (s : ℕ) → IsSafe cores ring s →
    AllHold n cores ring s
all_hold n cores rings ring s (inl none) q proc le = omega (arith, none)
all_hold n cores rings ring s (inr (members, known, safe)) q proc le =
    let p : Configuration = record { ring = ring; members = members } in
    let all : members ≡ everybody n = elim (subst (IsIn p) (rings ring.rep) known) [
      | inl e ↦ ap (λ (x : Configuration). x.members) e
      | inr none ↦ absurd none
    ] in
    safe q proc (subst (λ m. IsMember m q) (sym all) ((everybody_members n q).1 (proc.0, le)))

pub formed_all_hold : {A : Type 0} → (n : ℕ) (events : List (RingEvent A)) → 1 ≤ n → AllHoldMarks n (run_formed n events).cores
formed_all_hold n events some q ring =
    let cores = (run_formed n events).cores in
    all_hold n cores (λ p. formed_rings n p events) ring (mark (cores q) ring) (formed_marks n events some q ring)

-- Outputs

-- the outputs are of the ring that was installed as the step began, where the step installs none
abbrev IsNamedBy : {A : Type 0} → RingId → Out A → Type 0
IsNamedBy installed (Agreed ring n x) = ring ≡ installed
IsNamedBy installed (Safe ring upto) = ring ≡ installed
IsNamedBy installed (SendOut to frame) = Unit {0}
IsNamedBy installed (Trans old new set) = ⊥
IsNamedBy installed (Rest ring n x) = ⊥
IsNamedBy installed (Regular ring set) = ⊥

named_given : {A : Type 0} → (old new : Core A) → Each (IsNamedBy old.installed.ring) (agreed_and_safe_of_step old new)
named_given {A} old new =
    let r = old.installed.ring in
    each-append (IsNamedBy r) (agreed_from new r (front old r)) (safe_from new r (mark old r))
    (each-map (IsNamedBy r) (λ (x : Message A). Agreed r x.number x) (user_messages_between new r (front old r) (front new r)) (each-in _ _ (λ x k. refl)))
    (cond_both (nat_lt (mark old r) (mark new r)) (Safe r (mark new r) ∷ []) [] (Each (IsNamedBy r)) (λ e. (refl, tt)) (λ e. tt))

acted_installs : {A : Type 0} → (c : Core A) (a : Transition A) → (apply_transition c a).core.installs ≡ c.installs
acted_installs c Ignore = refl
acted_installs c (Enqueue payload) = refl
acted_installs c Repeat = refl
acted_installs c Announce = refl
acted_installs c Invite = refl
acted_installs c GiveUp = refl
acted_installs c EnterGather = refl
acted_installs c (Agree j) = refl
acted_installs c (MergeJoin j) = refl
acted_installs c (EnterGatherAndAgree j) = refl
acted_installs c (EnterGatherAndMergeJoin j) = refl
acted_installs c (Take x) = refl
acted_installs c (Visit t) = refl
acted_installs c (Fill k) = refl
acted_installs c (Learn k) = refl

proposed_installs : {A : Type 0} → (b : Bool) (d : TransitionResult A) → (with_proposal_if b d).core.installs ≡ d.core.installs
proposed_installs false d = refl
proposed_installs true d = refl

named_settled : {A : Type 0} → (b : Bool) (ring : RingId) (installs : List Configuration) (d : Core A) (outs : List (Out A)) → Each (IsNamedBy ring) outs →
    d.installs ≡ installs →
    Each (IsNamedBy ring) (with_installation_if b d outs).outs ⊎ ((with_installation_if b d outs).core.installs ≡ (with_installation_if b d outs).core.installed ∷ installs)
named_settled false ring installs d outs h e = inl h
named_settled true ring installs d outs h e = inr (ap (λ xs. d.running ∷ xs) e)

step_named : {A : Type 0} → (c : Core A) (input : Input A) →
    Each (IsNamedBy c.installed.ring) (ring_step c input).outs ⊎ ((ring_step c input).core.installs ≡ (ring_step c input).core.installed ∷ c.installs)
unfolding ring_step
step_named c input =
    let a = decide c input in
    let d = transition_and_proposal c a in
    let r = c.installed.ring in
    named_settled (may_install d.core) r c.installs d.core (sent d.sends ++ agreed_and_safe_of_step c d.core)
    (each-append (IsNamedBy r) (sent d.sends) (agreed_and_safe_of_step c d.core)
    (each-map (IsNamedBy r) (λ s. SendOut s.to s.frame) (sends_with_receivers d.sends) (each-in _ _ (λ x k. tt)))
    (named_given c d.core))
    (proposed_installs (may_propose_after a && proposes (apply_transition c a).core) (apply_transition c a) ∙ acted_installs c a)

-- Worlds

abbrev AllNamed : {A : Type 0} → ℕ → World A → Type 0
AllNamed {A} n w = Each (λ (o : ℕ × Out A). IsNamedBy (formed_ring_of n).ring o.1) w.outs

named_event : {A : Type 0} → (n : ℕ) (w : World A) (e : RingEvent A) → IsFormedWorld n w → IsFormedWorld n (world_after_event w e) → AllNamed n w →
    AllNamed n (world_after_event w e)
named_event {A} n w e f g h =
    let Named : ℕ × Out A → Type 0 = λ o. IsNamedBy (formed_ring_of n).ring o.1 in
    elim (gives w e) [
      | inl same ↦ subst (Each Named) (sym same) h
      | inr s ↦ (let c = w.cores s.i in
          let step = ring_step c s.input in
          let ring : c.installed.ring ≡ (formed_ring_of n).ring = ap (λ (p : Configuration). p.ring) (f.cores s.i).installed in
          let new : Each (IsNamedBy (formed_ring_of n).ring) step.outs = elim (step_named c s.input) [
            | inl named ↦ subst (λ r. Each (IsNamedBy r) step.outs) ring named
            | inr grown ↦ absurd (
                let after : step.core.installs ≡ formed_ring_of n ∷ [] = ap (λ (d : Core A). d.installs) (sym s.core) ∙ (g.cores s.i).installs in
                let both : formed_ring_of n ∷ [] ≡ step.core.installed ∷ formed_ring_of n ∷ [] =
                sym after ∙ grown ∙ ap (λ xs. step.core.installed ∷ xs) (f.cores s.i).installs in
                let none : ⊥ = cc in none)
          ] in
          subst (Each Named) (sym s.outs) (each-append Named w.outs (map (λ o. (s.i, o)) step.outs) h (each-map Named (λ o. (s.i, o)) step.outs new)))
    ]

named_run : {A : Type 0} → (n : ℕ) (w : World A) (events : List (RingEvent A)) → Each (λ (e : RingEvent A). has_effect_on_formed e ≡ true) events →
    IsFormedWorld n w →
    AllNamed n w → AllNamed n (run w events)
named_run n w [] h f p = p
named_run n w (e ∷ events) h f p = (let g = event_formed n w f e h.0 in named_run n (world_after_event w e) events h.1 g (named_event n w e f g p))

of_formed : {A : Type 0} → (n : ℕ) (cores : ℕ → Core A) → ((q : ℕ) → (cores q).rings ≡ formed_ring_of n ∷ []) → (o : Out A) → IsNamedBy (formed_ring_of n).ring o →
    IsSafeOutput cores o → IsOfFormed n cores o
of_formed n cores rings (Agreed ring k x) named safe = named
of_formed n cores rings (Safe ring upto) named safe = (named, all_hold n cores rings ring upto safe)
of_formed n cores rings (SendOut to frame) named safe = tt
of_formed n cores rings (Trans old new set) named safe = named
of_formed n cores rings (Rest ring k x) named safe = named
of_formed n cores rings (Regular ring set) named safe = named

all_of_formed : {A : Type 0} → (n : ℕ) (cores : ℕ → Core A) → ((q : ℕ) → (cores q).rings ≡ formed_ring_of n ∷ []) → (outs : List (ℕ × Out A)) →
    Each (λ (o : ℕ × Out A). IsNamedBy (formed_ring_of n).ring o.1) outs → Each (λ (o : ℕ × Out A). IsSafeOutput cores o.1) outs →
    Each (λ (o : ℕ × Out A). IsOfFormed n cores o.1) outs
all_of_formed n cores rings [] named safe = tt
all_of_formed n cores rings (o ∷ outs) named safe = (of_formed n cores rings o.1 named.0 safe.0, all_of_formed n cores rings outs named.1 safe.1)

pub formed_of_formed : {A : Type 0} → (n : ℕ) (events : List (RingEvent A)) → 1 ≤ n → AllIsOfFormed n (run_formed n events)
formed_of_formed n events some =
    let w = run_formed n events in
    let named = named_run n (ring_formed n) (filter has_effect_on_formed events) (all_act events) (start_formed n) tt in
    all_of_formed n w.cores (λ q. formed_rings n q events) w.outs named (formed_told n events some)
