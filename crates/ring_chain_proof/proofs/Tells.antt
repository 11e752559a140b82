-- The message of an output, `Agreed` or `Rest`, is the one held under its number.
use Rattle.std.proofs.Common.{◌≡◌, ℕ, ◌+◌, ◌-◌, ◌≤◌, inl, inr, Bool, true, false, ◌==◌, List, [], ◌∷◌, ◌++◌, map, Some, refl, ap, sym, ◌∙◌, subst}
use Rattle.std.specs.Prelude.{nat_lt, filter, filter_map}
use Rattle.std.specs.List.{AllByRecursion as Each}
use Rattle.std.proofs.lemmas.Bool.{cond_both, and_parts, and_from, eqb-true, eq-eqb}
use Rattle.ring_base.specs.Numbers.{numbers_from}
use Rattle.ring_base.specs.Rings.{same_ring}
use Rattle.ring_base.specs.declared.ring_id.RingId.{RingId}
use Rattle.ring_base.proofs.Each.{each-weaker, each-append, each-map, each-filter_map}
use Rattle.ring_payload.specs.PayloadKinds.{is_user}
use Rattle.ring_wire.specs.declared.message.Message.{Message}
use Rattle.ring_core_spec.specs.Windows.{is_numbered, found}
use Rattle.ring_base.proofs.SameRing.{ring_same, same-self}
use Rattle.ring_core_spec.specs.Recoveries.{transitional_part, past_gap_part, rest_messages}
use Rattle.ring_core_spec.specs.declared.input.Input.{Input}
use Rattle.ring_core_spec.specs.declared.out.Out.{Out}
use Rattle.ring_core_spec.specs.declared.out.Out.TheVariants.{Send as SendOut, Agreed, Safe, Trans, Rest, Regular}
use Rattle.ring_core_spec.specs.State.{Core, OutgoingFrame}
use Rattle.ring_core_spec.specs.Views.{front, mark, plan}
use Rattle.ring_core_spec.specs.Giving.{may_install, sends_with_receivers, sent, user_messages_between, agreed_from, safe_from, delivered_from, agreed_and_safe_of_step, installation_outputs, with_installation_if}
use Rattle.ring_core_spec.specs.Deciding.{decide}
use Rattle.ring_core_spec.specs.Transitions.{transition_and_proposal}
use Rattle.ring_core_spec.specs.Stepping.{ring_step}
use Rattle.ring_core_proof.specs.FactWords.{IsIn}
use Rattle.ring_core_proof.specs.declared.event.RingEvent.{RingEvent}
use Rattle.ring_core_proof.specs.Worlds.{World, world_after_event, run, unformed, ring_formed, has_effect_on_formed, run_formed}
use Rattle.ring_core_proof.specs.Moves.{core_after_move}
use Rattle.ring_core_proof.proofs.InLists.{in-each, each-in, find-in, find-some}
use Rattle.ring_core_proof.proofs.Lifting.{kept_run}
use Rattle.ring_core_proof.proofs.OwnMessages.{held_stays}
use Rattle.ring_chain_proof.specs.ChainWords.{IsGenuine}
use Rattle.ring_chain_proof.specs.ChainFacts.{IsHeldUser, IsOutputHeld, OutputsAreHeld}
use Rattle.ring_chain_proof.proofs.FactsGrow.{put-each}
use Rattle.ring_chain_proof.proofs.OneText.{one_text}
use Rattle.ring_chain_proof.proofs.AllLayers.{Holds, unformed_holds}
use Rattle.ring_chain_proof.proofs.ChainInRuns.{formed_runs}
use Rattle.ring_chain_proof.proofs.SafeOutputs.{gives}

-- One step

-- a message of this ring and number is held, and is a user's
record IsTold {A : Type 0} (held : List (Message A)) (ring : RingId) (n : ℕ) (x : Message A) : Type 0 where
  pub held_there : IsIn x held
  pub ring_is : x.ring ≡ ring
  pub number_is : x.number ≡ n
  pub user : is_user x.payload ≡ true

abbrev IsToldFrom : {A : Type 0} → List (Message A) → Out A → Type 0
IsToldFrom held (Agreed ring n x) = IsTold held ring n x
IsToldFrom held (Rest ring n x) = IsTold held ring n x
IsToldFrom held (SendOut to frame) = Unit {0}
IsToldFrom held (Safe ring upto) = Unit {0}
IsToldFrom held (Trans old new set) = Unit {0}
IsToldFrom held (Regular ring set) = Unit {0}

-- the messages found under these numbers
abbrev IsFoundOf : {A : Type 0} → List (Message A) → RingId → Message A → Type 0
IsFoundOf held ring x = IsIn x held × (x.ring ≡ ring)

found_of : {A : Type 0} → (held : List (Message A)) (ring : RingId) (numbers : List ℕ) →
    Each (λ (x : Message A). IsFoundOf held ring x) (filter_map (found held ring) numbers)
found_of {A} held ring numbers =
    each-filter_map (λ n. Unit {0}) (λ (x : Message A). IsFoundOf held ring x) (found held ring)
    (λ n x u e. (let f = find-in (is_numbered ring n) x held e in (f.0, ring_same x.ring ring (and_parts (same_ring x.ring ring) (x.number == n) f.1).0)))
    numbers (each-in (λ n. Unit {0}) numbers (λ n i. tt))

users_told : {A : Type 0} → (held : List (Message A)) (ring : RingId) (xs : List (Message A)) → Each (λ (x : Message A). IsFoundOf held ring x) xs →
    Each (λ (x : Message A). IsTold held ring x.number x) (filter (λ (x : Message A). is_user x.payload) xs)
users_told held ring [] h = tt
users_told {A} held ring (x ∷ xs) h =
    let rest = filter (λ (x : Message A). is_user x.payload) xs in
    let ih = users_told held ring xs h.1 in
    cond_both (is_user x.payload) (x ∷ rest) rest (Each (λ (x : Message A). IsTold held ring x.number x))
    (λ e. (record { held_there = (h.0).0; ring_is = (h.0).1; number_is = refl; user = e }, ih)) (λ e. ih)

told_delivered : {A : Type 0} → (c : Core A) (ring : RingId) (f m : ℕ) → Each (IsToldFrom c.held) (delivered_from c ring f m)
told_delivered {A} c ring f m =
    let numbers = numbers_from (f + 1) (front c ring - f) in
    let told = users_told c.held ring (filter_map (found c.held ring) numbers) (found_of c.held ring numbers) in
    each-append (IsToldFrom c.held) (agreed_from c ring f) (safe_from c ring m)
    (each-map (IsToldFrom c.held) (λ (x : Message A). Agreed ring x.number x) (user_messages_between c ring f (front c ring)) told)
    (cond_both (nat_lt m (mark c ring)) (Safe ring (mark c ring) ∷ []) [] (Each (IsToldFrom c.held)) (λ e. (tt, tt)) (λ e. tt))

told_sent : {A : Type 0} → (held : List (Message A)) (sends : List (OutgoingFrame A)) → Each (IsToldFrom held) (sent sends)
told_sent held sends = each-map (IsToldFrom held) (λ s. SendOut s.to s.frame) (sends_with_receivers sends) (each-in _ _ (λ x k. tt))

rest_told : {A : Type 0} → (held : List (Message A)) (ring : RingId) (xs : List (Message A)) → Each (λ (x : Message A). IsTold held ring x.number x) xs →
    Each (λ (x : Message A). IsTold held x.ring x.number x) xs
rest_told held ring xs h =
    each-weaker _ _ (λ (x : Message _) t. record { held_there = t.held_there; ring_is = refl; number_is = refl; user = t.user }) xs h

told_configured : {A : Type 0} → (c : Core A) → Each (IsToldFrom c.held) (installation_outputs c)
told_configured {A} c = let numbers = transitional_part (plan c) ++ past_gap_part (plan c) c.held in (
  tt,
  each-append (IsToldFrom c.held) (map (λ (x : Message A). Rest x.ring x.number x) (rest_messages (plan c) c.held))
      (Regular c.running.ring c.running.members ∷ delivered_from c c.running.ring 0 0)
      (each-map (IsToldFrom c.held) (λ (x : Message A). Rest x.ring x.number x) (rest_messages (plan c) c.held)
      (rest_told c.held (plan c).old (rest_messages (plan c) c.held)
      (users_told c.held (plan c).old (filter_map (found c.held (plan c).old) numbers) (found_of c.held (plan c).old numbers))))
      (tt, told_delivered c c.running.ring 0 0),
)

told_settled : {A : Type 0} → (b : Bool) (c : Core A) (outs : List (Out A)) → Each (IsToldFrom c.held) outs →
    Each (IsToldFrom (with_installation_if b c outs).core.held) (with_installation_if b c outs).outs
told_settled false c outs h = h
told_settled true c outs h = each-append (IsToldFrom c.held) outs (installation_outputs c) h (told_configured c)

step_tells_held : {A : Type 0} → (c : Core A) (input : Input A) → Each (IsToldFrom (ring_step c input).core.held) (ring_step c input).outs
unfolding ring_step
step_tells_held c input =
    let d = transition_and_proposal c (decide c input) in
    told_settled (may_install d.core) d.core (sent d.sends ++ agreed_and_safe_of_step c d.core)
    (each-append (IsToldFrom d.core.held) (sent d.sends) (agreed_and_safe_of_step c d.core) (told_sent d.core.held d.sends)
    (told_delivered d.core c.installed.ring (front c c.installed.ring) (mark c c.installed.ring)))

-- Held messages stay held

abbrev AllKept : {A : Type 0} → (ℕ → Core A) → (ℕ → Core A) → Type 0
AllKept {A} old new = (q : ℕ) (x : Message A) → IsIn x (old q).held → IsIn x (new q).held

event_keeps : {A : Type 0} → (w : World A) (e : RingEvent A) → AllKept w.cores (world_after_event w e).cores
event_keeps {A} w e =
    kept_run (λ cores frames. AllKept w.cores cores)
    (record {
      moves = λ cores frames i m low h p.
          put-each (λ q (c : Core A). (x : Message A) → IsIn x (w.cores q).held → IsIn x c.held) cores i (core_after_move (cores i) m)
          (λ q n. p q) (λ x k. held_stays (cores i) m x (p i x k));
    })
    w (e ∷ []) (λ q x k. k)

-- All events

still_told : {A : Type 0} → (old new : List (Message A)) → ((x : Message A) → IsIn x old → IsIn x new) → (o : Out A) → IsToldFrom old o → IsToldFrom new o
still_told old new g (Agreed ring n x) h = record { held_there = g x h.held_there; ring_is = h.ring_is; number_is = h.number_is; user = h.user }
still_told old new g (Rest ring n x) h = record { held_there = g x h.held_there; ring_is = h.ring_is; number_is = h.number_is; user = h.user }
still_told old new g (SendOut to frame) h = tt
still_told old new g (Safe ring upto) h = tt
still_told old new g (Trans o n set) h = tt
still_told old new g (Regular ring set) h = tt

abbrev AllTold : {A : Type 0} → World A → Type 0
AllTold {A} w = Each (λ (o : ℕ × Out A). IsToldFrom (w.cores o.0).held o.1) w.outs

told_event : {A : Type 0} → (w : World A) (e : RingEvent A) → AllTold w → AllTold (world_after_event w e)
told_event {A} w e h =
    let v = world_after_event w e in
    let Told : ℕ × Out A → Type 0 = λ o. IsToldFrom (v.cores o.0).held o.1 in
    let old : Each Told w.outs =
    each-weaker (λ (o : ℕ × Out A). IsToldFrom (w.cores o.0).held o.1) Told
    (λ (o : ℕ × Out A) k. still_told (w.cores o.0).held (v.cores o.0).held (event_keeps w e o.0) o.1 k) w.outs h in
    elim (gives w e) [
      | inl same ↦ subst (Each Told) (sym same) old
      | inr s ↦ (let step = ring_step (w.cores s.i) s.input in
          let new : Each (IsToldFrom (v.cores s.i).held) step.outs =
          subst (λ (c : Core A). Each (IsToldFrom c.held) step.outs) (sym s.core) (step_tells_held (w.cores s.i) s.input) in
          subst (Each Told) (sym s.outs) (each-append Told w.outs (map (λ o. (s.i, o)) step.outs) old (each-map Told (λ o. (s.i, o)) step.outs new)))
    ]

told_run : {A : Type 0} → (w : World A) (events : List (RingEvent A)) → AllTold w → AllTold (run w events)
told_run w [] h = h
told_run w (e ∷ events) h = told_run (world_after_event w e) events (told_event w e h)

-- Found messages

-- a message held of a ring and number is the one found there
held_found : {A : Type 0} → (w : World A) → Holds w.cores w.frames → (q : ℕ) (x : Message A) → IsIn x (w.cores q).held →
    found (w.cores q).held x.ring x.number ≡ Some x
held_found {A} w p q x there =
    let held = (w.cores q).held in
    let mine : is_numbered x.ring x.number x ≡ true =
    and_from (same_ring x.ring x.ring) (x.number == x.number) (same-self x.ring) (eq-eqb x.number x.number refl) in
    let f = find-some (is_numbered x.ring x.number) x held there mine in
    let y = f.0 in
    let g = find-in (is_numbered x.ring x.number) y held f.1 in
    let k = and_parts (same_ring y.ring x.ring) (y.number == x.number) g.1 in
    let genuine : (z : Message A) → IsIn z held → IsGenuine p.visits z = λ z i. in-each (IsGenuine p.visits) z held (p.texts.held q) i in
    let same : y ≡ x =
    one_text p.visits w.cores p.chains y x (genuine y g.0) (genuine x there) (ring_same y.ring x.ring k.0) (eqb-true y.number x.number k.1) in
    f.1 ∙ ap Some same

held_user : {A : Type 0} → (w : World A) → Holds w.cores w.frames → (q : ℕ) (ring : RingId) (n : ℕ) (x : Message A) → IsTold (w.cores q).held ring n x →
    IsHeldUser (w.cores q).held ring n x
held_user w p q ring n x h =
    let held = (w.cores q).held in
    let here : found held x.ring n ≡ Some x = subst (λ k. found held x.ring k ≡ Some x) h.number_is (held_found w p q x h.held_there) in
    record { held_there = subst (λ r. found held r n ≡ Some x) h.ring_is here; user = h.user }

held_as_told : {A : Type 0} → (w : World A) → Holds w.cores w.frames → (q : ℕ) (o : Out A) → IsToldFrom (w.cores q).held o → IsOutputHeld (w.cores q) o
held_as_told w p q (Agreed ring n x) h = held_user w p q ring n x h
held_as_told w p q (Rest ring n x) h = held_user w p q ring n x h
held_as_told w p q (SendOut to frame) h = tt
held_as_told w p q (Safe ring upto) h = tt
held_as_told w p q (Trans old new set) h = tt
held_as_told w p q (Regular ring set) h = tt

told_is_held : {A : Type 0} → (w : World A) → Holds w.cores w.frames → AllTold w → OutputsAreHeld w
told_is_held {A} w p h =
    each-weaker (λ (o : ℕ × Out A). IsToldFrom (w.cores o.0).held o.1) (λ (o : ℕ × Out A). IsOutputHeld (w.cores o.0) o.1)
    (λ (o : ℕ × Out A) k. held_as_told w p o.0 o.1 k) w.outs h

pub unformed_held : {A : Type 0} → (n : ℕ) (events : List (RingEvent A)) → OutputsAreHeld (run (unformed n) events)
unformed_held n events = told_is_held (run (unformed n) events) (unformed_holds n events) (told_run (unformed n) events tt)

pub formed_held : {A : Type 0} → (n : ℕ) (events : List (RingEvent A)) → 1 ≤ n → OutputsAreHeld (run_formed n events)
formed_held n events some = told_is_held (run_formed n events) (formed_runs n some events) (told_run (ring_formed n) (filter has_effect_on_formed events) tt)
