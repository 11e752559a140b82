-- The life of each node, without what was handed over, consists of its core's facts about each ring that it installed.
use Rattle.std.proofs.Common.{◌≡◌, ℕ, true, inl, inr, List, [], ◌∷◌, map, refl, ap, sym, ◌∙◌, subst}
use Rattle.std.proofs.lemmas.Bool.{and_parts}
use Rattle.ring_base.specs.Group.{Group}
use Rattle.ring_core_spec.specs.Commits.{Configuration}
use Rattle.ring_core_spec.specs.declared.out.Out.{Out}
use Rattle.ring_core_spec.specs.declared.out.Out.TheVariants.{Send as SendOut, Agreed, Safe, Trans, Rest, Regular}
use Rattle.ring_core_spec.specs.State.{Core}
use Rattle.ring_core_spec.specs.Views.{front, mark}
use Rattle.ring_core_spec.specs.Giving.{user_messages_between}
use Rattle.ring_core_proof.specs.FactWords.{IsIn}
use Rattle.ring_core_proof.specs.Worlds.{World as RingWorld}
use Rattle.ring_core_proof.specs.Lives.{Stage, InRegular, InTransitional, Life, life_after_output, life_after, is_output_in_stage, are_outputs_in_stages, outs_of, life_opening}
use Rattle.ring_core_proof.specs.Lives.{life_of, has_ordered_outputs}
use Rattle.ring_synchrony_proof.specs.LifeOfCore.{core_life, regular_stage, earlier_stages}
use Rattle.ring_synchrony_proof.proofs.Ordered.{Ordered}
use Rattle.ring_synchrony_proof.proofs.LifeAfterStep.{tale_is}
use Rattle.ring_synchrony_proof.proofs.LivesOfWorlds.{lives_are, all_well_told}
use Rattle.ring_log.specs.Epochs.{Epoch}
use Rattle.ring_node_spec.specs.EpochHistories.{epochs_after_event as node_lived, epochs_after}
use Rattle.ring_log_proof.specs.RingFacts.{HasEpoch}
use Rattle.ring_node_spec.specs.Worlds.{World}
use Rattle.ring_order_proof.proofs.DisciplinedSteps.{rings_of, installed_rings}
use Rattle.ring_order_proof.specs.Projection.{ring_part, epoch_as_received, epochs_as_received, IsRingRun}

-- a core's facts about a ring
abbrev pub stay_told : {A : Type 0} → Core A → Configuration → Epoch A
stay_told c at = record {
  ring = at.ring;
  members = at.members;
  heard = user_messages_between c at.ring 0 (front c at.ring);
  mark = mark c at.ring;
  sent = [];
  trimmed = 0;
  front = [];
}

-- the regular configurations of a life as epochs
abbrev pub stays_in : {A : Type 0} → List (Stage A) → List (Epoch A)
stays_in [] = []
stays_in (InRegular at agreed safe ∷ older) =
    record { ring = at.ring; members = at.members; heard = agreed; mark = safe; sent = []; trimmed = 0; front = [] } ∷ stays_in older
stays_in (InTransitional old new members rest ∷ older) = stays_in older

abbrev pub stays_of_life : {A : Type 0} → Life A → List (Epoch A)
stays_of_life l = stays_in (l.newest ∷ l.earlier)

lived_stays : {A : Type 0} → (newest : Stage A) (earlier : List (Stage A)) (o : Out A) → is_output_in_stage o newest ≡ true →
    stays_of_life (life_after_output (record { newest = newest; earlier = earlier }) o) ≡ node_lived (stays_in (newest ∷ earlier)) o
lived_stays newest earlier (SendOut to frame) b = refl
lived_stays (InRegular at agreed safe) earlier (Agreed ring n x) b = refl
lived_stays (InTransitional old new members rest) earlier (Agreed ring n x) b = absurd cc
lived_stays (InRegular at agreed safe) earlier (Safe ring upto) b = refl
lived_stays (InTransitional old new members rest) earlier (Safe ring upto) b = absurd cc
lived_stays newest earlier (Trans old new set) b = refl
lived_stays (InRegular at agreed safe) earlier (Rest ring n x) b = refl
lived_stays (InTransitional old new members rest) earlier (Rest ring n x) b = refl
lived_stays newest earlier (Regular ring set) b = refl

through_stays : {A : Type 0} → (l : Life A) (outs : List (Out A)) → are_outputs_in_stages l outs ≡ true →
    stays_of_life (life_after l outs) ≡ epochs_after (stays_of_life l) outs
through_stays l [] b = refl
through_stays {A} l (o ∷ outs) b =
    let p = and_parts (is_output_in_stage o l.newest) (are_outputs_in_stages (life_after_output l o) outs) b in
    through_stays (life_after_output l o) outs p.1 ∙ ap (λ (epochs : List (Epoch A)). epochs_after epochs outs) (lived_stays l.newest l.earlier o p.0)

tale_stays : {A : Type 0} → (c : Core A) (at : Configuration) (older : List Configuration) →
    stays_in (regular_stage c at ∷ earlier_stages c at older) ≡ map (stay_told c) (at ∷ older)
tale_stays c at [] = refl
tale_stays {A} c at (old ∷ older) = ap (λ (epochs : List (Epoch A)). stay_told c at ∷ epochs) (tale_stays c old older)

pub installs_told : {A : Type 0} → (c : Core A) → Ordered c → stays_of_life (core_life c) ≡ map (stay_told c) c.installs
installs_told {A} c o =
    ap stays_of_life (tale_is c o) ∙ tale_stays c c.installed o.older ∙ ap (λ (xs : List Configuration). map (stay_told c) xs) (sym o.newest)

-- in every world of nodes
pub life_told : {A : Type 0} → (group : Group) (w : World A) → (r : IsRingRun group w) → (i : ℕ) → Ordered (w.nodes i).core →
    epochs_as_received (w.nodes i).epochs ≡ map (stay_told (w.nodes i).core) (w.nodes i).core.installs
life_told {A} group w r i o =
    let part = ring_part w r.outs in
    let node_epochs : life_of part i ≡ core_life (w.nodes i).core =
    subst (λ (x : RingWorld A). life_of x i ≡ core_life (x.cores i)) r.part (lives_are group.count r.events i) in
    let told : has_ordered_outputs part i ≡ true = subst (λ (x : RingWorld A). has_ordered_outputs x i ≡ true) r.part (all_well_told group.count r.events i) in
    r.node_epochs i ∙ sym (through_stays (life_opening i) (outs_of part i) told) ∙ ap stays_of_life node_epochs ∙ installs_told (w.nodes i).core o

-- the rings of a life are those installed
rings_are : {A : Type 0} → (c : Core A) (epochs : List (Epoch A)) (installs : List Configuration) → epochs_as_received epochs ≡ map (stay_told c) installs →
    rings_of epochs ≡ installed_rings installs
rings_are c [] [] e = refl
rings_are c [] (x ∷ installs) e = absurd (cc e)
rings_are c (s ∷ epochs) [] e = absurd (cc e)
rings_are {A} c (s ∷ epochs) (x ∷ installs) e =
    let first : epoch_as_received s ≡ stay_told c x = cc e in
    let rest : epochs_as_received epochs ≡ map (stay_told c) installs = cc e in
    let same : s.ring ≡ x.ring = ap (λ (t : Epoch A). t.ring) first in
    cc (same, rings_are c epochs installs rest)

pub rings_told : {A : Type 0} → (group : Group) (w : World A) → IsRingRun group w → (i : ℕ) → Ordered (w.nodes i).core →
    rings_of (w.nodes i).epochs ≡ installed_rings (w.nodes i).core.installs
rings_told group w r i o = rings_are (w.nodes i).core (w.nodes i).epochs (w.nodes i).core.installs (life_told group w r i o)

-- An epoch by these facts, and conversely

pub record IsToldOf {A : Type 0} (c : Core A) (s : Epoch A) : Type 0 where
  pub at : Configuration
  pub there : IsIn at c.installs
  pub is : epoch_as_received s ≡ stay_told c at

pub told_of : {A : Type 0} → (c : Core A) (epochs : List (Epoch A)) (installs : List Configuration) → ((x : Configuration) → IsIn x installs → IsIn x c.installs) →
    epochs_as_received epochs ≡ map (stay_told c) installs → (s : Epoch A) (older : List (Epoch A)) → HasEpoch epochs s older → IsToldOf c s
told_of c [] installs f e s older i = absurd i
told_of c (t ∷ epochs) [] f e s older i = absurd (cc e)
told_of {A} c (t ∷ epochs) (x ∷ installs) f e s older (inl same) =
    let first : epoch_as_received t ≡ stay_told c x = cc e in
    record { at = x; there = f x (inl refl); is = ap epoch_as_received (sym same.0) ∙ first }
told_of {A} c (t ∷ epochs) (x ∷ installs) f e s older (inr i) =
    let rest : epochs_as_received epochs ≡ map (stay_told c) installs = cc e in
    told_of c epochs installs (λ y j. f y (inr j)) rest s older i

pub record HasStayOf {A : Type 0} (c : Core A) (epochs : List (Epoch A)) (at : Configuration) : Type 0 where
  pub epoch : Epoch A
  pub older : List (Epoch A)
  pub there : HasEpoch epochs epoch older
  pub is : epoch_as_received epoch ≡ stay_told c at

pub stay_for : {A : Type 0} → (c : Core A) (epochs : List (Epoch A)) (installs : List Configuration) → epochs_as_received epochs ≡ map (stay_told c) installs →
    (at : Configuration) → IsIn at installs → HasStayOf c epochs at
stay_for c [] [] e at i = absurd i
stay_for c [] (x ∷ installs) e at i = absurd (cc e)
stay_for c (t ∷ epochs) [] e at i = absurd i
stay_for {A} c (t ∷ epochs) (x ∷ installs) e at (inl same) =
    let first : epoch_as_received t ≡ stay_told c x = cc e in
    record { epoch = t; older = epochs; there = inl (refl, refl); is = first ∙ ap (stay_told c) (sym same) }
stay_for {A} c (t ∷ epochs) (x ∷ installs) e at (inr i) =
    let rest : epochs_as_received epochs ≡ map (stay_told c) installs = cc e in
    let r = stay_for c epochs installs rest at i in
    record { epoch = r.epoch; older = r.older; there = inr r.there; is = r.is }
