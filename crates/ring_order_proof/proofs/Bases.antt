-- No base lacks committed places. This holds of the lives between a step of a core and what its node hands over, which are
-- consistent too.
use Rattle.std.proofs.Common.{◌≡◌, ℕ, ◌≤◌, ◌==◌, true, List, [], Option, Some, None, inl, inr, refl, ap, sym, ◌∙◌, subst}
use Rattle.std.proofs.lemmas.Bool.{cond_both, cond-true, eq-eqb}
use Rattle.ring_base.specs.Group.{Group, is_primary}
use Rattle.ring_base.specs.declared.ring_id.RingId.{RingId}
use Rattle.ring_object.specs.Operations.{Sequential}
use Rattle.ring_wire.specs.declared.message.Message.{Message}
use Rattle.ring_core_spec.specs.declared.input.Input.{Input}
use Rattle.ring_core_spec.specs.Stepping.{ring_step}
use Rattle.ring_log.specs.Epochs.{Epoch}
use Rattle.ring_log.specs.KnownLog.{KnownLog, known_log_of, keeps_kept}
use Rattle.ring_log.specs.EpochHistories.{CompleteExchange, messages_upto, complete_exchange, ring_log_by, ring_log, epochs_with_snapshots, fronts_below}
use Rattle.ring_node_spec.specs.EpochHistories.{epochs_after}
use Rattle.ring_node_spec.specs.Nodes.{Node}
use Rattle.ring_node_spec.specs.declared.event.Event.{Event}
use Rattle.ring_node_spec.specs.Worlds.{World, world_opening, is_node, run}
use Rattle.ring_log_proof.specs.RingFacts.{HasEpoch}
use Rattle.ring_log_proof.proofs.Moment.{safe-stays, keeps-all, keeps-known}
use Rattle.ring_log_proof.proofs.Prefixes.{fill}
use Rattle.ring_log_proof.proofs.FilledEpochs.{filled-there, kept-filled}
use Rattle.ring_order_proof.specs.RunEpochs.{epochs_in, whole_epochs_in}
use Rattle.ring_order_proof.proofs.DisciplinedWorlds.{lives_keep, tops}
use Rattle.ring_order_proof.specs.RunFacts.{HasFacts}
use Rattle.ring_order_proof.specs.MidStep.{MayCome, stepped_node, world_after_core_step}
use Rattle.ring_order_proof.proofs.RunFacts.{all_facts}
use Rattle.ring_order_proof.proofs.Between.{between_facts, between_rules}
use Rattle.ring_order_proof.specs.Linear.{SafeLogPersists, ReachedLogPersists, BasesKeepCommitted}

-- a ring in which nothing was received has no log
empty-log : {A : Type 0} (group : Group) (node_epochs : ℕ → List (Epoch A)) (ring : RingId) (members : ℕ) → ring_log group node_epochs ring members [] ≡ None
empty-log {A} group node_epochs ring members =
    let none : complete_exchange group members [] ≡ None = cond_both (is_primary group members) None None (λ (o : Option (CompleteExchange A)). o ≡ None) (λ t. refl)
    (λ f. refl) in
    ap (ring_log_by group node_epochs ring) none

module _ {O A : Type 0} (object : Sequential O) (group : Group) (few : group.count ≤ 16) (events : List (Event A)) where
  abbrev w : World A
  w = run object (world_opening group) events

  pub stays : (f : HasFacts w) × SafeLogPersists group (whole_epochs_in w) f.members f.text × ReachedLogPersists group w f.members f.text
  stays =
      let f = all_facts object group events few in
      let disc = lives_keep object group events in
      let hard = safe-stays group (whole_epochs_in w) f.members f.text f.facts disc in
      let all : SafeLogPersists group (whole_epochs_in w) f.members f.text =
      λ c e xs ys log whole below safe is front exch. hard c e xs ys log whole below safe is front exch in (
        f,
        all,
        λ c e n ys log whole below safe is front exch. elim (f.reached c n safe) [
          | inl none ↦
              let nothing : None ≡ Some log =
              sym (empty-log group (whole_epochs_in w) c (f.members c))
              ∙ ap (λ (xs : List (Message A)). ring_log group (whole_epochs_in w) c (f.members c) xs) (sym none) ∙ is in
              absurd (cc nothing)
          | inr heard ↦ all c e (messages_upto n (f.text c)) ys log whole below heard is front exch
        ],
      )

  module _ (i : ℕ) (input : Input A) (node : is_node w i ≡ true) (may : MayCome w i input) where
    abbrev after : World A
    after = world_after_core_step w i input

    epochs-is : epochs_in after i ≡ epochs_after (w.nodes i).epochs (ring_step (w.nodes i).core input).outs
    epochs-is =
        cond-true (is_node after i) (after.nodes i).epochs [] node
        ∙ ap (λ (m : Node A). m.epochs) (cond-true (i == i) (stepped_node (w.nodes i) input) (w.nodes i) (eq-eqb i i refl))

    -- by the whole lives
    pub never : BasesKeepCommitted group (whole_epochs_in after i)
    never s older there =
        let f = between_facts object group events i input few node may in
        keeps-all group (whole_epochs_in after) f.members f.text f.facts (between_rules object group events i input few node may) i s older there

    -- by the known logs
    pub never_found : (s : Epoch A) (older : List (Epoch A)) → HasEpoch (stepped_node (w.nodes i) input).epochs s older
        → keeps_kept (known_log_of group older) s.ring (complete_exchange group s.members s.heard) ≡ true
    never_found s older there =
        let f = between_facts object group events i input few node may in
        let fronts = fronts_below after.group (epochs_in after) (tops after i) in
        let own : HasEpoch (epochs_in after i) s older = subst (λ (l : List (Epoch A)). HasEpoch l s older) (sym epochs-is) there in
        subst (λ (k : KnownLog A). keeps_kept k s.ring (complete_exchange group s.members s.heard) ≡ true) (kept-filled fronts i group older)
        (keeps-known group (whole_epochs_in after) f.members f.text f.facts (between_rules object group events i input few node may) i (fill fronts i s)
        (epochs_with_snapshots fronts i older) (filled-there fronts i (epochs_in after i) s older own))
