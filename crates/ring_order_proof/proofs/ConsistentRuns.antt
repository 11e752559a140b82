-- The lives of every run of at most 16 nodes are consistent: they have the facts of ring cores, and the nodes keep their
-- discipline; and they are extended.
use Rattle.std.proofs.Common.{◌≡◌, ℕ, ◌≤◌, List, [], ◌∷◌, ◌++◌, refl, sym, ◌∙◌, subst}
use Rattle.ring_base.specs.Group.{Group}
use Rattle.ring_base.specs.declared.ring_id.RingId.{RingId}
use Rattle.ring_object.specs.Operations.{Sequential}
use Rattle.ring_wire.specs.declared.message.Message.{Message}
use Rattle.ring_node_spec.specs.declared.event.Event.{Event}
use Rattle.ring_node_spec.specs.Worlds.{World, world_opening, world_after_event, run}
use Rattle.ring_log_proof.specs.RingFacts.{RingFacts}
use Rattle.ring_log_proof.specs.Discipline.{KeepsRules}
use Rattle.ring_log.specs.EpochHistories.{whole_epochs}
use Rattle.ring_log_proof.specs.EpochEvents.{IsEpochsExtended}
use Rattle.ring_log_proof.proofs.FilledEpochs.{filled-on}
use Rattle.ring_order_proof.specs.RunEpochs.{epochs_in, whole_epochs_in}
use Rattle.ring_order_proof.proofs.DisciplinedWorlds.{lives_keep, opened_on, run_on, own_keep, own_drop, own_on, kept_rise, below_above, tops}
use Rattle.ring_order_proof.proofs.RunFacts.{all_facts}

pub record IsOrderlyWorld {A : Type 0} (group : Group) (w : World A) : Type 0 where
  pub members : RingId → ℕ
  pub text : RingId → List (Message A)
  pub facts : RingFacts (whole_epochs_in w) members text
  pub discipline : KeepsRules group (whole_epochs_in w)

-- two lists of events, one after the other
pub run-append : {O A : Type 0} → (object : Sequential O) (w : World A) (xs ys : List (Event A))
    → run object w (xs ++ ys) ≡ run object (run object w xs) ys
run-append object w [] ys = refl
run-append object w (x ∷ xs) ys = run-append object (world_after_event object w x) xs ys

-- one more event
pub run-more : {O A : Type 0} → (object : Sequential O) (w : World A) (before : List (Event A)) (e : Event A)
    → run object w (before ++ e ∷ []) ≡ world_after_event object (run object w before) e
run-more object w before e = run-append object w before (e ∷ [])

module _ {O A : Type 0} (object : Sequential O) (group : Group) (few : group.count ≤ 16) where
  pub orderly : (events : List (Event A)) → IsOrderlyWorld group (run object (world_opening group) events)
  orderly events =
      let f = all_facts object group events few in
      record { members = f.members; text = f.text; facts = f.facts; discipline = lives_keep object group events }

  -- the world after one more event
  pub orderly-after : (events : List (Event A)) (e : Event A) → IsOrderlyWorld group (world_after_event object (run object (world_opening group) events) e)
  orderly-after events e = subst (λ (w : World A). IsOrderlyWorld group w) (run-more object (world_opening group) events e) (orderly (events ++ e ∷ []))

  -- as events happen, filled lives are extended
  pub lives_on : (before later : List (Event A)) (i : ℕ)
      → IsEpochsExtended (whole_epochs_in (run object (world_opening group) before) i) (whole_epochs_in (run object (run object (world_opening group) before) later) i)
  lives_on before later i =
      let w : World A = run object (world_opening group) before in
      let first = opened_on object group before in
      let more = run_on object group w (λ j. (first.nodes j).kept) later in
      let after : World A = run object w later in
      let f = all_facts object group before few in
      let rises = kept_rise group w (λ j. (first.nodes j).kept) in
      let rises' = kept_rise group after (λ j. (more.nodes j).kept) in
      let on = filled-on group (epochs_in w) (tops w) (λ p. below_above (epochs_in w p) (rises p)) f.members f.text f.own (own_keep object group before)
      (own_drop object group before) (epochs_in after) (own_on object group before later) rises' (tops after)
      (λ p. below_above (epochs_in after p) (rises' p)) i in
      let now : after.group ≡ group = more.group_is ∙ first.group_is in
      subst (λ g. IsEpochsExtended (whole_epochs_in w i) (whole_epochs g (epochs_in after) (tops after i) i)) (sym now)
      (subst (λ g. IsEpochsExtended (whole_epochs g (epochs_in w) (tops w i) i) (whole_epochs group (epochs_in after) (tops after i) i)) (sym first.group_is) on)
