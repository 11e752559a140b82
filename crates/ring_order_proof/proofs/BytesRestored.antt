-- In no run whose issued calls keep the limits does a node find that the bytes that it restores are no snapshot. Between a step
-- of its core and what it then hands over, its known log agrees with the whole log too.
use Rattle.std.proofs.Common.{◌≡◌, ℕ, ◌≤◌, ◌==◌, true, List, ap, sym, ◌∙◌, subst, arith, refl}
use Rattle.std.specs.List.{AllByRecursion as Each}
use Rattle.std.specs.Prelude.{nat_le}
use Rattle.std.proofs.lemmas.Bool.{cond_both, cond-true, eq-eqb, and_parts, leb-true}
use Rattle.ring_base.specs.Group.{Group}
use Rattle.ring_object.specs.Operations.{Sequential}
use Rattle.ring_core_spec.specs.declared.input.Input.{Input}
use Rattle.ring_core_spec.specs.Stepping.{ring_step}
use Rattle.ring_log.specs.KnownLog.{KnownLog, known_log_of}
use Rattle.ring_log.specs.EpochHistories.{log_of, committed_of}
use Rattle.ring_node_spec.specs.Nodes.{Node, node_known_log, is_restored}
use Rattle.ring_node_spec.specs.declared.event.Event.{Event}
use Rattle.ring_node_spec.specs.Worlds.{World, world_opening, is_node, run}
use Rattle.ring_order_proof.specs.MidStep.{MayCome, stepped_node, world_after_core_step}
use Rattle.ring_order_proof.specs.Linear.{IsEventCallWithinLimits}
use Rattle.ring_order_proof.specs.RunEpochs.{whole_epochs_in}
use Rattle.ring_order_proof.proofs.Between.{between_facts, between_rules}
use Rattle.ring_order_proof.proofs.SentTickets.{NodeKnows, through-known}
use Rattle.ring_order_proof.proofs.IssuedInWorlds.{IssuedIn, WorldKnows, opening-knows, run-knows}
use Rattle.ring_order_proof.proofs.IssuedLimits.{run-keeps}
use Rattle.ring_order_proof.proofs.KnownByNodes.{all-know}
use Rattle.ring_order_proof.proofs.KnownWhole.{Knows, restored-known}
use Rattle.ring_order_proof.proofs.ConsistentRuns.{IsOrderlyWorld}
use Rattle.ring_order_proof.proofs.SentPieces.{HandsOwn, all_hand_own, stepped-own}
use Rattle.ring_order_proof.proofs.RestoredTables.{ComesBack}

module _ {O A : Type 0} (object : Sequential O) (group : Group) (few : group.count ≤ 16) (events : List (Event A)) (i : ℕ) (input : Input A) where
  abbrev pub w : World A
  w = run object (world_opening group) events

  abbrev pub after : World A
  after = world_after_core_step w i input

  -- replacing one node's value
  put-nodes : (P : Node A → Type 0) → ((j : ℕ) → P (w.nodes j)) → P (stepped_node (w.nodes i) input) → (j : ℕ) → P (after.nodes j)
  put-nodes P all new j = cond_both (j == i) (stepped_node (w.nodes i) input) (w.nodes j) P (λ t. new) (λ f. all j)

  known-world_after_core_step : WorldKnows group after
  known-world_after_core_step =
      let k = run-knows object group (world_opening group) events (opening-knows group) in
      record {
        here = k.here;
        groups = put-nodes (λ m. m.group ≡ group) k.groups (k.groups i);
        knows = put-nodes (NodeKnows (IssuedIn w.history)) k.knows (record {
          tickets = (k.knows i).tickets;
          sent = through-known (IssuedIn w.history) (w.nodes i).epochs (ring_step (w.nodes i).core input).outs (k.knows i).sent;
        });
      }

  module _ (node : is_node w i ≡ true) (may : MayCome w i input) where
    pub orderly-world_after_core_step : IsOrderlyWorld group after
    orderly-world_after_core_step =
        let f = between_facts object group events i input few node may in
        record { members = f.members; text = f.text; facts = f.facts; discipline = between_rules object group events i input few node may }

    -- the node's known log there
    abbrev pub known_there : KnownLog A
    known_there = known_log_of group (stepped_node (w.nodes i) input).epochs

    pub knows-world_after_core_step : ComesBack object A → Each IsEventCallWithinLimits events →
        Knows object known_there (log_of group (whole_epochs_in after i)) (committed_of group (whole_epochs_in after i))
    knows-world_after_core_step back limits =
        let own : (j : ℕ) → HandsOwn object (w.nodes j) = all_hand_own object group events in
        let epochs_with_sends = put-nodes (HandsOwn object) own (stepped-own object (w.nodes i) input (own i)) in
        let bounds = and_parts (nat_le 1 i) (nat_le i w.group.count) node in
        let inside = leb-true i w.group.count bounds.1 in
        let high : i ≤ group.count = omega (arith, inside, ap (λ (g : Group). g.count) known-world_after_core_step.here) in
        let knows = all-know object back group after known-world_after_core_step orderly-world_after_core_step (run-keeps object (world_opening group) events limits tt) epochs_with_sends i
        (leb-true 1 i bounds.0) high in
        let is : after.nodes i ≡ stepped_node (w.nodes i) input = cond-true (i == i) (stepped_node (w.nodes i) input) (w.nodes i) (eq-eqb i i refl) in
        let kept : node_known_log (after.nodes i) ≡ known_there =
        ap (λ (m : Node A). node_known_log m) is
        ∙ ap (λ g. known_log_of g (stepped_node (w.nodes i) input).epochs) (sym (ap (λ (m : Node A). m.group) is) ∙ known-world_after_core_step.groups i) in
        subst (λ (k : KnownLog A). Knows object k (log_of group (whole_epochs_in after i)) (committed_of group (whole_epochs_in after i))) kept knows

    pub restores : ComesBack object A → Each IsEventCallWithinLimits events → is_restored object known_there ≡ true
    restores back limits =
        restored-known object known_there (log_of group (whole_epochs_in after i)) (committed_of group (whole_epochs_in after i)) (knows-world_after_core_step back limits)
