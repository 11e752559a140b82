-- The laws of every run, for a world after further events.
use Rattle.std.proofs.Common.{◌≡◌, ℕ, ◌≤◌, List, [], Result, Ok, Err, OnOk, OnErr, ap, sym, subst, ◌∙◌, append-nil}
use Rattle.std.specs.List.{AllByRecursion}
use Rattle.ring_base.specs.Prefixes.{IsListPrefix}
use Rattle.ring_base.specs.Group.{Group}
use Rattle.ring_object.specs.Operations.{Sequential}
use Rattle.ring_log.specs.EpochHistories.{committed_of}
use Rattle.ring_session.specs.Deduplicated.{deduplicated}
use Rattle.ring_node_spec.specs.Histories.{IsLinearization}
use Rattle.ring_node_spec.specs.declared.event.Event.{Event}
use Rattle.ring_node_spec.specs.Worlds.{World, world_opening, run, order, whole_epochs_in}
use Rattle.ring_order_proof.specs.Linear.{IsEventCallWithinLimits, HasCommittedPlaces, FollowsOrder}
use Rattle.ring_order_proof.proofs.SynchronousRuns.{synchronous_run}
use Rattle.ring_world.specs.WorldView.{WorldView, world_of, IsEventOutcome}
use Rattle.ring_world.specs.RunProperties.{IsContinuation}
use Rattle.ring_world.proofs.OutputsGrow.{longer_told}
use Rattle.ring_world.proofs.Playing.{IsLonger, goes_longer, world_later}

-- the event happened, or nothing was done
pub longer_list : {O A T E : Type 0} (object : Sequential O) (e : Event A) (p q : WorldView A) (r : Result T E) → OnOk r (IsEventOutcome object e p q) → OnErr r (q ≡ p)
    → IsLonger object p q
longer_list object e p q (Ok x) goes same = goes_longer object e p q goes
longer_list object e p q (Err x) goes same =
    record { later = []; group = ap (λ (r : WorldView _). r.group) same; events = ap (λ (r : WorldView _). r.events) same ∙ sym (append-nil p.events) }

module _ {O A : Type 0} (object : Sequential O)
    (explains : (group : Group) (events : List (Event A)) → group.count ≤ 16 → AllByRecursion IsEventCallWithinLimits events →
    IsLinearization object (order (run object (world_opening group) events)) (run object (world_opening group) events).history)
    (grows : (group : Group) (events later : List (Event A)) → group.count ≤ 16 →
    IsListPrefix (order (run object (world_opening group) events)) (order (run object (run object (world_opening group) events) later)))
    (fronts : (group : Group) (events : List (Event A)) (node : ℕ) → group.count ≤ 16 → 1 ≤ node → node ≤ group.count →
    IsListPrefix (deduplicated (committed_of group (whole_epochs_in (run object (world_opening group) events) node)))
    (order (run object (world_opening group) events)))
    (follows : (group : Group) (events : List (Event A)) (node : ℕ) → group.count ≤ 16 → AllByRecursion IsEventCallWithinLimits events → 1 ≤ node → node ≤ group.count →
    HasCommittedPlaces object ((run object (world_opening group) events).nodes node) (committed_of group (whole_epochs_in (run object (world_opening group) events) node))
    × FollowsOrder object ((run object (world_opening group) events).nodes node)
    (committed_of group (whole_epochs_in (run object (world_opening group) events) node)) (order (run object (world_opening group) events))) where
  pub goes_on : (p q : WorldView A) → q.group.count ≤ 16 → AllByRecursion IsEventCallWithinLimits q.events → IsLonger object p q → IsContinuation object p q
  goes_on p q few keep l =
      let few_before : p.group.count ≤ 16 = subst (λ (group : Group). group.count ≤ 16) l.group few in
      record {
        explains = explains q.group q.events few keep;
        grows = subst (λ (w : World A). IsListPrefix (order (world_of object p)) (order w)) (sym (world_later object p q l))
            (grows p.group p.events l.later few_before);
        fronts = λ node low high. fronts q.group q.events node few low high;
        follows = λ node low high. follows q.group q.events node few keep low high;
        synchronous = synchronous_run object q.group q.events;
        outs_grow = longer_told object p q l;
      }
