-- In every run whose issued calls keep the limits, each node's known log agrees with the whole log. Its tables are those of the
-- whole log's first places, and its snapshot is that of the dropped places.
use Rattle.std.proofs.Common.{◌≡◌, ℕ, ◌≤◌, true, List, [], ap, sym, ◌∙◌, subst, arith}
use Rattle.std.specs.List.{AllByRecursion as Each}
use Rattle.std.proofs.lemmas.Bool.{cond_both, cond-true, and_from, le-leb}
use Rattle.ring_base.specs.Group.{Group}
use Rattle.ring_object.specs.Operations.{Sequential}
use Rattle.ring_payload.specs.declared.call.Call.{Call}
use Rattle.ring_payload.specs.declared.content.Payload.{Payload}
use Rattle.ring_log.specs.KnownLog.{KnownLog, known_log_of}
use Rattle.ring_log.specs.EpochHistories.{log_of, committed_of, fronts_below}
use Rattle.ring_log.specs.Epochs.{Epoch, number_above_rings}
use Rattle.ring_log_proof.specs.RingFacts.{HasEpoch}
use Rattle.ring_log_proof.specs.EpochEvents.{IsKnownCall, SendsOnlyKnown}
use Rattle.ring_log_proof.proofs.Prefixes.{filled-epoch}
use Rattle.ring_log_proof.proofs.FilledEpochs.{kept-filled}
use Rattle.ring_log_proof.proofs.Moment.{committed-front, view-at}
use Rattle.ring_session.specs.Snapshots.{KeepsLimits}
use Rattle.ring_node_spec.specs.Nodes.{node_known_log, snapshot_kept}
use Rattle.ring_node_spec.specs.Worlds.{World, is_node}
use Rattle.ring_order_proof.specs.RunEpochs.{epochs_in, whole_epochs_in}
use Rattle.ring_order_proof.proofs.SentTickets.{NodeKnows, knows-more}
use Rattle.ring_order_proof.proofs.HonestPieces.{IsPieceOf}
use Rattle.ring_order_proof.proofs.IssuedInWorlds.{WorldKnows, IssuedIn}
use Rattle.ring_order_proof.proofs.IssuedLimits.{HistoryKeeps, issued-limits}
use Rattle.ring_order_proof.proofs.KnownWhole.{Knows}
use Rattle.ring_order_proof.proofs.ConsistentRuns.{IsOrderlyWorld}
use Rattle.ring_order_proof.proofs.SentPieces.{HandsOwn, own-pieces}
use Rattle.ring_order_proof.proofs.RestoredTables.{ComesBack, told-at}

-- Lives as nodes know them, and filled

module _ {A : Type 0} (group : Group) (w : World A) (here : w.group ≡ group) where
  pub a-node : (i : ℕ) → 1 ≤ i → i ≤ group.count → is_node w i ≡ true
  a-node i low high = and_from _ _ (le-leb 1 i low) (le-leb i w.group.count (omega (arith, high, ap (λ (g : Group). g.count) here)))

  -- an epoch of a filled life is one of its node, with the same payloads handed over and the same known log before it
  pub record OwnStay (p : ℕ) (s : Epoch A) (older : List (Epoch A)) : Type 0 where
    pub before : List (Epoch A)
    pub epoch : Epoch A
    pub there : HasEpoch (w.nodes p).epochs epoch before
    pub sent : epoch.sent ≡ s.sent
    pub kept : known_log_of group before ≡ known_log_of group older

  pub own-epoch : (p : ℕ) (s : Epoch A) (older : List (Epoch A)) → HasEpoch (whole_epochs_in w p) s older → OwnStay p s older
  own-epoch p s older there =
      let fronts = fronts_below w.group (epochs_in w) (number_above_rings (epochs_in w p)) in
      let f = filled-epoch fronts p (epochs_in w p) s older there in
      record {
        before = f.older;
        epoch = f.epoch;
        there = cond_both (is_node w p) (w.nodes p).epochs [] (λ (l : List (Epoch A)). HasEpoch l f.epoch f.older → HasEpoch (w.nodes p).epochs f.epoch f.older)
            (λ t i. i) (λ t i. absurd i) f.there;
        sent = ap (λ (t : Epoch A). t.sent) f.stay_is;
        kept = sym (kept-filled fronts p group f.older) ∙ ap (known_log_of group) f.older_is;
      }

  -- the known log of a node, filled or not
  pub kept-node_epochs : (i : ℕ) → 1 ≤ i → i ≤ group.count → (w.nodes i).group ≡ group → known_log_of group (whole_epochs_in w i) ≡ node_known_log (w.nodes i)
  kept-node_epochs i low high same =
      kept-filled (fronts_below w.group (epochs_in w) (number_above_rings (epochs_in w i))) i group (epochs_in w i)
      ∙ ap (known_log_of group) (cond-true (is_node w i) (w.nodes i).epochs [] (a-node i low high)) ∙ ap (λ g. known_log_of g (w.nodes i).epochs) (sym same)

  -- a property of all calls that nodes handed over
  pub only-of : (Known : Call A → Type 0) → ((i : ℕ) → NodeKnows Known (w.nodes i)) → SendsOnlyKnown Known (whole_epochs_in w)
  only-of Known h p s older there =
      let o = own-epoch p s older there in
      subst (λ (sent : List (Payload A)). Each (IsKnownCall Known) sent) o.sent ((h p).sent o.epoch o.before o.there)

module _ {O A : Type 0} (object : Sequential O) (back : ComesBack object A) (group : Group) (w : World A) (k : WorldKnows group w) (o : IsOrderlyWorld group w)
    (keeps : HistoryKeeps w) (own : (i : ℕ) → HandsOwn object (w.nodes i)) where
  limits : SendsOnlyKnown KeepsLimits (whole_epochs_in w)
  limits = only-of group w k.here KeepsLimits (λ i. knows-more (IssuedIn w.history) KeepsLimits (issued-limits w keeps) (w.nodes i) (k.knows i))

  pieces : (p : ℕ) (s : Epoch A) (older : List (Epoch A)) → HasEpoch (whole_epochs_in w p) s older → Each (IsPieceOf (snapshot_kept object (known_log_of group older))) s.sent
  pieces p s older there =
      let t = own-epoch group w k.here p s older there in
      let here : Each (IsPieceOf (snapshot_kept object (known_log_of group t.before))) t.epoch.sent =
      subst (λ g. Each (IsPieceOf (snapshot_kept object (known_log_of g t.before))) t.epoch.sent) (k.groups p)
      (own-pieces object (w.nodes p) (own p) t.epoch t.before t.there) in
      subst (λ (sent : List (Payload A)). Each (IsPieceOf (snapshot_kept object (known_log_of group older))) sent) t.sent
      (subst (λ (known : KnownLog A). Each (IsPieceOf (snapshot_kept object known)) t.epoch.sent) t.kept here)

  pub all-know : (i : ℕ) → 1 ≤ i → i ≤ group.count
      → Knows object (node_known_log (w.nodes i)) (log_of group (whole_epochs_in w i)) (committed_of group (whole_epochs_in w i))
  all-know i low high =
      let view = view-at group (whole_epochs_in w) o.members o.text o.facts o.discipline i in
      subst (λ (known : KnownLog A). Knows object known (log_of group (whole_epochs_in w i)) (committed_of group (whole_epochs_in w i)))
      (kept-node_epochs group w k.here i low high (k.groups i))
      (record {
        calls = view.calls;
        low = view.low;
        high = view.high;
        committed = view.committed;
        within = committed-front group (whole_epochs_in w) o.members o.text o.facts o.discipline i;
        told = told-at object back group (whole_epochs_in w) o.members o.text o.facts o.discipline pieces limits i;
      })
