-- In every run of nodes: a node's log and its committed places, from its core's facts about the texts of its rings.
use Rattle.std.proofs.Common.{◌≡◌, ℕ, ◌≤◌, true, List, [], length, take, Option, Some, ◌⊎◌, inl, inr, refl, ap, sym, ◌∙◌, subst, arith}
use Rattle.std.proofs.lemmas.Bool.{cond-true}
use Rattle.ring_base.specs.Group.{Group}
use Rattle.ring_base.specs.declared.ring_id.RingId.{RingId}
use Rattle.ring_object.specs.Operations.{Sequential}
use Rattle.ring_payload.specs.declared.call.Call.{Call}
use Rattle.ring_wire.specs.declared.message.Message.{Message}
use Rattle.ring_core_spec.specs.State.{Core}
use Rattle.ring_core_spec.specs.Giving.{user_messages_between}
use Rattle.ring_core_spec.specs.Views.{front, mark}
use Rattle.ring_core_proof.proofs.WithinWindow.{mark_below}
use Rattle.ring_log.specs.Epochs.{Epoch, number_above_rings}
use Rattle.ring_log.specs.EpochHistories.{CompleteExchange, messages_upto, complete_exchange, log_of, committed_of, older_at, ring_log, fronts_below}
use Rattle.ring_log_proof.specs.Discipline.{KeepsRules}
use Rattle.ring_log_proof.specs.RingFacts.{HasEpoch, Rises, safe_part}
use Rattle.ring_log_proof.proofs.Prefixes.{fill, filled-epoch}
use Rattle.ring_order_proof.specs.LogTexts.{HasRestored, HasRingLog, HasFrontLog, HasSafeLog, IsNewestLog, IsLogText, AreCommittedTexts}
use Rattle.ring_order_proof.proofs.ReportedLogs.{Part, all_heard, known_safe, Tells, Restores, IsLog, AreLongest, log-told, committed-told}
use Rattle.ring_order_proof.specs.RunEpochs.{whole_epochs_in}
use Rattle.ring_order_proof.specs.Projection.{ring_part}
use Rattle.ring_order_proof.specs.RunFacts.{HasFacts}
use Rattle.ring_order_proof.proofs.DisciplinedWorlds.{opened_on, lives_keep}
use Rattle.ring_order_proof.proofs.EpochsOfCores.{IsToldOf, told_of, life_told}
use Rattle.ring_order_proof.proofs.RingsOfRuns.{safe_is}
use Rattle.ring_order_proof.proofs.RunFacts.{AreNodes, facts_of, all_nodes, node_is}
use Rattle.ring_order_proof.proofs.RunTexts.{heard_is}
use Rattle.ring_node_spec.specs.declared.event.Event.{Event}
use Rattle.ring_node_spec.specs.Worlds.{World, world_opening, is_node, run, epochs_in}

module _ {O A : Type 0} (object : Sequential O) (group : Group) (events : List (Event A)) (i : ℕ) (few : group.count ≤ 16)
    (low : 1 ≤ i) (high : i ≤ group.count) where
  abbrev w : World A
  w = run object (world_opening group) events

  nodes : AreNodes group w
  nodes = all_nodes object group events few

  abbrev core : Core A
  core = (w.nodes i).core

  -- with the places that snapshots stand for
  abbrev epochs : List (Epoch A)
  epochs = whole_epochs_in w i

  facts : HasFacts w
  facts = facts_of group w nodes

  discipline : KeepsRules group (whole_epochs_in w)
  discipline = lives_keep object group events

  -- the logs of the life, after these messages in each ring
  abbrev TellsHere : Part A → RingId → List (Call A) → Type 0
  TellsHere part ring log = Tells group (whole_epochs_in w) facts.members facts.text facts.facts discipline i part epochs ring log

  -- The facts of an epoch

  -- an epoch of the life is one as the node knows it, except for its snapshot's places
  record IsOwn (s : Epoch A) : Type 0 where
    epoch : Epoch A
    told : IsToldOf core epoch
    ring : s.ring ≡ epoch.ring
    heard : s.heard ≡ epoch.heard
    mark : s.mark ≡ epoch.mark

  own-epoch : (s : Epoch A) (older : List (Epoch A)) → HasEpoch epochs s older → IsOwn s
  own-epoch s older there =
      let fronts = fronts_below w.group (epochs_in w) (number_above_rings (epochs_in w i)) in
      let f = filled-epoch fronts i (epochs_in w i) s older there in
      let here : epochs_in w i ≡ (w.nodes i).epochs = cond-true (is_node w i) (w.nodes i).epochs [] (node_is object group events i low high) in
      let own = subst (λ (l : List (Epoch A)). HasEpoch l f.epoch f.older) here f.there in
      record {
        epoch = f.epoch;
        told = told_of core (w.nodes i).epochs core.installs (λ x h. h) (life_told group w nodes.ring i (nodes.ordered i)) f.epoch f.older own;
        ring = ap (λ (t : Epoch A). t.ring) (sym f.stay_is);
        heard = ap (λ (t : Epoch A). t.heard) (sym f.stay_is);
        mark = ap (λ (t : Epoch A). t.mark) (sym f.stay_is);
      }

  -- all that the node has of the ring's text, up to its front
  heard-to-front : (s : Epoch A) (older : List (Epoch A)) → HasEpoch epochs s older → s.heard ≡ user_messages_between core s.ring 0 (front core s.ring)
  heard-to-front s older there =
      let o = own-epoch s older there in
      let t = o.told in
      o.heard ∙ ap (λ (u : Epoch A). u.heard) t.is
      ∙ ap (λ (r : RingId). user_messages_between core r 0 (front core r)) (sym (o.ring ∙ ap (λ (u : Epoch A). u.ring) t.is))

  -- the part of that up to its safe mark
  safe-to-mark : (s : Epoch A) (older : List (Epoch A)) → HasEpoch epochs s older → safe_part s ≡ user_messages_between core s.ring 0 (mark core s.ring)
  safe-to-mark s older there =
      let o = own-epoch s older there in
      let t = o.told in
      let ring = (t.at).ring in
      let part = ring_part w nodes.ring.outs in
      let within : mark core ring ≤ front core ring = mark_below core ring (nodes.cores.recovered.local i).fit in
      ap (λ m. messages_upto m s.heard) o.mark ∙ ap (messages_upto o.epoch.mark) o.heard
      ∙ ap (λ (u : Epoch A). messages_upto u.mark u.heard) t.is
      ∙ safe_is part nodes.cores i ring
      ∙ sym (heard_is part nodes.cores.recovered i ring (mark core ring) within)
      ∙ ap (λ (r : RingId). user_messages_between core r 0 (mark core r)) (sym (o.ring ∙ ap (λ (u : Epoch A). u.ring) t.is))

  -- The logs of the life are those of the rings

  module _ (part : Part A) (n : RingId → ℕ) (is_part : (s : Epoch A) (older : List (Epoch A)) → HasEpoch epochs s older → part.of s ≡ user_messages_between core s.ring 0 (n s.ring)) where
    to-ring : (ring : RingId) (log : List (Call A)) → TellsHere part ring log → HasRingLog group w i ring (n ring) log
    to-ring ring log t =
        let in_ring : ring_log group (whole_epochs_in w) t.epoch.ring t.epoch.members (user_messages_between core t.epoch.ring 0 (n t.epoch.ring)) ≡ Some log =
        subst (λ (xs : List (Message A)). ring_log group (whole_epochs_in w) t.epoch.ring t.epoch.members xs ≡ Some log) (is_part t.epoch t.older t.there) t.is in
        record {
          at = record { epoch = t.epoch; older = t.older; there = t.there; ring = t.ring_is };
          is = subst (λ (r : RingId). ring_log group (whole_epochs_in w) r t.epoch.members (user_messages_between core r 0 (n r)) ≡ Some log) t.ring_is in_ring;
        }

    from-ring : (ring : RingId) (log : List (Call A)) → HasRingLog group w i ring (n ring) log → TellsHere part ring log
    from-ring ring log h =
        let at = h.at in
        let in_ring : ring_log group (whole_epochs_in w) at.epoch.ring at.epoch.members (user_messages_between core at.epoch.ring 0 (n at.epoch.ring)) ≡ Some log =
        subst (λ (r : RingId). ring_log group (whole_epochs_in w) r at.epoch.members (user_messages_between core r 0 (n r)) ≡ Some log) (sym at.ring) h.is in
        record {
          epoch = at.epoch;
          older = at.older;
          there = at.there;
          ring_is = at.ring;
          is = subst (λ (xs : List (Message A)). ring_log group (whole_epochs_in w) at.epoch.ring at.epoch.members xs ≡ Some log)
              (sym (is_part at.epoch at.older at.there)) in_ring;
        }

  -- The log, and the committed places

  rises : Rises epochs
  rises = facts.facts.rises i

  -- the places that snapshots stand for
  to-restored : (ring : RingId) (calls : List (Call A)) → Restores group (whole_epochs_in w) facts.members facts.text facts.facts discipline i epochs ring calls
      → HasRestored group w i ring calls
  to-restored ring calls r =
      let s = r.epoch in
      let here : complete_exchange group s.members (user_messages_between core s.ring 0 (front core s.ring)) ≡ Some r.whole =
      subst (λ (xs : List (Message A)). complete_exchange group s.members xs ≡ Some r.whole) (heard-to-front s r.older r.there) r.exch in
      record {
        at = record { epoch = s; older = r.older; there = r.there; ring = r.ring_is };
        whole = r.whole;
        exch = subst (λ (q : RingId). complete_exchange group s.members (user_messages_between core q 0 (front core q)) ≡ Some r.whole) r.ring_is here;
        v = r.v;
        wants = r.wants;
        places = r.places;
        snapshot = r.snapshot;
        is = r.is ∙ discipline.fronts i s r.older r.whole r.v r.places r.there r.exch r.wants r.snapshot
            ∙ ap (λ (q : RingId). take r.places (log_of group (older_at q.seq (whole_epochs_in w r.v.owner)))) r.ring_is;
      }

  from-restored : (ring : RingId) (calls : List (Call A)) → HasRestored group w i ring calls
      → Restores group (whole_epochs_in w) facts.members facts.text facts.facts discipline i epochs ring calls
  from-restored ring calls h =
      let at = h.at in
      let s = at.epoch in
      let there : complete_exchange group s.members s.heard ≡ Some h.whole =
      subst (λ (xs : List (Message A)). complete_exchange group s.members xs ≡ Some h.whole) (sym (heard-to-front s at.older at.there))
      (subst (λ (q : RingId). complete_exchange group s.members (user_messages_between core q 0 (front core q)) ≡ Some h.whole) (sym at.ring) h.exch) in
      record {
        epoch = s;
        older = at.older;
        there = at.there;
        ring_is = at.ring;
        whole = h.whole;
        exch = there;
        v = h.v;
        wants = h.wants;
        places = h.places;
        snapshot = h.snapshot;
        is = h.is ∙ ap (λ (q : RingId). take h.places (log_of group (older_at q.seq (whole_epochs_in w h.v.owner)))) (sym at.ring)
            ∙ sym (discipline.fronts i s at.older h.whole h.v h.places at.there there h.wants h.snapshot);
      }

  front-log : (ring : RingId) (its : List (Call A)) → HasFrontLog group w i ring its → TellsHere all_heard ring its
  front-log = from-ring all_heard (λ r. front core r) heard-to-front

  safe-log : (ring : RingId) (its : List (Call A)) → HasSafeLog group w i ring its → TellsHere known_safe ring its
  safe-log = from-ring known_safe (λ r. mark core r) safe-to-mark

  pub log-text : IsLogText group w i (log_of group epochs)
  log-text = elim (log-told group (whole_epochs_in w) facts.members facts.text facts.facts discipline i epochs (λ s older there. there) rises)
      as (λ _. IsLogText group w i (log_of group epochs)) [
        | inl n ↦ inl (record {
          ring = n.ring;
          is = to-ring all_heard (λ r. front core r) heard-to-front n.ring (log_of group epochs) n.is;
          newest = λ other its h. n.newest other its (front-log other its h);
        })
        | inr none ↦ inr (λ other its h. none.0 other its (front-log other its h), none.1)
      ]

  pub committed-text : AreCommittedTexts group w i (committed_of group epochs)
  committed-text =
      let all = committed-told group (whole_epochs_in w) facts.members facts.text facts.facts discipline i epochs (λ s older there. there) in
      let calls = committed_of group epochs in
      record {
        is = elim all.is
            as (λ _. (calls ≡ []) ⊎ (((ring : RingId) × HasSafeLog group w i ring calls) ⊎ ((ring : RingId) × HasRestored group w i ring calls))) [
              | inl none ↦ inl none
              | inr some ↦ inr (elim some as (λ _. ((ring : RingId) × HasSafeLog group w i ring calls) ⊎ ((ring : RingId) × HasRestored group w i ring calls)) [
                | inl safe ↦ inl (safe.0, to-ring known_safe (λ r. mark core r) safe-to-mark safe.0 calls safe.1)
                | inr snap ↦ inr (snap.0, to-restored snap.0 calls snap.1)
              ])
            ];
        longest = λ ring its h. all.longest ring its (safe-log ring its h);
        restored = λ ring its h. all.restored ring its (from-restored ring its h);
      }
