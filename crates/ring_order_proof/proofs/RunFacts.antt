-- The facts of every run of nodes, one by one: each node's life consists of its core's facts about the rings that it installed,
-- and what a core sent was handed to it.
use Rattle.std.proofs.Common.{◌≡◌, ℕ, zero, suc, ◌^◌, ◌<◌, ◌≤◌, true, false, ◌&&◌, ◌⊎◌, inl, inr, List, [], ◌∷◌, take, refl, ap, sym, ◌∙◌, subst, arith}
use Rattle.std.specs.Prelude.{nat_le}
use Rattle.std.proofs.lemmas.Bool.{cond_both, cond-true, and_parts, and_from, leb-true, le-leb}
use Rattle.ring_base.specs.Prefixes.{IsListPrefix}
use Rattle.ring_base.specs.Group.{Group}
use Rattle.ring_base.specs.Members.{member_had}
use Rattle.ring_base.specs.Processors.{IsMember, has}
use Rattle.ring_base.specs.declared.ring_id.RingId.{RingId}
use Rattle.ring_base.proofs.ListFronts.{take-longer_list}
use Rattle.ring_object.specs.Operations.{Sequential}
use Rattle.ring_payload.specs.declared.content.Payload.{Payload}
use Rattle.ring_wire.specs.declared.message.Message.{Message}
use Rattle.ring_core_spec.specs.Commits.{Configuration}
use Rattle.ring_core_spec.specs.Views.{front, mark}
use Rattle.ring_core_spec.specs.Giving.{user_messages_between}
use Rattle.ring_core_proof.specs.FactWords.{IsIn}
use Rattle.ring_core_proof.specs.LawConditions.{IsFalling}
use Rattle.ring_core_proof.specs.Worlds.{World as RingWorld}
use Rattle.ring_core_proof.proofs.InLists.{in-each}
use Rattle.ring_synchrony_proof.specs.Chains.{IsRingOf}
use Rattle.ring_synchrony_proof.proofs.Ordered.{Ordered}
use Rattle.ring_log.specs.Epochs.{Epoch, number_above_rings}
use Rattle.ring_log.specs.EpochHistories.{messages_upto, fronts_below}
use Rattle.ring_payload.specs.declared.call.Call.{Call as OneCall}
use Rattle.ring_log_proof.specs.RingFacts.{HasEpoch, EpochIn, Rises, payloads_from, safe_part, IsReceivedByAll, RingFacts}
use Rattle.ring_log_proof.proofs.FilledEpochs.{filled-heard, facts-filled}
use Rattle.ring_core_spec.specs.Tokens.{TokenVisit, visits_in_ring, IsSafeIn}
use Rattle.ring_node_spec.specs.declared.event.Event.{Event}
use Rattle.ring_node_spec.specs.Worlds.{World, world_opening, is_node, run, epochs_in, whole_epochs_in}
use Rattle.ring_order_proof.specs.Projection.{ring_part, IsRingRun}
use Rattle.ring_order_proof.proofs.ProjectedEvents.{ring_run}
use Rattle.ring_order_proof.proofs.DisciplinedWorlds.{opened_on}
use Rattle.ring_order_proof.specs.SentPayloads.{sent_payloads, payloads_of_visits}
use Rattle.ring_order_proof.specs.SendOrder.{SendsInOrder}
use Rattle.ring_order_proof.proofs.Numbering.{users_in, users_front, upto_all}
use Rattle.ring_order_proof.proofs.RunTexts.{whole, complete_exchange_from, heard_is, texts, text_is}
use Rattle.ring_order_proof.proofs.SendOrdersOfNodes.{all_in_order}
use Rattle.ring_order_proof.specs.RunFacts.{HasFacts}
use Rattle.ring_order_proof.proofs.EpochsOfCores.{IsToldOf, told_of, stay_for, life_told, rings_told}
use Rattle.ring_core_proof.proofs.MembersOfRings.{StandsAs, IsWithin, member_below}
use Rattle.ring_order_proof.proofs.RingsOfRuns.{HasInstalled, IsWhole, all_whole, members_of, members_are, numbered_upto, safe_is}
use Rattle.ring_order_proof.proofs.RingsOfRuns.{AllReached, reached_installed, members_within, safe_reached}
use Rattle.ring_order_proof.proofs.DisciplinedNodes.{rises}

-- a list is empty, or has an element
some_taken : {A : Type 0} → (n : ℕ) (xs : List (Message A)) → (users_in (take n xs) ≡ []) ⊎ ((x : Message A) × IsIn x xs)
some_taken zero [] = inl refl
some_taken (suc n) [] = inl refl
some_taken n (x ∷ xs) = inr (x, inl refl)

-- The facts about the nodes of a world
pub record AreNodes {A : Type 0} (group : Group) (w : World A) : Type 0 where
  pub ring : IsRingRun group w
  pub cores : IsWhole (ring_part w ring.outs)
  pub ordered : (i : ℕ) → Ordered (w.nodes i).core
  pub speaks : (i : ℕ) → SendsInOrder (w.nodes i)
  pub few : w.group.count ≤ 16

module _ {A : Type 0} (group : Group) (w : World A) (k : AreNodes group w) where
  abbrev part : RingWorld A
  part = ring_part w k.ring.outs

  abbrev text : RingId → List (Message A)
  text = (texts part k.cores.recovered).text

  told : (i : ℕ) (s : Epoch A) (older : List (Epoch A)) → HasEpoch (w.nodes i).epochs s older → IsToldOf (w.nodes i).core s
  told i s older j =
      told_of (w.nodes i).core (w.nodes i).epochs (w.nodes i).core.installs (λ x h. h) (life_told group w k.ring i (k.ordered i)) s older j

  -- the ring of an epoch, with its members
  ring_told : (i : ℕ) (s : Epoch A) (older : List (Epoch A)) (j : HasEpoch (w.nodes i).epochs s older) →
      IsRingOf part.cores ((told i s older j).at).ring ((told i s older j).at).members
  ring_told i s older j =
      let t = told i s older j in
      (k.cores.recovered.all).all.rings.shared i (t.at).ring (t.at).members ((k.cores.recovered.local i).among t.at t.there)

  one_set_of : (i : ℕ) (s : Epoch A) (older : List (Epoch A)) → HasEpoch (w.nodes i).epochs s older → s.members ≡ members_of part.cores s.ring
  one_set_of i s older j =
      let t = told i s older j in
      let at = members_are part.cores (k.cores.recovered.all).all.rings (t.at).ring (t.at).members (ring_told i s older j) in
      subst (λ (x : Epoch A). x.members ≡ members_of part.cores x.ring) (sym t.is) at

  own_of : (i : ℕ) → 1 ≤ i → (s : Epoch A) (older : List (Epoch A)) → HasEpoch (w.nodes i).epochs s older → IsMember s.members i
  own_of i low s older j =
      let t = told i s older j in
      let mine = (k.cores.recovered.local i).member t.at ((k.cores.recovered.local i).among t.at t.there) in
      let here : has (t.at).members i ≡ true =
      subst (λ (q : ℕ). has (t.at).members q ≡ true) ((k.cores.recovered.all).all.rings.me i) mine in
      member_had s.members i low (subst (λ (m : ℕ). has m i ≡ true) (sym (ap (λ (x : Epoch A). x.members) t.is)) here)

  heard_of : (i : ℕ) (s : Epoch A) (older : List (Epoch A)) → HasEpoch (w.nodes i).epochs s older → IsListPrefix s.heard (text s.ring)
  heard_of i s older j =
      let t = told i s older j in
      subst (λ (x : Epoch A). IsListPrefix x.heard (text x.ring)) (sym t.is) ((texts part k.cores.recovered).heard i (t.at).ring)

  -- What is safe

  abbrev node_low : (i : ℕ) → is_node w i ≡ true → 1 ≤ i
  node_low i node = leb-true 1 i (and_parts (nat_le 1 i) (nat_le i w.group.count) node).0

  -- the members of a set of the group's processors are nodes
  within_node : (set : ℕ) → set < 2 ^ w.group.count → (q : ℕ) → IsMember set q → is_node w q ≡ true
  within_node set small q m =
      let high = member_below w.group.count set q small m in
      and_from (nat_le 1 q) (nat_le q w.group.count) (le-leb 1 q m.0) (le-leb q w.group.count high)

  -- the members of a ring that a node installed are
  member_node : (i : ℕ) → is_node w i ≡ true → (x : Configuration) → IsIn x (w.nodes i).core.installs → (q : ℕ) → IsMember x.members q →
      is_node w q ≡ true
  member_node i node x there =
      let all : IsWithin w.group.count (part.cores i) = subst (λ b. StandsAs b w.group.count (part.cores i)) node (k.cores.stand i) in
      let small = in-each (λ (y : Configuration). y.members < 2 ^ w.group.count) x (part.cores i).rings all.rings ((k.cores.recovered.local i).among x there) in
      within_node x.members small

  record IsThere (q : ℕ) (ring : RingId) : Type 0 where
    pub epoch : Epoch A
    pub older : List (Epoch A)
    pub there : HasEpoch (w.nodes q).epochs epoch older
    pub ring_is : epoch.ring ≡ ring
    pub heard_is : epoch.heard ≡ numbered_upto part k.cores ring (front (part.cores q) ring)

  -- a node that has installed a ring has an epoch of it, in which all was received up to the front
  stay_there : (q : ℕ) (ring : RingId) → HasInstalled (part.cores q) ring → IsThere q ring
  stay_there q ring h =
      let c = part.cores q in
      let f = stay_for c (w.nodes q).epochs c.installs (life_told group w k.ring q (k.ordered q)) h.at h.there in
      let all : (f.epoch).heard ≡ user_messages_between c ring 0 (front c ring) =
      ap (λ (x : Epoch A). x.heard) f.is ∙ ap (λ (r : RingId). user_messages_between c r 0 (front c r)) h.ring_is in
      record {
        epoch = f.epoch;
        older = f.older;
        there = f.there;
        ring_is = ap (λ (x : Epoch A). x.ring) f.is ∙ h.ring_is;
        heard_is = all ∙ heard_is part k.cores.recovered q ring (front c ring) (omega arith);
      }

  abbrev lives_at : (q : ℕ) → is_node w q ≡ true → epochs_in w q ≡ (w.nodes q).epochs
  lives_at q node = cond-true (is_node w q) (w.nodes q).epochs [] node

  -- what is numbered up to a number that all of these members' fronts have reached, each of them received
  all_heard : (ring : RingId) (set : ℕ) → ((q : ℕ) → IsMember set q → is_node w q ≡ true) → (n : ℕ) → AllReached part k.cores ring set n →
      IsReceivedByAll (epochs_in w) ring set (numbered_upto part k.cores ring n)
  all_heard ring set nodes n all q m =
      let other = nodes q m in
      let high = leb-true q w.group.count (and_parts (nat_le 1 q) (nat_le q w.group.count) other).1 in
      let few = k.few in
      let reached = all q (m.0, omega (arith, high, few)) m in
      let t = stay_there q ring reached.0 in
      let numbered = whole part k.cores.recovered ring in
      let f = front (part.cores q) ring in
      let first = users_front (take n numbered) (take f numbered) (take-longer_list n f numbered reached.1) in (
        record {
          epoch = t.epoch;
          older = t.older;
          there = subst (λ (epochs : List (Epoch A)). HasEpoch epochs t.epoch t.older) (sym (lives_at q other)) t.there;
          ring = t.ring_is;
        },
        subst (λ (xs : List (Message A)). IsListPrefix (numbered_upto part k.cores ring n) xs) (sym t.heard_is) first,
      )

  safe_of : (i : ℕ) → is_node w i ≡ true → (s : Epoch A) (older : List (Epoch A)) → HasEpoch (w.nodes i).epochs s older →
      (safe_part s ≡ []) ⊎ IsReceivedByAll (epochs_in w) s.ring s.members (safe_part s)
  safe_of i node s older j =
      let t = told i s older j in
      let ring = (t.at).ring in
      let is : safe_part s ≡ numbered_upto part k.cores ring (mark (part.cores i) ring) =
      ap (λ (x : Epoch A). messages_upto x.mark x.heard) t.is ∙ safe_is part k.cores i ring in
      elim (safe_reached part k.cores i ring (t.at).members (ring_told i s older j)) [
        | inl none ↦ inl (is ∙ none)
        | inr all ↦
            let heard = all_heard ring (t.at).members (member_node i node t.at t.there) (mark (part.cores i) ring) all in
            inr (subst (λ (xs : List (Message A)). IsReceivedByAll (epochs_in w) s.ring s.members xs) (sym is)
            (subst (λ (x : Epoch A). IsReceivedByAll (epochs_in w) x.ring x.members (numbered_upto part k.cores ring (mark (part.cores i) ring))) (sym t.is) heard))
      ]

  -- if every member's front has reached a number, the text up to it
  reached_of : (ring : RingId) (n : ℕ) → IsSafeIn (members_of part.cores ring) (λ q. front (part.cores q) ring) n →
      (messages_upto n (text ring) ≡ []) ⊎ IsReceivedByAll (epochs_in w) ring (members_of part.cores ring) (messages_upto n (text ring))
  reached_of ring n safe =
      let set = members_of part.cores ring in
      let numbered = whole part k.cores.recovered ring in
      let is : messages_upto n (text ring) ≡ numbered_upto part k.cores ring n =
      ap (λ (xs : List (Message A)). messages_upto n xs) (text_is part k.cores.recovered ring) ∙ upto_all n numbered (complete_exchange_from part k.cores.recovered ring) in
      elim (some_taken n numbered) [
        | inl none ↦ inl (is ∙ none)
        | inr x ↦ elim (reached_installed part k.cores ring set n safe) [
          | inl none ↦ inl (is ∙ none)
          | inr all ↦
              let nodes = within_node set (members_within part k.cores ring x.0 x.1) in
              inr (subst (λ (xs : List (Message A)). IsReceivedByAll (epochs_in w) ring set xs) (sym is) (all_heard ring set nodes n all))
        ]
      ]

  -- What was sent

  said_of : (i : ℕ) (ring : RingId) → (payloads_from i (text ring) ≡ []) ⊎ ((at : EpochIn (w.nodes i).epochs ring) × IsListPrefix (payloads_from i (text ring)) at.epoch.sent)
  said_of i ring =
      let e = (texts part k.cores.recovered).said i ring in
      elim ((k.speaks i).silent ring) [
        | inl none ↦ inl (e ∙ none)
        | inr at ↦ inr (
          at,
          subst (λ (xs : List (Payload A)). IsListPrefix xs at.epoch.sent) (sym e)
              (subst (λ (r : RingId). IsListPrefix (sent_payloads (w.nodes i).core r) at.epoch.sent) at.ring ((k.speaks i).front at.epoch at.older at.there)),
        )
      ]

  -- a processor outside the group sent nothing
  stranger_silent : (i : ℕ) → is_node w i ≡ false → (ring : RingId) → payloads_from i (text ring) ≡ []
  stranger_silent i stranger ring =
      let none : (w.nodes i).core.turns ≡ [] = subst (λ b. StandsAs b w.group.count (part.cores i)) stranger (k.cores.stand i) in
      (texts part k.cores.recovered).said i ring ∙ ap (λ (ts : List (TokenVisit A)). payloads_of_visits (visits_in_ring ring ts)) none

  -- All facts, of the lives of the group's processors

  abbrev OfStays : (ℕ → Epoch A → List (Epoch A) → Type 0) → ℕ → List (Epoch A) → Type 0
  OfStays P i epochs = (s : Epoch A) (older : List (Epoch A)) → HasEpoch epochs s older → P i s older

  of_lives : (P : ℕ → Epoch A → List (Epoch A) → Type 0) → ((i : ℕ) → is_node w i ≡ true → OfStays P i (w.nodes i).epochs) → (i : ℕ) → OfStays P i (epochs_in w i)
  of_lives P f i = cond_both (is_node w i) (w.nodes i).epochs [] (OfStays P i) (λ e. f i e) (λ e s older j. absurd j)

  abbrev fronts : ℕ → ℕ → ℕ → List (OneCall A)
  fronts p = fronts_below w.group (epochs_in w) (number_above_rings (epochs_in w p))

  own_facts : RingFacts (epochs_in w) (members_of part.cores) text
  own_facts = record {
    rises = λ i. cond_both (is_node w i) (w.nodes i).epochs [] (λ (epochs : List (Epoch A)). Rises epochs)
        (λ e. rises (w.nodes i).epochs (w.nodes i).core.installs (rings_told group w k.ring i (k.ordered i))
        (subst IsFalling (sym (k.ordered i).newest) (k.ordered i).falls))
        (λ e. tt);
    one_set = of_lives (λ i s older. s.members ≡ members_of part.cores s.ring) (λ i e. one_set_of i);
    own = of_lives (λ i s older. IsMember s.members i) (λ i e. own_of i (node_low i e));
    heard = of_lives (λ i s older. IsListPrefix s.heard (text s.ring)) (λ i e. heard_of i);
    named = (texts part k.cores.recovered).named;
    said = λ i ring.
        cond_both (is_node w i) (w.nodes i).epochs []
        (λ (epochs : List (Epoch A)). (payloads_from i (text ring) ≡ []) ⊎ ((at : EpochIn epochs ring) × IsListPrefix (payloads_from i (text ring)) at.epoch.sent))
        (λ e. said_of i ring) (λ e. inl (stranger_silent i e ring));
    safe = of_lives (λ i s older. (safe_part s ≡ []) ⊎ IsReceivedByAll (epochs_in w) s.ring s.members (safe_part s)) safe_of;
  }

  pub facts_of : HasFacts w
  facts_of =
      record {
        members = members_of part.cores;
        text = text;
        is = (texts part k.cores.recovered).is;
        own = own_facts;
        facts = facts-filled (epochs_in w) fronts (members_of part.cores) text own_facts;
        speech = (texts part k.cores.recovered).said;
        reached = λ ring n safe. elim (reached_of ring n safe) as (λ _. (messages_upto n (text ring) ≡ [])
            ⊎ IsReceivedByAll (whole_epochs_in w) ring (members_of part.cores ring) (messages_upto n (text ring))) [
              | inl none ↦ inl none
              | inr all ↦ inr (filled-heard (epochs_in w) fronts ring (members_of part.cores ring) (messages_upto n (text ring)) all)
            ];
      }

-- Every run

pub all_nodes : {O A : Type 0} → (object : Sequential O) (group : Group) (events : List (Event A)) → group.count ≤ 16 →
    AreNodes group (run object (world_opening group) events)
all_nodes {O} {A} object group events few =
    let w = run object (world_opening group) events in
    let ring = ring_run object group events in
    let on = opened_on object group events in
    record {
      ring = ring;
      cores = subst (λ (x : RingWorld A). IsWhole x) ring.part (all_whole group.count ring.events);
      ordered = λ i. (on.nodes i).kept.orderly.ordered;
      speaks = all_in_order object group events;
      few = subst (λ (g : Group). g.count ≤ 16) (sym on.group_is) few;
    }

pub all_facts : {O A : Type 0} → (object : Sequential O) (group : Group) (events : List (Event A)) → group.count ≤ 16 →
    HasFacts (run object (world_opening group) events)
all_facts object group events few = facts_of group (run object (world_opening group) events) (all_nodes object group events few)

-- which processors are nodes
pub node_is : {O A : Type 0} → (object : Sequential O) (group : Group) (events : List (Event A)) (i : ℕ) → 1 ≤ i → i ≤ group.count →
    is_node (run object (world_opening group) events) i ≡ true
node_is {O} {A} object group events i low high =
    let same = (opened_on {A = A} object group events).group_is in
    subst (λ (g : Group). (nat_le 1 i && nat_le i g.count) ≡ true) (sym same)
    (and_from (nat_le 1 i) (nat_le i group.count) (le-leb 1 i low) (le-leb i group.count high))
