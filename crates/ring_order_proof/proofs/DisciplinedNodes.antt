-- Each step of a node and each submit keeps the discipline, and drops only committed places.
use Rattle.std.proofs.Common.{◌≡◌, ℕ, ◌≤◌, ◌<◌, Bool, true, false, List, [], ◌∷◌, ◌++◌, Option, Some, None, ◌⊎◌, inl, inr, refl, ap, sym, ◌∙◌, subst, arith}
use Rattle.std.specs.Prelude.{◌&&◌}
use Rattle.std.proofs.lemmas.Bool.{cond_both, and_parts}
use Rattle.ring_base.specs.Group.{Group, is_primary}
use Rattle.ring_base.specs.Rings.{same_ring}
use Rattle.ring_base.proofs.Each.{each-weaker}
use Rattle.ring_base.proofs.SameRing.{ring_same}
use Rattle.ring_core_proof.specs.LawConditions.{IsFalling}
use Rattle.std.specs.List.{AllByRecursion as Each}
use Rattle.ring_base.specs.declared.ring_id.RingId.{RingId}
use Rattle.ring_base.specs.declared.state.State.TheVariants.{Operational}
use Rattle.ring_object.specs.Operations.{Sequential}
use Rattle.ring_payload.specs.declared.call.Call.{Call as OneCall}
use Rattle.ring_payload.specs.declared.content.Payload.{Payload}
use Rattle.ring_payload.specs.declared.content.Payload.TheVariants.{Call}
use Rattle.ring_core_spec.specs.Commits.{Configuration}
use Rattle.ring_core_spec.specs.declared.input.Input.{Input}
use Rattle.ring_core_spec.specs.declared.input.Input.TheVariants.{Frame as FrameInput, Timeout as TimeInput, Send as SendInput}
use Rattle.ring_core_spec.specs.declared.out.Out.{Out}
use Rattle.ring_core_spec.specs.State.{Core, TransitionResult}
use Rattle.ring_core_spec.specs.Joining.{is_operational}
use Rattle.ring_core_spec.specs.Views.{mark}
use Rattle.ring_core_spec.specs.Deciding.{decide}
use Rattle.ring_core_spec.specs.Transitions.{transition_and_proposal}
use Rattle.ring_core_spec.specs.Giving.{may_install, sent, agreed_and_safe_of_step, with_installation_if}
use Rattle.ring_core_spec.specs.Stepping.{ring_step}
use Rattle.ring_log.specs.declared.wanted.Wanted.{Wanted}
use Rattle.ring_log.specs.Epochs.{Epoch, epochs_with_sends, epochs_with_trim}
use Rattle.ring_log.specs.Exchanges.{exchange_opening, wanted}
use Rattle.ring_log.specs.EpochHistories.{CompleteExchange, complete_exchange_from, complete_exchange, messages_upto}
use Rattle.ring_log.specs.KnownLog.{KnownLog, restores, known_log_restored, known_log_joined, adopts, adopts_wanted, known_log_after_epoch, dropped_by, known_log_of, retained_log, is_known_log_sound}
use Rattle.ring_log.specs.Logs.{committed_calls}
use Rattle.ring_log.proofs.CommittedOf.{epochs_with_sends-kept}
use Rattle.ring_node_spec.specs.declared.input.Input.{Input as NodeInput}
use Rattle.ring_node_spec.specs.declared.input.Input.TheVariants.{Frame as NodeFrame, Noise as NodeNoise, Timeout as NodeTime, Stop as NodeStop}
use Rattle.ring_node_spec.specs.EpochHistories.{epochs_after}
use Rattle.ring_node_spec.specs.Nodes.{Node, node_known_log, node_stopped, is_running_ring, runs_adopted, is_closed, is_restored}
use Rattle.ring_node_spec.specs.Stepping.{NodeStepResult, handed_over, node_after_outputs, with_dropped, newly_committed, drops, did, settled, after_core, node_step}
use Rattle.ring_node_spec.specs.Stepping.{due_by_submit, node_after_submit}
use Rattle.ring_node_spec.specs.DueSends.{due_of_outputs}
use Rattle.ring_node_spec.proofs.QueuedSends.{queued_all}
use Rattle.ring_log_proof.specs.EpochEvents.{EpochEvent, Handed, Dropped, MayDrop, MaySendAfter, MaySend, AllMayHappen, epochs_after_events}
use Rattle.ring_log_proof.specs.RingFacts.{Rises}
use Rattle.ring_log_proof.specs.Discipline.{DropsOnlyCommitted}
use Rattle.ring_log_proof.proofs.RunEpochs.{event-dropping, events-dropping}
use Rattle.ring_synchrony_proof.proofs.Ordered.{Ordered, ordering}
use Rattle.ring_synchrony_proof.proofs.LifeAfterStep.{keeps_done}
use Rattle.ring_core_proof.proofs.KeptByMoves.{kept_step, kept_stop}
use Rattle.ring_core_spec.proofs.Quiet.{with_queue, installs_same, stepped_is}
use Rattle.ring_core_spec.proofs.States.{installs_recovering}
use Rattle.ring_order_proof.proofs.DisciplinedOutputs.{events-append, may-append}
use Rattle.ring_order_proof.proofs.DisciplinedDueSends.{IsDue, none_due}
use Rattle.ring_order_proof.proofs.DisciplinedSteps.{may_after, left_nil, Stands, rings_of, installed_rings, IsStep, stays_step}
use Rattle.ring_order_proof.proofs.DisciplinedSteps.{installs_step, done_operates, operates}

-- A node, and its life

pub record IsOrderlyNode {A : Type 0} (n : Node A) : Type 0 where
  pub epoch : Epoch A
  pub older : List (Epoch A)
  pub epochs : n.epochs ≡ epoch ∷ older
  pub stands : Stands n.group n.core epoch epoch.sent
  pub rings : rings_of (epoch ∷ older) ≡ installed_rings n.core.installs
  pub ordered : Ordered n.core
  pub ready : may_install n.core ≡ false
  -- the places dropped are committed
  pub drops : DropsOnlyCommitted n.group n.epochs

-- it becomes another node, by events that may happen to its life
pub record Becomes {A : Type 0} (n new : Node A) : Type 0 where
  pub events : List (EpochEvent A)
  pub may : AllMayHappen n.group n.epochs events
  pub node_epochs : new.epochs ≡ epochs_after_events n.epochs events
  pub group : new.group ≡ n.group
  pub orderly : IsOrderlyNode new

-- A step of the core

core_step : {O A : Type 0} → (object : Sequential O) (n : Node A) (s : Epoch A) (older : List (Epoch A)) (input : Input A) → Stands n.group n.core s s.sent →
    rings_of (s ∷ older) ≡ installed_rings n.core.installs → Ordered n.core
    → IsStep object n (ring_step n.core input).core (s ∷ older) (ring_step n.core input).outs
unfolding ring_step
core_step {O} {A} object n s older input h rings o =
    let c = n.core in
    let d = transition_and_proposal c (decide c input) in
    let k = keeps_done c input o in
    by_install n s older d h k.keeps.installed k.keeps.installs rings (k.keeps.marks c.installed.ring)
    (λ e. done_operates c (decide c input) e) k.ordered (may_install d.core) refl
  where
    by_install : (n : Node A) (s : Epoch A) (older : List (Epoch A)) (d : TransitionResult A) → Stands n.group n.core s s.sent → d.core.installed ≡ n.core.installed →
        d.core.installs ≡ n.core.installs → rings_of (s ∷ older) ≡ installed_rings n.core.installs
        → mark n.core n.core.installed.ring ≤ mark d.core n.core.installed.ring
        → (d.core.state ≡ Operational → n.core.state ≡ Operational) → Ordered d.core →
        (b : Bool) → may_install d.core ≡ b →
        IsStep object n (with_installation_if b d.core (sent d.sends ++ agreed_and_safe_of_step n.core d.core)).core (s ∷ older) (with_installation_if b d.core (sent d.sends ++ agreed_and_safe_of_step n.core d.core)).outs
    by_install n s older d h same kept rings rises operated o false e = stays_step object n s older d.core d.sends h rises same kept rings operated
    by_install n s older d h same kept rings rises operated o true e =
        installs_step object n s older d.core d.sends h rises same kept rings (o.apart (inr (installs_recovering d.core.state d.core e)))

-- with the due payloads handed over
walked_on : {O A : Type 0} → (object : Sequential O) (n : Node A) (core : Core A) (outs : List (Out A)) → IsStep object n core n.epochs outs → Ordered core
    → may_install core ≡ false → DropsOnlyCommitted n.group n.epochs → Becomes n (node_after_outputs n core (epochs_after n.epochs outs) (due_of_outputs object n core n.epochs outs))
walked_on {O} {A} object n core outs t o r drops =
    let due = due_of_outputs object n core n.epochs outs in
    let q = queued_all core due r in
    let new : Epoch A = record t.epoch { sent = t.epoch.sent ++ due } in
    let core_is = sym q.is in
    let may : AllMayHappen n.group n.epochs (t.events ++ Handed due ∷ []) =
    may-append n.group n.epochs t.events (Handed due ∷ []) t.may
    (subst (λ (l : List (Epoch A)). AllMayHappen n.group l (Handed due ∷ [])) (sym t.lived_on) (t.hand, tt)) in
    let node_epochs : epochs_with_sends due (epochs_after n.epochs outs) ≡ epochs_after_events n.epochs (t.events ++ Handed due ∷ []) =
    ap (epochs_with_sends due) (t.node_epochs ∙ sym t.lived_on) ∙ sym (events-append n.epochs t.events (Handed due ∷ [])) in
    record {
      events = t.events ++ Handed due ∷ [];
      may = may;
      node_epochs = node_epochs;
      group = refl;
      orderly = record {
        epoch = new;
        older = t.older;
        epochs = ap (epochs_with_sends due) t.node_epochs;
        stands = subst (λ (c : Core A). Stands n.group c new new.sent) core_is
            (record { ring = t.stands.ring; members = t.stands.members; marked = t.stands.marked; exchange_opening = t.stands.exchange_opening });
        rings = subst (λ (c : Core A). rings_of (new ∷ t.older) ≡ installed_rings c.installs) core_is t.rings;
        ordered = subst (λ (c : Core A). Ordered c) core_is (record { older = o.older; newest = o.newest; falls = o.falls; below = o.below; apart = o.apart });
        ready = handed_ready core due r;
        drops = subst (λ (l : List (Epoch A)). DropsOnlyCommitted n.group l) (sym node_epochs) (events-dropping n.group n.epochs (t.events ++ Handed due ∷ []) may drops);
      };
    }
  where
    handed_ready : (c : Core A) (ps : List (Payload A)) → may_install c ≡ false → may_install (handed_over c ps) ≡ false
    handed_ready c [] h = h
    handed_ready c (p ∷ ps) h = handed_ready (ring_step c (SendInput p)).core ps (stepped_is c (SendInput p))

-- A stop, and a step without outputs

stays_orderly : {A : Type 0} → (n : Node A) → IsOrderlyNode n → Becomes n n
stays_orderly n o = record { events = []; may = tt; node_epochs = refl; group = refl; orderly = o }

pub node_stops : {A : Type 0} → (n : Node A) → IsOrderlyNode n → Becomes n (node_stopped n)
node_stops n o =
    record {
      events = [];
      may = tt;
      node_epochs = refl;
      group = refl;
      orderly = record {
        epoch = o.epoch;
        older = o.older;
        epochs = o.epochs;
        stands = record { ring = o.stands.ring; members = o.stands.members; marked = o.stands.marked; exchange_opening = λ e. absurd (let x : ⊥ = cc in x) };
        rings = o.rings;
        ordered = kept_stop _ ordering n.core o.ordered;
        ready = refl;
        drops = o.drops;
      };
    }

-- The steps of a node

-- it drops what it has committed
dropped_on : {A : Type 0} → (n new : Node A) (places : ℕ) → places ≡ (known_log_of n.group new.epochs).committed → Becomes n new → Becomes n (with_dropped places new)
dropped_on {A} n new places is b =
    let o = b.orderly in
    let s = o.epoch in
    let last : Epoch A = record s { trimmed = places } in
    let same : new.group ≡ n.group = b.group in
    let committed : places ≡ (known_log_of n.group (s ∷ o.older)).committed = is ∙ ap (λ l. (known_log_of n.group l).committed) o.epochs in
    let dropping : DropsOnlyCommitted n.group (s ∷ o.older) =
    subst (λ g. DropsOnlyCommitted g (s ∷ o.older)) same (subst (λ (l : List (Epoch A)). DropsOnlyCommitted new.group l) o.epochs o.drops) in
    let least : s.trimmed ≤ (known_log_of n.group (s ∷ o.older)).committed = dropping s o.older (inl (refl, refl)) in
    let may : MayDrop n.group (s ∷ o.older) places = (omega (arith, least, committed), omega (arith, committed)) in
    let here : AllMayHappen n.group (epochs_after_events n.epochs b.events) (Dropped places ∷ []) =
    subst (λ (l : List (Epoch A)). AllMayHappen n.group l (Dropped places ∷ [])) (sym (sym b.node_epochs ∙ o.epochs)) (may, tt) in
    let all = may-append n.group n.epochs b.events (Dropped places ∷ []) b.may here in
    let node_epochs : epochs_with_trim places new.epochs ≡ epochs_after_events n.epochs (b.events ++ Dropped places ∷ []) =
    ap (epochs_with_trim places) b.node_epochs ∙ sym (events-append n.epochs b.events (Dropped places ∷ [])) in
    let drops : DropsOnlyCommitted n.group (epochs_with_trim places new.epochs) =
    subst (λ (l : List (Epoch A)). DropsOnlyCommitted n.group (epochs_with_trim places l)) (sym o.epochs) (event-dropping n.group (s ∷ o.older) (Dropped places) may dropping) in
    record {
      events = b.events ++ Dropped places ∷ [];
      may = all;
      node_epochs = node_epochs;
      group = b.group;
      orderly = record {
        epoch = last;
        older = o.older;
        epochs = ap (epochs_with_trim places) o.epochs;
        stands = record { ring = o.stands.ring; members = o.stands.members; marked = o.stands.marked; exchange_opening = o.stands.exchange_opening };
        rings = o.rings;
        ordered = o.ordered;
        ready = o.ready;
        drops = subst (λ g. DropsOnlyCommitted g (epochs_with_trim places new.epochs)) (sym same) drops;
      };
    }

settles : {O A : Type 0} → (object : Sequential O) (n : Node A) (t : Bool) (core : Core A) (outs : List (Out A)) → IsOrderlyNode n →
    Becomes n (node_after_outputs n core (epochs_after n.epochs outs) (due_of_outputs object n core n.epochs outs)) →
    Becomes n (settled object t n (node_after_outputs n core (epochs_after n.epochs outs) (due_of_outputs object n core n.epochs outs)) outs
    (known_log_of n.group (epochs_after n.epochs outs))).node
settles object n false core outs o b = node_stops n o
settles {O} {A} object n true core outs o b =
    let epochs = epochs_after n.epochs outs in
    let due = due_of_outputs object n core n.epochs outs in
    let k = known_log_of n.group epochs in
    let new = node_after_outputs n core epochs due in
    let d = did object n new outs k (newly_committed (node_known_log n) k) in
    let on : Becomes n d.node =
    record {
      events = b.events;
      may = b.may;
      node_epochs = b.node_epochs;
      group = b.group;
      orderly = record {
        epoch = b.orderly.epoch;
        older = b.orderly.older;
        epochs = b.orderly.epochs;
        stands = b.orderly.stands;
        rings = b.orderly.rings;
        ordered = b.orderly.ordered;
        ready = b.orderly.ready;
        drops = b.orderly.drops;
      };
    } in
    cond_both (drops object (is_closed n.group new.epochs) k)
    (record d { node = with_dropped k.committed d.node; dropped = committed_calls (retained_log k) }) d
    (λ (s : NodeStepResult A). Becomes n s.node)
    (λ e. dropped_on n d.node k.committed (ap (λ (x : KnownLog A). x.committed) (sym (epochs_with_sends-kept n.group due epochs))) on)
    (λ e. on)

after_input : {O A : Type 0} → (object : Sequential O) (n : Node A) (input : Input A) → IsOrderlyNode n
    → Becomes n (after_core object n (ring_step n.core input)).node
after_input {O} {A} object n input o =
    let s = ring_step n.core input in
    let t : IsStep object n s.core n.epochs s.outs =
    subst (λ (l : List (Epoch A)). IsStep object n s.core l s.outs) (sym o.epochs) (core_step object n o.epoch o.older input o.stands o.rings o.ordered) in
    let epochs = epochs_after n.epochs s.outs in
    settles object n (is_known_log_sound n.group epochs && is_restored object (known_log_of n.group epochs)) s.core s.outs o
    (walked_on object n s.core s.outs t (kept_step _ ordering n.core input o.ordered) (stepped_is n.core input) o.drops)

-- the life after a step of its core, before anything is handed over
pub record LivesBy {A : Type 0} (n : Node A) (epochs : List (Epoch A)) : Type 0 where
  pub events : List (EpochEvent A)
  pub may : AllMayHappen n.group n.epochs events
  pub node_epochs : epochs ≡ epochs_after_events n.epochs events

pub steps_by : {O A : Type 0} → (object : Sequential O) (n : Node A) (input : Input A) → IsOrderlyNode n
    → LivesBy n (epochs_after n.epochs (ring_step n.core input).outs)
steps_by {O} {A} object n input o =
    let s = ring_step n.core input in
    let t : IsStep object n s.core n.epochs s.outs =
    subst (λ (l : List (Epoch A)). IsStep object n s.core l s.outs) (sym o.epochs) (core_step object n o.epoch o.older input o.stands o.rings o.ordered) in
    record { events = t.events; may = t.may; node_epochs = t.node_epochs ∙ sym t.lived_on }

pub node_becomes : {O A : Type 0} → (object : Sequential O) (n : Node A) (input : NodeInput A) → IsOrderlyNode n → Becomes n (node_step object n input).node
node_becomes object n (NodeFrame frame) o = after_input object n (FrameInput frame) o
node_becomes object n (NodeTime kind) o = after_input object n (TimeInput kind) o
node_becomes object n NodeNoise o = stays_orderly n o
node_becomes object n NodeStop o = node_stops n o

-- A submit: a call is sent at once only if the newest epoch's ring is primary and was adopted, and so a Head was sent there

call_due : {A : Type 0} → (n : Node A) (o : IsOrderlyNode n) (c : OneCall A) → IsDue (runs_adopted n ≡ true) (known_log_of n.group o.older) (due_by_submit n c)
call_due n o c =
    cond_both (runs_adopted n) (Call c ∷ []) [] (IsDue (runs_adopted n ≡ true) (known_log_of n.group o.older))
    (λ e. record { follows = (tt, tt); needs = inr e }) (λ e. none_due (runs_adopted n ≡ true) (known_log_of n.group o.older))

-- the rings after the first of falling ones are different from it
pub falls_from : (x : Configuration) (xs : List Configuration) → IsFalling (x ∷ xs) → Each (λ (y : Configuration). y.ring.seq < x.ring.seq) xs
falls_from x [] f = tt
falls_from x (y ∷ ys) f = (
  f.0,
  each-weaker (λ (z : Configuration). z.ring.seq < y.ring.seq) (λ (z : Configuration). z.ring.seq < x.ring.seq)
      (λ z l. let a : z.ring.seq < y.ring.seq = l in let b : y.ring.seq < x.ring.seq = f.0 in omega (arith, a, b)) ys (falls_from y ys f.1),
)

pub stays_below : {A : Type 0} → (n : ℕ) (epochs : List (Epoch A)) (xs : List Configuration) → rings_of epochs ≡ installed_rings xs →
    Each (λ (y : Configuration). y.ring.seq < n) xs → Each (λ (s : Epoch A). s.ring.seq < n) epochs
stays_below n [] xs e h = tt
stays_below n (s ∷ epochs) [] e h = absurd (cc e)
stays_below n (s ∷ epochs) (x ∷ xs) e h =
    let r : s.ring ≡ x.ring = cc e in
    let rest : rings_of epochs ≡ installed_rings xs = cc e in
    (subst (λ (q : RingId). q.seq < n) (sym r) h.0, stays_below n epochs xs rest h.1)

-- A life whose ring numbers fall from the newest on

falls_on : (x : Configuration) (xs : List Configuration) → IsFalling (x ∷ xs) → IsFalling xs
falls_on x [] f = tt
falls_on x (y ∷ ys) f = f.1

pub rises : {A : Type 0} → (epochs : List (Epoch A)) (xs : List Configuration) → rings_of epochs ≡ installed_rings xs → IsFalling xs → Rises epochs
rises [] xs e f = tt
rises (s ∷ epochs) [] e f = absurd (cc e)
rises (s ∷ epochs) (x ∷ xs) e f =
    let same : s.ring ≡ x.ring = cc e in
    let rest : rings_of epochs ≡ installed_rings xs = cc e in (
      stays_below s.ring.seq epochs xs rest (subst (λ (r : RingId). Each (λ (y : Configuration). y.ring.seq < r.seq) xs) (sym same) (falls_from x xs f)),
      rises epochs xs rest (falls_on x xs f),
    )

-- the last primary is the newest ring only if that was adopted

last_adopted : {A : Type 0} → (k : KnownLog A) (ring last : RingId) (w : CompleteExchange A) → (adopts k ring w).last ≡ Some last → (k.last ≡ Some last) ⊎ (ring ≡ last)
last_adopted {A} k ring last w = by (wanted w.exchange)
  where
    by : (o : Option Wanted) → (adopts_wanted k ring o w).last ≡ Some last → (k.last ≡ Some last) ⊎ (ring ≡ last)
    by None e = inl e
    by (Some v) e =
        cond_both (restores k v) (known_log_restored ring v w.exchange.bytes w.exchange.received_calls) (known_log_joined k ring v w.exchange.received_calls)
        (λ (x : KnownLog A). x.last ≡ Some last → (k.last ≡ Some last) ⊎ (ring ≡ last)) (λ t h. inr (cc h)) (λ f h. inr (cc h)) e

last_by : {A : Type 0} → (places : ℕ) (k : KnownLog A) (ring last : RingId) (o p : Option (CompleteExchange A)) → (dropped_by places (known_log_after_epoch ring k o p)).last ≡ Some last
    → (k.last ≡ Some last) ⊎ ((ring ≡ last) × (o ≡ None → ⊥))
last_by places k ring last None p e = inl e
last_by places k ring last (Some w) p e = elim (last_adopted k ring last w e) as (λ _. (k.last ≡ Some last) ⊎ ((ring ≡ last) × (Some w ≡ None → ⊥))) [
  | inl old ↦ inl old
  | inr new ↦ inr (new, λ none. let x : ⊥ = cc none in x)
]

-- it is that of the life before, or this one
last_of : {A : Type 0} → (group : Group) (s : Epoch A) (older : List (Epoch A)) (last : RingId) → (known_log_of group (s ∷ older)).last ≡ Some last
    → ((known_log_of group older).last ≡ Some last) ⊎ ((s.ring ≡ last) × (complete_exchange group s.members s.heard ≡ None → ⊥))
last_of group s older last =
    last_by s.trimmed (known_log_of group older) s.ring last (complete_exchange group s.members s.heard) (complete_exchange group s.members (messages_upto s.mark s.heard))

last_below : {A : Type 0} → (group : Group) (n : ℕ) (epochs : List (Epoch A)) → Each (λ (s : Epoch A). s.ring.seq < n) epochs → (ring : RingId) →
    (known_log_of group epochs).last ≡ Some ring → ring.seq < n
last_below group n [] h ring e = absurd (cc e)
last_below {A} group n (s ∷ epochs) h ring e = elim (last_of group s epochs ring e) as (λ _. ring.seq < n) [
  | inl old ↦ last_below group n epochs h.1 ring old
  | inr here ↦ subst (λ (q : RingId). q.seq < n) here.0 h.0
]

last_primary : {A : Type 0} → (group : Group) (s : Epoch A) (older : List (Epoch A)) → Each (λ (t : Epoch A). t.ring.seq < s.ring.seq) older → (ring : RingId) →
    (known_log_of group (s ∷ older)).last ≡ Some ring → ring ≡ s.ring → is_primary group s.members ≡ true
last_primary {A} group s older h ring e r = elim (last_of group s older ring e) as (λ _. is_primary group s.members ≡ true) [
  | inl old ↦ absurd (let below : ring.seq < s.ring.seq = last_below group s.ring.seq older h ring old in
      let same : ring.seq ≡ s.ring.seq = ap (λ (q : RingId). q.seq) r in omega (arith, below, same))
  | inr here ↦ cond_both (is_primary group s.members) (complete_exchange_from (exchange_opening s.members) s.heard) None
      (λ w. (w ≡ None → ⊥) → is_primary group s.members ≡ true) (λ p some. p) (λ p some. absurd (some refl)) here.1
]

-- if an adopted ring runs, something was handed over there
adopted_opened : {A : Type 0} → (n : Node A) (o : IsOrderlyNode n) → runs_adopted n ≡ true → o.epoch.sent ≡ [] → ⊥
adopted_opened {A} n o e none = by_last (known_log_of n.group (o.epoch ∷ o.older)).last refl
    (subst (λ (l : List (Epoch A)). is_running_ring n.core (known_log_of n.group l).last ≡ true) o.epochs e)
  where
    apart : Each (λ (t : Epoch A). t.ring.seq < o.epoch.ring.seq) o.older
    apart =
        let all : rings_of (o.epoch ∷ o.older) ≡ installed_rings (n.core.installed ∷ o.ordered.older) = o.rings ∙ ap installed_rings o.ordered.newest in
        let rest : rings_of o.older ≡ installed_rings o.ordered.older = cc all in
        let first : o.epoch.ring ≡ n.core.installed.ring = o.stands.ring in
        subst (λ (q : RingId). Each (λ (t : Epoch A). t.ring.seq < q.seq) o.older) (sym first)
        (stays_below n.core.installed.ring.seq o.older o.ordered.older rest (falls_from n.core.installed o.ordered.older o.ordered.falls))

    by_last : (last : Option RingId) → (known_log_of n.group (o.epoch ∷ o.older)).last ≡ last → is_running_ring n.core last ≡ true → ⊥
    by_last None l r = absurd (cc r)
    by_last (Some ring) l r =
        let both = and_parts (is_operational n.core.state) (same_ring n.core.installed.ring ring) r in
        let same : n.core.installed.ring ≡ ring = ring_same n.core.installed.ring ring both.1 in
        let here : ring ≡ o.epoch.ring = sym same ∙ sym o.stands.ring in
        o.stands.exchange_opening (operates n.core.state both.0) (last_primary n.group o.epoch o.older apart ring l here) none

queued_ready : {A : Type 0} → (c : Core A) (q : List (Payload A)) → may_install c ≡ false → may_install (with_queue c q) ≡ false
queued_ready c q h = installs_same c.state c q ∙ h

pub node_submits : {A : Type 0} → (n : Node A) (c : OneCall A) → IsOrderlyNode n → Becomes n (node_after_submit n c)
node_submits {A} n c o =
    let due = due_by_submit n c in
    let q = queued_all n.core due o.ready in
    let new : Epoch A = record o.epoch { sent = o.epoch.sent ++ due } in
    let hand : MaySendAfter n.group o.epoch o.older o.epoch.sent due =
    may_after n.group o.epoch o.older (runs_adopted n ≡ true) o.epoch.sent due (call_due n o c) (adopted_opened n o) in
    let may : AllMayHappen n.group n.epochs (Handed due ∷ []) = (subst (λ (l : List (Epoch A)). MaySend n.group l due) (sym o.epochs) hand, tt) in
    record {
      events = Handed due ∷ [];
      may = may;
      node_epochs = refl;
      group = refl;
      orderly = record {
        epoch = new;
        older = o.older;
        epochs = ap (epochs_with_sends due) o.epochs;
        stands = subst (λ (x : Core A). Stands n.group x new new.sent) (sym q.is)
            (record {
              ring = o.stands.ring;
              members = o.stands.members;
              marked = o.stands.marked;
              exchange_opening = λ s p e. o.stands.exchange_opening s p (left_nil o.epoch.sent due e);
            });
        rings = subst (λ (x : Core A). rings_of (new ∷ o.older) ≡ installed_rings x.installs) (sym q.is) o.rings;
        ordered = subst (λ (x : Core A). Ordered x) (sym q.is)
            (record { older = o.ordered.older; newest = o.ordered.newest; falls = o.ordered.falls; below = o.ordered.below; apart = o.ordered.apart });
        ready = subst (λ (x : Core A). may_install x ≡ false) (sym q.is) (queued_ready n.core q.queue o.ready);
        drops = events-dropping n.group n.epochs (Handed due ∷ []) may o.drops;
      };
    }
