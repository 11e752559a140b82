-- A node's step: its core's outputs change its life by events that may happen, and what it hands over keeps the discipline.
use Rattle.std.proofs.Common.{◌≡◌, ◌≤◌, ◌<◌, Bool, true, false, ◌⊎◌, inl, inr, List, [], ◌∷◌, ◌++◌, map, refl, ap, sym, ◌∙◌, subst, arith, zero-le}
use Rattle.std.specs.Prelude.{◌&&◌}
use Rattle.std.proofs.Math.Nat.{le_refl}
use Rattle.std.proofs.lemmas.Bool.{cond_both, cond-true, and_parts}
use Rattle.ring_base.specs.Group.{Group, IsPrimary, is_primary}
use Rattle.ring_base.specs.Primaries.{primary_tested}
use Rattle.ring_base.specs.declared.ring_id.RingId.{RingId}
use Rattle.ring_base.specs.declared.state.State.{State}
use Rattle.ring_base.specs.declared.state.State.TheVariants.{Gather, Commit, Recovery, Operational, Stopped}
use Rattle.ring_base.proofs.SameRing.{ring_same}
use Rattle.ring_object.specs.Operations.{Sequential}
use Rattle.ring_payload.specs.declared.content.Payload.{Payload}
use Rattle.ring_payload.specs.declared.content.Payload.TheVariants.{Head}
use Rattle.ring_wire.specs.declared.message.Message.{Message}
use Rattle.ring_core_spec.specs.Commits.{Configuration}
use Rattle.ring_core_spec.specs.Recoveries.{rest_messages}
use Rattle.ring_core_spec.specs.declared.out.Out.{Out}
use Rattle.ring_core_spec.specs.declared.out.Out.TheVariants.{Send as SendOut, Rest, Regular as RegularOut}
use Rattle.ring_core_spec.specs.State.{Core, OutgoingFrame, TransitionResult}
use Rattle.ring_core_spec.specs.Joining.{is_operational, proposes}
use Rattle.ring_core_spec.specs.Views.{front, mark, plan}
use Rattle.ring_core_spec.specs.Deciding.{Transition, Ignore, Enqueue, Repeat, Announce, Invite, GiveUp, EnterGather, Agree, MergeJoin}
use Rattle.ring_core_spec.specs.Deciding.{EnterGatherAndAgree, EnterGatherAndMergeJoin, Take, Visit, Fill, Learn}
use Rattle.ring_core_spec.specs.Transitions.{apply_transition, may_propose_after, with_proposal_if, transition_and_proposal}
use Rattle.ring_core_spec.specs.Giving.{install, sends_with_receivers, sent, agreed_and_safe_of_step, delivered_from, installation_outputs}
use Rattle.ring_log.specs.Epochs.{Epoch, epoch_opening}
use Rattle.ring_log.specs.KnownLog.{known_log_of, known_log_head}
use Rattle.ring_node_spec.specs.EpochHistories.{epochs_after_event, epochs_after}
use Rattle.ring_node_spec.proofs.EpochsAfterOutputs.{through-append}
use Rattle.ring_node_spec.specs.Nodes.{Node, is_core_running_in}
use Rattle.ring_log_proof.specs.EpochEvents.{EpochEvent, Regular, MaySendFirst, MaySendAfter, AllMayHappen, epochs_after_events}
use Rattle.ring_order_proof.proofs.DisciplinedDueSends.{IsDue, RunsPrimary, none_due}
use Rattle.ring_order_proof.proofs.DisciplinedOutputs.{IsTold, due-append, events-append, may-append, silent_through, silent_due}
use Rattle.ring_order_proof.proofs.DisciplinedOutputs.{delivered_told, told_then}
use Rattle.ring_node_spec.specs.DueSends.{due_at_regular, due_at_output, due_of_outputs}

-- Frames sent don't change a life

abbrev pub send_out : {A : Type 0} → OutgoingFrame A → Out A
send_out s = SendOut s.to s.frame

-- A node may hand over what is due

module _ {A : Type 0} (group : Group) (s : Epoch A) (older : List (Epoch A)) where
  pub may_after : (P : Type 0) (said due : List (Payload A)) → IsDue P (known_log_of group older) due → (P → said ≡ [] → ⊥) → MaySendAfter group s older said due
  may_after P [] due d never = elim (d.needs) [
    | inl e ↦ subst (MaySendFirst group s older) (sym e) tt
    | inr p ↦ absurd (never p refl)
  ]
  may_after P (x ∷ said) due d never = d.follows

  -- a Head of the life before, and what may follow it; nothing in a ring that isn't primary
  pub may_first : (P : Type 0) (due : List (Payload A)) → IsDue P (known_log_of group older) due → (P → is_primary group s.members ≡ true) →
      MaySendFirst group s older (due_at_regular group s.members older ++ due)
  may_first P due d p =
      cond_both (is_primary group s.members) (Head (known_log_head (known_log_of group older)) ∷ []) [] (λ first. MaySendFirst group s older (first ++ due))
      (λ e. ((primary_tested group s.members).0 e, refl, d.follows))
      (λ e. elim (d.needs) [
        | inl none ↦ subst (MaySendFirst group s older) (sym none) tt
        | inr q ↦ absurd (let t : true ≡ false = sym (p q) ∙ e in let n : ⊥ = cc in n)
      ])

pub operates : (s : State) → is_operational s ≡ true → s ≡ Operational
operates Gather e = absurd (cc)
operates Commit e = absurd (cc)
operates Recovery e = absurd (cc)
operates Operational e = refl
operates Stopped e = absurd (cc)

-- A core that runs its ring after an act ran it before

act_operates : {A : Type 0} → (c : Core A) (a : Transition A) → (apply_transition c a).core.state ≡ Operational → c.state ≡ Operational
act_operates c Ignore e = e
act_operates c (Enqueue payload) e = e
act_operates c Repeat e = e
act_operates c Announce e = e
act_operates c Invite e = e
act_operates c GiveUp e = e
act_operates c EnterGather e = absurd (cc)
act_operates c (Agree j) e = e
act_operates c (MergeJoin j) e = e
act_operates c (EnterGatherAndAgree j) e = absurd (cc)
act_operates c (EnterGatherAndMergeJoin j) e = absurd (cc)
act_operates c (Take x) e = e
act_operates c (Visit t) e = e
act_operates c (Fill k) e = absurd (cc)
act_operates c (Learn k) e = absurd (cc)

proposed_operates : {A : Type 0} → (b : Bool) (d : TransitionResult A) → (with_proposal_if b d).core.state ≡ Operational → d.core.state ≡ Operational
proposed_operates false d e = e
proposed_operates true d e = absurd (cc)

pub done_operates : {A : Type 0} → (c : Core A) (a : Transition A) → (transition_and_proposal c a).core.state ≡ Operational → c.state ≡ Operational
done_operates c a e = act_operates c a (proposed_operates (may_propose_after a && proposes (apply_transition c a).core) (apply_transition c a) e)

-- The first sends, and the outputs of the ring before

silent_told : {O X A : Type 0} → (object : Sequential O) (n : Node A) (core : Core A) (ring : RingId) (s : Epoch A) (older : List (Epoch A)) (f : X → Out A) →
    ((x : X) (epochs : List (Epoch A)) → epochs_after_event epochs (f x) ≡ epochs) → ((x : X) (epochs : List (Epoch A)) → due_at_output object n core epochs (f x) ≡ []) → (xs : List X) →
    (t : IsTold object n core ring s older (map f xs)) × (t.epoch ≡ s)
silent_told object n core ring s older f h k xs = (
  record {
    epoch = s;
    epochs = silent_through f h xs (s ∷ older);
    events = [];
    may = tt;
    lived_on = refl;
    ring_is = refl;
    members_is = refl;
    sent_is = refl;
    due = subst (λ due. IsDue (RunsPrimary n.group core ring s.members) (known_log_of n.group older) due) (sym (silent_due object n core f h k xs (s ∷ older)))
        (none_due (RunsPrimary n.group core ring s.members) (known_log_of n.group older));
  },
  refl,
)

-- the ring that was installed as the step began
pub given_told : {O A : Type 0} → (object : Sequential O) (n : Node A) (core c d : Core A) (sends : List (OutgoingFrame A)) (s : Epoch A) (older : List (Epoch A)) →
    s.mark ≤ mark c c.installed.ring → mark c c.installed.ring ≤ mark d c.installed.ring →
    (t : IsTold object n core c.installed.ring s older (sent sends ++ agreed_and_safe_of_step c d)) × (t.epoch.mark ≤ mark d c.installed.ring)
given_told {O} {A} object n core c d sends s older below rises =
    let ring = c.installed.ring in
    let a = silent_told object n core ring s older (λ (x : OutgoingFrame A). send_out x) (λ x epochs. refl) (λ x epochs. refl) (sends_with_receivers sends) in
    let low = subst (λ (t : Epoch A). t.mark ≤ mark c ring) (sym a.1) below in
    let g = delivered_told object n core d ring a.0.epoch older (front c ring) (mark c ring) low rises in
    let v = told_then object n core ring s older (sent sends) (agreed_and_safe_of_step c d) a.0 g.0 in
    (v.0, subst (λ (t : Epoch A). t.mark ≤ mark d ring) (sym v.1) g.1)

-- The relation between a node's life and its core

pub record Stands {A : Type 0} (group : Group) (core : Core A) (s : Epoch A) (sent : List (Payload A)) : Type 0 where
  pub ring : s.ring ≡ core.installed.ring
  pub members : s.members ≡ core.installed.members
  pub marked : s.mark ≤ mark core core.installed.ring
  -- if a primary ring runs, something was handed over
  pub exchange_opening : core.state ≡ Operational → is_primary group s.members ≡ true → sent ≡ [] → ⊥

-- the rings of a life, and those that a core installed, newest first
abbrev pub rings_of : {A : Type 0} → List (Epoch A) → List RingId
rings_of {A} epochs = map (λ (s : Epoch A). s.ring) epochs

abbrev pub installed_rings : List Configuration → List RingId
installed_rings installs = map (λ (x : Configuration). x.ring) installs

-- a step of the core: its outputs, and the due payloads
pub record IsStep {O A : Type 0} (object : Sequential O) (n : Node A) (core : Core A) (epochs : List (Epoch A)) (outs : List (Out A)) : Type 0 where
  pub epoch : Epoch A
  pub older : List (Epoch A)
  pub node_epochs : epochs_after epochs outs ≡ epoch ∷ older
  pub events : List (EpochEvent A)
  pub may : AllMayHappen n.group epochs events
  pub lived_on : epochs_after_events epochs events ≡ epoch ∷ older
  pub hand : MaySendAfter n.group epoch older epoch.sent (due_of_outputs object n core epochs outs)
  pub stands : Stands n.group core epoch (epoch.sent ++ due_of_outputs object n core epochs outs)
  pub rings : rings_of (epoch ∷ older) ≡ installed_rings core.installs

pub left_nil : {X : Type 0} (xs ys : List X) → xs ++ ys ≡ [] → xs ≡ []
left_nil [] ys e = refl
left_nil (x ∷ xs) ys e = absurd (cc e)

module _ {O A : Type 0} (object : Sequential O) (n : Node A) (s : Epoch A) (older : List (Epoch A)) (d : Core A) (sends : List (OutgoingFrame A))
    (h : Stands n.group n.core s s.sent) (rises : mark n.core n.core.installed.ring ≤ mark d n.core.installed.ring)
    (same : d.installed ≡ n.core.installed) (kept : d.installs ≡ n.core.installs) (rings : rings_of (s ∷ older) ≡ installed_rings n.core.installs)
    (operated : d.state ≡ Operational → n.core.state ≡ Operational) where
  pub stays_step : IsStep object n d (s ∷ older) (sent sends ++ agreed_and_safe_of_step n.core d)
  stays_step =
      let c = n.core in
      let v = given_told object n d c d sends s older h.marked rises in
      let t = v.0 in
      let never : RunsPrimary n.group d c.installed.ring s.members → s.sent ≡ [] → ⊥ =
      λ p e. h.exchange_opening (operated (operates d.state (and_parts (is_operational d.state) _ p.runs_here).0)) p.primary e in
      record {
        epoch = t.epoch;
        older = older;
        node_epochs = t.epochs;
        events = t.events;
        may = t.may;
        lived_on = t.lived_on;
        hand = may_after n.group t.epoch older _ t.epoch.sent _ t.due (λ p e. never p (sym t.sent_is ∙ e));
        stands = record {
          ring = t.ring_is ∙ h.ring ∙ ap (λ (x : Configuration). x.ring) (sym same);
          members = t.members_is ∙ h.members ∙ ap (λ (x : Configuration). x.members) (sym same);
          marked = subst (λ (x : Configuration). t.epoch.mark ≤ mark d x.ring) (sym same) v.1;
          exchange_opening = λ o p e. h.exchange_opening (operated o) (ap (is_primary n.group) (sym t.members_is) ∙ p) (sym t.sent_is ∙ left_nil t.epoch.sent _ e);
        };
        rings = ap (λ r. r ∷ rings_of older) t.ring_is ∙ rings ∙ ap installed_rings (sym kept);
      }

-- A ring is installed: the outputs of the one before, and then of the new one

first_same : {A : Type 0} → (group : Group) (s t : Epoch A) (older : List (Epoch A)) (ps : List (Payload A)) → s.members ≡ t.members →
    MaySendFirst group s older ps → MaySendFirst group t older ps
first_same group s t older [] e h = tt
first_same group s t older (p ∷ ps) e h = (subst (IsPrimary group) e h.0, h.1, h.2)

-- an installed ring differs from the one before
installs_other : {A : Type 0} → (d : Core A) (ring : RingId) → d.installed.ring ≡ ring → d.installed.ring.seq < d.running.ring.seq →
    is_core_running_in (install d) ring ≡ true → ⊥
installs_other d ring e below r =
    let same : d.running.ring ≡ ring = ring_same d.running.ring ring r in
    let a : d.installed.ring.seq ≡ ring.seq = ap (λ (r : RingId). r.seq) e in
    let b : d.running.ring.seq ≡ ring.seq = ap (λ (r : RingId). r.seq) same in
    omega (arith, a, b, below)

none_left : {P : Type 0} {X : Type 0} → (xs : List X) → (xs ≡ []) ⊎ P → (P → ⊥) → xs ≡ []
none_left xs (inl e) never = e
none_left xs (inr p) never = absurd (never p)

-- the outputs of configurations, given a life with this newest epoch
configured_told : {O A : Type 0} → (object : Sequential O) (n : Node A) (d : Core A) (s : Epoch A) (older : List (Epoch A)) →
    (t : IsTold object n (install d) d.running.ring (epoch_opening d.running.ring d.running.members) (s ∷ older) (delivered_from d d.running.ring 0 0))
    × (t.epoch.mark ≤ mark d d.running.ring)
    × (epochs_after (s ∷ older) (installation_outputs d) ≡ t.epoch ∷ s ∷ older)
    × (due_of_outputs object n (install d) (s ∷ older) (installation_outputs d)
    ≡ due_at_regular n.group d.running.members (s ∷ older)
    ++ due_of_outputs object n (install d) (epoch_opening d.running.ring d.running.members ∷ s ∷ older) (delivered_from d d.running.ring 0 0))
configured_told {O} {A} object n d s older =
    let new = epoch_opening d.running.ring d.running.members in
    let told = delivered_told object n (install d) d d.running.ring new (s ∷ older) 0 0 (le_refl 0) zero-le in
    let rest : Message A → Out A = λ x. Rest x.ring x.number x in
    let xs = rest_messages (plan d) d.held in
    let more = RegularOut d.running.ring d.running.members ∷ delivered_from d d.running.ring 0 0 in
    let silent : epochs_after (s ∷ older) (map rest xs) ≡ s ∷ older = silent_through rest (λ x epochs. refl) xs (s ∷ older) in (
      told.0,
      told.1,
      through-append (s ∷ older) (map rest xs) more ∙ ap (λ l. epochs_after l more) silent ∙ told.0.epochs,
      due-append object n (install d) (s ∷ older) (map rest xs) more
          ∙ ap (λ due. due ++ due_of_outputs object n (install d) (epochs_after (s ∷ older) (map rest xs)) more)
          (silent_due object n (install d) rest (λ x epochs. refl) (λ x epochs. refl) xs (s ∷ older))
          ∙ ap (λ l. due_of_outputs object n (install d) l more) silent,
    )

module _ {O A : Type 0} (object : Sequential O) (n : Node A) (s : Epoch A) (older : List (Epoch A)) (d : Core A) (sends : List (OutgoingFrame A))
    (h : Stands n.group n.core s s.sent) (rises : mark n.core n.core.installed.ring ≤ mark d n.core.installed.ring)
    (same : d.installed ≡ n.core.installed) (kept : d.installs ≡ n.core.installs) (rings : rings_of (s ∷ older) ≡ installed_rings n.core.installs)
    (below : d.installed.ring.seq < d.running.ring.seq) where
  pub installs_step : IsStep object n (install d) (s ∷ older) ((sent sends ++ agreed_and_safe_of_step n.core d) ++ installation_outputs d)
  installs_step =
      let c = n.core in
      let outs = sent sends ++ agreed_and_safe_of_step c d in
      let v = given_told object n (install d) c d sends s older h.marked rises in
      let t = v.0 in
      let k = configured_told object n d t.epoch older in
      let u = k.0 in
      let new = epoch_opening d.running.ring d.running.members in
      let first = due_at_regular n.group d.running.members (t.epoch ∷ older) in
      let more = due_of_outputs object n (install d) (new ∷ t.epoch ∷ older) (delivered_from d d.running.ring 0 0) in
      let silent : due_of_outputs object n (install d) (s ∷ older) outs ≡ [] =
      none_left _ t.due.needs (λ p. installs_other d c.installed.ring (ap (λ (x : Configuration). x.ring) same) below p.runs_here) in
      let due : due_of_outputs object n (install d) (s ∷ older) (outs ++ installation_outputs d) ≡ first ++ more =
      due-append object n (install d) (s ∷ older) outs (installation_outputs d)
      ∙ ap (λ x. x ++ due_of_outputs object n (install d) (epochs_after (s ∷ older) outs) (installation_outputs d)) silent
      ∙ ap (λ l. due_of_outputs object n (install d) l (installation_outputs d)) t.epochs
      ∙ k.3 in
      let may : MaySendFirst n.group new (t.epoch ∷ older) (first ++ more) = may_first n.group new (t.epoch ∷ older) _ more u.due (λ p. p.primary) in
      record {
        epoch = u.epoch;
        older = t.epoch ∷ older;
        node_epochs = through-append (s ∷ older) outs (installation_outputs d) ∙ ap (λ l. epochs_after l (installation_outputs d)) t.epochs ∙ k.2;
        events = t.events ++ Regular d.running.ring d.running.members ∷ u.events;
        may = may-append n.group (s ∷ older) t.events (Regular d.running.ring d.running.members ∷ u.events) t.may
            (subst (λ (l : List (Epoch A)). AllMayHappen n.group l (Regular d.running.ring d.running.members ∷ u.events)) (sym t.lived_on) (tt, u.may));
        lived_on = events-append (s ∷ older) t.events (Regular d.running.ring d.running.members ∷ u.events)
            ∙ ap (λ l. epochs_after_events l (Regular d.running.ring d.running.members ∷ u.events)) t.lived_on ∙ u.lived_on;
        hand = subst (λ said. MaySendAfter n.group u.epoch (t.epoch ∷ older) said (due_of_outputs object n (install d) (s ∷ older) (outs ++ installation_outputs d)))
            (sym u.sent_is)
            (subst (λ x. MaySendFirst n.group u.epoch (t.epoch ∷ older) x) (sym due)
            (first_same n.group new u.epoch (t.epoch ∷ older) (first ++ more) (sym u.members_is) may));
        stands = record {
          ring = u.ring_is;
          members = u.members_is;
          marked = k.1;
          exchange_opening = λ o p e. opens (t.epoch ∷ older) (ap (is_primary n.group) (sym u.members_is) ∙ p) (left_nil first more (sym due ∙ right_nil u.epoch.sent _ e));
        };
        rings = ap (λ r. r ∷ rings_of (t.epoch ∷ older)) u.ring_is
            ∙ ap (λ rs. d.running.ring ∷ rs) (ap (λ r. r ∷ rings_of older) t.ring_is ∙ rings ∙ ap installed_rings (sym kept));
      }
    where
      right_nil : {X : Type 0} (xs ys : List X) → xs ++ ys ≡ [] → ys ≡ []
      right_nil [] ys e = e
      right_nil (x ∷ xs) ys e = absurd (cc e)

      opens : (before : List (Epoch A)) → is_primary n.group d.running.members ≡ true → due_at_regular n.group d.running.members before ≡ [] → ⊥
      opens before p e =
          let f : Head (known_log_head (known_log_of n.group before)) ∷ [] ≡ [] = sym (cond-true (is_primary n.group d.running.members)
          (Head (known_log_head (known_log_of n.group before)) ∷ []) [] p) ∙ e in
          let x : ⊥ = cc in x
