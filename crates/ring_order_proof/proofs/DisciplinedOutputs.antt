-- A life by its core's outputs: what is agreed and safe in a ring changes only the newest epoch, by events that may happen to a
-- life; and what is due.
use Rattle.std.proofs.Common.{◌≡◌, ℕ, ◌≤◌, List, [], ◌∷◌, ◌++◌, map, refl, ap, sym, ◌∙◌, subst, append_assoc, arith}
use Rattle.std.specs.Prelude.{nat_lt, if◌then◌else◌}
use Rattle.std.proofs.Math.Nat.{le_refl}
use Rattle.std.proofs.lemmas.Bool.{cond_both}
use Rattle.ring_base.specs.declared.ring_id.RingId.{RingId}
use Rattle.ring_base.specs.Group.{Group}
use Rattle.ring_object.specs.Operations.{Sequential}
use Rattle.ring_wire.specs.declared.message.Message.{Message}
use Rattle.ring_core_spec.specs.declared.out.Out.{Out}
use Rattle.ring_core_spec.specs.declared.out.Out.TheVariants.{Safe as SafeOut}
use Rattle.ring_core_spec.specs.State.{Core}
use Rattle.ring_core_spec.specs.Views.{front, mark}
use Rattle.ring_core_spec.specs.Giving.{user_messages_between, all_agreed, agreed_from, safe_from, delivered_from}
use Rattle.ring_log.specs.Epochs.{Epoch}
use Rattle.ring_log.specs.KnownLog.{known_log_of}
use Rattle.ring_node_spec.specs.EpochHistories.{epochs_after_event, epochs_after}
use Rattle.ring_node_spec.proofs.EpochsAfterOutputs.{through-append}
use Rattle.ring_node_spec.specs.Nodes.{Node}
use Rattle.ring_log_proof.specs.EpochEvents.{EpochEvent, Agreed, Safe, AllMayHappen, epochs_after_events}
use Rattle.ring_log_proof.specs.EpochEvents.{epochs_after_event as life_lived}
use Rattle.ring_order_proof.proofs.DisciplinedDueSends.{IsDue, RunsPrimary, none_due, both_due, agreed_due}
use Rattle.ring_node_spec.specs.DueSends.{due_at_output, due_of_outputs}

-- One list after another

pub due-append : {O A : Type 0} → (object : Sequential O) (n : Node A) (core : Core A) (epochs : List (Epoch A)) (xs ys : List (Out A)) →
    due_of_outputs object n core epochs (xs ++ ys) ≡ due_of_outputs object n core epochs xs ++ due_of_outputs object n core (epochs_after epochs xs) ys
due-append object n core epochs [] ys = refl
due-append object n core epochs (x ∷ xs) ys =
    ap (λ zs. due_at_output object n core epochs x ++ zs) (due-append object n core (epochs_after_event epochs x) xs ys)
    ∙ sym (append_assoc (due_at_output object n core epochs x) (due_of_outputs object n core (epochs_after_event epochs x) xs) (due_of_outputs object n core (epochs_after (epochs_after_event epochs x) xs) ys))

pub events-append : {A : Type 0} → (epochs : List (Epoch A)) (xs ys : List (EpochEvent A)) → epochs_after_events epochs (xs ++ ys) ≡ epochs_after_events (epochs_after_events epochs xs) ys
events-append epochs [] ys = refl
events-append epochs (x ∷ xs) ys = events-append (life_lived epochs x) xs ys

pub may-append : {A : Type 0} → (group : Group) (epochs : List (Epoch A)) (xs ys : List (EpochEvent A)) → AllMayHappen group epochs xs →
    AllMayHappen group (epochs_after_events epochs xs) ys → AllMayHappen group epochs (xs ++ ys)
may-append group epochs [] ys h k = k
may-append group epochs (x ∷ xs) ys h k = (h.0, may-append group (life_lived epochs x) xs ys h.1 k)

-- Outputs that don't change a life

pub silent_through : {X A : Type 0} → (f : X → Out A) → ((x : X) (epochs : List (Epoch A)) → epochs_after_event epochs (f x) ≡ epochs) → (xs : List X) (epochs : List (Epoch A)) →
    epochs_after epochs (map f xs) ≡ epochs
silent_through f h [] epochs = refl
silent_through f h (x ∷ xs) epochs = ap (λ l. epochs_after l (map f xs)) (h x epochs) ∙ silent_through f h xs epochs

pub silent_due : {O X A : Type 0} → (object : Sequential O) (n : Node A) (core : Core A) (f : X → Out A) →
    ((x : X) (epochs : List (Epoch A)) → epochs_after_event epochs (f x) ≡ epochs) →
    ((x : X) (epochs : List (Epoch A)) → due_at_output object n core epochs (f x) ≡ []) → (xs : List X) (epochs : List (Epoch A)) → due_of_outputs object n core epochs (map f xs) ≡ []
silent_due object n core f h k [] epochs = refl
silent_due object n core f h k (x ∷ xs) epochs =
    ap (λ zs. zs ++ due_of_outputs object n core (epochs_after_event epochs (f x)) (map f xs)) (k x epochs)
    ∙ silent_due object n core f h k xs (epochs_after_event epochs (f x))

-- The newest epoch after outputs of its ring

pub record IsTold {O A : Type 0} (object : Sequential O) (n : Node A) (core : Core A) (ring : RingId) (s : Epoch A) (older : List (Epoch A))
    (outs : List (Out A)) : Type 0 where
  pub epoch : Epoch A
  pub epochs : epochs_after (s ∷ older) outs ≡ epoch ∷ older
  pub events : List (EpochEvent A)
  pub may : AllMayHappen n.group (s ∷ older) events
  pub lived_on : epochs_after_events (s ∷ older) events ≡ epoch ∷ older
  pub ring_is : epoch.ring ≡ s.ring
  pub members_is : epoch.members ≡ s.members
  pub sent_is : epoch.sent ≡ s.sent
  pub due : IsDue (RunsPrimary n.group core ring s.members) (known_log_of n.group older) (due_of_outputs object n core (s ∷ older) outs)

-- agreed messages

abbrev pub heard_more : {A : Type 0} → Epoch A → List (Message A) → Epoch A
heard_more s xs = record s { heard = s.heard ++ xs }

pub agreed_told : {O A : Type 0} → (object : Sequential O) (n : Node A) (core : Core A) (ring : RingId) (s : Epoch A) (older : List (Epoch A))
    (xs : List (Message A)) →
    (t : IsTold object n core ring s older (all_agreed ring xs)) × (t.epoch.mark ≡ s.mark)
agreed_told object n core ring s older [] =
    (record { epoch = s; epochs = refl; events = []; may = tt; lived_on = refl; ring_is = refl; members_is = refl; sent_is = refl; due = none_due _ _ }, refl)
agreed_told object n core ring s older (x ∷ xs) =
    let rest = agreed_told object n core ring (heard_more s (x ∷ [])) older xs in
    let t = rest.0 in (
      record {
        epoch = t.epoch;
        epochs = t.epochs;
        events = Agreed x ∷ t.events;
        may = (tt, t.may);
        lived_on = t.lived_on;
        ring_is = t.ring_is;
        members_is = t.members_is;
        sent_is = t.sent_is;
        due = both_due _ _ _ _ (agreed_due object n core ring s older x (heard_more s (x ∷ []) ∷ older)) t.due;
      },
      rest.1,
    )

-- safe marks, which rise

abbrev safe_outs_told : {O A : Type 0} → (object : Sequential O) (n : Node A) (core : Core A) (ring : RingId) (s : Epoch A) (older : List (Epoch A)) (upto : ℕ)
    → s.mark ≤ upto →
    IsTold object n core ring s older (SafeOut ring upto ∷ [])
safe_outs_told object n core ring s older upto h =
    record {
      epoch = record s { mark = upto };
      epochs = refl;
      events = Safe upto ∷ [];
      may = (h, tt);
      lived_on = refl;
      ring_is = refl;
      members_is = refl;
      sent_is = refl;
      due = none_due _ _;
    }

abbrev none_told : {O A : Type 0} → (object : Sequential O) (n : Node A) (core : Core A) (ring : RingId) (s : Epoch A) (older : List (Epoch A))
    → IsTold object n core ring s older []
none_told object n core ring s older =
    record { epoch = s; epochs = refl; events = []; may = tt; lived_on = refl; ring_is = refl; members_is = refl; sent_is = refl; due = none_due _ _ }

safe_by : {O A : Type 0} → (object : Sequential O) (n : Node A) (core : Core A) (ring : RingId) (s : Epoch A) (older : List (Epoch A)) (m upto : ℕ)
    → s.mark ≤ m → m ≤ upto →
    (t : IsTold object n core ring s older (if nat_lt m upto then SafeOut ring upto ∷ [] else [])) × (t.epoch.mark ≤ upto)
safe_by object n core ring s older m upto below rises =
    let high : s.mark ≤ upto = omega (arith, below, rises) in
    cond_both (nat_lt m upto) (SafeOut ring upto ∷ []) [] (λ outs. (t : IsTold object n core ring s older outs) × (t.epoch.mark ≤ upto))
    (λ e. (safe_outs_told object n core ring s older upto high, le_refl upto))
    (λ e. (none_told object n core ring s older, high))

safe_told : {O A : Type 0} → (object : Sequential O) (n : Node A) (core : Core A) (c : Core A) (ring : RingId) (s : Epoch A)
    (older : List (Epoch A)) (m : ℕ) → s.mark ≤ m → m ≤ mark c ring →
    (t : IsTold object n core ring s older (safe_from c ring m)) × (t.epoch.mark ≤ mark c ring)
safe_told object n core c ring s older m below rises = safe_by object n core ring s older m (mark c ring) below rises

-- both, one after the other

pub told_then : {O A : Type 0} → (object : Sequential O) (n : Node A) (core : Core A) (ring : RingId) (s : Epoch A) (older : List (Epoch A))
    (xs ys : List (Out A)) (t : IsTold object n core ring s older xs) (u : IsTold object n core ring t.epoch older ys)
    → (v : IsTold object n core ring s older (xs ++ ys)) × (v.epoch ≡ u.epoch)
told_then {O} {A} object n core ring s older xs ys t u =
    let rest : IsDue (RunsPrimary n.group core ring s.members) (known_log_of n.group older) (due_of_outputs object n core (t.epoch ∷ older) ys) =
    subst (λ members. IsDue (RunsPrimary n.group core ring members) (known_log_of n.group older) (due_of_outputs object n core (t.epoch ∷ older) ys)) t.members_is u.due in
    let next : IsDue (RunsPrimary n.group core ring s.members) (known_log_of n.group older) (due_of_outputs object n core (epochs_after (s ∷ older) xs) ys) =
    subst (λ (l : List (Epoch A)). IsDue (RunsPrimary n.group core ring s.members) (known_log_of n.group older) (due_of_outputs object n core l ys)) (sym t.epochs) rest in (
      record {
        epoch = u.epoch;
        epochs = through-append (s ∷ older) xs ys ∙ ap (λ l. epochs_after l ys) t.epochs ∙ u.epochs;
        events = t.events ++ u.events;
        may = may-append n.group (s ∷ older) t.events u.events t.may (subst (λ (l : List (Epoch A)). AllMayHappen n.group l u.events) (sym t.lived_on) u.may);
        lived_on = events-append (s ∷ older) t.events u.events ∙ ap (λ l. epochs_after_events l u.events) t.lived_on ∙ u.lived_on;
        ring_is = u.ring_is ∙ t.ring_is;
        members_is = u.members_is ∙ t.members_is;
        sent_is = u.sent_is ∙ t.sent_is;
        due = subst (λ due. IsDue (RunsPrimary n.group core ring s.members) (known_log_of n.group older) due) (sym (due-append object n core (s ∷ older) xs ys))
            (both_due _ _ _ _ t.due next);
      },
      refl,
    )

pub delivered_told : {O A : Type 0} → (object : Sequential O) (n : Node A) (core : Core A) (c : Core A) (ring : RingId) (s : Epoch A) (older : List (Epoch A))
    (f m : ℕ) →
    s.mark ≤ m → m ≤ mark c ring → (t : IsTold object n core ring s older (delivered_from c ring f m)) × (t.epoch.mark ≤ mark c ring)
delivered_told object n core c ring s older f m below rises =
    let a = agreed_told object n core ring s older (user_messages_between c ring f (front c ring)) in
    let b = safe_told object n core c ring a.0.epoch older m (subst (λ k. k ≤ m) (sym a.1) below) rises in
    let v = told_then object n core ring s older (agreed_from c ring f) (safe_from c ring m) a.0 b.0 in
    (v.0, subst (λ (t : Epoch _). t.mark ≤ mark c ring) (sym v.1) b.1)
