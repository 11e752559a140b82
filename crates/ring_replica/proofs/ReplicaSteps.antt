-- The effect of a step on the stored values, and its result: whether the replication continues or stops.
use Rattle.std.proofs.Common.{◌≡◌, ℕ, zero, suc, ◌+◌, ◌-◌, ◌^◌, ◌≤◌, ◌&&◌, min, Bool, true, false, List, [], ◌++◌, Option, Some, None, inl, inr}
use Rattle.std.proofs.Common.{refl, ap, sym, ◌∙◌, subst, arith, if◌then◌else◌}
use Rattle.std.specs.Prelude.{fold, is_some, nat_lt}
use Rattle.std.proofs.lemmas.Bool.{cond-true, cond-false, lt-ltb}
use Rattle.ring_base.specs.Prefixes.{IsListPrefix, prefix_trans}
use Rattle.ring_base.specs.Group.{Group}
use Rattle.ring_base.specs.declared.ring_id.RingId.{RingId}
use Rattle.ring_object.specs.Operations.{Sequential}
use Rattle.ring_payload.specs.declared.call.Call.{Call as OneCall}
use Rattle.ring_payload.specs.declared.content.Payload.{Payload}
use Rattle.ring_session.specs.Table.{Table, table_next}
use Rattle.ring_session.specs.TicketEffects.{done_after, table_effects}
use Rattle.ring_core_spec.specs.declared.out.Out.{Out}
use Rattle.ring_log.specs.Logs.{Log, committed_calls}
use Rattle.ring_log.specs.Epochs.{Epoch}
use Rattle.ring_log.specs.KnownLog.{KnownLog, IsKnownLog, known_log_of, known_log_length, retained_log, is_known_log_sound}
use Rattle.ring_session.specs.declared.ticket_answer.TicketAnswer.{TicketAnswer}
use Rattle.ring_session.specs.declared.pending_ticket.PendingTicket.{PendingTicket}
use Rattle.ring_session.specs.TicketsState.{Tickets, answers_after_committed, pending_from}
use Rattle.ring_session.specs.Tickets.{answers_after}
use Rattle.ring_session.proofs.Pendings.{are-answers}
use Rattle.ring_replication.specs.NodeSpec.{epochs_after, table_after_places, effects_at, snapshot_kept, is_restored, newly_committed, table_since}
use Rattle.ring_replication.specs.Replications.{Replication, StepContext, due_sends_by, reported_log, MayRestore, IsHeldLogContinued, HasSoundEpochs}
use Rattle.ring_replica.specs.Replicas.{Replica, ReplicaStepResult, ReplicaGhostState, IsBetweenSteps, IsIdle, IsRunningReplica, IsReplica, IsCounted, replica_view, replica_known_log}
use Rattle.ring_replica.specs.Replicas.{replica_stopped, log_before_step, newly_committed_calls, moment_of, restored_since, replica_settled, replica_step}
use Rattle.ring_replica.specs.Replicas.{is_table_held, table_held}
use Rattle.ring_replica.proofs.FirstDueSends.{due_sends-first}
use Rattle.ring_replication.proofs.Messages.{never-less}
use Rattle.ring_replica.proofs.SteadyEpochs.{steady-known}
use Rattle.ring_replica.proofs.SessionTableSteps.{held-since, held-restored, table-done, effects-done}

-- ---- it stops

-- another replication of the same node, whose committed places only grew
module _ {O A : Type 0} {object : Sequential O} {replication : Replication A} {table : Table O} {tickets : Tickets A} {leaving : Option (Log A)} {places first gone : ℕ}
    {stopped : Bool} {ghost_state : ReplicaGhostState A} (k : IsReplica object replication table tickets leaving places first gone stopped ghost_state) where
  halted-replica : {replication' : Replication A} {table' : Table O} → leaving ≡ None → replication'.group ≡ replication.group
      → IsListPrefix (committed_calls (reported_log replication.held)) (committed_calls (reported_log replication'.held))
      → IsReplica object replication' table' tickets leaving places first gone true ghost_state
  halted-replica {replication'} none same front =
      let kept = committed_calls (retained_log (known_log_of replication.group ghost_state.epochs)) in
      let was : IsListPrefix kept (committed_calls (reported_log replication.held)) =
      subst (λ l. IsListPrefix kept (committed_calls (log_before_step replication.held l))) none k.front in
      record {
        logged = k.logged ∙ ap (λ gr. known_log_length (known_log_of gr ghost_state.epochs)) (sym same);
        committed = k.committed ∙ ap (λ gr. (known_log_of gr ghost_state.epochs).committed) (sym same);
        trimmed = k.trimmed ∙ ap (λ gr. (known_log_of gr ghost_state.epochs).trimmed) (sym same);
        known = subst (λ gr. IsKnownLog (known_log_of gr ghost_state.epochs)) (sym same) k.known;
        front = subst (λ gr. IsListPrefix (committed_calls (retained_log (known_log_of gr ghost_state.epochs))) (committed_calls (log_before_step replication'.held leaving))) (sym same)
            (subst (λ l. IsListPrefix kept (committed_calls (log_before_step replication'.held l))) (sym none)
            (prefix_trans kept (committed_calls (reported_log replication.held)) (committed_calls (reported_log replication'.held)) was front));
        answers = k.answers;
        idle = λ s. absurd (cc s);
        runs = λ s. absurd (cc s);
      }

module _ {O A : Type 0} {object : Sequential O} {replication : Replication A} {table : Table O} {tickets : Tickets A} {leaving : Option (Log A)}
    {places first gone effects effects_in_step : ℕ} {stopped : Bool} {ghost_state : ReplicaGhostState A}
    (k : IsCounted object replication table tickets leaving places first gone effects effects_in_step stopped ghost_state) where
  pub halted-counted : {replication' : Replication A} {table' : Table O} → leaving ≡ None → replication'.group ≡ replication.group
      → IsListPrefix (committed_calls (reported_log replication.held)) (committed_calls (reported_log replication'.held))
      → IsCounted object replication' table' tickets leaving places first gone effects effects_in_step true ghost_state
  halted-counted none same front =
      record {
        kept = halted-replica k.kept none same front;
        order = k.order ∙ ap (λ gr. effects_at object (known_log_of gr ghost_state.epochs) (known_log_of gr ghost_state.epochs).committed) (sym same);
        epochs_in_step = λ s. absurd (cc s);
      }

  -- after its life was extended, and after more
  pub halted-later : (moved later replication' : Replication A) {table' : Table O} (epochs : List (Epoch A)) → leaving ≡ None → moved.group ≡ replication.group
      → IsListPrefix (committed_calls (reported_log replication.held)) (committed_calls (reported_log moved.held)) → later ≡ record moved { epochs = epochs } → replication' ≡ later
      → IsCounted object replication' table' tickets leaving places first gone effects effects_in_step true ghost_state
  halted-later moved later replication' {table'} epochs none same front is now =
      subst (λ x. IsCounted object x table' tickets leaving places first gone effects effects_in_step true ghost_state) (sym (now ∙ is)) (halted-counted none same front)

-- the report afterwards
pub stopped-same : {A : Type 0} {told r : Replica A} {group : Group} {me : ℕ} → told ≡ r → group ≡ told.group → me ≡ told.me
    → record told { group = group; me = me; epochs_in_step = told.epochs; doing = []; leaving = []; stopped = true } ≡ replica_stopped r
stopped-same {A} {told} {me} is same at =
    let of_group : Group → Replica A = λ x. record told { group = x; me = me; epochs_in_step = told.epochs; doing = []; leaving = []; stopped = true } in
    let of_me : ℕ → Replica A = λ x. record told { me = x; epochs_in_step = told.epochs; doing = []; leaving = []; stopped = true } in
    ap of_group same ∙ ap of_me at ∙ ap replica_stopped is

-- ---- before a step

-- the replica runs, its last step is finished, and this is its report
pub record IsReady {O A : Type 0} (object : Sequential O) (replication : Replication A) (table : Table O) (tickets : Tickets A) (leaving : Option (Log A))
    (places first gone effects effects_in_step : ℕ) (stopped : Bool) (ghost_state : ReplicaGhostState A) (r : Replica A) : Type 0 where
  pub counted : IsCounted object replication table tickets leaving places first gone effects effects_in_step stopped ghost_state
  pub runs : stopped ≡ false
  pub here : replication.epochs ≡ ghost_state.epochs
  pub told : replica_view replication leaving first false ghost_state ≡ r
  pub consistent : replication.consistent ≡ true
  pub before : replication.held.before ≡ None
  pub none : leaving ≡ None

pub ready : {O A : Type 0} {object : Sequential O} {replication : Replication A} {table : Table O} {tickets : Tickets A} {leaving : Option (Log A)}
    {places first gone effects effects_in_step : ℕ} {stopped : Bool} {ghost_state : ReplicaGhostState A} {r : Replica A}
    → IsCounted object replication table tickets leaving places first gone effects effects_in_step stopped ghost_state → replica_view replication leaving first stopped ghost_state ≡ r
    → IsBetweenSteps r → r.stopped ≡ false → IsReady object replication table tickets leaving places first gone effects effects_in_step stopped ghost_state r
ready {A} {replication} {leaving} {first} {stopped} {ghost_state} {r} k is done runs =
    let t : stopped ≡ false = ap (λ (v : Replica A). v.stopped) is ∙ runs in
    let told : replica_view replication leaving first false ghost_state ≡ r = ap (λ b. replica_view replication leaving first b ghost_state) (sym t) ∙ is in
    let here : replication.epochs ≡ ghost_state.epochs = ap (λ (v : Replica A). v.epochs_in_step) told ∙ done.epochs ∙ sym (ap (λ (v : Replica A). v.epochs) told) in
    let nothing = idle-none here (k.kept.idle t) in
    record { counted = k; runs = t; here = here; told = told; consistent = (k.kept.runs t).consistent; before = nothing.0; none = nothing.1 }
  where
    idle-none : replication.epochs ≡ ghost_state.epochs → IsIdle (known_log_of replication.group ghost_state.epochs) (known_log_of replication.group replication.epochs) replication.held leaving
        → (replication.held.before ≡ None) × (leaving ≡ None)
    idle-none here (inl nothing) = nothing
    idle-none here (inr less) = absurd (let e = ap (λ l. (known_log_of replication.group l).trimmed) here in omega (arith, less, e))

-- the outputs of a step turned its replication into another one, of a sound life
pub record IsMoved {O A : Type 0} (object : Sequential O) (replication : Replication A) (table : Table O) (tickets : Tickets A) (leaving : Option (Log A))
    (places first gone effects effects_in_step : ℕ) (stopped : Bool) (ghost_state : ReplicaGhostState A) (r : Replica A)
    (running : Option RingId) (outs : List (Out A)) (moved : Replication A) : Type 0 where
  pub ready : IsReady object replication table tickets leaving places first gone effects effects_in_step stopped ghost_state r
  pub group : moved.group ≡ replication.group
  pub me : moved.me ≡ replication.me
  pub front : IsListPrefix (committed_calls (reported_log replication.held)) (committed_calls (reported_log moved.held))
  pub consistent : moved.consistent ≡ true
  pub onward : IsHeldLogContinued replication.held moved.held (known_log_of replication.group replication.epochs) (known_log_of moved.group moved.epochs)
  pub logged : replication.held.log ≡ retained_log (known_log_of replication.group replication.epochs)
  pub log : moved.held.log ≡ retained_log (known_log_of moved.group moved.epochs)
  pub steady : HasSoundEpochs moved.group moved.epochs
  pub was : HasSoundEpochs replication.group replication.epochs
  pub epochs : moved.epochs ≡ epochs_after ghost_state.epochs outs
  pub sound : is_known_log_sound replication.group (epochs_after ghost_state.epochs outs) ≡ true

-- a step that stops has no result
pub record IsEmptyResult {O A : Type 0} (object : Sequential O) (running : Option RingId) (r : Replica A) (outs : List (Out A)) : Type 0 where
  pub replica : replica_stopped r ≡ (replica_step object running r outs).replica
  pub due : [] ≡ (replica_step object running r outs).due
  pub answers : [] ≡ (replica_step object running r outs).answers
  pub doing : [] ≡ (replica_step object running r outs).replica.doing
  pub restored : None ≡ (replica_step object running r outs).restored

-- the result of a step that stops
abbrev nothing_by : {A : Type 0} → Replica A → ReplicaStepResult A
nothing_by r = record { replica = replica_stopped r; sends = []; due = []; answers = []; restored = None }

gives-nothing : {O A : Type 0} (object : Sequential O) (running : Option RingId) (r : Replica A) (outs : List (Out A))
    → nothing_by r ≡ replica_step object running r outs → IsEmptyResult object running r outs
gives-nothing {A} object running r outs e =
    record {
      replica = ap (λ (v : ReplicaStepResult A). v.replica) e;
      due = ap (λ (v : ReplicaStepResult A). v.due) e;
      answers = ap (λ (v : ReplicaStepResult A). v.answers) e;
      doing = ap (λ (v : ReplicaStepResult A). v.replica.doing) e;
      restored = ap (λ (v : ReplicaStepResult A). v.restored) e;
    }

-- the known log of the replication is the reported one
module _ {O A : Type 0} {object : Sequential O} {replication : Replication A} {table : Table O} {tickets : Tickets A} {leaving : Option (Log A)}
    {places first gone effects effects_in_step : ℕ} {stopped : Bool} {ghost_state : ReplicaGhostState A} {r : Replica A}
    (b : IsReady object replication table tickets leaving places first gone effects effects_in_step stopped ghost_state r) where
  pub steady-was : HasSoundEpochs replication.group replication.epochs → HasSoundEpochs r.group r.epochs
  steady-was is = subst (λ (v : Replica A). HasSoundEpochs v.group v.epochs) b.told (subst (λ l. HasSoundEpochs replication.group l) b.here is)

  pub sound-was : is_known_log_sound replication.group replication.epochs ≡ true → is_known_log_sound r.group r.epochs ≡ true
  sound-was is = subst (λ (v : Replica A). is_known_log_sound v.group v.epochs ≡ true) b.told (subst (λ l. is_known_log_sound replication.group l ≡ true) b.here is)

  pub kept-was : known_log_of replication.group replication.epochs ≡ replica_known_log r
  kept-was = ap (known_log_of replication.group) b.here ∙ ap (λ (v : Replica A). replica_known_log v) b.told

module _ {O A : Type 0} {object : Sequential O} {replication : Replication A} {table : Table O} {tickets : Tickets A} {leaving : Option (Log A)}
    {places first gone effects effects_in_step : ℕ} {stopped : Bool} {ghost_state : ReplicaGhostState A} {r : Replica A}
    (b : IsReady object replication table tickets leaving places first gone effects effects_in_step stopped ghost_state r) (running : Option RingId) (outs : List (Out A)) where
  sound-here : {consistent : Bool} → consistent ≡ is_known_log_sound replication.group (epochs_after replication.epochs outs)
      → consistent ≡ is_known_log_sound replication.group (epochs_after ghost_state.epochs outs)
  sound-here is = is ∙ ap (λ l. is_known_log_sound replication.group (epochs_after l outs)) b.here

  -- the case that the longer life isn't sound
  pub step-halted : {consistent : Bool} → consistent ≡ is_known_log_sound replication.group (epochs_after replication.epochs outs) → consistent ≡ false → IsEmptyResult object running r outs
  step-halted is not =
      let epochs = epochs_after r.epochs outs in
      let k = known_log_of r.group epochs in
      gives-nothing object running r outs
      (ap (λ x. replica_settled object (x && is_restored object k) r outs epochs (due_sends_by (moment_of object running r) r.epochs outs) k)
      (sym not ∙ sound-here is ∙ ap (λ (v : Replica A). is_known_log_sound v.group (epochs_after v.epochs outs)) b.told))

  pub moved-by : (moved : Replication A) → moved.group ≡ replication.group → moved.me ≡ replication.me
      → IsListPrefix (committed_calls (reported_log replication.held)) (committed_calls (reported_log moved.held)) → moved.consistent ≡ true
      → (moved.consistent ≡ true → IsHeldLogContinued replication.held moved.held (known_log_of replication.group replication.epochs) (known_log_of moved.group moved.epochs))
      → replication.held.log ≡ retained_log (known_log_of replication.group replication.epochs) → (moved.consistent ≡ true → moved.held.log ≡ retained_log (known_log_of moved.group moved.epochs))
      → HasSoundEpochs replication.group replication.epochs → (moved.consistent ≡ true → HasSoundEpochs moved.group moved.epochs)
      → moved.consistent ≡ is_known_log_sound replication.group (epochs_after replication.epochs outs) → (moved.consistent ≡ true → moved.epochs ≡ epochs_after replication.epochs outs)
      → IsMoved object replication table tickets leaving places first gone effects effects_in_step stopped ghost_state r running outs moved
  moved-by moved group me front consistent onward logged log was steady is epochs =
      record {
        ready = b;
        group = group;
        me = me;
        front = front;
        consistent = consistent;
        onward = onward consistent;
        logged = logged;
        log = log consistent;
        steady = steady consistent;
        was = was;
        epochs = epochs consistent ∙ ap (λ l. epochs_after l outs) b.here;
        sound = sym (sound-here is) ∙ consistent;
      }

-- ---- it continues

module _ {O A : Type 0} {object : Sequential O} {replication : Replication A} {table : Table O} {tickets : Tickets A} {leaving : Option (Log A)}
    {places first gone effects effects_in_step : ℕ} {stopped : Bool} {ghost_state : ReplicaGhostState A} {r : Replica A} {running : Option RingId} {outs : List (Out A)} {moved : Replication A}
    (m : IsMoved object replication table tickets leaving places first gone effects effects_in_step stopped ghost_state r running outs moved) where
  -- the known log before and now
  abbrev pub K0 : KnownLog A
  K0 = known_log_of replication.group ghost_state.epochs

  abbrev pub K : KnownLog A
  K = known_log_of replication.group (epochs_after ghost_state.epochs outs)

  pub now-is : known_log_of moved.group moved.epochs ≡ K
  now-is = ap (λ gr. known_log_of gr moved.epochs) m.group ∙ ap (known_log_of replication.group) m.epochs

  pub was-is : known_log_of replication.group replication.epochs ≡ K0
  was-is = ap (known_log_of replication.group) m.ready.here

  pub known-was : IsKnownLog K0
  known-was = subst IsKnownLog was-is (steady-known m.was)

  pub may : MayRestore replication.held moved.held K0 K
  may = subst (λ y. MayRestore replication.held moved.held K0 y) now-is
      (subst (λ y. MayRestore replication.held moved.held y (known_log_of moved.group moved.epochs)) was-is m.onward.held)

  pub log-is : moved.held.log ≡ retained_log K
  log-is = m.log ∙ ap retained_log now-is

  pub first-is : first ≡ K0.committed
  first-is = m.ready.counted.kept.committed

  pub runs-was : IsRunningReplica object replication table
  runs-was = m.ready.counted.kept.runs m.ready.runs

  table-was : table ≡ table_after_places object K0 K0.committed
  table-was = runs-was.applied ∙ ap (λ (y : KnownLog A). table_after_places object y y.committed) was-is

  restored-was : is_restored object K0 ≡ true
  restored-was = ap (λ (y : KnownLog A). is_restored object y) (sym was-is) ∙ runs-was.restored

  -- the restored bytes are a snapshot
  pub restores-is : is_table_held object moved.held ≡ is_restored object K
  restores-is = held-restored object replication.held moved.held K0 K known-was m.ready.before restored-was may

  pub sessions-are : table_held object moved.held table ≡ table_since object K0 K
  sessions-are = held-since object replication.held moved.held K0 K known-was m.ready.before table table-was may

  pub more-are : newly_committed_calls first moved.held.log ≡ newly_committed K0 K
  more-are = ap (λ n. newly_committed_calls n moved.held.log) first-is ∙ ap (newly_committed_calls K0.committed) log-is

  pub applied-is : {table' : Table O} → table' ≡ fold (table_next object) (table_held object moved.held table) (newly_committed_calls first moved.held.log)
      → table' ≡ table_after_places object K K.committed
  applied-is is =
      is ∙ ap (λ t. fold (table_next object) t (newly_committed_calls first moved.held.log)) sessions-are ∙ ap (fold (table_next object) (table_since object K0 K)) more-are
      ∙ table-done object replication.held moved.held K0 K known-was m.ready.before may

  pub effects-are : {effects_in_step' : ℕ}
      → effects_in_step' ≡ min (2 ^ 64 - 1) ((if is_some moved.held.before then table_effects (table_held object moved.held table) else effects)
      + done_after object (table_held object moved.held table) (newly_committed_calls first moved.held.log))
      → effects_in_step' ≡ effects_at object K K.committed
  effects-are is =
      let of : Table O → List (OneCall A) → ℕ = λ t l.
      min (2 ^ 64 - 1) ((if is_some moved.held.before then table_effects t else effects) + done_after object t l) in
      is ∙ ap (λ (t : Table O). of t (newly_committed_calls first moved.held.log)) sessions-are ∙ ap (of (table_since object K0 K)) more-are
      ∙ effects-done object replication.held moved.held K0 K known-was m.ready.before effects m.ready.counted.order may

  -- the answers
  pub answers-are : {pending : List (PendingTicket A)} {answers : List (TicketAnswer A)} → pending ≡ tickets.pending
      → answers ≡ answers_after_committed object (table_held object moved.held table) pending [] (newly_committed_calls first moved.held.log)
      → answers ≡ answers_after object (table_since object K0 K) ghost_state.tickets ghost_state.done (newly_committed K0 K)
  answers-are waits is =
      is ∙ ap (λ ps. answers_after_committed object (table_held object moved.held table) ps [] (newly_committed_calls first moved.held.log)) waits
      ∙ ap (λ t. answers_after_committed object t tickets.pending [] (newly_committed_calls first moved.held.log)) sessions-are
      ∙ ap (answers_after_committed object (table_since object K0 K) tickets.pending []) more-are
      ∙ are-answers object (table_since object K0 K) ghost_state.tickets ghost_state.done (newly_committed K0 K) ghost_state.answers tickets m.ready.counted.kept.answers

  -- ---- the result

  abbrev pub told : Replica A
  told = replica_view replication leaving first false ghost_state

  abbrev pub due_now : List (Payload A)
  due_now = due_sends_by (moment_of object running told) ghost_state.epochs outs

  pub step-by : (b : Bool) → is_restored object K ≡ b
      → replica_settled object b told outs (epochs_after ghost_state.epochs outs) due_now K ≡ replica_step object running r outs
  step-by b is =
      ap (λ x. replica_settled object x told outs (epochs_after ghost_state.epochs outs) due_now K)
      (sym is ∙ ap (λ s. s && is_restored object K) (sym m.sound))
      ∙ ap (λ (x : Replica A). replica_step object running x outs) m.ready.told

  -- the case that the restored bytes are no snapshot
  pub step-lost : is_table_held object moved.held ≡ false → IsEmptyResult object running r outs
  step-lost not =
      gives-nothing object running r outs (ap (λ (x : Replica A). nothing_by x) (sym m.ready.told) ∙ step-by false (sym restores-is ∙ not))

  -- due payloads depend on the stored snapshot only if it stands for some places
  bytes-here : (n : ℕ) → K0.trimmed ≡ n
      → due_sends_by (record (moment_of object running told) { snapshot = replication.held.snapshot }) ghost_state.epochs outs ≡ due_now
  bytes-here zero none = due_sends-first (moment_of object running told) replication.held.snapshot none ghost_state.epochs outs
  bytes-here (suc n) e =
      let some : 1 ≤ (known_log_of replication.group replication.epochs).trimmed = (let w = ap (λ (y : KnownLog A). y.trimmed) was-is in omega (arith, e, w)) in
      ap (λ bs. due_sends_by (record (moment_of object running told) { snapshot = bs }) ghost_state.epochs outs) (runs-was.snapshot some ∙ ap (snapshot_kept object) was-is)

  module _ (fits : is_table_held object moved.held ≡ true) where
    pub restored-now : is_restored object K ≡ true
    restored-now = sym restores-is ∙ fits

    pub step-is : replica_settled object true told outs (epochs_after ghost_state.epochs outs) due_now K ≡ replica_step object running r outs
    step-is = step-by true restored-now

    pub due-are : {pending : List (PendingTicket A)} {before due : List (Payload A)} → pending ≡ tickets.pending → before ≡ []
        → due ≡ before ++ due_sends_by (record {
          group = replication.group;
          me = replication.me;
          running = running;
          pending = pending;
          committed = first;
          trimmed = replication.held.log.trimmed;
          snapshot = replication.held.snapshot;
        }) replication.epochs outs
        → due ≡ due_now
    due-are {pending} waits none is =
        let of : List (PendingTicket A) → ℕ → ℕ → StepContext A = λ ps n g. record {
          group = replication.group;
          me = replication.me;
          running = running;
          pending = ps;
          committed = n;
          trimmed = g;
          snapshot = replication.held.snapshot;
        } in
        let all = pending_from ghost_state.done 0 ghost_state.tickets in
        let gone_is : replication.held.log.trimmed ≡ K0.trimmed = ap (λ (l : Log A). l.trimmed) m.logged ∙ ap (λ (y : KnownLog A). y.trimmed) was-is in
        is ∙ ap (λ l. l ++ due_sends_by (of pending first replication.held.log.trimmed) replication.epochs outs) none
        ∙ ap (λ ps. due_sends_by (of ps first replication.held.log.trimmed) replication.epochs outs) (waits ∙ m.ready.counted.kept.answers.pending)
        ∙ ap (λ n. due_sends_by (of all n replication.held.log.trimmed) replication.epochs outs) first-is
        ∙ ap (λ g. due_sends_by (of all K0.committed g) replication.epochs outs) gone_is
        ∙ ap (λ l. due_sends_by (of all K0.committed K0.trimmed) l outs) m.ready.here
        ∙ bytes-here K0.trimmed refl

    pub due-is : {due : List (Payload A)} → due ≡ due_now → due ≡ (replica_step object running r outs).due
    due-is is = is ∙ ap (λ (v : ReplicaStepResult A). v.due) step-is

    pub answers-told : {pending : List (PendingTicket A)} {answers : List (TicketAnswer A)} → pending ≡ tickets.pending
        → answers ≡ answers_after_committed object (table_held object moved.held table) pending [] (newly_committed_calls first moved.held.log)
        → answers ≡ (replica_step object running r outs).answers
    answers-told waits is = answers-are waits is ∙ ap (λ (v : ReplicaStepResult A). v.answers) step-is

    pub committed-told : {calls : List (OneCall A)} → calls ≡ newly_committed_calls first moved.held.log → calls ≡ (replica_step object running r outs).replica.doing
    committed-told is = is ∙ more-are ∙ ap (λ (v : ReplicaStepResult A). v.replica.doing) step-is

    -- a snapshot was restored if the log at the end of the last step was another one
    pub restored-told : {restored : Option ℕ} → restored ≡ (if is_some moved.held.before then Some moved.held.log.trimmed else None)
        → restored ≡ (replica_step object running r outs).restored
    restored-told is = is ∙ by may ∙ ap (λ (v : ReplicaStepResult A). v.restored) step-is
      where
        by : MayRestore replication.held moved.held K0 K → (if is_some moved.held.before then Some moved.held.log.trimmed else None) ≡ restored_since K0 K
        by (inl x) =
            ap (λ (o : Option (Log A)). if is_some o then Some moved.held.log.trimmed else None) (x.before ∙ m.ready.before)
            ∙ sym (cond-false (nat_lt K0.from K.from) (Some K.from) None (ap (nat_lt K0.from) x.known.from ∙ never-less K0.from))
        by (inr x) =
            ap (λ b. if b then Some moved.held.log.trimmed else None) x.before
            ∙ ap (λ n. Some n) (ap (λ (l : Log A). l.trimmed) log-is ∙ x.from)
            ∙ sym (cond-true (nat_lt K0.from K.from) (Some K.from) None (lt-ltb K0.from K.from (omega (arith, x.past, known-was.low, known-was.high))))
