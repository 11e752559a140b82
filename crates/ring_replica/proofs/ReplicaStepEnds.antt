-- The end of a step, in terms of the stored values: places are dropped, or none are; and what the replica reports afterwards.
use Rattle.std.proofs.Common.{◌≡◌, ℕ, ◌+◌, ◌-◌, ◌^◌, ◌≤◌, ◌<◌, ◌==◌, ◌&&◌, min, max, Bool, true, false, List, [], length, drop, Option, Some, None}
use Rattle.std.proofs.Common.{inl, inr, refl, ap, sym, ◌∙◌, subst, arith, if◌then◌else◌}
use Rattle.std.specs.Prelude.{option_map, unwrap_or, nat_le, nat_lt, fold, is_some}
use Rattle.std.proofs.lemmas.Bool.{and_parts, and_from, and_left, and_right, cond-true, cond-false, leb-true, lt-ltb, eq-eqb}
use Rattle.std.proofs.lemmas.List.{take-take}
use Rattle.ring_base.specs.Prefixes.{IsListPrefix}
use Rattle.ring_base.specs.declared.ring_id.RingId.{RingId}
use Rattle.ring_base.proofs.Cases.{some_if}
use Rattle.ring_object.specs.Operations.{Sequential}
use Rattle.ring_payload.specs.Limits.{max_snapshot}
use Rattle.ring_payload.specs.declared.call.Call.{Call as OneCall}
use Rattle.ring_payload.specs.declared.content.Payload.{Payload}
use Rattle.ring_session.specs.Snapshots.{table_snapshot}
use Rattle.ring_session.specs.Table.{Table, table_next}
use Rattle.ring_session.specs.TicketEffects.{done_after, table_effects}
use Rattle.ring_session.specs.declared.ticket_answer.TicketAnswer.{TicketAnswer}
use Rattle.ring_session.specs.declared.pending_ticket.PendingTicket.{PendingTicket}
use Rattle.ring_session.specs.TicketsState.{Tickets, answers_after_committed}
use Rattle.ring_core_spec.specs.declared.out.Out.{Out}
use Rattle.ring_log.specs.Logs.{Log, trim_after, committed_calls, committed_log, is_due_to_trim}
use Rattle.ring_log.specs.Epochs.{Epoch, epochs_with_sends, epochs_with_trim}
use Rattle.ring_log.specs.KnownLog.{KnownLog, IsKnownLog, known_log_of, retained_log}
use Rattle.ring_log.proofs.CommittedOf.{epochs_with_sends-kept}
use Rattle.ring_replication.specs.NodeSpec.{epochs_after, is_closed, table_after_places, snapshot_at, effects_at, snapshot_kept, is_restored, drops, newly_committed}
use Rattle.ring_replication.specs.Replications.{HeldLog, Replication, MayRestore, replication_trimmed}
use Rattle.ring_replica.specs.Replicas.{Replica, ReplicaGhostState, replica_view, IsIdle, IsCounted, log_before_step, newly_committed_calls, snapshot_if_due, ReplicaStepResult}
use Rattle.ring_replica.specs.Replicas.{replica_doing, replica_step, is_table_held, table_held}
use Rattle.ring_replica.proofs.SessionsUnchanged.{snapshot-on}
use Rattle.ring_replica.proofs.SteadyEpochs.{steady-known, steady-epochs_with_sends, all_dropped, kept-dropped, snapshot-dropped}
use Rattle.ring_replica.proofs.ReplicaSteps.{IsMoved, K0, K, now-is, was-is, known-was, may, log-is, runs-was, more-are, halted-counted, told}
use Rattle.ring_replica.proofs.ReplicaSteps.{due_now, step-is}

module _ {O A : Type 0} {object : Sequential O} {replication : Replication A} {table : Table O} {tickets : Tickets A} {leaving : Option (Log A)}
    {places first gone effects effects_in_step : ℕ} {stopped : Bool} {ghost_state : ReplicaGhostState A} {r : Replica A} {running : Option RingId} {outs : List (Out A)} {moved : Replication A}
    (m : IsMoved object replication table tickets leaving places first gone effects effects_in_step stopped ghost_state r running outs moved)
    (due : List (Payload A)) (table' : Table O) (applied : table' ≡ table_after_places object (K m) (K m).committed) (restored : is_restored object (K m) ≡ true)
    {effects_in_step' : ℕ} (counted : effects_in_step' ≡ effects_at object (K m) (K m).committed) where
  abbrev k : KnownLog A
  k = K m

  abbrev after : List (Epoch A)
  after = epochs_with_sends due moved.epochs

  abbrev handed : Replication A
  handed = record moved { epochs = after }

  abbrev closed : Bool
  closed = is_closed replication.group (epochs_with_sends due (epochs_after ghost_state.epochs outs))

  abbrev bytes : List ℕ
  bytes = snapshot_at object k k.committed

  after-is : known_log_of moved.group after ≡ k
  after-is = epochs_with_sends-kept moved.group due moved.epochs ∙ now-is m

  -- the snapshot of the dropped places, if places are dropped
  pub snapshot-is : {shut : Bool} → shut ≡ is_closed moved.group after
      → snapshot_if_due object shut moved.held.log table' ≡ (if drops object closed k then Some bytes else None)
  snapshot-is shut_is =
      let made : Bool → Log A → Table O → Option (List ℕ) = λ b l t. snapshot_if_due object b l t in
      ap (λ b. made b moved.held.log table') (shut_is ∙ ap (λ gr. is_closed gr after) m.group ∙ ap (λ l. is_closed replication.group (epochs_with_sends due l)) m.epochs)
      ∙ ap (λ l. made closed l table') (log-is m) ∙ ap (made closed (retained_log k)) applied

  -- the stored snapshot is that of the dropped places
  snapshot-now : 1 ≤ k.trimmed → moved.held.snapshot ≡ snapshot_kept object k
  snapshot-now low = by (may m)
    where
      by : MayRestore replication.held moved.held (K0 m) k → moved.held.snapshot ≡ snapshot_kept object k
      by (inl g) =
          let was : 1 ≤ (known_log_of replication.group replication.epochs).trimmed =
          (let e = g.known.trimmed in let w = ap (λ (y : KnownLog A). y.trimmed) (was-is m) in omega (arith, low, e, w)) in
          g.snapshot ∙ (runs-was m).snapshot was ∙ ap (snapshot_kept object) (was-is m) ∙ sym (snapshot-on object (K0 m) k g.known (known-was m))
      by (inr x) =
          x.snapshot
          ∙ sym (cond-true (nat_lt 0 k.from && (k.trimmed == k.from)) k.snapshot (snapshot_at object k k.trimmed)
          (and_from (nat_lt 0 k.from) (k.trimmed == k.from) (lt-ltb 0 k.from (let p = x.past in omega (arith, p))) (eq-eqb k.trimmed k.from x.from)))

  idle-now : MayRestore replication.held moved.held (K0 m) k → IsIdle (K0 m) k moved.held None
  idle-now (inl g) = inl (g.before ∙ m.ready.before, refl)
  idle-now (inr x) = inr x.trimmed

  -- the trimmed length doesn't fall
  grows : MayRestore replication.held moved.held (K0 m) k → (K0 m).trimmed ≤ k.trimmed
  grows (inl g) = let e = g.known.trimmed in omega (arith, e)
  grows (inr x) = let l = x.trimmed in omega (arith, l)

  halted : IsCounted object handed table' tickets leaving places first gone effects effects_in_step true ghost_state
  halted = halted-counted m.ready.counted m.ready.none m.group m.front

  ghost_state-is : known_log_of moved.group ghost_state.epochs ≡ K0 m
  ghost_state-is = ap (λ gr. known_log_of gr ghost_state.epochs) m.group

  -- nothing is dropped
  pub kept-whole : IsCounted object handed table' tickets None places first gone effects effects_in_step' false ghost_state
  kept-whole = record {
    kept = record {
      logged = halted.kept.logged;
      committed = halted.kept.committed;
      trimmed = halted.kept.trimmed;
      known = halted.kept.known;
      front = subst (λ l. IsListPrefix (committed_calls (retained_log (known_log_of moved.group ghost_state.epochs))) (committed_calls (log_before_step moved.held l))) m.ready.none
          halted.kept.front;
      answers = halted.kept.answers;
      idle = λ _. subst (λ y. IsIdle y (known_log_of moved.group after) moved.held None) (sym ghost_state-is)
          (subst (λ y. IsIdle (K0 m) y moved.held None) (sym after-is) (idle-now (may m)));
      runs = λ _. record {
        consistent = m.consistent;
        applied = applied ∙ ap (λ (y : KnownLog A). table_after_places object y y.committed) (sym after-is);
        snapshot = subst (λ (y : KnownLog A). 1 ≤ y.trimmed → moved.held.snapshot ≡ snapshot_kept object y) (sym after-is) snapshot-now;
        restored = ap (λ (y : KnownLog A). is_restored object y) after-is ∙ restored;
      };
    };
    order = halted.order;
    epochs_in_step = λ _. counted ∙ ap (λ (y : KnownLog A). effects_at object y y.committed) (sym after-is);
  }

  -- all committed places are dropped
  abbrev trimmed : Replication A
  trimmed = replication_trimmed handed (Some bytes)

  abbrev gone-log : Option (Log A)
  gone-log = Some (committed_log moved.held.log)

  trimmed-is : known_log_of moved.group (epochs_with_trim moved.held.log.committed after) ≡ all_dropped k
  trimmed-is =
      let committed : moved.held.log.committed ≡ (known_log_of moved.group after).committed =
      ap (λ (l : Log A). l.committed) (log-is m) ∙ ap (λ (y : KnownLog A). y.committed) (sym after-is) in
      ap (λ n. known_log_of moved.group (epochs_with_trim n after)) committed ∙ kept-dropped moved.group after (steady-epochs_with_sends moved.group moved.epochs due m.steady)
      ∙ ap (λ (y : KnownLog A). all_dropped y) after-is

  same-front : (before : Option (Log A)) → committed_calls (unwrap_or before (committed_log moved.held.log)) ≡ committed_calls (unwrap_or before moved.held.log)
  same-front None =
      let n = moved.held.log.committed - moved.held.log.trimmed in take-take n n moved.held.log.calls (omega arith)
  same-front (Some log) = refl

  ripe : drops object closed k ≡ true → k.trimmed < k.committed
  ripe t =
      let outer = and_parts (closed && is_due_to_trim (retained_log k)) (nat_le (length bytes) max_snapshot) t in
      let inner = and_parts closed (is_due_to_trim (retained_log k)) outer.0 in
      let many = leb-true trim_after (k.committed - k.trimmed) inner.1 in
      omega (arith, many)

  pub kept-trimmed : drops object closed k ≡ true → IsCounted object trimmed table' tickets gone-log places first gone effects effects_in_step' false ghost_state
  kept-trimmed t =
      let more = ripe t in
      record {
        kept = record {
          logged = halted.kept.logged;
          committed = halted.kept.committed;
          trimmed = halted.kept.trimmed;
          known = halted.kept.known;
          front = subst (λ l. IsListPrefix (committed_calls (retained_log (known_log_of moved.group ghost_state.epochs))) l) (sym (same-front moved.held.before))
              (subst (λ l. IsListPrefix (committed_calls (retained_log (known_log_of moved.group ghost_state.epochs))) (committed_calls (log_before_step moved.held l))) m.ready.none
              halted.kept.front);
          answers = halted.kept.answers;
          idle = λ _. inr (
              let a = ap (λ (y : KnownLog A). y.trimmed) ghost_state-is in
              let b = ap (λ (y : KnownLog A). y.trimmed) trimmed-is in
              let c = grows (may m) in
              omega (arith, a, b, c, more)
              );
          runs = λ _. record {
            consistent = m.consistent;
            applied = applied ∙ ap (λ (y : KnownLog A). table_after_places object y y.committed) (sym trimmed-is);
            snapshot = λ low. sym (ap (snapshot_kept object) trimmed-is
                ∙ snapshot-dropped object k (subst IsKnownLog (now-is m) (steady-known m.steady)) more);
            restored = ap (λ (y : KnownLog A). is_restored object y) trimmed-is ∙ restored;
          };
        };
        order = halted.order;
        epochs_in_step = λ _. counted ∙ ap (λ (y : KnownLog A). effects_at object y y.committed) (sym trimmed-is);
      }

  -- ---- both cases, by the snapshot that is taken

  abbrev snapshot_taken : Option (List ℕ)
  snapshot_taken = if drops object closed k then Some bytes else None

  counted-by : (b : Bool) → drops object closed k ≡ b
      → let taken : Option (List ℕ) = if b then Some bytes else None in
      let gone_log : Option (Log A) = option_map (λ (bs : List ℕ). committed_log moved.held.log) taken in
      IsCounted object (replication_trimmed handed taken) table' tickets gone_log places first gone effects effects_in_step' false ghost_state
  counted-by true t = kept-trimmed t
  counted-by false f = kept-whole

  -- the snapshot taken of a replication, if one is
  abbrev taken_of : Replication A → Option (List ℕ)
  taken_of h = snapshot_if_due object (is_closed h.group h.epochs) h.held.log table'

  abbrev left_of : Replication A → Option (Log A)
  left_of h = option_map (λ (bs : List ℕ). committed_log h.held.log) (taken_of h)

  taken-is : taken_of handed ≡ snapshot_taken
  taken-is = snapshot-is refl

  replication-is : {h replication' : Replication A} → h ≡ handed → replication' ≡ replication_trimmed h (taken_of h) → replication' ≡ replication_trimmed handed snapshot_taken
  replication-is same ec = ec ∙ ap (λ (x : Replication A). replication_trimmed x (taken_of x)) same ∙ ap (replication_trimmed handed) taken-is

  left-is : {h : Replication A} {leaving' : Option (Log A)} → h ≡ handed → leaving' ≡ left_of h
      → leaving' ≡ option_map (λ (bs : List ℕ). committed_log moved.held.log) snapshot_taken
  left-is same el = el ∙ ap (λ (x : Replication A). left_of x) same ∙ ap (option_map (λ (bs : List ℕ). committed_log moved.held.log)) taken-is

  -- the facts of the stored values afterwards
  pub ended-counted : {h replication' : Replication A} {leaving' : Option (Log A)} → h ≡ handed → replication' ≡ replication_trimmed h (taken_of h) → leaving' ≡ left_of h
      → IsCounted object replication' table' tickets leaving' places first gone effects effects_in_step' false ghost_state
  ended-counted {leaving'} same ec el =
      subst (λ x. IsCounted object x table' tickets leaving' places first gone effects effects_in_step' false ghost_state) (sym (replication-is same ec))
      (subst (λ x. IsCounted object (replication_trimmed handed snapshot_taken) table' tickets x places first gone effects effects_in_step' false ghost_state)
      (sym (left-is same el)) (counted-by (drops object closed k) refl))

  -- the report afterwards: this part is unchanged
  abbrev telling : List (Epoch A) → List (OneCall A) → List (OneCall A) → Replica A
  telling epochs_in_step more gone_calls =
      record {
        group = replication.group;
        me = replication.me;
        epochs = ghost_state.epochs;
        epochs_in_step = epochs_in_step;
        tickets = ghost_state.tickets;
        done = ghost_state.done;
        answers = ghost_state.answers;
        doing = more;
        leaving = gone_calls;
        stopped = false;
      }

  named : (epochs_in_step : List (Epoch A)) (more gone_calls : List (OneCall A))
      → record (telling epochs_in_step more gone_calls) { group = moved.group; me = moved.me } ≡ telling epochs_in_step more gone_calls
  named epochs_in_step more gone_calls =
      ap (λ gr. record (telling epochs_in_step more gone_calls) { group = gr; me = moved.me }) m.group
      ∙ ap (λ n. record (telling epochs_in_step more gone_calls) { me = n }) m.me

  told-by : (b : Bool)
      → let taken : Option (List ℕ) = if b then Some bytes else None in
      replica_view (replication_trimmed handed taken) (option_map (λ (bs : List ℕ). committed_log moved.held.log) taken) first false ghost_state
      ≡ telling (if b then epochs_with_trim k.committed (epochs_with_sends due (epochs_after ghost_state.epochs outs)) else epochs_with_sends due (epochs_after ghost_state.epochs outs)) (newly_committed (K0 m) k)
      (if b then committed_calls (retained_log k) else [])
  told-by true =
      let log = moved.held.log in
      let after_is : after ≡ epochs_with_sends due (epochs_after ghost_state.epochs outs) = ap (epochs_with_sends due) m.epochs in
      let many : log.committed ≡ k.committed = ap (λ (l : Log A). l.committed) (log-is m) in
      let same : committed_calls (committed_log log) ≡ committed_calls log =
      (let n = log.committed - log.trimmed in take-take n n log.calls (omega arith)) in
      let doing_is : newly_committed_calls first (committed_log log) ≡ newly_committed (K0 m) k =
      ap (λ l. drop (max first log.trimmed - log.trimmed) l) same ∙ more-are m in
      let gone_is : committed_calls log ≡ committed_calls (retained_log k) = ap (λ (l : Log A). committed_calls l) (log-is m) in
      named (epochs_with_trim log.committed after) (newly_committed_calls first (committed_log log)) (committed_calls log)
      ∙ ap (λ l. telling (epochs_with_trim log.committed l) (newly_committed_calls first (committed_log log)) (committed_calls log)) after_is
      ∙ ap (λ n. telling (epochs_with_trim n (epochs_with_sends due (epochs_after ghost_state.epochs outs))) (newly_committed_calls first (committed_log log)) (committed_calls log)) many
      ∙ ap (λ l. telling (epochs_with_trim k.committed (epochs_with_sends due (epochs_after ghost_state.epochs outs))) l (committed_calls log)) doing_is
      ∙ ap (telling (epochs_with_trim k.committed (epochs_with_sends due (epochs_after ghost_state.epochs outs))) (newly_committed (K0 m) k)) gone_is
  told-by false =
      let after_is : after ≡ epochs_with_sends due (epochs_after ghost_state.epochs outs) = ap (epochs_with_sends due) m.epochs in
      named after (newly_committed_calls first moved.held.log) []
      ∙ ap (λ l. telling l (newly_committed_calls first moved.held.log) []) after_is
      ∙ ap (λ l. telling (epochs_with_sends due (epochs_after ghost_state.epochs outs)) l []) (more-are m)

  pub ended-told : {h replication' : Replication A} {leaving' : Option (Log A)} → h ≡ handed → replication' ≡ replication_trimmed h (taken_of h) → leaving' ≡ left_of h
      → replica_view replication' leaving' first false ghost_state ≡ replica_doing object (told m) (epochs_after ghost_state.epochs outs) k due (newly_committed (K0 m) k)
  ended-told {leaving'} same ec el =
      ap (λ x. replica_view x leaving' first false ghost_state) (replication-is same ec)
      ∙ ap (λ x. replica_view (replication_trimmed handed snapshot_taken) x first false ghost_state) (left-is same el) ∙ told-by (drops object closed k)

-- a snapshot is taken only if the log is due to be trimmed
pub ripe-if : {O A : Type 0} (object : Sequential O) (b : Bool) (log : Log A) (table : Table O) → is_some (snapshot_if_due object b log table) ≡ true
    → (b ≡ true) × (is_due_to_trim log ≡ true)
ripe-if object b log table e =
    let bytes = table_snapshot object.snapshot_of table in
    let small = nat_le (length bytes) max_snapshot in
    and_parts b (is_due_to_trim log) (and_parts (b && is_due_to_trim log) small (sym (some_if (b && is_due_to_trim log && small) bytes) ∙ e)).0

-- no snapshot is taken if it isn't
pub not-ripe : {O A : Type 0} (object : Sequential O) (b : Bool) (log : Log A) (table : Table O) → is_due_to_trim log ≡ false → snapshot_if_due object b log table ≡ None
not-ripe object b log table e =
    let bytes = table_snapshot object.snapshot_of table in
    let small = nat_le (length bytes) max_snapshot in
    cond-false (b && is_due_to_trim log && small) (Some bytes) None (and_left (b && is_due_to_trim log) small (and_right b (is_due_to_trim log) e))

-- ---- the effect of the places that a step commits

-- the effect, given the stored log and the sessions before
pub record Carries {O A : Type 0} (object : Sequential O) (held : HeldLog A) (table table' : Table O) (pending : List (PendingTicket A)) (first effects : ℕ)
    (answers : List (TicketAnswer A)) (calls : List (OneCall A)) (effects_in_step' : ℕ) : Type 0 where
  pub fits : is_table_held object held ≡ true
  pub applied : table' ≡ fold (table_next object) (table_held object held table) (newly_committed_calls first held.log)
  pub given : answers ≡ answers_after_committed object (table_held object held table) pending [] (newly_committed_calls first held.log)
  pub committed : calls ≡ newly_committed_calls first held.log
  pub counted : effects_in_step'
      ≡ min (2 ^ 64 - 1) ((if is_some held.before then table_effects (table_held object held table) else effects)
      + done_after object (table_held object held table) (newly_committed_calls first held.log))

pub carries-as : {O A : Type 0} {object : Sequential O} {held held' : HeldLog A} {table table' : Table O} {pending : List (PendingTicket A)} {first effects : ℕ}
    {answers : List (TicketAnswer A)} {calls : List (OneCall A)} {effects_in_step' : ℕ}
    → held ≡ held' → Carries object held table table' pending first effects answers calls effects_in_step'
    → Carries object held' table table' pending first effects answers calls effects_in_step'
carries-as {object} {table} {table'} {pending} {first} {effects} {answers} {calls} {effects_in_step'} same k =
    subst (λ h. Carries object h table table' pending first effects answers calls effects_in_step') same k

-- the step, by whether places are due to be dropped
pub ended-step : {O A : Type 0} {object : Sequential O} {replication : Replication A} {table : Table O} {tickets : Tickets A} {leaving : Option (Log A)}
    {places first gone effects effects_in_step : ℕ} {stopped : Bool} {ghost_state : ReplicaGhostState A} {r : Replica A} {running : Option RingId} {outs : List (Out A)} {moved : Replication A}
    (m : IsMoved object replication table tickets leaving places first gone effects effects_in_step stopped ghost_state r running outs moved)
    (fits : is_table_held object moved.held ≡ true) {due : List (Payload A)} {now : Replica A} → due ≡ due_now m
    → now ≡ replica_doing object (told m) (epochs_after ghost_state.epochs outs) (K m) due (newly_committed (K0 m) (K m))
    → now ≡ (replica_step object running r outs).replica
ended-step {A} {object} {ghost_state} {outs} m fits due_is is =
    is ∙ ap (λ d. replica_doing object (told m) (epochs_after ghost_state.epochs outs) (K m) d (newly_committed (K0 m) (K m))) due_is
    ∙ ap (λ (v : ReplicaStepResult A). v.replica) (step-is m fits)
