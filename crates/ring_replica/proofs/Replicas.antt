-- The stored values of a replica at the opening, after a ticket and at the end of a step; and what the replica reports.
use Rattle.std.proofs.Common.{◌≡◌, ℕ, ◌-◌, ◌≤◌, ◌||◌, max, nat_le, Bool, true, false, List, [], ◌++◌, length, inl, take, drop, Option, Some, None}
use Rattle.std.proofs.Common.{refl, ap, sym, ◌∙◌, subst, arith, if◌then◌else◌}
use Rattle.std.proofs.lemmas.List.{drop_all, length-take, length-drop}
use Rattle.ring_base.specs.Prefixes.{IsListPrefix, prefix_self, prefix_length}
use Rattle.ring_base.proofs.ListFronts.{take-whole}
use Rattle.ring_base.specs.Group.{Group}
use Rattle.ring_base.specs.Numbers.{max_number}
use Rattle.ring_base.specs.Processors.{only}
use Rattle.ring_base.specs.declared.fault.Fault.TheVariants.{PendingFull, Stopped}
use Rattle.ring_object.specs.Operations.{Sequential}
use Rattle.ring_payload.specs.declared.call.Call.{Call as OneCall}
use Rattle.ring_session.specs.Table.{Table, opening}
use Rattle.ring_log.specs.Logs.{Log, log_length, committed_calls}
use Rattle.ring_log.specs.Epochs.{history_opening_of, epochs_with_sends}
use Rattle.ring_log.specs.EpochHistories.{CompleteExchange}
use Rattle.ring_log.specs.KnownLog.{KnownLog, IsKnownLog, known_log_opening, known_log_after_epoch, known_log_of, known_log_length, dropped_by, retained_log}
use Rattle.ring_log.proofs.CommittedOf.{epochs_with_sends-kept}
use Rattle.ring_session.specs.declared.ticket_answer.TicketAnswer.{TicketAnswer}
use Rattle.ring_session.specs.RecentAnswers.{recent_answer_to}
use Rattle.ring_session.specs.TicketsState.{Tickets, no_tickets, may_give_no_ticket, with_ticket, with_answers, AreTickets, pending_from}
use Rattle.ring_session.specs.Tickets.{unanswered_tickets}
use Rattle.ring_session.proofs.Pendings.{are-kept, are-given, are-full, are-replies}
use Rattle.ring_replication.specs.NodeSpec.{table_after_places, effects_at, snapshot_kept, is_restored}
use Rattle.ring_replication.specs.Replications.{Replication, replication_opening, handed_if}
use Rattle.ring_replica.specs.Replicas.{Replica, ReplicaGhostState, ghost_state_opening, ghost_state_after_step, ghost_state_after_ticket, IsBetweenSteps, replica_known_log, replica_committed, replica_reply}
use Rattle.ring_replica.specs.Replicas.{replica_done, submit_refusal, current_log, log_before_step, newly_committed_calls, calls_leaving, leaving_of, replica_view}
use Rattle.ring_replica.specs.Replicas.{IsIdle, IsReplica, IsCounted}
use Rattle.ring_replication.proofs.Replications.{complete_exchange-nothing, length-with}

-- ---- the log

-- the length of the known log
pub length-known : {A : Type 0} (group : Group) (k : KnownLog A) → IsKnownLog k → log_length (retained_log k) ≡ known_log_length k
length-known group k is =
    length-with group 0 (record { seq = 0; rep = 0 }) k k k.trimmed k.committed is.low (let h = is.high in let w = is.within in omega (arith, h, w))

-- after all committed places there are no more
pub none-more : {A : Type 0} (log : Log A) → newly_committed_calls log.committed log ≡ []
none-more log =
    drop_all (max log.committed log.trimmed - log.trimmed) (committed_calls log)
    (let l = length-take (log.committed - log.trimmed) log.calls in omega (arith, l))

-- ---- the opening

history_opening_of-kept : {A : Type 0} (group : Group) (me : ℕ) → known_log_of {A = A} group (history_opening_of me) ≡ known_log_opening
history_opening_of-kept {A} group me =
    ap (λ (o : Option (CompleteExchange A)). dropped_by 0 (known_log_after_epoch (record { seq = 0; rep = me }) known_log_opening o o)) (complete_exchange-nothing group (only me))

pub history_opening-replica : {O A : Type 0} (object : Sequential O) (group : Group) (me : ℕ) (table : Table O) → table ≡ opening object.initial
    → IsReplica {A = A} object (replication_opening group me) table no_tickets None 0 0 0 false (ghost_state_opening me)
history_opening-replica {O} {A} object group me table is =
    let b = history_opening_of-kept {A = A} group me in
    record {
      logged = ap (λ (k : KnownLog A). known_log_length k) (sym b);
      committed = ap (λ (k : KnownLog A). k.committed) (sym b);
      trimmed = ap (λ (k : KnownLog A). k.trimmed) (sym b);
      known = subst IsKnownLog (sym b) (record { low = omega arith; high = omega arith; within = omega arith });
      front = subst (λ (k : KnownLog A). IsListPrefix (committed_calls (retained_log k)) []) (sym b) ([], refl);
      answers = record { given = refl; early = tt; pending = refl; kept = refl };
      idle = λ _. inl (refl, refl);
      runs = λ _. record {
        consistent = refl;
        applied = is ∙ ap (λ (k : KnownLog A). table_after_places object k k.committed) (sym b);
        snapshot = λ low. absurd (let none = ap (λ (k : KnownLog A). k.trimmed) b in omega (arith, low, none));
        restored = ap (λ (k : KnownLog A). is_restored object k) b;
      };
    }

pub history_opening-as : {O A : Type 0} (object : Sequential O) (group : Group) (me : ℕ) (replication : Replication A) (table : Table O) (tickets : Tickets A) (ghost_state : ReplicaGhostState A)
    → replication ≡ replication_opening group me → table ≡ opening object.initial → tickets ≡ no_tickets → ghost_state ≡ ghost_state_opening me
    → IsReplica object replication table tickets None 0 0 0 false ghost_state
history_opening-as object group me replication table tickets ghost_state ec e et ea =
    subst (λ x. IsReplica object x table tickets None 0 0 0 false ghost_state) (sym ec)
    (subst (λ x. IsReplica object (replication_opening group me) table x None 0 0 0 false ghost_state) (sym et)
    (subst (λ x. IsReplica object (replication_opening group me) table no_tickets None 0 0 0 false x) (sym ea) (history_opening-replica object group me table e)))

-- ---- a submit

refusal-if : (stopped a b full : Bool) → stopped ≡ false → full ≡ a || b → full ≡ false
    → (if stopped then Some Stopped else if a then Some PendingFull else if b then Some PendingFull else None) ≡ None
refusal-if true a b full s e f = absurd (cc s)
refusal-if false true b full s e f = absurd (let x = sym f ∙ e in cc x)
refusal-if false false true full s e f = absurd (let x = sym f ∙ e in cc x)
refusal-if false false false full s e f = refl

refusal-full : (stopped a b full : Bool) → stopped ≡ false → full ≡ a || b → full ≡ true
    → (if stopped then Some Stopped else if a then Some PendingFull else if b then Some PendingFull else None) ≡ Some PendingFull
refusal-full true a b full s e f = absurd (cc s)
refusal-full false true b full s e f = refl
refusal-full false false true full s e f = refl
refusal-full false false false full s e f = absurd (let x = sym f ∙ e in cc x)

open-if : (stopped a b full : Bool) → full ≡ a || b
    → (if stopped then Some Stopped else if a then Some PendingFull else if b then Some PendingFull else None) ≡ None → (stopped ≡ false) × (full ≡ false)
open-if true a b full e n = absurd (cc n)
open-if false true b full e n = absurd (cc n)
open-if false false true full e n = absurd (cc n)
open-if false false false full e n = (refl, e)

module _ {O A : Type 0} {object : Sequential O} {replication : Replication A} {table : Table O} {tickets : Tickets A} {leaving : Option (Log A)} {places first gone : ℕ}
    {stopped : Bool} {ghost_state : ReplicaGhostState A} (k : IsReplica object replication table tickets leaving places first gone stopped ghost_state) where
  abbrev Told : Replica A
  Told = replica_view replication leaving first stopped ghost_state

  full-is : may_give_no_ticket tickets ≡ nat_le 64 (length (unanswered_tickets ghost_state.done ghost_state.tickets)) || nat_le max_number (length ghost_state.tickets)
  full-is = are-full ghost_state.tickets ghost_state.done ghost_state.answers tickets k.answers

  pub may-give : {r : Replica A} → Told ≡ r → stopped ≡ false → may_give_no_ticket tickets ≡ false → submit_refusal r ≡ None
  may-give is s f =
      ap submit_refusal (sym is)
      ∙ refusal-if stopped (nat_le 64 (length (unanswered_tickets ghost_state.done ghost_state.tickets))) (nat_le max_number (length ghost_state.tickets)) (may_give_no_ticket tickets) s full-is f

  pub may-not : {r : Replica A} → Told ≡ r → stopped ≡ false → may_give_no_ticket tickets ≡ true → submit_refusal r ≡ Some PendingFull
  may-not is s f =
      ap submit_refusal (sym is)
      ∙ refusal-full stopped (nat_le 64 (length (unanswered_tickets ghost_state.done ghost_state.tickets))) (nat_le max_number (length ghost_state.tickets)) (may_give_no_ticket tickets) s full-is f

  pub is-open : {r : Replica A} → Told ≡ r → submit_refusal r ≡ None → (stopped ≡ false) × (may_give_no_ticket tickets ≡ false)
  is-open is n =
      open-if stopped (nat_le 64 (length (unanswered_tickets ghost_state.done ghost_state.tickets))) (nat_le max_number (length ghost_state.tickets)) (may_give_no_ticket tickets) full-is
      (ap submit_refusal is ∙ n)

  pub given-replica : (c : OneCall A) (runs : Bool) {replication' : Replication A} {tickets' : Tickets A} {ghost_state' : ReplicaGhostState A}
      → replication' ≡ record replication { epochs = epochs_with_sends (handed_if runs c) replication.epochs } → tickets' ≡ with_ticket tickets c → ghost_state' ≡ ghost_state_after_ticket ghost_state c runs
      → IsReplica object replication' table tickets' leaving places first gone stopped ghost_state'
  given-replica c runs {replication'} {tickets'} {ghost_state'} ec et ea =
      let due = handed_if runs c in
      let same = epochs_with_sends-kept replication.group due ghost_state.epochs in
      let epochs_in_step = epochs_with_sends-kept replication.group due replication.epochs in
      let new : ReplicaGhostState A = ghost_state_after_ticket ghost_state c runs in
      let handed : Replication A = record replication { epochs = epochs_with_sends due replication.epochs } in
      let made : IsReplica object handed table (with_ticket tickets c) leaving places first gone stopped new = record {
        logged = k.logged ∙ ap (λ (y : KnownLog A). known_log_length y) (sym same);
        committed = k.committed ∙ ap (λ (y : KnownLog A). y.committed) (sym same);
        trimmed = k.trimmed ∙ ap (λ (y : KnownLog A). y.trimmed) (sym same);
        known = subst IsKnownLog (sym same) k.known;
        front = subst (λ (y : KnownLog A). IsListPrefix (committed_calls (retained_log y)) (committed_calls (log_before_step replication.held leaving))) (sym same) k.front;
        answers = are-given ghost_state.tickets ghost_state.done ghost_state.answers tickets c k.answers;
        idle = λ s. subst (λ (y : KnownLog A). IsIdle y (known_log_of replication.group (epochs_with_sends due replication.epochs)) replication.held leaving) (sym same)
            (subst (λ (y : KnownLog A). IsIdle (known_log_of replication.group ghost_state.epochs) y replication.held leaving) (sym epochs_in_step) (k.idle s));
        runs = λ s. (let r = k.runs s in record {
          consistent = r.consistent;
          applied = r.applied ∙ ap (λ (y : KnownLog A). table_after_places object y y.committed) (sym epochs_in_step);
          snapshot = subst (λ (y : KnownLog A). 1 ≤ y.trimmed → replication.held.snapshot ≡ snapshot_kept object y) (sym epochs_in_step) r.snapshot;
          restored = ap (λ (y : KnownLog A). is_restored object y) epochs_in_step ∙ r.restored;
        });
      } in
      subst (λ x. IsReplica object x table tickets' leaving places first gone stopped ghost_state') (sym ec)
      (subst (λ x. IsReplica object handed table x leaving places first gone stopped ghost_state') (sym et)
      (subst (λ x. IsReplica object handed table (with_ticket tickets c) leaving places first gone stopped x) (sym ea) made))

  -- ---- the report

  pub reply-is : {r : Replica A} → Told ≡ r → (ticket : ℕ) → recent_answer_to ticket tickets.kept ≡ replica_reply r ticket
  reply-is is ticket = are-replies ghost_state.tickets ghost_state.done ghost_state.answers tickets ticket k.answers ∙ ap (λ (x : Replica A). replica_reply x ticket) is

  pub waiting-is : {r : Replica A} → Told ≡ r → length tickets.pending ≡ length (pending_from r.done 0 r.tickets)
  waiting-is is = ap length k.answers.pending ∙ ap (λ (x : Replica A). length (pending_from x.done 0 x.tickets)) is

  -- the number of committed places that aren't dropped
  size-told : length (committed_calls (retained_log (known_log_of replication.group ghost_state.epochs))) ≡ first - gone
  size-told =
      let known = known_log_of replication.group ghost_state.epochs in
      omega (
        arith,
        k.known.low,
        k.known.high,
        k.known.within,
        k.committed,
        k.trimmed,
        length-take (known.committed - known.trimmed) (drop (known.trimmed - known.from) known.calls),
        length-drop (known.trimmed - known.from) known.calls,
      )

  pub gone-few : gone ≤ first
  gone-few = omega (arith, k.known.high, k.committed, k.trimmed)

  pub told-bounds : {calls : List (OneCall A)} → calls ≡ committed_calls (log_before_step replication.held leaving) → first - gone ≤ length calls
  told-bounds is =
      omega (
        arith,
        prefix_length (committed_calls (retained_log (known_log_of replication.group ghost_state.epochs))) (committed_calls (log_before_step replication.held leaving)) k.front,
        size-told,
        ap length is,
      )

  pub told-committed : {r : Replica A} → Told ≡ r → {calls : List (OneCall A)} → calls ≡ committed_calls (log_before_step replication.held leaving)
      → take (first - gone) calls ≡ replica_committed r
  told-committed told {calls} is =
      let kept = committed_calls (retained_log (known_log_of replication.group ghost_state.epochs)) in
      ap (λ n. take n calls) (sym size-told) ∙ ap (take (length kept)) is ∙ take-whole kept (committed_calls (log_before_step replication.held leaving)) k.front
      ∙ ap (λ (x : Replica A). replica_committed x) told

  -- the newest adopted ring
  pub last-is : {r : Replica A} → Told ≡ r → IsBetweenSteps r → r.stopped ≡ false
      → (replication.consistent ≡ true → replication.held.log ≡ retained_log (known_log_of replication.group replication.epochs)) → replication.held.log.last ≡ (replica_known_log r).last
  last-is {r} told done runs logged =
      let s : stopped ≡ false = ap (λ (x : Replica A). x.stopped) told ∙ runs in
      let now : replica_view replication leaving first false ghost_state ≡ r = ap (λ b. replica_view replication leaving first b ghost_state) (sym s) ∙ told in
      let here : replication.epochs ≡ r.epochs = ap (λ (x : Replica A). x.epochs_in_step) now ∙ done.epochs in
      let of_course : replication.group ≡ r.group = ap (λ (x : Replica A). x.group) told in
      ap (λ (l : Log A). l.last) (logged (k.runs s).consistent) ∙ ap (λ l. (known_log_of replication.group l).last) here ∙ ap (λ gr. (known_log_of gr r.epochs).last) of_course

  -- the dropped places
  pub left-told : {r : Replica A} → Told ≡ r → stopped ≡ false → calls_leaving leaving ≡ r.leaving
  left-told told s = ap (leaving_of leaving) (sym s) ∙ ap (λ (x : Replica A). x.leaving) told

  pub none-left : {r : Replica A} → Told ≡ r → stopped ≡ true → [] ≡ r.leaving
  none-left told s = ap (leaving_of leaving) (sym s) ∙ ap (λ (x : Replica A). x.leaving) told

  -- ---- the end of a step

  pub finished-replica : (more : List (OneCall A)) (answers : List (TicketAnswer A)) {replication' : Replication A} {tickets' : Tickets A}
      {places' first' gone' : ℕ} {ghost_state' : ReplicaGhostState A} → stopped ≡ false
      → replication.held.log ≡ retained_log (known_log_of replication.group replication.epochs) → IsKnownLog (known_log_of replication.group replication.epochs)
      → replication' ≡ record replication { held = record replication.held { before = None } } → tickets' ≡ with_answers tickets more answers
      → places' ≡ log_length replication.held.log → first' ≡ replication.held.log.committed → gone' ≡ replication.held.log.trimmed
      → ghost_state' ≡ ghost_state_after_step ghost_state replication.epochs more answers
      → IsReplica object replication' table tickets' None places' first' gone' stopped ghost_state'
  finished-replica more answers {replication'} {tickets'} {places'} {first'} {gone'} {ghost_state'} s logged known ec et ep ef eg ea =
      let r = k.runs s in
      let K = known_log_of replication.group replication.epochs in
      let ended : Replication A = record replication { held = record replication.held { before = None } } in
      let now : IsReplica object ended table tickets' None places' first' gone' stopped (ghost_state_after_step ghost_state replication.epochs more answers) = record {
        logged = ep ∙ ap log_length logged ∙ length-known replication.group K known;
        committed = ef ∙ ap (λ (l : Log A). l.committed) logged;
        trimmed = eg ∙ ap (λ (l : Log A). l.trimmed) logged;
        known = known;
        front = subst (λ l. IsListPrefix (committed_calls (retained_log K)) (committed_calls l)) (sym logged) (prefix_self (committed_calls (retained_log K)));
        answers = subst (λ x. AreTickets ghost_state.tickets (ghost_state.done ++ more) (ghost_state.answers ++ answers) x) (sym et)
            (are-kept ghost_state.tickets ghost_state.done more ghost_state.answers answers tickets k.answers);
        idle = λ _. inl (refl, refl);
        runs = λ _. record { consistent = r.consistent; applied = r.applied; snapshot = r.snapshot; restored = r.restored };
      } in
      subst (λ x. IsReplica object x table tickets' None places' first' gone' stopped ghost_state') (sym ec)
      (subst (λ x. IsReplica object ended table tickets' None places' first' gone' stopped x) (sym ea) now)

  -- the report afterwards
  pub done-told : {r : Replica A} {more : List (OneCall A)} (answers : List (TicketAnswer A)) {replication' : Replication A} {first' : ℕ} {ghost_state' : ReplicaGhostState A} → stopped ≡ false
      → Told ≡ r → more ≡ newly_committed_calls first (current_log replication.held leaving)
      → replication' ≡ record replication { held = record replication.held { before = None } } → first' ≡ replication.held.log.committed
      → ghost_state' ≡ ghost_state_after_step ghost_state replication.epochs more answers
      → replica_view replication' None first' stopped ghost_state' ≡ replica_done r answers
  done-told {r} {more} answers {replication'} {first'} {ghost_state'} s is behind ec ef ea =
      let new : Replication A = record replication { held = record replication.held { before = None } } in
      let of : List (OneCall A) → List (OneCall A) → Replica A = λ l m. record {
        group = replication.group;
        me = replication.me;
        epochs = replication.epochs;
        epochs_in_step = replication.epochs;
        tickets = ghost_state.tickets;
        done = ghost_state.done ++ l;
        answers = ghost_state.answers ++ answers;
        doing = m;
        leaving = [];
        stopped = false;
      } in
      let told : replica_view replication leaving first false ghost_state ≡ r = ap (λ b. replica_view replication leaving first b ghost_state) (sym s) ∙ is in
      ap (λ c. replica_view c None first' stopped ghost_state') ec ∙ ap (λ b. replica_view new None first' b ghost_state') s
      ∙ ap (λ n. replica_view new None n false ghost_state') ef ∙ ap (replica_view new None replication.held.log.committed false) ea
      ∙ ap (of more) (none-more replication.held.log) ∙ ap (λ l. of l []) behind ∙ ap (λ (x : Replica A). replica_done x answers) told

-- ---- the number of calls that took effect

pub history_opening-counted : {O A : Type 0} (object : Sequential O) (group : Group) (me : ℕ) (replication : Replication A) (table : Table O) (tickets : Tickets A) (ghost_state : ReplicaGhostState A)
    → replication ≡ replication_opening group me → table ≡ opening object.initial → tickets ≡ no_tickets → ghost_state ≡ ghost_state_opening me
    → IsCounted object replication table tickets None 0 0 0 0 0 false ghost_state
history_opening-counted {O} {A} object group me replication table tickets ghost_state ec e et ea =
    let k = history_opening-as object group me replication table tickets ghost_state ec e et ea in
    let b = history_opening_of-kept {A = A} group me in
    let none : 0 ≡ effects_at object (known_log_of {A = A} group (history_opening_of me)) (known_log_of {A = A} group (history_opening_of me)).committed =
    ap (λ (y : KnownLog A). effects_at object y y.committed) (sym b) in
    let group_is : replication.group ≡ group = ap (λ (x : Replication A). x.group) ec in
    record {
      kept = k;
      order = none ∙ ap (λ (x : ReplicaGhostState A). effects_at object (known_log_of group x.epochs) (known_log_of group x.epochs).committed) (sym ea)
          ∙ ap (λ gr. effects_at object (known_log_of gr ghost_state.epochs) (known_log_of gr ghost_state.epochs).committed) (sym group_is);
      epochs_in_step = λ _. none ∙ ap (λ (x : Replication A). effects_at object (known_log_of x.group x.epochs) (known_log_of x.group x.epochs).committed) (sym ec);
    }

-- with another ghost state and replication that have the same known log
pub same-counted : {O A : Type 0} {object : Sequential O} {replication replication' : Replication A} {table table' : Table O}
    {tickets tickets' : Tickets A} {leaving : Option (Log A)} {places first gone effects effects_in_step : ℕ} {stopped : Bool} {ghost_state ghost_state' : ReplicaGhostState A}
    → IsCounted object replication table tickets leaving places first gone effects effects_in_step stopped ghost_state
    → IsReplica object replication' table' tickets' leaving places first gone stopped ghost_state'
    → known_log_of replication'.group ghost_state'.epochs ≡ known_log_of replication.group ghost_state.epochs
    → known_log_of replication'.group replication'.epochs ≡ known_log_of replication.group replication.epochs
    → IsCounted object replication' table' tickets' leaving places first gone effects effects_in_step stopped ghost_state'
same-counted {A} {object} k new same epochs_in_step =
    record {
      kept = new;
      order = k.order ∙ ap (λ (y : KnownLog A). effects_at object y y.committed) (sym same);
      epochs_in_step = λ s. k.epochs_in_step s ∙ ap (λ (y : KnownLog A). effects_at object y y.committed) (sym epochs_in_step);
    }

pub given-counted : {O A : Type 0} {object : Sequential O} {replication replication' : Replication A} {table : Table O}
    {tickets tickets' : Tickets A} {leaving : Option (Log A)} {places first gone effects effects_in_step : ℕ} {stopped : Bool} {ghost_state ghost_state' : ReplicaGhostState A}
    → IsCounted object replication table tickets leaving places first gone effects effects_in_step stopped ghost_state → (c : OneCall A) (runs : Bool)
    → replication' ≡ record replication { epochs = epochs_with_sends (handed_if runs c) replication.epochs } → tickets' ≡ with_ticket tickets c → ghost_state' ≡ ghost_state_after_ticket ghost_state c runs
    → IsCounted object replication' table tickets' leaving places first gone effects effects_in_step stopped ghost_state'
given-counted {A} {replication} {replication'} {ghost_state} {ghost_state'} k c runs ec et ea =
    let due = handed_if runs c in
    let of_course : Replication A → KnownLog A = λ x. known_log_of x.group x.epochs in
    let group : replication'.group ≡ replication.group = ap (λ (x : Replication A). x.group) ec in
    let epochs : ghost_state'.epochs ≡ epochs_with_sends due ghost_state.epochs = ap (λ (x : ReplicaGhostState A). x.epochs) ea in
    same-counted k (given-replica k.kept c runs ec et ea)
    (ap (λ gr. known_log_of gr ghost_state'.epochs) group ∙ ap (known_log_of replication.group) epochs ∙ epochs_with_sends-kept replication.group due ghost_state.epochs)
    (ap of_course ec ∙ epochs_with_sends-kept replication.group due replication.epochs)

pub finished-counted : {O A : Type 0} {object : Sequential O} {replication replication' : Replication A} {table : Table O}
    {tickets tickets' : Tickets A} {leaving : Option (Log A)}
    {places places' first first' gone gone' effects effects_in_step : ℕ} {stopped : Bool} {ghost_state ghost_state' : ReplicaGhostState A}
    → IsCounted object replication table tickets leaving places first gone effects effects_in_step stopped ghost_state → (more : List (OneCall A)) (answers : List (TicketAnswer A))
    → stopped ≡ false → replication.held.log ≡ retained_log (known_log_of replication.group replication.epochs) → IsKnownLog (known_log_of replication.group replication.epochs)
    → replication' ≡ record replication { held = record replication.held { before = None } } → tickets' ≡ with_answers tickets more answers
    → places' ≡ log_length replication.held.log → first' ≡ replication.held.log.committed → gone' ≡ replication.held.log.trimmed
    → ghost_state' ≡ ghost_state_after_step ghost_state replication.epochs more answers
    → IsCounted object replication' table tickets' None places' first' gone' effects_in_step effects_in_step stopped ghost_state'
finished-counted {A} {object} {replication} {ghost_state'} k more answers s logged known ec et ep ef eg ea =
    let of_course : Replication A → KnownLog A = λ x. known_log_of x.group x.epochs in
    record {
      kept = finished-replica k.kept more answers s logged known ec et ep ef eg ea;
      order = k.epochs_in_step s ∙ ap (λ (x : ReplicaGhostState A). effects_at object (known_log_of replication.group x.epochs) (known_log_of replication.group x.epochs).committed) (sym ea)
          ∙ ap (λ (x : Replication A). effects_at object (known_log_of x.group ghost_state'.epochs) (known_log_of x.group ghost_state'.epochs).committed) (sym ec);
      epochs_in_step = λ _. k.epochs_in_step s ∙ ap (λ (x : Replication A). effects_at object (of_course x) (of_course x).committed) (sym ec);
    }
