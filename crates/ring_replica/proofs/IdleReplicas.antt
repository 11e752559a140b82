-- A core's step without outputs changes nothing of a replica without places due to be dropped, and has no result.
use Rattle.std.proofs.Common.{◌≡◌, ℕ, ◌-◌, ◌&&◌, max, Bool, true, false, List, [], ◌++◌, Option, Some, None, ap, sym, ◌∙◌, arith}
use Rattle.std.proofs.Common.{append-nil, if◌then◌else◌}
use Rattle.std.specs.Prelude.{length, nat_le, nat_lt}
use Rattle.std.proofs.lemmas.Bool.{and_from, and_left, and_right, cond-false}
use Rattle.std.proofs.lemmas.List.{drop_all, length-take}
use Rattle.ring_object.specs.Operations.{Sequential}
use Rattle.ring_payload.specs.Limits.{max_snapshot}
use Rattle.ring_payload.specs.declared.call.Call.{Call as OneCall}
use Rattle.ring_session.specs.declared.ticket_answer.TicketAnswer.{TicketAnswer}
use Rattle.ring_session.specs.Tickets.{answers_after}
use Rattle.ring_log.specs.Logs.{committed_calls, is_due_to_trim}
use Rattle.ring_log.specs.Epochs.{Epoch, epochs_with_sends, epochs_with_trim}
use Rattle.ring_log.specs.KnownLog.{KnownLog, retained_log, is_known_log_sound}
use Rattle.ring_log.proofs.CommittedOf.{epochs_with_sends-nothing}
use Rattle.ring_replication.proofs.Messages.{never-less}
use Rattle.ring_replication.specs.NodeSpec.{is_closed, snapshot_at, is_restored, drops, newly_committed, table_since}
use Rattle.ring_replica.specs.Replicas.{Replica, ReplicaStepResult, IsStepIdle, IsBetweenSteps, replica_known_log, replica_still, replica_settled, replica_ended}
use Rattle.ring_replica.specs.Replicas.{restored_since}

-- if the known log is the same, nothing is newly committed
pub newly_committed-nothing : {A : Type 0} (k : KnownLog A) → newly_committed k k ≡ []
newly_committed-nothing k =
    let short = length-take (k.committed - k.trimmed) (retained_log k).calls in
    drop_all (max k.committed k.trimmed - k.trimmed) (committed_calls (retained_log k)) (omega (arith, short))

module _ {O A : Type 0} (object : Sequential O) (r : Replica A) where
  abbrev k : KnownLog A
  k = replica_known_log r

  abbrev shut : Bool
  shut = is_closed r.group (epochs_with_sends [] r.epochs)

  none-dropped : is_due_to_trim (retained_log k) ≡ false → drops object shut k ≡ false
  none-dropped unripe =
      and_left (shut && is_due_to_trim (retained_log k)) (nat_le (length (snapshot_at object k k.committed)) max_snapshot) (and_right shut (is_due_to_trim (retained_log k)) unripe)

  pub resting : IsBetweenSteps r → is_known_log_sound r.group r.epochs ≡ true → is_restored object k ≡ true → is_due_to_trim (retained_log k) ≡ false → IsStepIdle object r
  resting done sound restored green running =
      let of : List (Epoch A) → List (OneCall A) → List (OneCall A) → List (TicketAnswer A) → Option ℕ → ReplicaStepResult A = λ epochs_in_step doing leaving answers given.
      record {
        replica = record r { epochs_in_step = epochs_in_step; doing = doing; leaving = leaving };
        sends = [];
        due = [];
        answers = answers;
        restored = given;
      } in
      let epochs = epochs_with_sends [] r.epochs in
      let answers : List (OneCall A) → List (TicketAnswer A) = answers_after object (table_since object k k) r.tickets r.done in
      let since = restored_since k k in
      ap (λ b. replica_settled object b r [] r.epochs [] k) (and_from (is_known_log_sound r.group r.epochs) (is_restored object k) sound restored)
      ∙ ap (λ b. of (if b then epochs_with_trim k.committed epochs else epochs) (newly_committed k k) (if b then committed_calls (retained_log k) else []) (answers (newly_committed k k)) since)
      (none-dropped green)
      ∙ ap (λ l. of epochs l [] (answers l) since) (newly_committed-nothing k)
      ∙ ap (of epochs [] [] []) (cond-false (nat_lt k.from k.from) (Some k.from) None (never-less k.from))
      ∙ ap (λ l. of l [] [] [] None) (epochs_with_sends-nothing r.epochs ∙ sym done.epochs)
      ∙ ap (λ l. of r.epochs_in_step l [] [] None) (sym done.doing) ∙ ap (λ l. of r.epochs_in_step r.doing l [] None) (sym done.leaving)

-- such a step ends as it began
pub still-ended : {A : Type 0} (r : Replica A) → IsBetweenSteps r → replica_ended (replica_still r) ≡ r
still-ended {A} r done =
    let of : List (Epoch A) → List (OneCall A) → List (TicketAnswer A) → List (OneCall A) → List (OneCall A) → Replica A = λ epochs did answers doing leaving.
    record r { epochs = epochs; epochs_in_step = r.epochs_in_step; done = did; answers = answers; doing = doing; leaving = leaving } in
    ap (λ l. of l (r.done ++ r.doing) (r.answers ++ []) [] []) done.epochs
    ∙ ap (λ l. of r.epochs (r.done ++ l) (r.answers ++ []) [] []) done.doing
    ∙ ap (λ l. of r.epochs l (r.answers ++ []) [] []) (append-nil r.done)
    ∙ ap (λ l. of r.epochs r.done l [] []) (append-nil r.answers)
    ∙ ap (λ l. of r.epochs r.done r.answers l []) (sym done.doing) ∙ ap (of r.epochs r.done r.answers r.doing) (sym done.leaving)
