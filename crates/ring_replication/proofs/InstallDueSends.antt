-- Due at the installation of a ring: the Head of the log before it, if the ring is primary.
use Rattle.std.proofs.Common.{◌≡◌, ℕ, true, false, List, [], ◌∷◌, ◌++◌, ap, sym, ◌∙◌, arith}
use Rattle.std.proofs.lemmas.Bool.{cond-true, cond-false}
use Rattle.std.proofs.lemmas.List.{append-nil}
use Rattle.ring_base.specs.Group.{Group, is_primary}
use Rattle.ring_base.specs.declared.ring_id.RingId.{RingId}
use Rattle.ring_payload.specs.declared.content.Payload.{Payload}
use Rattle.ring_payload.specs.declared.content.Payload.TheVariants.{Head}
use Rattle.ring_payload.specs.declared.head.Head.{Head as OneHead}
use Rattle.ring_log.specs.Logs.{log_length, head_of}
use Rattle.ring_log.specs.Epochs.{Epoch}
use Rattle.ring_log.specs.KnownLog.{known_log_of, known_log_length, retained_log, known_log_head}
use Rattle.ring_node_spec.specs.DueSends.{due_at_regular}
use Rattle.ring_replication.specs.declared.log_watermark.LogWatermark.{LogWatermark}
use Rattle.ring_replication.specs.declared.exchange_stage.ExchangeStage.{ExchangeStage}
use Rattle.ring_replication.specs.Replications.{HeldLog, IsReplicationKept}
use Rattle.ring_replication.proofs.Replications.{length-with}
use Rattle.ring_replication.proofs.ReplicationSteps.{known-epochs}

module _ {A : Type 0} {group : Group} {epochs : List (Epoch A)} {held : HeldLog A} {ring : RingId} {stage : ExchangeStage A} {mark : ℕ} {watermarks : List LogWatermark}
    (k : IsReplicationKept group epochs held ring stage mark watermarks) where
  -- the log's Head is that of the known log
  pub head-is : head_of held.log ≡ known_log_head (known_log_of group epochs)
  head-is =
      let known = known-epochs k in
      let K = known_log_of group epochs in
      let long : log_length (retained_log K) ≡ known_log_length K =
      length-with group 0 (record { seq = 0; rep = 0 }) K K K.trimmed K.committed known.low (omega (arith, known.high, known.within)) in
      ap head_of k.logged
      ∙ ap (λ n. record { last = K.last; length = n; committed = K.committed; trimmed = K.trimmed }) long

  pub due-primary : (members : ℕ) (head : OneHead) (due : List (Payload A)) → is_primary group members ≡ true → head ≡ head_of held.log
      → due ++ Head head ∷ [] ≡ due ++ due_at_regular group members epochs
  due-primary members head due primary is =
      ap (λ h. due ++ Head h ∷ []) (is ∙ head-is)
      ∙ sym (ap (λ l. due ++ l) (cond-true (is_primary group members) (Head (known_log_head (known_log_of group epochs)) ∷ []) [] primary))

-- if it isn't primary, nothing is due
pub due-apart : {A : Type 0} (group : Group) (epochs : List (Epoch A)) (members : ℕ) (due : List (Payload A)) → is_primary group members ≡ false
    → due ≡ due ++ due_at_regular group members epochs
due-apart group epochs members due apart =
    sym (append-nil due)
    ∙ sym (ap (λ l. due ++ l) (cond-false (is_primary group members) (Head (known_log_head (known_log_of group epochs)) ∷ []) [] apart))
