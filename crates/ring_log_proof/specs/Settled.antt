-- Settled calls: prefixes of the logs that can never change.
-- Rules: The replicated log 6, 12, 16 and 17
use Rattle.std.specs.Prelude.{◌≡◌, ℕ, List, Some}
use Rattle.ring_base.specs.Prefixes.{IsListPrefix}
use Rattle.ring_base.specs.Group.{Group}
use Rattle.ring_base.specs.declared.ring_id.RingId.{RingId}
use Rattle.ring_payload.specs.declared.call.Call.{Call as OneCall}
use Rattle.ring_log.specs.Messages.{Message}
use Rattle.ring_log.specs.Epochs.{Epoch}
use Rattle.ring_log.specs.EpochHistories.{ring_log}
use Rattle.ring_log_proof.specs.RingFacts.{IsReceivedByAll}

-- The log of a primary ring after a prefix of its text that holds its whole exchange and that every member received.
pub record SafeLog {A : Type 0} (group : Group) (node_epochs : ℕ → List (Epoch A)) (members : RingId → ℕ) : Type 0 where
  pub ring : RingId
  pub front : List (Message A)
  pub log : List (OneCall A)
  pub is : ring_log group node_epochs ring (members ring) front ≡ Some log
  pub safe : IsReceivedByAll node_epochs ring (members ring) front

-- The calls are settled: a prefix of a safe log.
abbrev pub IsSettled : {A : Type 0} → Group → (ℕ → List (Epoch A)) → (RingId → ℕ) → List (OneCall A) → Type 0
IsSettled group node_epochs members calls = (safe : SafeLog group node_epochs members) × IsListPrefix calls safe.log
