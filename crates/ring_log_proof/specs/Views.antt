-- The two views of a log agree: the known log is the whole log without the places that the last restored snapshot
-- replaces.
use Rattle.std.specs.Prelude.{◌≡◌, ℕ, ◌≤◌, List, length, drop, Option}
use Rattle.ring_base.specs.Group.{Group}
use Rattle.ring_base.specs.declared.ring_id.RingId.{RingId}
use Rattle.ring_payload.specs.declared.call.Call.{Call as OneCall}
use Rattle.ring_log.specs.Epochs.{Epoch}
use Rattle.ring_log.specs.KnownLog.{KnownLog, known_log_of}
use Rattle.ring_log.specs.EpochHistories.{log_of, last_of, committed_of, trimmed_of}

-- The known log has the places of the log from `from` on, and the same committed length, trimmed length and last
-- primary.
pub record IsLogSuffix {A : Type 0} (log : List (OneCall A)) (done gone : ℕ) (newest : Option RingId) (k : KnownLog A) : Type 0 where
  pub calls : k.calls ≡ drop k.from log
  pub within : k.from ≤ length log
  pub committed : k.committed ≡ done
  pub trimmed : k.trimmed ≡ gone
  pub last : k.last ≡ newest
  pub low : k.from ≤ k.trimmed
  pub high : k.trimmed ≤ k.committed

-- The known log of these epochs is the rest of their whole log.
abbrev pub IsView : {A : Type 0} → Group → List (Epoch A) → Type 0
IsView group epochs = IsLogSuffix (log_of group epochs) (length (committed_of group epochs)) (trimmed_of group epochs) (last_of group epochs) (known_log_of group epochs)
