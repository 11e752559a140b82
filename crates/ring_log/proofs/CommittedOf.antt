-- At a node's opening nothing is committed. Payloads handed over commit nothing, and dropping places changes nothing that was
-- restored.
use Rattle.std.proofs.Common.{◌≡◌, ℕ, [], refl, ap, List, ◌∷◌, append-nil}
use Rattle.ring_base.specs.Group.{Group}
use Rattle.ring_log.specs.Epochs.{Epoch, epochs_with_sends, epochs_with_trim}
use Rattle.ring_log.specs.KnownLog.{known_log_of}
use Rattle.ring_wire.specs.Payloads.{Payload}

-- payloads handed over don't change the known log
pub epochs_with_sends-kept : {A : Type 0} (group : Group) (due : List (Payload A)) (epochs : List (Epoch A)) → known_log_of group (epochs_with_sends due epochs) ≡ known_log_of group epochs
epochs_with_sends-kept group due [] = refl
epochs_with_sends-kept group due (s ∷ older) = refl

-- a life is unchanged if nothing is handed over
pub epochs_with_sends-nothing : {A : Type 0} (epochs : List (Epoch A)) → epochs_with_sends [] epochs ≡ epochs
epochs_with_sends-nothing [] = refl
epochs_with_sends-nothing {A} (s ∷ older) =
    let with_sent : List (Payload A) → List (Epoch A) = λ ps. record s { sent = ps } ∷ older in
    ap with_sent (append-nil s.sent)

-- what was restored doesn't depend on what is dropped
pub epochs_with_trim-from : {A : Type 0} (group : Group) (places : ℕ) (epochs : List (Epoch A)) → (known_log_of group (epochs_with_trim places epochs)).from ≡ (known_log_of group epochs).from
epochs_with_trim-from group places [] = refl
epochs_with_trim-from group places (s ∷ older) = refl
