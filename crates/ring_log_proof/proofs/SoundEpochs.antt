-- A sound life was sound before its last message, safe mark or installation, and its log isn't too long.
use Rattle.std.proofs.Common.{◌≡◌, ◌&&◌, true, false, List, [], ◌∷◌, ◌++◌, length, Option, Some, None, refl, ap, sym, ◌∙◌, arith}
use Rattle.std.proofs.lemmas.Bool.{and_parts, and_from, leb-true, le-leb}
use Rattle.ring_base.specs.Prefixes.{prefix_length}
use Rattle.ring_base.specs.Group.{Group}
use Rattle.ring_base.specs.Numbers.{max_number}
use Rattle.ring_log.specs.Messages.{Message}
use Rattle.ring_log.specs.Logs.{is_log_length}
use Rattle.ring_log.specs.Epochs.{Epoch, epochs_with_message}
use Rattle.ring_log.specs.EpochHistories.{CompleteExchange, complete_exchange, own_base, log_by, log_of, committed_of, keeps_committed, is_sound}
use Rattle.ring_log_proof.proofs.CompleteExchanges.{grown, complete_exchange-front, log_on, log-front}

-- a sound life's log isn't too long
pub sound-short : {A : Type 0} (group : Group) (epochs : List (Epoch A)) → is_sound group epochs ≡ true → is_log_length (length (log_of group epochs)) ≡ true
sound-short group [] t = le-leb 0 max_number (omega arith)
sound-short group (s ∷ older) t =
    (and_parts (is_sound group older && keeps_committed (log_of group older) s.front (committed_of group older) (complete_exchange group s.members s.heard))
    (is_log_length (length (log_of group (s ∷ older)))) t).1

unsound-step : {A : Type 0} (group : Group) (s : Epoch A) (older : List (Epoch A)) (x : Message A)
    (o p : Option (CompleteExchange A)) → complete_exchange group s.members s.heard ≡ o
    → complete_exchange group s.members (s.heard ++ x ∷ []) ≡ p → is_sound group older ≡ true
    → keeps_committed (log_of group older) s.front (committed_of group older) p ≡ true → is_log_length (length (log_by (log_of group older) s.front p)) ≡ true
    → (keeps_committed (log_of group older) s.front (committed_of group older) o ≡ true)
    × (is_log_length (length (log_by (log_of group older) s.front o)) ≡ true)
unsound-step group s older x None p e k t a b = (refl, sound-short group older t)
unsound-step group s older x (Some v) None e k t a b =
    absurd (let y = sym (complete_exchange-front group s.members s.heard (s.heard ++ x ∷ []) v e (x ∷ [], refl)) ∙ k in cc y)
unsound-step {A} group s older x (Some v) (Some w) e k t a b =
    let own = own_base (log_of group older) s.front in
    let grows : Some (grown v (x ∷ [])) ≡ Some w = sym (complete_exchange-front group s.members s.heard (s.heard ++ x ∷ []) v e (x ∷ [], refl)) ∙ k in
    let same : grown v (x ∷ []) ≡ w = cc grows in
    let front = log-front own group s.members s.heard (s.heard ++ x ∷ []) v w e k (x ∷ [], refl) in (
      ap (λ (u : CompleteExchange A). keeps_committed (log_of group older) s.front (committed_of group older) (Some u)) same ∙ a,
      le-leb (length (log_on own v)) max_number (omega (
        arith,
        prefix_length (log_on own v) (log_on own w) front,
        leb-true (length (log_on own w)) max_number b,
      )),
    )

pub before-heard : {A : Type 0} (group : Group) (x : Message A) (epochs : List (Epoch A)) → is_sound group (epochs_with_message x epochs) ≡ true → is_sound group epochs ≡ true
before-heard group x [] t = t
before-heard group x (s ∷ older) t =
    let own = log_of group older in
    let kept = committed_of group older in
    let s' : Epoch _ = record s { heard = s.heard ++ x ∷ [] } in
    let outer = and_parts (is_sound group older && keeps_committed own s.front kept (complete_exchange group s'.members s'.heard))
    (is_log_length (length (log_of group (s' ∷ older)))) t in
    let inner = and_parts (is_sound group older) (keeps_committed own s.front kept (complete_exchange group s'.members s'.heard)) outer.0 in
    let both = unsound-step group s older x (complete_exchange group s.members s.heard) (complete_exchange group s'.members s'.heard) refl refl inner.0 inner.1 outer.1 in
    and_from (is_sound group older && keeps_committed own s.front kept (complete_exchange group s.members s.heard)) (is_log_length (length (log_of group (s ∷ older))))
    (and_from (is_sound group older) (keeps_committed own s.front kept (complete_exchange group s.members s.heard)) inner.0 both.0) both.1
