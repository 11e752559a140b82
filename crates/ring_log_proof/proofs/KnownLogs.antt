-- The known log of a life is well formed: only committed places are dropped, and only places of the log are committed.
use Rattle.std.proofs.Common.{◌≡◌, ℕ, ◌≤◌, true, List, ◌∷◌, ◌++◌, length, Option, Some, None, refl, ap, sym, subst, arith, length-append, ◌∙◌}
use Rattle.std.specs.Prelude.{nat_le, ◌&&◌, ◌||◌}
use Rattle.ring_base.specs.Prefixes.{IsListPrefix}
use Rattle.ring_base.specs.Group.{Group}
use Rattle.ring_base.specs.declared.ring_id.RingId.{RingId}
use Rattle.ring_log.specs.Messages.{Message}
use Rattle.ring_log.specs.Exchanges.{wanted}
use Rattle.ring_log.specs.Epochs.{Epoch}
use Rattle.ring_log.specs.EpochHistories.{CompleteExchange, complete_exchange, calls_in, messages_upto}
use Rattle.ring_log.specs.KnownLog.{KnownLog, IsKnownLog, restores, known_log_adopted, adopts, adopts_wanted, known_log_committed_upto, followed_by, dropped_by, watermark_by, known_log_after_epoch}
use Rattle.ring_log.specs.KnownLog.{known_log_of, known_log_length, begins_kept, keeps_wanted, keeps_kept}
use Rattle.ring_log.proofs.AdoptedLogs.{known-adopted, known-followed, known-raised, known-dropped}
use Rattle.ring_log_proof.proofs.CompleteExchanges.{grown, complete_exchange-front, complete_exchange-whole, upto-front, calls_in-append}
use Rattle.ring_log_proof.proofs.Views.{wants}

-- after a complete exchange
known-adopts : {A : Type 0} (group : Group) (m : ℕ) (heard : List (Message A)) (k : KnownLog A) (ring : RingId) (w : CompleteExchange A)
    → complete_exchange group m heard ≡ Some w → IsKnownLog k → keeps_kept k ring (Some w) ≡ true → IsKnownLog (adopts k ring w)
known-adopts {A} group m heard k ring w e is t =
    let x = w.exchange in
    let v = wants (wanted x) x.received_bytes x.total x.places (complete_exchange-whole group m heard w e).whole in
    let a = known_log_adopted k ring v.0 x.bytes x.received_calls in
    let same : adopts k ring w ≡ a = ap (λ o. adopts_wanted k ring o w) v.1 in
    let keeps : (restores k v.0 || (nat_le v.0.from k.committed && begins_kept k a)) ≡ true =
    ap (λ (b : KnownLog A). restores k v.0 || (nat_le v.0.from k.committed && begins_kept k b)) (sym same)
    ∙ sym (ap (λ o. keeps_wanted k ring o w) v.1) ∙ t in
    subst IsKnownLog (sym same) (known-adopted k ring v.0 x.bytes x.received_calls is keeps)

-- after an epoch
known-by : {A : Type 0} (group : Group) (m : ℕ) (heard safe : List (Message A)) (k : KnownLog A) (ring : RingId) (places : ℕ) (o p : Option (CompleteExchange A))
    → complete_exchange group m heard ≡ o → complete_exchange group m safe ≡ p → IsListPrefix safe heard → IsKnownLog k → keeps_kept k ring o ≡ true
    → places ≤ (known_log_after_epoch ring k o p).committed → IsKnownLog (dropped_by places (known_log_after_epoch ring k o p))
known-by group m heard safe k ring places None p e f front is t le = known-dropped k places le is
known-by group m heard safe k ring places (Some w) p e f front is t le =
    let a = adopts k ring w in
    let more = calls_in w.rest in
    let known = known-followed a more (known-adopts group m heard k ring w e is t) in
    known-dropped (known_log_committed_upto (watermark_by a p) (followed_by a more)) places le
    (known-raised (followed_by a more) (watermark_by a p) (reaches p f) known)
  where
    reaches : (p : Option (CompleteExchange _)) → complete_exchange group m safe ≡ p → watermark_by (adopts k ring w) p ≤ known_log_length (followed_by (adopts k ring w) (calls_in w.rest))
    reaches None f = omega arith
    reaches (Some v) f =
        let grows : Some (grown v front.0) ≡ Some w = sym (complete_exchange-front group m safe heard v f front) ∙ e in
        let same : grown v front.0 ≡ w = cc grows in
        let rest : calls_in w.rest ≡ calls_in v.rest ++ calls_in front.0 =
        ap (λ (u : CompleteExchange _). calls_in u.rest) (sym same) ∙ calls_in-append v.rest front.0 in
        omega (
          arith,
          length-append (adopts k ring w).calls (calls_in w.rest),
          ap length rest,
          length-append (calls_in v.rest) (calls_in front.0),
        )

-- after one more epoch
pub known-epoch : {A : Type 0} (group : Group) (s : Epoch A) (older : List (Epoch A)) → IsKnownLog (known_log_of group older)
    → keeps_kept (known_log_of group older) s.ring (complete_exchange group s.members s.heard) ≡ true → s.trimmed ≤ (known_log_of group (s ∷ older)).committed
    → IsKnownLog (known_log_of group (s ∷ older))
known-epoch group s older is t le =
    known-by group s.members s.heard (messages_upto s.mark s.heard) (known_log_of group older) s.ring s.trimmed (complete_exchange group s.members s.heard)
    (complete_exchange group s.members (messages_upto s.mark s.heard)) refl refl (upto-front s.mark s.heard) is t le
