-- The committed length of a node's known log never falls as its newest epoch is extended.
use Rattle.std.proofs.Common.{◌≡◌, ℕ, ◌≤◌, max, List, ◌∷◌, length, Option, Some, None, refl, ap, arith, length-append, ◌∙◌}
use Rattle.std.specs.Prelude.{nat_lt, is_some}
use Rattle.std.proofs.lemmas.Bool.{cond_both, and_parts, ltb-true}
use Rattle.ring_base.specs.Prefixes.{IsListPrefix}
use Rattle.ring_base.specs.Group.{Group}
use Rattle.ring_base.specs.declared.ring_id.RingId.{RingId}
use Rattle.ring_log.specs.Messages.{Message}
use Rattle.ring_log.specs.declared.wanted.Wanted.{Wanted}
use Rattle.ring_log.specs.Exchanges.{wanted}
use Rattle.ring_log.specs.Epochs.{Epoch}
use Rattle.ring_log.specs.EpochHistories.{CompleteExchange, complete_exchange, calls_in}
use Rattle.ring_log.specs.KnownLog.{KnownLog, restores, known_log_restored, known_log_joined, adopts, adopts_wanted, watermark_by, known_log_after_epoch, known_log_of}
use Rattle.ring_log_proof.specs.RingFacts.{safe_part}
use Rattle.ring_log_proof.specs.EpochEvents.{IsEpochExtended}
use Rattle.ring_log_proof.proofs.CompleteExchanges.{grown, complete_exchange-front, calls_in-append}
use Rattle.ring_log_proof.proofs.SettledGrows.{upto-grows}

module _ {A : Type 0} (k : KnownLog A) (ring : RingId) where
  -- adopting doesn't lower it
  adopts-least : (w : CompleteExchange A) → k.committed ≤ (adopts k ring w).committed
  adopts-least w = by (wanted w.exchange)
    where
      by : (o : Option Wanted) → k.committed ≤ (adopts_wanted k ring o w).committed
      by None = omega arith
      by (Some v) =
          cond_both (restores k v) (known_log_restored ring v w.exchange.bytes w.exchange.received_calls) (known_log_joined k ring v w.exchange.received_calls)
          (λ (x : KnownLog A). k.committed ≤ x.committed)
          (λ t. let lt = ltb-true k.committed v.from (and_parts (is_some v.snapshot) (nat_lt k.committed v.from) t).1 in omega (arith, lt))
          (λ f. omega arith)

  pub kept-least : (o p : Option (CompleteExchange A)) → k.committed ≤ (known_log_after_epoch ring k o p).committed
  kept-least None p = omega arith
  kept-least (Some w) p = let least = adopts-least w in omega (arith, least)

  -- more safe messages give a watermark that is no lower
  reach-grown : (base : KnownLog A) (group : Group) (m : ℕ) (xs ys : List (Message A)) (p : Option (CompleteExchange A)) → complete_exchange group m xs ≡ p → IsListPrefix xs ys
      → watermark_by base p ≤ watermark_by base (complete_exchange group m ys)
  reach-grown base group m xs ys None e f = omega arith
  reach-grown base group m xs ys (Some v) e f =
      let now = ap (watermark_by base) (complete_exchange-front group m xs ys v e f) in
      let parts = ap length (calls_in-append v.rest f.0) ∙ length-append (calls_in v.rest) (calls_in f.0) in
      omega (arith, now, parts)

  -- messages after an exchange don't change what is adopted
  pub adopts-grown : (w : CompleteExchange A) (more : List (Message A)) → adopts k ring (grown w more) ≡ adopts k ring w
  adopts-grown w more = by (wanted w.exchange)
    where
      by : (o : Option Wanted) → adopts_wanted k ring o (grown w more) ≡ adopts_wanted k ring o w
      by None = refl
      by (Some v) = refl

  kept-grown : (group : Group) (m : ℕ) (xs ys safe safer : List (Message A)) (o : Option (CompleteExchange A)) → complete_exchange group m xs ≡ o → IsListPrefix xs ys
      → IsListPrefix safe safer
      → (known_log_after_epoch ring k o (complete_exchange group m safe)).committed ≤ (known_log_after_epoch ring k (complete_exchange group m ys) (complete_exchange group m safer)).committed
  kept-grown group m xs ys safe safer None e f g = kept-least (complete_exchange group m ys) (complete_exchange group m safer)
  kept-grown group m xs ys safe safer (Some w) e f g =
      let base = adopts k ring w in
      let now : (known_log_after_epoch ring k (complete_exchange group m ys) (complete_exchange group m safer)).committed
      ≡ max base.committed (watermark_by base (complete_exchange group m safer)) =
      ap (λ o. (known_log_after_epoch ring k o (complete_exchange group m safer)).committed) (complete_exchange-front group m xs ys w e f)
      ∙ ap (λ (b : KnownLog A). max b.committed (watermark_by b (complete_exchange group m safer))) (adopts-grown w f.0) in
      let reach = reach-grown base group m safe safer (complete_exchange group m safe) refl g in
      omega (arith, now, reach)

-- as the newest epoch is extended
pub known-longer_list : {A : Type 0} (group : Group) (s t : Epoch A) (older : List (Epoch A)) → IsEpochExtended s t
    → (known_log_of group (s ∷ older)).committed ≤ (known_log_of group (t ∷ older)).committed
known-longer_list group s t older grows =
    let k = known_log_of group older in
    let safe = upto-grows s.mark t.mark s.heard t.heard grows.mark grows.heard in
    let same = ap (λ r. (known_log_after_epoch r k (complete_exchange group s.members t.heard) (complete_exchange group s.members (safe_part t))).committed) grows.ring
    ∙ ap (λ m. (known_log_after_epoch t.ring k (complete_exchange group m t.heard) (complete_exchange group m (safe_part t))).committed) grows.members in
    let more = kept-grown k s.ring group s.members s.heard t.heard (safe_part s) (safe_part t) (complete_exchange group s.members s.heard) refl grows.heard safe in
    omega (arith, more, same)
