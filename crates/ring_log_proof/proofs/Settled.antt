-- Of two settled lists one is a prefix of the other; a base begins with all that was settled in earlier rings.
use Rattle.std.proofs.Common.{◌≡◌, ℕ, suc, ◌<◌, ◌≤◌, List, Some, ◌⊎◌, inl, inr, sym, subst, arith}
use Rattle.std.proofs.lemmas.Bool.{cases_order}
use Rattle.ring_base.specs.Prefixes.{IsListPrefix, prefix_trans}
use Rattle.ring_base.specs.Group.{Group}
use Rattle.ring_base.specs.declared.ring_id.RingId.{RingId}
use Rattle.ring_base.proofs.ListFronts.{front-either}
use Rattle.ring_payload.specs.declared.call.Call.{Call as OneCall}
use Rattle.ring_log.specs.Messages.{Message}
use Rattle.ring_log.specs.Epochs.{Epoch}
use Rattle.ring_log.specs.EpochHistories.{CompleteExchange, complete_exchange, base_of}
use Rattle.ring_log_proof.specs.RingFacts.{IsReceivedByAll, RingFacts}
use Rattle.ring_log_proof.specs.Discipline.{KeepsRules}
use Rattle.ring_log_proof.proofs.CompleteExchanges.{log_on, base-front, logs-either}
use Rattle.ring_log_proof.proofs.SafeLogs.{AgreedBelow, views-lower, agreed-lower, shared, heard-in, same-number, hard}

-- the log of a primary ring below a number, after a prefix of its text that every member received
pub record Ground {A : Type 0} (group : Group) (node_epochs : ℕ → List (Epoch A)) (members : RingId → ℕ) (bound : ℕ) : Type 0 where
  pub ring : RingId
  pub low : ring.seq < bound
  pub front : List (Message A)
  pub whole : CompleteExchange A
  pub exch : complete_exchange group (members ring) front ≡ Some whole
  pub safe : IsReceivedByAll node_epochs ring (members ring) front

abbrev pub ground_log : {A : Type 0} (group : Group) (node_epochs : ℕ → List (Epoch A)) (members : RingId → ℕ) (bound : ℕ) → Ground group node_epochs members bound
    → List (OneCall A)
ground_log group node_epochs members bound g = log_on (base_of group node_epochs g.ring) g.whole

abbrev pub SettledBelow : {A : Type 0} → Group → (ℕ → List (Epoch A)) → (RingId → ℕ) → ℕ → List (OneCall A) → Type 0
SettledBelow group node_epochs members bound calls = (g : Ground group node_epochs members bound) × IsListPrefix calls (ground_log group node_epochs members bound g)

-- what is settled below a number is settled below a greater one
pub settled-lower : {A : Type 0} (group : Group) (node_epochs : ℕ → List (Epoch A)) (members : RingId → ℕ) (low high : ℕ) (calls : List (OneCall A)) → low ≤ high
    → SettledBelow group node_epochs members low calls → SettledBelow group node_epochs members high calls
settled-lower group node_epochs members low high calls le s =
    let g = s.0 in
    (record { ring = g.ring; low = omega (arith, le, g.low); front = g.front; whole = g.whole; exch = g.exch; safe = g.safe }, s.1)

module _ {A : Type 0} (group : Group) (node_epochs : ℕ → List (Epoch A)) (members : RingId → ℕ) (text : RingId → List (Message A))
    (facts : RingFacts node_epochs members text) (disc : KeepsRules group node_epochs) where
  -- what every member of a primary ring received is of its text
  pub ground-text : (bound : ℕ) (g : Ground group node_epochs members bound) → IsListPrefix g.front (text g.ring)
  ground-text bound g =
      let s = shared group node_epochs members text facts disc g.ring g.ring g.front g.front g.whole g.whole g.exch g.exch in
      let h = g.safe s.0 s.1 in
      prefix_trans g.front h.0.epoch.heard (text g.ring) h.1 (heard-in group node_epochs members text facts disc s.0 g.ring h.0)

  -- a base begins with what was settled in earlier rings
  pub base-settled : (e : RingId) (xs : List (OneCall A)) (ys : List (Message A)) (w : CompleteExchange A) → AgreedBelow group node_epochs e.seq
      → SettledBelow group node_epochs members e.seq xs
      → IsListPrefix ys (text e) → complete_exchange group (members e) ys ≡ Some w → IsListPrefix xs (base_of group node_epochs e w.exchange)
  base-settled e xs ys w agreed settled front hw =
      let g = settled.0 in
      prefix_trans xs (ground_log group node_epochs members e.seq g) (base_of group node_epochs e w.exchange) settled.1
      (hard group node_epochs members text facts disc (suc e.seq) g.ring e g.front ys g.whole w (omega arith) g.low agreed g.exch g.safe front hw)

  ground-later : (bound : ℕ) (g h : Ground group node_epochs members bound) → AgreedBelow group node_epochs bound → g.ring.seq < h.ring.seq
      → IsListPrefix (ground_log group node_epochs members bound g) (ground_log group node_epochs members bound h)
  ground-later bound g h agreed lt =
      let base = base_of group node_epochs h.ring in
      prefix_trans (ground_log group node_epochs members bound g) (base h.whole.exchange) (ground_log group node_epochs members bound h)
      (hard group node_epochs members text facts disc (suc h.ring.seq) g.ring h.ring g.front h.front g.whole h.whole (omega arith) lt
      (agreed-lower group node_epochs h.ring.seq bound (omega (arith, h.low)) agreed)
      g.exch g.safe (ground-text bound h) h.exch)
      (base-front base h.whole)

  ground-same : (bound : ℕ) (g h : Ground group node_epochs members bound) → AgreedBelow group node_epochs bound → g.ring.seq ≡ h.ring.seq
      → IsListPrefix (ground_log group node_epochs members bound g) (ground_log group node_epochs members bound h)
      ⊎ IsListPrefix (ground_log group node_epochs members bound h) (ground_log group node_epochs members bound g)
  ground-same bound g h agreed e =
      let r = h.ring in
      let same : g.ring ≡ r = same-number group node_epochs members text facts disc g.ring r
      (views-lower group node_epochs r.seq bound (omega (arith, h.low)) agreed.views) g.front h.front g.whole
      h.whole g.exch h.exch g.safe
      (ground-text bound h) e in
      let logs = logs-either (base_of group node_epochs r) group (members r) g.front h.front (text r) g.whole h.whole
      (subst (λ q. complete_exchange group (members q) g.front ≡ Some g.whole) same g.exch) h.exch
      (subst (λ q. IsListPrefix g.front (text q)) same (ground-text bound g)) (ground-text bound h) in
      let log_h = ground_log group node_epochs members bound h in
      subst (λ q. IsListPrefix (log_on (base_of group node_epochs q) g.whole) log_h ⊎ IsListPrefix log_h (log_on (base_of group node_epochs q) g.whole)) (sym same) logs

  grounds-either : (bound : ℕ) (g h : Ground group node_epochs members bound) → AgreedBelow group node_epochs bound
      → IsListPrefix (ground_log group node_epochs members bound g) (ground_log group node_epochs members bound h)
      ⊎ IsListPrefix (ground_log group node_epochs members bound h) (ground_log group node_epochs members bound g)
  grounds-either bound g h agreed =
      elim (cases_order g.ring.seq h.ring.seq) as (λ _. IsListPrefix (ground_log group node_epochs members bound g) (ground_log group node_epochs members bound h)
      ⊎ IsListPrefix (ground_log group node_epochs members bound h) (ground_log group node_epochs members bound g)) [
        | inl same ↦ ground-same bound g h agreed same
        | inr rest ↦ elim rest as (λ _. IsListPrefix (ground_log group node_epochs members bound g) (ground_log group node_epochs members bound h)
            ⊎ IsListPrefix (ground_log group node_epochs members bound h) (ground_log group node_epochs members bound g)) [
              | inl less ↦ inl (ground-later bound g h agreed less)
              | inr more ↦ inr (ground-later bound h g agreed more)
            ]
      ]

  -- of two settled lists one is a prefix of the other
  pub settled-either : (bound : ℕ) (xs ys : List (OneCall A)) → AgreedBelow group node_epochs bound → SettledBelow group node_epochs members bound xs
      → SettledBelow group node_epochs members bound ys → IsListPrefix xs ys ⊎ IsListPrefix ys xs
  settled-either bound xs ys agreed x y =
      let log_x = ground_log group node_epochs members bound x.0 in
      let log_y = ground_log group node_epochs members bound y.0 in
      elim (grounds-either bound x.0 y.0 agreed) as (λ _. IsListPrefix xs ys ⊎ IsListPrefix ys xs) [
        | inl f ↦ front-either xs ys log_y (prefix_trans xs log_x log_y x.1 f) y.1
        | inr f ↦ front-either xs ys log_x x.1 (prefix_trans ys log_y log_x y.1 f)
      ]
