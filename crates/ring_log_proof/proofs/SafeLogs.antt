-- What is safe stays: a log of a primary ring that every member received is a prefix of the base of every later primary ring.

-- The proof is by induction on ring numbers. The two rings share a processor. Its Head in the later ring is of a life in which it
-- had adopted the earlier one, and the chosen Head is no less.
use Rattle.std.proofs.Common.{◌≡◌, ℕ, zero, suc, ◌<◌, ◌≤◌, List, ◌++◌, length, Option, Some, None, ◌⊎◌, inl, inr, refl, ap, sym, ◌∙◌, subst, arith}
use Rattle.ring_base.specs.Prefixes.{IsListPrefix, prefix_trans}
use Rattle.ring_base.specs.Group.{Group}
use Rattle.ring_base.specs.Primaries.{primaries_share}
use Rattle.ring_base.specs.Processors.{IsMember}
use Rattle.ring_base.specs.Rings.{IsBelow, IsPrimaryBelow}
use Rattle.ring_base.specs.RingOrder.{below_numbers}
use Rattle.ring_base.specs.declared.ring_id.RingId.{RingId}
use Rattle.ring_payload.specs.declared.call.Call.{Call as OneCall}
use Rattle.ring_payload.specs.declared.head.Head.{Head as OneHead}
use Rattle.ring_log.specs.Messages.{Message}
use Rattle.ring_log.specs.declared.received_head.ReceivedHead.{ReceivedHead}
use Rattle.ring_log.specs.Epochs.{Epoch}
use Rattle.ring_log.specs.EpochHistories.{CompleteExchange, complete_exchange, calls_in, log_of, last_of, own_base, head_of_epochs, base_of}
use Rattle.ring_log_proof.specs.RingFacts.{HasEpoch, EpochIn, IsReceivedByAll, RingFacts}
use Rattle.ring_log_proof.specs.Discipline.{KeepsRules}
use Rattle.ring_log_proof.proofs.ChosenHead.{LastsOf, no_less-tells}
use Rattle.ring_log_proof.proofs.CompleteExchanges.{grown, complete_exchange-primary, complete_exchange-front, log_on, base-front, log-front, logs-shorter}
use Rattle.ring_log_proof.proofs.Epochs.{epoch-below, epoch-same, epoch-trans, rises-older, older-below, epochs-lower}
use Rattle.ring_log_proof.proofs.Heads.{ViewsAt, outcome, base-owner}
use Rattle.ring_log_proof.proofs.NewestRings.{NewestRings, newest-or_none, NewestFrom, newest-from}

-- in rings below a number, the base that a node builds from an exchange and its own log is the ring's base, and the known log of
-- such a life is the rest of its log
pub record AgreedBelow {A : Type 0} (group : Group) (node_epochs : ℕ → List (Epoch A)) (bound : ℕ) : Type 0 where
  pub bases : (p : ℕ) (s : Epoch A) (older : List (Epoch A)) (w : CompleteExchange A) → HasEpoch (node_epochs p) s older → s.ring.seq < bound
      → complete_exchange group s.members s.heard ≡ Some w
      → own_base (log_of group older) s.front w.exchange ≡ base_of group node_epochs s.ring w.exchange
  pub views : ViewsAt group node_epochs bound

-- the same below each smaller number
pub views-lower : {A : Type 0} (group : Group) (node_epochs : ℕ → List (Epoch A)) (low high : ℕ) → low ≤ high → ViewsAt group node_epochs high → ViewsAt group node_epochs low
views-lower group node_epochs low high le views p epochs below = views p epochs (epochs-lower (node_epochs p) epochs low high le below)

pub agreed-lower : {A : Type 0} (group : Group) (node_epochs : ℕ → List (Epoch A)) (low high : ℕ) → low ≤ high → AgreedBelow group node_epochs high
    → AgreedBelow group node_epochs low
agreed-lower group node_epochs low high le agreed = record {
  bases = λ p s older w there below exch. agreed.bases p s older w there (omega (arith, le, below)) exch;
  views = views-lower group node_epochs low high le agreed.views;
}

none-below : (r : RingId) → IsPrimaryBelow (Some r) None → ⊥
none-below r h = cc h

module _ {A : Type 0} (group : Group) (node_epochs : ℕ → List (Epoch A)) (members : RingId → ℕ) (text : RingId → List (Message A))
    (facts : RingFacts node_epochs members text) (disc : KeepsRules group node_epochs) where
  -- a log of a ring, with the ring's base
  abbrev pub ring_log_on : RingId → CompleteExchange A → List (OneCall A)
  ring_log_on r w = log_on (base_of group node_epochs r) w

  -- two primary rings share a member
  pub shared : (c d : RingId) (xs ys : List (Message A)) (v w : CompleteExchange A) → complete_exchange group (members c) xs ≡ Some v → complete_exchange group (members d) ys ≡ Some w
      → (p : ℕ) × IsMember (members c) p × IsMember (members d) p
  shared c d xs ys v w hv hw =
      let s = primaries_share group (members c) (members d) (complete_exchange-primary group (members c) xs v hv) (complete_exchange-primary group (members d) ys w hw) in
      (s.0, s.2, s.3)

  -- an epoch's exchange by its own members, and by those of its ring
  pub by-ring : (p : ℕ) (r : RingId) (at : EpochIn (node_epochs p) r) (w : CompleteExchange A) → complete_exchange group at.epoch.members at.epoch.heard ≡ Some w
      → complete_exchange group (members r) at.epoch.heard ≡ Some w
  by-ring p r at w h = subst (λ m. complete_exchange group m at.epoch.heard ≡ Some w) (facts.one_set p at.epoch at.older at.there ∙ ap members at.ring) h

  pub by-epoch : (p : ℕ) (r : RingId) (at : EpochIn (node_epochs p) r) (w : CompleteExchange A) → complete_exchange group (members r) at.epoch.heard ≡ Some w
      → complete_exchange group at.epoch.members at.epoch.heard ≡ Some w
  by-epoch p r at w h = subst (λ m. complete_exchange group m at.epoch.heard ≡ Some w) (sym (facts.one_set p at.epoch at.older at.there ∙ ap members at.ring)) h

  pub heard-in : (p : ℕ) (r : RingId) (at : EpochIn (node_epochs p) r) → IsListPrefix at.epoch.heard (text r)
  heard-in p r at = subst (λ q. IsListPrefix at.epoch.heard (text q)) at.ring (facts.heard p at.epoch at.older at.there)

  pub seq-in : (p : ℕ) (r : RingId) (at : EpochIn (node_epochs p) r) → at.epoch.ring.seq ≡ r.seq
  seq-in p r at = ap (λ (q : RingId). q.seq) at.ring

  -- the newest adopted epoch of the life before an epoch, as one of the whole life
  abbrev pub newest-in : (p : ℕ) (r : RingId) (at : EpochIn (node_epochs p) r) (m : NewestRings group at.older) → EpochIn (node_epochs p) m.epoch.ring
  newest-in p r at m = record { epoch = m.epoch; older = m.older; there = epoch-trans (node_epochs p) at.epoch m.epoch at.older m.older at.there m.there; ring = refl }

  pub newest-low : (p : ℕ) (r : RingId) (at : EpochIn (node_epochs p) r) (m : NewestRings group at.older) → m.epoch.ring.seq < r.seq
  newest-low p r at m = omega (arith, older-below (node_epochs p) at.epoch m.epoch at.older m.older (facts.rises p) at.there m.there, seq-in p r at)

  -- the log of such a life is that of its newest adopted ring
  pub newest-log : (bound : ℕ) → AgreedBelow group node_epochs bound → (p : ℕ) (epochs : List (Epoch A)) (m : NewestRings group epochs) → HasEpoch (node_epochs p) m.epoch m.older
      → m.epoch.ring.seq < bound
      → log_of group epochs ≡ ring_log_on m.epoch.ring m.whole
  newest-log bound agreed p epochs m there low = m.log ∙ ap (λ l. l ++ calls_in m.whole.rest) (agreed.bases p m.epoch m.older m.whole there low m.exch)

  -- two primary rings of one number are one ring, if each member of the one received something there and the other has a complete
  -- exchange
  pub same-number : (c d : RingId) → ViewsAt group node_epochs d.seq → (xs ys : List (Message A)) (v w : CompleteExchange A) → complete_exchange group (members c) xs ≡ Some v → complete_exchange group (members d) ys
      ≡ Some w
      → IsReceivedByAll node_epochs c (members c) xs → IsListPrefix ys (text d) → c.seq ≡ d.seq → c ≡ d
  same-number c d views xs ys v w hv hw safe front e =
      let s = shared c d xs ys v w hv hw in
      let o = outcome group node_epochs members text facts disc d views ys w front hw in
      let in_c = (safe s.0 s.1).0 in
      let in_d = (o.each s.0 s.2).says.0 in
      let same = epoch-same (node_epochs s.0) in_c.epoch in_d.epoch in_c.older in_d.older (facts.rises s.0) in_c.there in_d.there
      (omega (arith, e, seq-in s.0 c in_c, seq-in s.0 d in_d)) in
      sym in_c.ring ∙ ap (λ (t : Epoch A). t.ring) same.0 ∙ in_d.ring

  -- The step, from ring c to a later ring e

  -- the claim for smaller numbers: the log of c is a prefix of the base of each ring between
  abbrev Between : RingId → CompleteExchange A → RingId → ℕ → Type 0
  Between c v e bound = (d : RingId) (ys : List (Message A)) (w : CompleteExchange A) → c.seq < d.seq → d.seq < bound → d.seq < e.seq → IsListPrefix ys (text d)
      → complete_exchange group (members d) ys ≡ Some w
      → IsListPrefix (ring_log_on c v) (base_of group node_epochs d w.exchange)

  -- the case that the owner's last primary is later than c
  hard-later : (bound : ℕ) (c e : RingId) (v : CompleteExchange A) (q : ℕ) (in_e : EpochIn (node_epochs q) e) (m : NewestRings group in_e.older) → e.seq < suc bound
      → AgreedBelow group node_epochs e.seq → Between c v e bound
      → c.seq < m.epoch.ring.seq → IsListPrefix (ring_log_on c v) (log_of group in_e.older)
  hard-later bound c e v q in_e m lb agreed between later =
      let d = m.epoch.ring in
      let at = newest-in q e in_e m in
      let low = newest-low q e in_e m in
      let base = between d m.epoch.heard m.whole later (omega (arith, lb, low)) low (heard-in q d at) (by-ring q d at m.whole m.exch) in
      let log = prefix_trans (ring_log_on c v) (base_of group node_epochs d m.whole.exchange) (ring_log_on d m.whole) base
      (base-front (base_of group node_epochs d) m.whole) in
      subst (IsListPrefix (ring_log_on c v)) (sym (newest-log e.seq agreed q in_e.older m at.there low)) log

  -- the case that it is c: the owner's log of c is no shorter than that of a processor that received all of this log there
  hard-same : (c e : RingId) (xs : List (Message A)) (v : CompleteExchange A) (p q : ℕ) (at_p : EpochIn (node_epochs p) e) (at_q : EpochIn (node_epochs q) e)
      (mp : NewestRings group at_p.older) (mq : NewestRings group at_q.older)
      → AgreedBelow group node_epochs e.seq → complete_exchange group (members c) xs ≡ Some v → mp.epoch.ring ≡ c → mq.epoch.ring ≡ c → IsListPrefix xs mp.epoch.heard
      → length (log_of group at_p.older) ≤ length (log_of group at_q.older)
      → IsListPrefix (ring_log_on c v) (log_of group at_q.older)
  hard-same c e xs v p q at_p at_q mp mq agreed hv rp rq fp le =
      let in_p : EpochIn (node_epochs p) c = record { epoch = mp.epoch; older = mp.older; there = (newest-in p e at_p mp).there; ring = rp } in
      let in_q : EpochIn (node_epochs q) c = record { epoch = mq.epoch; older = mq.older; there = (newest-in q e at_q mq).there; ring = rq } in
      let hp = by-ring p c in_p mp.whole mp.exch in
      let hq = by-ring q c in_q mq.whole mq.exch in
      let log_p : log_of group at_p.older ≡ ring_log_on c mp.whole = newest-log e.seq agreed p at_p.older mp in_p.there (newest-low p e at_p mp)
      ∙ ap (λ r. ring_log_on r mp.whole) rp in
      let log_q : log_of group at_q.older ≡ ring_log_on c mq.whole = newest-log e.seq agreed q at_q.older mq in_q.there (newest-low q e at_q mq)
      ∙ ap (λ r. ring_log_on r mq.whole) rq in
      let to_p = log-front (base_of group node_epochs c) group (members c) xs mp.epoch.heard v mp.whole hv hp fp in
      let to_q = logs-shorter (base_of group node_epochs c) group (members c) mp.epoch.heard mq.epoch.heard (text c) mp.whole mq.whole hp hq (heard-in p c in_p)
      (heard-in q c in_q)
      (omega (arith, le, ap length log_p, ap length log_q)) in
      subst (IsListPrefix (ring_log_on c v)) (sym log_q) (prefix_trans (ring_log_on c v) (ring_log_on c mp.whole) (ring_log_on c mq.whole) to_p to_q)

  -- what the two Heads' last primaries and lengths say
  hard-cases : (bound : ℕ) (c e : RingId) (xs : List (Message A)) (v : CompleteExchange A) (p q : ℕ) (in_c : EpochIn (node_epochs p) c) (at_p : EpochIn (node_epochs p) e)
      (at_q : EpochIn (node_epochs q) e) → e.seq < suc bound
      → AgreedBelow group node_epochs e.seq → complete_exchange group (members c) xs ≡ Some v → IsReceivedByAll node_epochs c (members c) xs → IsListPrefix xs in_c.epoch.heard
      → Between c v e bound
      → (mp : NewestRings group at_p.older) → (mp.epoch ≡ in_c.epoch) ⊎ (in_c.epoch.ring.seq < mp.epoch.ring.seq) → (mq : NewestRings group at_q.older)
      → (IsBelow mp.epoch.ring mq.epoch.ring) ⊎ ((mp.epoch.ring ≡ mq.epoch.ring) × (length (log_of group at_p.older) ≤ length (log_of group at_q.older)))
      → IsListPrefix (ring_log_on c v) (log_of group at_q.older)
  hard-cases bound c e xs v p q in_c at_p at_q lb agreed hv safe fc between mp (inr above) mq tells =
      let num : RingId → ℕ = λ r. r.seq in
      let later : c.seq < mq.epoch.ring.seq = elim tells as (λ _. c.seq < mq.epoch.ring.seq) [
        | inl below ↦ elim ((below_numbers mp.epoch.ring mq.epoch.ring).0 below) as (λ _. c.seq < mq.epoch.ring.seq) [
          | inl less ↦ omega (arith, above, less, seq-in p c in_c)
          | inr tie ↦ omega (arith, above, tie.0, seq-in p c in_c)
        ]
        | inr same ↦ omega (arith, above, ap num same.0, seq-in p c in_c)
      ] in
      hard-later bound c e v q at_q mq lb agreed between later
  hard-cases bound c e xs v p q in_c at_p at_q lb agreed hv safe fc between mp (inl here) mq (inl below) =
      let num : RingId → ℕ = λ r. r.seq in
      let rp : mp.epoch.ring ≡ c = ap (λ (t : Epoch A). t.ring) here ∙ in_c.ring in
      elim ((below_numbers mp.epoch.ring mq.epoch.ring).0 below) as (λ _. IsListPrefix (ring_log_on c v) (log_of group at_q.older)) [
        | inl less ↦ hard-later bound c e v q at_q mq lb agreed between (omega (arith, less, ap num rp))
        | inr tie ↦
            let at = newest-in q e at_q mq in
            let same : c ≡ mq.epoch.ring = same-number c mq.epoch.ring
            (views-lower group node_epochs mq.epoch.ring.seq e.seq (omega (arith, newest-low q e at_q mq)) agreed.views) xs mq.epoch.heard v mq.whole hv (by-ring q mq.epoch.ring at mq.whole mq.exch) safe
            (heard-in q mq.epoch.ring at) (omega (arith, tie.0, ap num rp)) in
            absurd (omega (arith, tie.1, ap (λ (r : RingId). r.rep) (rp ∙ same)))
      ]
  hard-cases bound c e xs v p q in_c at_p at_q lb agreed hv safe fc between mp (inl here) mq (inr same) =
      let rp : mp.epoch.ring ≡ c = ap (λ (t : Epoch A). t.ring) here ∙ in_c.ring in
      hard-same c e xs v p q at_p at_q mp mq agreed hv rp (sym same.0 ∙ rp) (subst (λ (t : Epoch A). IsListPrefix xs t.heard) (sym here) fc) same.1

  -- the Heads of the shared processor and of the owner
  hard-heads : (bound : ℕ) (c e : RingId) (xs : List (Message A)) (v : CompleteExchange A) (p q : ℕ) (in_c : EpochIn (node_epochs p) c) (at_p : EpochIn (node_epochs p) e)
      (at_q : EpochIn (node_epochs q) e) (a b : ReceivedHead) → e.seq < suc bound
      → AgreedBelow group node_epochs e.seq → complete_exchange group (members c) xs ≡ Some v → IsReceivedByAll node_epochs c (members c) xs → IsListPrefix xs in_c.epoch.heard
      → Between c v e bound
      → NewestFrom group at_p.older in_c.epoch → (last_of group at_q.older ≡ None) ⊎ NewestRings group at_q.older
      → b.head ≡ head_of_epochs group at_p.older → a.head ≡ head_of_epochs group at_q.older → LastsOf a b
      → IsListPrefix (ring_log_on c v) (log_of group at_q.older)
  hard-heads bound c e xs v p q in_c at_p at_q a b lb agreed hv safe fc between np none_or hb ha tells =
      let last : OneHead → Option RingId = λ h. h.last in
      let mp = np.newest in
      let last_p : b.head.last ≡ Some mp.epoch.ring = ap last hb ∙ mp.last in
      elim none_or as (λ _. IsListPrefix (ring_log_on c v) (log_of group at_q.older)) [
        | inl none ↦
            let last_q : a.head.last ≡ None = ap last ha ∙ none in
            elim tells as (λ _. IsListPrefix (ring_log_on c v) (log_of group at_q.older)) [
              | inl below ↦ absurd (none-below mp.epoch.ring (subst (λ o. IsPrimaryBelow (Some mp.epoch.ring) o) last_q
                  (subst (λ o. IsPrimaryBelow o a.head.last) last_p below)))
              | inr same ↦ absurd (let e : Some mp.epoch.ring ≡ None = sym last_p ∙ same.0 ∙ last_q in cc e)
            ]
        | inr mq ↦
            let last_q : a.head.last ≡ Some mq.epoch.ring = ap last ha ∙ mq.last in
            let size : OneHead → ℕ = λ h. h.length in
            hard-cases bound c e xs v p q in_c at_p at_q lb agreed hv safe fc between mp np.from mq
            (elim tells as (λ _. (IsBelow mp.epoch.ring mq.epoch.ring)
            ⊎ ((mp.epoch.ring ≡ mq.epoch.ring) × (length (log_of group at_p.older) ≤ length (log_of group at_q.older)))) [
              | inl below ↦ inl (subst (λ o. IsPrimaryBelow (Some mp.epoch.ring) o) last_q (subst (λ o. IsPrimaryBelow o a.head.last) last_p below))
              | inr same ↦ inr (
                (let k : Some mp.epoch.ring ≡ Some mq.epoch.ring = sym last_p ∙ same.0 ∙ last_q in cc k),
                omega
                    (arith, same.1, ap size hb, ap size ha),
              )
            ])
      ]

  pub hard : (bound : ℕ) (c e : RingId) (xs ys : List (Message A)) (v w : CompleteExchange A) → e.seq < bound → c.seq < e.seq → AgreedBelow group node_epochs e.seq
      → complete_exchange group (members c) xs ≡ Some v → IsReceivedByAll node_epochs c (members c) xs → IsListPrefix ys (text e) → complete_exchange group (members e) ys ≡ Some w
      → IsListPrefix (ring_log_on c v) (base_of group node_epochs e w.exchange)
  hard zero c e xs ys v w lb lt agreed hv safe front hw = absurd (omega (arith, lb))
  hard (suc bound) c e xs ys v w lb lt agreed hv safe front hw =
      let s = shared c e xs ys v w hv hw in
      let p = s.0 in
      let o = outcome group node_epochs members text facts disc e agreed.views ys w front hw in
      let stands = o.each p s.2 in
      let at_p = stands.says.0 in
      let at_q = o.says.0 in
      let heard_c = safe p s.1 in
      let in_c = heard_c.0 in
      let below = epoch-below (node_epochs p) in_c.epoch at_p.epoch in_c.older at_p.older (facts.rises p) in_c.there at_p.there
      (omega (arith, lt, seq-in p c in_c, seq-in p e at_p)) in
      let exch_c = by-epoch p c in_c (grown v heard_c.1.0) (complete_exchange-front group (members c) xs in_c.epoch.heard v hv heard_c.1) in
      let np = newest-from group at_p.older in_c.epoch in_c.older (grown v heard_c.1.0)
      (rises-older (node_epochs p) at_p.epoch at_p.older (facts.rises p) at_p.there) below exch_c in
      let log = hard-heads bound c e xs v p o.w.owner in_c at_p at_q o.chosen stands.received_head lb agreed hv safe heard_c.1
      (λ d zs u cd lb' le fd hd. hard bound c d xs zs v u lb' cd (agreed-lower group node_epochs d.seq e.seq (omega (arith, le)) agreed) hv safe fd hd)
      np (newest-or_none group at_q.older) stands.says.1 o.says.1 (no_less-tells o.chosen stands.received_head stands.no_greater) in
      subst (IsListPrefix (ring_log_on c v)) (sym (base-owner group node_epochs members text facts disc e w o)) log
