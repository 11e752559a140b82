-- What a node committed is settled, and is a prefix of its log.

-- The places of a snapshot that it restored are a prefix of what the owner had committed. The proof is by induction on ring
-- numbers.
use Rattle.std.proofs.Common.{◌≡◌, ℕ, ◌<◌, ◌≤◌, List, [], ◌∷◌, ◌++◌, length, take, Option, Some, None, ◌⊎◌, inl, inr, refl, ap}
use Rattle.std.proofs.Common.{sym, ◌∙◌, subst, arith}
use Rattle.std.proofs.lemmas.Bool.{cond_both}
use Rattle.std.proofs.lemmas.List.{length-take-le}
use Rattle.ring_base.specs.Prefixes.{IsListPrefix, prefix_self, prefix_trans}
use Rattle.ring_base.specs.Group.{Group, is_primary}
use Rattle.ring_base.specs.declared.ring_id.RingId.{RingId}
use Rattle.ring_base.proofs.ListFronts.{take-front, taken-front}
use Rattle.ring_payload.specs.declared.call.Call.{Call as OneCall}
use Rattle.ring_payload.specs.declared.head.Head.{Head as OneHead}
use Rattle.ring_log.specs.Messages.{Message}
use Rattle.ring_log.specs.declared.wanted.Wanted.{Wanted}
use Rattle.ring_log.specs.Exchanges.{Exchange, exchange_opening, wanted}
use Rattle.ring_log.specs.Epochs.{Epoch}
use Rattle.ring_log.specs.EpochHistories.{CompleteExchange, complete_exchange_from, complete_exchange, calls_in, places_below, base_on, own_base, log_by, log_of, longer_list, committed_by}
use Rattle.ring_log.specs.EpochHistories.{front_on, restored_by, committed_of, trimmed_of, base_of}
use Rattle.ring_log.proofs.LongerLists.{longer_list-either}
use Rattle.ring_log_proof.specs.RingFacts.{HasEpoch, EpochIn, safe_part, IsReceivedByAll, RingFacts}
use Rattle.ring_log_proof.specs.Discipline.{KeepsRules}
use Rattle.ring_log_proof.proofs.CompleteExchanges.{grown, complete_exchange-front, log_on, base-front, log-front, upto-front}
use Rattle.ring_log_proof.proofs.Epochs.{IsLifeBelow, epochs-behind}
use Rattle.ring_log_proof.proofs.Heads.{ViewsAt, log_before, before-is, outcome}
use Rattle.ring_log_proof.proofs.SafeLogs.{AgreedBelow, views-lower, agreed-lower, by-ring, heard-in}
use Rattle.ring_log_proof.proofs.Settled.{SettledBelow, settled-lower, base-settled}

-- without messages no exchange is complete
heard-some : {A : Type 0} (group : Group) (m : ℕ) (xs : List (Message A)) (w : CompleteExchange A) → complete_exchange group m xs ≡ Some w → xs ≡ [] → ⊥
heard-some group m xs w e none =
    let bare : complete_exchange group m [] ≡ Some w = subst (λ l. complete_exchange group m l ≡ Some w) none e in
    cond_both (is_primary group m) (complete_exchange_from (exchange_opening m) []) None (λ o. o ≡ Some w → ⊥) (λ t h. cc h) (λ f h. cc h) bare

module _ {A : Type 0} (group : Group) (node_epochs : ℕ → List (Epoch A)) (members : RingId → ℕ) (text : RingId → List (Message A))
    (facts : RingFacts node_epochs members text) (disc : KeepsRules group node_epochs) where
  -- empty, or settled in a ring below a number
  abbrev pub IsKnownLog : ℕ → List (OneCall A) → Type 0
  IsKnownLog bound calls = (calls ≡ []) ⊎ SettledBelow group node_epochs members bound calls

  known-lower : (low high : ℕ) (calls : List (OneCall A)) → low ≤ high → IsKnownLog low calls → IsKnownLog high calls
  known-lower low high calls le (inl none) = inl none
  known-lower low high calls le (inr s) = inr (settled-lower group node_epochs members low high calls le s)

  -- so is a prefix of such places
  known-front : (bound : ℕ) (xs ys : List (OneCall A)) → IsListPrefix xs ys → IsKnownLog bound ys → IsKnownLog bound xs
  known-front bound xs ys f (inl none) = inl (none-before xs ys f none)
    where
      none-before : (few more : List (OneCall A)) → IsListPrefix few more → more ≡ [] → few ≡ []
      none-before [] more f none = refl
      none-before (c ∷ few) more f none = absurd (let e : c ∷ (few ++ f.0) ≡ [] = f.1 ∙ none in cc e)
  known-front bound xs ys f (inr s) = inr (s.0, prefix_trans xs ys _ f s.1)

  -- what is committed in a life, by rings below a number
  pub record KnownLog (bound : ℕ) (epochs : List (Epoch A)) : Type 0 where
    pub settled : IsKnownLog bound (committed_of group epochs)
    pub front : IsListPrefix (committed_of group epochs) (log_of group epochs)

  -- the same of each life of rings below a number
  abbrev pub KeptAt : ℕ → Type 0
  KeptAt bound = (p : ℕ) (epochs : List (Epoch A)) → IsLifeBelow (node_epochs p) epochs bound → KnownLog bound epochs

  -- An adopted ring

  -- the places of the snapshot sent there: as many as were wanted, and a prefix of what the owner had committed
  record StandsFor (bound : ℕ) (s : Epoch A) (v : Wanted) (at : ℕ) : Type 0 where
    long : length s.front ≡ v.from
    known : IsKnownLog bound s.front

  stands-for : (p : ℕ) (s : Epoch A) (older : List (Epoch A)) (w : CompleteExchange A) (v : Wanted) (at : ℕ) → HasEpoch (node_epochs p) s older
      → ViewsAt group node_epochs s.ring.seq → KeptAt s.ring.seq → complete_exchange group s.members s.heard ≡ Some w → wanted w.exchange ≡ Some v → v.snapshot ≡ Some at
      → StandsFor s.ring.seq s v at
  stands-for p s older w v at there views kept exch wants snap =
      let r = s.ring in
      let in_r : EpochIn (node_epochs p) r = record { epoch = s; older = older; there = there; ring = refl } in
      let o = outcome group node_epochs members text facts disc r views s.heard w (heard-in group node_epochs members text facts disc p r in_r)
      (by-ring group node_epochs members text facts disc p r in_r w exch) in
      let same : o.w ≡ v = let e : Some o.w ≡ Some v = sym o.is ∙ wants in cc e in
      let snapped = o.snapped at (ap (λ (u : Wanted). u.snapshot) same ∙ snap) in
      let q = o.w.owner in
      let at_q = o.says.0 in
      let k = kept q at_q.older (epochs-behind (node_epochs q) r (facts.rises q) at_q) in
      let log_q = log_of group at_q.older in
      let done_q = committed_of group at_q.older in
      let from : at ≡ v.from = snapped.0 ∙ ap (λ (u : Wanted). u.from) same in
      let dropped : trimmed_of group at_q.older ≡ at = sym (ap (λ (h : OneHead). h.trimmed) o.says.1) ∙ snapped.1 ∙ sym snapped.0 in
      let view = views q at_q.older (epochs-behind (node_epochs q) r (facts.rises q) at_q) in
      let within : at ≤ length done_q = omega (arith, view.high, view.trimmed, view.committed, dropped) in
      let there_q : s.front ≡ take at log_q =
      disc.fronts p s older w v at there exch wants snap ∙ ap (λ (u : Wanted). take at (log_before group node_epochs r u.owner)) (sym same)
      ∙ ap (take at) (before-is group node_epochs members text facts disc r q at_q) in
      let is : s.front ≡ take at done_q = there_q ∙ take-front done_q log_q at k.front within in
      record {
        long = ap length is ∙ length-take-le at done_q within ∙ from;
        known = subst (IsKnownLog r.seq) (sym is) (known-front r.seq (take at done_q) done_q (taken-front at done_q) k.settled);
      }

  -- what is committed after a restore is possible: settled before, and a prefix of the base
  record Restored (bound : ℕ) (s : Epoch A) (older : List (Epoch A)) (w : CompleteExchange A) (calls : List (OneCall A)) : Type 0 where
    known : IsKnownLog bound calls
    within : IsListPrefix calls (own_base (log_of group older) s.front w.exchange)

  restored-at : (bound : ℕ) (s : Epoch A) (older : List (Epoch A)) (w : CompleteExchange A) (v : Wanted) (o : Option ℕ) → wanted w.exchange ≡ Some v → v.snapshot ≡ o
      → ((at : ℕ) → o ≡ Some at → StandsFor bound s v at)
      → IsKnownLog bound (committed_of group older) → IsListPrefix (committed_of group older) (own_base (log_of group older) s.front w.exchange)
      → Restored bound s older w (longer_list (committed_of group older) (places_below [] s.front 0 o))
  restored-at bound s older w v None wants snap stands known within =
      let old = committed_of group older in
      let base = own_base (log_of group older) s.front w.exchange in
      record {
        known = longer_list-either (IsKnownLog bound) old [] known (inl refl);
        within = longer_list-either (λ l. IsListPrefix l base) old [] within (base, refl);
      }
  restored-at bound s older w v (Some at) wants snap stands known within =
      let st = stands at refl in
      let old = committed_of group older in
      let base = own_base (log_of group older) s.front w.exchange in
      let is : base ≡ s.front ++ w.exchange.received_calls =
      ap (λ o. base_on (log_of group older) s.front o w.exchange.received_calls) wants
      ∙ ap (λ o. places_below (log_of group older) s.front v.from o ++ w.exchange.received_calls) snap in
      record {
        known = longer_list-either (IsKnownLog bound) old s.front known st.known;
        within = longer_list-either (λ l. IsListPrefix l base) old s.front within (w.exchange.received_calls, sym is);
      }

  -- An epoch

  -- what is safe there is settled
  marked-known : (bound p : ℕ) (s : Epoch A) (older : List (Epoch A)) (w v : CompleteExchange A) → HasEpoch (node_epochs p) s older → s.ring.seq < bound → AgreedBelow group node_epochs bound
      → complete_exchange group s.members s.heard ≡ Some w → complete_exchange group s.members (safe_part s) ≡ Some v
      → IsKnownLog bound (log_on (own_base (log_of group older) s.front) v)
  marked-known bound p s older w v there low agreed adopts e =
      let r = s.ring in
      let set = facts.one_set p s older there in
      let exch : complete_exchange group (members r) (safe_part s) ≡ Some v = subst (λ q. complete_exchange group q (safe_part s) ≡ Some v) set e in
      let safe : IsReceivedByAll node_epochs r (members r) (safe_part s) =
      subst (λ q. IsReceivedByAll node_epochs r q (safe_part s)) set (elim (facts.safe p s older there) as (λ _. IsReceivedByAll node_epochs r s.members (safe_part s)) [
        | inl none ↦ absurd (heard-some group s.members (safe_part s) v e none)
        | inr all ↦ all
      ]) in
      let front = upto-front s.mark s.heard in
      let more = complete_exchange-front group s.members (safe_part s) s.heard v e front in
      let log = log_on (base_of group node_epochs r) v in
      let is : log_on (own_base (log_of group older) s.front) v ≡ log = ap (λ l. l ++ calls_in v.rest) (agreed.bases p s older (grown v front.0) there low more) in
      inr (record { ring = r; low = low; front = safe_part s; whole = v; exch = exch; safe = safe }, subst (λ l. IsListPrefix l log) (sym is) (prefix_self log))

  kept-epoch : (bound p : ℕ) (s : Epoch A) (older : List (Epoch A)) (o safe : Option (CompleteExchange A)) → HasEpoch (node_epochs p) s older → s.ring.seq < bound
      → AgreedBelow group node_epochs bound → KeptAt s.ring.seq → KnownLog s.ring.seq older
      → complete_exchange group s.members s.heard ≡ o → complete_exchange group s.members (safe_part s) ≡ safe
      → IsKnownLog bound (committed_by (log_of group older) s.front (restored_by s.front (committed_of group older) o) safe)
      × IsListPrefix (committed_by (log_of group older) s.front (restored_by s.front (committed_of group older) o) safe) (log_by (log_of group older) s.front o)
  kept-epoch bound p s older None None there low agreed kept k e f = (known-lower s.ring.seq bound (committed_of group older) (omega (arith, low)) k.settled, k.front)
  kept-epoch bound p s older None (Some v) there low agreed kept k e f =
      absurd (let y = sym (complete_exchange-front group s.members (safe_part s) s.heard v f (upto-front s.mark s.heard)) ∙ e in cc y)
  kept-epoch bound p s older (Some w) safe there low agreed kept k e f = by safe f
    where
      own : Exchange A → List (OneCall A)
      own = own_base (log_of group older) s.front

      old : List (OneCall A)
      old = committed_of group older

      in_r : EpochIn (node_epochs p) s.ring
      in_r = record { epoch = s; older = older; there = there; ring = refl }

      within : IsListPrefix old (own w.exchange)
      within = subst (IsListPrefix old) (sym (agreed.bases p s older w there low e)) (elim k.settled as (λ _. IsListPrefix old (base_of group node_epochs s.ring w.exchange)) [
        | inl none ↦ subst (λ l. IsListPrefix l (base_of group node_epochs s.ring w.exchange)) (sym none) (base_of group node_epochs s.ring w.exchange, refl)
        | inr settled ↦ base-settled group node_epochs members text facts disc s.ring old s.heard w
            (agreed-lower group node_epochs s.ring.seq bound (omega (arith, low)) agreed) settled
            (heard-in group node_epochs members text facts disc p s.ring in_r) (by-ring group node_epochs members text facts disc p s.ring in_r w e)
      ])

      new : List (OneCall A)
      new = restored_by s.front old (Some w)

      restored : Restored s.ring.seq s older w new
      restored =
          let o = outcome group node_epochs members text facts disc s.ring (views-lower group node_epochs s.ring.seq bound (omega (arith, low)) agreed.views) s.heard w
          (heard-in group node_epochs members text facts disc p s.ring in_r)
          (by-ring group node_epochs members text facts disc p s.ring in_r w e) in
          subst (λ v. Restored s.ring.seq s older w (longer_list old (front_on s.front v))) (sym o.is)
          (restored-at s.ring.seq s older w o.w o.w.snapshot o.is refl (λ at snap. stands-for p s older w o.w at there
          (views-lower group node_epochs s.ring.seq bound (omega (arith, low)) agreed.views) kept e o.is snap) k.settled within)

      by : (safe : Option (CompleteExchange A)) → complete_exchange group s.members (safe_part s) ≡ safe
          → IsKnownLog bound (committed_by (log_of group older) s.front new safe) × IsListPrefix (committed_by (log_of group older) s.front new safe) (log_on own w)
      by None f =
          (known-lower s.ring.seq bound new (omega (arith, low)) restored.known, prefix_trans new (own w.exchange) (log_on own w) restored.within (base-front own w))
      by (Some v) f = (
        longer_list-either (IsKnownLog bound) new (log_on own v) (known-lower s.ring.seq bound new (omega (arith, low)) restored.known)
            (marked-known bound p s older w v there low agreed e f),
        longer_list-either (λ l. IsListPrefix l (log_on own w)) new (log_on own v) (prefix_trans new (own w.exchange) (log_on own w) restored.within (base-front own w))
            (log-front own group s.members (safe_part s) s.heard v w f e (upto-front s.mark s.heard)),
      )

  -- A life, if the claim holds of all lives of smaller rings
  pub committed-kept : (bound p : ℕ) (epochs : List (Epoch A)) → AgreedBelow group node_epochs bound → ((low : ℕ) → low < bound → KeptAt low)
      → IsLifeBelow (node_epochs p) epochs bound → KnownLog bound epochs
  committed-kept bound p [] agreed kept below = record { settled = inl refl; front = ([], refl) }
  committed-kept bound p (s ∷ older) agreed kept below =
      let there = below.there s older (inl (refl, refl)) in
      let low = below.low s older (inl (refl, refl)) in
      let at : EpochIn (node_epochs p) s.ring = record { epoch = s; older = older; there = there; ring = refl } in
      let before = kept s.ring.seq low p older (epochs-behind (node_epochs p) s.ring (facts.rises p) at) in
      let now = kept-epoch bound p s older (complete_exchange group s.members s.heard) (complete_exchange group s.members (safe_part s)) there low agreed
      (kept s.ring.seq low) before refl refl in
      record { settled = now.0; front = now.1 }
