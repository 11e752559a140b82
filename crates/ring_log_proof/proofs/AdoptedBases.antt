-- The base that a node builds from an exchange and its own log is the ring's base.

-- Each member's first places, up to the least committed length, are the owner's, or a snapshot stands for these; its Parts bring
-- the rest. The proof is by induction on ring numbers, since committed places agree because of the rings below.
use Rattle.std.proofs.Common.{◌≡◌, ℕ, zero, suc, ◌<◌, ◌≤◌, true, List, [], ◌∷◌, ◌++◌, length, take, drop, Option, Some, None, ◌⊎◌, inl, inr, refl, ap, sym}
use Rattle.std.proofs.Common.{◌∙◌, subst, arith}
use Rattle.std.proofs.lemmas.Bool.{and_from, le-leb, eq-eqb}
use Rattle.std.proofs.lemmas.List.{length-take-le}
use Rattle.ring_base.specs.Prefixes.{IsListPrefix, prefix_length}
use Rattle.ring_base.specs.Group.{Group}
use Rattle.ring_base.specs.Processors.{IsMember}
use Rattle.ring_base.specs.declared.ring_id.RingId.{RingId}
use Rattle.ring_base.proofs.ListFronts.{take-front, take-on}
use Rattle.ring_payload.specs.declared.call.Call.{Call as OneCall}
use Rattle.ring_payload.specs.declared.head.Head.{Head as OneHead}
use Rattle.ring_log.specs.Messages.{Message}
use Rattle.ring_log.specs.Exchanges.{wanted}
use Rattle.ring_log.specs.Logs.{begins}
use Rattle.ring_log.specs.Epochs.{Epoch}
use Rattle.ring_log.specs.EpochHistories.{CompleteExchange, complete_exchange, places_below, base_on, own_base, log_of, committed_of, base_of, is_known_below}
use Rattle.ring_log.specs.EpochHistories.{is_known_on, keeps_committed}
use Rattle.ring_log_proof.specs.RingFacts.{HasEpoch, EpochIn, RingFacts}
use Rattle.ring_log_proof.specs.Discipline.{KeepsRules}
use Rattle.ring_log_proof.proofs.Epochs.{epoch-same, IsLifeBelow, epochs-behind}
use Rattle.ring_log_proof.proofs.HonestExchanges.{Outcome}
use Rattle.ring_log_proof.proofs.Heads.{ViewsAt, Says, log_before, before-is, outcome, base-owner}
use Rattle.ring_log_proof.proofs.SafeLogs.{AgreedBelow, agreed-lower, by-ring, heard-in}
use Rattle.ring_log_proof.proofs.Settled.{SettledBelow, base-settled, settled-either}
use Rattle.ring_log_proof.proofs.Committed.{KnownLog, KeptAt, committed-kept}
use Rattle.ring_log_proof.proofs.CallPrefixes.{front-begins}
use Rattle.ring_log_proof.proofs.Views.{view-none, view-more}

module _ {A : Type 0} (group : Group) (node_epochs : ℕ → List (Epoch A)) (members : RingId → ℕ) (text : RingId → List (Message A))
    (facts : RingFacts node_epochs members text) (disc : KeepsRules group node_epochs) where
  -- of two lists that are committed in rings below a number, one is a prefix of the other
  same-start : (bound c : ℕ) (xs ys : List (OneCall A)) → AgreedBelow group node_epochs bound → (xs ≡ []) ⊎ SettledBelow group node_epochs members bound xs → (ys ≡ [])
      ⊎ SettledBelow group node_epochs members bound ys
      → c ≤ length xs → c ≤ length ys → take c xs ≡ take c ys
  same-start bound c xs ys agreed (inl x) y lx ly =
      let none : c ≡ 0 = omega (arith, lx, ap length x) in
      ap (λ k. take k xs) none ∙ sym (ap (λ k. take k ys) none)
  same-start bound c xs ys agreed (inr x) (inl y) lx ly =
      let none : c ≡ 0 = omega (arith, ly, ap length y) in
      ap (λ k. take k xs) none ∙ sym (ap (λ k. take k ys) none)
  same-start bound c xs ys agreed (inr x) (inr y) lx ly =
      elim (settled-either group node_epochs members text facts disc bound xs ys agreed x y) as (λ _. take c xs ≡ take c ys) [
        | inl f ↦ sym (take-front xs ys c f lx)
        | inr f ↦ take-front ys xs c f ly
      ]

  -- so are the first places of logs that had them committed
  logs-start : (bound c : ℕ) (a b : List (Epoch A)) → AgreedBelow group node_epochs bound → KnownLog group node_epochs members text facts disc bound a
      → KnownLog group node_epochs members text facts disc bound b
      → c ≤ length (committed_of group a) → c ≤ length (committed_of group b) → take c (log_of group a) ≡ take c (log_of group b)
  logs-start bound c a b agreed ka kb la lb =
      take-front (committed_of group a) (log_of group a) c ka.front la
      ∙ same-start bound c (committed_of group a) (committed_of group b) agreed ka.settled kb.settled la lb
      ∙ sym (take-front (committed_of group b) (log_of group b) c kb.front lb)

  -- the base that a member builds from its log when it adopts a ring; its first places are those of the base, unless it restored
  -- them
  pub record Adopts (p : ℕ) (r : RingId) (at : EpochIn (node_epochs p) r) (w : CompleteExchange A) : Type 0 where
    pub outcome : Outcome (Says group node_epochs r) (log_before group node_epochs r) (members r) w.exchange
    pub first : (outcome.w.snapshot ≡ None) ⊎ (outcome.w.from ≤ length (committed_of group at.older))
        → take outcome.w.from (log_of group at.older) ≡ take outcome.w.from (base_of group node_epochs r w.exchange)
    pub base : own_base (log_of group at.older) at.epoch.front w.exchange ≡ base_of group node_epochs r w.exchange
    pub below : is_known_below at.epoch.front (committed_of group at.older) outcome.w.from outcome.w.snapshot ≡ true

  pub adopts : (p : ℕ) (r : RingId) (at : EpochIn (node_epochs p) r) (w : CompleteExchange A) → AgreedBelow group node_epochs r.seq
      → KeptAt group node_epochs members text facts disc r.seq → complete_exchange group at.epoch.members at.epoch.heard ≡ Some w → Adopts p r at w
  adopts p r at w agreed kept exch =
      record {
        outcome = o;
        first = first;
        base = ap (λ v. base_on (log_of group at.older) at.epoch.front v w.exchange.received_calls) o.is ∙ by o.w.snapshot refl ∙ sym is;
        below = known o.w.snapshot refl;
      }
    where
      o : Outcome (Says group node_epochs r) (log_before group node_epochs r) (members r) w.exchange
      o =
          outcome group node_epochs members text facts disc r agreed.views at.epoch.heard w (heard-in group node_epochs members text facts disc p r at)
          (by-ring group node_epochs members text facts disc p r at w exch)

      from : ℕ
      from = o.w.from

      at_q : EpochIn (node_epochs o.w.owner) r
      at_q = o.says.0

      log_q : List (OneCall A)
      log_q = log_of group at_q.older

      is : base_of group node_epochs r w.exchange ≡ log_q
      is = base-owner group node_epochs members text facts disc r w o

      kept_q : KnownLog group node_epochs members text facts disc r.seq at_q.older
      kept_q = kept o.w.owner at_q.older (epochs-behind (node_epochs o.w.owner) r (facts.rises o.w.owner) at_q)

      -- the owner had committed the places below the first wanted one
      owner-committed : (v : Option ℕ) → o.w.snapshot ≡ v → from ≤ length (committed_of group at_q.older)
      owner-committed None e = omega (arith, o.committed e, ap (λ (h : OneHead). h.committed) o.says.1)
      owner-committed (Some n) e =
          let view = agreed.views o.w.owner at_q.older (epochs-behind (node_epochs o.w.owner) r (facts.rises o.w.owner) at_q) in
          omega (arith, view.high, view.trimmed, view.committed, (o.snapped n e).1, ap (λ (h : OneHead). h.trimmed) o.says.1)

      own : IsMember (members r) p
      own = subst (λ m. IsMember m p) (facts.one_set p at.epoch at.older at.there ∙ ap members at.ring) (facts.own p at.epoch at.older at.there)

      before-same : at.older ≡ (o.each p own).says.0.older
      before-same =
          let at_p = (o.each p own).says.0 in
          (epoch-same (node_epochs p) at.epoch at_p.epoch at.older at_p.older (facts.rises p) at.there at_p.there
          (ap (λ (k : RingId). k.seq) (at.ring ∙ sym at_p.ring))).1

      -- a member had committed these places, if no snapshot is wanted
      member-committed : o.w.snapshot ≡ None → from ≤ length (committed_of group at.older)
      member-committed e =
          let st = o.each p own in
          let told : st.received_head.head.committed ≡ length (committed_of group at.older) =
          ap (λ (h : OneHead). h.committed) st.says.1 ∙ ap (λ l. length (committed_of group l)) (sym before-same) in
          omega (arith, st.committed e, told)

      start : from ≤ length (committed_of group at.older) → take from (log_of group at.older) ≡ take from log_q
      start le =
          logs-start r.seq from at.older at_q.older agreed (kept p at.older (epochs-behind (node_epochs p) r (facts.rises p) at)) kept_q le
          (owner-committed o.w.snapshot refl)

      first : (o.w.snapshot ≡ None) ⊎ (from ≤ length (committed_of group at.older))
          → take from (log_of group at.older) ≡ take from (base_of group node_epochs r w.exchange)
      first (inl none) = start (member-committed none) ∙ sym (ap (take from) is)
      first (inr le) = start le ∙ sym (ap (take from) is)

      whole : take from log_q ++ w.exchange.received_calls ≡ log_q
      whole =
          let before : log_before group node_epochs r o.w.owner ≡ log_q = before-is group node_epochs members text facts disc r o.w.owner at_q in
          let received_calls : IsListPrefix w.exchange.received_calls (drop from log_q) = subst (λ l. IsListPrefix w.exchange.received_calls (drop from l)) before o.received_calls in
          take-on from log_q w.exchange.received_calls received_calls (omega (arith, o.full, o.to, ap (λ (h : OneHead). h.length) o.says.1))

      -- the places that the snapshot stands for
      snapped : (n : ℕ) → o.w.snapshot ≡ Some n → at.epoch.front ≡ take from log_q
      snapped n e =
          disc.fronts p at.epoch at.older w o.w n at.there exch o.is e
          ∙ ap (λ (k : RingId). take n (log_before group node_epochs k o.w.owner)) at.ring
          ∙ ap (take n) (before-is group node_epochs members text facts disc r o.w.owner at_q) ∙ ap (λ m. take m log_q) (o.snapped n e).0

      by : (v : Option ℕ) → o.w.snapshot ≡ v
          → places_below (log_of group at.older) at.epoch.front from o.w.snapshot ++ w.exchange.received_calls ≡ log_q
      by None e =
          ap (λ v. places_below (log_of group at.older) at.epoch.front from v ++ w.exchange.received_calls) e
          ∙ ap (λ l. l ++ w.exchange.received_calls) (start (member-committed e)) ∙ whole
      by (Some n) e =
          ap (λ v. places_below (log_of group at.older) at.epoch.front from v ++ w.exchange.received_calls) e
          ∙ ap (λ l. l ++ w.exchange.received_calls) (snapped n e) ∙ whole

      known : (v : Option ℕ) → o.w.snapshot ≡ v → is_known_below at.epoch.front (committed_of group at.older) from o.w.snapshot ≡ true
      known None e =
          ap (is_known_below at.epoch.front (committed_of group at.older) from) e
          ∙ le-leb from (length (committed_of group at.older)) (member-committed e)
      known (Some n) e =
          let le : from ≤ length log_q = omega (arith, owner-committed o.w.snapshot refl, prefix_length (committed_of group at_q.older) log_q kept_q.front) in
          ap (is_known_below at.epoch.front (committed_of group at.older) from) e
          ∙ eq-eqb (length at.epoch.front) from (ap length (snapped n e) ∙ length-take-le from log_q le)

  -- the known log of a life, if the claim holds of all rings below
  views-more : (bound : ℕ) → ((low : ℕ) → low < bound → KeptAt group node_epochs members text facts disc low)
      → ((p : ℕ) (s : Epoch A) (older : List (Epoch A)) → HasEpoch (node_epochs p) s older → s.ring.seq < bound
      → keeps_committed (log_of group older) s.front (committed_of group older) (complete_exchange group s.members s.heard) ≡ true) → ViewsAt group node_epochs bound
  views-more bound kept keeps p [] below = view-none group
  views-more bound kept keeps p (s ∷ older) below =
      let there = below.there s older (inl (refl, refl)) in
      let low = below.low s older (inl (refl, refl)) in
      let before : IsLifeBelow (node_epochs p) older bound = record {
        rises = below.rises.1;
        there = λ t behind i. below.there t behind (inr i);
        low = λ t behind i. below.low t behind (inr i);
      } in
      let at : EpochIn (node_epochs p) s.ring = record { epoch = s; older = older; there = there; ring = refl } in
      view-more group s older (kept s.ring.seq low p older (epochs-behind (node_epochs p) s.ring (facts.rises p) at)).front
      (views-more bound kept keeps p older before) (keeps p s older there low) (disc.drops p s older there)

  -- if a member adopts a ring, its base begins with what it had committed
  keeps-by : (own front done : List (OneCall A)) (o : Option (CompleteExchange A))
      → ((w : CompleteExchange A) → o ≡ Some w → is_known_on front done (wanted w.exchange) ≡ true)
      → ((w : CompleteExchange A) → o ≡ Some w → IsListPrefix done (own_base own front w.exchange)) → keeps_committed own front done o ≡ true
  keeps-by own front done None known f = refl
  keeps-by own front done (Some w) known f =
      and_from (is_known_on front done (wanted w.exchange)) (begins done (own_base own front w.exchange)) (known w refl)
      (front-begins done (own_base own front w.exchange) (f w refl))

  pub keeps-at : (p : ℕ) (s : Epoch A) (older : List (Epoch A)) → HasEpoch (node_epochs p) s older → AgreedBelow group node_epochs s.ring.seq
      → KeptAt group node_epochs members text facts disc s.ring.seq
      → keeps_committed (log_of group older) s.front (committed_of group older) (complete_exchange group s.members s.heard) ≡ true
  keeps-at p s older there agreed kept =
      let r = s.ring in
      let at : EpochIn (node_epochs p) r = record { epoch = s; older = older; there = there; ring = refl } in
      let done = committed_of group older in
      let k = kept p older (epochs-behind (node_epochs p) r (facts.rises p) at) in
      keeps-by (log_of group older) s.front done (complete_exchange group s.members s.heard)
      (λ w e. let a = adopts p r at w agreed kept e in ap (is_known_on s.front done) a.outcome.is ∙ a.below)
      (λ w e.
      let a = adopts p r at w agreed kept e in
      let base = base_of group node_epochs r w.exchange in
      subst (IsListPrefix done) (sym a.base) (elim k.settled as (λ _. IsListPrefix done base) [
        | inl none ↦ subst (λ l. IsListPrefix l base) (sym none) (base, refl)
        | inr settled ↦ base-settled group node_epochs members text facts disc r done s.heard w agreed settled
            (heard-in group node_epochs members text facts disc p r at) (by-ring group node_epochs members text facts disc p r at w e)
      ]))

  -- All claims by induction on ring numbers: bases agree, the two views are one, and what is committed is kept
  record Below (bound : ℕ) : Type 0 where
    agreed : AgreedBelow group node_epochs bound
    kept : (low : ℕ) → low ≤ bound → KeptAt group node_epochs members text facts disc low

  none-below : (bound : ℕ) → bound ≡ zero → AgreedBelow group node_epochs bound
  none-below bound is = record {
    bases = λ p s older w there low exch. absurd (omega (arith, low, is));
    views = views-more bound (λ low less. absurd (omega (arith, less, is))) (λ p s older there low. absurd (omega (arith, low, is)));
  }

  all-below : (bound : ℕ) → Below bound
  all-below zero = record {
    agreed = none-below zero refl;
    kept = λ low le p epochs below.
        let is : low ≡ zero = omega (arith, le) in
        committed-kept group node_epochs members text facts disc low p epochs (none-below low is) (λ least less. absurd (omega (arith, less, is))) below;
  }
  all-below (suc bound) =
      let before = all-below bound in
      let here : (s : Epoch A) → s.ring.seq < suc bound → AgreedBelow group node_epochs s.ring.seq = λ s low.
      agreed-lower group node_epochs s.ring.seq bound (omega (arith, low)) before.agreed in
      let agreed : AgreedBelow group node_epochs (suc bound) = record {
        bases = λ p s older w there low exch.
            (adopts p s.ring (record { epoch = s; older = older; there = there; ring = refl }) w (here s low)
            (before.kept s.ring.seq (omega (arith, low))) exch).base;
        views = views-more (suc bound) (λ low less. before.kept low (omega (arith, less)))
            (λ p s older there low. keeps-at p s older there (here s low) (before.kept s.ring.seq (omega (arith, low))));
      } in
      record {
        agreed = agreed;
        kept = λ low le p epochs below.
            committed-kept group node_epochs members text facts disc low p epochs (agreed-lower group node_epochs low (suc bound) le agreed)
            (λ least less. before.kept least (omega (arith, less, le))) below;
      }

  pub agreed-all : (bound : ℕ) → AgreedBelow group node_epochs bound
  agreed-all bound = (all-below bound).agreed

  pub kept-all : (bound : ℕ) → KeptAt group node_epochs members text facts disc bound
  kept-all bound = (all-below bound).kept bound (omega arith)
