-- One moment: the claims about all lives, whatever the numbers of their rings.
use Rattle.std.proofs.Common.{◌≡◌, ℕ, suc, ◌+◌, ◌≤◌, true, List, [], ◌∷◌, length, take, map, Option, Some, None, ◌⊎◌, inl, inr}
use Rattle.std.proofs.Common.{refl, ap, sym, ◌∙◌, subst, arith}
use Rattle.std.specs.Prelude.{All}
use Rattle.std.proofs.lemmas.List.Elements.{All-nil, All-cons, All-weaker}
use Rattle.ring_base.specs.Prefixes.{IsListPrefix, prefix_self, prefix_trans, prefix_whole}
use Rattle.ring_base.specs.Group.{Group}
use Rattle.ring_base.specs.Rings.{IsBelow}
use Rattle.ring_base.specs.RingOrder.{below_numbers, below_irrefl}
use Rattle.ring_base.specs.declared.ring_id.RingId.{RingId}
use Rattle.ring_payload.specs.declared.call.Call.{Call as OneCall}
use Rattle.ring_log.specs.Messages.{Message}
use Rattle.ring_log.specs.declared.wanted.Wanted.{Wanted}
use Rattle.ring_log.specs.Exchanges.{wanted}
use Rattle.ring_log.specs.Epochs.{Epoch, number_above_rings}
use Rattle.ring_log.specs.EpochHistories.{CompleteExchange, complete_exchange, log_of, own_base, committed_of, base_of, ring_log_by, ring_log, keeps_committed, is_sound}
use Rattle.ring_log.specs.KnownLog.{known_log_of, keeps_kept, is_known_log_sound}
use Rattle.ring_log_proof.specs.RingFacts.{HasEpoch, EpochIn, Rises, IsReceivedByAll, RingFacts}
use Rattle.ring_log_proof.specs.Discipline.{KeepsRules, ConsistentEpochs}
use Rattle.ring_log_proof.specs.Settled.{IsSettled}
use Rattle.ring_log_proof.specs.EpochEvents.{IsEpochsExtended}
use Rattle.ring_log_proof.proofs.CompleteExchanges.{log_on}
use Rattle.ring_log_proof.proofs.Epochs.{IsLifeBelow, below-above, epochs-behind}
use Rattle.ring_log_proof.proofs.Views.{keeps-more}
use Rattle.ring_log_proof.proofs.SafeLogs.{same-number, hard}
use Rattle.ring_log_proof.proofs.Settled.{ground_log, SettledBelow, settled-either}
use Rattle.ring_log_proof.proofs.Committed.{KnownLog}
use Rattle.ring_log_proof.proofs.AdoptedBases.{adopts, keeps-at, agreed-all, kept-all}
use Rattle.ring_log_proof.proofs.Heads.{ViewsAt}
use Rattle.ring_log_proof.proofs.KnownLogSuffixes.{sound-same}
use Rattle.ring_log_proof.specs.Views.{IsView}
use Rattle.ring_log_proof.proofs.SettledGrows.{settled-onward, committed-longer_list}

epochs-below : {A : Type 0} (epochs : List (Epoch A)) (bound : ℕ) → Rises epochs → number_above_rings epochs ≤ bound → IsLifeBelow epochs epochs bound
epochs-below epochs bound rises le = record { rises = rises; there = λ s older i. i; low = below-above epochs bound rises le }

-- A ring's log, as it is defined

ring_log-is : {A : Type 0} (group : Group) (node_epochs : ℕ → List (Epoch A)) (r : RingId) (o : Option (CompleteExchange A)) (log : List (OneCall A))
    → ring_log_by group node_epochs r o ≡ Some log
    → (w : CompleteExchange A) × (o ≡ Some w) × (log_on (base_of group node_epochs r) w ≡ log)
ring_log-is group node_epochs r None log e = absurd (cc e)
ring_log-is group node_epochs r (Some w) log e = (w, refl, cc e)

-- The longest of lists that are prefixes of one another

longest-step : {X : Type 0} (f : ℕ → List X) (p : ℕ) (lists : List (List X)) (log : List X) → All (λ l. IsListPrefix l log) lists → IsListPrefix (f p) log
    ⊎ IsListPrefix log (f p) → (log ≡ []) ⊎ ((q : ℕ) × (log ≡ f q))
    → (log : List X) × All (λ l. IsListPrefix l log) (f p ∷ lists) × ((log ≡ []) ⊎ ((q : ℕ) × (log ≡ f q)))
longest-step f p lists log all (inl front) is = (log, All-cons (λ l. IsListPrefix l log) (f p) lists front all, is)
longest-step f p lists log all (inr front) is = (
  f p,
  All-cons (λ l. IsListPrefix l (f p)) (f p) lists (prefix_self (f p))
      (All-weaker (λ l. IsListPrefix l log) (λ l. IsListPrefix l (f p)) (λ l g. prefix_trans l log (f p) g front) lists all),
  inr (p, refl),
)

longest : {X : Type 0} (f : ℕ → List X) → ((p q : ℕ) → IsListPrefix (f p) (f q) ⊎ IsListPrefix (f q) (f p)) → (ps : List ℕ) → (log : List X)
    × All (λ l. IsListPrefix l log) (map f ps) × ((log ≡ []) ⊎ ((q : ℕ) × (log ≡ f q)))
longest f either [] = ([], All-nil (λ l. IsListPrefix l []), inl refl)
longest {X} f either (p ∷ ps) =
    let rest = longest f either ps in
    let log = rest.0 in
    longest-step f p (map f ps) log rest.1
    (elim rest.2 as (λ _. IsListPrefix (f p) log ⊎ IsListPrefix log (f p)) [
      | inl none ↦ inr (subst (λ l. IsListPrefix l (f p)) (sym none) (f p, refl))
      | inr q ↦ subst (λ l. IsListPrefix (f p) l ⊎ IsListPrefix l (f p)) (sym q.1) (either p q.0)
    ]) rest.2

module _ {A : Type 0} (group : Group) (node_epochs : ℕ → List (Epoch A)) (members : RingId → ℕ) where
  -- settled, and settled below a number
  pub settled-below : (calls : List (OneCall A)) → IsSettled group node_epochs members calls → (bound : ℕ)
      × ((more : ℕ) → bound ≤ more → SettledBelow group node_epochs members more calls)
  settled-below calls settled =
      let s = settled.0 in
      let is = ring_log-is group node_epochs s.ring (complete_exchange group (members s.ring) s.front) s.log s.is in (
        suc s.ring.seq,
        λ more le. (
          record { ring = s.ring; low = omega (arith, le); front = s.front; whole = is.0; exch = is.1; safe = s.safe },
          subst (IsListPrefix calls) (sym is.2) settled.1,
        ),
      )

  pub settled-made : (bound : ℕ) (calls : List (OneCall A)) → SettledBelow group node_epochs members bound calls → IsSettled group node_epochs members calls
  settled-made bound calls settled =
      let g = settled.0 in (
        record {
          ring = g.ring;
          front = g.front;
          log = ground_log group node_epochs members bound g;
          is = ap (ring_log_by group node_epochs g.ring) g.exch;
          safe =
              g.safe;
        },
        settled.1,
      )

module _ {A : Type 0} (group : Group) (node_epochs : ℕ → List (Epoch A)) (members : RingId → ℕ) (text : RingId → List (Message A))
    (facts : RingFacts node_epochs members text) (disc : KeepsRules group node_epochs) where
  -- what is safe in a primary ring is a prefix of the base of every later one
  pub safe-stays : (c e : RingId) (xs ys : List (Message A)) (log : List (OneCall A)) (w : CompleteExchange A) → IsBelow c e → IsReceivedByAll node_epochs c (members c) xs
      → ring_log group node_epochs c (members c) xs ≡ Some log
      → IsListPrefix ys (text e) → complete_exchange group (members e) ys ≡ Some w → IsListPrefix log (base_of group node_epochs e w.exchange)
  safe-stays c e xs ys log w below safe is front exch =
      let v = ring_log-is group node_epochs c (complete_exchange group (members c) xs) log is in
      subst (λ l. IsListPrefix l (base_of group node_epochs e w.exchange)) v.2
      (elim ((below_numbers c e).0 below) as (λ _. IsListPrefix (log_on (base_of group node_epochs c) v.0) (base_of group node_epochs e w.exchange)) [
        | inl less ↦ hard group node_epochs members text facts disc (suc e.seq) c e xs ys v.0 w (omega arith) less
            (agreed-all group node_epochs members text facts disc e.seq) v.1 safe front exch
        | inr tie ↦
            let same : c ≡ e =
            same-number group node_epochs members text facts disc c e (agreed-all group node_epochs members text facts disc e.seq).views xs ys v.0 w v.1 exch safe front
            tie.0 in
            absurd (below_irrefl e (subst (λ r. IsBelow r e) same below))
      ])

  -- of two settled lists one is a prefix of the other
  pub settled-fronts : (xs ys : List (OneCall A)) → IsSettled group node_epochs members xs → IsSettled group node_epochs members ys → IsListPrefix xs ys ⊎ IsListPrefix ys xs
  settled-fronts xs ys x y =
      let bx = settled-below group node_epochs members xs x in
      let by = settled-below group node_epochs members ys y in
      let bound = bx.0 + by.0 in
      settled-either group node_epochs members text facts disc bound xs ys (agreed-all group node_epochs members text facts disc bound) (bx.1 bound (omega arith))
      (by.1 bound (omega arith))

  kept-at : (p bound : ℕ) → number_above_rings (node_epochs p) ≤ bound → KnownLog group node_epochs members text facts disc bound (node_epochs p)
  kept-at p bound le = kept-all group node_epochs members text facts disc bound p (node_epochs p) (epochs-below (node_epochs p) bound (facts.rises p) le)

  -- what a node committed is empty or settled, and is a prefix of its log
  pub committed-settled : (p : ℕ) → (committed_of group (node_epochs p) ≡ []) ⊎ IsSettled group node_epochs members (committed_of group (node_epochs p))
  committed-settled p = elim (kept-at p (number_above_rings (node_epochs p)) (omega arith)).settled
      as (λ _. (committed_of group (node_epochs p) ≡ []) ⊎ IsSettled group node_epochs members (committed_of group (node_epochs p))) [
        | inl none ↦ inl none
        | inr settled ↦ inr (settled-made group node_epochs members (number_above_rings (node_epochs p)) (committed_of group (node_epochs p)) settled)
      ]

  pub committed-front : (p : ℕ) → IsListPrefix (committed_of group (node_epochs p)) (log_of group (node_epochs p))
  committed-front p = (kept-at p (number_above_rings (node_epochs p)) (omega arith)).front

  -- of what two nodes committed, one is a prefix of the other
  pub committed-fronts : (p q : ℕ) → IsListPrefix (committed_of group (node_epochs p)) (committed_of group (node_epochs q))
      ⊎ IsListPrefix (committed_of group (node_epochs q)) (committed_of group (node_epochs p))
  committed-fronts p q =
      let x = committed_of group (node_epochs p) in
      let y = committed_of group (node_epochs q) in
      elim (committed-settled p) as (λ _. IsListPrefix x y ⊎ IsListPrefix y x) [
        | inl none ↦ inl (subst (λ l. IsListPrefix l y) (sym none) (y, refl))
        | inr a ↦ elim (committed-settled q) as (λ _. IsListPrefix x y ⊎ IsListPrefix y x) [
          | inl none ↦ inr (subst (λ l. IsListPrefix l x) (sym none) (x, refl))
          | inr b ↦ settled-fronts x y a b
        ]
      ]

  -- all are prefixes of the longest
  pub one-log : (ps : List ℕ) → (log : List (OneCall A)) × All (λ calls. IsListPrefix calls log) (map (λ p. committed_of group (node_epochs p)) ps)
  one-log ps = let l = longest (λ p. committed_of group (node_epochs p)) committed-fronts ps in (l.0, l.1)

  -- Adoption

  -- the base that a member builds from an exchange and its own log is the ring's base
  pub adopted-base : (p : ℕ) (r : RingId) (at : EpochIn (node_epochs p) r) (w : CompleteExchange A) → complete_exchange group at.epoch.members at.epoch.heard ≡ Some w
      → own_base (log_of group at.older) at.epoch.front w.exchange ≡ base_of group node_epochs r w.exchange
  adopted-base p r at w exch = (adopts group node_epochs members text facts disc p r at w (agreed-all group node_epochs members text facts disc r.seq)
      (kept-all group node_epochs members text facts disc r.seq) exch).base

  -- its own first places are the first of the base, unless it restored them
  pub adopted-first : (p : ℕ) (r : RingId) (at : EpochIn (node_epochs p) r) (w : CompleteExchange A) (v : Wanted) → complete_exchange group at.epoch.members at.epoch.heard ≡ Some w
      → wanted w.exchange ≡ Some v → (v.snapshot ≡ None) ⊎ (v.from ≤ length (committed_of group at.older))
      → take v.from (log_of group at.older) ≡ take v.from (base_of group node_epochs r w.exchange)
  adopted-first p r at w v exch wants =
      let a = adopts group node_epochs members text facts disc p r at w (agreed-all group node_epochs members text facts disc r.seq)
      (kept-all group node_epochs members text facts disc r.seq) exch in
      let same : a.outcome.w ≡ v = let e : Some a.outcome.w ≡ Some v = sym a.outcome.is ∙ wants in cc e in
      subst (λ (u : Wanted). (u.snapshot ≡ None) ⊎ (u.from ≤ length (committed_of group at.older))
      → take u.from (log_of group at.older) ≡ take u.from (base_of group node_epochs r w.exchange)) same a.first

  -- the base begins with what it had committed
  pub keeps-all : (p : ℕ) (s : Epoch A) (older : List (Epoch A)) → HasEpoch (node_epochs p) s older
      → keeps_committed (log_of group older) s.front (committed_of group older) (complete_exchange group s.members s.heard) ≡ true
  keeps-all p s older there =
      keeps-at group node_epochs members text facts disc p s older there (agreed-all group node_epochs members text facts disc s.ring.seq)
      (kept-all group node_epochs members text facts disc s.ring.seq)

  -- The known log of a node, which is sound exactly if its whole life is

  pub views-all : (bound : ℕ) → ViewsAt group node_epochs bound
  views-all bound = (agreed-all group node_epochs members text facts disc bound).views

  pub view-at : (p : ℕ) → IsView group (node_epochs p)
  view-at p = views-all (number_above_rings (node_epochs p)) p (node_epochs p) (epochs-below (node_epochs p) (number_above_rings (node_epochs p)) (facts.rises p) (omega arith))

  -- no node finds, from its known log, that a base lacks committed places
  pub keeps-known : (p : ℕ) (s : Epoch A) (older : List (Epoch A)) → HasEpoch (node_epochs p) s older
      → keeps_kept (known_log_of group older) s.ring (complete_exchange group s.members s.heard) ≡ true
  keeps-known p s older there =
      let n = s.ring.seq in
      let below = epochs-behind (node_epochs p) s.ring (facts.rises p) (record { epoch = s; older = older; there = there; ring = refl }) in
      keeps-more group s older (kept-all group node_epochs members text facts disc n p older below).front (views-all n p older below) (keeps-all p s older there)

  pub sound-at : (p : ℕ) → is_known_log_sound group (node_epochs p) ≡ is_sound group (node_epochs p)
  sound-at p = sound-same group (node_epochs p) (keeps-all p) (disc.drops p)

-- A later moment

module _ {A : Type 0} (group : Group) (before after : ConsistentEpochs A group) (on : (p : ℕ) → IsEpochsExtended (before.node_epochs p) (after.node_epochs p)) where
  -- what is settled stays settled
  pub settled-stays : (calls : List (OneCall A)) → IsSettled group before.node_epochs before.members calls → IsSettled group after.node_epochs after.members calls
  settled-stays calls settled =
      let b = settled-below group before.node_epochs before.members calls settled in
      settled-made group after.node_epochs after.members b.0 calls
      (settled-onward group before.node_epochs after.node_epochs before.members after.members before.text after.text before.facts after.facts before.discipline
      after.discipline on
      (views-all group before.node_epochs before.members before.text before.facts before.discipline) b.0 calls (b.1 b.0 (omega arith)))

  -- what a node committed grows
  pub committed-grows : (p : ℕ) → IsListPrefix (committed_of group (before.node_epochs p)) (committed_of group (after.node_epochs p))
  committed-grows p =
      let old = committed_of group (before.node_epochs p) in
      let new = committed_of group (after.node_epochs p) in
      let le = committed-longer_list group (before.node_epochs p) (after.node_epochs p) (on p) in
      -- a list that is no shorter than another and a prefix of it is that list
      let still : IsListPrefix new old → IsListPrefix old new = λ back. subst (IsListPrefix old) (sym (prefix_whole new old back (omega (arith, le)))) (prefix_self old) in
      elim (committed-settled group before.node_epochs before.members before.text before.facts before.discipline p) as (λ _. IsListPrefix old new) [
        | inl none ↦ subst (λ l. IsListPrefix l new) (sym none) (new, refl)
        | inr a ↦ elim (committed-settled group after.node_epochs after.members after.text after.facts after.discipline p) as (λ _. IsListPrefix old new) [
          | inl none ↦ still (subst (λ l. IsListPrefix l old) (sym none) (old, refl))
          | inr b ↦ elim (settled-fronts group after.node_epochs after.members after.text after.facts after.discipline old new (settled-stays old a) b) [
            | inl front ↦ front
            | inr back ↦ still back
          ]
        ]
      ]
