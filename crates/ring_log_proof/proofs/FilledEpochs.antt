-- Lives filled with the places that snapshots stand for have the facts of the nodes' own lives, keep the same rules, and go on as
-- these do.
-- The places of the snapshot sent in a ring are settled once the ring's exchange is complete.
use Rattle.std.proofs.Common.{◌≡◌, ℕ, zero, suc, ◌<◌, ◌≤◌, Bool, true, false, List, [], ◌∷◌, ◌++◌, take, Option, Some, None, ◌⊎◌, inl, inr}
use Rattle.std.proofs.Common.{refl, ap, sym, ◌∙◌, subst, arith}
use Rattle.std.specs.List.{AllByRecursion as Each}
use Rattle.std.proofs.lemmas.Bool.{cond-true, cond-false}
use Rattle.ring_base.specs.Prefixes.{IsListPrefix}
use Rattle.ring_base.specs.Group.{Group, is_primary}
use Rattle.ring_base.specs.Processors.{IsMember}
use Rattle.ring_base.specs.declared.ring_id.RingId.{RingId}
use Rattle.ring_base.proofs.Each.{each-map}
use Rattle.ring_payload.specs.declared.call.Call.{Call as OneCall}
use Rattle.ring_payload.specs.declared.content.Payload.TheVariants.{Head}
use Rattle.ring_log.specs.Messages.{Message}
use Rattle.ring_log.specs.declared.wanted.Wanted.{Wanted}
use Rattle.ring_log.specs.Exchanges.{exchange_opening, wanted}
use Rattle.ring_log.specs.Epochs.{Epoch}
use Rattle.ring_log.specs.KnownLog.{KnownLog, known_log_after_epoch, dropped_by, known_log_of, known_log_head}
use Rattle.ring_log.specs.EpochHistories.{CompleteExchange, complete_exchange_from, complete_exchange, log_of, messages_upto, older_at, epochs_with_snapshots, front_wanted, front_by, front_after, fronts_below, whole_epochs}
use Rattle.ring_log_proof.specs.RingFacts.{HasEpoch, EpochIn, Rises, AreAbove, payloads_from, safe_part, IsReceivedByAll, RingFacts}
use Rattle.ring_log_proof.specs.Discipline.{FollowsHead, OpensWithHead, KeepsDiscipline, DropsCommitted, KeepsRules}
use Rattle.ring_log_proof.specs.EpochEvents.{IsEpochExtended, IsEpochsExtended}
use Rattle.ring_log_proof.proofs.Epochs.{epoch-trans, older-below, older-in}
use Rattle.ring_log_proof.proofs.CompleteExchanges.{grown, whole-front}
use Rattle.ring_log_proof.proofs.Prefixes.{fill, filled-epoch, filled-same, front-stable, front-of, fronts-stand}
use Rattle.ring_log_proof.proofs.Heads.{outcome}
use Rattle.ring_log_proof.proofs.Moment.{views-all}
use Rattle.ring_log_proof.proofs.SettledGrows.{epoch-behind, still-there}

-- ---- one life

module _ {A : Type 0} (fronts : ℕ → ℕ → List (OneCall A)) (p : ℕ) where
  pub filled-there : (epochs : List (Epoch A)) (s : Epoch A) (older : List (Epoch A)) → HasEpoch epochs s older
      → HasEpoch (epochs_with_snapshots fronts p epochs) (fill fronts p s) (epochs_with_snapshots fronts p older)
  filled-there [] s older i = absurd i
  filled-there (t ∷ before) s older (inl e) = inl (ap (fill fronts p) e.0, ap (epochs_with_snapshots fronts p) e.1)
  filled-there (t ∷ before) s older (inr i) = inr (filled-there before s older i)

  -- the node's known log is the same
  pub kept-filled : (group : Group) (epochs : List (Epoch A)) → known_log_of group (epochs_with_snapshots fronts p epochs) ≡ known_log_of group epochs
  kept-filled group [] = refl
  kept-filled group (s ∷ older) =
      ap (λ (k : KnownLog A). dropped_by s.trimmed (known_log_after_epoch s.ring k (complete_exchange group s.members s.heard) (complete_exchange group s.members (messages_upto s.mark s.heard))))
      (kept-filled group older)

  filled-rises : (epochs : List (Epoch A)) → Rises epochs → Rises (epochs_with_snapshots fronts p epochs)
  filled-rises [] r = tt
  filled-rises (s ∷ older) r = (each-map (λ (t : Epoch A). t.ring.seq < s.ring.seq) (fill fronts p) older r.0, filled-rises older r.1)

  abbrev pub filled-in : (epochs : List (Epoch A)) (r : RingId) → EpochIn epochs r → EpochIn (epochs_with_snapshots fronts p epochs) r
  filled-in epochs r at = record {
    epoch = fill fronts p at.epoch;
    older = epochs_with_snapshots fronts p at.older;
    there = filled-there epochs at.epoch at.older at.there;
    ring = at.ring;
  }

  -- a property of an epoch and the life before it that doesn't depend on snapshot places
  filled-each : (epochs : List (Epoch A)) (P : Epoch A → List (Epoch A) → Type 0)
      → ((s : Epoch A) (older : List (Epoch A)) → HasEpoch epochs s older → P (fill fronts p s) (epochs_with_snapshots fronts p older))
      → (t : Epoch A) (before : List (Epoch A)) → HasEpoch (epochs_with_snapshots fronts p epochs) t before → P t before
  filled-each epochs P h t before i =
      let f = filled-epoch fronts p epochs t before i in
      subst (λ (u : Epoch A). P u before) f.stay_is (subst (P (fill fronts p f.epoch)) f.older_is (h f.epoch f.older f.there))

  own-in : (epochs : List (Epoch A)) (r : RingId) → EpochIn (epochs_with_snapshots fronts p epochs) r → EpochIn epochs r
  own-in epochs r at =
      let f = filled-epoch fronts p epochs at.epoch at.older at.there in
      record { epoch = f.epoch; older = f.older; there = f.there; ring = ap (λ (u : Epoch A). u.ring) f.stay_is ∙ at.ring }

-- ---- all lives, each filled in some way

module _ {A : Type 0} (node_epochs : ℕ → List (Epoch A)) (fronts : ℕ → ℕ → ℕ → List (OneCall A)) where
  abbrev Filled : ℕ → List (Epoch A)
  Filled p = epochs_with_snapshots (fronts p) p (node_epochs p)

  pub filled-heard : (r : RingId) (m : ℕ) (xs : List (Message A)) → IsReceivedByAll node_epochs r m xs → IsReceivedByAll Filled r m xs
  filled-heard r m xs h p i = (filled-in (fronts p) p (node_epochs p) r (h p i).0, (h p i).1)

  -- the facts
  pub facts-filled : (members : RingId → ℕ) (text : RingId → List (Message A)) → RingFacts node_epochs members text → RingFacts Filled members text
  facts-filled members text facts = record {
    rises = λ p. filled-rises (fronts p) p (node_epochs p) (facts.rises p);
    one_set = λ p. filled-each (fronts p) p (node_epochs p) (λ s older. s.members ≡ members s.ring) (facts.one_set p);
    own = λ p. filled-each (fronts p) p (node_epochs p) (λ s older. IsMember s.members p) (facts.own p);
    heard = λ p. filled-each (fronts p) p (node_epochs p) (λ s older. IsListPrefix s.heard (text s.ring)) (facts.heard p);
    named = facts.named;
    said = λ p r. elim (facts.said p r) as (λ _. (payloads_from p (text r) ≡ []) ⊎ ((at : EpochIn (Filled p) r) × IsListPrefix (payloads_from p (text r)) at.epoch.sent)) [
      | inl none ↦ inl none
      | inr h ↦ inr (filled-in (fronts p) p (node_epochs p) r h.0, h.1)
    ];
    safe = λ p. filled-each (fronts p) p (node_epochs p) (λ s older. (safe_part s ≡ []) ⊎ IsReceivedByAll Filled s.ring s.members (safe_part s)) (λ s older i.
        elim (facts.safe p s older i) as (λ _. (safe_part s ≡ []) ⊎ IsReceivedByAll Filled s.ring s.members (safe_part s)) [
          | inl none ↦ inl none
          | inr h ↦ inr (filled-heard s.ring s.members (safe_part s) h)
        ]);
  }

  -- the payloads handed over, and the places dropped
  pub epochs_with_sends-filled : (group : Group) → KeepsDiscipline group node_epochs → KeepsDiscipline group Filled
  epochs_with_sends-filled group epochs_with_sends p = filled-each (fronts p) p (node_epochs p) (λ s older. (s.sent ≡ []) ⊎ OpensWithHead group s older) (λ s older i.
      let same = sym (kept-filled (fronts p) p group older) in
      elim (epochs_with_sends p s older i) as (λ _. (s.sent ≡ []) ⊎ OpensWithHead group (fill (fronts p) p s) (epochs_with_snapshots (fronts p) p older)) [
        | inl none ↦ inl none
        | inr h ↦ inr (record {
          primary = h.primary;
          rest = h.rest;
          opens = h.opens ∙ ap (λ (k : KnownLog A). Head (known_log_head k) ∷ h.rest) same;
          follows = subst (λ (k : KnownLog A). Each (FollowsHead k) h.rest) same h.follows;
        })
      ])

  pub drops-filled : (group : Group) → DropsCommitted group node_epochs → DropsCommitted group Filled
  drops-filled group drops p = filled-each (fronts p) p (node_epochs p) (λ s older. s.trimmed ≤ (known_log_of group (s ∷ older)).committed) (λ s older i.
      subst (λ (k : KnownLog A). s.trimmed ≤ k.committed) (sym (kept-filled (fronts p) p group (s ∷ older))) (drops p s older i))

-- ---- lives filled with the places that snapshots stand for

module _ {A : Type 0} (group : Group) (node_epochs : ℕ → List (Epoch A)) (bounds : ℕ → ℕ) (above : AreAbove node_epochs bounds) where
  abbrev CompleteExchanges : ℕ → List (Epoch A)
  CompleteExchanges p = whole_epochs group node_epochs (bounds p) p

  pub rules-whole : ((p : ℕ) → Rises (node_epochs p)) → KeepsDiscipline group node_epochs → DropsCommitted group node_epochs → KeepsRules group CompleteExchanges
  rules-whole rises epochs_with_sends drops = record {
    epochs_with_sends = epochs_with_sends-filled node_epochs (λ p. fronts_below group node_epochs (bounds p)) group epochs_with_sends;
    drops = drops-filled node_epochs (λ p. fronts_below group node_epochs (bounds p)) group drops;
    fronts = fronts-stand group node_epochs rises bounds above;
  }

  module _ (members : RingId → ℕ) (text : RingId → List (Message A)) (facts : RingFacts node_epochs members text) (epochs_with_sends : KeepsDiscipline group node_epochs)
      (drops : DropsCommitted group node_epochs) where
    -- the owner of the wanted places has an epoch in the ring
    pub owner-in : (p : ℕ) (s : Epoch A) (older : List (Epoch A)) (whole : CompleteExchange A) (w : Wanted) → HasEpoch (node_epochs p) s older
        → complete_exchange group s.members s.heard ≡ Some whole → wanted whole.exchange ≡ Some w → EpochIn (node_epochs w.owner) s.ring
    owner-in p s older whole w i exch wants =
        let all = facts-filled node_epochs (λ q. fronts_below group node_epochs (bounds q)) members text facts in
        let rules = rules-whole facts.rises epochs_with_sends drops in
        let r = s.ring in
        let o = outcome group CompleteExchanges members text all rules r (views-all group CompleteExchanges members text all rules r.seq) s.heard whole (facts.heard p s older i)
        (subst (λ m. complete_exchange group m s.heard ≡ Some whole) (facts.one_set p s older i) exch) in
        let same : o.w ≡ w = let e : Some o.w ≡ Some w = sym o.is ∙ wants in cc e in
        let q = o.w.owner in
        let at : EpochIn (node_epochs q) r = own-in (fronts_below group node_epochs (bounds q)) q (node_epochs q) r o.says.0 in
        subst (λ (v : Wanted). EpochIn (node_epochs v.owner) r) same at

    -- Extended lives

    module _ (after : ℕ → List (Epoch A)) (on : (p : ℕ) → IsEpochsExtended (node_epochs p) (after p)) (rises' : (p : ℕ) → Rises (after p)) where
      -- the places of the snapshot sent in the ring of a number
      abbrev told : (ℕ → List (Epoch A)) → ℕ → ℕ → List (OneCall A)
      told ls p n = fronts_below group ls (suc n) p n

      -- they are the same in each ring of a smaller number that was left
      abbrev IsSameBelow : ℕ → Type 0
      IsSameBelow n = (q : ℕ) (u : Epoch A) (before : List (Epoch A)) → HasEpoch (node_epochs q) u before → HasEpoch (after q) u before → u.ring.seq < n
          → told node_epochs q u.ring.seq ≡ told after q u.ring.seq

      -- they are the same in a ring whose exchange was complete
      front-same : (p : ℕ) (s : Epoch A) (older : List (Epoch A)) (whole : CompleteExchange A) → HasEpoch (node_epochs p) s older → complete_exchange group s.members s.heard ≡ Some whole
          → IsSameBelow s.ring.seq
          → front_by group node_epochs (fronts_below group node_epochs s.ring.seq) s.ring.seq (wanted whole.exchange)
          ≡ front_by group after (fronts_below group after s.ring.seq) s.ring.seq (wanted whole.exchange)
      front-same p s older whole i exch below = by (wanted whole.exchange) refl
        where
          n : ℕ
          n = s.ring.seq

          f : (ℕ → List (Epoch A)) → ℕ → ℕ → List (OneCall A)
          f ls = fronts_below group ls n

          by_snapshot : (w : Wanted) → wanted whole.exchange ≡ Some w → (o : Option ℕ) → front_wanted group node_epochs (f node_epochs) n w o
              ≡ front_wanted group after (f after) n w o
          by_snapshot w wants None = refl
          by_snapshot w wants (Some at) =
              let q = w.owner in
              let own = owner-in p s older whole w i exch wants in
              let now = still-there (node_epochs q) (after q) own.epoch own.older (on q) own.there in
              let later : EpochIn (after q) s.ring = record { epoch = now.epoch; older = own.older; there = now.there; ring = sym now.grows.ring ∙ own.ring } in
              let was : older_at n (node_epochs q) ≡ own.older = older-in (node_epochs q) s.ring (facts.rises q) own in
              let is : older_at n (after q) ≡ own.older = older-in (after q) s.ring (rises' q) later in
              let same : epochs_with_snapshots (f node_epochs) q own.older ≡ epochs_with_snapshots (f after) q own.older =
              filled-same (f node_epochs) (f after) q own.older (λ u before j.
              let number : own.epoch.ring.seq ≡ n = ap (λ (r : RingId). r.seq) own.ring in
              let less = older-below (node_epochs q) own.epoch u own.older before (facts.rises q) own.there j in
              let low : u.ring.seq < n = omega (arith, less, number) in
              front-stable group node_epochs facts.rises n q u.ring.seq low
              ∙ below q u before (epoch-trans (node_epochs q) own.epoch u own.older before own.there j)
              (epoch-trans (after q) now.epoch u own.older before now.there j) low
              ∙ sym (front-stable group after rises' n q u.ring.seq low)) in
              ap (λ l. take at (log_of group (epochs_with_snapshots (f node_epochs) q l))) was ∙ ap (λ l. take at (log_of group l)) same
              ∙ sym (ap (λ l. take at (log_of group (epochs_with_snapshots (f after) q l))) is)

          by : (o : Option Wanted) → wanted whole.exchange ≡ o → front_by group node_epochs (f node_epochs) n o ≡ front_by group after (f after) n o
          by None wants = refl
          by (Some w) wants = by_snapshot w wants w.snapshot

      -- and in each ring that was left
      left-same : (bound : ℕ) → IsSameBelow bound
      left-same zero q u before i j low = absurd (omega (arith, low))
      left-same (suc bound) q u before i j low =
          front-of group node_epochs facts.rises (suc n) q u before i (omega arith)
          ∙ by (λ r v older k l less. left-same bound r v older k l (omega (arith, less, low))) (complete_exchange group u.members u.heard) refl
          ∙ sym (front-of group after rises' (suc n) q u before j (omega arith))
        where
          n : ℕ
          n = u.ring.seq

          by : IsSameBelow n → (o : Option (CompleteExchange A)) → complete_exchange group u.members u.heard ≡ o
              → front_after group node_epochs (fronts_below group node_epochs n) n o ≡ front_after group after (fronts_below group after n) n o
          by below None e = refl
          by below (Some whole) e = front-same q u before whole i e below

      module _ (bounds' : ℕ → ℕ) (above' : AreAbove after bounds') where
        -- the snapshot places in filled lives
        was-told : (p : ℕ) (s : Epoch A) (older : List (Epoch A)) → HasEpoch (node_epochs p) s older
            → fronts_below group node_epochs (bounds p) p s.ring.seq ≡ told node_epochs p s.ring.seq
        was-told p s older i = front-stable group node_epochs facts.rises (bounds p) p s.ring.seq (above p s older i)

        is-told : (p : ℕ) (s : Epoch A) (older : List (Epoch A)) → HasEpoch (after p) s older
            → fronts_below group after (bounds' p) p s.ring.seq ≡ told after p s.ring.seq
        is-told p s older i = front-stable group after rises' (bounds' p) p s.ring.seq (above' p s older i)

        -- those of the newest ring, once its exchange was complete
        newest-same : (p : ℕ) (s t : Epoch A) (older : List (Epoch A)) (w : CompleteExchange A) → HasEpoch (node_epochs p) s older → HasEpoch (after p) t older → IsEpochExtended s t
            → complete_exchange_from (exchange_opening s.members) s.heard ≡ Some w
            → fronts_below group node_epochs (bounds p) p s.ring.seq ≡ fronts_below group after (bounds' p) p t.ring.seq
        newest-same p s t older w i j g whole =
            front-of group node_epochs facts.rises (bounds p) p s older i (above p s older i)
            ∙ by (is_primary group s.members) refl
            ∙ ap (λ (r : RingId). front_after group after (fronts_below group after r.seq) r.seq (complete_exchange group t.members t.heard)) g.ring
            ∙ sym (front-of group after rises' (bounds' p) p t older j (above' p t older j))
          where
            n : ℕ
            n = s.ring.seq

            by : (b : Bool) → is_primary group s.members ≡ b
                → front_after group node_epochs (fronts_below group node_epochs n) n (complete_exchange group s.members s.heard)
                ≡ front_after group after (fronts_below group after n) n (complete_exchange group t.members t.heard)
            by false b =
                let no : complete_exchange group s.members s.heard ≡ None = cond-false (is_primary group s.members) (complete_exchange_from (exchange_opening s.members) s.heard) None b in
                let none : complete_exchange group t.members t.heard ≡ None =
                cond-false (is_primary group t.members) (complete_exchange_from (exchange_opening t.members) t.heard) None (ap (is_primary group) (sym g.members) ∙ b) in
                ap (front_after group node_epochs (fronts_below group node_epochs n) n) no ∙ sym (ap (front_after group after (fronts_below group after n) n) none)
            by true b =
                let some : complete_exchange group s.members s.heard ≡ Some w =
                cond-true (is_primary group s.members) (complete_exchange_from (exchange_opening s.members) s.heard) None b ∙ whole in
                let more : complete_exchange group t.members t.heard ≡ Some (grown w g.heard.0) =
                cond-true (is_primary group t.members) (complete_exchange_from (exchange_opening t.members) t.heard) None (ap (is_primary group) (sym g.members) ∙ b)
                ∙ ap (λ m. complete_exchange_from (exchange_opening m) t.heard) (sym g.members) ∙ whole-front (exchange_opening s.members) s.heard t.heard w whole g.heard in
                ap (front_after group node_epochs (fronts_below group node_epochs n) n) some
                ∙ front-same p s older w i some (λ q u before k l less. left-same n q u before k l less)
                ∙ sym (ap (front_after group after (fronts_below group after n) n) more)

        filled-append : (p : ℕ) (newer epochs : List (Epoch A)) → epochs_with_snapshots (fronts_below group after (bounds' p)) p (newer ++ epochs)
            ≡ epochs_with_snapshots (fronts_below group after (bounds' p)) p newer ++ epochs_with_snapshots (fronts_below group after (bounds' p)) p epochs
        filled-append p [] epochs = refl
        filled-append p (s ∷ newer) epochs = ap (λ l. fill (fronts_below group after (bounds' p)) p s ∷ l) (filled-append p newer epochs)

        -- filled lives are extended
        pub filled-on : (p : ℕ) → IsEpochsExtended (whole_epochs group node_epochs (bounds p) p) (whole_epochs group after (bounds' p) p)
        filled-on p = by (node_epochs p) refl (on p)
          where
            before : ℕ → ℕ → List (OneCall A)
            before = fronts_below group node_epochs (bounds p)

            later : ℕ → ℕ → List (OneCall A)
            later = fronts_below group after (bounds' p)

            by : (epochs : List (Epoch A)) → node_epochs p ≡ epochs → IsEpochsExtended epochs (after p) → IsEpochsExtended (epochs_with_snapshots before p epochs) (epochs_with_snapshots later p (after p))
            by [] e h = tt
            by (s ∷ older) e h =
                let t = h.1 in
                let i : HasEpoch (node_epochs p) s older = subst (λ (l : List (Epoch A)). HasEpoch l s older) (sym e) (inl (refl, refl)) in
                let j : HasEpoch (after p) t older =
                subst (λ (l : List (Epoch A)). HasEpoch l t older) (sym h.2) (epoch-behind h.0 (t ∷ older) t older (inl (refl, refl))) in
                let same : epochs_with_snapshots later p older ≡ epochs_with_snapshots before p older =
                filled-same later before p older (λ u behind k.
                let there = epoch-trans (node_epochs p) s u older behind i k in
                let still = epoch-trans (after p) t u older behind j k in
                is-told p u behind still ∙ sym (left-same (bounds p) p u behind there still (above p u behind there)) ∙ sym (was-told p u behind there)) in (
                  epochs_with_snapshots later p h.0,
                  fill later p t,
                  ap (epochs_with_snapshots later p) h.2 ∙ filled-append p h.0 (t ∷ older) ∙ ap (λ l. epochs_with_snapshots later p h.0 ++ fill later p t ∷ l) same,
                  record {
                    ring = h.3.ring;
                    members = h.3.members;
                    heard = h.3.heard;
                    mark = h.3.mark;
                    sent = h.3.sent;
                    trimmed = h.3.trimmed;
                    front = λ w whole. newest-same p s t older w i j h.3 whole;
                  },
                )
