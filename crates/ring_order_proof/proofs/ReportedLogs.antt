-- Of the logs of a life, its own log is the newest, and what it committed is the longest safe one. Each of these logs is
-- determined by the messages received in an epoch.
use Rattle.std.proofs.Common.{◌≡◌, ℕ, ◌<◌, ◌≤◌, List, [], ◌∷◌, ◌++◌, length, Option, Some, None, ◌⊎◌, inl, inr, refl, ap, sym, ◌∙◌, subst, arith}
use Rattle.std.specs.Prelude.{nat_lt}
use Rattle.std.proofs.lemmas.Bool.{cond_both, ltb-true, ltb-false}
use Rattle.ring_base.specs.Prefixes.{IsListPrefix, prefix_self}
use Rattle.ring_base.specs.Group.{Group}
use Rattle.ring_base.specs.declared.ring_id.RingId.{RingId}
use Rattle.ring_payload.specs.declared.call.Call.{Call}
use Rattle.ring_wire.specs.declared.message.Message.{Message}
use Rattle.ring_log.specs.declared.wanted.Wanted.{Wanted}
use Rattle.ring_log.specs.Exchanges.{wanted}
use Rattle.ring_log.specs.Epochs.{Epoch}
use Rattle.ring_log.specs.EpochHistories.{CompleteExchange, complete_exchange, calls_in, own_base, log_by, log_of, longer_list, committed_by, restored_by, places_below, front_on, committed_of, base_of, ring_log_by, ring_log}
use Rattle.ring_log_proof.specs.RingFacts.{HasEpoch, EpochIn, Rises, safe_part, RingFacts}
use Rattle.ring_log_proof.specs.Discipline.{KeepsRules}
use Rattle.ring_log_proof.proofs.Epochs.{epoch-each}
use Rattle.ring_log_proof.proofs.CompleteExchanges.{grown, complete_exchange-front, log_on, upto-front}
use Rattle.ring_log_proof.proofs.Moment.{adopted-base}

-- a part of the messages received in each epoch
pub record Part (A : Type 0) : Type 0 where
  pub of : Epoch A → List (Message A)
  pub front : (s : Epoch A) → IsListPrefix (of s) s.heard

abbrev pub all_heard : {A : Type 0} → Part A
all_heard = record { of = λ s. s.heard; front = λ s. prefix_self s.heard }

abbrev pub known_safe : {A : Type 0} → Part A
known_safe = record { of = safe_part; front = λ s. upto-front s.mark s.heard }

module _ {A : Type 0} (group : Group) (node_epochs : ℕ → List (Epoch A)) (members : RingId → ℕ) (text : RingId → List (Message A))
    (facts : RingFacts node_epochs members text) (disc : KeepsRules group node_epochs) (p : ℕ) where
  -- The logs of one epoch

  -- the log that the node builds from its messages is the ring's log
  told-log : (s : Epoch A) (older : List (Epoch A)) → HasEpoch (node_epochs p) s older → (xs : List (Message A)) (w : CompleteExchange A) → IsListPrefix xs s.heard
      → complete_exchange group s.members xs ≡ Some w
      → ring_log group node_epochs s.ring s.members xs ≡ Some (log_on (own_base (log_of group older) s.front) w)
  told-log s older there xs w f e =
      let at : EpochIn (node_epochs p) s.ring = record { epoch = s; older = older; there = there; ring = refl } in
      let more = grown w f.0 in
      let base : own_base (log_of group older) s.front w.exchange ≡ base_of group node_epochs s.ring w.exchange =
      adopted-base group node_epochs members text facts disc p s.ring at more (complete_exchange-front group s.members xs s.heard w e f) in
      ap (ring_log_by group node_epochs s.ring) e ∙ ap (λ (l : List (Call A)). Some (l ++ calls_in w.rest)) (sym base)

  -- if there is one, an exchange was received whole
  record IsHeardWhole (s : Epoch A) (older : List (Epoch A)) (xs : List (Message A)) (log : List (Call A)) : Type 0 where
    pub whole : CompleteExchange A
    pub exch : complete_exchange group s.members xs ≡ Some whole
    pub is : log ≡ log_on (own_base (log_of group older) s.front) whole

  heard-whole : (s : Epoch A) (older : List (Epoch A)) → HasEpoch (node_epochs p) s older → (xs : List (Message A)) (log : List (Call A)) → IsListPrefix xs s.heard
      → ring_log group node_epochs s.ring s.members xs ≡ Some log → (o : Option (CompleteExchange A)) → complete_exchange group s.members xs ≡ o → IsHeardWhole s older xs log
  heard-whole s older there xs log f told None e =
      let none : None ≡ Some log = sym (ap (ring_log_by group node_epochs s.ring) e) ∙ told in
      absurd (cc none)
  heard-whole s older there xs log f told (Some w) e =
      let same : Some log ≡ Some (log_on (own_base (log_of group older) s.front) w) = sym told ∙ told-log s older there xs w f e in
      record { whole = w; exch = e; is = cc same }

  -- The logs of a life, after these messages of each epoch
  module _ (part : Part A) where
    pub record Tells (epochs : List (Epoch A)) (ring : RingId) (log : List (Call A)) : Type 0 where
      pub epoch : Epoch A
      pub older : List (Epoch A)
      pub there : HasEpoch epochs epoch older
      pub ring_is : epoch.ring ≡ ring
      pub is : ring_log group node_epochs epoch.ring epoch.members (part.of epoch) ≡ Some log

    -- those of a life's older epochs are the life's
    more : (s : Epoch A) (older : List (Epoch A)) (ring : RingId) (log : List (Call A)) → Tells older ring log → Tells (s ∷ older) ring log
    more s older ring log t = record { epoch = t.epoch; older = t.older; there = inr t.there; ring_is = t.ring_is; is = t.is }

    -- each is the newest epoch's or an older one's
    pub record IsFirst (s : Epoch A) (older : List (Epoch A)) (ring : RingId) (log : List (Call A)) : Type 0 where
      pub ring_is : s.ring ≡ ring
      pub is : ring_log group node_epochs s.ring s.members (part.of s) ≡ Some log

    parted : (s : Epoch A) (older : List (Epoch A)) (ring : RingId) (log : List (Call A)) (epoch : Epoch A) (before : List (Epoch A)) → HasEpoch (s ∷ older) epoch before
        → epoch.ring ≡ ring → ring_log group node_epochs epoch.ring epoch.members (part.of epoch) ≡ Some log
        → IsFirst s older ring log ⊎ Tells older ring log
    parted s older ring log epoch before (inl same) ring_is is =
        let back = sym same.0 in
        inl (record {
          ring_is = subst (λ (t : Epoch A). t.ring ≡ ring) back ring_is;
          is = subst (λ (t : Epoch A). ring_log group node_epochs t.ring t.members (part.of t) ≡ Some log) back is;
        })
    parted s older ring log epoch before (inr there) ring_is is =
        inr (record { epoch = epoch; older = before; there = there; ring_is = ring_is; is = is })

    first-or-older : (s : Epoch A) (older : List (Epoch A)) (ring : RingId) (log : List (Call A)) → Tells (s ∷ older) ring log
        → IsFirst s older ring log ⊎ Tells older ring log
    first-or-older s older ring log t = parted s older ring log t.epoch t.older t.there t.ring_is t.is

    -- if the newest epoch has no log, the life's logs are those of its older epochs
    older-tells : (s : Epoch A) (older : List (Epoch A)) → complete_exchange group s.members (part.of s) ≡ None → (ring : RingId) (log : List (Call A))
        → Tells (s ∷ older) ring log → Tells older ring log
    older-tells s older e ring log t = elim (first-or-older s older ring log t) [
      | inl first ↦
          let none : None ≡ Some log = sym (ap (ring_log_by group node_epochs s.ring) e) ∙ first.is in
          absurd (cc none)
      | inr old ↦ old
    ]

    -- the newest epoch's, if it has one
    newest-tells : (s : Epoch A) (older : List (Epoch A)) → HasEpoch (node_epochs p) s older → (w : CompleteExchange A) → complete_exchange group s.members (part.of s) ≡ Some w
        → Tells (s ∷ older) s.ring (log_on (own_base (log_of group older) s.front) w)
    newest-tells s older there w e =
        record { epoch = s; older = older; there = inl (refl, refl); ring_is = refl; is = told-log s older there (part.of s) w (part.front s) e }

    first-is : (s : Epoch A) (older : List (Epoch A)) → HasEpoch (node_epochs p) s older → (w : CompleteExchange A) → complete_exchange group s.members (part.of s) ≡ Some w
        → (ring : RingId) (log : List (Call A)) → IsFirst s older ring log → log ≡ log_on (own_base (log_of group older) s.front) w
    first-is s older there w e ring log first =
        let same : Some log ≡ Some (log_on (own_base (log_of group older) s.front) w) = sym first.is ∙ told-log s older there (part.of s) w (part.front s) e in
        cc same

  -- a life whose epochs are this node's
  abbrev pub IsOfNode : List (Epoch A) → Type 0
  IsOfNode epochs = (s : Epoch A) (older : List (Epoch A)) → HasEpoch epochs s older → HasEpoch (node_epochs p) s older

  -- The log of a life

  pub record IsNewest (epochs : List (Epoch A)) (log : List (Call A)) : Type 0 where
    pub ring : RingId
    pub is : Tells all_heard epochs ring log
    pub newest : (other : RingId) (its : List (Call A)) → Tells all_heard epochs other its → other.seq ≤ ring.seq

  abbrev pub NoneAdopted : List (Epoch A) → Type 0
  NoneAdopted epochs = (other : RingId) (its : List (Call A)) → Tells all_heard epochs other its → ⊥

  abbrev pub IsLog : List (Epoch A) → List (Call A) → Type 0
  IsLog epochs log = IsNewest epochs log ⊎ (NoneAdopted epochs × (log ≡ []))

  log-step : (s : Epoch A) (older : List (Epoch A)) → HasEpoch (node_epochs p) s older → Rises (s ∷ older) → IsLog older (log_of group older)
      → (o : Option (CompleteExchange A)) → complete_exchange group s.members s.heard ≡ o → IsLog (s ∷ older) (log_of group (s ∷ older))
  log-step s older there rises before None e =
      let same : log_of group (s ∷ older) ≡ log_of group older = ap (log_by (log_of group older) s.front) e in
      let less = older-tells all_heard s older e in
      subst (λ (l : List (Call A)). IsLog (s ∷ older) l) (sym same) (elim before as (λ _. IsLog (s ∷ older) (log_of group older)) [
        | inl n ↦ inl (record {
          ring = n.ring;
          is = more all_heard s older n.ring (log_of group older) n.is;
          newest = λ other its t. n.newest other its (less other its t);
        })
        | inr none ↦ inr (λ other its t. none.0 other its (less other its t), none.1)
      ])
  log-step s older there rises before (Some w) e =
      let same : log_of group (s ∷ older) ≡ log_on (own_base (log_of group older) s.front) w = ap (log_by (log_of group older) s.front) e in
      inl (record {
        ring = s.ring;
        is = subst (λ (l : List (Call A)). Tells all_heard (s ∷ older) s.ring l) (sym same) (newest-tells all_heard s older there w e);
        newest = λ other its t. elim (first-or-older all_heard s older other its t) [
          | inl first ↦ omega (arith, ap (λ (r : RingId). r.seq) first.ring_is)
          | inr old ↦
              let below = epoch-each (λ (u : Epoch A). u.ring.seq < s.ring.seq) older old.epoch old.older rises.0 old.there in
              omega (arith, below, ap (λ (r : RingId). r.seq) old.ring_is)
        ];
      })

  pub log-told : (epochs : List (Epoch A)) → IsOfNode epochs → Rises epochs → IsLog epochs (log_of group epochs)
  log-told [] own rises = inr (λ other its t. t.there, refl)
  log-told (s ∷ older) own rises =
      let before = log-told older (λ t o there. own t o (inr there)) rises.1 in
      log-step s older (own s older (inl (refl, refl))) rises before (complete_exchange group s.members s.heard) refl

  -- What a life committed

  -- the places of the snapshot sent in a ring of the life
  pub record Restores (epochs : List (Epoch A)) (ring : RingId) (calls : List (Call A)) : Type 0 where
    pub epoch : Epoch A
    pub older : List (Epoch A)
    pub there : HasEpoch epochs epoch older
    pub ring_is : epoch.ring ≡ ring
    pub whole : CompleteExchange A
    pub exch : complete_exchange group epoch.members epoch.heard ≡ Some whole
    pub v : Wanted
    pub wants : wanted whole.exchange ≡ Some v
    pub places : ℕ
    pub snapshot : v.snapshot ≡ Some places
    pub is : calls ≡ epoch.front

  -- a life's older epochs are its own
  restores-more : (s : Epoch A) (older : List (Epoch A)) (ring : RingId) (calls : List (Call A)) → Restores older ring calls → Restores (s ∷ older) ring calls
  restores-more s older ring calls r = record {
    epoch = r.epoch;
    older = r.older;
    there = inr r.there;
    ring_is = r.ring_is;
    whole = r.whole;
    exch = r.exch;
    v = r.v;
    wants = r.wants;
    places = r.places;
    snapshot = r.snapshot;
    is = r.is;
  }

  -- the newest epoch's places, if its exchange wants a snapshot
  record IsSent (s : Epoch A) (calls : List (Call A)) : Type 0 where
    pub whole : CompleteExchange A
    pub exch : complete_exchange group s.members s.heard ≡ Some whole
    pub v : Wanted
    pub wants : wanted whole.exchange ≡ Some v
    pub places : ℕ
    pub snapshot : v.snapshot ≡ Some places
    pub is : calls ≡ s.front

  sent-or-older : (s : Epoch A) (older : List (Epoch A)) (ring : RingId) (calls : List (Call A)) → Restores (s ∷ older) ring calls
      → IsSent s calls ⊎ Restores older ring calls
  sent-or-older s older ring calls r = by r.there
    where
      by : HasEpoch (s ∷ older) r.epoch r.older → IsSent s calls ⊎ Restores older ring calls
      by (inl same) =
          let back = sym same.0 in
          inl (record {
            whole = r.whole;
            exch = subst (λ (t : Epoch A). complete_exchange group t.members t.heard ≡ Some r.whole) back r.exch;
            v = r.v;
            wants = r.wants;
            places = r.places;
            snapshot = r.snapshot;
            is = subst (λ (t : Epoch A). calls ≡ t.front) back r.is;
          })
      by (inr there) = inr (record {
        epoch = r.epoch;
        older = r.older;
        there = there;
        ring_is = r.ring_is;
        whole = r.whole;
        exch = r.exch;
        v = r.v;
        wants = r.wants;
        places = r.places;
        snapshot = r.snapshot;
        is = r.is;
      })

  -- these calls are the longest of two kinds of lists, or empty
  pub record AreMost (Safe Snap : RingId → List (Call A) → Type 0) (calls : List (Call A)) : Type 0 where
    pub is : (calls ≡ []) ⊎ (((ring : RingId) × Safe ring calls) ⊎ ((ring : RingId) × Snap ring calls))
    pub longest : (ring : RingId) (its : List (Call A)) → Safe ring its → length its ≤ length calls
    pub restored : (ring : RingId) (its : List (Call A)) → Snap ring its → length its ≤ length calls

  abbrev pub AreLongest : List (Epoch A) → List (Call A) → Type 0
  AreLongest epochs calls = AreMost (Tells known_safe epochs) (Restores epochs) calls

  module _ (Safe Snap Safer Snaps : RingId → List (Call A) → Type 0) (old : List (Call A)) (before : AreMost Safe Snap old)
      (safe-on : (ring : RingId) (its : List (Call A)) → Safe ring its → Safer ring its)
      (snap-on : (ring : RingId) (its : List (Call A)) → Snap ring its → Snaps ring its) where
    still : (old ≡ []) ⊎ (((ring : RingId) × Safer ring old) ⊎ ((ring : RingId) × Snaps ring old))
    still = elim before.is as (λ _. (old ≡ []) ⊎ (((ring : RingId) × Safer ring old) ⊎ ((ring : RingId) × Snaps ring old))) [
      | inl none ↦ inl none
      | inr some ↦ inr (elim some as (λ _. ((ring : RingId) × Safer ring old) ⊎ ((ring : RingId) × Snaps ring old)) [
        | inl safe ↦ inl (safe.0, safe-on safe.0 old safe.1)
        | inr snap ↦ inr (snap.0, snap-on snap.0 old snap.1)
      ])
    ]

    -- if no list is new
    most-same : ((ring : RingId) (its : List (Call A)) → Safer ring its → Safe ring its) → ((ring : RingId) (its : List (Call A)) → Snaps ring its → Snap ring its)
        → AreMost Safer Snaps old
    most-same safe-back snap-back = record {
      is = still;
      longest = λ ring its t. before.longest ring its (safe-back ring its t);
      restored = λ ring its t. before.restored ring its (snap-back ring its t);
    }

    -- if each new list is as long as this one
    most-longer_list : (new : List (Call A)) → ((ring : RingId) × Safer ring new) ⊎ ((ring : RingId) × Snaps ring new)
        → ((ring : RingId) (its : List (Call A)) → Safer ring its → (length its ≡ length new) ⊎ Safe ring its)
        → ((ring : RingId) (its : List (Call A)) → Snaps ring its → (length its ≡ length new) ⊎ Snap ring its) → AreMost Safer Snaps (longer_list old new)
    most-longer_list new is-new safe-back snap-back =
        cond_both (nat_lt (length old) (length new)) new old (AreMost Safer Snaps)
        (λ t.
        let lt = ltb-true (length old) (length new) t in
        record {
          is = inr is-new;
          longest = λ ring its s. elim (safe-back ring its s) as (λ _. length its ≤ length new)
              [ inl e ↦ omega (arith, e) | inr b ↦ omega (arith, lt, before.longest ring its b) ];
          restored = λ ring its s. elim (snap-back ring its s) as (λ _. length its ≤ length new)
              [ inl e ↦ omega (arith, e) | inr b ↦ omega (arith, lt, before.restored ring its b) ];
        })
        (λ f.
        let le = ltb-false (length old) (length new) f in
        record {
          is = still;
          longest = λ ring its s. elim (safe-back ring its s) as (λ _. length its ≤ length old)
              [ inl e ↦ omega (arith, e, le) | inr b ↦ before.longest ring its b ];
          restored = λ ring its s. elim (snap-back ring its s) as (λ _. length its ≤ length old)
              [ inl e ↦ omega (arith, e, le) | inr b ↦ before.restored ring its b ];
        })

  longer_list-none : (old : List (Call A)) → longer_list old [] ≡ old
  longer_list-none old = cond_both (nat_lt (length old) 0) [] old (λ (l : List (Call A)). l ≡ old)
      (λ t. let lt = ltb-true (length old) 0 t in absurd (omega (arith, lt))) (λ f. refl)

  -- with the places of the snapshot sent in the newest ring
  restored-step : (s : Epoch A) (older : List (Epoch A)) → AreLongest older (committed_of group older) → (o : Option (CompleteExchange A))
      → complete_exchange group s.members s.heard ≡ o
      → AreMost (Tells known_safe older) (Restores (s ∷ older)) (restored_by s.front (committed_of group older) o)
  restored-step s older before None e =
      most-same (Tells known_safe older) (Restores older) (Tells known_safe older) (Restores (s ∷ older)) (committed_of group older) before
      (λ ring its t. t) (restores-more s older) (λ ring its t. t)
      (λ ring its r. elim (sent-or-older s older ring its r) as (λ _. Restores older ring its) [
        | inl sent ↦ let none : None ≡ Some sent.whole = sym e ∙ sent.exch in absurd (cc none)
        | inr old ↦ old
      ])
  restored-step s older before (Some w) e = by (wanted w.exchange) refl
    where
      old : List (Call A)
      old = committed_of group older

      same-whole : (sent : CompleteExchange A) → complete_exchange group s.members s.heard ≡ Some sent → w ≡ sent
      same-whole sent f = let same : Some w ≡ Some sent = sym e ∙ f in cc same

      plain : ((its : List (Call A)) → IsSent s its → ⊥) → AreMost (Tells known_safe older) (Restores (s ∷ older)) (longer_list old [])
      plain never =
          subst (AreMost (Tells known_safe older) (Restores (s ∷ older))) (sym (longer_list-none old))
          (most-same (Tells known_safe older) (Restores older) (Tells known_safe older) (Restores (s ∷ older)) old before (λ ring its t. t)
          (restores-more s older) (λ ring its t. t)
          (λ ring its r. elim (sent-or-older s older ring its r) as (λ _. Restores older ring its)
          [ inl sent ↦ absurd (never its sent) | inr is ↦ is ]))

      by-snapshot : (v : Wanted) → wanted w.exchange ≡ Some v → (o : Option ℕ) → v.snapshot ≡ o
          → AreMost (Tells known_safe older) (Restores (s ∷ older)) (longer_list old (places_below [] s.front 0 o))
      by-snapshot v wants None snap = plain (λ its sent.
          let same = same-whole sent.whole sent.exch in
          let is : Some v ≡ Some sent.v = sym wants ∙ ap (λ (x : CompleteExchange A). wanted x.exchange) same ∙ sent.wants in
          let both : v ≡ sent.v = cc is in
          let none : None ≡ Some sent.places = sym snap ∙ ap (λ (x : Wanted). x.snapshot) both ∙ sent.snapshot in
          absurd (cc none))
      by-snapshot v wants (Some at) snap =
          most-longer_list (Tells known_safe older) (Restores older) (Tells known_safe older) (Restores (s ∷ older)) old before (λ ring its t. t)
          (restores-more s older) s.front
          (inr (
            s.ring,
            record {
              epoch = s;
              older = older;
              there = inl (refl, refl);
              ring_is = refl;
              whole = w;
              exch = e;
              v = v;
              wants = wants;
              places = at;
              snapshot = snap;
              is = refl;
            },
          ))
          (λ ring its t. inr t)
          (λ ring its r. elim (sent-or-older s older ring its r) as (λ _. (length its ≡ length s.front) ⊎ Restores older ring its)
          [ inl sent ↦ inl (ap length sent.is) | inr is ↦ inr is ])

      by : (o : Option Wanted) → wanted w.exchange ≡ o → AreMost (Tells known_safe older) (Restores (s ∷ older)) (longer_list old (front_on s.front o))
      by None wants = plain (λ its sent.
          let same = same-whole sent.whole sent.exch in
          let none : None ≡ Some sent.v = sym wants ∙ ap (λ (x : CompleteExchange A). wanted x.exchange) same ∙ sent.wants in
          absurd (cc none))
      by (Some v) wants = by-snapshot v wants v.snapshot refl

  committed-step : (s : Epoch A) (older : List (Epoch A)) → HasEpoch (node_epochs p) s older → (old : List (Call A))
      → AreMost (Tells known_safe older) (Restores (s ∷ older)) old
      → (o : Option (CompleteExchange A)) → complete_exchange group s.members (safe_part s) ≡ o → AreLongest (s ∷ older) (committed_by (log_of group older) s.front old o)
  committed-step s older there old before None e =
      most-same (Tells known_safe older) (Restores (s ∷ older)) (Tells known_safe (s ∷ older)) (Restores (s ∷ older)) old before (more known_safe s older)
      (λ ring its t. t) (older-tells known_safe s older e) (λ ring its t. t)
  committed-step s older there old before (Some w) e =
      let new = log_on (own_base (log_of group older) s.front) w in
      most-longer_list (Tells known_safe older) (Restores (s ∷ older)) (Tells known_safe (s ∷ older)) (Restores (s ∷ older)) old before (more known_safe s older)
      (λ ring its t. t) new (inl (s.ring, newest-tells known_safe s older there w e))
      (λ ring its told. elim (first-or-older known_safe s older ring its told) as (λ _. (length its ≡ length new) ⊎ Tells known_safe older ring its) [
        | inl first ↦ inl (ap (λ (l : List (Call A)). length l) (first-is known_safe s older there w e ring its first))
        | inr before_it ↦ inr before_it
      ])
      (λ ring its t. inr t)

  pub committed-told : (epochs : List (Epoch A)) → IsOfNode epochs → AreLongest epochs (committed_of group epochs)
  committed-told [] own = record { is = inl refl; longest = λ ring its t. absurd t.there; restored = λ ring its t. absurd t.there }
  committed-told (s ∷ older) own =
      let before = committed-told older (λ t o there. own t o (inr there)) in
      committed-step s older (own s older (inl (refl, refl))) (restored_by s.front (committed_of group older) (complete_exchange group s.members s.heard))
      (restored-step s older before (complete_exchange group s.members s.heard) refl) (complete_exchange group s.members (safe_part s)) refl
