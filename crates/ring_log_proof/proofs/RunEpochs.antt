-- Each event of a life extends it and keeps the discipline; only committed places are dropped.
use Rattle.std.proofs.Common.{◌≡◌, ℕ, ◌≤◌, List, [], ◌∷◌, ◌++◌, Some, ◌⊎◌, inl, inr, refl, ap, sym, ◌∙◌, subst, arith, append_assoc}
use Rattle.std.specs.List.{AllByRecursion as Each}
use Rattle.ring_base.specs.Prefixes.{prefix_self, prefix_trans, prefix_append}
use Rattle.ring_base.specs.Group.{Group, IsPrimary}
use Rattle.ring_base.proofs.Each.{each-append}
use Rattle.ring_payload.specs.declared.call.Call.{Call as OneCall}
use Rattle.ring_payload.specs.declared.content.Payload.{Payload}
use Rattle.ring_payload.specs.declared.content.Payload.TheVariants.{Head}
use Rattle.ring_log.specs.Exchanges.{exchange_opening}
use Rattle.ring_log.specs.Epochs.{Epoch, epoch_opening}
use Rattle.ring_log.specs.EpochHistories.{complete_exchange_from}
use Rattle.ring_log.specs.KnownLog.{known_log_of, known_log_head}
use Rattle.ring_log_proof.specs.RingFacts.{HasEpoch}
use Rattle.ring_log_proof.specs.Discipline.{FollowsHead, OpensWithHead, KeepsDiscipline, DropsOnlyCommitted, DropsCommitted}
use Rattle.ring_log_proof.specs.EpochEvents.{IsEpochExtended, IsEpochsExtended, EpochEvent, Agreed, Safe, Regular, Handed, Dropped, epochs_after_event, epochs_after_events, MaySendFirst, MaySendAfter}
use Rattle.ring_log_proof.specs.EpochEvents.{MayHappen, AllMayHappen, IsKnownCall, SendsOnlyKnown, SendsKnown}
use Rattle.ring_log_proof.proofs.CompleteExchanges.{grown, whole-front}
use Rattle.ring_log_proof.proofs.SettledGrows.{grows-self}
use Rattle.ring_log_proof.proofs.KnownGrows.{known-longer_list}

-- Extension

pub on-self : {A : Type 0} (epochs : List (Epoch A)) → IsEpochsExtended epochs epochs
on-self [] = tt
on-self (s ∷ older) = ([], s, refl, grows-self s)

grows-trans : {A : Type 0} (a b c : Epoch A) → IsEpochExtended a b → IsEpochExtended b c → IsEpochExtended a c
grows-trans a b c f g = record {
  ring = f.ring ∙ g.ring;
  members = f.members ∙ g.members;
  heard = prefix_trans a.heard b.heard c.heard f.heard g.heard;
  mark = omega (arith, f.mark, g.mark);
  sent = prefix_trans a.sent b.sent c.sent f.sent g.sent;
  trimmed = omega (arith, f.trimmed, g.trimmed);
  front = λ w e.
      let on : complete_exchange_from (exchange_opening b.members) b.heard ≡ Some (grown w f.heard.0) =
      ap (λ m. complete_exchange_from (exchange_opening m) b.heard) (sym f.members) ∙ whole-front (exchange_opening a.members) a.heard b.heard w e f.heard in
      f.front w e ∙ g.front (grown w f.heard.0) on;
}

-- a life after newer epochs is extended as the newest of these is
on-behind : {A : Type 0} (newer : List (Epoch A)) (t : Epoch A) (older after : List (Epoch A)) → IsEpochsExtended (newer ++ t ∷ older) after → (more : List (Epoch A))
    × (u : Epoch A) × (after ≡ more ++ u ∷ older) × IsEpochExtended t u
on-behind [] t older after on = on
on-behind (s ∷ newer) t older after on = (on.0 ++ on.1 ∷ newer, t, on.2 ∙ sym (append_assoc on.0 (on.1 ∷ newer) (t ∷ older)), grows-self t)

pub on-trans : {A : Type 0} (a b c : List (Epoch A)) → IsEpochsExtended a b → IsEpochsExtended b c → IsEpochsExtended a c
on-trans [] b c f g = tt
on-trans (s ∷ older) b c f g =
    let h = on-behind f.0 f.1 older c (subst (λ l. IsEpochsExtended l c) f.2 g) in
    (h.0, h.1, h.2, grows-trans s f.1 h.1 f.3 h.3)

pub event-on : {A : Type 0} (group : Group) (epochs : List (Epoch A)) (e : EpochEvent A) → MayHappen group epochs e → IsEpochsExtended epochs (epochs_after_event epochs e)
event-on group [] e may = tt
event-on group (s ∷ older) (Agreed x) may = (
  [],
  record s { heard = s.heard ++ x ∷ [] },
  refl,
  record {
    ring = refl;
    members = refl;
    heard = prefix_append s.heard (x ∷ []);
    mark =
        omega arith;
    sent = prefix_self s.sent;
    trimmed = omega arith;
    front = λ w e. refl;
  },
)
event-on group (s ∷ older) (Safe mark) may = (
  [],
  record s { mark = mark },
  refl,
  record {
    ring = refl;
    members = refl;
    heard = prefix_self s.heard;
    mark =
        may;
    sent = prefix_self s.sent;
    trimmed = omega arith;
    front = λ w e. refl;
  },
)
event-on group (s ∷ older) (Regular ring members) may = (epoch_opening ring members ∷ [], s, refl, grows-self s)
event-on group (s ∷ older) (Handed payloads) may = (
  [],
  record s { sent = s.sent ++ payloads },
  refl,
  record {
    ring = refl;
    members = refl;
    heard = prefix_self s.heard;
    mark = omega arith;
    sent = prefix_append s.sent payloads;
    trimmed = omega arith;
    front = λ w e. refl;
  },
)
event-on group (s ∷ older) (Dropped places) may = (
  [],
  record s { trimmed = places },
  refl,
  record {
    ring = refl;
    members = refl;
    heard = prefix_self s.heard;
    mark = omega arith;
    sent = prefix_self s.sent;
    trimmed = may.0;
    front = λ w e. refl;
  },
)

pub events-on : {A : Type 0} (group : Group) (epochs : List (Epoch A)) (events : List (EpochEvent A)) → AllMayHappen group epochs events
    → IsEpochsExtended epochs (epochs_after_events epochs events)
events-on group epochs [] may = on-self epochs
events-on group epochs (e ∷ events) may = on-trans epochs (epochs_after_event epochs e) (epochs_after_events (epochs_after_event epochs e) events) (event-on group epochs e may.0)
    (events-on group (epochs_after_event epochs e) events may.1)

-- The discipline

-- one life that keeps it
abbrev pub IsOrderly : {A : Type 0} → Group → List (Epoch A) → Type 0
IsOrderly {A} group epochs = (s : Epoch A) (older : List (Epoch A)) → HasEpoch epochs s older → (s.sent ≡ []) ⊎ OpensWithHead group s older

-- the newest epoch keeps it, if the others do
newest-orderly : {A : Type 0} (group : Group) (t : Epoch A) (before : List (Epoch A)) → (t.sent ≡ []) ⊎ OpensWithHead group t before → IsOrderly group before
    → IsOrderly group (t ∷ before)
newest-orderly group t before h k s older (inl e) =
    subst (λ u. (u.sent ≡ []) ⊎ OpensWithHead group u older) e.0 (subst (λ l. (t.sent ≡ []) ⊎ OpensWithHead group t l) e.1 h)
newest-orderly group t before h k s older (inr i) = k s older i

-- events that change only messages and marks keep it
same-sent : {A : Type 0} (group : Group) (s t : Epoch A) (older : List (Epoch A)) → s.members ≡ t.members → s.sent ≡ t.sent → (s.sent ≡ [])
    ⊎ OpensWithHead group s older → (t.sent ≡ []) ⊎ OpensWithHead group t older
same-sent group s t older m e (inl none) = inl (sym e ∙ none)
same-sent group s t older m e (inr h) = inr (record {
  primary = subst (IsPrimary group) m h.primary;
  rest = h.rest;
  opens = sym e ∙ h.opens;
  follows =
      h.follows;
})

handed-first : {A : Type 0} (group : Group) (s : Epoch A) (older : List (Epoch A)) (payloads : List (Payload A)) → MaySendFirst group s older payloads
    → (payloads ≡ []) ⊎ ((rest : List (Payload A)) × (payloads ≡ Head (known_log_head (known_log_of group older)) ∷ rest) × IsPrimary group s.members
    × Each (FollowsHead (known_log_of group older)) rest)
handed-first group s older [] may = inl refl
handed-first group s older (payload ∷ rest) may = inr (rest, ap (λ p. p ∷ rest) may.1, may.0, may.2)

handed-orderly : {A : Type 0} (group : Group) (s : Epoch A) (older : List (Epoch A)) (sent payloads : List (Payload A)) → s.sent ≡ sent
    → MaySendAfter group s older sent payloads → (s.sent ≡ []) ⊎ OpensWithHead group s older
    → (sent ++ payloads ≡ []) ⊎ OpensWithHead group (record s { sent = sent ++ payloads }) older
handed-orderly group s older [] payloads is may h = elim (handed-first group s older payloads may)
    as (λ _. (payloads ≡ []) ⊎ OpensWithHead group (record s { sent = payloads }) older) [
      | inl none ↦ inl none
      | inr f ↦ inr (record { primary = f.2; rest = f.0; opens = f.1; follows = f.3 })
    ]
handed-orderly group s older (x ∷ sent) payloads is may (inl none) = absurd (let e : x ∷ sent ≡ [] = sym is ∙ none in cc e)
handed-orderly group s older (x ∷ sent) payloads is may (inr h) = inr (record {
  primary = h.primary;
  rest = h.rest ++ payloads;
  opens = ap (λ l. l ++ payloads) (sym is ∙ h.opens);
  follows = each-append (FollowsHead (known_log_of group older)) h.rest payloads h.follows may;
})

pub event-orderly : {A : Type 0} (group : Group) (epochs : List (Epoch A)) (e : EpochEvent A) → MayHappen group epochs e → IsOrderly group epochs
    → IsOrderly group (epochs_after_event epochs e)
event-orderly group [] (Agreed x) may k = k
event-orderly group [] (Safe mark) may k = k
event-orderly group [] (Handed payloads) may k = k
event-orderly group [] (Dropped places) may k = k
event-orderly group epochs (Regular ring members) may k = newest-orderly group (epoch_opening ring members) epochs (inl refl) k
event-orderly group (s ∷ older) (Agreed x) may k =
    newest-orderly group (record s { heard = s.heard ++ x ∷ [] }) older
    (same-sent group s (record s { heard = s.heard ++ x ∷ [] }) older refl refl (k s older (inl (refl, refl)))) (λ t before i. k t before (inr i))
event-orderly group (s ∷ older) (Safe mark) may k =
    newest-orderly group (record s { mark = mark }) older (same-sent group s (record s { mark = mark }) older refl refl (k s older (inl (refl, refl))))
    (λ t before i. k t before (inr i))
event-orderly group (s ∷ older) (Handed payloads) may k =
    newest-orderly group (record s { sent = s.sent ++ payloads }) older
    (handed-orderly group s older s.sent payloads refl may (k s older (inl (refl, refl)))) (λ t before i. k t before (inr i))
event-orderly group (s ∷ older) (Dropped places) may k =
    newest-orderly group (record s { trimmed = places }) older
    (same-sent group s (record s { trimmed = places }) older refl refl (k s older (inl (refl, refl)))) (λ t before i. k t before (inr i))

pub events-orderly : {A : Type 0} (group : Group) (epochs : List (Epoch A)) (events : List (EpochEvent A)) → AllMayHappen group epochs events
    → IsOrderly group epochs → IsOrderly group (epochs_after_events epochs events)
events-orderly group epochs [] may k = k
events-orderly group epochs (e ∷ events) may k = events-orderly group (epochs_after_event epochs e) events may.1 (event-orderly group epochs e may.0 k)

-- the same of all lives
pub node_epochs-orderly : {A : Type 0} (group : Group) (node_epochs after : ℕ → List (Epoch A)) (events : ℕ → List (EpochEvent A))
    → ((p : ℕ) → AllMayHappen group (node_epochs p) (events p)) → ((p : ℕ) → after p ≡ epochs_after_events (node_epochs p) (events p))
    → KeepsDiscipline group node_epochs → KeepsDiscipline group after
node_epochs-orderly group node_epochs after events may is keeps p = subst (IsOrderly group) (sym (is p)) (events-orderly group (node_epochs p) (events p) (may p) (keeps p))

-- Dropped places

pub newest-dropping : {A : Type 0} (group : Group) (t : Epoch A) (before : List (Epoch A)) → t.trimmed ≤ (known_log_of group (t ∷ before)).committed
    → DropsOnlyCommitted group before → DropsOnlyCommitted group (t ∷ before)
newest-dropping group t before h k s older (inl e) =
    subst (λ (u : Epoch _). u.trimmed ≤ (known_log_of group (u ∷ older)).committed) e.0
    (subst (λ l. t.trimmed ≤ (known_log_of group (t ∷ l)).committed) e.1 h)
newest-dropping group t before h k s older (inr i) = k s older i

-- extending the newest epoch doesn't lower what it has committed
grown-dropping : {A : Type 0} (group : Group) (s t : Epoch A) (older : List (Epoch A)) → s.trimmed ≡ t.trimmed → IsEpochExtended s t → DropsOnlyCommitted group (s ∷ older)
    → DropsOnlyCommitted group (t ∷ older)
grown-dropping group s t older same grows k =
    let least = k s older (inl (refl, refl)) in
    let more = known-longer_list group s t older grows in
    newest-dropping group t older (omega (arith, same, least, more)) (λ u before i. k u before (inr i))

pub event-dropping : {A : Type 0} (group : Group) (epochs : List (Epoch A)) (e : EpochEvent A) → MayHappen group epochs e → DropsOnlyCommitted group epochs
    → DropsOnlyCommitted group (epochs_after_event epochs e)
unfolding event-on
event-dropping group epochs (Regular ring members) may k = newest-dropping group (epoch_opening ring members) epochs (omega arith) k
event-dropping group [] (Agreed x) may k = k
event-dropping group [] (Safe mark) may k = k
event-dropping group [] (Handed payloads) may k = k
event-dropping group [] (Dropped places) may k = k
event-dropping group (s ∷ older) (Agreed x) may k =
    grown-dropping group s (record s { heard = s.heard ++ x ∷ [] }) older refl (event-on group (s ∷ older) (Agreed x) may).3 k
event-dropping group (s ∷ older) (Safe mark) may k =
    grown-dropping group s (record s { mark = mark }) older refl (event-on group (s ∷ older) (Safe mark) may).3 k
event-dropping group (s ∷ older) (Handed payloads) may k =
    grown-dropping group s (record s { sent = s.sent ++ payloads }) older refl (event-on group (s ∷ older) (Handed payloads) may).3 k
event-dropping group (s ∷ older) (Dropped places) may k =
    newest-dropping group (record s { trimmed = places }) older may.1 (λ t before i. k t before (inr i))

pub events-dropping : {A : Type 0} (group : Group) (epochs : List (Epoch A)) (events : List (EpochEvent A)) → AllMayHappen group epochs events
    → DropsOnlyCommitted group epochs → DropsOnlyCommitted group (epochs_after_events epochs events)
events-dropping group epochs [] may k = k
events-dropping group epochs (e ∷ events) may k = events-dropping group (epochs_after_event epochs e) events may.1 (event-dropping group epochs e may.0 k)

pub node_epochs-dropping : {A : Type 0} (group : Group) (node_epochs after : ℕ → List (Epoch A)) (events : ℕ → List (EpochEvent A))
    → ((p : ℕ) → AllMayHappen group (node_epochs p) (events p)) → ((p : ℕ) → after p ≡ epochs_after_events (node_epochs p) (events p))
    → DropsCommitted group node_epochs → DropsCommitted group after
node_epochs-dropping group node_epochs after events may is keeps p =
    subst (DropsOnlyCommitted group) (sym (is p)) (events-dropping group (node_epochs p) (events p) (may p) (keeps p))

-- A property of all calls handed over

module _ {A : Type 0} (Known : OneCall A → Type 0) where
  abbrev pub LifeHands : List (Epoch A) → Type 0
  LifeHands epochs = (s : Epoch A) (older : List (Epoch A)) → HasEpoch epochs s older → Each (IsKnownCall Known) s.sent

  newest-known : (t : Epoch A) (before : List (Epoch A)) → Each (IsKnownCall Known) t.sent → LifeHands before → LifeHands (t ∷ before)
  newest-known t before h k s older (inl e) = subst (λ (u : Epoch A). Each (IsKnownCall Known) u.sent) e.0 h
  newest-known t before h k s older (inr i) = k s older i

  pub event-known : (epochs : List (Epoch A)) (e : EpochEvent A) → SendsKnown Known e → LifeHands epochs → LifeHands (epochs_after_event epochs e)
  event-known epochs (Regular ring members) f k = newest-known (epoch_opening ring members) epochs tt k
  event-known [] (Agreed x) f k = k
  event-known [] (Safe mark) f k = k
  event-known [] (Handed payloads) f k = k
  event-known [] (Dropped places) f k = k
  event-known (s ∷ older) (Agreed x) f k =
      newest-known (record s { heard = s.heard ++ x ∷ [] }) older (k s older (inl (refl, refl))) (λ t before i. k t before (inr i))
  event-known (s ∷ older) (Safe mark) f k =
      newest-known (record s { mark = mark }) older (k s older (inl (refl, refl))) (λ t before i. k t before (inr i))
  event-known (s ∷ older) (Handed payloads) f k =
      newest-known (record s { sent = s.sent ++ payloads }) older
      (each-append (IsKnownCall Known) s.sent payloads (k s older (inl (refl, refl))) f) (λ t before i. k t before (inr i))
  event-known (s ∷ older) (Dropped places) f k =
      newest-known (record s { trimmed = places }) older (k s older (inl (refl, refl))) (λ t before i. k t before (inr i))

  events-known : (epochs : List (Epoch A)) (events : List (EpochEvent A)) → Each (SendsKnown Known) events → LifeHands epochs → LifeHands (epochs_after_events epochs events)
  events-known epochs [] f k = k
  events-known epochs (e ∷ events) f k = events-known (epochs_after_event epochs e) events f.1 (event-known epochs e f.0 k)

  pub node_epochs-known : (node_epochs after : ℕ → List (Epoch A)) (events : ℕ → List (EpochEvent A)) → ((p : ℕ) → Each (SendsKnown Known) (events p))
      → ((p : ℕ) → after p ≡ epochs_after_events (node_epochs p) (events p)) → SendsOnlyKnown Known node_epochs → SendsOnlyKnown Known after
  node_epochs-known node_epochs after events known is epochs_with_sends p =
      subst LifeHands (sym (is p)) (events-known (node_epochs p) (events p) (known p) (epochs_with_sends p))
