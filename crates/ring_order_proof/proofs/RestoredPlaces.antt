-- The places that a known log has dropped were dropped by the node's steps, or are those of a restored snapshot. In that case the
-- node that sent the snapshot had committed them.
use Rattle.std.proofs.Common.{◌≡◌, ℕ, ◌≤◌, ◌<◌, ◌==◌, max, false, List, [], ◌∷◌, ◌++◌, Option, Some, None, ◌⊎◌, inl, inr, refl, ap, sym, ◌∙◌, subst, arith}
use Rattle.std.specs.Prelude.{nat_lt, is_some}
use Rattle.std.proofs.lemmas.Bool.{cond_both, cases_Bool, and_parts, ltb-true, ltb-false, eqb-true}
use Rattle.ring_base.proofs.Cases.{some_of}
use Rattle.ring_base.specs.Group.{Group}
use Rattle.ring_base.specs.declared.ring_id.RingId.{RingId}
use Rattle.ring_payload.specs.declared.content.Payload.{Payload}
use Rattle.ring_payload.specs.declared.head.Head.{Head as OneHead}
use Rattle.ring_wire.specs.declared.message.Message.{Message}
use Rattle.ring_core_spec.specs.declared.out.Out.{Out}
use Rattle.ring_core_spec.specs.declared.out.Out.TheVariants.{Send, Agreed, Safe, Trans, Rest, Regular}
use Rattle.ring_log.specs.declared.wanted.Wanted.{Wanted}
use Rattle.ring_log.specs.Exchanges.{wanted}
use Rattle.ring_log.specs.Epochs.{Epoch, epochs_with_message, epochs_with_mark, epochs_with_sends, epochs_with_trim}
use Rattle.ring_log.specs.EpochHistories.{CompleteExchange, complete_exchange, messages_upto}
use Rattle.ring_log.specs.KnownLog.{KnownLog, restores, known_log_restored, known_log_joined, adopts_wanted, known_log_after_epoch, known_log_of, known_log_head}
use Rattle.ring_log_proof.specs.RingFacts.{HasEpoch, EpochIn, RingFacts}
use Rattle.ring_log_proof.specs.Discipline.{KeepsRules, DropsOnlyCommitted}
use Rattle.ring_log_proof.proofs.KnownGrows.{kept-least}
use Rattle.ring_log_proof.proofs.Heads.{outcome}
use Rattle.ring_log_proof.proofs.Moment.{views-all}
use Rattle.ring_log_proof.proofs.Epochs.{epoch-same, epochs-behind}
use Rattle.ring_log_proof.proofs.Views.{head-view}
use Rattle.ring_node_spec.specs.EpochHistories.{epochs_after_event, epochs_after}

-- ---- one life

-- in an epoch of the life, a node that had committed fewer places restored a snapshot of `places` places
pub record Restored {A : Type 0} (group : Group) (epochs : List (Epoch A)) (places : ℕ) : Type 0 where
  pub epoch : Epoch A
  pub older : List (Epoch A)
  pub there : HasEpoch epochs epoch older
  pub whole : CompleteExchange A
  pub exch : complete_exchange group epoch.members epoch.heard ≡ Some whole
  pub w : Wanted
  pub wants : wanted whole.exchange ≡ Some w
  pub at : ℕ
  pub snap : w.snapshot ≡ Some at
  pub from : w.from ≡ places
  pub fewer : (known_log_of group older).committed < places

restored-on : {A : Type 0} (group : Group) (s : Epoch A) (older : List (Epoch A)) (places : ℕ) → Restored group older places → Restored group (s ∷ older) places
restored-on group s older places r = record {
  epoch = r.epoch;
  older = r.older;
  there = inr r.there;
  whole = r.whole;
  exch = r.exch;
  w = r.w;
  wants = r.wants;
  at = r.at;
  snap = r.snap;
  from = r.from;
  fewer = r.fewer;
}

-- no step of the life dropped more than `bound` places
abbrev pub AtMost : {A : Type 0} → ℕ → List (Epoch A) → Type 0
AtMost {A} bound epochs = (s : Epoch A) (older : List (Epoch A)) → HasEpoch epochs s older → s.trimmed ≤ bound

-- then more are dropped only if as many were restored
pub gone : {A : Type 0} (group : Group) (bound : ℕ) (epochs : List (Epoch A)) → AtMost bound epochs
    → ((known_log_of group epochs).trimmed ≤ bound) ⊎ Restored group epochs (known_log_of group epochs).trimmed
gone group bound [] most = inl (omega arith)
gone {A} group bound (s ∷ older) most = whole (by (before (gone group bound older (λ t rest i. most t rest (inr i)))) (complete_exchange group s.members s.heard) refl)
  where
    k : KnownLog A
    k = known_log_of group older

    Gone : ℕ → Type 0
    Gone places = (places ≤ bound) ⊎ Restored group (s ∷ older) places

    before : (k.trimmed ≤ bound) ⊎ Restored group older k.trimmed → Gone k.trimmed
    before g = elim g as (λ _. Gone k.trimmed) [
      | inl le ↦ inl le
      | inr r ↦ inr (restored-on group s older k.trimmed r)
    ]

    safe : Option (CompleteExchange A)
    safe = complete_exchange group s.members (messages_upto s.mark s.heard)

    adopted : Gone k.trimmed → (w : CompleteExchange A) → complete_exchange group s.members s.heard ≡ Some w → (o : Option Wanted) → wanted w.exchange ≡ o
        → Gone (adopts_wanted k s.ring o w).trimmed
    adopted was w e None wants = was
    adopted was w e (Some v) wants =
        cond_both (restores k v) (known_log_restored s.ring v w.exchange.bytes w.exchange.received_calls) (known_log_joined k s.ring v w.exchange.received_calls)
        (λ (x : KnownLog A). Gone x.trimmed)
        (λ t.
        let parts = and_parts (is_some v.snapshot) (nat_lt k.committed v.from) t in
        let some = some_of v.snapshot parts.0 in
        inr (record {
          epoch = s;
          older = older;
          there = inl (refl, refl);
          whole = w;
          exch = e;
          w = v;
          wants = wants;
          at = some.0;
          snap = some.1;
          from = refl;
          fewer = ltb-true k.committed v.from parts.1;
        }))
        (λ f. was)

    by : Gone k.trimmed → (o : Option (CompleteExchange A)) → complete_exchange group s.members s.heard ≡ o → Gone (known_log_after_epoch s.ring k o safe).trimmed
    by was None e = was
    by was (Some w) e = adopted was w e (wanted w.exchange) refl

    whole : Gone (known_log_after_epoch s.ring k (complete_exchange group s.members s.heard) safe).trimmed → Gone (known_log_of group (s ∷ older)).trimmed
    whole g =
        let n = (known_log_after_epoch s.ring k (complete_exchange group s.members s.heard) safe).trimmed in
        let low = most s older (inl (refl, refl)) in
        elim g as (λ _. Gone (max s.trimmed n)) [
          | inl le ↦ inl (omega (arith, low, le))
          | inr r ↦ elim (cases_Bool (nat_lt bound n)) as (λ _. Gone (max s.trimmed n)) [
            | inl t ↦
                let lt = ltb-true bound n t in
                let same : n ≡ max s.trimmed n = omega (arith, low, lt) in
                inr (subst (Restored group (s ∷ older)) same r)
            | inr f ↦ let le = ltb-false bound n f in inl (omega (arith, low, le))
          ]
        ]

-- the committed length never falls from ring to ring
pub known-older : {A : Type 0} (group : Group) (epochs : List (Epoch A)) (s : Epoch A) (older : List (Epoch A)) → HasEpoch epochs s older
    → ((known_log_of group older).committed ≤ (known_log_of group (s ∷ older)).committed) × ((known_log_of group (s ∷ older)).committed ≤ (known_log_of group epochs).committed)
known-older group [] s older i = absurd i
known-older {A} group (t ∷ before) s older (inl e) =
    let k = known_log_of group older in (
      kept-least k s.ring (complete_exchange group s.members s.heard) (complete_exchange group s.members (messages_upto s.mark s.heard)),
      let same : (known_log_of group (t ∷ before)).committed ≡ (known_log_of group (s ∷ older)).committed =
          ap (λ (x : Epoch A). (known_log_of group (x ∷ before)).committed) e.0 ∙ ap (λ (l : List (Epoch A)). (known_log_of group (s ∷ l)).committed) e.1 in
          omega (arith, same),
    )
known-older group (t ∷ before) s older (inr i) =
    let rest = known-older group before s older i in
    let more = kept-least (known_log_of group before) t.ring (complete_exchange group t.members t.heard) (complete_exchange group t.members (messages_upto t.mark t.heard)) in (
      rest.0,
      omega (arith, rest.1, more),
    )

-- a life that drops only committed places dropped no more than it has committed
pub dropped-most : {A : Type 0} (group : Group) (epochs : List (Epoch A)) → DropsOnlyCommitted group epochs → AtMost (known_log_of group epochs).committed epochs
dropped-most group epochs drops s older i =
    let le = drops s older i in
    let more = (known-older group epochs s older i).1 in
    omega (arith, le, more)

-- a core's outputs drop nothing
most-epochs_with_message : {A : Type 0} (bound : ℕ) (x : Message A) (epochs : List (Epoch A)) → AtMost bound epochs → AtMost bound (epochs_with_message x epochs)
most-epochs_with_message bound x [] most s older i = most s older i
most-epochs_with_message bound x (t ∷ before) most s older (inl e) =
    let same : t.trimmed ≡ s.trimmed = ap (λ (u : Epoch _). u.trimmed) e.0 in
    let le = most t before (inl (refl, refl)) in
    omega (arith, same, le)
most-epochs_with_message bound x (t ∷ before) most s older (inr i) = most s older (inr i)

most-epochs_with_mark : {A : Type 0} (bound mark : ℕ) (epochs : List (Epoch A)) → AtMost bound epochs → AtMost bound (epochs_with_mark mark epochs)
most-epochs_with_mark bound mark [] most s older i = most s older i
most-epochs_with_mark bound mark (t ∷ before) most s older (inl e) =
    let same : t.trimmed ≡ s.trimmed = ap (λ (u : Epoch _). u.trimmed) e.0 in
    let le = most t before (inl (refl, refl)) in
    omega (arith, same, le)
most-epochs_with_mark bound mark (t ∷ before) most s older (inr i) = most s older (inr i)

most-epochs_after_event : {A : Type 0} (bound : ℕ) (epochs : List (Epoch A)) (o : Out A) → AtMost bound epochs → AtMost bound (epochs_after_event epochs o)
most-epochs_after_event bound epochs (Agreed ring n x) most s older i = most-epochs_with_message bound x epochs most s older i
most-epochs_after_event bound epochs (Safe ring mark) most s older i = most-epochs_with_mark bound mark epochs most s older i
most-epochs_after_event bound epochs (Regular ring set) most s older (inl e) =
    let none : 0 ≡ s.trimmed = ap (λ (u : Epoch _). u.trimmed) e.0 in
    omega (arith, none)
most-epochs_after_event bound epochs (Regular ring set) most s older (inr i) = most s older i
most-epochs_after_event bound epochs (Send to frame) most s older i = most s older i
most-epochs_after_event bound epochs (Trans old new set) most s older i = most s older i
most-epochs_after_event bound epochs (Rest ring n x) most s older i = most s older i

pub most-through : {A : Type 0} (bound : ℕ) (epochs : List (Epoch A)) (outs : List (Out A)) → AtMost bound epochs → AtMost bound (epochs_after epochs outs)
most-through bound epochs [] most = most
most-through bound epochs (o ∷ outs) most = most-through bound (epochs_after_event epochs o) outs (most-epochs_after_event bound epochs o most)

-- payloads handed over and places dropped change nothing of it
restored-head : {A : Type 0} (group : Group) (s t : Epoch A) (older : List (Epoch A)) (places : ℕ) → s.members ≡ t.members → s.heard ≡ t.heard
    → Restored group (s ∷ older) places → Restored group (t ∷ older) places
restored-head {A} group s t older places members heard r = by r.there
  where
    by : HasEpoch (s ∷ older) r.epoch r.older → Restored group (t ∷ older) places
    by (inl e) = record {
      epoch = t;
      older = older;
      there = inl (refl, refl);
      whole = r.whole;
      exch = ap (λ m. complete_exchange group m t.heard) (sym members) ∙ ap (complete_exchange group s.members) (sym heard)
          ∙ ap (λ (u : Epoch A). complete_exchange group u.members u.heard) e.0 ∙ r.exch;
      w = r.w;
      wants = r.wants;
      at = r.at;
      snap = r.snap;
      from = r.from;
      fewer = subst (λ (l : List (Epoch A)). (known_log_of group l).committed < places) (sym e.1) r.fewer;
    }
    by (inr i) = record {
      epoch = r.epoch;
      older = r.older;
      there = inr i;
      whole = r.whole;
      exch = r.exch;
      w = r.w;
      wants = r.wants;
      at = r.at;
      snap = r.snap;
      from = r.from;
      fewer = r.fewer;
    }

pub restored-epochs_with_sends : {A : Type 0} (group : Group) (due : List (Payload A)) (epochs : List (Epoch A)) (places : ℕ) → Restored group epochs places
    → Restored group (epochs_with_sends due epochs) places
restored-epochs_with_sends group due [] places r = r
restored-epochs_with_sends group due (s ∷ older) places r = restored-head group s (record s { sent = s.sent ++ due }) older places refl refl r

pub restored-epochs_with_trim : {A : Type 0} (group : Group) (upto' : ℕ) (epochs : List (Epoch A)) (places : ℕ) → Restored group epochs places
    → Restored group (epochs_with_trim upto' epochs) places
restored-epochs_with_trim group upto' [] places r = r
restored-epochs_with_trim group upto' (s ∷ older) places r = restored-head group s (record s { trimmed = upto' }) older places refl refl r

-- ---- all lives

module _ {A : Type 0} (group : Group) (node_epochs : ℕ → List (Epoch A)) (members : RingId → ℕ) (text : RingId → List (Message A))
    (facts : RingFacts node_epochs members text) (rules : KeepsRules group node_epochs) where
  -- another node had committed as many places
  pub record IsOwned (p places : ℕ) : Type 0 where
    pub owner : ℕ
    pub other : (owner == p) ≡ false
    pub at : (r : RingId) × EpochIn (node_epochs owner) r
    pub committed : places ≤ (known_log_of group (node_epochs owner)).committed

  pub restored-owned : (p places : ℕ) → Restored group (node_epochs p) places → IsOwned p places
  restored-owned p places r =
      let s = r.epoch in
      let ring = s.ring in
      let o = outcome group node_epochs members text facts rules ring (views-all group node_epochs members text facts rules ring.seq) s.heard r.whole
      (facts.heard p s r.older r.there) (subst (λ m. complete_exchange group m s.heard ≡ Some r.whole) (facts.one_set p s r.older r.there) r.exch) in
      let same : o.w ≡ r.w = let e : Some o.w ≡ Some r.w = sym o.is ∙ r.wants in cc e in
      let q = o.w.owner in
      let own : EpochIn (node_epochs q) ring = o.says.0 in
      let snap : o.w.snapshot ≡ Some r.at = ap (λ (w : Wanted). w.snapshot) same ∙ r.snap in
      let from : o.w.from ≡ places = ap (λ (w : Wanted). w.from) same ∙ r.from in
      let view = views-all group node_epochs members text facts rules ring.seq q own.older (epochs-behind (node_epochs q) ring (facts.rises q) own) in
      let head : o.chosen.head ≡ known_log_head (known_log_of group own.older) = o.says.1 ∙ sym (head-view group own.older view) in
      let gone : (known_log_of group own.older).trimmed ≡ places = sym (ap (λ (h : OneHead). h.trimmed) head) ∙ (o.snapped r.at snap).1 ∙ from in
      let had : places ≤ (known_log_of group own.older).committed = omega (arith, gone, view.high) in
      let since = known-older group (node_epochs q) own.epoch own.older own.there in
      record {
        owner = q;
        other = other q own had;
        at = (ring, own);
        committed = omega (arith, had, since.0, since.1);
      }
    where
      Never : ℕ → Type 0
      Never q = (own : EpochIn (node_epochs q) r.epoch.ring) → places ≤ (known_log_of group own.older).committed → ⊥

      itself : Never p
      itself own had =
          let same = (epoch-same (node_epochs p) own.epoch r.epoch own.older r.older (facts.rises p) own.there r.there (ap (λ (x : RingId). x.seq) own.ring)).1 in
          let few = r.fewer in
          let known : (known_log_of group own.older).committed ≡ (known_log_of group r.older).committed = ap (λ l. (known_log_of group l).committed) same in
          omega (arith, had, few, known)

      other : (q : ℕ) (own : EpochIn (node_epochs q) r.epoch.ring) → places ≤ (known_log_of group own.older).committed → (q == p) ≡ false
      other q own had = elim (cases_Bool (q == p)) as (λ _. (q == p) ≡ false) [
        | inl t ↦ absurd (subst Never (sym (eqb-true q p t)) itself own had)
        | inr f ↦ f
      ]
