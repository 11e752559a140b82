-- A core's outputs let its node drop places only by restoring a snapshot of more than it had committed. Any other places it drops
-- at the step's end.
use Rattle.std.proofs.Common.{◌≡◌, ℕ, ◌≤◌, max, Bool, true, false, List, [], ◌∷◌, ◌++◌, map, Option}
use Rattle.std.proofs.Common.{Some, None, ◌⊎◌, inl, inr, refl, ap, sym, ◌∙◌, subst, arith}
use Rattle.std.proofs.Common.{append_assoc, append-nil}
use Rattle.std.specs.Prelude.{nat_lt, is_some, not, ◌||◌}
use Rattle.std.specs.List.{AllByRecursion as Each}
use Rattle.std.proofs.lemmas.Bool.{cond_both, and_parts, ltb-true}
use Rattle.ring_base.specs.Prefixes.{prefix_self}
use Rattle.ring_base.specs.Group.{Group, is_primary}
use Rattle.ring_base.specs.declared.ring_id.RingId.{RingId}
use Rattle.ring_wire.specs.declared.message.Message.{Message}
use Rattle.ring_core_spec.specs.declared.input.Input.{Input}
use Rattle.ring_core_spec.specs.declared.out.Out.{Out}
use Rattle.ring_core_spec.specs.declared.out.Out.TheVariants.{Send as SendOut, Agreed as AgreedOut, Safe as SafeOut, Trans, Rest, Regular}
use Rattle.ring_core_spec.specs.State.{Core, OutgoingFrame}
use Rattle.ring_core_spec.specs.Views.{front, mark, plan}
use Rattle.ring_core_spec.specs.Deciding.{decide}
use Rattle.ring_core_spec.specs.Transitions.{transition_and_proposal}
use Rattle.ring_core_spec.specs.Giving.{may_install, sends_with_receivers, sent, user_messages_between, agreed_from, safe_from, delivered_from, agreed_and_safe_of_step, installation_outputs, with_installation_if}
use Rattle.ring_core_spec.specs.Stepping.{ring_step}
use Rattle.ring_core_spec.specs.Recoveries.{rest_messages}
use Rattle.ring_log.specs.declared.wanted.Wanted.{Wanted}
use Rattle.ring_log.specs.Exchanges.{exchange_opening, wanted}
use Rattle.ring_log.specs.Epochs.{Epoch, epoch_opening}
use Rattle.ring_log.specs.EpochHistories.{CompleteExchange, complete_exchange_from, complete_exchange, messages_upto}
use Rattle.ring_log.specs.KnownLog.{KnownLog, restores, known_log_restored, known_log_joined, adopts, adopts_wanted, known_log_after_epoch, dropped_by, known_log_of}
use Rattle.ring_log_proof.specs.EpochEvents.{IsEpochExtended}
use Rattle.ring_log_proof.proofs.KnownGrows.{adopts-grown, known-longer_list}
use Rattle.ring_log_proof.proofs.CompleteExchanges.{grown, complete_exchange-front}
use Rattle.ring_node_spec.specs.EpochHistories.{epochs_after}
use Rattle.ring_node_spec.specs.Nodes.{is_closed}
use Rattle.ring_order_proof.proofs.PiecesDue.{IsFrozen, frozen-epochs_after_event}

-- the trimmed length is as before, or that of a restored snapshot, of more places than were committed
pub record GoesOn {A : Type 0} (k now : KnownLog A) : Type 0 where
  pub committed : k.committed ≤ now.committed
  pub trimmed : ((now.trimmed ≡ k.trimmed) × (now.from ≡ k.from)) ⊎ ((now.trimmed ≡ now.from) × (k.committed ≤ now.from))

goes-self : {A : Type 0} (k : KnownLog A) → GoesOn k k
goes-self k = record { committed = omega arith; trimmed = inl (refl, refl) }

goes-trans : {A : Type 0} (a b c : KnownLog A) → GoesOn a b → GoesOn b c → GoesOn a c
goes-trans {A} a b c f g = record { committed = omega (arith, f.committed, g.committed); trimmed = by f.trimmed g.trimmed }
  where
    by : ((b.trimmed ≡ a.trimmed) × (b.from ≡ a.from)) ⊎ ((b.trimmed ≡ b.from) × (a.committed ≤ b.from))
        → ((c.trimmed ≡ b.trimmed) × (c.from ≡ b.from)) ⊎ ((c.trimmed ≡ c.from) × (b.committed ≤ c.from))
        → ((c.trimmed ≡ a.trimmed) × (c.from ≡ a.from)) ⊎ ((c.trimmed ≡ c.from) × (a.committed ≤ c.from))
    by (inl x) (inl y) = inl (y.0 ∙ x.0, y.1 ∙ x.1)
    by (inr x) (inl y) = inr (y.0 ∙ x.0 ∙ sym y.1, omega (arith, x.1, y.1))
    by x (inr y) = inr (y.0, omega (arith, f.committed, y.1))

-- Adoption

adopts-goes : {A : Type 0} (k : KnownLog A) (ring : RingId) (w : CompleteExchange A) → GoesOn k (adopts k ring w)
adopts-goes {A} k ring w = by (wanted w.exchange)
  where
    by : (o : Option Wanted) → GoesOn k (adopts_wanted k ring o w)
    by None = goes-self k
    by (Some v) =
        cond_both (restores k v) (known_log_restored ring v w.exchange.bytes w.exchange.received_calls) (known_log_joined k ring v w.exchange.received_calls) (GoesOn k)
        (λ t.
        let lt = ltb-true k.committed v.from (and_parts (is_some v.snapshot) (nat_lt k.committed v.from) t).1 in
        record { committed = omega (arith, lt); trimmed = inr (refl, omega (arith, lt)) })
        (λ f. record { committed = omega arith; trimmed = inl (refl, refl) })

kept-goes : {A : Type 0} (k : KnownLog A) (ring : RingId) (o safe : Option (CompleteExchange A)) → GoesOn k (known_log_after_epoch ring k o safe)
kept-goes k ring None safe = goes-self k
kept-goes k ring (Some w) safe =
    let a = adopts-goes k ring w in
    record { committed = omega (arith, a.committed); trimmed = a.trimmed }

-- if nothing was dropped in the ring
drop-goes : {A : Type 0} (d : ℕ) (k now : KnownLog A) → d ≡ 0 → GoesOn k now → GoesOn (dropped_by d k) (dropped_by d now)
drop-goes {A} d k now none g = record { committed = g.committed; trimmed = by g.trimmed }
  where
    by : ((now.trimmed ≡ k.trimmed) × (now.from ≡ k.from)) ⊎ ((now.trimmed ≡ now.from) × (k.committed ≤ now.from))
        → ((max d now.trimmed ≡ max d k.trimmed) × (now.from ≡ k.from)) ⊎ ((max d now.trimmed ≡ now.from) × (k.committed ≤ now.from))
    by (inl x) = inl (ap (max d) x.0, x.1)
    by (inr x) = inr (omega (arith, none, x.0), x.1)

-- A ring is installed

installs-goes : {A : Type 0} (group : Group) (epochs : List (Epoch A)) (ring : RingId) (members : ℕ) → GoesOn (known_log_of group epochs)
    (known_log_of group (epoch_opening ring members ∷ epochs))
installs-goes group epochs ring members =
    let k = known_log_of group epochs in
    let none : max 0 k.trimmed ≡ k.trimmed = omega arith in
    let g = drop-goes 0 k (known_log_after_epoch ring k (complete_exchange group members []) (complete_exchange group members [])) refl
    (kept-goes k ring (complete_exchange group members []) (complete_exchange group members [])) in
    goes-trans k (dropped_by 0 k) (known_log_of group (epoch_opening ring members ∷ epochs))
    (record { committed = omega arith; trimmed = inl (none, refl) }) g

-- The newest epoch grows

module _ {A : Type 0} (group : Group) (s : Epoch A) (older : List (Epoch A)) where
  abbrev k : KnownLog A
  k = known_log_of group older

  abbrev safe_of : Epoch A → Option (CompleteExchange A)
  safe_of t = complete_exchange group t.members (messages_upto t.mark t.heard)

  -- the trimmed length depends only on what was adopted
  same-goes : (t : Epoch A) (o : Option (CompleteExchange A)) → s.trimmed ≡ t.trimmed
      → (known_log_of group (s ∷ older)).committed ≤ (dropped_by t.trimmed (known_log_after_epoch s.ring k o (safe_of t))).committed
      → complete_exchange group s.members s.heard ≡ o
      → GoesOn (known_log_of group (s ∷ older)) (dropped_by t.trimmed (known_log_after_epoch s.ring k o (safe_of t)))
  same-goes t o same le e =
      let was : dropped_by s.trimmed (known_log_after_epoch s.ring k o (safe_of s)) ≡ known_log_of group (s ∷ older) =
      sym (ap (λ x. dropped_by s.trimmed (known_log_after_epoch s.ring k x (safe_of s))) e) in
      subst (λ (x : KnownLog A). GoesOn x (dropped_by t.trimmed (known_log_after_epoch s.ring k o (safe_of t)))) was
      (by o (subst (λ (x : KnownLog A). x.committed ≤ (dropped_by t.trimmed (known_log_after_epoch s.ring k o (safe_of t))).committed) (sym was) le))
    where
      by : (o : Option (CompleteExchange A))
          → (dropped_by s.trimmed (known_log_after_epoch s.ring k o (safe_of s))).committed ≤ (dropped_by t.trimmed (known_log_after_epoch s.ring k o (safe_of t))).committed
          → GoesOn (dropped_by s.trimmed (known_log_after_epoch s.ring k o (safe_of s))) (dropped_by t.trimmed (known_log_after_epoch s.ring k o (safe_of t)))
      by None le = record { committed = le; trimmed = inl (ap (λ n. max n k.trimmed) (sym same), refl) }
      by (Some w) le = record { committed = le; trimmed = inl (ap (λ n. max n (adopts k s.ring w).trimmed) (sym same), refl) }

  epochs_with_mark-goes : (mark : ℕ) → s.mark ≤ mark → GoesOn (known_log_of group (s ∷ older)) (known_log_of group (record s { mark = mark } ∷ older))
  epochs_with_mark-goes mark le =
      let t = record s { mark = mark } in
      let grows : IsEpochExtended s t = record {
        ring = refl;
        members = refl;
        heard = prefix_self s.heard;
        mark = le;
        sent = prefix_self s.sent;
        trimmed = omega arith;
        front = λ w e. refl;
      } in
      same-goes t (complete_exchange group s.members s.heard) refl (known-longer_list group s t older grows) refl

  module _ (x : Message A) (frozen : IsFrozen group (s ∷ older)) where
    abbrev t : Epoch A
    t = record s { heard = s.heard ++ x ∷ [] }

    longer_list : (known_log_of group (s ∷ older)).committed ≤ (known_log_of group (t ∷ older)).committed
    longer_list =
        known-longer_list group s t older (record {
          ring = refl;
          members = refl;
          heard = (x ∷ [], refl);
          mark = omega arith;
          sent = prefix_self s.sent;
          trimmed = omega arith;
          front = λ w e. refl;
        })

    -- the exchange is complete now, and wasn't before
    becomes-goes : (o : Option (CompleteExchange A)) → complete_exchange group s.members s.heard ≡ None → complete_exchange group s.members (s.heard ++ x ∷ []) ≡ o
        → GoesOn (known_log_of group (s ∷ older)) (dropped_by s.trimmed (known_log_after_epoch s.ring k o (safe_of t)))
    becomes-goes None e f =
        let was : dropped_by s.trimmed k ≡ known_log_of group (s ∷ older) = sym (ap (λ y. dropped_by s.trimmed (known_log_after_epoch s.ring k y (safe_of s))) e) in
        subst (λ (y : KnownLog A). GoesOn y (dropped_by s.trimmed k)) was (goes-self (dropped_by s.trimmed k))
    becomes-goes (Some w) e f =
        let was : dropped_by s.trimmed k ≡ known_log_of group (s ∷ older) = sym (ap (λ y. dropped_by s.trimmed (known_log_after_epoch s.ring k y (safe_of s))) e) in
        let primary : is_primary group s.members ≡ true =
        cond_both (is_primary group s.members) (complete_exchange_from (exchange_opening s.members) (s.heard ++ x ∷ [])) None
        (λ (y : Option (CompleteExchange A)). y ≡ Some w → is_primary group s.members ≡ true) (λ p g. p) (λ p g. absurd (cc g)) f in
        let unclosed : is_closed group (s ∷ older) ≡ false =
        ap (λ b. not b || is_some (complete_exchange group s.members s.heard)) primary ∙ ap is_some e in
        subst (λ (y : KnownLog A). GoesOn y (dropped_by s.trimmed (known_log_after_epoch s.ring k (Some w) (safe_of t)))) was
        (drop-goes s.trimmed k (known_log_after_epoch s.ring k (Some w) (safe_of t)) (frozen unclosed) (kept-goes k s.ring (Some w) (safe_of t)))

    -- it was complete before
    stays-goes : (w : CompleteExchange A) → complete_exchange group s.members s.heard ≡ Some w → GoesOn (known_log_of group (s ∷ older)) (known_log_of group (t ∷ older))
    stays-goes w e =
        let now : complete_exchange group s.members (s.heard ++ x ∷ []) ≡ Some (grown w (x ∷ [])) =
        complete_exchange-front group s.members s.heard (s.heard ++ x ∷ []) w e (x ∷ [], refl) in
        let was : dropped_by s.trimmed (known_log_after_epoch s.ring k (Some w) (safe_of s)) ≡ known_log_of group (s ∷ older) =
        sym (ap (λ y. dropped_by s.trimmed (known_log_after_epoch s.ring k y (safe_of s))) e) in
        let is : dropped_by s.trimmed (known_log_after_epoch s.ring k (Some (grown w (x ∷ []))) (safe_of t)) ≡ known_log_of group (t ∷ older) =
        sym (ap (λ y. dropped_by s.trimmed (known_log_after_epoch s.ring k y (safe_of t))) now) in
        let same : adopts k s.ring (grown w (x ∷ [])) ≡ adopts k s.ring w = adopts-grown k s.ring w (x ∷ []) in
        let le : (dropped_by s.trimmed (known_log_after_epoch s.ring k (Some w) (safe_of s))).committed
        ≤ (dropped_by s.trimmed (known_log_after_epoch s.ring k (Some (grown w (x ∷ []))) (safe_of t))).committed =
        subst (λ (y : KnownLog A). y.committed ≤ (dropped_by s.trimmed (known_log_after_epoch s.ring k (Some (grown w (x ∷ []))) (safe_of t))).committed) (sym was)
        (subst (λ (y : KnownLog A). (known_log_of group (s ∷ older)).committed ≤ y.committed) (sym is) longer_list) in
        subst (λ (y : KnownLog A). GoesOn y (known_log_of group (t ∷ older))) was
        (subst (λ (y : KnownLog A). GoesOn (dropped_by s.trimmed (known_log_after_epoch s.ring k (Some w) (safe_of s))) y) is
        (record {
          committed = le;
          trimmed = inl (ap (λ (y : KnownLog A). max s.trimmed y.trimmed) same, ap (λ (y : KnownLog A). y.from) same);
        }))

    epochs_with_message-goes : GoesOn (known_log_of group (s ∷ older)) (known_log_of group (t ∷ older))
    epochs_with_message-goes = by (complete_exchange group s.members s.heard) refl
      where
        by : (o : Option (CompleteExchange A)) → complete_exchange group s.members s.heard ≡ o → GoesOn (known_log_of group (s ∷ older)) (known_log_of group (t ∷ older))
        by None e = becomes-goes (complete_exchange group s.members (s.heard ++ x ∷ [])) e refl
        by (Some w) e = stays-goes w e

-- Outputs that lower no safe mark

abbrev pub AreRising : {A : Type 0} → ℕ → List (Out A) → Type 0
AreRising m [] = Unit {0}
AreRising m (SafeOut ring upto ∷ outs) = (m ≤ upto) × AreRising upto outs
AreRising m (Regular ring members ∷ outs) = AreRising 0 outs
AreRising m (AgreedOut ring n x ∷ outs) = AreRising m outs
AreRising m (SendOut to frame ∷ outs) = AreRising m outs
AreRising m (Trans old new set ∷ outs) = AreRising m outs
AreRising m (Rest ring n x ∷ outs) = AreRising m outs

pub goes-through : {A : Type 0} (group : Group) (s : Epoch A) (older : List (Epoch A)) (outs : List (Out A)) → IsFrozen group (s ∷ older) → AreRising s.mark outs
    → GoesOn (known_log_of group (s ∷ older)) (known_log_of group (epochs_after (s ∷ older) outs))
goes-through group s older [] frozen rises = goes-self (known_log_of group (s ∷ older))
goes-through group s older (SafeOut ring upto ∷ outs) frozen rises =
    let t = record s { mark = upto } in
    goes-trans (known_log_of group (s ∷ older)) (known_log_of group (t ∷ older)) (known_log_of group (epochs_after (t ∷ older) outs)) (epochs_with_mark-goes group s older upto rises.0)
    (goes-through group t older outs (frozen-epochs_after_event group (s ∷ older) (SafeOut ring upto) frozen) rises.1)
goes-through group s older (Regular ring members ∷ outs) frozen rises =
    let new = epoch_opening ring members in
    goes-trans (known_log_of group (s ∷ older)) (known_log_of group (new ∷ s ∷ older)) (known_log_of group (epochs_after (new ∷ s ∷ older) outs))
    (installs-goes group (s ∷ older) ring members) (goes-through group new (s ∷ older) outs (λ f. refl) rises)
goes-through group s older (AgreedOut ring n x ∷ outs) frozen rises =
    let t = record s { heard = s.heard ++ x ∷ [] } in
    goes-trans (known_log_of group (s ∷ older)) (known_log_of group (t ∷ older)) (known_log_of group (epochs_after (t ∷ older) outs)) (epochs_with_message-goes group s older x frozen)
    (goes-through group t older outs (frozen-epochs_after_event group (s ∷ older) (AgreedOut ring n x) frozen) rises)
goes-through group s older (SendOut to frame ∷ outs) frozen rises = goes-through group s older outs frozen rises
goes-through group s older (Trans old new set ∷ outs) frozen rises = goes-through group s older outs frozen rises
goes-through group s older (Rest ring n x ∷ outs) frozen rises = goes-through group s older outs frozen rises

-- A core's outputs lower no mark

abbrev IsPlain : {A : Type 0} → Out A → Type 0
IsPlain (SafeOut ring upto) = ⊥
IsPlain (Regular ring members) = ⊥
IsPlain (AgreedOut ring n x) = Unit {0}
IsPlain (SendOut to frame) = Unit {0}
IsPlain (Trans old new set) = Unit {0}
IsPlain (Rest ring n x) = Unit {0}

plain-rises : {A : Type 0} (m : ℕ) (xs ys : List (Out A)) → Each IsPlain xs → AreRising m ys → AreRising m (xs ++ ys)
plain-rises m [] ys h k = k
plain-rises m (SafeOut ring upto ∷ xs) ys h k = absurd h.0
plain-rises m (Regular ring members ∷ xs) ys h k = absurd h.0
plain-rises m (AgreedOut ring n x ∷ xs) ys h k = plain-rises m xs ys h.1 k
plain-rises m (SendOut to frame ∷ xs) ys h k = plain-rises m xs ys h.1 k
plain-rises m (Trans old new set ∷ xs) ys h k = plain-rises m xs ys h.1 k
plain-rises m (Rest ring n x ∷ xs) ys h k = plain-rises m xs ys h.1 k

plain-mapped : {X A : Type 0} (f : X → Out A) → ((x : X) → IsPlain (f x)) → (xs : List X) → Each IsPlain (map f xs)
plain-mapped f h [] = tt
plain-mapped f h (x ∷ xs) = (h x, plain-mapped f h xs)

delivered-rises : {A : Type 0} (c : Core A) (ring : RingId) (f below m : ℕ) (rest : List (Out A)) → m ≤ below → ((n : ℕ) → AreRising n rest)
    → AreRising m (delivered_from c ring f below ++ rest)
delivered-rises {A} c ring f below m rest le h =
    subst (AreRising m) (sym (append_assoc (agreed_from c ring f) (safe_from c ring below) rest))
    (plain-rises m (agreed_from c ring f) (safe_from c ring below ++ rest)
    (plain-mapped (λ (x : Message A). AgreedOut ring x.number x) (λ x. tt) (user_messages_between c ring f (front c ring)))
    (cond_both (nat_lt below (mark c ring)) (SafeOut ring (mark c ring) ∷ []) [] (λ xs. AreRising m (xs ++ rest))
    (λ t. (let lt = ltb-true below (mark c ring) t in omega (arith, le, lt), h (mark c ring))) (λ f. h m)))

installation_outputs-rises : {A : Type 0} (d : Core A) (m : ℕ) → AreRising m (installation_outputs d)
installation_outputs-rises {A} d m =
    let ys = delivered_from d d.running.ring 0 0 in
    plain-rises m (map (λ (x : Message A). Rest x.ring x.number x) (rest_messages (plan d) d.held)) (Regular d.running.ring d.running.members ∷ ys)
    (plain-mapped (λ (x : Message A). Rest x.ring x.number x) (λ x. tt) (rest_messages (plan d) d.held))
    (subst (AreRising 0) (append-nil ys) (delivered-rises d d.running.ring 0 0 0 [] (omega arith) (λ n. tt)))

with_installation_if-rises : {A : Type 0} (b : Bool) (c d : Core A) (sends : List (OutgoingFrame A)) (m : ℕ) → m ≤ mark c c.installed.ring
    → AreRising m (with_installation_if b d (sent sends ++ agreed_and_safe_of_step c d)).outs
with_installation_if-rises {A} false c d sends m le =
    let r = c.installed.ring in
    plain-rises m (sent sends) (agreed_and_safe_of_step c d) (plain-mapped (λ (x : OutgoingFrame A). SendOut x.to x.frame) (λ x. tt) (sends_with_receivers sends))
    (subst (AreRising m) (append-nil (agreed_and_safe_of_step c d)) (delivered-rises d r (front c r) (mark c r) m [] le (λ n. tt)))
with_installation_if-rises {A} true c d sends m le =
    let r = c.installed.ring in
    subst (AreRising m) (sym (append_assoc (sent sends) (agreed_and_safe_of_step c d) (installation_outputs d)))
    (plain-rises m (sent sends) (agreed_and_safe_of_step c d ++ installation_outputs d) (plain-mapped (λ (x : OutgoingFrame A). SendOut x.to x.frame) (λ x. tt) (sends_with_receivers sends))
    (delivered-rises d r (front c r) (mark c r) m (installation_outputs d) le (installation_outputs-rises d)))

pub core-rises : {A : Type 0} (c : Core A) (input : Input A) (m : ℕ) → m ≤ mark c c.installed.ring → AreRising m (ring_step c input).outs
unfolding ring_step
core-rises c input m le =
    let d = transition_and_proposal c (decide c input) in
    with_installation_if-rises (may_install d.core) c d.core d.sends m le
