-- What a ring's text says of its senders' logs: a Head states its sender's life before the ring, and Parts are places of the log
-- that it had then.
use Rattle.std.proofs.Common.{◌≡◌, ℕ, ◌-◌, ◌==◌, List, [], ◌∷◌, drop, Some, slice_get, inl, inr, if◌then◌else◌}
use Rattle.std.proofs.Common.{refl, ap, sym, ◌∙◌, subst, arith}
use Rattle.std.specs.List.{AllByRecursion as Each}
use Rattle.std.proofs.lemmas.Bool.{cond-true, eq-eqb}
use Rattle.ring_base.specs.Prefixes.{IsListPrefix, prefix_trans}
use Rattle.ring_base.specs.Group.{Group}
use Rattle.ring_base.specs.declared.ring_id.RingId.{RingId}
use Rattle.ring_base.proofs.Each.{each-weaker, each-front, each-get, each-left, each-right}
use Rattle.ring_base.proofs.ListFronts.{drop-more}
use Rattle.ring_payload.specs.declared.call.Call.{Call as OneCall}
use Rattle.ring_payload.specs.declared.calls.Part.{Part as OnePart}
use Rattle.ring_payload.specs.declared.head.Head.{Head as OneHead}
use Rattle.ring_payload.specs.declared.content.Payload.{Payload}
use Rattle.ring_payload.specs.declared.content.Payload.TheVariants.{Call, Wrapped, End, Head, Part, Pack, Snap}
use Rattle.ring_payload.specs.PayloadKinds.{unpacked_payloads}
use Rattle.ring_log.specs.Messages.{Message}
use Rattle.ring_log.specs.Exchanges.{exchange_opening}
use Rattle.ring_log.specs.Epochs.{Epoch}
use Rattle.ring_log.specs.KnownLog.{known_log_of}
use Rattle.ring_log.specs.EpochHistories.{CompleteExchange, complete_exchange, log_of, head_of_epochs, older_at, owner_log, base_of}
use Rattle.ring_log_proof.specs.RingFacts.{EpochIn, payloads_from, RingFacts}
use Rattle.ring_log_proof.specs.Discipline.{FollowsHead, KeepsRules}
use Rattle.ring_log_proof.proofs.Epochs.{older-in, IsLifeBelow, epochs-behind}
use Rattle.ring_log_proof.specs.Views.{IsView}
use Rattle.ring_log_proof.proofs.Views.{head-view}
use Rattle.ring_log_proof.proofs.HonestExchanges.{IsHonest, Hears, epochs_with_message-exchange_opening, epochs_with_message-all, Outcome, whole-outcome}
use Rattle.ring_log_proof.proofs.CompleteExchanges.{complete_exchange-whole}

-- a property of all payloads that each processor sent holds of the units of each message
pub said-each : {A : Type 0} (P : ℕ → Payload A → Type 0) (xs : List (Message A)) → ((p : ℕ) → Each (P p) (payloads_from p xs))
    → Each (λ (x : Message A). Each (P x.sender) (unpacked_payloads x.payload)) xs
said-each P [] h = tt
said-each {A} P (x ∷ xs) h =
    let here = each-left (P x.sender) (if x.sender == x.sender then unpacked_payloads x.payload else []) (payloads_from x.sender xs) (h x.sender) in (
      subst (Each (P x.sender)) (cond-true (x.sender == x.sender) (unpacked_payloads x.payload) [] (eq-eqb x.sender x.sender refl)) here,
      said-each P xs (λ p. each-right (P p) (if x.sender == p then unpacked_payloads x.payload else []) (payloads_from p xs) (h p)),
    )

-- the known log of each life of rings below a number is the rest of the whole log
abbrev pub ViewsAt : {A : Type 0} → Group → (ℕ → List (Epoch A)) → ℕ → Type 0
ViewsAt {A} group node_epochs bound = (p : ℕ) (epochs : List (Epoch A)) → IsLifeBelow (node_epochs p) epochs bound → IsView group epochs

module _ {A : Type 0} (group : Group) (node_epochs : ℕ → List (Epoch A)) where
  -- the Head that a processor may send in a ring
  abbrev pub Says : RingId → ℕ → OneHead → Type 0
  Says r p h = (at : EpochIn (node_epochs p) r) × (h ≡ head_of_epochs group at.older)

  -- the log that a processor had before a ring
  abbrev pub log_before : RingId → ℕ → List (OneCall A)
  log_before r p = log_of group (older_at r.seq (node_epochs p))

  unit-honest : (r : RingId) (p : ℕ) (payload : Payload A) → Each (IsHonest (Says r) (log_before r) p) (unpacked_payloads payload)
      → IsHonest (Says r) (log_before r) p payload
  unit-honest r p (Head h) f = f.0
  unit-honest r p (Part part) f = f.0
  unit-honest r p (Call call) f = tt
  unit-honest r p (Pack pack) f = tt
  unit-honest r p (Snap snap) f = tt
  unit-honest r p (Wrapped old) f = tt
  unit-honest r p End f = tt

  module _ (members : RingId → ℕ) (text : RingId → List (Message A)) (facts : RingFacts node_epochs members text) (disc : KeepsRules group node_epochs) where
    -- the log before an epoch
    pub before-is : (r : RingId) (p : ℕ) (at : EpochIn (node_epochs p) r) → log_before r p ≡ log_of group at.older
    before-is r p at = ap (log_of group) (older-in (node_epochs p) r (facts.rises p) at)

    follows-honest : (r : RingId) (p : ℕ) (at : EpochIn (node_epochs p) r) → IsView group at.older → (payload : Payload A) → FollowsHead (known_log_of group at.older) payload
        → IsHonest (Says r) (log_before r) p payload
    follows-honest r p at view (Part part) f =
        let k = known_log_of group at.older in
        let there : drop (part.first - k.from) k.calls ≡ drop part.first (log_of group at.older) =
        ap (drop (part.first - k.from)) view.calls ∙ drop-more k.from (part.first - k.from) (log_of group at.older)
        ∙ ap (λ n. drop n (log_of group at.older)) (let le = f.0 in omega (arith, le)) in
        subst (λ log. IsListPrefix part.calls (drop part.first log)) (sym (before-is r p at)) (subst (IsListPrefix part.calls) there f.1)
    follows-honest r p at view (Call call) f = tt
    follows-honest r p at view (Head h) f = absurd f
    follows-honest r p at view (Pack pack) f = absurd f
    follows-honest r p at view (Snap snap) f = tt
    follows-honest r p at view (Wrapped old) f = absurd f
    follows-honest r p at view End f = absurd f

    sent-honest : (r : RingId) → ViewsAt group node_epochs r.seq → (p : ℕ) (at : EpochIn (node_epochs p) r) → Each (IsHonest (Says r) (log_before r) p) at.epoch.sent
    sent-honest r views p at =
        let view = views p at.older (epochs-behind (node_epochs p) r (facts.rises p) at) in
        let P : Payload A → Type 0 = IsHonest (Says r) (log_before r) p in
        elim (disc.epochs_with_sends p at.epoch at.older at.there) as (λ _. Each P at.epoch.sent) [
          | inl silent ↦ subst (Each P) (sym silent) tt
          | inr opens ↦
              let low = (facts.own p at.epoch at.older at.there).0 in
              subst (Each P) (sym opens.opens) (
                (low, (at, head-view group at.older view)),
                each-weaker (FollowsHead (known_log_of group at.older)) P
                    (follows-honest r p at view) opens.rest opens.follows,
              )
        ]

    said-honest : (r : RingId) → ViewsAt group node_epochs r.seq → (p : ℕ) → Each (IsHonest (Says r) (log_before r) p) (payloads_from p (text r))
    said-honest r views p =
        let P : Payload A → Type 0 = IsHonest (Says r) (log_before r) p in
        elim (facts.said p r) as (λ _. Each P (payloads_from p (text r))) [
          | inl silent ↦ subst (Each P) (sym silent) tt
          | inr there ↦ each-front P (payloads_from p (text r)) there.0.epoch.sent there.1 (sent-honest r views p there.0)
        ]

    -- all messages of a ring are honest
    pub text-honest : (r : RingId) → ViewsAt group node_epochs r.seq → Each (λ (x : Message A). IsHonest (Says r) (log_before r) x.sender x.payload) (text r)
    text-honest r views =
        each-weaker _ _ (λ (x : Message A) h. unit-honest r x.sender x.payload h) (text r)
        (said-each (IsHonest (Says r) (log_before r)) (text r) (said-honest r views))

    -- in particular its Heads and Parts
    pub text-heads : (r : RingId) → ViewsAt group node_epochs r.seq → (k : ℕ) (x : Message A) (h : OneHead) → slice_get (text r) k ≡ Some x → x.payload ≡ Head h → Says r x.sender h
    text-heads r views k x h stands is =
        let P : Message A → Type 0 = λ y. IsHonest (Says r) (log_before r) y.sender y.payload in
        (subst (IsHonest (Says r) (log_before r) x.sender) is (each-get P (text r) k x (text-honest r views) stands)).1

    pub text-parts : (r : RingId) → ViewsAt group node_epochs r.seq → (k : ℕ) (x : Message A) (part : OnePart A) (at : EpochIn (node_epochs x.sender) r) → slice_get (text r) k ≡ Some x → x.payload
        ≡ Part part → IsListPrefix part.calls (drop part.first (log_of group at.older))
    text-parts r views k x part at stands is =
        let P : Message A → Type 0 = λ y. IsHonest (Says r) (log_before r) y.sender y.payload in
        subst (λ log. IsListPrefix part.calls (drop part.first log)) (before-is r x.sender at)
        (subst (IsHonest (Says r) (log_before r) x.sender) is (each-get P (text r) k x (text-honest r views) stands))

    -- the contents of a complete exchange
    pub outcome : (r : RingId) → ViewsAt group node_epochs r.seq → (xs : List (Message A)) (w : CompleteExchange A) → IsListPrefix xs (text r) → complete_exchange group (members r) xs ≡ Some w
        → Outcome (Says r) (log_before r) (members r) w.exchange
    outcome r views xs w front exch =
        let by = complete_exchange-whole group (members r) xs w exch in
        let P : Message A → Type 0 = λ x. IsHonest (Says r) (log_before r) x.sender x.payload in
        let honest = each-front P by.front (text r) (prefix_trans by.front xs (text r) (w.rest, by.parts) front) (text-honest r views) in
        let epochs_with_message = epochs_with_message-all (Says r) (log_before r) (members r) (exchange_opening (members r)) by.front honest (epochs_with_message-exchange_opening (Says r) (log_before r) (members r)) in
        whole-outcome (Says r) (log_before r) (members r) w.exchange
        (subst (Hears (Says r) (log_before r) (members r)) (sym by.after) epochs_with_message) by.whole

    -- the ring's base is the log that the owner had before it
    pub base-owner : (r : RingId) (w : CompleteExchange A) → (o : Outcome (Says r) (log_before r) (members r) w.exchange) → base_of group node_epochs r w.exchange
        ≡ log_of group o.says.0.older
    base-owner r w o = ap (owner_log group node_epochs r) o.is ∙ before-is r o.w.owner o.says.0
