-- In all lives at one moment, each restored snapshot is that of the session table after the places that it stands for. So each
-- node's table, built from these bytes, is that of the whole log.

-- The proof is by induction on ring numbers: a snapshot is sent by a node whose life before that ring is of smaller ones.
use Rattle.std.proofs.Common.{◌≡◌, ℕ, zero, suc, ◌+◌, ◌-◌, ◌^◌, ◌<◌, ◌≤◌, ◌==◌, ◌&&◌, ◌||◌, Bool, true, List, [], ◌∷◌, ◌++◌, length, take, drop}
use Rattle.std.proofs.Common.{Option, Some, None, ◌⊎◌, inl, inr, refl, ap, sym, ◌∙◌, subst, arith, All}
use Rattle.std.specs.Prelude.{nat_lt, is_some, fold}
use Rattle.std.specs.List.{AllByRecursion as Each}
use Rattle.std.proofs.lemmas.Bool.{cond_both, cond-true, cond-false, and_parts, eq-eqb, ne_eqb, eqb-true, cases_eq, ltb-true}
use Rattle.std.proofs.lemmas.List.{take-append-drop, take-append-le, take-take, drop-take}
use Rattle.std.proofs.lemmas.List.Elements.{All-nil, All-cons}
use Rattle.std.proofs.lemmas.List.Sums.{fold-append}
use Rattle.ring_base.specs.Prefixes.{IsListPrefix, prefix_length, prefix_trans}
use Rattle.ring_base.specs.Group.{Group}
use Rattle.ring_base.specs.declared.ring_id.RingId.{RingId}
use Rattle.ring_base.proofs.Cases.{or-true}
use Rattle.ring_base.proofs.Each.{each-weaker, each-front, each-both, each-take}
use Rattle.ring_base.proofs.ListFronts.{take-front}
use Rattle.ring_object.specs.Operations.{Sequential}
use Rattle.ring_payload.specs.PayloadKinds.{unpacked_payloads}
use Rattle.ring_payload.specs.Limits.{max_snapshot}
use Rattle.ring_payload.specs.declared.call.Call.{Call as OneCall}
use Rattle.ring_payload.specs.declared.content.Payload.{Payload}
use Rattle.ring_payload.specs.declared.content.Payload.TheVariants.{Call, Wrapped, End, Head, Part, Pack, Snap}
use Rattle.ring_wire.specs.declared.message.Message.{Message}
use Rattle.ring_log.specs.declared.wanted.Wanted.{Wanted}
use Rattle.ring_log.specs.Exchanges.{exchange_opening, wanted}
use Rattle.ring_log.specs.Epochs.{Epoch, number_above_rings}
use Rattle.ring_log.specs.Logs.{begins}
use Rattle.ring_log.specs.EpochHistories.{CompleteExchange, complete_exchange, calls_in, messages_upto, log_by, log_of, committed_of, own_base, older_at, keeps_committed, is_known_on}
use Rattle.ring_log.specs.KnownLog.{KnownLog, restores, known_log_restored, known_log_joined, adopts_wanted, adopts, known_log_after_epoch, known_log_of}
use Rattle.ring_log_proof.specs.RingFacts.{HasEpoch, EpochIn, payloads_from, RingFacts}
use Rattle.ring_log_proof.specs.Discipline.{KeepsRules}
use Rattle.ring_log_proof.specs.EpochEvents.{SendsOnlyKnown}
use Rattle.ring_log_proof.specs.Views.{IsView}
use Rattle.ring_log_proof.proofs.AdoptedBases.{kept-all}
use Rattle.ring_log_proof.proofs.CallPrefixes.{front_begins}
use Rattle.ring_log_proof.proofs.SafeLogs.{by-ring, heard-in}
use Rattle.ring_log_proof.proofs.Heads.{Says, log_before, said-each, text-honest, outcome, base-owner}
use Rattle.ring_log_proof.proofs.HonestExchanges.{Outcome, IsHonest}
use Rattle.ring_log_proof.proofs.Issued.{logs-before}
use Rattle.ring_log_proof.proofs.Moment.{adopted-base, keeps-all, views-all}
use Rattle.ring_log_proof.proofs.Epochs.{IsLifeBelow, epochs-behind, epochs-lower, older-in, top-above, below-above}
use Rattle.ring_log_proof.proofs.CompleteExchanges.{complete_exchange-whole}
use Rattle.ring_session.specs.Snapshots.{KeepsLimits, table_snapshot, restored_table}
use Rattle.ring_session.specs.Table.{opening, table_next, table_after}
use Rattle.ring_node_spec.specs.Nodes.{restored_table_or, table_before, table_after_places, snapshot_at, snapshot_kept, is_restored}
use Rattle.ring_order_proof.proofs.HonestPieces.{IsPieceOf, IsHonestPiece, HearsPieces, epochs_with_message-exchange_opening, epochs_with_message-all, whole-bytes}

-- the snapshot of each table after calls that keep the limits can be restored to it, if it isn't too long
abbrev pub ComesBack : {O : Type 0} (object : Sequential O) (A : Type 0) → Type 0
ComesBack object A = (calls : List (OneCall A)) → All KeepsLimits calls → length (table_snapshot object.snapshot_of (table_after object calls)) < 2 ^ 64
    → restored_table object.restored (table_snapshot object.snapshot_of (table_after object calls)) ≡ Some (table_after object calls)

pub all-of : {X : Type 0} (P : X → Type 0) (xs : List X) → Each P xs → All P xs
all-of P [] h = All-nil P
all-of P (x ∷ xs) h = All-cons P x xs h.0 (all-of P xs h.1)

-- The known log whose first places are restored bytes

module _ {O A : Type 0} (object : Sequential O) where
  -- the number of first places of the log that these bytes stand for: none, or they are the snapshot of the table after them
  pub record IsSnapshotOf (bytes : List ℕ) (calls : List (OneCall A)) : Type 0 where
    pub restored : restored_table object.restored bytes ≡ Some (table_after object calls)
    pub bytes_are : bytes ≡ table_snapshot object.snapshot_of (table_after object calls)

  abbrev pub Told : ℕ → List ℕ → List (OneCall A) → Type 0
  Told from bytes log = (from ≡ 0) ⊎ IsSnapshotOf bytes (take from log)

  module _ (k : KnownLog A) (log : List (OneCall A)) (told : Told k.from k.snapshot log) where
    before-none : k.from ≡ 0 → table_before object k ≡ table_after object (take k.from log)
    before-none none =
        cond-true (k.from == 0) (opening object.initial) (restored_table_or object (restored_table object.restored k.snapshot)) (eq-eqb k.from 0 none)
        ∙ sym (ap (λ n. table_after object (take n log)) none)

    -- the table before the known places
    pub before-told : table_before object k ≡ table_after object (take k.from log)
    before-told = elim told as (λ _. table_before object k ≡ table_after object (take k.from log)) [
      | inl none ↦ before-none none
      | inr r ↦ elim (cases_eq k.from 0) as (λ _. table_before object k ≡ table_after object (take k.from log)) [
        | inl none ↦ before-none none
        | inr other ↦
            cond-false (k.from == 0) (opening object.initial) (restored_table_or object (restored_table object.restored k.snapshot)) (ne_eqb k.from 0 other)
            ∙ ap (restored_table_or object) r.restored
      ]
    ]

    -- the bytes are a snapshot
    pub is-restored : is_restored object k ≡ true
    is-restored = elim told as (λ _. is_restored object k ≡ true) [
      | inl none ↦ ap (λ b. b || is_some (restored_table object.restored k.snapshot)) (eq-eqb k.from 0 none)
      | inr r ↦ ap (λ o. (k.from == 0) || is_some o) r.restored ∙ or-true (k.from == 0)
    ]

    module _ (calls : k.calls ≡ drop k.from log) where
      -- the table after the first places
      pub at-told : (places : ℕ) → k.from ≤ places → table_after_places object k places ≡ table_after object (take places log)
      at-told places low =
          let first = take k.from log in
          let more = take (places - k.from) (drop k.from log) in
          let sum : k.from + (places - k.from) ≡ places = omega (arith, low) in
          let parts : first ++ more ≡ take places log =
          ap (λ l. l ++ more) (sym (take-take k.from places log low))
          ∙ ap (λ l. take k.from (take places log) ++ l)
          (sym (drop-take k.from (places - k.from) log) ∙ ap (λ n. drop k.from (take n log)) sum)
          ∙ take-append-drop k.from (take places log) in
          ap (λ t. fold (table_next object) t (take (places - k.from) k.calls)) before-told
          ∙ ap (λ l. fold (table_next object) (table_after object first) (take (places - k.from) l)) calls
          ∙ sym (fold-append (table_next object) (opening object.initial) first more)
          ∙ ap (table_after object) parts

      -- the kept snapshot is that after the dropped places
      pub snapshot-told : k.from ≤ k.trimmed
          → snapshot_kept object k ≡ table_snapshot object.snapshot_of (table_after object (take k.trimmed log))
      snapshot-told low =
          let S : ℕ → List ℕ = λ n. table_snapshot object.snapshot_of (table_after object (take n log)) in
          cond_both (nat_lt 0 k.from && (k.trimmed == k.from)) k.snapshot (snapshot_at object k k.trimmed) (λ bytes. bytes ≡ S k.trimmed)
          (λ t.
          let parts = and_parts (nat_lt 0 k.from) (k.trimmed == k.from) t in
          let more = ltb-true 0 k.from parts.0 in
          elim told as (λ _. k.snapshot ≡ S k.trimmed) [
            | inl none ↦ absurd (omega (arith, more, none))
            | inr r ↦ r.bytes_are ∙ ap S (sym (eqb-true k.trimmed k.from parts.1))
          ])
          (λ f. ap (table_snapshot object.snapshot_of) (at-told k.trimmed low))

module _ {O A : Type 0} (object : Sequential O) (back : ComesBack object A) (group : Group) (node_epochs : ℕ → List (Epoch A)) (members : RingId → ℕ)
    (text : RingId → List (Message A)) (facts : RingFacts node_epochs members text) (disc : KeepsRules group node_epochs) where
  -- each piece that a node handed over is one of the snapshot that it kept as it entered the ring
  abbrev pub HandsPieces : Type 0
  HandsPieces = (p : ℕ) (s : Epoch A) (older : List (Epoch A)) → HasEpoch (node_epochs p) s older → Each (IsPieceOf (snapshot_kept object (known_log_of group older))) s.sent

  abbrev bytes_before : RingId → ℕ → List ℕ
  bytes_before r p = snapshot_kept object (known_log_of group (older_at r.seq (node_epochs p)))

  module _ (epochs_with_sends : HandsPieces) (limits : SendsOnlyKnown KeepsLimits node_epochs) where
    -- The payloads sent in a ring

    said-pieces : (r : RingId) (p : ℕ) → Each (IsPieceOf (bytes_before r p)) (payloads_from p (text r))
    said-pieces r p =
        let P : Payload A → Type 0 = IsPieceOf (bytes_before r p) in
        elim (facts.said p r) as (λ _. Each P (payloads_from p (text r))) [
          | inl silent ↦ subst (Each P) (sym silent) tt
          | inr at ↦
              let epochs = older-in (node_epochs p) r (facts.rises p) at.0 in
              each-front P (payloads_from p (text r)) at.0.epoch.sent at.1
              (subst (λ (l : List (Epoch A)). Each (IsPieceOf (snapshot_kept object (known_log_of group l))) at.0.epoch.sent) (sym epochs)
              (epochs_with_sends p at.0.epoch at.0.older at.0.there))
        ]

    both-honest : (r : RingId) (p : ℕ) (payload : Payload A)
        → IsHonest (Says group node_epochs r) (log_before group node_epochs r) p payload × Each (IsPieceOf (bytes_before r p)) (unpacked_payloads payload)
        → IsHonestPiece (bytes_before r) p payload
    both-honest r p (Snap snap) f = f.1.0
    both-honest r p (Head h) f = f.0.0
    both-honest r p (Part part) f = tt
    both-honest r p (Call call) f = tt
    both-honest r p (Pack pack) f = tt
    both-honest r p (Wrapped old) f = tt
    both-honest r p End f = tt

    text-pieces : (r : RingId) → Each (λ (x : Message A). IsHonestPiece (bytes_before r) x.sender x.payload) (text r)
    text-pieces r =
        each-weaker _ _ (λ (x : Message A) f. both-honest r x.sender x.payload f) (text r)
        (each-both _ _ (text r) (text-honest group node_epochs members text facts disc r (views-all group node_epochs members text facts disc r.seq))
        (said-each (λ p. IsPieceOf (bytes_before r p)) (text r) (said-pieces r)))

    -- the bytes of a complete exchange are those that its owner sent
    bytes-heard : (r : RingId) (xs : List (Message A)) (w : CompleteExchange A) (v : Wanted) (at : ℕ) → IsListPrefix xs (text r) → complete_exchange group (members r) xs ≡ Some w
        → wanted w.exchange ≡ Some v → v.snapshot ≡ Some at
        → (w.exchange.bytes ≡ bytes_before r v.owner) × (length (bytes_before r v.owner) ≤ max_snapshot)
    bytes-heard r xs w v at front exch wants snap =
        let by = complete_exchange-whole group (members r) xs w exch in
        let honest = each-front (λ (x : Message A). IsHonestPiece (bytes_before r) x.sender x.payload) by.front (text r)
        (prefix_trans by.front xs (text r) (w.rest, by.parts) front) (text-pieces r) in
        let epochs_with_message = epochs_with_message-all (bytes_before r) (exchange_opening (members r)) by.front honest (epochs_with_message-exchange_opening (bytes_before r) A (members r)) in
        whole-bytes (bytes_before r) w.exchange v at (subst (HearsPieces (bytes_before r)) (sym by.after) epochs_with_message) by.whole wants snap

    -- Of one life

    abbrev pub IsTold : List (Epoch A) → Type 0
    IsTold epochs = Told object (known_log_of group epochs).from (known_log_of group epochs).snapshot (log_of group epochs)

    snapped : (b : Bool) (o : Option ℕ) → (is_some o && b) ≡ true → (at : ℕ) × (o ≡ Some at)
    snapped b None t = absurd (cc t)
    snapped b (Some at) t = (at, refl)

    module _ (p : ℕ) (s : Epoch A) (older : List (Epoch A)) (there : HasEpoch (node_epochs p) s older) (told : IsTold older)
        (all : (q : ℕ) (at : EpochIn (node_epochs q) s.ring) → IsTold at.older) where
      abbrev r : RingId
      r = s.ring

      abbrev here : EpochIn (node_epochs p) r
      here = record { epoch = s; older = older; there = there; ring = refl }

      abbrev done : List (OneCall A)
      done = committed_of group older

      abbrev own : List (OneCall A)
      own = log_of group older

      view-of : (q : ℕ) (at : EpochIn (node_epochs q) r) → IsView group at.older
      view-of q at = views-all group node_epochs members text facts disc r.seq q at.older (epochs-behind (node_epochs q) r (facts.rises q) at)

      done-in : (q : ℕ) (at : EpochIn (node_epochs q) r) → IsListPrefix (committed_of group at.older) (log_of group at.older)
      done-in q at = (kept-all group node_epochs members text facts disc r.seq q at.older (epochs-behind (node_epochs q) r (facts.rises q) at)).front

      module _ (w : CompleteExchange A) (exch : complete_exchange group s.members s.heard ≡ Some w) where
        abbrev k : KnownLog A
        k = known_log_of group older

        abbrev base : List (OneCall A)
        base = own_base own s.front w.exchange

        abbrev log : List (OneCall A)
        log = base ++ calls_in w.rest

        o : Outcome (Says group node_epochs r) (log_before group node_epochs r) (members r) w.exchange
        o =
            outcome group node_epochs members text facts disc r (views-all group node_epochs members text facts disc r.seq) s.heard w
            (heard-in group node_epochs members text facts disc p r here) (by-ring group node_epochs members text facts disc p r here w exch)

        keeps-base : IsListPrefix done base
        keeps-base =
            let keeps = keeps-all group node_epochs members text facts disc p s older there in
            let test = subst (λ (x : Option (CompleteExchange A)). keeps_committed own s.front done x ≡ true) exch keeps in
            front_begins done base (and_parts (is_known_on s.front done (wanted w.exchange)) (begins done base) test).1

        -- a node that restores nothing still has the first places
        stays-told : Told object k.from k.snapshot log
        stays-told =
            let view = view-of p here in
            let low : k.from ≤ length done = omega (arith, view.low, view.high, view.committed) in
            let within : IsListPrefix done log = prefix_trans done base log keeps-base (calls_in w.rest, refl) in
            let same : take k.from own ≡ take k.from log = take-front done own k.from (done-in p here) low ∙ sym (take-front done log k.from within low) in
            elim told as (λ _. Told object k.from k.snapshot log) [
              | inl none ↦ inl none
              | inr t ↦ inr (subst (IsSnapshotOf object k.snapshot) same t)
            ]

        -- a node that restores has the places of the owner, and the owner's snapshot of them
        restored-told : restores k o.w ≡ true → Told object o.w.from w.exchange.bytes log
        restored-told t =
            let n = snapped (nat_lt k.committed o.w.from) o.w.snapshot t in
            let q = o.w.owner in
            let at_q = o.says.0 in
            let view = view-of q at_q in
            let log_q = log_of group at_q.older in
            let k_q = known_log_of group at_q.older in
            let trimmed : k_q.trimmed ≡ o.w.from = view.trimmed ∙ sym (ap (λ (h : _). h.trimmed) o.says.1) ∙ (o.snapped n.0 n.1).1 in
            let size = prefix_length (committed_of group at_q.older) log_q (done-in q at_q) in
            let within : o.w.from ≤ length log_q = omega (arith, trimmed, view.high, view.committed, size) in
            let is : base ≡ log_q =
            adopted-base group node_epochs members text facts disc p r here w exch ∙ base-owner group node_epochs members text facts disc r w o in
            let first : take o.w.from log ≡ take o.w.from log_q =
            ap (λ l. take o.w.from (l ++ calls_in w.rest)) is ∙ take-append-le o.w.from log_q (calls_in w.rest) within in
            let heard = bytes-heard r s.heard w o.w n.0 (heard-in group node_epochs members text facts disc p r here)
            (by-ring group node_epochs members text facts disc p r here w exch) o.is n.1 in
            let calls = take o.w.from log_q in
            let bytes : w.exchange.bytes ≡ table_snapshot object.snapshot_of (table_after object calls) =
            heard.0 ∙ ap (λ l. snapshot_kept object (known_log_of group l)) (older-in (node_epochs q) r (facts.rises q) at_q)
            ∙ snapshot-told object k_q log_q (all q at_q) view.calls view.low
            ∙ ap (λ m. table_snapshot object.snapshot_of (table_after object (take m log_q))) trimmed in
            let short : length (table_snapshot object.snapshot_of (table_after object calls)) < 2 ^ 64 =
            few (length (table_snapshot object.snapshot_of (table_after object calls)))
            (subst (λ (l : List ℕ). length l ≤ max_snapshot) (sym heard.0 ∙ bytes) heard.1) in
            let kept : All KeepsLimits calls =
            all-of KeepsLimits calls (each-take KeepsLimits o.w.from log_q
            (logs-before KeepsLimits group node_epochs members text facts disc limits r.seq q at_q.older (epochs-behind (node_epochs q) r (facts.rises q) at_q))) in
            inr (subst (IsSnapshotOf object w.exchange.bytes) (sym first)
            (record { restored = ap (restored_table object.restored) bytes ∙ back calls kept short; bytes_are = bytes }))
          where
            few : (n : ℕ) → n ≤ max_snapshot → n < 2 ^ 64
            few n le = omega (arith, le)

        adopts-told : Told object (adopts k r w).from (adopts k r w).snapshot log
        adopts-told =
            let x = w.exchange in
            subst (λ (a : KnownLog A). Told object a.from a.snapshot log) (sym (ap (λ u. adopts_wanted k r u w) o.is))
            (cond_both (restores k o.w) (known_log_restored r o.w x.bytes x.received_calls) (known_log_joined k r o.w x.received_calls)
            (λ (a : KnownLog A). Told object a.from a.snapshot log) restored-told (λ f. stays-told))

      by-exchange : (x safe : Option (CompleteExchange A)) → complete_exchange group s.members s.heard ≡ x
          → Told object (known_log_after_epoch r (known_log_of group older) x safe).from (known_log_after_epoch r (known_log_of group older) x safe).snapshot (log_by own s.front x)
      by-exchange None safe e = told
      by-exchange (Some w) safe e = adopts-told w e

      told-more : IsTold (s ∷ older)
      told-more = by-exchange (complete_exchange group s.members s.heard) (complete_exchange group s.members (messages_upto s.mark s.heard)) refl

    -- Of all

    told-below : (bound p : ℕ) (epochs : List (Epoch A)) → IsLifeBelow (node_epochs p) epochs bound → IsTold epochs
    told-below bound p [] below = inl refl
    told-below zero p (s ∷ older) below = absurd (omega (arith, below.low s older (inl (refl, refl))))
    told-below (suc bound) p (s ∷ older) below =
        let low = below.low s older (inl (refl, refl)) in
        let le : s.ring.seq ≤ bound = omega (arith, low) in
        let before : IsLifeBelow (node_epochs p) older bound = record {
          rises = below.rises.1;
          there = λ t behind i. below.there t behind (inr i);
          low = λ t behind i. let less = top-above s older t behind below.rises i in omega (arith, less, le);
        } in
        told-more p s older (below.there s older (inl (refl, refl))) (told-below bound p older before)
        (λ q at. told-below bound q at.older
        (epochs-lower (node_epochs q) at.older s.ring.seq bound le (epochs-behind (node_epochs q) s.ring (facts.rises q) at)))

    pub told-at : (p : ℕ) → IsTold (node_epochs p)
    told-at p =
        let bound = number_above_rings (node_epochs p) in
        told-below bound p (node_epochs p)
        (record { rises = facts.rises p; there = λ s older i. i; low = below-above (node_epochs p) bound (facts.rises p) (omega arith) })
