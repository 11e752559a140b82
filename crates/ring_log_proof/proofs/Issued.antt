-- Each call of a log was handed over by some node in a Call, not only in a Part: a property of all calls handed over holds of all
-- calls of logs.

-- The proof is by induction on ring numbers: Parts have places of logs from before their ring, and so do snapshots.
use Rattle.std.proofs.Common.{◌≡◌, ℕ, zero, suc, ◌+◌, ◌-◌, ◌<◌, ◌≤◌, List, [], ◌∷◌, ◌++◌, length, take, drop, map, Option, Some, None}
use Rattle.std.proofs.Common.{inl, inr, refl, ap, sym, ◌∙◌, subst, arith}
use Rattle.std.specs.List.{AllByRecursion as Each}
use Rattle.std.proofs.lemmas.Bool.{cond_both}
use Rattle.ring_base.specs.Group.{Group}
use Rattle.ring_base.specs.Processors.{has, only, less}
use Rattle.ring_base.specs.declared.ring_id.RingId.{RingId}
use Rattle.ring_base.proofs.Each.{each-weaker, each-append, each-front, each-left, each-right, each-take, each-drop}
use Rattle.ring_payload.specs.declared.call.Call.{Call as OneCall}
use Rattle.ring_payload.specs.declared.calls.Part.{Part as OnePart}
use Rattle.ring_payload.specs.declared.head.Head.{Head as OneHead}
use Rattle.ring_payload.specs.declared.snap.Snap.{Snap as OneSnap}
use Rattle.ring_payload.specs.declared.content.Payload.{Payload}
use Rattle.ring_payload.specs.declared.content.Payload.TheVariants.{Call, Wrapped, End, Head, Part, Pack, Snap}
use Rattle.ring_payload.specs.PayloadKinds.{unpacked_payloads, calls_of}
use Rattle.ring_log.specs.Messages.{Message}
use Rattle.ring_log.specs.declared.wanted.Wanted.{Wanted}
use Rattle.ring_log.specs.Exchanges.{Exchange, exchange_opening, wanted, hear_head, is_next_piece, hear_snap, is_wanted, hear_part, heard}
use Rattle.ring_log.specs.Epochs.{Epoch, number_above_rings}
use Rattle.ring_log.specs.EpochHistories.{CompleteExchange, exchange_after_message, exchange_after_messages, complete_exchange, calls_in, places_below, base_on, own_base, log_by, log_of}
use Rattle.ring_log.specs.KnownLog.{KnownLog, known_log_of, known_log_head}
use Rattle.ring_log_proof.specs.RingFacts.{HasEpoch, EpochIn, payloads_from, RingFacts}
use Rattle.ring_log_proof.specs.EpochEvents.{IsKnownCall, SendsOnlyKnown}
use Rattle.ring_log_proof.specs.Discipline.{FollowsHead, KeepsRules}
use Rattle.ring_log_proof.proofs.CompleteExchanges.{complete_exchange-whole}
use Rattle.ring_log_proof.proofs.Epochs.{IsLifeBelow, epochs-behind, below-above}
use Rattle.ring_log_proof.proofs.Heads.{said-each, log_before, before-is, outcome}
use Rattle.ring_log_proof.proofs.SafeLogs.{by-ring, heard-in}
use Rattle.ring_log_proof.proofs.Moment.{views-all}

-- the calls that a payload holds
abbrev pub calls_held : {A : Type 0} → Payload A → List (OneCall A)
calls_held (Call call) = call ∷ []
calls_held (Part part) = part.calls
calls_held (Pack pack) = pack.calls
calls_held (Head head) = []
calls_held (Snap snap) = []
calls_held (Wrapped old) = []
calls_held End = []

module _ {A : Type 0} (Known : OneCall A → Type 0) where
  abbrev pub IsKnownLog : Message A → Type 0
  IsKnownLog x = Each Known (calls_held x.payload)

  packed_payloads-known : (calls : List (OneCall A)) → Each (λ (payload : Payload A). Each Known (calls_held payload)) (map (λ (c : OneCall A). Call c) calls)
      → Each Known calls
  packed_payloads-known [] h = tt
  packed_payloads-known (c ∷ calls) h = (h.0.0, packed_payloads-known calls h.1)

  unit-known : (payload : Payload A) → Each (λ (unit : Payload A). Each Known (calls_held unit)) (unpacked_payloads payload) → Each Known (calls_held payload)
  unit-known (Pack pack) h = packed_payloads-known pack.calls h
  unit-known (Call call) h = h.0
  unit-known (Part part) h = h.0
  unit-known (Head head) h = tt
  unit-known (Snap snap) h = tt
  unit-known (Wrapped old) h = tt
  unit-known End h = tt

  held-known : (payload : Payload A) → Each Known (calls_held payload) → Each Known (calls_of payload)
  held-known (Pack pack) h = h
  held-known (Call call) h = h
  held-known (Part part) h = tt
  held-known (Head head) h = tt
  held-known (Snap snap) h = tt
  held-known (Wrapped old) h = tt
  held-known End h = tt

  calls-known : (xs : List (Message A)) → Each IsKnownLog xs → Each Known (calls_in xs)
  calls-known [] h = tt
  calls-known (x ∷ xs) h = each-append Known (calls_of x.payload) (calls_in xs) (held-known x.payload h.0) (calls-known xs h.1)

  -- Exchanges

  head-known : (e : Exchange A) (p : ℕ) (head : OneHead) → Each Known e.received_calls → Each Known (hear_head e p head).received_calls
  head-known e p head h = cond_both (has e.missing_heads p)
      (record e { missing_heads = less e.missing_heads (only p); heads = e.heads ++ record { sender = p; head = head } ∷ [] }) e
      (λ (x : Exchange A). Each Known x.received_calls) (λ t. h) (λ f. h)

  part-known : (e : Exchange A) (p : ℕ) (part : OnePart A) → Each Known part.calls → Each Known e.received_calls → Each Known (hear_part e p part).received_calls
  part-known e p part k h =
      cond_both (is_wanted (wanted e) e.received_bytes e.total e.places p part) (record e { places = e.places + length part.calls; received_calls = e.received_calls ++ part.calls }) e
      (λ (x : Exchange A). Each Known x.received_calls)
      (λ t. each-append Known e.received_calls part.calls h k) (λ f. h)

  snap-known : (e : Exchange A) (p : ℕ) (snap : OneSnap A) → Each Known e.received_calls → Each Known (hear_snap e p snap).received_calls
  snap-known e p snap h =
      cond_both (is_next_piece (wanted e) e.received_bytes e.total p snap)
      (record e { received_bytes = e.received_bytes + length snap.bytes; total = snap.total; bytes = e.bytes ++ snap.bytes }) e
      (λ (x : Exchange A). Each Known x.received_calls) (λ t. h) (λ f. h)

  heard-known : (e : Exchange A) (p : ℕ) (payload : Payload A) → Each Known (calls_held payload) → Each Known e.received_calls → Each Known (heard e p payload).received_calls
  heard-known e p (Head head) k h = head-known e p head h
  heard-known e p (Part part) k h = part-known e p part k h
  heard-known e p (Call call) k h = h
  heard-known e p (Pack pack) k h = h
  heard-known e p (Snap snap) k h = snap-known e p snap h
  heard-known e p (Wrapped old) k h = h
  heard-known e p End k h = h

  all-known : (e : Exchange A) (xs : List (Message A)) → Each IsKnownLog xs → Each Known e.received_calls → Each Known (exchange_after_messages e xs).received_calls
  all-known e [] k h = h
  all-known e (x ∷ xs) k h = all-known (exchange_after_message e x) xs k.1 (heard-known e x.sender x.payload k.0 h)

  -- Logs

  below-known : (own front : List (OneCall A)) (from : ℕ) (o : Option ℕ) → ((at : ℕ) → o ≡ Some at → Each Known front) → Each Known own
      → Each Known (places_below own front from o)
  below-known own front from None k h = each-take Known from own h
  below-known own front from (Some at) k h = k at refl

  base-known : (own front : List (OneCall A)) (o : Option Wanted) (received_calls : List (OneCall A))
      → ((v : Wanted) (at : ℕ) → o ≡ Some v → v.snapshot ≡ Some at → Each Known front) → Each Known own → Each Known received_calls
      → Each Known (base_on own front o received_calls)
  base-known own front None received_calls f h k = h
  base-known own front (Some w) received_calls f h k =
      each-append Known (places_below own front w.from w.snapshot) received_calls (below-known own front w.from w.snapshot (λ at e. f w at refl e) h) k

  -- the places of the snapshot, if one is wanted
  abbrev pub IsFrontKnown : Group → Epoch A → Type 0
  IsFrontKnown group s = (w : CompleteExchange A) (v : Wanted) (at : ℕ) → complete_exchange group s.members s.heard ≡ Some w → wanted w.exchange ≡ Some v → v.snapshot ≡ Some at
      → Each Known s.front

  log-known : (group : Group) (m : ℕ) (xs : List (Message A)) (own front : List (OneCall A)) (o : Option (CompleteExchange A)) → complete_exchange group m xs ≡ o
      → ((w : CompleteExchange A) (v : Wanted) (at : ℕ) → o ≡ Some w → wanted w.exchange ≡ Some v → v.snapshot ≡ Some at → Each Known front)
      → Each IsKnownLog xs → Each Known own → Each Known (log_by own front o)
  log-known group m xs own front None e f k h = h
  log-known group m xs own front (Some w) e f k h =
      let by = complete_exchange-whole group m xs w e in
      let parts : Each IsKnownLog (by.front ++ w.rest) = subst (Each IsKnownLog) (sym by.parts) k in
      let received_calls : Each Known w.exchange.received_calls = subst (λ (x : Exchange A). Each Known x.received_calls) (sym by.after)
      (all-known (exchange_opening m) by.front (each-left IsKnownLog by.front w.rest parts) tt) in
      each-append Known (own_base own front w.exchange) (calls_in w.rest)
      (base-known own front (wanted w.exchange) w.exchange.received_calls (λ v at. f w v at refl) h received_calls)
      (calls-known w.rest (each-right IsKnownLog by.front w.rest parts))

  epochs-known : (group : Group) (epochs : List (Epoch A)) → ((s : Epoch A) (older : List (Epoch A)) → HasEpoch epochs s older → IsFrontKnown group s × Each IsKnownLog s.heard)
      → Each Known (log_of group epochs)
  epochs-known group [] k = tt
  epochs-known group (s ∷ older) k =
      let here = k s older (inl (refl, refl)) in
      log-known group s.members s.heard (log_of group older) s.front (complete_exchange group s.members s.heard) refl here.0 here.1
      (epochs-known group older (λ t before i. k t before (inr i)))

  -- Rings

  module _ (group : Group) (node_epochs : ℕ → List (Epoch A)) (members : RingId → ℕ) (text : RingId → List (Message A)) (facts : RingFacts node_epochs members text) where
    -- the payloads handed over in rings below a number
    abbrev pub HandsBelow : ℕ → Type 0
    HandsBelow bound = (p : ℕ) (s : Epoch A) (older : List (Epoch A)) → HasEpoch (node_epochs p) s older → s.ring.seq < bound
        → Each (λ (payload : Payload A). Each Known (calls_held payload)) s.sent

    said-known : (bound : ℕ) → HandsBelow bound → (r : RingId) → r.seq < bound → (q : ℕ)
        → Each (λ (payload : Payload A). Each Known (calls_held payload)) (payloads_from q (text r))
    said-known bound epochs_with_sends r low q =
        let P : Payload A → Type 0 = λ payload. Each Known (calls_held payload) in
        elim (facts.said q r) as (λ _. Each P (payloads_from q (text r))) [
          | inl none ↦ subst (Each P) (sym none) tt
          | inr at ↦
              let seqs = ap (λ (k : RingId). k.seq) at.0.ring in
              each-front P (payloads_from q (text r)) at.0.epoch.sent at.1 (epochs_with_sends q at.0.epoch at.0.older at.0.there (omega (arith, low, seqs)))
        ]

    text-known : (bound : ℕ) → HandsBelow bound → (r : RingId) → r.seq < bound → Each IsKnownLog (text r)
    text-known bound epochs_with_sends r low =
        each-weaker _ _ (λ (x : Message A) h. unit-known x.payload h) (text r)
        (said-each (λ q payload. Each Known (calls_held payload)) (text r) (said-known bound epochs_with_sends r low))

    -- all logs of rings below a number
    abbrev pub LogsAt : ℕ → Type 0
    LogsAt bound = (q : ℕ) (epochs : List (Epoch A)) → IsLifeBelow (node_epochs q) epochs bound → Each Known (log_of group epochs)

    -- the same of the snapshots sent in such rings
    front-known : (disc : KeepsRules group node_epochs) → (p : ℕ) (s : Epoch A) (older : List (Epoch A)) → HasEpoch (node_epochs p) s older → LogsAt s.ring.seq → IsFrontKnown group s
    front-known disc p s older there logs w v at exch wants snap =
        let r = s.ring in
        let in_r : EpochIn (node_epochs p) r = record { epoch = s; older = older; there = there; ring = refl } in
        let o = outcome group node_epochs members text facts disc r (views-all group node_epochs members text facts disc r.seq) s.heard w (heard-in group node_epochs members text facts disc p r in_r)
        (by-ring group node_epochs members text facts disc p r in_r w exch) in
        let same : o.w ≡ v = let e : Some o.w ≡ Some v = sym o.is ∙ wants in cc e in
        let at_q = o.says.0 in
        let is : s.front ≡ take at (log_of group at_q.older) =
        disc.fronts p s older w v at there exch wants snap ∙ ap (λ (u : Wanted). take at (log_before group node_epochs r u.owner)) (sym same)
        ∙ ap (take at) (before-is group node_epochs members text facts disc r o.w.owner at_q) in
        subst (Each Known) (sym is)
        (each-take Known at (log_of group at_q.older) (logs o.w.owner at_q.older (epochs-behind (node_epochs o.w.owner) r (facts.rises o.w.owner) at_q)))

    -- a log of such rings
    rings-known : (disc : KeepsRules group node_epochs) → (bound : ℕ) → HandsBelow bound → ((low : ℕ) → low < bound → LogsAt low) → LogsAt bound
    rings-known disc bound epochs_with_sends logs p epochs below =
        epochs-known group epochs (λ s older i.
        let there = below.there s older i in
        let low = below.low s older i in (
          front-known disc p s older there (logs s.ring.seq low),
          each-front IsKnownLog s.heard (text s.ring) (facts.heard p s older there) (text-known bound epochs_with_sends s.ring low),
        ))

    follows-known : (k : KnownLog A) (payloads : List (Payload A)) → Each Known k.calls → Each (FollowsHead k) payloads →
        Each (IsKnownCall Known) payloads
        → Each (λ (payload : Payload A). Each Known (calls_held payload)) payloads
    follows-known k [] h f calls = tt
    follows-known k (payload ∷ payloads) h f calls = (one payload f.0 calls.0, follows-known k payloads h f.1 calls.1)
      where
        one : (x : Payload A) → FollowsHead k x → IsKnownCall Known x → Each Known (calls_held x)
        one (Part part) f c = each-front Known part.calls (drop (part.first - k.from) k.calls) f.1 (each-drop Known (part.first - k.from) k.calls h)
        one (Call call) f c = (c, tt)
        one (Head head) f c = tt
        one (Pack pack) f c = absurd f
        one (Snap snap) f c = tt
        one (Wrapped old) f c = tt
        one End f c = tt

    -- both claims by induction on ring numbers
    record Below (bound : ℕ) : Type 0 where
      epochs_with_sends : HandsBelow bound
      logs : (low : ℕ) → low ≤ bound → LogsAt low

    epochs_with_sends-lower : (low high : ℕ) → low ≤ high → HandsBelow high → HandsBelow low
    epochs_with_sends-lower low high le epochs_with_sends p s older there less = epochs_with_sends p s older there (omega (arith, le, less))

    all-below : (disc : KeepsRules group node_epochs) → SendsOnlyKnown Known node_epochs → (bound : ℕ) → Below bound
    all-below disc calls zero =
        let none : HandsBelow zero = λ p s older there low. absurd (omega (arith, low)) in
        record {
          epochs_with_sends = none;
          logs = λ low le. rings-known disc low (epochs_with_sends-lower low zero le none) (λ least less. absurd (omega (arith, le, less)));
        }
    all-below disc calls (suc bound) =
        let before = all-below disc calls bound in
        let epochs_with_sends : HandsBelow (suc bound) = λ p s older there low. handed calls p s older there
        (before.logs s.ring.seq (omega (arith, low)) p older (epochs-behind (node_epochs p) s.ring (facts.rises p)
        (record { epoch = s; older = older; there = there; ring = refl }))) in
        record {
          epochs_with_sends = epochs_with_sends;
          logs = λ low le. rings-known disc low (epochs_with_sends-lower low (suc bound) le epochs_with_sends) (λ least less. before.logs least (omega (arith, le, less)));
        }
      where
        handed : SendsOnlyKnown Known node_epochs → (p : ℕ) (s : Epoch A) (older : List (Epoch A)) → HasEpoch (node_epochs p) s older → Each Known (log_of group older)
            → Each (λ (payload : Payload A). Each Known (calls_held payload)) s.sent
        handed calls p s older there log =
            let P : Payload A → Type 0 = λ payload. Each Known (calls_held payload) in
            elim (disc.epochs_with_sends p s older there) as (λ _. Each P s.sent) [
              | inl silent ↦ subst (Each P) (sym silent) tt
              | inr opens ↦
                  let k = known_log_of group older in
                  let known : Each (IsKnownCall Known) (Head (known_log_head k) ∷ opens.rest) = subst (Each (IsKnownCall Known)) opens.opens (calls p s older there) in
                  let at : EpochIn (node_epochs p) s.ring = record { epoch = s; older = older; there = there; ring = refl } in
                  let view = views-all group node_epochs members text facts disc s.ring.seq p older (epochs-behind (node_epochs p) s.ring (facts.rises p) at) in
                  let rest : Each Known k.calls = subst (Each Known) (sym view.calls) (each-drop Known k.from (log_of group older) log) in
                  subst (Each P) (sym opens.opens) (tt, follows-known k opens.rest rest opens.follows known.1)
            ]

    pub logs-before : KeepsRules group node_epochs → SendsOnlyKnown Known node_epochs → (bound p : ℕ) (epochs : List (Epoch A)) → IsLifeBelow (node_epochs p) epochs bound
        → Each Known (log_of group epochs)
    logs-before disc calls bound p epochs below = (all-below disc calls bound).logs bound (omega arith) p epochs below

    pub logs-known : KeepsRules group node_epochs → SendsOnlyKnown Known node_epochs → (p : ℕ) → Each Known (log_of group (node_epochs p))
    logs-known disc calls p =
        let bound = number_above_rings (node_epochs p) in
        (all-below disc calls bound).logs bound (omega arith) p (node_epochs p)
        (record { rises = facts.rises p; there = λ s older i. i; low = below-above (node_epochs p) bound (facts.rises p) (omega arith) })
