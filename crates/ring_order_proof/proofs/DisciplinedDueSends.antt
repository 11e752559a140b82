-- The payloads due at a core's outputs are pieces of a snapshot, Parts of the log that the node had before the ring, and calls.
-- They are due only in a primary ring that runs.
use Rattle.std.proofs.Common.{◌≡◌, ℕ, zero, suc, ◌+◌, ◌*◌, ◌-◌, ◌≤◌, true, false, ◌==◌, ◌⊎◌, inl, inr, List, [], ◌∷◌, ◌++◌, map, take}
use Rattle.std.proofs.Common.{length, drop, Option, Some, None, refl, ap, sym, ◌∙◌, subst, arith}
use Rattle.std.specs.Prelude.{◌&&◌, nat_le, nat_lt, not}
use Rattle.std.specs.List.{AllByRecursion as Each}
use Rattle.std.proofs.lemmas.Bool.{cond_both, and_parts, not-true, leb-true, eqb-true, eq-eqb}
use Rattle.ring_base.specs.Prefixes.{IsListPrefix, prefix_trans}
use Rattle.ring_base.specs.Group.{Group, is_primary}
use Rattle.ring_base.specs.Processors.{nobody}
use Rattle.ring_base.specs.declared.ring_id.RingId.{RingId}
use Rattle.ring_base.proofs.Each.{each-append, each-map, each-weaker}
use Rattle.ring_base.proofs.ListFronts.{taken-front, drop-more}
use Rattle.ring_object.specs.Operations.{Sequential}
use Rattle.ring_payload.specs.Limits.{max_snapshot}
use Rattle.ring_payload.specs.declared.call.Call.{Call as OneCall}
use Rattle.ring_payload.specs.declared.calls.Part.{Part as OnePart}
use Rattle.ring_payload.specs.declared.head.Head.{Head as OneHead}
use Rattle.ring_payload.specs.declared.content.Payload.{Payload}
use Rattle.ring_payload.specs.declared.content.Payload.TheVariants.{Call, Wrapped, End, Head, Part, Pack, Snap}
use Rattle.ring_wire.specs.declared.message.Message.{Message}
use Rattle.ring_core_spec.specs.State.{Core}
use Rattle.ring_log.specs.declared.received_head.ReceivedHead.{ReceivedHead}
use Rattle.ring_log.specs.declared.wanted.Wanted.{Wanted}
use Rattle.ring_log.specs.Heads.{chosen_head, least_committed}
use Rattle.ring_log.specs.Exchanges.{Exchange, exchange_opening, wanted_from_owner, wanted_from_heads, wanted}
use Rattle.ring_log.specs.KnownLog.{KnownLog, restores, known_log_restored, known_log_joined, adopts, adopts_wanted, known_log_after_epoch, dropped_by, known_log_of, retained_log}
use Rattle.ring_log.specs.Parts.{nth_part, parts_between}
use Rattle.ring_log.specs.Epochs.{Epoch}
use Rattle.ring_log.specs.EpochHistories.{CompleteExchange, complete_exchange, messages_upto, exchange_after_messages}
use Rattle.ring_log.proofs.WholeExchanges.{received_head, some-whole}
use Rattle.ring_log_proof.proofs.CompleteExchanges.{complete_exchange-from}
use Rattle.ring_session.specs.Tickets.{TicketCall}
use Rattle.ring_node_spec.specs.Nodes.{Node, node_known_log, node_pending, snapshot_kept, is_core_running_in}
use Rattle.ring_node_spec.specs.DueSends.{has_all_heads, parts_due, snaps_due, is_snapshot_kept, places_due, owner_due, calls_due, uncommitted_places}
use Rattle.ring_node_spec.specs.DueSends.{node_context, due_when_complete, owner_due_on_heads, due_between, due_in_epoch, due_at_agreed}
use Rattle.ring_log_proof.specs.Discipline.{FollowsHead}

-- The known log of a node

-- the first known place is at most the trimmed length
adopts_low : {A : Type 0} (k : KnownLog A) (ring : RingId) (w : CompleteExchange A) → k.from ≤ k.trimmed → (adopts k ring w).from ≤ (adopts k ring w).trimmed
adopts_low {A} k ring w low = by (wanted w.exchange)
  where
    by : (o : Option Wanted) → (adopts_wanted k ring o w).from ≤ (adopts_wanted k ring o w).trimmed
    by None = low
    by (Some v) =
        cond_both (restores k v) (known_log_restored ring v w.exchange.bytes w.exchange.received_calls) (known_log_joined k ring v w.exchange.received_calls)
        (λ (x : KnownLog A). x.from ≤ x.trimmed) (λ t. omega arith) (λ f. low)

by_low : {A : Type 0} (places : ℕ) (k : KnownLog A) (ring : RingId) (o p : Option (CompleteExchange A)) → k.from ≤ k.trimmed
    → (dropped_by places (known_log_after_epoch ring k o p)).from ≤ (dropped_by places (known_log_after_epoch ring k o p)).trimmed
by_low places k ring None p low = omega (arith, low)
by_low places k ring (Some w) p low = let l = adopts_low k ring w low in omega (arith, l)

pub kept_low : {A : Type 0} (group : Group) (epochs : List (Epoch A)) → (known_log_of group epochs).from ≤ (known_log_of group epochs).trimmed
kept_low group [] = omega arith
kept_low group (s ∷ older) =
    by_low s.trimmed (known_log_of group older) s.ring (complete_exchange group s.members s.heard) (complete_exchange group s.members (messages_upto s.mark s.heard)) (kept_low group older)

-- before every member's Head was received no exchange is complete, and the known log is the one from before the ring

pub unstated_none : {A : Type 0} (group : Group) (members : ℕ) (heard : List (Message A)) → has_all_heads (exchange_after_messages (exchange_opening members) heard) ≡ false
    → complete_exchange group members heard ≡ None
unstated_none {A} group members heard f = by (complete_exchange group members heard) refl
  where
    by : (o : Option (CompleteExchange A)) → complete_exchange group members heard ≡ o → complete_exchange group members heard ≡ None
    by None e = e
    by (Some w) e =
        let all = received_head (exchange_after_messages (exchange_opening members) heard) (some-whole (exchange_opening members) heard w (complete_exchange-from group members heard w e)) in
        absurd (let x : true ≡ false = sym (eq-eqb (exchange_after_messages (exchange_opening members) heard).missing_heads nobody all) ∙ f in cc x)

pub still_known : {A : Type 0} (group : Group) (s : Epoch A) (older : List (Epoch A)) → has_all_heads (exchange_after_messages (exchange_opening s.members) s.heard) ≡ false
    → known_log_of group (s ∷ older) ≡ dropped_by s.trimmed (known_log_of group older)
still_known group s older f =
    ap (λ o. dropped_by s.trimmed (known_log_after_epoch s.ring (known_log_of group older) o (complete_exchange group s.members (messages_upto s.mark s.heard))))
    (unstated_none group s.members s.heard f)

follows_undropped : {A : Type 0} (places : ℕ) (k : KnownLog A) (p : Payload A) → FollowsHead (dropped_by places k) p → FollowsHead k p
follows_undropped places k (Part part) h = h
follows_undropped places k (Call call) h = h
follows_undropped places k (Head head) h = h
follows_undropped places k (Pack pack) h = h
follows_undropped places k (Snap snap) h = h
follows_undropped places k (Wrapped old) h = h
follows_undropped places k End h = h

-- A wanted snapshot stands for the places below the wanted ones

of_head : (owner least : ℕ) (head : OneHead) (at : ℕ) → (wanted_from_owner owner head least).snapshot ≡ Some at → at ≡ (wanted_from_owner owner head least).from
of_head owner least head at =
    cond_both (nat_lt least head.trimmed) (record { owner = owner; snapshot = Some head.trimmed; from = head.trimmed; to = head.length })
    (record { owner = owner; snapshot = None; from = least; to = head.length }) (λ (w : Wanted). w.snapshot ≡ Some at → at ≡ w.from)
    (λ t e. let same : head.trimmed ≡ at = cc e in sym same) (λ f e. absurd (cc e))

of_heads : (heads : List ReceivedHead) (w : Wanted) (at : ℕ) → wanted_from_heads heads ≡ Some w → w.snapshot ≡ Some at → at ≡ w.from
of_heads [] w at e snap = absurd (cc e)
of_heads (s ∷ rest) w at e snap =
    let chosen = chosen_head s rest in
    let least = least_committed s.head.committed rest in
    let same : wanted_from_owner chosen.sender chosen.head least ≡ w = cc e in
    subst (λ (v : Wanted). v.snapshot ≡ Some at → at ≡ v.from) same (of_head chosen.sender least chosen.head at) snap

pub snapshot_from : {A : Type 0} (e : Exchange A) (w : Wanted) (at : ℕ) → wanted e ≡ Some w → w.snapshot ≡ Some at → at ≡ w.from
snapshot_from e w at =
    cond_both (e.missing_heads == nobody) (wanted_from_heads e.heads) None (λ o. o ≡ Some w → w.snapshot ≡ Some at → at ≡ w.from)
    (λ t wants. of_heads e.heads w at wants) (λ f wants. absurd (cc wants))

-- Parts

front_drop : {X : Type 0} (n : ℕ) (xs ys : List X) → IsListPrefix xs ys → IsListPrefix (drop n xs) (drop n ys)
front_drop zero xs ys f = f
front_drop (suc n) [] ys f = (drop (suc n) ys, refl)
front_drop (suc n) (x ∷ xs) [] f = absurd (cc (f.1))
front_drop (suc n) (x ∷ xs) (y ∷ ys) f = front_drop n xs ys (f.0, cc (f.1))

pub any_each : {X Y : Type 0} (P : Y → Type 0) (f : X → Y) (xs : List X) → ((x : X) → P (f x)) → Each P (map f xs)
any_each P f [] h = tt
any_each P f (x ∷ xs) h = (h x, any_each P f xs h)

-- the places of the kept log after some place are those of the known log
behind_known : {A : Type 0} (k : KnownLog A) (from : ℕ) → k.from ≤ k.trimmed → k.trimmed ≤ from
    → drop (from - k.trimmed) (retained_log k).calls ≡ drop (from - k.from) k.calls
behind_known k from low high =
    drop-more (k.trimmed - k.from) (from - k.trimmed) k.calls ∙ ap (λ n. drop n k.calls) (omega (arith, low, high))

part_follows : {A : Type 0} → (k : KnownLog A) (from to : ℕ) → k.from ≤ k.trimmed → k.trimmed ≤ from → (n : ℕ)
    → FollowsHead k (Part (nth_part from (take (to - from) (drop (from - k.trimmed) (retained_log k).calls)) n))
part_follows k from to low high n =
    let rest = drop (from - k.trimmed) (retained_log k).calls in
    let places = take (to - from) rest in
    let some : IsListPrefix places rest = taken-front (to - from) rest in
    let later : IsListPrefix (drop (7 * n) places) (drop (7 * n) rest) = front_drop (7 * n) places rest some in
    let first : IsListPrefix (take 7 (drop (7 * n) places)) (drop (7 * n) places) = taken-front 7 (drop (7 * n) places) in
    let is : drop (7 * n) rest ≡ drop ((from + 7 * n) - k.from) k.calls =
    ap (drop (7 * n)) (behind_known k from low high) ∙ drop-more (from - k.from) (7 * n) k.calls
    ∙ ap (λ m. drop m k.calls) (omega (arith, low, high)) in
    (omega (arith, low, high), subst (λ calls. IsListPrefix (take 7 (drop (7 * n) places)) calls) is (prefix_trans _ _ _ first later))

parts_follow : {A : Type 0} → (k : KnownLog A) (w : Wanted) → k.from ≤ k.trimmed → k.trimmed ≤ w.from → Each (FollowsHead k) (parts_due (retained_log k) w)
parts_follow {A} k w low high =
    each-map (FollowsHead k) (λ (p : OnePart A). Part p) (parts_between (retained_log k).trimmed (retained_log k).calls w.from w.to)
    (any_each (λ (p : OnePart A). FollowsHead k (Part p)) _ _ (part_follows k w.from w.to low high))

-- a snapshot and Parts

places_follow : {A : Type 0} → (k : KnownLog A) (bytes : List ℕ) (w : Wanted) → k.from ≤ k.trimmed → (o : Option ℕ) → ((at : ℕ) → o ≡ Some at → at ≡ w.from)
    → Each (FollowsHead k) (places_due bytes (retained_log k) w o)
places_follow {A} k bytes w low None same =
    cond_both (nat_le k.trimmed w.from) (parts_due (retained_log k) w) [] (Each (FollowsHead k))
    (λ t. parts_follow k w low (leb-true k.trimmed w.from t)) (λ f. tt)
places_follow {A} k bytes w low (Some at) same =
    cond_both (is_snapshot_kept bytes (retained_log k) at) (snaps_due at bytes ++ parts_due (retained_log k) w) [] (Each (FollowsHead k))
    (λ t.
    let here : k.trimmed ≡ at = eqb-true k.trimmed at (and_parts (k.trimmed == at) (nat_le (length bytes) max_snapshot) t).0 in
    let from = same at refl in
    each-append (FollowsHead k) (snaps_due at bytes) (parts_due (retained_log k) w) (any_each (FollowsHead k) _ _ (λ snap. tt))
    (parts_follow k w low (omega (arith, here, from))))
    (λ f. tt)

owner_follows : {A : Type 0} → (me : ℕ) (bytes : List ℕ) (k : KnownLog A) (e : Exchange A) → k.from ≤ k.trimmed
    → Each (FollowsHead k) (owner_due me bytes (retained_log k) (wanted e))
owner_follows {A} me bytes k e low = by (wanted e) refl
  where
    by : (o : Option Wanted) → wanted e ≡ o → Each (FollowsHead k) (owner_due me bytes (retained_log k) o)
    by None wants = tt
    by (Some w) wants =
        cond_both (w.owner == me) (places_due bytes (retained_log k) w w.snapshot) [] (Each (FollowsHead k))
        (λ t. places_follow k bytes w low w.snapshot (λ at snap. snapshot_from e w at wants snap)) (λ f. tt)

-- Due payloads: they may follow a Head, and there are some only if a condition holds

pub record IsDue {A : Type 0} (P : Type 0) (own : KnownLog A) (due : List (Payload A)) : Type 0 where
  pub follows : Each (FollowsHead own) due
  pub needs : (due ≡ []) ⊎ P

pub none_due : {A : Type 0} → (P : Type 0) (own : KnownLog A) → IsDue P own []
none_due P own = record { follows = tt; needs = inl refl }

either_due : {A : Type 0} → (P : Type 0) (xs ys : List (Payload A)) → (xs ≡ []) ⊎ P → (ys ≡ []) ⊎ P → (xs ++ ys ≡ []) ⊎ P
either_due P xs ys (inr p) h = inr p
either_due P xs ys (inl e) (inr p) = inr p
either_due P xs ys (inl e) (inl f) = inl (ap (λ zs. zs ++ ys) e ∙ f)

pub both_due : {A : Type 0} → (P : Type 0) (own : KnownLog A) (xs ys : List (Payload A)) → IsDue P own xs → IsDue P own ys → IsDue P own (xs ++ ys)
both_due P own xs ys h k =
    record { follows = each-append (FollowsHead own) xs ys h.follows k.follows; needs = either_due P xs ys h.needs k.needs }

calls_follow : {A : Type 0} → (own : KnownLog A) (calls : List (OneCall A)) (pending : List (TicketCall A)) → Each (FollowsHead own) (calls_due pending calls)
calls_follow own calls pending = any_each (FollowsHead own) _ _ (λ t. tt)

-- the ring runs and is primary
pub record RunsPrimary {A : Type 0} (group : Group) (core : Core A) (ring : RingId) (members : ℕ) : Type 0 where
  pub runs_here : is_core_running_in core ring ≡ true
  pub primary : is_primary group members ≡ true

module _ {O A : Type 0} (object : Sequential O) where
  whole_follows : (own : KnownLog A) (n : Node A) (core : Core A) (epochs : List (Epoch A)) (old new : Exchange A)
      → Each (FollowsHead own) (due_when_complete (node_context object n core) epochs old new)
  whole_follows own n core epochs old new =
      let places = uncommitted_places (node_known_log n).committed (retained_log (known_log_of n.group epochs)) in
      cond_both _ (calls_due (node_pending n) places) [] (Each (FollowsHead own)) (λ e. calls_follow own places (node_pending n)) (λ e. tt)

  stated_follows : (n : Node A) (core : Core A) (s : Epoch A) (older : List (Epoch A)) (new : Exchange A)
      → Each (FollowsHead (known_log_of n.group older)) (owner_due_on_heads (node_context object n core) (known_log_of n.group (s ∷ older)) (exchange_after_messages (exchange_opening s.members) s.heard) new)
  stated_follows n core s older new =
      let old = exchange_after_messages (exchange_opening s.members) s.heard in
      let k = known_log_of n.group (s ∷ older) in
      let before = known_log_of n.group older in
      let due = owner_due n.core.me (snapshot_kept object k) (retained_log k) (wanted new) in
      cond_both (has_all_heads new && not (has_all_heads old)) due [] (Each (FollowsHead before))
      (λ t.
      let unsaid_is : has_all_heads old ≡ false = not-true (has_all_heads old) (and_parts (has_all_heads new) (not (has_all_heads old)) t).1 in
      let here : Each (FollowsHead k) due = owner_follows n.core.me (snapshot_kept object k) k new (kept_low n.group (s ∷ older)) in
      each-weaker (FollowsHead (dropped_by s.trimmed before)) (FollowsHead before) (follows_undropped s.trimmed before) due
      (subst (λ (x : KnownLog A). Each (FollowsHead x) due) (still_known n.group s older unsaid_is) here))
      (λ f. tt)

  pub agreed_due : (n : Node A) (core : Core A) (ring : RingId) (s : Epoch A) (older : List (Epoch A)) (x : Message A) (epochs : List (Epoch A)) →
      IsDue (RunsPrimary n.group core ring s.members) (known_log_of n.group older) (due_at_agreed object n core ring (s ∷ older) x epochs)
  agreed_due n core ring s older x epochs =
      let P = RunsPrimary n.group core ring s.members in
      let own = known_log_of n.group older in
      let old = exchange_after_messages (exchange_opening s.members) s.heard in
      let new = exchange_after_messages (exchange_opening s.members) (s.heard ++ x ∷ []) in
      let c = node_context object n core in
      let told = owner_due_on_heads c (known_log_of n.group (s ∷ older)) old new in
      cond_both (is_core_running_in core ring) (due_in_epoch c s (s ∷ older) x epochs) [] (IsDue P own)
      (λ r. cond_both (is_primary n.group s.members) (due_between c (s ∷ older) epochs old new) [] (IsDue P own)
      (λ p. record {
        follows = each-append (FollowsHead own) told (due_when_complete c epochs old new) (stated_follows n core s older new) (whole_follows own n core epochs old new);
        needs = inr (record { runs_here = r; primary = p });
      })
      (λ p. none_due P own))
      (λ r. none_due P own)
