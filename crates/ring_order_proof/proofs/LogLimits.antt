-- What was received keeps the limits, and so do each call of the known log, the Head and the Parts of this log, and the pieces of
-- a snapshot.
use Rattle.std.proofs.Common.{◌≡◌, ℕ, zero, suc, ◌+◌, ◌-◌, ◌*◌, ◌/◌, ◌<◌, ◌≤◌, true, ◌==◌, List, [], ◌∷◌, ◌++◌, length}
use Rattle.std.specs.Prelude.{nat_lt, ◌&&◌}
use Rattle.std.proofs.Common.{take, drop, Option, Some, None, inl, inr, refl, ap, sym, subst, arith, length-take, length-drop}
use Rattle.std.specs.List.{AllByRecursion as Each}
use Rattle.std.proofs.lemmas.Bool.{cond_both, and_parts, leb-true, ltb-true}
use Rattle.ring_base.specs.Group.{Group, is_primary}
use Rattle.ring_base.specs.Numbers.{max_number, numbers_from}
use Rattle.ring_base.specs.Processors.{has, nobody, only, less}
use Rattle.ring_base.specs.declared.ring_id.RingId.{RingId}
use Rattle.ring_base.proofs.Each.{each-weaker, each-append, each-push, each-map, each-left, each-right, each-take, each-drop}
use Rattle.ring_wire.specs.Rings.{RingFits, SomeRingFits}
use Rattle.ring_payload.specs.Calls.{CallFits}
use Rattle.ring_payload.specs.Heads.{HeadFits}
use Rattle.ring_payload.specs.PayloadKinds.{calls_of}
use Rattle.ring_payload.specs.Limits.{max_snapshot}
use Rattle.ring_payload.specs.Parts.{PartFits}
use Rattle.ring_payload.specs.Payloads.{PayloadFits}
use Rattle.ring_payload.specs.Snaps.{SnapFits}
use Rattle.ring_payload.specs.declared.call.Call.{Call as OneCall}
use Rattle.ring_payload.specs.declared.head.Head.{Head as OneHead}
use Rattle.ring_payload.specs.declared.content.Payload.{Payload}
use Rattle.ring_payload.specs.declared.content.Payload.TheVariants.{Call, Wrapped, End, Head, Part, Pack, Snap}
use Rattle.ring_wire.specs.declared.message.Message.{Message}
use Rattle.ring_log.specs.declared.received_head.ReceivedHead.{ReceivedHead}
use Rattle.ring_log.specs.declared.wanted.Wanted.{Wanted}
use Rattle.ring_log.specs.Exchanges.{Exchange, exchange_opening, wanted_from_owner, wanted_from_heads, wanted, is_next_piece, is_wanted, heard}
use Rattle.ring_log.specs.Heads.{chosen_head, least_committed}
use Rattle.ring_log.specs.KnownLog.{KnownLog, IsKnownLog, known_log_length, restores, known_log_restored, first_joined, known_log_joined, known_log_adopted, adopts_wanted, adopts}
use Rattle.ring_log.specs.KnownLog.{followed_by, known_log_after_epoch, dropped_by, known_log_of, known_log_head, keeps_kept, is_known_log_sound}
use Rattle.ring_log.specs.EpochHistories.{CompleteExchange, complete_exchange_from, exchange_after_messages, complete_exchange, calls_in, messages_upto}
use Rattle.ring_log.specs.Logs.{is_log_length}
use Rattle.ring_log.specs.Parts.{nth_part, parts_between, nth_piece, pieces_of}
use Rattle.ring_log.specs.Epochs.{Epoch}
use Rattle.ring_log_proof.specs.Discipline.{DropsOnlyCommitted}
use Rattle.ring_log_proof.proofs.ChosenHead.{chosen-is}
use Rattle.ring_log_proof.proofs.KnownLogs.{known-epoch}
use Rattle.ring_log_proof.proofs.Views.{wants}
use Rattle.ring_log_proof.proofs.CompleteExchanges.{complete_exchange-whole}
use Rattle.ring_order_proof.specs.NodeFits.{HeardFits, EpochFits}

-- Epochs

heard_payloads : {A : Type 0} → (n : ℕ) (xs : List (Message A)) → Each (HeardFits n) xs → Each (λ (x : Message A). PayloadFits x.payload) xs
heard_payloads {A} n xs h = each-weaker (HeardFits n) (λ (x : Message A). PayloadFits x.payload) (λ x f. f.message.payload) xs h

-- An exchange, by what was received

pub record ExchangeFits {A : Type 0} (e : Exchange A) : Type 0 where
  pub heads : Each (λ (s : ReceivedHead). HeadFits s.head) e.heads
  pub received_calls : Each CallFits e.received_calls

heard_fits : {A : Type 0} → (e : Exchange A) (sender : ℕ) (p : Payload A) → PayloadFits p → ExchangeFits e → ExchangeFits (heard e sender p)
heard_fits e sender (Head head) h f =
    cond_both (has e.missing_heads sender)
    (record e { missing_heads = less e.missing_heads (only sender); heads = e.heads ++ record { sender = sender; head = head } ∷ [] }) e ExchangeFits
    (λ t. record { heads = each-push (λ (s : ReceivedHead). HeadFits s.head) e.heads (record { sender = sender; head = head }) f.heads h; received_calls = f.received_calls })
    (λ t. f)
heard_fits e sender (Part part) h f =
    cond_both (is_wanted (wanted e) e.received_bytes e.total e.places sender part)
    (record e { places = e.places + length part.calls; received_calls = e.received_calls ++ part.calls }) e ExchangeFits
    (λ t. record { heads = f.heads; received_calls = each-append CallFits e.received_calls part.calls f.received_calls h.each })
    (λ t. f)
heard_fits e sender (Call call) h f = f
heard_fits e sender (Wrapped old) h f = f
heard_fits e sender End h f = f
heard_fits e sender (Pack pack) h f = f
heard_fits e sender (Snap snap) h f =
    cond_both (is_next_piece (wanted e) e.received_bytes e.total sender snap)
    (record e { received_bytes = e.received_bytes + length snap.bytes; total = snap.total; bytes = e.bytes ++ snap.bytes }) e ExchangeFits
    (λ t. record { heads = f.heads; received_calls = f.received_calls })
    (λ t. f)

after_fits : {A : Type 0} → (e : Exchange A) (xs : List (Message A)) → Each (λ (x : Message A). PayloadFits x.payload) xs → ExchangeFits e →
    ExchangeFits (exchange_after_messages e xs)
after_fits e [] h f = f
after_fits e (x ∷ xs) h f = after_fits (heard e x.sender x.payload) xs h.1 (heard_fits e x.sender x.payload h.0 f)

pub stay_exchange : {A : Type 0} → (m n : ℕ) (xs : List (Message A)) → Each (HeardFits n) xs → ExchangeFits (exchange_after_messages (exchange_opening m) xs)
stay_exchange m n xs h = after_fits (exchange_opening m) xs (heard_payloads n xs h) (record { heads = tt; received_calls = tt })

-- the wanted places end where the owner's Head says; a wanted snapshot stands for at least one place, as its Head says too
abbrev pub PlacesFit : Option ℕ → Type 0
PlacesFit None = Unit {0}
PlacesFit (Some at) = (1 ≤ at) × (at ≤ max_number)

abbrev pub WantedFits : Option Wanted → Type 0
WantedFits None = Unit {0}
WantedFits (Some w) = (w.to ≤ max_number) × PlacesFit w.snapshot

wanted_of_fits : (owner least : ℕ) (h : OneHead) → HeadFits h → WantedFits (Some (wanted_from_owner owner h least))
wanted_of_fits owner least h f =
    cond_both (nat_lt least h.trimmed) (record { owner = owner; snapshot = Some h.trimmed; from = h.trimmed; to = h.length })
    (record { owner = owner; snapshot = None; from = least; to = h.length }) (λ (w : Wanted). WantedFits (Some w))
    (λ t. (f.length, (let some = ltb-true least h.trimmed t in omega (arith, some), omega (arith, f.trimmed, f.committed, f.length))))
    (λ t. (f.length, tt))

wanted_by_fits : (heads : List ReceivedHead) → Each (λ (s : ReceivedHead). HeadFits s.head) heads → WantedFits (wanted_from_heads heads)
wanted_by_fits [] h = tt
wanted_by_fits (s ∷ rest) h =
    let chosen = chosen_head s rest in
    wanted_of_fits chosen.sender (least_committed s.head.committed rest) chosen.head (chosen-is (λ (s : ReceivedHead). HeadFits s.head) s rest h.0 h.1)

pub wanted_fits : {A : Type 0} → (e : Exchange A) → ExchangeFits e → WantedFits (wanted e)
wanted_fits e f = cond_both (e.missing_heads == nobody) (wanted_from_heads e.heads) None WantedFits (λ t. wanted_by_fits e.heads f.heads) (λ t. tt)

-- Calls

calls_of_fit : {A : Type 0} → (p : Payload A) → PayloadFits p → Each CallFits (calls_of p)
calls_of_fit (Call call) h = (h, tt)
calls_of_fit (Pack pack) h = h.each
calls_of_fit (Wrapped old) h = tt
calls_of_fit End h = tt
calls_of_fit (Head head) h = tt
calls_of_fit (Part part) h = tt
calls_of_fit (Snap snap) h = tt

calls_in_fit : {A : Type 0} → (xs : List (Message A)) → Each (λ (x : Message A). PayloadFits x.payload) xs → Each CallFits (calls_in xs)
calls_in_fit [] h = tt
calls_in_fit (x ∷ xs) h = each-append CallFits (calls_of x.payload) (calls_in xs) (calls_of_fit x.payload h.0) (calls_in_fit xs h.1)

-- The known log

-- its calls, and its last primary, without which there are no calls
pub record KeptFits {A : Type 0} (k : KnownLog A) : Type 0 where
  pub calls : Each CallFits k.calls
  pub last : SomeRingFits k.last
  pub empty : k.last ≡ None → known_log_length k ≡ 0

-- after a complete exchange, and calls after it
adopted_fits : {A : Type 0} → (k : KnownLog A) (ring : RingId) (w : Wanted) (bytes : List ℕ) (calls more : List (OneCall A)) → RingFits ring → 1 ≤ ring.seq →
    Each CallFits k.calls → Each CallFits calls → Each CallFits more → KeptFits (followed_by (known_log_adopted k ring w bytes calls) more)
adopted_fits {A} k ring w bytes calls more r counted h c m =
    let mine = take (first_joined k w - k.from) k.calls in
    let theirs = drop (first_joined k w - w.from) calls in
    let left : Each CallFits mine = each-take CallFits (first_joined k w - k.from) k.calls h in
    let right : Each CallFits theirs = each-drop CallFits (first_joined k w - w.from) calls c in
    cond_both (restores k w) (known_log_restored ring w bytes calls) (known_log_joined k ring w calls) (λ (b : KnownLog A). KeptFits (followed_by b more))
    (λ t. record { calls = each-append CallFits calls more c m; last = (r, counted); empty = λ e. absurd (let x : ⊥ = cc in x) })
    (λ f. record {
      calls = each-append CallFits (mine ++ theirs) more (each-append CallFits mine theirs left right) m;
      last = (r, counted);
      empty = λ e. absurd (let x : ⊥ = cc in x);
    })

-- if an exchange was received whole, something was received
whole_counted : {A : Type 0} → (group : Group) (m n : ℕ) (xs : List (Message A)) (w : CompleteExchange A) → Each (HeardFits n) xs → complete_exchange group m xs ≡ Some w → 1 ≤ n
whole_counted group m n (x ∷ xs) w h e = h.0.counted
whole_counted {A} group m n [] w h e =
    cond_both (is_primary group m) (complete_exchange_from (exchange_opening m) []) None (λ (o : Option (CompleteExchange A)). o ≡ Some w → 1 ≤ n)
    (λ t k. absurd (let x : ⊥ = cc in x)) (λ t k. absurd (let x : ⊥ = cc in x)) e

-- after an epoch, given its exchange, if complete, and the calls received after it
kept_by_fits : {A : Type 0} → (group : Group) (m : ℕ) (ring : RingId) (xs : List (Message A)) (k : KnownLog A) (places : ℕ) → RingFits ring →
    Each (HeardFits ring.seq) xs → KeptFits k → (o safe : Option (CompleteExchange A)) → complete_exchange group m xs ≡ o → KeptFits (dropped_by places (known_log_after_epoch ring k o safe))
kept_by_fits group m ring xs k places r h f None safe e = record { calls = f.calls; last = f.last; empty = f.empty }
kept_by_fits {A} group m ring xs k places r h f (Some w) safe e =
    let b = complete_exchange-whole group m xs w e in
    let all : Each (λ (x : Message A). PayloadFits x.payload) (b.front ++ w.rest) =
    subst (Each (λ (x : Message A). PayloadFits x.payload)) (sym b.parts) (heard_payloads ring.seq xs h) in
    let first = each-left (λ (x : Message A). PayloadFits x.payload) b.front w.rest all in
    let later = each-right (λ (x : Message A). PayloadFits x.payload) b.front w.rest all in
    let x : ExchangeFits w.exchange = subst ExchangeFits (sym b.after) (after_fits (exchange_opening m) b.front first (record { heads = tt; received_calls = tt })) in
    let v = wants (wanted w.exchange) w.exchange.received_bytes w.exchange.total w.exchange.places b.whole in
    let more = calls_in w.rest in
    let base = adopted_fits k ring v.0 w.exchange.bytes w.exchange.received_calls more r (whole_counted group m ring.seq xs w h e) f.calls x.received_calls
    (calls_in_fit w.rest later) in
    let same : known_log_adopted k ring v.0 w.exchange.bytes w.exchange.received_calls ≡ adopts k ring w = ap (λ o. adopts_wanted k ring o w) (sym v.1) in
    let fits : KeptFits (followed_by (adopts k ring w) more) = subst (λ (a : KnownLog A). KeptFits (followed_by a more)) same base in
    record { calls = fits.calls; last = fits.last; empty = fits.empty }

pub kept_fits : {A : Type 0} → (group : Group) (epochs : List (Epoch A)) → Each EpochFits epochs → KeptFits (known_log_of group epochs)
kept_fits group [] h = record { calls = tt; last = tt; empty = λ e. refl }
kept_fits group (s ∷ older) h =
    kept_by_fits group s.members s.ring s.heard (known_log_of group older) s.trimmed h.0.ring h.0.heard (kept_fits group older h.1)
    (complete_exchange group s.members s.heard) (complete_exchange group s.members (messages_upto s.mark s.heard)) refl

-- The Head of a life

-- a sound life in which only committed places were dropped
pub kept_known : {A : Type 0} → (group : Group) (epochs : List (Epoch A)) → is_known_log_sound group epochs ≡ true → DropsOnlyCommitted group epochs → IsKnownLog (known_log_of group epochs)
kept_known group [] t drops = record { low = omega arith; high = omega arith; within = omega arith }
kept_known group (s ∷ older) t drops =
    let k = known_log_of group older in
    let o = complete_exchange group s.members s.heard in
    let outer = and_parts (is_known_log_sound group older && keeps_kept k s.ring o) (is_log_length (known_log_length (known_log_of group (s ∷ older)))) t in
    let inner = and_parts (is_known_log_sound group older) (keeps_kept k s.ring o) outer.0 in
    known-epoch group s older (kept_known group older inner.0 (λ u before i. drops u before (inr i))) inner.1 (drops s older (inl (refl, refl)))

kept_most : {A : Type 0} → (group : Group) (epochs : List (Epoch A)) → is_known_log_sound group epochs ≡ true → known_log_length (known_log_of group epochs) ≤ max_number
kept_most group [] t = omega arith
kept_most group (s ∷ older) t =
    leb-true (known_log_length (known_log_of group (s ∷ older))) max_number
    (and_parts (is_known_log_sound group older && keeps_kept (known_log_of group older) s.ring (complete_exchange group s.members s.heard))
    (is_log_length (known_log_length (known_log_of group (s ∷ older)))) t).1

pub head_fits : {A : Type 0} → (group : Group) (epochs : List (Epoch A)) → Each EpochFits epochs → is_known_log_sound group epochs ≡ true → DropsOnlyCommitted group epochs →
    HeadFits (known_log_head (known_log_of group epochs))
head_fits group epochs h sound drops =
    let f = kept_fits group epochs h in
    let known = kept_known group epochs sound drops in
    record { last = f.last; length = kept_most group epochs sound; committed = known.within; trimmed = known.high; empty = f.empty }

-- Parts of a log

numbers_below : (first count : ℕ) → Each (λ n. n < first + count) (numbers_from first count)
numbers_below first zero = tt
numbers_below first (suc count) = (
  omega arith,
  each-weaker (λ n. n < suc first + count) (λ n. n < first + suc count) (λ n l. omega arith) (numbers_from (suc first) count) (numbers_below (suc first) count),
)

part_fits : {A : Type 0} → (at to : ℕ) (places : List (OneCall A)) (k : ℕ) → Each CallFits places → length places ≤ to - at → to ≤ max_number →
    k < 0 + (length places + 6) / 7 → PartFits (nth_part at places k)
part_fits at to places k h l m below =
    let some : 7 * k < length places = omega (arith, below) in
    let left = length-drop (7 * k) places in
    let few = length-take 7 (drop (7 * k) places) in
    record {
      first = omega (arith, l, m, some);
      some = omega (arith, left, few, some);
      few = omega (arith, few);
      each = each-take CallFits 7 (drop (7 * k) places) (each-drop CallFits (7 * k) places h);
    }

pub parts_fit : {A : Type 0} → (at : ℕ) (own : List (OneCall A)) (from to : ℕ) → Each CallFits own → to ≤ max_number →
    Each PartFits (parts_between at own from to)
parts_fit {A} at own from to h m =
    let places = take (to - from) (drop (from - at) own) in
    let few = length-take (to - from) (drop (from - at) own) in
    let fit : Each CallFits places = each-take CallFits (to - from) (drop (from - at) own) (each-drop CallFits (from - at) own h) in
    let fits : Each (λ k. PartFits (nth_part from places k)) (numbers_from 0 ((length places + 6) / 7)) =
    each-weaker (λ k. k < 0 + (length places + 6) / 7) (λ k. PartFits (nth_part from places k))
    (λ k below. part_fits from to places k fit (omega (arith, few)) m below) (numbers_from 0 ((length places + 6) / 7))
    (numbers_below 0 ((length places + 6) / 7)) in
    each-map PartFits (nth_part from places) (numbers_from 0 ((length places + 6) / 7)) fits

-- Pieces of a snapshot

piece_fits : (A : Type 0) → (at : ℕ) (bytes : List ℕ) (k : ℕ) → 1 ≤ at → at ≤ max_number → length bytes ≤ max_snapshot →
    k < 0 + (length bytes + 6999) / 7000 → SnapFits {A = A} (nth_piece at bytes k)
piece_fits A at bytes k some most short below =
    let begins : 7000 * k < length bytes = omega (arith, below) in
    let left = length-drop (7000 * k) bytes in
    let few = length-take 7000 (drop (7000 * k) bytes) in
    record {
      at_counted = some;
      at = most;
      total_counted = omega (arith, begins);
      total = short;
      offset = begins;
      whole = omega arith;
      bytes = omega (arith, left, few);
    }

pub pieces_fit : (A : Type 0) → (at : ℕ) (bytes : List ℕ) → 1 ≤ at → at ≤ max_number → length bytes ≤ max_snapshot →
    Each (SnapFits {A = A}) (pieces_of at bytes)
pieces_fit A at bytes some most short =
    let count = (length bytes + 6999) / 7000 in
    let fits : Each (λ k. SnapFits {A = A} (nth_piece at bytes k)) (numbers_from 0 count) =
    each-weaker (λ k. k < 0 + count) (λ k. SnapFits {A = A} (nth_piece at bytes k)) (λ k below. piece_fits A at bytes k some most short below)
    (numbers_from 0 count) (numbers_below 0 count) in
    each-map (SnapFits {A = A}) (nth_piece at bytes) (numbers_from 0 count) fits
