-- The checker's data, and the facts that it checks.
-- Rules: Sessions 10
use Rattle.std.specs.Prelude.{◌≡◌, ℕ, zero, suc, ◌<◌, ◌≤◌, Bool, false, List, [], ◌∷◌, ◌++◌, length, take, All}
use Rattle.std.specs.Prelude.{Option, Some, None, MatchOption, position, slice_get, Vec}
use Rattle.std.specs.BTreeMap.{BTreeMap, get}
use Rattle.std.specs.Ordering.{nat_cmp}
use Rattle.ring_object.specs.Operations.{Sequential}
use Rattle.ring_payload.specs.declared.call.Call.{Call}
use Rattle.ring_session.specs.Deduplicated.{IsCallAt}
use Rattle.ring_session.specs.SessionAnswer.{is_same, call_reply}
use Rattle.ring_checker.specs.declared.check.OrderPlace.{OrderPlace}
use Rattle.ring_node_spec.specs.declared.item.Item.{Item}
use Rattle.ring_node_spec.specs.declared.item.Item.TheVariants.{Issue, Reply}

-- the item is an issue of the call
abbrev pub is_issue_of : {A : Type 0} → Call A → Item A → Bool
is_issue_of c (Issue d) = is_same c d
is_issue_of c (Reply d r) = false

-- the place in the history of the call's first issue, if any
abbrev pub first_issue : {A : Type 0} → List (Item A) → Call A → Option ℕ
first_issue history c = position (is_issue_of c) history

-- the first place of the call in the order, if any
abbrev pub place_in : {A : Type 0} → List (Call A) → Call A → Option ℕ
place_in order c = position (is_same c) order

-- the places that a client's entry of the index has; none without an entry
abbrev pub index_row_of : {A : Type 0} → Option (Vec ℕ A) → List ℕ
index_row_of None = []
index_row_of (Some row) = row.items

-- the places of a client's calls in the index, in the order of their numbers; none of an unknown client
abbrev pub places_of : {A : Type 0} → BTreeMap ℕ (Vec ℕ A) → ℕ → List ℕ
places_of index client = index_row_of (get nat_cmp index client)

-- the place of the call of this number, given the places of the calls 1, 2, ..
abbrev pub place_by_call_number : List ℕ → ℕ → Option ℕ
place_by_call_number row zero = None
place_by_call_number row (suc k) = slice_get row k

-- the place of the call of this client and number in the index
abbrev pub place_at : {A : Type 0} → BTreeMap ℕ (Vec ℕ A) → ℕ × ℕ → Option ℕ
place_at index name = place_by_call_number (places_of index name.0) name.1

-- the index has one more place of this client, after those that it had; other clients' places are unchanged
pub record AddsPlace {A : Type 0} (old new : BTreeMap ℕ (Vec ℕ A)) (client place : ℕ) : Type 0 where
  pub own : places_of new client ≡ places_of old client ++ place ∷ []
  pub others : (q : ℕ) → (client ≡ q → ⊥) → places_of new q ≡ places_of old q

-- the index has exactly the first n places of the order, each under its call's client and number
pub record IsIndexOf {A : Type 0} (order : List (Call A)) (n : ℕ) (index : BTreeMap ℕ (Vec ℕ A)) : Type 0 where
  pub found : (name : ℕ × ℕ) (p : ℕ) → place_at index name ≡ Some p
      → (c : Call A) × (p < n) × IsCallAt order p c × (c.client ≡ name.0) × (c.number ≡ name.1)
  pub finds : (p : ℕ) (c : Call A) → p < n → IsCallAt order p c → place_at index (c.client, c.number) ≡ Some p

-- the call of this place was issued before place k of the history
abbrev pub IsIssuedBefore : OrderPlace → ℕ → Type 0
IsIssuedBefore place k = MatchOption place.issued ⊥ (λ at. at < k)

-- the calls of all these places were issued before place k of the history
abbrev pub AreIssuedBefore : List OrderPlace → ℕ → Type 0
AreIssuedBefore places k = All (λ (place : OrderPlace). IsIssuedBefore place k) places

-- the calls of the first m places were issued before place k, and the call of the next place wasn't
pub record IsIssuedFront (places : List OrderPlace) (k m : ℕ) : Type 0 where
  pub within : m ≤ length places
  pub before : AreIssuedBefore (take m places) k
  pub ends : (place : OrderPlace) → slice_get places m ≡ Some place → IsIssuedBefore place k → ⊥

module _ {O : Type 0} (object : Sequential O) where
  -- Each of the first n places of the order has the place of its call's first issue and the object's reply there.
  pub record ArePlaces {A : Type 0} (order : List (Call A)) (history : List (Item A)) (n : ℕ) (places : List OrderPlace) : Type 0 where
    pub many : length places ≡ n
    pub each : (q : ℕ) (c : Call A) → q < n → IsCallAt order q c → slice_get places q ≡ Some
        (record { issued = first_issue history c; reply = call_reply object order q })

-- `at` is one of these places, and the object's reply there is r
abbrev pub IsReplyAtPlace : List OrderPlace → ℕ → List ℕ → Type 0
IsReplyAtPlace issued at r = (place : OrderPlace) × (slice_get issued at ≡ Some place) × (place.reply ≡ r)

-- the reply is right: its call is at one of these places, and it is the object's reply there
abbrev pub IsRightReply : {A : Type 0} → List (Call A) → List OrderPlace → Call A → List ℕ → Type 0
IsRightReply order issued c r = MatchOption (place_in order c) ⊥ (λ at. IsReplyAtPlace issued at r)

-- the item is right if the calls of exactly these places were issued before it; an issue is always right
abbrev pub IsRightItem : {A : Type 0} → List (Call A) → List OrderPlace → Item A → Type 0
IsRightItem order issued (Issue c) = Unit {0}
IsRightItem order issued (Reply c r) = IsRightReply order issued c r

-- the item at place k of the history is right by a prefix of the places whose calls were all issued before it
abbrev pub IsItemRightAt : {A : Type 0} → List (Call A) → List OrderPlace → ℕ → Item A → Type 0
IsItemRightAt order places k item = (m : ℕ) × AreIssuedBefore (take m places) k × IsRightItem order (take m places) item

-- each item of the history is right
abbrev pub AreRepliesRight : {A : Type 0} → List (Call A) → List OrderPlace → List (Item A) → Type 0
AreRepliesRight {A} order places history = (k : ℕ) (item : Item A) → slice_get history k ≡ Some item → IsItemRightAt order places k item
