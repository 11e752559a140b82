-- The first places whose calls were issued, and when an item is right by them.
use Rattle.std.proofs.Common.{◌≡◌, ℕ, ◌+◌, ◌<◌, ◌≤◌, ◌↔◌, Bool, true, false, IsTrue, List, length, take, Some, slice_get, refl, sym, subst, ◌∙◌, arith, inl, inr}
use Rattle.std.proofs.lemmas.List.Elements.{All-push}
use Rattle.std.proofs.lemmas.Option.{slice_get_within}
use Rattle.std.proofs.lemmas.Bool.{cases_lt}
use Rattle.ring_base.proofs.Rows.{take-more}
use Rattle.ring_base.proofs.ListPlaces.{has-place}
use Rattle.ring_payload.specs.declared.call.Call.{Call}
use Rattle.ring_checker.specs.declared.check.OrderPlace.{OrderPlace}
use Rattle.ring_checker.specs.Checks.{place_in, IsIssuedBefore, AreIssuedBefore, IsIssuedFront, IsReplyAtPlace, IsRightItem, IsItemRightAt, AreRepliesRight}
use Rattle.ring_node_spec.specs.declared.item.Item.{Item}
use Rattle.ring_node_spec.specs.declared.item.Item.TheVariants.{Issue, Reply}
use Rattle.ring_node_spec.proofs.FirstMatch.{EachUpTo, all-from_places, take-within, take-get, get-take, option-some, some-option}
use Rattle.ring_node_spec.proofs.Linear.{all-at}

-- what was issued before a place was before the next
issued-later : (place : OrderPlace) (k : ℕ) → IsIssuedBefore place k → IsIssuedBefore place (k + 1)
issued-later place k issued =
    let there = option-some place.issued (λ at. at < k) issued in
    some-option place.issued (λ at. at < k + 1) there.0 there.1 (omega (arith, there.2))

pub all_issued-later : (places : List OrderPlace) (k : ℕ) → AreIssuedBefore places k → AreIssuedBefore places (k + 1)
all_issued-later places k issued = all-from_places (λ (w : OrderPlace). IsIssuedBefore w (k + 1)) places (λ q place at.
    issued-later place k (all-at (λ (w : OrderPlace). IsIssuedBefore w k) places q place issued at))

-- one more call was issued
pub place-more : (places : List OrderPlace) (k m : ℕ) (place : OrderPlace) → slice_get places m ≡ Some place → AreIssuedBefore (take m places) k → IsIssuedBefore place k
    → AreIssuedBefore (take (m + 1) places) k
place-more places k m place at before issued =
    rw (take-more places m place at) (All-push (λ (w : OrderPlace). IsIssuedBefore w k) (take m places) place before issued)

-- the next call wasn't issued
pub place-ended : (places : List OrderPlace) (k m : ℕ) (place : OrderPlace) (issued : Bool) → m ≤ length places → AreIssuedBefore (take m places) k
    → slice_get places m ≡ Some place → (IsTrue issued ↔ IsIssuedBefore place k) → issued ≡ false → IsIssuedFront places k m
place-ended places k m place issued within before at decides not_so = record {
  within = within;
  before = before;
  ends = λ other there is.
      let one : Some other ≡ Some place = sym there ∙ at in
      let same : other ≡ place = cc one in
      absurd (cc (decides.1 (subst (λ (w : OrderPlace). IsIssuedBefore w k) same is), not_so));
}

-- there is no next call
pub place-whole : (places : List OrderPlace) (k m : ℕ) → m ≤ length places → length places ≤ m → AreIssuedBefore (take m places) k → IsIssuedFront places k m
place-whole places k m within all before = record {
  within = within;
  before = before;
  ends = λ other there is. absurd (omega (arith, all, slice_get_within places m other there));
}

-- no longer prefix of the places was issued
front-most : (places : List OrderPlace) (k m n at : ℕ) (place : OrderPlace) → IsIssuedFront places k m → AreIssuedBefore (take n places) k
    → slice_get (take n places) at ≡ Some place → slice_get (take m places) at ≡ Some place
front-most places k m n at place front issued there =
    let here = take-get n places at place there in
    elim (cases_lt at m) as (λ _. slice_get (take m places) at ≡ Some place) [
      | inl before ↦ get-take m places at place before here
      | inr past ↦
          let last = has-place places m (omega (arith, past, slice_get_within places at place here)) in
          let within : m < n = omega (arith, past, take-within n places at place there) in
          absurd (front.ends last.0 last.1 (all-at (λ (w : OrderPlace). IsIssuedBefore w k) (take n places) m last.0 issued (get-take n places m last.0 within last.1)))
    ]

-- an item that is right by some issued places is right by all of them
pub right-most : {A : Type 0} (order : List (Call A)) (places : List OrderPlace) (k m : ℕ) (item : Item A) → IsIssuedFront places k m
    → IsItemRightAt order places k item → IsRightItem order (take m places) item
right-most order places k m (Issue c) front right = tt
right-most order places k m (Reply c r) front right =
    let found = option-some (place_in order c) (λ at. IsReplyAtPlace (take right.0 places) at r) right.2 in
    some-option (place_in order c) (λ at. IsReplyAtPlace (take m places) at r) found.0 found.1
    (found.2.0, front-most places k m right.0 found.0 found.2.0 front right.1 found.2.1, found.2.2)

pub right-not : {A : Type 0} (order : List (Call A)) (places : List OrderPlace) (history : List (Item A)) (k m : ℕ) (item : Item A) → slice_get history k ≡ Some item
    → IsIssuedFront places k m → (IsRightItem order (take m places) item → ⊥) → IsTrue false ↔ AreRepliesRight order places history
right-not order places history k m item at front wrong =
    (λ so. absurd (cc so), λ right. absurd (wrong (right-most order places k m item front (right k item at))))

pub right-all : {A : Type 0} (order : List (Call A)) (places : List OrderPlace) (history : List (Item A)) (n : ℕ)
    → EachUpTo (IsItemRightAt order places) history n → length history ≤ n → IsTrue true ↔ AreRepliesRight order places history
right-all order places history n each all =
    (λ _ k item at. each k item (omega (arith, all, slice_get_within history k item at)) at, λ _. refl)
