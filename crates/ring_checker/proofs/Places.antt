-- The place of one call in an order.
use Rattle.std.proofs.Common.{◌≡◌, ℕ, ◌⊎◌, List, refl, ap, ◌∙◌, Option, Some, None, inl, inr}
use Rattle.ring_payload.specs.declared.call.Call.{Call}
use Rattle.ring_payload.specs.SameCalls.{is_same-self}
use Rattle.ring_session.specs.Deduplicated.{IsCallAt, IsNumbered}
use Rattle.ring_session.specs.DeduplicatedLaws.{numbered_once}
use Rattle.ring_session.specs.SessionAnswer.{is_same}
use Rattle.ring_session.specs.SessionAnswerLaws.{is_same-true}
use Rattle.ring_checker.specs.Checks.{place_in}
use Rattle.ring_node_spec.proofs.FirstMatch.{position-found, position-least}

-- an option has a value or not
pub none_or_some : {X : Type 0} (o : Option X) → (o ≡ None) ⊎ ((x : X) × (o ≡ Some x))
none_or_some None = inl refl
none_or_some (Some x) = inr (x, refl)

-- the call is at the place where it is found in the order
pub place_in-stands : {A : Type 0} (order : List (Call A)) (c : Call A) (p : ℕ) → place_in order c ≡ Some p → IsCallAt order p c
place_in-stands order c p is =
    let found = position-found (is_same c) order p is in
    found.1 ∙ ap Some (is_same-true c found.0 found.2)

-- a call that is in the order is found in it
pub place_in-least : {A : Type 0} (order : List (Call A)) (c : Call A) (p : ℕ) → IsCallAt order p c → (q : ℕ) × (place_in order c ≡ Some q)
place_in-least order c p stands =
    let least = position-least (is_same c) order p c stands (is_same-self c) in
    (least.0, least.1)

-- in a numbered order it is found at its place
pub place_in-numbered : {A : Type 0} (order : List (Call A)) (c : Call A) (p : ℕ) → IsNumbered order → IsCallAt order p c → place_in order c ≡ Some p
place_in-numbered order c p numbered stands =
    let least = place_in-least order c p stands in
    let same : least.0 ≡ p = numbered_once order numbered least.0 p c c (place_in-stands order c least.0 least.1) stands refl refl in
    least.1 ∙ ap Some same
