-- The stop of a step that was refused memory, in a run of one event.
use Rattle.std.proofs.Common.{◌≡◌, ℕ, suc, ◌+◌, ◌-◌, List, [], ◌∷◌, ◌++◌, length, Option, Some, None, slice_get, inl, inr, ◌↔◌}
use Rattle.std.proofs.Common.{refl, sym, ap, ◌∙◌, arith, length-append}
use Rattle.ring_base.proofs.ListPlaces.{get-last}
use Rattle.ring_object.specs.Operations.{Sequential}
use Rattle.ring_node_spec.specs.declared.event.Event.{Event}
use Rattle.ring_node_spec.specs.declared.event.Event.TheVariants.{Issue, Deliver, Noise, Timeout, Stop}
use Rattle.ring_world.specs.WorldView.{WorldView, IsStopped, IsEventOutcome, IsRunOfEvents}
use Rattle.ring_world.specs.Refusals.{stop_of, last_stop, stopped_for_memory, IsStoppedAt}

last_is : {X : Type 0} (xs : List X) (x : X) → slice_get (xs ++ x ∷ []) (length (xs ++ x ∷ []) - 1) ≡ Some x
last_is xs x =
    let more : length (xs ++ x ∷ []) ≡ length xs + 1 = length-append xs (x ∷ []) in
    let same : length (xs ++ x ∷ []) - 1 ≡ length xs = omega (arith, more) in
    ap (λ (n : ℕ). slice_get (xs ++ x ∷ []) n) same ∙ get-last xs x

-- the last event is the one added last
stop_behind : {A : Type 0} (xs : List (Event A)) (e : Event A) (ys : List (Event A)) → ys ≡ xs ++ e ∷ [] → last_stop ys ≡ stop_of (Some e)
stop_behind xs e ys is = ap (λ (zs : List (Event _)). last_stop zs) is ∙ ap (λ (o : Option (Event _)). stop_of o) (last_is xs e)

module _ {O A : Type 0} (object : Sequential O) (p : WorldView A) where
  -- an event that a stop replaces is no stop itself
  stops_only : (e : Event A) (node : ℕ) (m : WorldView A) (es : List (Event A)) → es ≡ m.events → IsEventOutcome object e p m
      → stopped_for_memory e es ≡ Some node → IsStoppedAt object e node p m
  stops_only (Deliver i k) node m es same (inl d) is =
      let none : last_stop es ≡ None = stop_behind p.events (Deliver i k) es (same ∙ d.events) in
      absurd (cc (none, is))
  stops_only (Deliver i k) node m es same (inr (inl s)) is =
      let some : last_stop es ≡ Some s.node = stop_behind p.events (Stop s.node) es (same ∙ s.events) in
      (s, cc (some, is))
  stops_only (Deliver i k) node m es same (inr (inr r)) is = absurd (cc (r.issues))
  stops_only (Timeout i kind) node m es same (inl d) is =
      let none : last_stop es ≡ None = stop_behind p.events (Timeout i kind) es (same ∙ d.events) in
      absurd (cc (none, is))
  stops_only (Timeout i kind) node m es same (inr (inl s)) is =
      let some : last_stop es ≡ Some s.node = stop_behind p.events (Stop s.node) es (same ∙ s.events) in
      (s, cc (some, is))
  stops_only (Timeout i kind) node m es same (inr (inr r)) is = absurd (cc (r.issues))
  stops_only (Issue i c) node m es same goes is = absurd (cc (is))
  stops_only (Noise i bytes) node m es same goes is = absurd (cc (is))
  stops_only (Stop i) node m es same goes is = absurd (cc (is))

  -- a step that was refused memory is recorded as a stop
  stops_so : (e : Event A) (node : ℕ) (q : WorldView A) → IsStoppedAt object e node p q → stopped_for_memory e q.events ≡ Some node
  stops_so (Deliver i k) node q h = stop_behind p.events (Stop h.0.node) q.events h.0.events ∙ ap (λ (n : ℕ). Some n) h.1
  stops_so (Timeout i kind) node q h = stop_behind p.events (Stop h.0.node) q.events h.0.events ∙ ap (λ (n : ℕ). Some n) h.1
  stops_so (Issue i c) node q h = let steps = h.0.steps in absurd (cc (steps))
  stops_so (Noise i bytes) node q h = let steps = h.0.steps in absurd (cc (steps))
  stops_so (Stop i) node q h = let steps = h.0.steps in absurd (cc (steps))

  -- in a run of one event
  pub stops_exactly : (e : Event A) (q : WorldView A) (node : ℕ) → IsRunOfEvents object (e ∷ []) p q
      → (stopped_for_memory e q.events ≡ Some node) ↔ IsStoppedAt object e node p q
  stops_exactly e q node h = (
    λ is. let s = stops_only e node h.0 q.events h.2.1 h.1 is in (
      record {
        node = s.0.node;
        steps = s.0.steps;
        known = s.0.known;
        group = h.2.0 ∙ s.0.group;
        events = h.2.1 ∙ s.0.events;
        told = h.2.2 ∙ s.0.told;
      },
      s.1,
    ),
    λ s. stops_so e node q s,
  )
