-- A run continues event by event, and only adds to the view.
use Rattle.std.proofs.Common.{◌≡◌, ℕ, ◌+◌, List, [], ◌∷◌}
use Rattle.std.proofs.Common.{◌++◌, refl, ap, ◌∙◌, sym, subst, inl, inr, append-nil, append_assoc}
use Rattle.ring_base.specs.Group.{Group}
use Rattle.ring_object.specs.Operations.{Sequential}
use Rattle.ring_node_spec.specs.declared.event.Event.{Event}
use Rattle.ring_node_spec.specs.declared.event.Event.TheVariants.{Stop}
use Rattle.ring_node_spec.specs.declared.client_report.Told.{Told}
use Rattle.ring_node_spec.specs.Worlds.{World, world_opening, run}
use Rattle.ring_order_proof.proofs.ConsistentRuns.{run-append}
use Rattle.ring_world.specs.WorldView.{WorldView, world_of, IsEventOutcome, IsRunOfEvents}

module _ {O A : Type 0} (object : Sequential O) where
  -- the count of done events doesn't matter
  pub goes_to : (e : Event A) (n : ℕ) (p q : WorldView A) → IsEventOutcome object e p q → IsEventOutcome object e p (record q { done = n })
  goes_to e n p q (inl d) = inl (record { group = d.group; events = d.events; told = d.told })
  goes_to e n p q (inr (inl d)) = inr (inl (record { node = d.node; steps = d.steps; known = d.known; group = d.group; events = d.events; told = d.told }))
  goes_to e n p q (inr (inr d)) = inr (inr (record {
    node = d.node;
    call = d.call;
    issues = d.issues;
    known = d.known;
    taken = d.taken;
    group = d.group;
    events = d.events;
    told = d.told;
  }))

  pub goes_from : (e : Event A) (n : ℕ) (p q : WorldView A) → IsEventOutcome object e (record p { done = n }) q → IsEventOutcome object e p q
  goes_from e n p q (inl d) = inl (record { group = d.group; events = d.events; told = d.told })
  goes_from e n p q (inr (inl d)) = inr (inl (record { node = d.node; steps = d.steps; known = d.known; group = d.group; events = d.events; told = d.told }))
  goes_from e n p q (inr (inr d)) = inr
      (inr (record {
        node = d.node;
        call = d.call;
        issues = d.issues;
        known = d.known;
        taken = d.taken;
        group = d.group;
        events = d.events;
        told = d.told;
      }))

  pub plays_from : (es : List (Event A)) (n : ℕ) (p q : WorldView A) → IsRunOfEvents object es (record p { done = n }) q → IsRunOfEvents object es p q
  plays_from [] n p q h = h
  plays_from (e ∷ es) n p q h = (h.0, goes_from e n p h.0 h.1, h.2)

  same_start : (p m : WorldView A) → m.group ≡ p.group → m.events ≡ p.events → m.told ≡ p.told
      → (e : Event A) (q : WorldView A) → IsEventOutcome object e m q → IsEventOutcome object e p q
  same_start p m a b c e q g =
      let one : Group → WorldView A = λ x. record { group = x; events = m.events; told = m.told; done = m.done } in
      let two : List (Event A) → WorldView A = λ x. record { group = p.group; events = x; told = m.told; done = m.done } in
      let three : List (Told A) → WorldView A = λ x. record { group = p.group; events = p.events; told = x; done = m.done } in
      let same : m ≡ record p { done = m.done } = ap one a ∙ ap two b ∙ ap three c in
      goes_from e m.done p q (subst (λ (r : WorldView A). IsEventOutcome object e r q) same g)

  -- one more event
  pub plays_more : (es : List (Event A)) (e : Event A) (n : ℕ) (p m q : WorldView A) → IsRunOfEvents object es p m
      → IsEventOutcome object e m q → IsRunOfEvents object (es ++ e ∷ []) p (record q { done = n })
  plays_more [] e n p m q h g = (record q { done = n }, goes_to e n p q (same_start p m h.0 h.1 h.2 e q g), (refl, refl, refl))
  plays_more (d ∷ es) e n p m q h g = (h.0, h.1, plays_more es e n h.0 m q h.2 g)

  pub record IsLonger (p q : WorldView A) : Type 0 where
    pub later : List (Event A)
    pub group : q.group ≡ p.group
    pub events : q.events ≡ p.events ++ later

  pub goes_longer : (e : Event A) (p q : WorldView A) → IsEventOutcome object e p q → IsLonger p q
  goes_longer e p q (inl d) = record { later = e ∷ []; group = d.group; events = d.events }
  goes_longer e p q (inr (inl d)) = record { later = Stop d.node ∷ []; group = d.group; events = d.events }
  goes_longer e p q (inr (inr d)) = record { later = []; group = d.group; events = d.events ∙ sym (append-nil p.events) }

  pub plays_longer : (es : List (Event A)) (p q : WorldView A) → IsRunOfEvents object es p q → IsLonger p q
  plays_longer [] p q h = record { later = []; group = h.0; events = h.1 ∙ sym (append-nil p.events) }
  plays_longer (e ∷ es) p q h =
      let one = goes_longer e p h.0 h.1 in
      let rest = plays_longer es h.0 q h.2 in
      record {
        later = one.later ++ rest.later;
        group = rest.group ∙ one.group;
        events = rest.events ∙ ap (λ xs. xs ++ rest.later) one.events ∙ append_assoc p.events one.later rest.later;
      }

  -- so the world after it is a later one of the same run
  pub world_later : (p q : WorldView A) (l : IsLonger p q) → world_of object q ≡ run object (world_of object p) l.later
  world_later p q l =
      let at : Group → World A = λ group. run object (world_opening group) q.events in
      ap at l.group ∙ ap (run object (world_opening p.group)) l.events ∙ run-append object (world_opening p.group) p.events l.later
