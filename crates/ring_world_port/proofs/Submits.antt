-- The result of a submit, from the world's reports after it.
use Rattle.std.proofs.Common.{◌≡◌, ℕ, List, [], ◌∷◌, ◌++◌, length, Some, None, Result, Ok, Err, refl, ◌∙◌, sym, ap, inl, inr, arith}
use Rattle.std.specs.Prelude.{slice_get, IfErr}
use Rattle.std.proofs.lemmas.Option.{slice_get_past}
use Rattle.ring_base.specs.Fault.{fault_number}
use Rattle.ring_base.specs.declared.fault.Fault.{Fault}
use Rattle.ring_base.specs.declared.fault.Fault.TheVariants.{PendingFull, Stopped, Memory}
use Rattle.ring_base.proofs.ListPlaces.{get-last}
use Rattle.ring_object.specs.Operations.{Sequential}
use Rattle.ring_payload.specs.declared.call.Call.{Call}
use Rattle.ring_node_spec.specs.declared.event.Event.TheVariants.{Issue}
use Rattle.ring_node_spec.specs.declared.client_report.Told.{Told}
use Rattle.ring_node_spec.specs.declared.client_report.Told.TheVariants.{Refused}
use Rattle.ring_world_port.specs.Network.{NetworkView, IsIssuable, IsIssued, IsNotIssued, IsNotAsked, refusal_in, fault_of}
use Rattle.ring_world.specs.Pumping.{HasRunEvent}
use Rattle.ring_world_port.proofs.SubmitTells.{IsOne, submit_tells}

-- a refusal of a submit is the one of its number
of_number : (fault : Fault) → IsOne fault → fault_of (fault_number fault) ≡ fault
of_number fault one =
    elim one [
      | inl e ↦ rw e refl
      | inr s ↦ elim s [ inl e ↦ rw e refl | inr e ↦ rw e refl ]
    ]

nothing_there : {A : Type 0} (before after : List (Told A)) (place : ℕ) → place ≡ length before → after ≡ before → refusal_in (slice_get after place) ≡ None
nothing_there before after place at same =
    let past : slice_get after place ≡ None = slice_get_past after place (rw (at, same) (omega arith)) in
    rw past refl

refusal_there : {A : Type 0} (i : ℕ) (c : Call A) (before after : List (Told A)) (place : ℕ) (fault : Fault)
    → place ≡ length before → IsOne fault → after ≡ before ++ Refused i c (fault_number fault) ∷ [] → refusal_in (slice_get after place) ≡ Some fault
refusal_there i c before after place fault at one more =
    let there : slice_get after place ≡ Some (Refused i c (fault_number fault)) = rw (at, more) (get-last before (Refused i c (fault_number fault))) in
    rw there (ap (λ f. Some f) (of_number fault one))

module _ {O : Type 0} (object : Sequential O) where
  pub issued : {A : Type 0} (i : ℕ) (c : Call A) (n m : NetworkView A) (place : ℕ)
      → HasRunEvent object (Issue i c) n.pump m.pump → m.group ≡ n.group → m.timeouts ≡ n.timeouts
      → place ≡ length n.pump.world_view.told → refusal_in (slice_get m.pump.world_view.told place) ≡ None → IsIssued object i c n m
  issued i c n m place happens group timeouts at none =
      elim (submit_tells object i c n.pump.world_view m.pump.world_view happens.goes) [
        | inl same ↦ record { happens = happens; told = same; group = group; timeouts = timeouts }
        | inr r ↦
            let there = refusal_there i c n.pump.world_view.told m.pump.world_view.told place r.0 at r.1 r.2 in
            let wrong : None ≡ Some r.0 = sym none ∙ there in
            cc
      ]

  told_refused : {A : Type 0} (i : ℕ) (c : Call A) (n m : NetworkView A) (f fault : Fault)
      → HasRunEvent object (Issue i c) n.pump m.pump → m.group ≡ n.group → m.timeouts ≡ n.timeouts
      → IsIssuable i c n → IsOne f → f ≡ fault → m.pump.world_view.told ≡ n.pump.world_view.told ++ Refused i c (fault_number f) ∷ []
      → IsNotIssued object i c n m fault
  told_refused i c n m f fault happens group timeouts able one e more =
      elim one [
        | inl s ↦
            let fault_is : fault ≡ Stopped = sym e ∙ s in
            rw fault_is (able, record { happens = happens; told = rw s at more; group = group; timeouts = timeouts })
        | inr o ↦ elim o [
          | inl s ↦
              let fault_is : fault ≡ PendingFull = sym e ∙ s in
              rw fault_is (able, record { happens = happens; told = rw s at more; group = group; timeouts = timeouts })
          | inr s ↦
              let fault_is : fault ≡ Memory = sym e ∙ s in
              rw fault_is (able, inr (record { happens = happens; told = rw s at more; group = group; timeouts = timeouts }))
        ]
      ]

  pub not_issued : {A : Type 0} (i : ℕ) (c : Call A) (n m : NetworkView A) (place : ℕ) (fault : Fault)
      → HasRunEvent object (Issue i c) n.pump m.pump → m.group ≡ n.group → m.timeouts ≡ n.timeouts
      → IsIssuable i c n → place ≡ length n.pump.world_view.told → refusal_in (slice_get m.pump.world_view.told place) ≡ Some fault
      → IsNotIssued object i c n m fault
  not_issued i c n m place fault happens group timeouts able at some =
      elim (submit_tells object i c n.pump.world_view m.pump.world_view happens.goes) [
        | inl same ↦
            let none = nothing_there n.pump.world_view.told m.pump.world_view.told place at same in
            let wrong : None ≡ Some fault = sym none ∙ some in
            cc
        | inr r ↦
            let there = refusal_there i c n.pump.world_view.told m.pump.world_view.told place r.0 at r.1 r.2 in
            let same : Some r.0 ≡ Some fault = sym there ∙ some in
            let e : r.0 ≡ fault = cc same in
            told_refused i c n m r.0 fault happens group timeouts able r.1 e r.2
      ]

  pub asked_in_vain : {A T : Type 0} (i : ℕ) (c : Call A) (n m : NetworkView A) (r : Result T Fault) → IfErr r (IsNotIssued object i c n m)
      → IfErr r (IsNotAsked object i c)
  asked_in_vain i c n m (Ok x) why = tt
  asked_in_vain i c n m (Err fault) why = inr (n, m, why)
