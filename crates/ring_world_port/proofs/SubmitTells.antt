-- The reports of a submit.
use Rattle.std.proofs.Common.{◌≡◌, ℕ, ◌⊎◌, true, false, List, [], ◌∷◌, ◌++◌, length, drop, Option, Some, None, refl, ◌∙◌, ap, inl, inr, append-nil}
use Rattle.std.specs.Prelude.{nat_le, Bool, if◌then◌else◌}
use Rattle.std.proofs.Math.Seq.{drop-append_seam, drop-length}
use Rattle.ring_base.specs.Fault.{fault_number}
use Rattle.ring_base.specs.Numbers.{max_number}
use Rattle.ring_base.specs.declared.fault.Fault.{Fault}
use Rattle.ring_base.specs.declared.fault.Fault.TheVariants.{PendingFull, Stopped, Memory}
use Rattle.ring_object.specs.Operations.{Sequential}
use Rattle.ring_payload.specs.declared.call.Call.{Call}
use Rattle.ring_node_spec.specs.Nodes.{Node, node_pending, is_stopped}
use Rattle.ring_node_spec.specs.Stepping.{submit_fault}
use Rattle.ring_node_spec.specs.declared.event.Event.TheVariants.{Issue}
use Rattle.ring_node_spec.specs.declared.client_report.Told.{Told}
use Rattle.ring_node_spec.specs.declared.client_report.Told.TheVariants.{Refused}
use Rattle.ring_node_spec.specs.Worlds.{World, world_after_submit_if_member, world_after_submit, is_node}
use Rattle.ring_world.specs.WorldView.{WorldView, IsEventOutcome, world_of, told_by_event}

-- the refusals of a submit at a node
abbrev pub IsOne : Fault → Type 0
IsOne fault = (fault ≡ Stopped) ⊎ ((fault ≡ PendingFull) ⊎ (fault ≡ Memory))

one_of : (first second third : Bool) (x : Option Fault)
    → x ≡ (if first then Some Stopped else if second then Some PendingFull else if third then Some PendingFull else None)
    → (x ≡ None) ⊎ ((x ≡ Some Stopped) ⊎ (x ≡ Some PendingFull))
one_of true second third x e = inr (inl e)
one_of false true third x e = inr (inr e)
one_of false false true x e = inr (inr e)
one_of false false false x e = inl e

fault_cases : {A : Type 0} (n : Node A) → (submit_fault n ≡ None) ⊎ ((submit_fault n ≡ Some Stopped) ⊎ (submit_fault n ≡ Some PendingFull))
fault_cases n = one_of (is_stopped n.core.state) (nat_le 64 (length (node_pending n))) (nat_le max_number (length n.tickets)) (submit_fault n) refl

-- the reports after the submit: none, or one refusal of the call
abbrev Behind : {A : Type 0} → ℕ → Call A → List (Told A) → Type 0
Behind i c more = (more ≡ []) ⊎ ((fault : Fault) × IsOne fault × (more ≡ Refused i c (fault_number fault) ∷ []))

behind_refusal : {A : Type 0} (w : World A) (i : ℕ) (c : Call A) (x : Option Fault) (fault : Fault) → IsOne fault → x ≡ Some fault
    → Behind i c (drop (length w.told) (world_after_submit x w i c).told)
behind_refusal w i c x fault one e = inr (fault, one, rw e (drop-append_seam w.told (Refused i c (fault_number fault) ∷ [])))

behind_issue : {A : Type 0} (w : World A) (i : ℕ) (c : Call A) (x : Option Fault) → x ≡ None → Behind i c (drop (length w.told) (world_after_submit x w i c).told)
behind_issue w i c x e = inl (rw e (drop-length w.told))

behind_known : {A : Type 0} (known : Bool) (w : World A) (i : ℕ) (c : Call A) → Behind i c (drop (length w.told) (world_after_submit_if_member known w i c).told)
behind_known false w i c = inl (drop-length w.told)
behind_known true w i c =
    elim (fault_cases (w.nodes i)) [
      | inl e ↦ behind_issue w i c (submit_fault (w.nodes i)) e
      | inr s ↦ elim s [
        | inl e ↦ behind_refusal w i c (submit_fault (w.nodes i)) Stopped (inl refl) e
        | inr e ↦ behind_refusal w i c (submit_fault (w.nodes i)) PendingFull (inr (inl refl)) e
      ]
    ]

-- the list is extended by one refusal of the call
abbrev pub IsToldRefused : {A : Type 0} → ℕ → Call A → List (Told A) → List (Told A) → Type 0
IsToldRefused i c before after = (fault : Fault) × IsOne fault × (after ≡ before ++ Refused i c (fault_number fault) ∷ [])

told_by_behind : {A : Type 0} (i : ℕ) (c : Call A) (before more after : List (Told A)) → after ≡ before ++ more → Behind i c more
    → (after ≡ before) ⊎ IsToldRefused i c before after
told_by_behind i c before more after e b =
    elim b [
      | inl nothing ↦ inl (e ∙ ap (λ ts. before ++ ts) nothing ∙ append-nil before)
      | inr r ↦ inr (r.0, r.1, e ∙ ap (λ ts. before ++ ts) r.2)
    ]

module _ {O : Type 0} (object : Sequential O) where
  -- a submit reports that the call was refused, or nothing
  pub submit_tells : {A : Type 0} (i : ℕ) (c : Call A) (p q : WorldView A) → IsEventOutcome object (Issue i c) p q → (q.told ≡ p.told) ⊎ IsToldRefused i c p.told q.told
  submit_tells {A} i c p q g =
      elim g [
        | inl d ↦ told_by_behind i c p.told (told_by_event object (world_of object p) (Issue i c)) q.told d.told
            (behind_known (is_node (world_of object p) i) (world_of object p) i c)
        | inr s ↦ elim s [
          | inl t ↦ let none : None ≡ Some t.node = t.steps in cc
          | inr r ↦
              let at : i ≡ r.node = cc (r.issues) in
              let of : c ≡ r.call = cc (r.issues) in
              inr (Memory, inr (inr refl), rw (at, of) r.told)
        ]
      ]
