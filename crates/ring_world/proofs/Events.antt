-- Recorded events report only answers, and refusals that don't depend on memory.
use Rattle.std.proofs.Common.{◌≡◌, ℕ, false, ◌==◌, List, [], ◌∷◌, ◌++◌, Some, refl, ap, ◌∙◌, append-nil}
use Rattle.std.specs.Prelude.{not, cond}
use Rattle.std.proofs.lemmas.List.Elements.{filter-append}
use Rattle.ring_base.specs.Fault.{fault_number}
use Rattle.ring_base.specs.declared.fault.Fault.{Fault}
use Rattle.ring_base.specs.declared.fault.Fault.TheVariants.{NotMember, PendingFull, OpTooLong, Conflict, Stale, NumberGap, SessionsFull}
use Rattle.ring_base.specs.declared.fault.Fault.TheVariants.{Stopped, BookFull, Stranger, Memory, BadFrame, BadScript, NoAnswer, BadSnapshot}
use Rattle.ring_payload.specs.declared.call.Call.{Call}
use Rattle.ring_session.specs.declared.ticket_answer.TicketAnswer.{TicketAnswer}
use Rattle.ring_node_spec.specs.Nodes.{Node}
use Rattle.ring_node_spec.specs.Stepping.{submit_fault}
use Rattle.ring_node_spec.specs.declared.client_report.Told.{Told}
use Rattle.ring_node_spec.specs.declared.client_report.Told.TheVariants.{Answer as ToldAnswer, Refused as ToldRefused}
use Rattle.ring_node_spec.specs.Worlds.{reports_of_answers}
use Rattle.ring_world.specs.WorldView.{is_memory_refusal, told_of_events}
use Rattle.ring_world.proofs.SubmitRefused.{not_memory}

pub told_of_events-append : {A : Type 0} (xs ys : List (Told A)) → told_of_events (xs ++ ys) ≡ told_of_events xs ++ told_of_events ys
told_of_events-append {A} xs ys = filter-append (λ (t : Told A). not (is_memory_refusal t)) xs ys

other_number : (f : Fault) → (f ≡ Memory → ⊥) → (fault_number f == 11) ≡ false
other_number NotMember other = refl
other_number PendingFull other = refl
other_number OpTooLong other = refl
other_number Conflict other = refl
other_number Stale other = refl
other_number NumberGap other = refl
other_number SessionsFull other = refl
other_number Stopped other = refl
other_number BookFull other = refl
other_number Stranger other = refl
other_number Memory other = absurd (other refl)
other_number BadFrame other = refl
other_number BadScript other = refl
other_number NoAnswer other = refl
other_number BadSnapshot other = refl

told_of_events-answers : {A : Type 0} (i : ℕ) (answers : List (TicketAnswer A)) → told_of_events (reports_of_answers i answers) ≡ reports_of_answers i answers
told_of_events-answers i [] = refl
told_of_events-answers i (a ∷ rest) = ap (λ ts. ToldAnswer i a.call a.answer ∷ ts) (told_of_events-answers i rest)

told_of_events-refusal : {A : Type 0} (n : Node A) (f : Fault) (i : ℕ) (c : Call A) → submit_fault n ≡ Some f
    → told_of_events (ToldRefused i c (fault_number f) ∷ []) ≡ ToldRefused i c (fault_number f) ∷ []
told_of_events-refusal n f i c is =
    ap (λ b. cond (not b) (ToldRefused i c (fault_number f) ∷ []) []) (other_number f (not_memory n f is))

module _ {A : Type 0} (told now : List (Told A)) (h : told_of_events told ≡ now) where
  -- a step has answered
  pub tells_answers : (i : ℕ) (answers : List (TicketAnswer A)) → told_of_events (told ++ reports_of_answers i answers) ≡ now ++ reports_of_answers i answers
  tells_answers i answers =
      told_of_events-append told (reports_of_answers i answers) ∙ ap (λ ts. ts ++ told_of_events (reports_of_answers i answers)) h
      ∙ ap (λ ts. now ++ ts) (told_of_events-answers i answers)

  -- a submit was refused for a reason other than memory
  pub tells_refusal : (n : Node A) (f : Fault) (i : ℕ) (c : Call A) → submit_fault n ≡ Some f
      → told_of_events (told ++ ToldRefused i c (fault_number f) ∷ []) ≡ now ++ ToldRefused i c (fault_number f) ∷ []
  tells_refusal n f i c is =
      told_of_events-append told (ToldRefused i c (fault_number f) ∷ [])
      ∙ ap (λ ts. ts ++ told_of_events (ToldRefused i c (fault_number f) ∷ [])) h
      ∙ ap (λ ts. now ++ ts) (told_of_events-refusal n f i c is)

  -- a submit was refused memory
  pub tells_memory : (i : ℕ) (c : Call A) → told_of_events (told ++ ToldRefused i c 11 ∷ []) ≡ now
  tells_memory i c = told_of_events-append told (ToldRefused i c 11 ∷ []) ∙ append-nil (told_of_events told) ∙ h
