-- The run is computed once: one value has all its facts, and each clause is a part of that value.
use Rattle.std.proofs.Common.{◌≡◌, ℕ, List, [], ◌∷◌, refl, ap}
use Rattle.std.specs.declared.alloc.Global.{Global}
use Rattle.ring_base.specs.Processors.{elements}
use Rattle.ring_core_spec.specs.Stepping.{ring_step}
use Rattle.ring_payload.specs.declared.call.Call.{Call}
use Rattle.ring_session.specs.declared.ticket_answer.TicketAnswer.{TicketAnswer}
use Rattle.ring_node_spec.specs.Worlds.{World, order}
use Rattle.ring_node_spec.specs.declared.client_report.Told.{Told}
use Rattle.ring_node_spec_examples.specs.ExampleRuns.{lengths_of_nodes, answered_three, done_at, call_of_seven}
use Rattle.ring_node_spec_examples.proofs.ring_of_three.Goals as goal

record Seen : Type 0 where
  lengths : List (ℕ × ℕ)
  told : List (Told Global)
  done : List (Call Global)
  answers : List (TicketAnswer Global)
  ordered : List (Call Global)

abbrev seen : World Global → Seen
seen w = record { lengths = lengths_of_nodes w 3; told = w.told; done = (w.nodes 3).done; answers = (w.nodes 3).answers; ordered = order w }

computed : seen answered_three ≡ record {
  lengths = (1, 1) ∷ (1, 1) ∷ (1, 1) ∷ [];
  told = done_at 2 1 ∷ [];
  done = call_of_seven 1 ∷ [];
  answers = [];
  ordered = call_of_seven 1 ∷ [];
}
unfolding ring_step elements
computed = refl

pub returns-clause-shown : goal.returns-clause-shown
returns-clause-shown c = ap (λ s. s.lengths) computed

pub returns-clause-told : goal.returns-clause-told
returns-clause-told c = ap (λ s. s.told) computed

pub returns-clause-ordered : goal.returns-clause-ordered
returns-clause-ordered c = ap (λ s. s.ordered) computed

pub returns-clause-done : goal.returns-clause-done
returns-clause-done c = ap (λ s. s.done) computed

pub returns-clause-answers : goal.returns-clause-answers
returns-clause-answers c = ap (λ s. s.answers) computed
