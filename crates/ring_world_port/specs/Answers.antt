-- The answer to a submitted call among a world's reports.
-- Rules: Clients 8
use Rattle.std.specs.Prelude.{◌≡◌, ℕ, ◌≤◌, ◌==◌, ◌&&◌, Bool, if◌then◌else◌, List, [], ◌∷◌, drop, Option, Some, None}
use Rattle.std.specs.Option.{option_or}
use Rattle.std.specs.Str.{bytes_eq}
use Rattle.ring_client.specs.Asking.{if_client_visible}
use Rattle.ring_client.specs.declared.last_request.Asked.{Asked}
use Rattle.ring_object.specs.Operations.{Sequential}
use Rattle.ring_payload.specs.declared.call.Call.{Call}
use Rattle.ring_session.specs.declared.answer.Answer.{Answer as OneAnswer}
use Rattle.ring_node_spec.specs.declared.client_report.Told.{Told}
use Rattle.ring_node_spec.specs.declared.client_report.Told.TheVariants.{Answer, Refused}
use Rattle.ring_world.specs.WorldView.{WorldView, world_of, told_of_events}
use Rattle.ring_world_port.specs.declared.submitted_call.SubmittedCall.{SubmittedCall}

-- whether this node's call is the submitted one: of this client and number, and with this operation
abbrev pub is_submitted_call : {A : Type 0} → SubmittedCall → ℕ → Call A → Bool
is_submitted_call q i c = (i == q.node) && (c.client == q.client) && (c.number == q.number) && bytes_eq c.op q.op

-- the answer, if this is an answer to the call
abbrev pub answer_of : {A : Type 0} → SubmittedCall → Told A → Option OneAnswer
answer_of q (Answer i c answer) = if is_submitted_call q i c then if_client_visible answer else None
answer_of q (Refused i c number) = None

-- the first answer to the call in the list
abbrev pub first_answer_in : {A : Type 0} → SubmittedCall → List (Told A) → Option OneAnswer
first_answer_in q [] = None
first_answer_in q (t ∷ ts) = option_or (answer_of q t) (first_answer_in q ts)

-- the call submitted last, at this node
abbrev pub submitted_call_of : ℕ → Asked → SubmittedCall
submitted_call_of i asked = record { node = i; client = asked.client; number = asked.number; op = asked.op }

-- the view of a ticket: its call, and the length of the world's `told` list at the submit
pub record TicketView : Type 0 where
  pub call : SubmittedCall
  pub submit_index : ℕ

-- the answer is the first one to the ticket's call in `told`, from some index on that is not before the submit
pub record IsToldSince {A : Type 0} (ticket : TicketView) (told : List (Told A)) (answer : OneAnswer) : Type 0 where
  pub scanned : ℕ
  pub later : ticket.submit_index ≤ scanned
  pub answered : first_answer_in ticket.call (drop scanned told) ≡ Some answer

-- the node gave the call this answer after the submit, in a run of some world
pub record HasTold (A : Type 0) {O : Type 0} (object : Sequential O) (ticket : TicketView) (answer : OneAnswer) : Type 0 where
  pub world : WorldView A
  pub run : told_of_events world.told ≡ (world_of object world).told
  pub told : IsToldSince ticket world.told answer
