-- The calls that a node did itself, and the answers that it gave, compared with its committed places.
-- Rules: The replicated log 14, 15 and 18
use Rattle.std.specs.Prelude.{◌≡◌, List, [], ◌∷◌, ◌++◌, fold}
use Rattle.ring_object.specs.Operations.{Sequential}
use Rattle.ring_payload.specs.declared.call.Call.{Call}
use Rattle.ring_session.specs.Table.{Table, opening, table_next}
use Rattle.ring_session.specs.Tickets.{TicketCall, answers_after}
use Rattle.ring_session.specs.declared.ticket_answer.TicketAnswer.{TicketAnswer}
use Rattle.ring_node_spec.specs.Nodes.{Node, node_known_log}

-- consecutive committed places: those that the node has from a restored snapshot, perhaps none, and those after them whose calls
-- it did
pub record Span (A : Type 0) : Type 0 where
  pub restored : List (Call A)
  pub did : List (Call A)

-- all places of these spans, in order
abbrev pub places_in : {A : Type 0} → List (Span A) → List (Call A)
places_in [] = []
places_in (s ∷ rest) = (s.restored ++ s.did) ++ places_in rest

-- the calls of these spans that the node did, in order
abbrev pub done_in : {A : Type 0} → List (Span A) → List (Call A)
done_in [] = []
done_in (s ∷ rest) = s.did ++ done_in rest

module _ {O A : Type 0} (object : Sequential O) where
  -- the answers to tickets as the node does the calls of these spans after `done`. Each is the session table's, from the table
  -- after all places before the call's in the list, restored ones included.
  abbrev pub answers_in : Table O → List (TicketCall A) → List (Call A) → List (Span A) → List (TicketAnswer A)
  answers_in table tickets done [] = []
  answers_in table tickets done (s ∷ rest) =
      answers_after object (fold (table_next object) table s.restored) tickets done s.did
      ++ answers_in (fold (table_next object) table (s.restored ++ s.did)) tickets (done ++ s.did) rest

  -- the node's calls among its committed places, and all answers that it gave.
  -- A ticket is answered once: at the first of the calls done since it was given that equals its call.
  pub record HasDone (n : Node A) (committed : List (Call A)) : Type 0 where
    pub spans : List (Span A)
    pub places : places_in spans ≡ committed
    pub done : done_in spans ≡ n.done
    pub answers : answers_in (opening object.initial) n.tickets [] spans ≡ n.answers
    -- a node that restored nothing did all of them
    pub all : (node_known_log n).from ≡ 0 → n.done ≡ committed
