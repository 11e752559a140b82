-- The run is computed once: one value has all its facts, and each clause is a part of that value.
use Rattle.std.proofs.Common.{◌≡◌, ℕ, List, [], ◌∷◌, length, drop, refl, ap}
use Rattle.std.specs.declared.alloc.Global.{Global}
use Rattle.ring_base.specs.Processors.{elements}
use Rattle.ring_core_spec.specs.Stepping.{ring_step}
use Rattle.ring_payload.specs.declared.call.Call.{Call}
use Rattle.ring_session.specs.Tickets.{TicketCall}
use Rattle.ring_node_spec.specs.Nodes.{node_committed, node_pending, node_snapshot, node_trimmed}
use Rattle.ring_node_spec.specs.Worlds.{World, run, order}
use Rattle.ring_node_spec.specs.declared.client_report.Told.{Told}
use Rattle.ring_node_spec_examples.specs.ExampleRuns.{counter, lengths_of_nodes, done_at, batch_of_calls, after_lots, snapshot_of_seven}
use Rattle.ring_node_spec_examples.proofs.example_dropped_places.Goals as goal

-- after the fourth batch
record Fourth : Type 0 where
  lengths : List (ℕ × ℕ)
  trimmed : ℕ
  committed : List (Call Global)
  snapshot : List ℕ
  pending : List (TicketCall Global)
  ordered : ℕ

abbrev fourth : World Global → Fourth
fourth w = record {
  lengths = lengths_of_nodes w 1;
  trimmed = node_trimmed (w.nodes 1);
  committed = node_committed (w.nodes 1);
  snapshot = node_snapshot counter (w.nodes 1);
  pending = node_pending (w.nodes 1);
  ordered = length (order w);
}

-- after the third batch
record Third : Type 0 where
  lengths : List (ℕ × ℕ)
  trimmed : ℕ
  on : Fourth

abbrev third : World Global → Third
third w = record { lengths = lengths_of_nodes w 1; trimmed = node_trimmed (w.nodes 1); on = fourth (run counter w (batch_of_calls 3)) }

-- after the first batch
record First : Type 0 where
  told : List (Told Global)
  on : Third

abbrev first : World Global → First
first w = record { told = drop 63 w.told; on = third (run counter (run counter w (batch_of_calls 1)) (batch_of_calls 2)) }

computed : first (after_lots 1) ≡ record {
  told = done_at 1 64 ∷ [];
  on = record {
    lengths = (192, 192) ∷ [];
    trimmed = 0;
    on = record { lengths = (256, 256) ∷ []; trimmed = 256; committed = []; snapshot = snapshot_of_seven; pending = []; ordered = 256 };
  };
}
unfolding ring_step elements
computed = refl

pub returns-clause-before : goal.returns-clause-before
returns-clause-before c = ap (λ l. l.on.lengths) computed

pub returns-clause-kept : goal.returns-clause-kept
returns-clause-kept c = ap (λ l. l.on.trimmed) computed

pub returns-clause-after : goal.returns-clause-after
returns-clause-after c = ap (λ l. l.on.on.lengths) computed

pub returns-clause-dropped : goal.returns-clause-dropped
returns-clause-dropped c = ap (λ l. l.on.on.trimmed) computed

pub returns-clause-undropped : goal.returns-clause-undropped
returns-clause-undropped c = ap (λ l. l.on.on.committed) computed

pub returns-clause-snapshot : goal.returns-clause-snapshot
returns-clause-snapshot c = ap (λ l. l.on.on.snapshot) computed

pub returns-clause-waiting : goal.returns-clause-waiting
returns-clause-waiting c = ap (λ l. l.on.on.pending) computed

pub returns-clause-told : goal.returns-clause-told
returns-clause-told c = ap (λ l. l.told) computed

pub returns-clause-ordered : goal.returns-clause-ordered
returns-clause-ordered c = ap (λ l. l.on.on.ordered) computed
