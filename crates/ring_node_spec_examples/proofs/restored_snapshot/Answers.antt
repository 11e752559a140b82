-- The run is computed once: one value has all its facts, and each clause is a part of that value.
use Rattle.std.proofs.Common.{◌≡◌, ℕ, List, [], ◌∷◌, length, map, Option, Some, refl, ap}
use Rattle.ring_base.specs.Processors.{elements}
use Rattle.ring_base.specs.declared.timeout_kind.Kind.TheVariants.{Join}
use Rattle.ring_core_spec.specs.Stepping.{ring_step}
use Rattle.ring_payload.specs.Operations.{op_at}
use Rattle.ring_session.specs.Snapshots.{parts_at, sessions_at, object_at, clients_at, client_at, reply_at}
use Rattle.ring_session.specs.declared.answer.Answer.{Answer}
use Rattle.ring_session.specs.declared.answer.Answer.TheVariants.{Done}
use Rattle.ring_node_spec.specs.Nodes.{node_reply, node_snapshot}
use Rattle.ring_node_spec.specs.Worlds.{committed_in}
use Rattle.ring_node_spec.specs.declared.event.Event.TheVariants.{Issue, Timeout}
use Rattle.ring_node_spec_examples.specs.ExampleRuns.{Pumped, counter, lengths_of_nodes, pumped_after_event, world_after_pairs, two_nodes_after_batches, call_of_seven, known_there, snapshot_of_seven}
use Rattle.ring_node_spec_examples.proofs.restored_snapshot.Goals as goal

-- after a call at node 3
record Asked : Type 0 where
  known : List ℕ
  reply : Option Answer

abbrev asked : Pumped → Asked
asked p = record { known = known_there p; reply = node_reply (p.world.nodes 3) 0 }

-- once node 3 has joined
record Joined : Type 0 where
  known : List ℕ
  snapshot : List ℕ
  whole : List ℕ
  next : Asked

abbrev joined : Pumped → Joined
joined p = record {
  known = known_there p;
  snapshot = node_snapshot counter (p.world.nodes 3);
  whole = map length (committed_in p.world);
  next = asked (world_after_pairs 30 (pumped_after_event p (Issue 3 (call_of_seven 257))));
}

-- while node 3 is away
record Away : Type 0 where
  lengths : List (ℕ × ℕ)
  next : Joined

abbrev away : Pumped → Away
away p = record { lengths = lengths_of_nodes p.world 3; next = joined (world_after_pairs 60 (pumped_after_event p (Timeout 3 Join))) }

computed : away (two_nodes_after_batches 4) ≡ record {
  lengths = (256, 256) ∷ (256, 256) ∷ (0, 0) ∷ [];
  next = record {
    known = 256 ∷ 256 ∷ 256 ∷ 256 ∷ 0 ∷ [];
    snapshot = snapshot_of_seven;
    whole = 256 ∷ 256 ∷ 256 ∷ [];
    next = record { known = 257 ∷ 257 ∷ 256 ∷ 256 ∷ 1 ∷ []; reply = Some (Done (256 ∷ [])) };
  };
}
unfolding ring_step elements parts_at sessions_at object_at clients_at client_at reply_at op_at
computed = refl

pub returns-clause-away : goal.returns-clause-away
returns-clause-away c = ap (λ a. a.lengths) computed

pub returns-clause-known : goal.returns-clause-known
returns-clause-known c = ap (λ a. a.next.known) computed

pub returns-clause-snapshot : goal.returns-clause-snapshot
returns-clause-snapshot c = ap (λ a. a.next.snapshot) computed

pub returns-clause-whole : goal.returns-clause-whole
returns-clause-whole c = ap (λ a. a.next.whole) computed

pub returns-clause-on : goal.returns-clause-on
returns-clause-on c = ap (λ a. a.next.next.known) computed

pub returns-clause-reply : goal.returns-clause-reply
returns-clause-reply c = ap (λ a. a.next.next.reply) computed
