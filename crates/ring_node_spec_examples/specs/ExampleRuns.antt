-- Worked runs of worlds of nodes.
-- They are: a call in a ring of one; nine calls in one Pack; a call in a ring of three; enough calls that their places are
-- dropped; and a node that restores a snapshot.
-- Rules: The replicated log 2 to 14 and 20
use Rattle.std.specs.Prelude.{ℕ, zero, suc, ◌+◌, ◌*◌, ◌-◌, nat_lt, Bool, if◌then◌else◌, List, [], ◌∷◌, ◌++◌, length, map, drop, replicate, Option, Some}
use Rattle.std.specs.declared.alloc.Global.{Global}
use Rattle.ring_base.specs.Numbers.{numbers_from}
use Rattle.ring_base.specs.declared.timeout_kind.Kind.TheVariants.{Join, Consensus}
use Rattle.ring_object.specs.Operations.{Sequential}
use Rattle.ring_payload.specs.declared.call.Call.{Call}
use Rattle.ring_session.specs.declared.answer.Answer.{Answer}
use Rattle.ring_session.specs.declared.answer.Answer.TheVariants.{Done, Kept}
use Rattle.ring_node_spec.specs.Nodes.{Node, node_known_log, node_length, node_trimmed}
use Rattle.ring_node_spec.specs.declared.event.Event.{Event}
use Rattle.ring_node_spec.specs.declared.event.Event.TheVariants.{Issue, Deliver, Timeout, Stop}
use Rattle.ring_node_spec.specs.declared.client_report.Told.{Told}
use Rattle.ring_node_spec.specs.declared.client_report.Told.TheVariants.{Answer as ToldAnswer, Refused as ToldRefused}
use Rattle.ring_core_spec.specs.State.{receiver_pairs}
use Rattle.ring_node_spec.specs.Worlds.{World, world_opening, world_after_event, run}

-- a count encoded as a list with this number of ones, and decoded by its length
abbrev pub counting_object_state : List ℕ → Option ℕ
counting_object_state bytes = Some (length bytes)

-- an object that counts its operations, and replies the count before
abbrev pub counter : Sequential ℕ
counter = record { initial = 0; reply = λ count op. count ∷ []; next = λ count op. suc count; snapshot_of = λ count. replicate count 1; restored = counting_object_state }

-- client 7's call with this number
abbrev pub call_of_seven : ℕ → Call Global
call_of_seven number = record { client = 7; number = number; op = 1 ∷ 1 ∷ [] }

-- a world of n nodes with one vote each
abbrev pub world_of : ℕ → World Global
world_of n = world_opening (record { count = n; votes = replicate n 1 })

-- the committed length and the length of node i's log
abbrev pub lengths_of_node : World Global → ℕ → ℕ × ℕ
lengths_of_node w i = ((node_known_log (w.nodes i)).committed, node_length (w.nodes i))

-- these lengths of nodes 1 to n
abbrev pub lengths_of_nodes : World Global → ℕ → List (ℕ × ℕ)
lengths_of_nodes w n = map (lengths_of_node w) (numbers_from 1 n)

-- node i answers client 7's call of this number: done, with the count before
abbrev pub done_at : ℕ → ℕ → Told Global
done_at i number = ToldAnswer i (call_of_seven number) (Done ((number - 1) ∷ []))

-- node i answers client 7's call of this number: done before, with the reply kept
abbrev pub kept_at : ℕ → ℕ → Told Global
kept_at i number = ToldAnswer i (call_of_seven number) (Kept ((number - 1) ∷ []))

-- A ring of one

-- the events that form a ring of one
abbrev pub formed_one : List (Event Global)
formed_one = Timeout 1 Join ∷ Deliver 1 1 ∷ Deliver 1 2 ∷ Deliver 1 3 ∷ Deliver 1 4 ∷ []

-- the world after a call was sent at a visit; it is safe at the next one
abbrev pub sent_one : World Global
sent_one = run counter (world_of 1) (formed_one ++ Issue 1 (call_of_seven 1) ∷ Deliver 1 5 ∷ [])

-- the world after that call is answered
abbrev pub answered_one : World Global
answered_one = run counter sent_one (Deliver 1 6 ∷ [])

-- the world after the same call was submitted again
abbrev pub sent_again : World Global
sent_again = run counter answered_one (Issue 1 (call_of_seven 1) ∷ Deliver 1 7 ∷ [])

-- the world after the call is answered again
abbrev pub answered_again : World Global
answered_again = run counter sent_again (Deliver 1 8 ∷ [])

-- the world after nine calls were sent at one visit, as one Pack
abbrev pub sent_nine : World Global
sent_nine = run counter (world_of 1) (formed_one ++ map (λ k. Issue 1 (call_of_seven k)) (numbers_from 1 9) ++ Deliver 1 5 ∷ [])

-- the world after the nine calls are answered
abbrev pub answered_nine : World Global
answered_nine = run counter sent_nine (Deliver 1 6 ∷ [])

-- the answers by ticket; each has the count before its call
abbrev pub nine_answers : List (ℕ × Answer)
nine_answers = map (λ k. (k, Done (k ∷ []))) (numbers_from 0 9)

-- Frames delivered in the order in which they were sent, receiver by receiver

-- the pairs of frame and receiver of all frames after the first `count`
abbrev pub pairs_after : ℕ → World Global → List (ℕ × ℕ)
pairs_after count w = receiver_pairs (suc count) (drop count w.frames)

-- a world with the deliveries still to do: pairs of frame and receiver, oldest first
pub record Pumped : Type 0 where
  pub world : World Global
  pub pairs : List (ℕ × ℕ)

-- a world with the pairs of its new frames added; `count` frames were there before
abbrev pub with_new : List (ℕ × ℕ) → ℕ → World Global → Pumped
with_new pairs count w = record { world = w; pairs = pairs ++ pairs_after count w }

-- a world after an event
abbrev pub pumped_after_event : Pumped → Event Global → Pumped
pumped_after_event p e = with_new p.pairs (length p.world.frames) (world_after_event counter p.world e)

-- a world after the first pair was delivered
abbrev pub world_after_first_pair : World Global → List (ℕ × ℕ) → Pumped
world_after_first_pair w [] = record { world = w; pairs = [] }
world_after_first_pair w (p ∷ pairs) = pumped_after_event (record { world = w; pairs = pairs }) (Deliver p.1 p.0)

-- a world after `k` deliveries
abbrev pub world_after_pairs : ℕ → Pumped → Pumped
world_after_pairs zero p = p
world_after_pairs (suc k) p = world_after_pairs k (world_after_first_pair p.world p.pairs)

-- A ring of three: each node sends a join, then the token circulates; a call is submitted at node 2

-- the world once the ring is formed
abbrev pub settled : Pumped
settled = world_after_pairs 100 (pumped_after_event (pumped_after_event (pumped_after_event (record { world = world_of 3; pairs = [] }) (Timeout 1 Join)) (Timeout 2 Join)) (Timeout 3 Join))

-- the world after the call
abbrev pub answered_three : World Global
answered_three = (world_after_pairs 100 (pumped_after_event settled (Issue 2 (call_of_seven 1)))).world

-- Dropped places: four batches of 64 calls in a ring of one, each batch sent at one visit and safe at the next

-- batch k of client 7's calls, 64 of them, submitted at node i
abbrev pub calls_of_lot : ℕ → ℕ → List (Event Global)
calls_of_lot i k = map (λ n. Issue i (call_of_seven n)) (numbers_from (64 * k + 1) 64)

-- batch k, and the delivery of two frames
abbrev pub batch_of_calls : ℕ → List (Event Global)
batch_of_calls k = calls_of_lot 1 k ++ Deliver 1 (2 * k + 5) ∷ Deliver 1 (2 * k + 6) ∷ []

-- the world after `k` batches
abbrev pub after_lots : ℕ → World Global
after_lots zero = run counter (world_of 1) formed_one
after_lots (suc k) = run counter (after_lots k) (batch_of_calls k)

-- the snapshot of the session table then: client 7's last call, the 256th, and its reply; and the object's snapshot
abbrev pub snapshot_of_seven : List ℕ
snapshot_of_seven =
    0 ∷ 1 ∷
    (0 ∷ 0 ∷ 0 ∷ 7 ∷ []) ++ (0 ∷ 0 ∷ 0 ∷ 0 ∷ 0 ∷ 0 ∷ 1 ∷ 0 ∷ []) ++ (0 ∷ 2 ∷ 1 ∷ 1 ∷ []) ++ (1 ∷ 255 ∷ [])
    ++ (0 ∷ 0 ∷ 0 ∷ 0 ∷ 0 ∷ 0 ∷ 1 ∷ 0 ∷ []) ++ replicate 256 1

-- A restored snapshot: nodes 1 and 2 form a ring without node 3, and commit 256 calls; then node 3 joins

-- the receiver isn't node 3
abbrev pub isnt_receiver_three : ℕ × ℕ → Bool
isnt_receiver_three p = nat_lt p.1 3

-- a world after the first pair was delivered, or dropped if its receiver is node 3
abbrev pub world_after_pair_without_three : World Global → List (ℕ × ℕ) → Pumped
world_after_pair_without_three w [] = record { world = w; pairs = [] }
world_after_pair_without_three w (p ∷ pairs) = if isnt_receiver_three p then pumped_after_event (record { world = w; pairs = pairs }) (Deliver p.1 p.0) else record { world = w; pairs = pairs }

-- a world after `k` such deliveries
abbrev pub world_after_pairs_without_three : ℕ → Pumped → Pumped
world_after_pairs_without_three zero p = p
world_after_pairs_without_three (suc k) p = world_after_pairs_without_three k (world_after_pair_without_three p.world p.pairs)

-- a world after events, in their order
abbrev pub all_on : Pumped → List (Event Global) → Pumped
all_on p [] = p
all_on p (e ∷ events) = all_on (pumped_after_event p e) events

-- the world after both sent a join and then gave up node 3
abbrev pub two_formed : Pumped
two_formed =
    let joined = world_after_pairs_without_three 20 (pumped_after_event (pumped_after_event (record { world = world_of 3; pairs = [] }) (Timeout 1 Join)) (Timeout 2 Join)) in
    world_after_pairs_without_three 60 (pumped_after_event (pumped_after_event joined (Timeout 1 Consensus)) (Timeout 2 Consensus))

-- the world after `k` batches in that ring
abbrev pub two_nodes_after_batches : ℕ → Pumped
two_nodes_after_batches zero = two_formed
two_nodes_after_batches (suc k) = world_after_pairs_without_three 24 (all_on (two_nodes_after_batches k) (calls_of_lot 1 k))

-- the world after node 3 sent a join, and `k` deliveries
abbrev pub joined_after : ℕ → Pumped
joined_after k = world_after_pairs k (pumped_after_event (two_nodes_after_batches 4) (Timeout 3 Join))

-- the world after a call was submitted there, and `k` deliveries
abbrev pub asked_after : ℕ → Pumped
asked_after k = world_after_pairs k (pumped_after_event (joined_after 60) (Issue 3 (call_of_seven 257)))

-- a node's committed length, the length of its log, the first known place, the trimmed length, and the number of calls done
abbrev pub known_of : Node Global → List ℕ
known_of n = (node_known_log n).committed ∷ node_length n ∷ (node_known_log n).from ∷ node_trimmed n ∷ length n.done ∷ []

-- these numbers of node 3
abbrev pub known_there : Pumped → List ℕ
known_there p = known_of (p.world.nodes 3)

-- Refused submits, and events that change nothing

-- node i refuses client 7's call of this number, with the fault of this number
abbrev pub refused_at : ℕ → ℕ → ℕ → Told Global
refused_at i number fault = ToldRefused i (call_of_seven number) fault

-- the world after one ticket more than a node may have unanswered
abbrev pub one_too_many : World Global
one_too_many = run counter (world_of 1) (map (λ k. Issue 1 (call_of_seven k)) (numbers_from 1 65))

-- the world after a submit at a stopped node
abbrev pub late_submit : World Global
late_submit = run counter (world_of 1) (Stop 1 ∷ Issue 1 (call_of_seven 1) ∷ [])

-- that world after a timeout of the node
abbrev pub late_timeout : World Global
late_timeout = run counter late_submit (Timeout 1 Join ∷ [])

-- the world after each event at an unknown node, and a delivery of a frame that wasn't sent
abbrev pub strange_events : World Global
strange_events =
    run counter (world_of 1) (Deliver 2 1 ∷ Timeout 2 Join ∷ Stop 2 ∷ Issue 2 (call_of_seven 1) ∷ Deliver 1 0 ∷ Deliver 1 1 ∷ [])
