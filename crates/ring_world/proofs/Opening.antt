-- The opening world: its nodes are at their opening, and no ticket waits for an answer.
use Rattle.std.proofs.Common.{◌≡◌, ℕ, zero, suc, ◌+◌, ◌<◌, ◌≤◌, List, [], ◌∷◌, map, length, Some, slice_get, refl, ap, ◌∙◌, arith}
use Rattle.std.proofs.lemmas.List.{length-map}
use Rattle.std.specs.List.{AllByRecursion}
use Rattle.ring_base.specs.Group.{Group}
use Rattle.ring_base.specs.Numbers.{numbers_from}
use Rattle.ring_base.specs.FilteredRanges.{length-numbers_from}
use Rattle.ring_base.proofs.ListPlaces.{get-numbers}
use Rattle.ring_object.specs.Operations.{Sequential}
use Rattle.ring_payload.specs.declared.call.Call.{Call}
use Rattle.ring_core_spec.specs.State.{Transmission}
use Rattle.ring_node_spec.specs.Nodes.{Node, node_opening}
use Rattle.ring_node_spec.specs.declared.event.Event.{Event}
use Rattle.ring_node_spec.specs.declared.item.Item.{Item}
use Rattle.ring_node_spec.specs.declared.client_report.Told.{Told}
use Rattle.ring_world.specs.SpareCalls.{SpareCalls, Holds}
use Rattle.ring_world.specs.WorldInvariant.{KeepsCopies, IsWorld}

none_asked : {A : Type 0} (done : List (Call A)) (s : SpareCalls A) → s.calls ≡ [] → Holds s.calls [] done
none_asked done s none = record { many = ap length none; each = λ k t asked. absurd (let q : ⊥ = cc asked in q) }

copies_at : {A : Type 0} (group : Group) (f : ℕ → ℕ) (xs : List (SpareCalls A)) (i : ℕ) → i < length xs → AllByRecursion (λ (s : SpareCalls A). s.calls ≡ []) xs →
    (s : SpareCalls A) × (slice_get xs i ≡ Some s) × KeepsCopies (node_opening group (f i)) s
copies_at group f [] i l none = absurd (omega (arith, l))
copies_at {A} group f (s ∷ xs) zero l none = (let n : Node A = node_opening group (f zero) in (s, refl, none_asked n.done s none.0))
copies_at group f (s ∷ xs) (suc i) l none = copies_at group (λ j. f (suc j)) xs i (omega (arith, l)) none.1

opens_at : {O A : Type 0} (object : Sequential O) (group : Group) (spares : List (SpareCalls A)) → length spares ≡ group.count →
    AllByRecursion (λ (s : SpareCalls A). s.calls ≡ []) spares → group.count ≤ 16 →
    IsWorld object group [] (map (node_opening group) (numbers_from 1 group.count)) spares [] [] [] []
opens_at {A} object group spares many none few =
    let f : ℕ → Node A = node_opening group in
    record {
      kept = record {
        nodes_are = λ i l. get-numbers f 1 group.count i l ∙ ap (λ k. Some (f k)) (let e : 1 + i ≡ suc i = omega arith in e);
        many = length-map (numbers_from 1 group.count) f ∙ length-numbers_from 1 group.count;
        copies = λ i l. copies_at group suc spares i (omega (arith, l, many)) none;
        copies_many = many;
        frames_are = refl;
        history_is = refl;
        told_is = refl;
        longest_is = refl;
      };
      same = refl;
      fit = tt;
      few = few;
    }

pub opens : {O A : Type 0} (object : Sequential O) (group : Group) (events : List (Event A)) (nodes : List (Node A)) (spares : List (SpareCalls A))
    (frames : List (Transmission A)) (history : List (Item A)) (told : List (Told A)) (longest : List (Call A)) (count : ℕ) → count ≡ group.count
    → count ≤ 16 → events ≡ [] → nodes ≡ map (node_opening group) (numbers_from 1 count) → length spares ≡ count
    → AllByRecursion (λ (s : SpareCalls A). s.calls ≡ []) spares → frames ≡ []
    → history ≡ [] → told ≡ [] → longest ≡ [] → IsWorld object group events nodes spares frames history told longest
opens object group events nodes spares frames history told longest count is few a b c d e f t l =
    let all = b ∙ ap (λ n. map (node_opening group) (numbers_from 1 n)) is in
    rw (a, all, e, f, t, l) (opens_at object group spares (c ∙ is) d (omega (arith, is, few)))
