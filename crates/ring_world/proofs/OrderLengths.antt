-- The length of the order is the greatest number of calls that took effect at one node.
use Rattle.std.proofs.Common.{◌≡◌, ℕ, suc, ◌+◌, ◌<◌, ◌≤◌, max, List, [], ◌∷◌, map, length, Some, slice_get, refl, ap, ◌∙◌, sym, arith}
use Rattle.ring_base.specs.Numbers.{greatest, numbers_from}
use Rattle.ring_object.specs.Operations.{Sequential}
use Rattle.ring_payload.specs.declared.call.Call.{Call}
use Rattle.ring_core_spec.specs.State.{Transmission}
use Rattle.ring_log.specs.EpochHistories.{committed_of}
use Rattle.ring_log.proofs.LongerLists.{length-longer_list}
use Rattle.ring_node_spec.specs.Nodes.{Node}
use Rattle.ring_node_spec.specs.declared.item.Item.{Item}
use Rattle.ring_node_spec.specs.declared.client_report.Told.{Told}
use Rattle.ring_node_spec.specs.Orders.{order_of}
use Rattle.ring_node_spec.specs.Worlds.{World, whole_epochs_in, order}
use Rattle.ring_session.specs.Deduplicated.{deduplicated}
use Rattle.ring_world.specs.WorldInvariant.{IsWorldKept}
use Rattle.ring_world.specs.Ordering.{effects_of, effects_of_nodes}
use Rattle.ring_world.specs.SpareCalls.{SpareCalls}

-- the longest deduplicated list of these lists
length-order : {A : Type 0} (f : ℕ → List (Call A)) (numbers : List ℕ)
    → length (order_of (map f numbers)) ≡ greatest (map (λ i. length (deduplicated (f i))) numbers)
length-order f [] = refl
length-order f (i ∷ numbers) =
    length-longer_list (deduplicated (f i)) (order_of (map f numbers)) ∙ ap (max (length (deduplicated (f i)))) (length-order f numbers)

-- the element at each index is that of its number
numbered : {X Y : Type 0} (g : X → Y) (h : ℕ → Y) (xs : List X) (first : ℕ)
    → ((i j : ℕ) (x : X) → i < length xs → j ≡ first + i → slice_get xs i ≡ Some x → g x ≡ h j) → map g xs ≡ map h (numbers_from first (length xs))
numbered g h [] first same = refl
numbered g h (x ∷ xs) first same =
    ap (λ y. y ∷ map g xs) (same 0 first x (omega arith) (omega arith) refl)
    ∙ ap (λ ys. h first ∷ ys) (numbered g h xs (suc first) (λ i j y l q at. same (suc i) j y (omega (arith, l)) (omega (arith, q)) at))

pub order-length : {O A : Type 0} (object : Sequential O) (w : World A) (nodes : List (Node A)) (spares : List (SpareCalls A)) (frames : List (Transmission A))
    (history : List (Item A)) (told : List (Told A)) (longest : List (Call A)) → IsWorldKept w nodes spares frames history told longest
    → ((i : ℕ) → 1 ≤ i → i ≤ w.group.count → effects_of object (w.nodes i) ≡ length (deduplicated (committed_of w.group (whole_epochs_in w i))))
    → greatest (effects_of_nodes object nodes) ≡ length (order w)
order-length {A = A} object w nodes spares frames history told longest kept effects =
    let committed : ℕ → List (Call A) = λ i. committed_of w.group (whole_epochs_in w i) in
    let own : map (λ (n : Node A). effects_of object n) nodes ≡ map (λ i. length (deduplicated (committed i))) (numbers_from 1 (length nodes)) =
    numbered (λ (n : Node A). effects_of object n) (λ i. length (deduplicated (committed i))) nodes 1 (λ i j n l q at.
    let many = kept.many in
    let next : suc i ≡ j = omega (arith, q) in
    let same : n ≡ w.nodes j = cc (at, kept.nodes_are i (omega (arith, l, many)), next) in
    ap (λ (x : Node A). effects_of object x) same ∙ effects j (omega (arith, q)) (omega (arith, l, q, many))) in
    ap greatest own ∙ sym (length-order committed (numbers_from 1 (length nodes))) ∙ ap (λ n. length (order_of (map committed (numbers_from 1 n)))) kept.many
