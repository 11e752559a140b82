-- The fields of a copied world represent the same world.
use Rattle.std.proofs.Common.{◌≡◌, ℕ, zero, suc, List, [], ◌∷◌, length, Some, slice_get, refl, ap, ◌∙◌, sym, subst}
use Rattle.std.specs.List.{AllZip}
use Rattle.ring_base.specs.Group.{Group}
use Rattle.ring_object.specs.Operations.{Sequential}
use Rattle.ring_payload.specs.declared.call.Call.{Call}
use Rattle.ring_core_spec.specs.State.{Transmission}
use Rattle.ring_node_spec.specs.Nodes.{Node}
use Rattle.ring_node_spec.specs.declared.event.Event.{Event}
use Rattle.ring_node_spec.specs.declared.item.Item.{Item}
use Rattle.ring_node_spec.specs.declared.client_report.Told.{Told}
use Rattle.ring_node_spec.specs.Worlds.{World, world_opening, run}
use Rattle.ring_world.specs.SpareCalls.{SpareCalls, Holds}
use Rattle.ring_world.specs.WorldInvariant.{KeepsCopies, IsWorldKept, IsWorld}

-- the same copies of calls, whatever the room
abbrev pub HasSameCalls : {A : Type 0} → SpareCalls A → SpareCalls A → Type 0
HasSameCalls old new = new.calls ≡ old.calls

same_length : {A : Type 0} (xs ys : List (SpareCalls A)) → AllZip HasSameCalls xs ys → length ys ≡ length xs
same_length [] [] h = refl
same_length [] (y ∷ ys) h = absurd h
same_length (x ∷ xs) [] h = absurd h
same_length (x ∷ xs) (y ∷ ys) h = ap suc (same_length xs ys h.1)

same_at : {A : Type 0} (xs ys : List (SpareCalls A)) (i : ℕ) (x : SpareCalls A) → AllZip HasSameCalls xs ys → slice_get xs i ≡ Some x
    → (y : SpareCalls A) × (slice_get ys i ≡ Some y) × (y.calls ≡ x.calls)
same_at [] ys i x h at = absurd (cc (at))
same_at (z ∷ xs) [] i x h at = absurd h
same_at (z ∷ xs) (y ∷ ys) zero x h at = let same : z ≡ x = cc in (y, refl, h.0 ∙ ap (λ (s : SpareCalls _). s.calls) same)
same_at (z ∷ xs) (y ∷ ys) (suc i) x h at = same_at xs ys i x h.1 at

spares_too : {O A : Type 0} {object : Sequential O} {group : Group} {events : List (Event A)} {nodes : List (Node A)} {spares spares' : List (SpareCalls A)}
    {frames : List (Transmission A)} {history : List (Item A)} {told : List (Told A)} {longest : List (Call A)}
    → IsWorld object group events nodes spares frames history told longest → AllZip HasSameCalls spares spares'
    → IsWorld object group events nodes spares' frames history told longest
spares_too {object} {group} {events} {spares} {spares'} h same =
    let w = run object (world_opening group) events in
    record {
      kept = record {
        nodes_are = h.kept.nodes_are;
        many = h.kept.many;
        copies = λ i less.
            let was = h.kept.copies i less in
            let now = same_at spares spares' i was.0 same was.1 in
            (now.0, now.1, subst (λ cs. Holds cs (w.nodes (suc i)).tickets (w.nodes (suc i)).done) (sym now.2) was.2);
        copies_many = same_length spares spares' same ∙ h.kept.copies_many;
        frames_are = h.kept.frames_are;
        history_is = h.kept.history_is;
        told_is = h.kept.told_is;
        longest_is = h.kept.longest_is;
      };
      same = h.same;
      fit = h.fit;
      few = h.few;
    }

pub copied : {O A : Type 0} {object : Sequential O} {group : Group} {events events' : List (Event A)} {nodes nodes' : List (Node A)}
    {spares spares' : List (SpareCalls A)} {frames frames' : List (Transmission A)} {history history' : List (Item A)} {told told' : List (Told A)}
    {longest longest' : List (Call A)} → IsWorld object group events nodes spares frames history told longest
    → events' ≡ events → nodes' ≡ nodes → AllZip HasSameCalls spares spares' → frames' ≡ frames → history' ≡ history → told' ≡ told
    → longest' ≡ longest → IsWorld object group events' nodes' spares' frames' history' told' longest'
copied h es ns ss fs hs ts ls = rw (es, ns, fs, hs, ts, ls) (spares_too h ss)
