-- A queue is still a queue after a push and after a pop.
use Rattle.std.proofs.Common.{◌≡◌, ℕ, ◌^◌, ◌<◌, ◌==◌, List, [], ◌∷◌, ◌++◌, length, drop, Some, refl, ap, ◌∙◌, subst, arith}
use Rattle.std.proofs.lemmas.Bool.{cond-false, ne_eqb}
use Rattle.std.proofs.lemmas.List.{length-append, drop_at}
use Rattle.std.proofs.lemmas.List.Elements.{All-drop}
use Rattle.ring_object.specs.Bytes.{AreBytes}
use Rattle.ring_things.specs.Numbers.{AreNumbers}
use Rattle.ring_things.specs.Queue.{max_queue_values, IsQueue, decoding, after}
use Rattle.ring_things.specs.QueueLaws.{next_kept}
use Rattle.ring_things.specs.declared.queue.QueueOperation.TheVariants.{Push}

pub pushed : (items op : List ℕ) (value : ℕ) → AreBytes op → decoding op ≡ Some (Push value) → (length items ≡ max_queue_values → ⊥)
    → IsQueue items → IsQueue (items ++ value ∷ [])
pushed items op value are asked room is =
    let kept : IsQueue (after items (Some (Push value))) = subst (λ a. IsQueue (after items a)) asked (next_kept items op are is) in
    subst IsQueue (cond-false (length items == max_queue_values) items (items ++ value ∷ []) (ne_eqb _ _ room)) kept

pub popped : (front rest items : List ℕ) → items ≡ front ++ rest → IsQueue items → IsQueue rest
popped front rest items is queue = record {
  few = omega (arith, ap length is, length-append front rest, queue.few);
  numbers = subst (AreNumbers 8) (ap (drop (length front)) is ∙ drop_at front rest (length front) refl)
      (All-drop (λ number. number < 256 ^ 8) (length front) items queue.numbers);
}
